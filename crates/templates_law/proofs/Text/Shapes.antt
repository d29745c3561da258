-- What the statements of an instruction are, whichever instruction and style it is: some that run, one that is jumped over, or one
-- short jump.
use Rattle.std.proofs.Common.{◌≡◌, ℕ, ◌≤◌, ◌<◌, List, [], ◌∷◌, refl, sym, subst, arith, Bool, false, true, cond, ◌&&◌}
use Rattle.std.specs.Prelude.{nat_lt}
use Rattle.std.proofs.lemmas.Bool.{true≢false, false≢true, lt-ltb}
use Rattle.i80.specs.declared.Src.TheVariants.{Reg, Mem}
use Rattle.i80.specs.declared.StackPair.TheVariants.{B as StackB, D as StackD, H as StackH, Psw}
use Rattle.i80.specs.declared.Word.TheVariants.{Num, Code}
use Rattle.i80.specs.declared.Goal.{Goal}
use Rattle.i80.specs.declared.Goal.TheVariants.{At, Boot, Bdos}
use Rattle.i80.specs.declared.Instr80.{Instr80}
use Rattle.i80.specs.declared.Instr80.TheVariants.{Mov, Mvi, Lxi, Lda, Sta, Lhld, Shld, Ldax, Stax, Xthl, AluI, Inx, Dcx, Dad, Push, Pop, Jmp, Jif, Call, Cif, Rif, Rst0, In, Out}
use Rattle.i86.specs.declared.Reg16.{Reg16}
use Rattle.i86.specs.declared.Jump.{Jump}
use Rattle.i86.specs.declared.Instr86.{Instr86}
use Rattle.i86.specs.declared.Instr86.TheVariants.{Int224}
use Rattle.asm86_line_types.specs.declared.line.Label.{Label}
use Rattle.asm86_line_types.specs.declared.line.Label.TheVariants.{At as Line, Skip, Sys}
use Rattle.asm86_line_types.specs.declared.line.Stmt86.{Stmt86}
use Rattle.asm86_line_types.specs.declared.line.Stmt86.TheVariants.{Mark, Run, MovOffset, Jmp as JmpTo, Jcc, Call as CallTo}
use Rattle.asm86_line_types.specs.Layout.{size_of, marks, same_label}
use Rattle.asm86_line_types.proofs.Statements.{Each, MarksNot}
use Rattle.asm86_line_reader.specs.ReadBack.{instr_fits}
use Rattle.asm80_types.specs.declared.program.Placed.{Placed}
use Rattle.asm80_types.specs.Program.{IsCoded}
use Rattle.templates.specs.Template.{label_of_goal, unless, template}
use Rattle.templates.specs.Style.{Style, jump_if, ends_by_sahf, begins_by_lahf, without_first_if, without_last_if, written_as}
use Rattle.templates_law.proofs.Text.Statements.{each-first, each-last, each-map}

-- the places that an instruction names are all of a kind
abbrev pub Names : (Goal → Type 0) → Instr80 → Type 0
Names G (Lxi q (Code a)) = G (At a)
Names G (Jmp g) = G g
Names G (Jif c g) = G g
Names G (Call g) = G g
Names G (Cif c g) = G g
Names G Rst0 = G Boot
Names G i = Unit {0}

pub names_map : (G H : Goal → Type 0) → ((g : Goal) → G g → H g) → (i : Instr80) → Names G i → Names H i
names_map G H f (Lxi q (Num w)) h = tt
names_map G H f (Lxi q (Code a)) h = f (At a) h
names_map G H f (Jmp g) h = f g h
names_map G H f (Jif c g) h = f g h
names_map G H f (Call g) h = f g h
names_map G H f (Cif c g) h = f g h
names_map G H f Rst0 h = f Boot h
names_map G H f i h = tt

-- a statement that is no label and no short jump, whose numbers are in their ranges, and that names a place of a kind at most
pub data IsStep (G : Goal → Type 0) : Stmt86 → Type 0 where
  runs : (i : Instr86) → instr_fits i ≡ true → IsStep G (Run i)
  loads : (r : Reg16) (a : ℕ) → G (At a) → IsStep G (MovOffset r (Line a))
  jumps : (g : Goal) → G g → IsStep G (JmpTo (label_of_goal g))
  calls : (g : Goal) → G g → IsStep G (CallTo (label_of_goal g))

abbrev pub AreSteps : (Goal → Type 0) → List Stmt86 → Type 0
AreSteps G xs = Each (IsStep G) xs

-- steps one after the other; one short step that a conditional jump leads past; or a conditional jump to a place
pub data HasShape (G : Goal → Type 0) (at : ℕ) : List Stmt86 → Type 0 where
  straight : (xs : List Stmt86) → AreSteps G xs → HasShape G at xs
  past : (j : Jump) (x : Stmt86) → IsStep G x → size_of x ≤ 3 → HasShape G at (Jcc j (Skip at) ∷ (x ∷ (Mark (Skip at) ∷ [])))
  short : (j : Jump) (g : Goal) → G g → HasShape G at (Jcc j (label_of_goal g) ∷ [])

-- ---- templates

pub word_fits : (w : ℕ) → w < 65536 → nat_lt w 65536 ≡ true
word_fits w lt = lt-ltb w 65536 lt

pub byte_fits : (n : ℕ) → n < 256 → nat_lt n 256 ≡ true
byte_fits n lt = lt-ltb n 256 lt

-- an instruction that is jumped over where its condition does not hold
abbrev is_conditional : Instr80 → Bool
is_conditional (Jif c g) = true
is_conditional (Cif c g) = true
is_conditional (Rif c) = true
is_conditional i = false

template_steps : (G : Goal → Type 0) (i : Instr80) (at : ℕ) (save : Bool) → is_conditional i ≡ false → IsCoded i → Names G i → AreSteps G (template i at save)
template_steps G (Mov (Reg r) s) at save kind c h = (runs _ refl, tt)
template_steps G (Mov Mem (Reg r)) at save kind c h = (runs _ refl, tt)
template_steps G (Mov Mem Mem) at save kind c h = tt
template_steps G (Mvi (Reg r) n) at save kind c h = (runs _ (byte_fits n c), tt)
template_steps G (Mvi Mem n) at save kind c h = (runs _ (byte_fits n c), tt)
template_steps G (Lxi q (Num w)) at save kind c h = (runs _ (word_fits w c), tt)
template_steps G (Lxi q (Code a)) at save kind c h = (loads _ a h, tt)
template_steps G (Lda a) at save kind c h = (runs _ (word_fits a c), tt)
template_steps G (Sta a) at save kind c h = (runs _ (word_fits a c), tt)
template_steps G (Lhld a) at save kind c h = (runs _ (word_fits a c), tt)
template_steps G (Shld a) at save kind c h = (runs _ (word_fits a c), tt)
template_steps G (Ldax q) at save kind c h = (runs _ refl, (runs _ refl, tt))
template_steps G (Stax q) at save kind c h = (runs _ refl, (runs _ refl, tt))
template_steps G Xthl at save kind c h = (runs _ refl, (runs _ refl, (runs _ refl, tt)))
template_steps G (AluI op n) at save kind c h = (runs _ (byte_fits n c), tt)
template_steps G (Inx q) at true kind c h = (runs _ refl, (runs _ refl, (runs _ refl, tt)))
template_steps G (Inx q) at false kind c h = (runs _ refl, tt)
template_steps G (Dcx q) at true kind c h = (runs _ refl, (runs _ refl, (runs _ refl, tt)))
template_steps G (Dcx q) at false kind c h = (runs _ refl, tt)
template_steps G (Dad q) at true kind c h = (runs _ refl, (runs _ refl, (runs _ refl, (runs _ refl, (runs _ refl, tt)))))
template_steps G (Dad q) at false kind c h = (runs _ refl, tt)
template_steps G (Push StackB) at save kind c h = (runs _ refl, tt)
template_steps G (Push StackD) at save kind c h = (runs _ refl, tt)
template_steps G (Push StackH) at save kind c h = (runs _ refl, tt)
template_steps G (Push Psw) at save kind c h = (runs _ refl, (runs _ refl, (runs _ refl, (runs _ refl, tt))))
template_steps G (Pop StackB) at save kind c h = (runs _ refl, tt)
template_steps G (Pop StackD) at save kind c h = (runs _ refl, tt)
template_steps G (Pop StackH) at save kind c h = (runs _ refl, tt)
template_steps G (Pop Psw) at save kind c h = (runs _ refl, (runs _ refl, (runs _ refl, tt)))
template_steps G (Jmp g) at save kind c h = (jumps g h, tt)
template_steps G (Jif cond g) at save kind c h = absurd (true≢false kind)
template_steps G (Call (At a)) at save kind c h = (calls (At a) h, tt)
template_steps G (Call Boot) at save kind c h = (jumps Boot h, tt)
template_steps G (Call Bdos) at save kind c h = (calls Bdos h, tt)
template_steps G (Cif cond g) at save kind c h = absurd (true≢false kind)
template_steps G (Rif cond) at save kind c h = absurd (true≢false kind)
template_steps G Rst0 at save kind c h = (jumps Boot h, tt)
template_steps G (In port) at save kind c h = (runs _ (byte_fits port c), tt)
template_steps G (Out port) at save kind c h = (runs _ (byte_fits port c), tt)
template_steps G i at save kind c h = (runs _ refl, tt)

-- ---- what is written in a style

-- a LAHF or SAHF is left out of instructions alone that have one
abbrev pub LeavesOut : Style → Bool → Bool → Placed → Instr80 → Type 0
LeavesOut s first last x i = (first ≡ true → begins_by_lahf (s.saves x) i ≡ true) × (last ≡ true → ends_by_sahf (s.saves x) i ≡ true)

and_false : (b : Bool) → (b && false) ≡ true → ⊥
and_false true h = false≢true h
and_false false h = false≢true h

-- nothing is left out of one that has neither
whole : (first last save : Bool) (xs : List Stmt86) → (first ≡ true → (save && false) ≡ true) → (last ≡ true → false ≡ true) → without_first_if first (without_last_if last xs) ≡ xs
whole true last save xs lahf sahf = absurd (and_false save (lahf refl))
whole false true save xs lahf sahf = absurd (false≢true (sahf refl))
whole false false save xs lahf sahf = refl

jump_shape : (G : Goal → Type 0) (at : ℕ) (j k : Jump) (g : Goal) (is_short : Bool) → G g → HasShape G at (cond is_short (Jcc k (label_of_goal g) ∷ []) (Jcc j (Skip at) ∷ (JmpTo (label_of_goal g) ∷ (Mark (Skip at) ∷ []))))
jump_shape G at j k g true h = short k g h
jump_shape G at j k g false h = past j _ (jumps g h) (omega arith)

direct_shape : (G : Goal → Type 0) (at : ℕ) (xs : List Stmt86) (direct : Bool) → AreSteps G xs → HasShape G at (cond direct (Run Int224 ∷ []) xs)
direct_shape G at xs true h = straight _ (runs Int224 refl, tt)
direct_shape G at xs false h = straight xs h

straight_shape : (G : Goal → Type 0) (at : ℕ) (xs : List Stmt86) (first last : Bool) → AreSteps G xs → HasShape G at (without_first_if first (without_last_if last xs))
straight_shape G at xs first last h = straight _ (each-first (IsStep G) first (without_last_if last xs) (each-last (IsStep G) last xs h))

past_shape : (G : Goal → Type 0) (s : Style) (first last : Bool) (x : Placed) (j : Jump) (y : Stmt86) → IsStep G y → size_of y ≤ 3 → (first ≡ true → (s.saves x && false) ≡ true) → (last ≡ true → false ≡ true) → HasShape G x.at (without_first_if first (without_last_if last (Jcc j (Skip x.at) ∷ (y ∷ (Mark (Skip x.at) ∷ [])))))
past_shape G s first last x j y step small lahf sahf =
    subst (HasShape G x.at) (sym (whole first last (s.saves x) (Jcc j (Skip x.at) ∷ (y ∷ (Mark (Skip x.at) ∷ []))) lahf sahf)) (past j y step small)

pub written_shape : (G : Goal → Type 0) (s : Style) (first last c : Bool) (x : Placed) (i : Instr80) → IsCoded i → Names G i → LeavesOut s first last x i → HasShape G x.at (written_as s first last c x i)
written_shape G s first last c x (Jif on g) coded h out = jump_shape G x.at (unless on) (jump_if on) g (s.shortens x) h
written_shape G s first last c x (Call Bdos) coded h out = direct_shape G x.at (CallTo Sys ∷ []) (c && s.directs x) (calls Bdos h, tt)
written_shape G s first last c x (Call Boot) coded h out = straight_shape G x.at (template (Call Boot) x.at (s.saves x)) first last (template_steps G (Call Boot) x.at (s.saves x) refl coded h)
written_shape G s first last c x (Call (At a)) coded h out = straight_shape G x.at (template (Call (At a)) x.at (s.saves x)) first last (template_steps G (Call (At a)) x.at (s.saves x) refl coded h)
written_shape G s first last c x (Cif on (At a)) coded h out = past_shape G s first last x (unless on) _ (calls (At a) h) (omega arith) out.0 out.1
written_shape G s first last c x (Cif on Boot) coded h out = past_shape G s first last x (unless on) _ (jumps Boot h) (omega arith) out.0 out.1
written_shape G s first last c x (Cif on Bdos) coded h out = past_shape G s first last x (unless on) _ (calls Bdos h) (omega arith) out.0 out.1
written_shape G s first last c x (Rif on) coded h out = past_shape G s first last x (unless on) _ (runs _ refl) (omega arith) out.0 out.1
written_shape G s first last c x i coded h out = straight_shape G x.at (template i x.at (s.saves x)) first last (template_steps G i x.at (s.saves x) refl coded h)

-- a step is no label
pub step_marks_not : (G : Goal → Type 0) (l : Label) (x : Stmt86) → IsStep G x → marks l x ≡ false
step_marks_not G l _ (runs i h) = refl
step_marks_not G l _ (loads r a h) = refl
step_marks_not G l _ (jumps g h) = refl
step_marks_not G l _ (calls g h) = refl

pub steps_mark_not : (G : Goal → Type 0) (l : Label) (xs : List Stmt86) → AreSteps G xs → MarksNot l xs
steps_mark_not G l xs h = each-map (IsStep G) (λ x. marks l x ≡ false) (step_marks_not G l) xs h

-- and a shape has no label but that past its own condition
pub shape_marks_not : (G : Goal → Type 0) (l : Label) (at : ℕ) → same_label (Skip at) l ≡ false → (xs : List Stmt86) → HasShape G at xs → MarksNot l xs
shape_marks_not G l at h _ (straight xs s) = steps_mark_not G l xs s
shape_marks_not G l at h _ (past j x s le) = (refl, (step_marks_not G l x s, (h, tt)))
shape_marks_not G l at h _ (short j g s) = (refl, tt)
