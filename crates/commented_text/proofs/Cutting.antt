-- Where the statements of an instruction end, whatever the style.
use Rattle.std.proofs.Common.{◌≡◌, ℕ, Bool, true, false, not, ◌&&◌, cond, List, [], ◌∷◌, ◌++◌, length, refl}
use Rattle.std.specs.List.{slice_get}
use Rattle.cells.specs.declared.Cond.{Cond}
use Rattle.i80.specs.declared.Src.TheVariants.{Reg, Mem}
use Rattle.i80.specs.declared.StackPair.TheVariants.{B as StackB, D as StackD, H as StackH, Psw}
use Rattle.i80.specs.declared.Word.TheVariants.{Num, Code}
use Rattle.i80.specs.declared.Goal.{Goal}
use Rattle.i80.specs.declared.Goal.TheVariants.{At as Address, Boot, Bdos}
use Rattle.i80.specs.declared.Instr80.{Instr80}
use Rattle.i80.specs.declared.Instr80.TheVariants.{Mov, Mvi, Lxi, Inx, Dcx, Dad, Push, Pop, Jif, Call, Cif}
use Rattle.i80.specs.Columns.{is_well_formed}
use Rattle.asm80_types.specs.declared.program.Placed.{Placed}
use Rattle.asm86_line_types.specs.declared.line.Label.TheVariants.{Skip, Sys}
use Rattle.asm86_line_types.specs.declared.line.Stmt86.{Stmt86}
use Rattle.asm86_line_types.specs.declared.line.Stmt86.TheVariants.{Mark, Jcc, Run, Jmp as JmpTo, Call as CallTo}
use Rattle.i86.specs.declared.Jump.{Jump}
use Rattle.i86.specs.declared.Instr86.TheVariants.{Int224}
use Rattle.templates.specs.Template.{template, unless, label_of_goal}
use Rattle.templates.specs.Style.{Style, ends_by_sahf, begins_by_lahf, jump_if, without_first_if, without_last_if, written_as}
use Rattle.commented_text.specs.Sizes.{is_sahf, is_rotate, statement_count, group_size}

-- statements that go on with no group: the first is neither what ends a sum of words nor what follows one
abbrev pub is_fresh : List Stmt86 → Bool
is_fresh xs = not (is_sahf (slice_get xs 0)) && not (is_rotate (slice_get xs 0))

not_sahf : (a b : Bool) → (not a && not b) ≡ true → a ≡ false
not_sahf false b h = refl
not_sahf true b h = absurd cc

not_rotate : (a b : Bool) → (not a && not b) ≡ true → b ≡ false
not_rotate a false h = refl
not_rotate false true h = absurd cc
not_rotate true true h = absurd cc

-- statements of an instruction before others: how many are counted, that they begin afresh, and that no label is counted
pub record IsCut (i : Instr80) (own rest : List Stmt86) : Type 0 where
  pub count : statement_count i (own ++ rest) ≡ length own
  pub fresh : is_fresh (own ++ rest) ≡ true
  pub bare : group_size i (own ++ rest) ≡ statement_count i (own ++ rest)

-- ---- templates

cut : {i : Instr80} {own rest : List Stmt86} → statement_count i (own ++ rest) ≡ length own → is_fresh (own ++ rest) ≡ true → group_size i (own ++ rest) ≡ statement_count i (own ++ rest) → IsCut i own rest
cut c f b = record { count = c; fresh = f; bare = b }

template_cut : (i : Instr80) (at : ℕ) (save : Bool) (rest : List Stmt86) → is_well_formed i ≡ true → is_fresh rest ≡ true → IsCut i (template i at save) rest
template_cut (Mov (Reg r) s) at save rest w h = cut refl refl refl
template_cut (Mov Mem (Reg r)) at save rest w h = cut refl refl refl
template_cut (Mov Mem Mem) at save rest w h = absurd cc
template_cut (Mvi (Reg r) n) at save rest w h = cut refl refl refl
template_cut (Mvi Mem n) at save rest w h = cut refl refl refl
template_cut (Lxi p (Num n)) at save rest w h = cut refl refl refl
template_cut (Lxi p (Code a)) at save rest w h = cut refl refl refl
template_cut (Inx p) at true rest w h = cut refl refl refl
template_cut (Inx p) at false rest w h = cut (rw (not_sahf (is_sahf (slice_get rest 0)) (is_rotate (slice_get rest 0)) h) refl) refl refl
template_cut (Dcx p) at true rest w h = cut refl refl refl
template_cut (Dcx p) at false rest w h = cut (rw (not_sahf (is_sahf (slice_get rest 0)) (is_rotate (slice_get rest 0)) h) refl) refl refl
template_cut (Dad p) at true rest w h = cut refl refl refl
template_cut (Dad p) at false rest w h = cut (rw (not_rotate (is_sahf (slice_get rest 0)) (is_rotate (slice_get rest 0)) h) refl) refl refl
template_cut (Push StackB) at save rest w h = cut refl refl refl
template_cut (Push StackD) at save rest w h = cut refl refl refl
template_cut (Push StackH) at save rest w h = cut refl refl refl
template_cut (Push Psw) at save rest w h = cut refl refl refl
template_cut (Pop StackB) at save rest w h = cut refl refl refl
template_cut (Pop StackD) at save rest w h = cut refl refl refl
template_cut (Pop StackH) at save rest w h = cut refl refl refl
template_cut (Pop Psw) at save rest w h = cut refl refl refl
template_cut (Call (Address a)) at save rest w h = cut refl refl refl
template_cut (Call Boot) at save rest w h = cut refl refl refl
template_cut (Call Bdos) at save rest w h = cut refl refl refl
template_cut (Cif c (Address a)) at save rest w h = cut refl refl refl
template_cut (Cif c Boot) at save rest w h = cut refl refl refl
template_cut (Cif c Bdos) at save rest w h = cut refl refl refl
template_cut i at save rest w h = cut refl refl refl

-- ---- what is written in a style

-- a LAHF or SAHF is left out of instructions alone that have one
abbrev pub LeavesOut : Bool → Bool → Bool → Instr80 → Type 0
LeavesOut save first last i = (first ≡ true → begins_by_lahf save i ≡ true) × (last ≡ true → ends_by_sahf save i ≡ true)

and_false : (b : Bool) → (b && false) ≡ true → ⊥
and_false true h = cc
and_false false h = cc

-- nothing is left out of one that has neither
whole : {i : Instr80} {rest : List Stmt86} (first last save : Bool) (own : List Stmt86) → (first ≡ true → (save && false) ≡ true) → (last ≡ true → false ≡ true) → IsCut i own rest → IsCut i (without_first_if first (without_last_if last own)) rest
whole true last save own lahf sahf c = absurd (and_false save (lahf refl))
whole false true save own lahf sahf c = let no : false ≡ true = sahf refl in absurd cc
whole false false save own lahf sahf c = c

-- a saving sum of words without its LAHF, its SAHF or both
trimmed : (i : Instr80) (at : ℕ) (first last save : Bool) (rest : List Stmt86) → is_well_formed i ≡ true → LeavesOut save first last i → is_fresh rest ≡ true → IsCut i (without_first_if first (without_last_if last (template i at save))) rest
trimmed (Inx p) at true last false rest w out h = let no : false ≡ true = out.0 refl in absurd cc
trimmed (Inx p) at false true false rest w out h = let no : false ≡ true = out.1 refl in absurd cc
trimmed (Inx p) at false false save rest w out h = template_cut (Inx p) at save rest w h
trimmed (Inx p) at true false true rest w out h = cut refl refl refl
trimmed (Inx p) at false true true rest w out h = cut (rw (not_sahf (is_sahf (slice_get rest 0)) (is_rotate (slice_get rest 0)) h) refl) refl refl
trimmed (Inx p) at true true true rest w out h = cut (rw (not_sahf (is_sahf (slice_get rest 0)) (is_rotate (slice_get rest 0)) h) refl) refl refl
trimmed (Dcx p) at true last false rest w out h = let no : false ≡ true = out.0 refl in absurd cc
trimmed (Dcx p) at false true false rest w out h = let no : false ≡ true = out.1 refl in absurd cc
trimmed (Dcx p) at false false save rest w out h = template_cut (Dcx p) at save rest w h
trimmed (Dcx p) at true false true rest w out h = cut refl refl refl
trimmed (Dcx p) at false true true rest w out h = cut (rw (not_sahf (is_sahf (slice_get rest 0)) (is_rotate (slice_get rest 0)) h) refl) refl refl
trimmed (Dcx p) at true true true rest w out h = cut (rw (not_sahf (is_sahf (slice_get rest 0)) (is_rotate (slice_get rest 0)) h) refl) refl refl
trimmed (Dad p) at first true save rest w out h = let no : false ≡ true = out.1 refl in absurd cc
trimmed (Dad p) at true false false rest w out h = let no : false ≡ true = out.0 refl in absurd cc
trimmed (Dad p) at true false true rest w out h = cut refl refl refl
trimmed (Dad p) at false false save rest w out h = template_cut (Dad p) at save rest w h
trimmed (Pop Psw) at true last save rest w out h = absurd (and_false save (out.0 refl))
trimmed (Pop Psw) at false true save rest w out h = cut (rw (not_sahf (is_sahf (slice_get rest 0)) (is_rotate (slice_get rest 0)) h) refl) refl refl
trimmed (Pop Psw) at false false save rest w out h = template_cut (Pop Psw) at save rest w h
trimmed i at first last save rest w out h = whole first last save (template i at save) out.0 out.1 (template_cut i at save rest w h)

jump_cut : (j k : Jump) (on : Cond) (g : Goal) (at : ℕ) (is_short : Bool) (rest : List Stmt86) → IsCut (Jif on g) (cond is_short (Jcc k (label_of_goal g) ∷ []) (Jcc j (Skip at) ∷ (JmpTo (label_of_goal g) ∷ (Mark (Skip at) ∷ [])))) rest
jump_cut j k on (Address a) at true rest = cut refl refl refl
jump_cut j k on Boot at true rest = cut refl refl refl
jump_cut j k on Bdos at true rest = cut refl refl refl
jump_cut j k on g at false rest = cut refl refl refl

direct_cut : (direct : Bool) (rest : List Stmt86) → IsCut (Call Bdos) (cond direct (Run Int224 ∷ []) (CallTo Sys ∷ [])) rest
direct_cut true rest = cut refl refl refl
direct_cut false rest = cut refl refl refl

pub written_cut : (s : Style) (first last c : Bool) (x : Placed) (i : Instr80) (rest : List Stmt86) → is_well_formed i ≡ true → LeavesOut (s.saves x) first last i → is_fresh rest ≡ true → IsCut i (written_as s first last c x i) rest
written_cut s first last c x (Jif on g) rest w out h = jump_cut (unless on) (jump_if on) on g x.at (s.shortens x) rest
written_cut s first last c x (Call Bdos) rest w out h = direct_cut (c && s.directs x) rest
written_cut s first last c x (Call Boot) rest w out h = trimmed (Call Boot) x.at first last (s.saves x) rest w out h
written_cut s first last c x (Call (Address a)) rest w out h = trimmed (Call (Address a)) x.at first last (s.saves x) rest w out h
written_cut s first last c x i rest w out h = trimmed i x.at first last (s.saves x) rest w out h
