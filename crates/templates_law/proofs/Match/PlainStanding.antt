-- What stands behind the label of an instruction in the plain text.
use Rattle.std.proofs.Common.{◌≡◌, ◌≢◌, ℕ, ◌+◌, ◌≤◌, List, [], ◌∷◌, ◌++◌, Option, Some, refl, sym, ap, ◌∙◌, subst, arith, append_assoc, Bool, true, false, cond, ◌==◌, ◌||◌}
use Rattle.std.specs.Prelude.{is_some}
use Rattle.std.specs.List.{list_any}
use Rattle.std.proofs.lemmas.Bool.{eq-eqb, true≢false, false≢true, ne_eqb, eqb-true}
use Rattle.std.proofs.lemmas.Option.{same_Some}
use Rattle.cells.specs.declared.Place.TheVariants.{At as AtPlace}
use Rattle.i80.specs.declared.Src.TheVariants.{Reg, Mem}
use Rattle.i80.specs.declared.StackPair.TheVariants.{B as StackB, D as StackD, H as StackH, Psw}
use Rattle.i80.specs.declared.Word.TheVariants.{Num, Code}
use Rattle.i80.specs.declared.Goal.TheVariants.{At as ToInstr, Boot as ToBoot, Bdos as ToBdos}
use Rattle.i80.specs.declared.Instr80.{Instr80}
use Rattle.i80.specs.declared.Instr80.TheVariants.{Mov, Mvi, Lxi, Inx, Dcx, Dad, Jif, Call, Cif, Rif, Push, Pop}
use Rattle.i80.specs.Columns.{length80}
use Rattle.asm86_line_types.specs.declared.line.Label.{Label}
use Rattle.asm86_line_types.specs.declared.line.Label.TheVariants.{At as Line, Skip, Sys}
use Rattle.asm86_line_types.specs.declared.line.Stmt86.{Stmt86}
use Rattle.asm86_line_types.specs.declared.line.Stmt86.TheVariants.{Mark}
use Rattle.asm86_line_types.specs.Layout.{same_label, marks}
use Rattle.asm80_types.specs.declared.program.Placed.{Placed}
use Rattle.asm80_types.specs.Program.{placed_in, AreLaid}
use Rattle.asm80_types.proofs.Standing.{start_has}
use Rattle.asm80_types.proofs.Lookup.{length80-positive, placed_above}
use Rattle.templates.specs.Template.{template}
use Rattle.templates.specs.Plain.{body}
use Rattle.sym_block_def.specs.Outcome.{Way, Goto, SysReturn}
use Rattle.sym_block_def.specs.Walk86.{after_label, way_to}
use Rattle.templates_law.proofs.Match.PlainLaid.{found_at}

-- labels

pub same_number : (a : ℕ) → (a == a) ≡ true
same_number a = eq-eqb a a refl

pub other_number : (a b : ℕ) → a ≢ b → (a == b) ≡ false
other_number a b ne = ne_eqb a b ne

-- a label is looked for past statements that are not that label
pub behind_past : (l : Label) (xs ys : List Stmt86) → list_any (λ x. marks l x) xs ≡ false → after_label (xs ++ ys) l ≡ after_label ys l
behind_past l [] ys h = refl
behind_past l (x ∷ xs) ys h = by_mark (marks l x) refl h (behind_past l xs ys)
  where
    by_mark : (t : Bool) → marks l x ≡ t → (t || list_any (λ x. marks l x) xs) ≡ false → (list_any (λ x. marks l x) xs ≡ false → after_label (xs ++ ys) l ≡ after_label ys l) → cond t (Some (xs ++ ys)) (after_label (xs ++ ys) l) ≡ after_label ys l
    by_mark true e g rec = absurd (true≢false g)
    by_mark false e g rec = rec g

-- a template has no label but that past its own condition
skip_only : (l : Label) (at : ℕ) → same_label (Skip at) l ≡ false → (same_label (Skip at) l || false) ≡ false
skip_only l at e = ap (λ b. b || false) e

pub template_marks : (l : Label) (at : ℕ) (save : Bool) → same_label (Skip at) l ≡ false → (i : Instr80) → list_any (λ x. marks l x) (template i at save) ≡ false
template_marks l at true e (Inx p) = refl
template_marks l at false e (Inx p) = refl
template_marks l at true e (Dcx p) = refl
template_marks l at false e (Dcx p) = refl
template_marks l at true e (Dad p) = refl
template_marks l at false e (Dad p) = refl
template_marks l at save e (Mov (Reg r) from) = refl
template_marks l at save e (Mov Mem (Reg r)) = refl
template_marks l at save e (Mov Mem Mem) = refl
template_marks l at save e (Mvi (Reg r) n) = refl
template_marks l at save e (Mvi Mem n) = refl
template_marks l at save e (Lxi p (Num w)) = refl
template_marks l at save e (Lxi p (Code a)) = refl
template_marks l at save e (Push StackB) = refl
template_marks l at save e (Push StackD) = refl
template_marks l at save e (Push StackH) = refl
template_marks l at save e (Push Psw) = refl
template_marks l at save e (Pop StackB) = refl
template_marks l at save e (Pop StackD) = refl
template_marks l at save e (Pop StackH) = refl
template_marks l at save e (Pop Psw) = refl
template_marks l at save e (Jif c g) = skip_only l at e
template_marks l at save e (Call (ToInstr a)) = refl
template_marks l at save e (Call ToBoot) = refl
template_marks l at save e (Call ToBdos) = refl
template_marks l at save e (Cif c (ToInstr a)) = skip_only l at e
template_marks l at save e (Cif c ToBoot) = skip_only l at e
template_marks l at save e (Cif c ToBdos) = skip_only l at e
template_marks l at save e (Rif c) = skip_only l at e
template_marks l at save e i = refl

-- what stands behind the label past a condition stands behind its template
abbrev pub SkipIs : (Label → Option (List Stmt86)) → Instr80 → ℕ → List Stmt86 → Type 0
SkipIs find (Jif c g) at rest = find (Skip at) ≡ Some rest
SkipIs find (Cif c g) at rest = find (Skip at) ≡ Some rest
SkipIs find (Rif c) at rest = find (Skip at) ≡ Some rest
SkipIs find i at rest = Unit {0}

pub skip_here : (i : Instr80) (at : ℕ) (save : Bool) (rest : List Stmt86) → SkipIs (after_label (template i at save ++ rest)) i at rest
skip_here (Jif c g) at save rest = ap (λ b. cond b (Some rest) (after_label rest (Skip at))) (same_number at)
skip_here (Cif c (ToInstr a)) at save rest = ap (λ b. cond b (Some rest) (after_label rest (Skip at))) (same_number at)
skip_here (Cif c ToBoot) at save rest = ap (λ b. cond b (Some rest) (after_label rest (Skip at))) (same_number at)
skip_here (Cif c ToBdos) at save rest = ap (λ b. cond b (Some rest) (after_label rest (Skip at))) (same_number at)
skip_here (Rif c) at save rest = ap (λ b. cond b (Some rest) (after_label rest (Skip at))) (same_number at)
skip_here i at save rest = tt

-- and wherever the label is looked for likewise
pub skip_as : (f g : Label → Option (List Stmt86)) (i : Instr80) (at : ℕ) (rest : List Stmt86) → g (Skip at) ≡ f (Skip at) → SkipIs f i at rest → SkipIs g i at rest
skip_as f g (Jif c goal) at rest e h = e ∙ h
skip_as f g (Cif c goal) at rest e h = e ∙ h
skip_as f g (Rif c) at rest e h = e ∙ h
skip_as f g i at rest e h = tt

-- An instruction's template stands behind its label, and behind the template a label that ends a way: that of the address after the
-- instruction, where one starts there.
pub record Stands (text : List Stmt86) (xs : List Placed) (x : Placed) : Type 0 where
  pub rest : List Stmt86
  pub label : Label
  pub more : List Stmt86
  pub way : Way
  pub at : after_label text (Line x.at) ≡ Some (template x.instr x.at true ++ rest)
  pub skip : SkipIs (after_label text) x.instr x.at rest
  pub begins : rest ≡ Mark label ∷ more
  pub leads : way_to label ≡ Some way
  pub next : is_some (placed_in xs (x.at + length80 x.instr)) ≡ true → label ≡ Line (x.at + length80 x.instr)

-- behind the first instruction of a list
abbrev pub first_label : List Placed → Label
first_label [] = Sys
first_label (x ∷ xs) = Line x.at

pub first_more : List Placed → List Stmt86 → List Stmt86
first_more [] tail = tail
first_more (x ∷ xs) tail = (template x.instr x.at true ++ body xs) ++ Mark Sys ∷ tail

pub begins_so : (xs : List Placed) (tail : List Stmt86) → body xs ++ Mark Sys ∷ tail ≡ Mark (first_label xs) ∷ first_more xs tail
unfolding first_more
begins_so [] tail = refl
begins_so (x ∷ xs) tail = refl

pub first_way : (xs : List Placed) → (way : Way) × (way_to (first_label xs) ≡ Some way)
first_way [] = (SysReturn, refl)
first_way (x ∷ xs) = (Goto (AtPlace x.at), refl)

-- the lowest place, where an instruction starts there
pub first_is : (xs : List Placed) (from limit : ℕ) → AreLaid from limit xs → is_some (placed_in xs from) ≡ true → first_label xs ≡ Line from
first_is [] from limit laid e = absurd (false≢true e)
first_is (z ∷ zs) from limit laid e = by_test (z.at == from) refl e
  where
    by_test : (t : Bool) → (z.at == from) ≡ t → is_some (cond t (Some z) (placed_in zs from)) ≡ true → Line z.at ≡ Line from
    by_test true q f = ap Line (eqb-true z.at from q)
    by_test false q f =
        let y = start_has (placed_in zs from) f in
        let up = placed_above zs (z.at + length80 z.instr) limit from y.0 laid.3 y.1 in
        let some = length80-positive z.instr in
        let above = laid.0 in
        absurd (omega (arith, up, some, above))

-- an instruction at another address
past_first : (l : Label) (x : Placed) (xs : List Placed) (tail : List Stmt86) → same_label (Line x.at) l ≡ false → same_label (Skip x.at) l ≡ false → after_label (body (x ∷ xs) ++ tail) l ≡ after_label (body xs ++ tail) l
past_first l x xs tail e f =
    ap (λ t. cond t (Some ((template x.instr x.at true ++ body xs) ++ tail)) (after_label ((template x.instr x.at true ++ body xs) ++ tail) l)) e
    ∙ ap (λ ys. after_label ys l) (append_assoc (template x.instr x.at true) (body xs) tail)
    ∙ behind_past l (template x.instr x.at true) (body xs ++ tail) (template_marks l x.at true f x.instr)

pub not_here : (y : Placed) (ys : List Placed) (a : ℕ) → y.at ≢ a → placed_in (y ∷ ys) a ≡ placed_in ys a
not_here y ys a ne = ap (λ t. cond t (Some y) (placed_in ys a)) (other_number y.at a ne)

here : (y : Placed) (ys : List Placed) (from limit : ℕ) (tail : List Stmt86) → AreLaid from limit (y ∷ ys) → Stands (body (y ∷ ys) ++ Mark Sys ∷ tail) (y ∷ ys) y
here y ys from limit tail laid =
    record {
      rest = body ys ++ Mark Sys ∷ tail;
      label = first_label ys;
      more = first_more ys tail;
      way = (first_way ys).0;
      at = ap (λ t. cond t (Some ((template y.instr y.at true ++ body ys) ++ Mark Sys ∷ tail)) (after_label ((template y.instr y.at true ++ body ys) ++ Mark Sys ∷ tail) (Line y.at))) (same_number y.at) ∙ ap Some split;
      skip = skip_as (after_label (template y.instr y.at true ++ (body ys ++ Mark Sys ∷ tail))) (after_label (body (y ∷ ys) ++ Mark Sys ∷ tail)) y.instr y.at (body ys ++ Mark Sys ∷ tail) (ap (λ zs. after_label zs (Skip y.at)) split) (skip_here y.instr y.at true (body ys ++ Mark Sys ∷ tail));
      begins = begins_so ys tail;
      leads = (first_way ys).1;
      next = λ e. first_is ys (y.at + length80 y.instr) limit laid.3 (sym (ap is_some (not_here y ys (y.at + length80 y.instr) ne)) ∙ e);
    }
  where
    split : (template y.instr y.at true ++ body ys) ++ Mark Sys ∷ tail ≡ template y.instr y.at true ++ (body ys ++ Mark Sys ∷ tail)
    split = append_assoc (template y.instr y.at true) (body ys) (Mark Sys ∷ tail)

    ne : y.at ≢ y.at + length80 y.instr
    ne = let some = length80-positive y.instr in omega (arith, some)

later : (y x : Placed) (ys : List Placed) (tail : List Stmt86) → y.at + length80 y.instr ≤ x.at → Stands (body ys ++ tail) ys x → Stands (body (y ∷ ys) ++ tail) (y ∷ ys) x
later y x ys tail le s =
    let some = length80-positive y.instr in
    let ne : y.at ≢ x.at = omega (arith, some) in
    let ne' : y.at ≢ x.at + length80 x.instr = omega (arith, some) in
    record {
      rest = s.rest;
      label = s.label;
      more = s.more;
      way = s.way;
      at = past_first (Line x.at) y ys tail (other_number y.at x.at ne) refl ∙ s.at;
      skip = skip_as (after_label (body ys ++ tail)) (after_label (body (y ∷ ys) ++ tail)) x.instr x.at s.rest (past_first (Skip x.at) y ys tail refl (other_number y.at x.at ne)) s.skip;
      begins = s.begins;
      leads = s.leads;
      next = λ e. s.next (sym (ap is_some (not_here y ys (x.at + length80 x.instr) ne')) ∙ e);
    }

-- each instruction of a list stands in the list's statements, with the runtime behind them
pub each_stands : (xs : List Placed) (from limit a : ℕ) (x : Placed) (tail : List Stmt86) → AreLaid from limit xs → placed_in xs a ≡ Some x → Stands (body xs ++ Mark Sys ∷ tail) xs x
each_stands [] from limit a x tail laid h = absurd (false≢true (ap is_some h))
each_stands (y ∷ ys) from limit a x tail laid h = by_test (y.at == a) refl h (each_stands ys (y.at + length80 y.instr) limit a x tail laid.3)
  where
    by_test : (t : Bool) → (y.at == a) ≡ t → cond t (Some y) (placed_in ys a) ≡ Some x → (placed_in ys a ≡ Some x → Stands (body ys ++ Mark Sys ∷ tail) ys x) → Stands (body (y ∷ ys) ++ Mark Sys ∷ tail) (y ∷ ys) x
    by_test true e g rec = subst (λ v. Stands (body (y ∷ ys) ++ Mark Sys ∷ tail) (y ∷ ys) v) (same_Some y x g) (here y ys from limit tail laid)
    by_test false e g rec =
        let le = placed_above ys (y.at + length80 y.instr) limit a x laid.3 g in
        later y x ys (Mark Sys ∷ tail) (subst (λ n. y.at + length80 y.instr ≤ n) (sym (found_at ys a x g)) le) (rec g)
