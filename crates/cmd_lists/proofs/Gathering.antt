-- The savings of a program: how they are gathered, and that they are one list.
use Rattle.std.proofs.Common.{◌≡◌, ℕ, ◌+◌, ◌<◌, Bool, true, false, cond, List, [], ◌∷◌, ◌++◌, length, length-append, get_or, take, map, refl, sym, ap, ◌∙◌, subst, arith}
use Rattle.std.specs.Prelude.{codes, filter, count_by, All}
use Rattle.std.specs.Fmt.{decimal}
use Rattle.std.proofs.lemmas.List.{append-nil, take_more}
use Rattle.std.proofs.lemmas.List.Elements.{filter-append, All-append, All-map, All-cons, All-from_get_or}
use Rattle.cells.specs.Parts.{Parts, nothing, has}
use Rattle.asm80_types.specs.declared.program.Placed.{Placed}
use Rattle.asm80_types.specs.Program.{Program, IsProgram}
use Rattle.flow.specs.Saves.{is_word_sum, is_sum_in, is_sum_at, AreSaves}
use Rattle.flow.proofs.Sets.{same_members}
use Rattle.flow.proofs.Wires.{placed_at}
use Rattle.cmd_common.specs.Lines.{word_digits, saves_line}
use Rattle.cmd_lists.specs.declared.savings.Saving.{Saving}
use Rattle.cmd_lists.specs.Saves.{sums, IsSaving, AreSavings, saves_any, save_text, save_line, report_lines, AreSaveLines}

-- ---- one more instruction

-- whether an instruction of a program is such a sum is told by itself
pub sum_of_placed : (p : Program) (i : ℕ) (d : Placed) → IsProgram p → i < length p.instrs → is_sum_at p (get_or p.instrs i d).at ≡ is_word_sum (get_or p.instrs i d).instr
sum_of_placed p i d program lt = ap is_sum_in (placed_at p i d program lt)

savings-append : (p : Program) (xs : List Placed) (ss : List Saving) (x : Placed) (s : Saving) → AreSavings p xs ss → IsSaving p x s → AreSavings p (xs ++ x ∷ []) (ss ++ s ∷ [])
savings-append p [] [] x s are is = (is, tt)
savings-append p [] (t ∷ ss) x s are is = absurd are
savings-append p (y ∷ xs) [] x s are is = absurd are
savings-append p (y ∷ xs) (t ∷ ss) x s are is = (are.0, savings-append p xs ss x s are.1 is)

module _ (p : Program) where
  abbrev is_sum : Placed → Bool
  is_sum x = is_sum_at p x.at

  filtered : (xs : List Placed) (x : Placed) (b : Bool) → is_sum x ≡ b → filter is_sum (xs ++ x ∷ []) ≡ filter is_sum xs ++ cond b (x ∷ []) []
  filtered xs x b e = filter-append is_sum xs (x ∷ []) ∙ ap (λ l. filter is_sum xs ++ l) (ap (λ b. cond b (x ∷ []) []) e)

  -- it is an INX, DCX or DAD
  pub one_more : (xs : List Placed) (ss : List Saving) (x : Placed) (s : Saving) → AreSavings p (filter is_sum xs) ss → is_sum x ≡ true → IsSaving p x s → AreSavings p (filter is_sum (xs ++ x ∷ [])) (ss ++ s ∷ [])
  one_more xs ss x s are e is = subst (λ l. AreSavings p l (ss ++ s ∷ [])) (sym (filtered xs x true e)) (savings-append p (filter is_sum xs) ss x s are is)

  -- it is another instruction
  pub none_more : (xs : List Placed) (ss : List Saving) (x : Placed) → AreSavings p (filter is_sum xs) ss → is_sum x ≡ false → AreSavings p (filter is_sum (xs ++ x ∷ [])) ss
  none_more xs ss x are e = subst (λ l. AreSavings p l ss) (sym (filtered xs x false e ∙ append-nil (filter is_sum xs))) are

  -- the instruction at an index comes next
  module _ (xs : List Placed) (i : ℕ) (d : Placed) (ss : List Saving) (lt : i < length xs) (are : AreSavings p (filter is_sum (take i xs)) ss) where
    further : (ts : List Saving) → AreSavings p (filter is_sum (take i xs ++ get_or xs i d ∷ [])) ts → AreSavings p (filter is_sum (take (i + 1) xs)) ts
    further ts h = subst (λ l. AreSavings p (filter is_sum l) ts) (sym (take_more xs i d lt)) h

    pub kept : (s : Saving) → is_sum (get_or xs i d) ≡ true → IsSaving p (get_or xs i d) s → AreSavings p (filter is_sum (take (i + 1) xs)) (ss ++ s ∷ [])
    kept s e is = further (ss ++ s ∷ []) (one_more (take i xs) ss (get_or xs i d) s are e is)

    pub passed : is_sum (get_or xs i d) ≡ false → AreSavings p (filter is_sum (take (i + 1) xs)) ss
    passed e = further ss (none_more (take i xs) ss (get_or xs i d) are e)

-- ---- no line is empty

some_line : (s : Saving) → 0 < length (save_line s)
some_line s = omega (arith, length-append (word_digits s.at) (codes " line " ++ (decimal s.line ++ (codes " " ++ (save_text s.keep ++ codes "\n")))))

pub lines_some : (p : Program) (ls : List (List ℕ)) → AreSaveLines p ls → All (λ (l : List ℕ). 0 < length l) ls
lines_some p ls h =
    let P : List ℕ → Type 0 = λ l. 0 < length l in
    let ss = h.savings in
    let last = saves_line (count_by (λ (s : Saving). saves_any s.keep) ss) (length ss) in
    subst (All P) (sym h.is)
    (All-append P (map save_line ss) (last ∷ [])
    (All-map P save_line ss (All-from_get_or (λ s. P (save_line s)) ss (record { at = 0; line = 0; keep = nothing }) (λ i lt. some_line (get_or ss i (record { at = 0; line = 0; keep = nothing })))))
    (All-cons P last [] (omega arith) (λ k d lt. absurd (omega (arith, lt)))))

-- ---- a program has one report

same_bool : (b c : Bool) → (b ≡ true → c ≡ true) → (c ≡ true → b ≡ true) → b ≡ c
same_bool true c f g = sym (f refl)
same_bool false true f g = g refl
same_bool false false f g = refl

same_keep : (p : Program) (a : ℕ) (k m : Parts) → AreSaves p a k → AreSaves p a m → k ≡ m
same_keep p a k m h i = same_members k m (λ x. same_bool (has k x) (has m x) (λ e. (i x).1 ((h x).0 e)) (λ e. (h x).1 ((i x).0 e)))

same_saving : (p : Program) (x : Placed) (s t : Saving) → IsSaving p x s → IsSaving p x t → s ≡ t
same_saving p x s t h i =
    let at : s.at ≡ t.at = h.at ∙ sym i.at in
    let line : s.line ≡ t.line = h.line ∙ sym i.line in
    let keep : s.keep ≡ t.keep = same_keep p x.at s.keep t.keep h.keep i.keep in
    let S : ℕ → ℕ → Parts → Saving = λ a l k. record { at = a; line = l; keep = k } in
    ap (λ a. S a s.line s.keep) at ∙ ap (λ l. S t.at l s.keep) line ∙ ap (S t.at t.line) keep

same_savings : (p : Program) (xs : List Placed) (ss ts : List Saving) → AreSavings p xs ss → AreSavings p xs ts → ss ≡ ts
same_savings p [] [] [] h i = refl
same_savings p [] [] (t ∷ ts) h i = absurd i
same_savings p [] (s ∷ ss) ts h i = absurd h
same_savings p (x ∷ xs) [] ts h i = absurd h
same_savings p (x ∷ xs) (s ∷ ss) [] h i = absurd i
same_savings p (x ∷ xs) (s ∷ ss) (t ∷ ts) h i = ap (λ y. y ∷ ss) (same_saving p x s t h.0 i.0) ∙ ap (λ l. t ∷ l) (same_savings p xs ss ts h.1 i.1)

pub one_list : (p : Program) (ls ms : List (List ℕ)) → AreSaveLines p ls → AreSaveLines p ms → ls ≡ ms
one_list p ls ms h i = h.is ∙ ap report_lines (same_savings p (sums p) h.savings i.savings h.are i.are) ∙ sym i.is
