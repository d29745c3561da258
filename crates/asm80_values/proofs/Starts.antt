-- The addresses of instructions, among the rows that are taken.
use Rattle.std.proofs.Common.{◌≡◌, ℕ, ◌+◌, ◌<◌, ◌==◌, ◌&&◌, ◌||◌, Bool, true, false, cond, List, [], ◌∷◌, ◌++◌, length, get_or, take, map, filter, Some, None, refl, sym, ap, ◌∙◌}
use Rattle.std.specs.List.{filter_map, cons_option}
use Rattle.std.specs.Option.{option_to_list}
use Rattle.std.proofs.lemmas.List.{take_more}
use Rattle.std.proofs.lemmas.List.Elements.{filter_map-append}
use Rattle.std.proofs.lemmas.List.Folds.{list_any-append}
use Rattle.asm80_types.specs.declared.stmt.Stmt80.{Stmt80}
use Rattle.base.specs.Addresses.{is_among}
use Rattle.asm80_types.proofs.Marks.{cons_option-one}
use Rattle.asm80_first_walk.specs.declared.walked.Taken.{Taken}
use Rattle.asm80_first_walk.specs.Walked.{Stand}
use Rattle.asm80_source_def.specs.Walk.{WalkRow, row_is_taken, row_operation}
use Rattle.asm80_source_def.specs.Items.{is_instruction_op, is_instruction, address, starts_in}
use Rattle.asm80_values.specs.Second.{start_of_row}

or-comm : (x y : Bool) → (x || y) ≡ (y || x)
or-comm true true = refl
or-comm true false = refl
or-comm false true = refl
or-comm false false = refl

-- one row more
pub starts_more :
    (ts : List Taken) (i : ℕ) (d : Taken) (a : ℕ) (old new : Bool) → i < length ts → new ≡ (is_among (option_to_list (start_of_row (get_or ts i d))) a || old)
    → old ≡ is_among (filter_map start_of_row (take i ts)) a → new ≡ is_among (filter_map start_of_row (take (i + 1) ts)) a
starts_more ts i d a old new lt step before =
    let more : filter_map start_of_row (take (i + 1) ts) ≡ filter_map start_of_row (take i ts) ++ option_to_list (start_of_row (get_or ts i d)) =
    ap (filter_map start_of_row) (take_more ts i d lt) ∙ filter_map-append start_of_row (take i ts) (get_or ts i d ∷ []) ∙ ap (λ (xs : List ℕ). filter_map start_of_row (take i ts) ++ xs) (cons_option-one (start_of_row (get_or ts i d))) in
    step ∙ or-comm (is_among (option_to_list (start_of_row (get_or ts i d))) a) old
    ∙ ap (λ b. b || is_among (option_to_list (start_of_row (get_or ts i d))) a) before
    ∙ sym (ap (λ (xs : List ℕ). is_among xs a) more ∙ list_any-append (λ b. b == a) (filter_map start_of_row (take i ts)) (option_to_list (start_of_row (get_or ts i d))))

abbrev is_instruction_row : WalkRow → Bool
is_instruction_row r = is_instruction_op (row_operation r)

start_by : (b : Bool) (a : ℕ) (r : WalkRow) (xs : List ℕ) (rs : List WalkRow) → a ≡ address r → xs ≡ map address rs → cons_option (cond b (Some a) None) xs ≡ map address (cond b (r ∷ rs) rs)
start_by true a r xs rs here rest = ap (λ n. n ∷ xs) here ∙ ap (λ (ys : List ℕ). address r ∷ ys) rest
start_by false a r xs rs here rest = rest

starts_stand : (statements : List Stmt80) (ts : List Taken) (qs : List WalkRow) → Stand statements ts qs → filter_map start_of_row ts ≡ map address (filter is_instruction_row qs)
starts_stand statements [] [] h = refl
starts_stand statements [] (q ∷ qs) h = absurd h
starts_stand statements (t ∷ ts) [] h = absurd h
starts_stand statements (t ∷ ts) (q ∷ qs) h =
    rw h.0.operation (start_by (is_instruction_op (row_operation q)) t.at q (filter_map start_of_row ts) (filter is_instruction_row qs) h.0.at (starts_stand statements ts qs h.1))

taken_by : (t b : Bool) (r : WalkRow) (kept all : List WalkRow) → b ≡ is_instruction_row r → filter is_instruction_row kept ≡ all → filter is_instruction_row (cond t (r ∷ kept) kept) ≡ cond (t && b) (r ∷ all) all
taken_by false b r kept all is rest = rest
taken_by true b r kept all is rest = rw (← is, rest) refl

taken_starts : (rs : List WalkRow) → filter is_instruction_row (filter row_is_taken rs) ≡ filter is_instruction rs
taken_starts [] = refl
taken_starts (r ∷ rs) = taken_by (row_is_taken r) (is_instruction_row r) r (filter row_is_taken rs) (filter is_instruction rs) refl (taken_starts rs)

pub starts_found : (statements : List Stmt80) (ts : List Taken) (rs : List WalkRow) → Stand statements ts (filter row_is_taken rs) → filter_map start_of_row ts ≡ starts_in rs
starts_found statements ts rs h = starts_stand statements ts (filter row_is_taken rs) h ∙ ap (map address) (taken_starts rs)
