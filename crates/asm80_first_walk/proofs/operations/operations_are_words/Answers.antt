use Rattle.std.proofs.Common.{◌≡◌, ℕ, List, [], ◌∷◌, map, refl, ap, ◌∙◌, Bool, true, false, cond, Some, ◌||◌}
use Rattle.std.specs.Prelude.{find, option_map, is_some}
use Rattle.std.specs.List.{list_any}
use Rattle.std.specs.Str.{bytes_eq}
use Rattle.asm80_types.specs.Words.{operations as words}
use Rattle.asm80_source_def.specs.declared.operation.Operation.{Operation}
use Rattle.asm80_source_def.specs.Operations.{operation_table}
use Rattle.asm80_first_walk.proofs.operations.operations_are_words.Goals as goal

abbrev what : List ℕ × Operation → Operation
what x = x.1

abbrev name : List ℕ × Operation → List ℕ
name x = x.0

-- a word is among the names of a table exactly where it is found there
among : (word : List ℕ) (xs : List (List ℕ × Operation)) → list_any (λ w. bytes_eq w word) (map name xs) ≡ is_some (option_map what (find (λ (x : List ℕ × Operation). bytes_eq x.0 word) xs))
among word [] = refl
among word (x ∷ xs) = by_first (bytes_eq x.0 word) (among word xs)
  where
    by_first : (b : Bool) → list_any (λ w. bytes_eq w word) (map name xs) ≡ is_some (option_map what (find (λ (y : List ℕ × Operation). bytes_eq y.0 word) xs)) → (b || list_any (λ w. bytes_eq w word) (map name xs)) ≡ is_some (option_map what (cond b (Some x) (find (λ (y : List ℕ × Operation). bytes_eq y.0 word) xs)))
    by_first true rest = refl
    by_first false rest = rest

-- the two tables have the same names
same_names : words ≡ map name operation_table
unfolding words operation_table
same_names = refl

pub returns : goal.returns
returns c = λ word. ap (list_any (λ w. bytes_eq w word)) same_names ∙ among word operation_table
