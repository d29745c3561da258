-- A line without small letters is in capitals.
use Rattle.std.proofs.Common.{◌≡◌, ℕ, List, [], ◌∷◌, true, not, map, refl, ap₂}
use Rattle.std.specs.List.{list_all}
use Rattle.std.proofs.lemmas.Bool.{and_parts, not-true}
use Rattle.asm86_line_reader.specs.Letters.{is_lower, upper}

same_letter : (b : ℕ) → not (is_lower b) ≡ true → upper b ≡ b
same_letter b h = rw (not-true (is_lower b) h) refl

pub same_capitals : (bs : List ℕ) → list_all (λ b. not (is_lower b)) bs ≡ true → map upper bs ≡ bs
same_capitals [] h = refl
same_capitals (b ∷ bs) h =
    let parts = and_parts (not (is_lower b)) (list_all (λ c. not (is_lower c)) bs) h in
    ap₂ (λ c cs. c ∷ cs) (same_letter b parts.0) (same_capitals bs parts.1)
