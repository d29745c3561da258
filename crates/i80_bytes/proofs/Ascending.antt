-- The cells of a program are bytes at addresses that ascend.
use Rattle.std.proofs.Common.{◌≡◌, ℕ, zero, suc, ◌+◌, ◌<◌, ◌≤◌, List, ◌∷◌, length, Option, Some, None, refl, sym, subst, arith}
use Rattle.std.specs.Prelude.{filter_map, slice_index}
use Rattle.std.specs.List.{All, range_with_len, cons_option}
use Rattle.std.specs.List.Sorted.{IsStrictlyIncreasing}
use Rattle.std.specs.Map.{keys_of}
use Rattle.std.proofs.lemmas.List.Elements.{All-nil, All-cons}
use Rattle.hex_file.specs.Written.{AreCells}
use Rattle.asm80_types.specs.Program.{Program, IsProgram}
use Rattle.i80_bytes.specs.Cells.{program_byte, with_address, program_cells}
use Rattle.i80_bytes.proofs.Small.{byte_small}

increasing_cons : (x : ℕ) (xs : List ℕ) → (0 < length xs → x < slice_index xs 0) → IsStrictlyIncreasing xs → IsStrictlyIncreasing (x ∷ xs)
increasing_cons x xs first rest zero lt = first (omega (arith, lt))
increasing_cons x xs first rest (suc k) lt =
    let next : suc k + 1 ≡ suc (k + 1) = omega arith in
    subst (λ n. slice_index xs k < slice_index (x ∷ xs) n) (sym next) (rest k (omega (arith, lt)))

module _ (f : ℕ → Option ℕ) where
  abbrev listed : ℕ → ℕ → List (ℕ × ℕ)
  listed from n = filter_map (λ a. with_address a (f a)) (range_with_len from n)

  first_above : (n from : ℕ) → 0 < length (keys_of (listed from n)) → from ≤ slice_index (keys_of (listed from n)) 0
  first_above zero from lt = absurd (omega (arith, lt))
  first_above (suc n) from lt = by_first (f from) (first_above n (from + 1)) lt
    where
      by_first : (o : Option ℕ) → (0 < length (keys_of (listed (from + 1) n)) → from + 1 ≤ slice_index (keys_of (listed (from + 1) n)) 0) → 0 < length (keys_of (cons_option (with_address from o) (listed (from + 1) n))) → from ≤ slice_index (keys_of (cons_option (with_address from o) (listed (from + 1) n))) 0
      by_first None later lt = let above = later lt in omega (arith, above)
      by_first (Some b) later lt = omega arith

  rising : (n from : ℕ) → IsStrictlyIncreasing (keys_of (listed from n))
  rising zero from = λ k lt. absurd (omega (arith, lt))
  rising (suc n) from = by_first (f from) (rising n (from + 1))
    where
      by_first : (o : Option ℕ) → IsStrictlyIncreasing (keys_of (listed (from + 1) n)) → IsStrictlyIncreasing (keys_of (cons_option (with_address from o) (listed (from + 1) n)))
      by_first None later = later
      by_first (Some b) later =
          increasing_cons from (keys_of (listed (from + 1) n)) (λ lt. let above = first_above n (from + 1) lt in omega (arith, above)) later

  below : (n from limit : ℕ) → from + n ≤ limit → All (λ c. c.0 < limit) (listed from n)
  below zero from limit le = All-nil (λ c. c.0 < limit)
  below (suc n) from limit le = by_first (f from) (below n (from + 1) limit (omega (arith, le)))
    where
      by_first : (o : Option ℕ) → All (λ c. c.0 < limit) (listed (from + 1) n) → All (λ c. c.0 < limit) (cons_option (with_address from o) (listed (from + 1) n))
      by_first None later = later
      by_first (Some b) later = All-cons (λ c. c.0 < limit) (from, b) (listed (from + 1) n) (omega (arith, le)) later

  module _ (small : (a b : ℕ) → f a ≡ Some b → b < 256) where
    bytes : (n from : ℕ) → All (λ c. c.1 < 256) (listed from n)
    bytes zero from = All-nil (λ c. c.1 < 256)
    bytes (suc n) from = by_first (f from) refl (bytes n (from + 1))
      where
        by_first : (o : Option ℕ) → f from ≡ o → All (λ c. c.1 < 256) (listed (from + 1) n) → All (λ c. c.1 < 256) (cons_option (with_address from o) (listed (from + 1) n))
        by_first None e later = later
        by_first (Some b) e later = All-cons (λ c. c.1 < 256) (from, b) (listed (from + 1) n) (small from b e) later

pub are_cells : (p : Program) → IsProgram p → AreCells (program_cells p)
unfolding program_cells
are_cells p g = record {
  ascend = rising (program_byte p) 0x10000 0;
  addresses = below (program_byte p) 0x10000 0 0x10000 (omega arith);
  bytes = bytes (program_byte p) (byte_small p g) 0x10000 0;
}
