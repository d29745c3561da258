-- The byte at an address once cells that are listed by their addresses are put over a memory.
use Rattle.std.proofs.Common.{◌≡◌, ℕ, zero, suc, ◌+◌, ◌<◌, ◌≤◌, ◌==◌, Bool, true, false, cond, List, Option, Some, None, refl, sym, ap, ◌∙◌, arith}
use Rattle.std.specs.Prelude.{filter_map, unwrap_or}
use Rattle.std.specs.List.{range_with_len, cons_option}
use Rattle.std.proofs.lemmas.Bool.{eqb-true}
use Rattle.std.proofs.lemmas.Bool.Decides.{nat_tests}
use Rattle.dialogue.specs.ByteMemory.{put, put_cells}
use Rattle.asm80_types.specs.Program.{Program}
use Rattle.i80_bytes.specs.Cells.{program_byte, with_address, program_cells}

module _ (f : ℕ → Option ℕ) where
  abbrev listed : ℕ → ℕ → List (ℕ × ℕ)
  listed from n = filter_map (λ a. with_address a (f a)) (range_with_len from n)

  -- at another address
  untouched : (n from a : ℕ) (m : ℕ → ℕ) → ((k : ℕ) → from ≤ k → k < from + n → (a == k) ≡ false) → put_cells m (listed from n) a ≡ m a
  untouched zero from a m h = refl
  untouched (suc n) from a m h =
      by_first (f from) (h from (omega arith) (omega arith)) (λ w. untouched n (from + 1) a w (λ k low high. h k (omega (arith, low)) (omega (arith, high))))
    where
      by_first : (o : Option ℕ) → (a == from) ≡ false → ((w : ℕ → ℕ) → put_cells w (listed (from + 1) n) a ≡ w a) → put_cells m (cons_option (with_address from o) (listed (from + 1) n)) a ≡ m a
      by_first None e later = later m
      by_first (Some b) e later = later (put m from b) ∙ ap (λ t. cond t b (m a)) e

  -- at the address in front
  front : (n from a : ℕ) (m : ℕ → ℕ) (o : Option ℕ) → (a == from) ≡ true → put_cells m (cons_option (with_address from o) (listed (from + 1) n)) a ≡ unwrap_or o (m a)
  front n from a m o e =
      by_first o (λ w. untouched n (from + 1) a w (λ k low high. let same = eqb-true a from e in grind (arith, nat_tests)))
    where
      by_first : (o : Option ℕ) → ((w : ℕ → ℕ) → put_cells w (listed (from + 1) n) a ≡ w a) → put_cells m (cons_option (with_address from o) (listed (from + 1) n)) a ≡ unwrap_or o (m a)
      by_first None rest = rest m
      by_first (Some b) rest = rest (put m from b) ∙ ap (λ t. cond t b (m a)) e

  found : (n from a : ℕ) (m : ℕ → ℕ) → from ≤ a → a < from + n → put_cells m (listed from n) a ≡ unwrap_or (f a) (m a)
  found zero from a m low high = absurd (omega (arith, low, high))
  found (suc n) from a m low high = by_place (a == from) refl (λ later w. found n (from + 1) a w later (omega (arith, high)))
    where
      by_first : (o : Option ℕ) → (a == from) ≡ false → ((w : ℕ → ℕ) → put_cells w (listed (from + 1) n) a ≡ unwrap_or (f a) (w a)) → put_cells m (cons_option (with_address from o) (listed (from + 1) n)) a ≡ unwrap_or (f a) (m a)
      by_first None e later = later m
      by_first (Some b) e later = later (put m from b) ∙ ap (λ t. unwrap_or (f a) (cond t b (m a))) e

      by_place : (t : Bool) → (a == from) ≡ t → (from + 1 ≤ a → (w : ℕ → ℕ) → put_cells w (listed (from + 1) n) a ≡ unwrap_or (f a) (w a)) → put_cells m (listed from (suc n)) a ≡ unwrap_or (f a) (m a)
      by_place true e later = front n from a m (f from) e ∙ ap (λ x. unwrap_or (f x) (m a)) (sym (eqb-true a from e))
      by_place false e later =
          let next : from + 1 ≤ a = grind (arith, nat_tests) in
          by_first (f from) e (later next)

pub byte_of_program : (p : Program) (m : ℕ → ℕ) (a : ℕ) → a < 0x10000 → put_cells m (program_cells p) a ≡ unwrap_or (program_byte p a) (m a)
unfolding program_cells
byte_of_program p m a lt = found (program_byte p) 0x10000 0 a m (omega arith) (omega (arith, lt))

pub none_past : (p : Program) (m : ℕ → ℕ) (a : ℕ) → 0x10000 ≤ a → put_cells m (program_cells p) a ≡ m a
unfolding program_cells
none_past p m a le = untouched (program_byte p) 0x10000 0 a m (λ k low high. grind (arith, nat_tests))
