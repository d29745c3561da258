-- What a step of the tagged 8080 has done where it is not refused.
use Rattle.std.proofs.Common.{◌≡◌, ℕ, ◌+◌, ◌*◌, ◌/◌, ◌%◌, ◌<◌, ◌==◌, false, Ok, ap, subst, ◌∙◌, arith}
use Rattle.cells.specs.declared.Cell.{Cell}
use Rattle.cells.specs.declared.Cell.TheVariants.{Num, Lo, Hi, Psw, Junk}
use Rattle.cells.specs.declared.Rule.{Rule}
use Rattle.cells.specs.declared.Rule.TheVariants.{P2, P3, P4, P8}
use Rattle.dialogue.proofs.Tried.{ok_is, err_is_not, then_is}
use Rattle.asm80_types.specs.Program.{Program}
use Rattle.cpu80_tagged.specs.State.{State80, num_or}
use Rattle.cpu80_tagged.specs.Memory.{is_closed, is_write_protected, unless_then, put, address, word_fits, read_at, may_write, write_at, Halves, read_word, write_word}
use Rattle.cpu80_tagged.proofs.Passing.{unless_is, within}
use Rattle.sym_terms.specs.Values80.{Word, word_of}
use Rattle.simulation_def.specs.States.{IsCell}

-- a cell that is taken as a number is one
pub number_is : (r : Rule) (c : Cell) (n : ℕ) → num_or r c ≡ Ok n → c ≡ Num n
number_is r (Num m) n e = ap Num (ok_is m n e)
number_is r (Lo q) n e = absurd (err_is_not r n e)
number_is r (Hi q) n e = absurd (err_is_not r n e)
number_is r (Psw f) n e = absurd (err_is_not r n e)
number_is r Junk n e = absurd (err_is_not r n e)

-- two cells that are taken as a word are its halves
pub halves_are : (p : Program) (h l : Cell) (a b n : ℕ) → IsCell p h → IsCell p l → h ≡ Num a → l ≡ Num b → 256 * a + b ≡ n → (n < 0x10000) × (Word h l ≡ word_of n)
halves_are p h l a b n ih il eh el en =
    let small_a : a < 256 = subst (IsCell p) eh ih in
    let small_b : b < 256 = subst (IsCell p) el il in
    let high : a ≡ n / 256 = omega (arith, en, small_a, small_b) in
    let low : b ≡ n % 256 = omega (arith, en, small_a, small_b) in
    (omega (arith, en, small_a, small_b), ap (λ c. Word c l) (eh ∙ ap Num high) ∙ ap (λ c. Word (Num (n / 256)) c) (el ∙ ap Num low))

pub address_is : (p : Program) (h l : Cell) (n : ℕ) → IsCell p h → IsCell p l → address h l ≡ Ok n → (n < 0x10000) × (Word h l ≡ word_of n)
address_is p h l n ih il e =
    let first = then_is (num_or P8 h) _ n e in
    let second = then_is (num_or P8 l) _ n first.2 in
    halves_are p h l first.0 second.0 n ih il (number_is P8 h first.0 first.1) (number_is P8 l second.0 second.1) (ok_is _ n second.2)

pub read_is : (p : Program) (s : State80) (n : ℕ) (c : Cell) → read_at p s n ≡ Ok c → (is_closed p n ≡ false) × (s.mem n ≡ c)
read_is p s n c e =
    let t = then_is (unless_then (is_closed p n) P2) _ c e in
    (unless_is (is_closed p n) P2 t.0 t.1, ok_is (s.mem n) c t.2)

pub write_is : (p : Program) (s t : State80) (n : ℕ) (c : Cell) → write_at p s n c ≡ Ok t → (is_write_protected p n ≡ false) × (record s { mem = put s.mem n c } ≡ t)
write_is p s t n c e =
    let w = then_is (may_write p n) _ t e in
    (unless_is (is_write_protected p n) P3 w.0 w.1, ok_is _ t w.2)

pub read_word_is : (p : Program) (s : State80) (n : ℕ) (w : Halves) → n < 0x10000 → read_word p s n ≡ Ok w → (n + 1 < 0x10000) × (is_closed p n ≡ false) × (is_closed p (n + 1) ≡ false) × (s.mem (n + 1) ≡ w.high) × (s.mem n ≡ w.low)
read_word_is p s n w lt e =
    let fits = then_is (word_fits n) _ w e in
    let low = then_is (read_at p s n) _ w fits.2 in
    let high = then_is (read_at p s (n + 1)) _ w low.2 in
    let l = read_is p s n low.0 low.1 in
    let h = read_is p s (n + 1) high.0 high.1 in
    let is = ok_is _ w high.2 in
    (within n lt (unless_is (n == 0xFFFF) P4 fits.0 fits.1), l.0, h.0, h.1 ∙ ap (λ (v : Halves). v.high) is, l.1 ∙ ap (λ (v : Halves). v.low) is)

pub write_word_is : (p : Program) (s t : State80) (n : ℕ) (h l : Cell) → n < 0x10000 → write_word p s n h l ≡ Ok t → (n + 1 < 0x10000) × (is_write_protected p n ≡ false) × (is_write_protected p (n + 1) ≡ false) × (record s { mem = put (put s.mem n l) (n + 1) h } ≡ t)
write_word_is p s t n h l lt e =
    let fits = then_is (word_fits n) _ t e in
    let low = then_is (may_write p n) _ t fits.2 in
    let high = then_is (may_write p (n + 1)) _ t low.2 in
    (within n lt (unless_is (n == 0xFFFF) P4 fits.0 fits.1), unless_is (is_write_protected p n) P3 low.0 low.1, unless_is (is_write_protected p (n + 1)) P3 high.0 high.1, ok_is _ t high.2)
