-- The bits of a Keep and the set that they stand for.
use Rattle.std.proofs.Common.{◌≡◌, refl, ap, ◌∙◌, ℕ, zero, suc, ◌+◌, ◌*◌, ◌/◌, ◌%◌, ◌^◌, ◌<◌, ◌||◌, ◌==◌, max, bit_or, arith, lit<}
use denote.Enum.Declared.{tag_of}
use Rattle.std.specs.Int.{bit_at}
use Rattle.std.proofs.lemmas.Nat.{shr-shr, shr_split, or_lt}
use Rattle.std.proofs.lemmas.Nat.Bits.{bit_at_or, bit_at-lt}
use Rattle.cells.specs.Bits.{has_bit}
use Rattle.cells.specs.Parts.{AreParts, has, only, union, parts_of_bits, weight, bits_of_parts}
use Rattle.cells.specs.contracts.Part.{the_type}
use Rattle.cells.specs.declared.Part.{Part}
use Rattle.cells.specs.declared.Part.TheVariants.{A, B, C, D, E, H, L, S, Z, Ac, P, Cy}

-- a digit of two, tested and weighed again
weighed : (r value : ℕ) → r < 2 → weight (r == 1) value ≡ r * value
weighed zero value small = omega arith
weighed (suc zero) value small = omega arith
weighed (suc (suc r)) value small = omega arith

-- the weight of one bit
weighed_bit : (n i : ℕ) → weight (has_bit n i) (2 ^ i) ≡ bit_at n i * 2 ^ i
weighed_bit n i = weighed (bit_at n i) (2 ^ i) (bit_at-lt n i)

-- a half and the bit that it leaves
halved : (n i : ℕ) → n / 2 ^ i ≡ 2 * (n / 2 ^ (i + 1)) + bit_at n i
halved n i = let half = shr-shr n i 1 in let split = shr_split (n / 2 ^ i) 1 in omega arith

-- a number below 4096 is the sum of its twelve bits
bits_back : (n : ℕ) → n < 4096 → bits_of_parts (parts_of_bits n) ≡ n
bits_back n small =
    rw (weighed_bit n 0, weighed_bit n 1, weighed_bit n 2, weighed_bit n 3, weighed_bit n 4, weighed_bit n 5, weighed_bit n 6, weighed_bit n 7, weighed_bit n 8, weighed_bit n 9, weighed_bit n 10, weighed_bit n 11)
    (omega (arith, halved n 0, halved n 1, halved n 2, halved n 3, halved n 4, halved n 5, halved n 6, halved n 7, halved n 8, halved n 9, halved n 10, halved n 11))

max_or : (a b : ℕ) → a < 2 → b < 2 → (max a b == 1) ≡ ((a == 1) || (b == 1))
max_or zero zero x y = refl
max_or zero (suc zero) x y = refl
max_or (suc zero) zero x y = refl
max_or (suc zero) (suc zero) x y = refl
max_or (suc (suc a)) b x y = absurd (omega arith)
max_or a (suc (suc b)) x y = absurd (omega arith)

-- a bit of a join is a bit of the one or of the other
has_bit-or : (a b i : ℕ) → has_bit (bit_or a b) i ≡ (has_bit a i || has_bit b i)
has_bit-or a b i =
    ap (λ v. v == 1) (bit_at_or a b i) ∙ max_or (bit_at a i) (bit_at b i) (bit_at-lt a i) (bit_at-lt b i)

-- bits joined stand for the union
pub parts_of_join : (a b : ℕ) → parts_of_bits (bit_or a b) ≡ union (parts_of_bits a) (parts_of_bits b)
parts_of_join a b =
    rw (has_bit-or a b 0, has_bit-or a b 1, has_bit-or a b 2, has_bit-or a b 3, has_bit-or a b 4, has_bit-or a b 5, has_bit-or a b 6, has_bit-or a b 7, has_bit-or a b 8, has_bit-or a b 9, has_bit-or a b 10, has_bit-or a b 11)
    refl

-- bits below 4096 stand for a set
are_parts : (n : ℕ) → n < 4096 → AreParts n
are_parts n small = (small, bits_back n small)

-- bits joined stand for a set
pub join_are_parts : (a b : ℕ) → AreParts a → AreParts b → AreParts (bit_or a b)
join_are_parts a b x y = are_parts (bit_or a b) (or_lt 12 a b x.0 y.0)

-- the bit of a part stands for the set of that part alone
pub only_part : (part : Part) → AreParts (1 * 2 ^ tag_of the_type part % 65536) × (parts_of_bits (1 * 2 ^ tag_of the_type part % 65536) ≡ only part)
only_part A = ((lit< tt, refl), refl)
only_part B = ((lit< tt, refl), refl)
only_part C = ((lit< tt, refl), refl)
only_part D = ((lit< tt, refl), refl)
only_part E = ((lit< tt, refl), refl)
only_part H = ((lit< tt, refl), refl)
only_part L = ((lit< tt, refl), refl)
only_part S = ((lit< tt, refl), refl)
only_part Z = ((lit< tt, refl), refl)
only_part Ac = ((lit< tt, refl), refl)
only_part P = ((lit< tt, refl), refl)
only_part Cy = ((lit< tt, refl), refl)

-- the bit at a part's place says whether the part is a member
pub has_part : (n : ℕ) (part : Part) → has_bit n (tag_of the_type part) ≡ has (parts_of_bits n) part
has_part n A = refl
has_part n B = refl
has_part n C = refl
has_part n D = refl
has_part n E = refl
has_part n H = refl
has_part n L = refl
has_part n S = refl
has_part n Z = refl
has_part n Ac = refl
has_part n P = refl
has_part n Cy = refl
