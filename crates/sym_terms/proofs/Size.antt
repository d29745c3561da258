-- No term stands in itself.
use Rattle.std.proofs.Common.{◌≡◌, ℕ, ◌+◌, arith, ap}
use Rattle.cells.specs.declared.Part.{Part}
use Rattle.cells.specs.declared.Part.TheVariants.{S, Z, Ac, P, Cy}
use Rattle.sym_terms.specs.Making.{chosen_flag}
use Rattle.sym_terms.specs.Term.{Term, Num, Start, StartSp, Loaded8, Loaded16, Alu, Flag, Sum16, High, Low, Join, FlagByte, Bit, Turn, Turned, Adjust, Code, Unknown}

abbrev pub size : Term → ℕ
size (Num n) = 0
size (Start part) = 0
size StartSp = 0
size (Loaded8 k) = 0
size (Loaded16 k) = 0
size (Alu op a b c) = 1 + size a + size b + size c
size (Flag part r) = 1 + size r
size (Sum16 a b) = 1 + size a + size b
size (High w) = 1 + size w
size (Low w) = 1 + size w
size (Join h l) = 1 + size h + size l
size (FlagByte s z ac p cy) = 1 + size s + size z + size ac + size p + size cy
size (Bit b part) = 1 + size b
size (Turn kind a c) = 1 + size a + size c
size (Turned c) = 1 + size c
size (Adjust a ac cy) = 1 + size a + size ac + size cy
size (Code q high) = 0
size Unknown = 0

pub high_is_larger : (h l : Term) → h ≡ High (Join h l) → ⊥
high_is_larger h l e = let s : size h ≡ 1 + (1 + size h + size l) = ap size e in omega arith

pub low_is_larger : (h l : Term) → l ≡ Low (Join h l) → ⊥
low_is_larger h l e = let s : size l ≡ 1 + (1 + size h + size l) = ap size e in omega arith

pub sum_is_larger : (a b c : Term) → a ≡ Sum16 (Sum16 a b) c → ⊥
sum_is_larger a b c e = let s : size a ≡ 1 + (1 + size a + size b) + size c = ap size e in omega arith

pub sum_is_larger_than : (a b : Term) → a ≡ Sum16 a b → ⊥
sum_is_larger_than a b e = let s : size a ≡ 1 + size a + size b = ap size e in omega arith

pub bit_is_larger : (s z ac p cy : Term) (part : Part) → chosen_flag s z ac p cy part ≡ Bit (FlagByte s z ac p cy) part → ⊥
bit_is_larger s z ac p cy S e = let h : size s ≡ 1 + (1 + size s + size z + size ac + size p + size cy) = ap size e in omega arith
bit_is_larger s z ac p cy Z e = let h : size z ≡ 1 + (1 + size s + size z + size ac + size p + size cy) = ap size e in omega arith
bit_is_larger s z ac p cy Ac e = let h : size ac ≡ 1 + (1 + size s + size z + size ac + size p + size cy) = ap size e in omega arith
bit_is_larger s z ac p cy P e = let h : size p ≡ 1 + (1 + size s + size z + size ac + size p + size cy) = ap size e in omega arith
bit_is_larger s z ac p cy Cy e = let h : size cy ≡ 1 + (1 + size s + size z + size ac + size p + size cy) = ap size e in omega arith
bit_is_larger s z ac p cy part e = cc
