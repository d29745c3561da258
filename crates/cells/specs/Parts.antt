-- Sets of the twelve parts of the machine: the seven registers and the five flags.
use Rattle.std.specs.Prelude.{◌≡◌, ◌<◌, ℕ, Bool, true, false, cond, ◌||◌, ◌+◌, List, [], ◌∷◌}
use Rattle.cells.specs.declared.Part.{Part}
use Rattle.cells.specs.declared.Part.TheVariants.{A, B, C, D, E, H, L, S, Z, Ac, P, Cy}
use Rattle.cells.specs.Bits.{has_bit}

-- a set says of each part whether it is a member
pub record Parts : Type 0 where
  pub a : Bool
  pub b : Bool
  pub c : Bool
  pub d : Bool
  pub e : Bool
  pub h : Bool
  pub l : Bool
  pub s : Bool
  pub z : Bool
  pub ac : Bool
  pub p : Bool
  pub cy : Bool

-- whether a part is a member
abbrev pub has : Parts → Part → Bool
has k A = k.a
has k B = k.b
has k C = k.c
has k D = k.d
has k E = k.e
has k H = k.h
has k L = k.l
has k S = k.s
has k Z = k.z
has k Ac = k.ac
has k P = k.p
has k Cy = k.cy

-- the set without a member
abbrev pub nothing : Parts
nothing = record { a = false; b = false; c = false; d = false; e = false; h = false; l = false; s = false; z = false; ac = false; p = false; cy = false }

-- the set of all twelve
abbrev pub everything : Parts
everything = record { a = true; b = true; c = true; d = true; e = true; h = true; l = true; s = true; z = true; ac = true; p = true; cy = true }

-- the set with one member
abbrev pub only : Part → Parts
only A = record nothing { a = true }
only B = record nothing { b = true }
only C = record nothing { c = true }
only D = record nothing { d = true }
only E = record nothing { e = true }
only H = record nothing { h = true }
only L = record nothing { l = true }
only S = record nothing { s = true }
only Z = record nothing { z = true }
only Ac = record nothing { ac = true }
only P = record nothing { p = true }
only Cy = record nothing { cy = true }

-- the union: the members of the one and of the other
abbrev pub union : Parts → Parts → Parts
union k m =
    record {
      a = k.a || m.a;
      b = k.b || m.b;
      c = k.c || m.c;
      d = k.d || m.d;
      e = k.e || m.e;
      h = k.h || m.h;
      l = k.l || m.l;
      s = k.s || m.s;
      z = k.z || m.z;
      ac = k.ac || m.ac;
      p = k.p || m.p;
      cy = k.cy || m.cy;
    }

-- the members of a list
abbrev pub these : List Part → Parts
these [] = nothing
these (p ∷ ps) = union (only p) (these ps)

-- the parts in their order
abbrev pub all_parts : List Part
all_parts = A ∷ B ∷ C ∷ D ∷ E ∷ H ∷ L ∷ S ∷ Z ∷ Ac ∷ P ∷ Cy ∷ []

-- the set that bits stand for: bit 0 is A, and so on in the order of the parts to bit 11, which is CY
abbrev pub parts_of_bits : ℕ → Parts
parts_of_bits n =
    record {
      a = has_bit n 0;
      b = has_bit n 1;
      c = has_bit n 2;
      d = has_bit n 3;
      e = has_bit n 4;
      h = has_bit n 5;
      l = has_bit n 6;
      s = has_bit n 7;
      z = has_bit n 8;
      ac = has_bit n 9;
      p = has_bit n 10;
      cy = has_bit n 11;
    }

-- a bit's value where it is set
abbrev pub weight : Bool → ℕ → ℕ
weight set value = cond set value 0

-- the bits that stand for a set
abbrev pub bits_of_parts : Parts → ℕ
bits_of_parts k = weight k.a 1 + weight k.b 2 + weight k.c 4 + weight k.d 8 + weight k.e 16 + weight k.h 32 + weight k.l 64 + weight k.s 128 + weight k.z 256 + weight k.ac 512 + weight k.p 1024 + weight k.cy 2048

-- bits that stand for a set: no more than twelve, and the set gives them back
abbrev pub AreParts : ℕ → Type 0
AreParts n = (n < 4096) × (bits_of_parts (parts_of_bits n) ≡ n)
