-- The start: the bytes of a fill, the page and the program stand for what the tagged machine knows.
use Rattle.std.proofs.Common.{◌≡◌, ℕ, zero, suc, ◌-◌, ◌/◌, ◌%◌, ◌<◌, ◌==◌, Bool, true, false, cond, List, [], ◌∷◌, Option, Some, None, refl, sym, ap, subst, ◌∙◌, arith}
use Rattle.std.specs.Prelude.{All, slice_index, nat_le, nat_lt, ◌&&◌}
use Rattle.std.proofs.lemmas.Bool.{eqb-true}
use Rattle.std.proofs.lemmas.List.Elements.{All-head, All-tail}
use Rattle.cells.specs.declared.Place.TheVariants.{At, Exit}
use Rattle.cells.specs.declared.Cell.{Cell}
use Rattle.cells.specs.declared.Cell.TheVariants.{Num, Lo, Hi, Psw, Junk}
use Rattle.asm80_types.specs.Program.{Program, IsProgram, cell_in, cell_at, is_top, IsDatum, AreData}
use Rattle.cpu80_tagged.specs.Start.{IsPage, start_cell80, cell_or_junk, start80}
use Rattle.dialogue.specs.Fill.{IsFill}
use Rattle.cpu80.specs.Start.{byte_of_cell, datum_or, system_byte, data_over, start_over}
use Rattle.cpu80.specs.Follows.{HasData}
use Rattle.cpu80.proofs.Stands.{Stands, StatesStand, number}
use Rattle.cpu80.proofs.MovesStand.{high_small, low_small, high_of_place, low_of_place}
use Rattle.asm80_types.proofs.Standing.{start_range}

-- bytes of a list of bytes; past its end there are zeros
pub byte_in : (xs : List ℕ) (k : ℕ) → All (λ b. b < 256) xs → slice_index xs k < 256
byte_in [] k all = omega arith
byte_in (x ∷ xs) zero all = All-head (λ b. b < 256) x xs all
byte_in (x ∷ xs) (suc k) all = byte_in xs k (All-tail (λ b. b < 256) x xs all)

-- a data cell is one of the program's
datum_in : (p : Program) (cs : List (ℕ × Cell)) (a : ℕ) (v : Cell) → AreData p cs → cell_in cs a ≡ Some v → IsDatum p a v
datum_in p [] a v all e = absurd (cc)
datum_in p (c ∷ cs) a v all e = by_place (c.0 == a) refl e (datum_in p cs a v all.1)
  where
    some_is : (x y : Cell) → Some x ≡ Some y → x ≡ y
    some_is x y e = cc

    by_place : (b : Bool) → (c.0 == a) ≡ b → cond b (Some c.1) (cell_in cs a) ≡ Some v → (cell_in cs a ≡ Some v → IsDatum p a v) → IsDatum p a v
    by_place true h f later = subst (λ k. IsDatum p k v) (eqb-true c.0 a h) (subst (IsDatum p c.0) (some_is c.1 v f) all.0)
    by_place false h f later = later f

top_small : (t : ℕ) → is_top t ≡ true → t < 0x10000
top_small t e = grind (arith, e)

any : (b : ℕ) → b < 256 → Stands Junk b
any b lt = record { means = tt; small = lt }

module _ (p : Program) (g : IsProgram p) where
  datum_stands : (a : ℕ) (v : Cell) → IsDatum p a v → Stands v (byte_of_cell v 0)
  datum_stands a (Num n) h = number n h
  datum_stands a (Lo (At q)) h = low_of_place q
  datum_stands a (Lo Exit) h = absurd h
  datum_stands a (Hi (At q)) h = high_of_place q (start_range p q g h.0).1
  datum_stands a (Hi Exit) h = absurd h
  datum_stands a (Psw f) h = absurd h
  datum_stands a Junk h = absurd h

  -- a data cell is a byte
  pub datum_small : (a : ℕ) (v : Cell) → cell_at p a ≡ Some v → byte_of_cell v 0 < 256
  datum_small a v e = (datum_stands a v (datum_in p p.cells a v g.values e)).small

  -- the program's data over a fill

  datum_same : (a : ℕ) (v : Cell) (b : ℕ) → IsDatum p a v → byte_of_cell v b ≡ byte_of_cell v 0
  datum_same a (Num n) b h = refl
  datum_same a (Lo q) b h = refl
  datum_same a (Hi q) b h = refl
  datum_same a (Psw f) b h = absurd h
  datum_same a Junk b h = absurd h

  module _ (fill : List ℕ) (is_fill : IsFill fill) where
    from_fill : (k : ℕ) → slice_index fill k < 256
    from_fill k = byte_in fill k is_fill.bytes

    pub has_data : HasData p (data_over p fill)
    has_data = record { bytes = λ a. small a (cell_at p a) refl; cells = λ a v e. ap (λ o. datum_or o (slice_index fill a)) e ∙ datum_same a v (slice_index fill a) (datum_in p p.cells a v g.values e) }
      where
        small : (a : ℕ) (o : Option Cell) → cell_at p a ≡ o → datum_or o (slice_index fill a) < 256
        small a None e = from_fill a
        small a (Some v) e =
            subst (λ n. n < 256) (sym (datum_same a v (slice_index fill a) (datum_in p p.cells a v g.values e))) (datum_small a v e)

  -- the start over any memory that has the data

  module _ (under : ℕ → ℕ) (has : HasData p under) (page fill : List ℕ) (is_page : IsPage page) (is_fill : IsFill fill) where
    data_stand : (a : ℕ) (o : Option Cell) → cell_at p a ≡ o → Stands (cell_or_junk o) (under a)
    data_stand a None e = any (under a) (has.bytes a)
    data_stand a (Some v) e = subst (Stands v) (sym (has.cells a v e)) (datum_stands a v (datum_in p p.cells a v g.values e))

    each_stands : (a : ℕ) → Stands (start_cell80 p page a) (system_byte p.top page under a)
    each_stands a = by_tests (a == 6) (a == 7) (nat_le 0x5C a && nat_lt a 0x100) (a == p.top - 2) (a == p.top - 1)
      where
        by_tests : (b c d e f : Bool) → Stands (cond b (Num (p.top % 256)) (cond c (Num (p.top / 256)) (cond d (Num (slice_index page (a - 0x5C))) (cond e (Lo Exit) (cond f (Hi Exit) (cell_or_junk (cell_at p a))))))) (cond b (p.top % 256) (cond c (p.top / 256) (cond d (slice_index page (a - 0x5C)) (cond e 0 (cond f 0 (under a))))))
        by_tests true c d e f = number (p.top % 256) (low_small p.top)
        by_tests false true d e f = number (p.top / 256) (high_small p.top (top_small p.top g.top))
        by_tests false false true e f = number (slice_index page (a - 0x5C)) (byte_in page (a - 0x5C) is_page.bytes)
        by_tests false false false true f = record { means = refl; small = omega arith }
        by_tests false false false false true = record { means = refl; small = omega arith }
        by_tests false false false false false = data_stand a (cell_at p a) refl

    pub starts_stand : StatesStand p (system_byte p.top page under) (start80 p page) (start_over p.top fill (system_byte p.top page under))
    starts_stand = record {
      regs = record {
        a = any _ (from_fill fill is_fill 8);
        b = any _ (from_fill fill is_fill 9);
        c = any _ (from_fill fill is_fill 10);
        d = any _ (from_fill fill is_fill 11);
        e = any _ (from_fill fill is_fill 12);
        h = any _ (from_fill fill is_fill 13);
        l = any _ (from_fill fill is_fill 14);
      };
      flags = record { s = tt; z = tt; ac = tt; p = tt; cy = tt };
      mem = record { each = each_stands; code = λ a c. refl };
      sp = refl;
      sp_small = below;
      place = refl;
      dma = refl;
    }
      where
        below : p.top - 2 < 0x10000
        below = let lt = top_small p.top g.top in omega (arith, lt)
