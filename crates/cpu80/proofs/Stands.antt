-- When bytes stand for what the tagged machine knows: a number is the byte; the halves of a place are those of its address, EXIT
-- being 0; a flag byte has the flags that are known; of all else any byte may stand.
use Rattle.std.proofs.Common.{◌≡◌, ℕ, ◌+◌, ◌*◌, ◌/◌, ◌%◌, ◌<◌, ◌==◌, Bool, true, false, cond, Ok, refl, ap, subst, ◌∙◌, arith}
use Rattle.cells.specs.declared.Place.{Place}
use Rattle.cells.specs.declared.Flags.{Flags}
use Rattle.cells.specs.declared.Cell.{Cell}
use Rattle.cells.specs.declared.Cell.TheVariants.{Num, Lo, Hi, Psw, Junk}
use Rattle.cells.specs.declared.Rule.{Rule}
use Rattle.cells.specs.Conditions.{Knows, KnowsBits}
use Rattle.i80.specs.declared.Reg.{Reg}
use Rattle.i80.specs.declared.Reg.TheVariants.{A, B, C, D, E, H, L}
use Rattle.dialogue.proofs.Tried.{ok_is, err_is_not, then_is}
use Rattle.dialogue.specs.Tried.{try_then}
use Rattle.dialogue.specs.ByteMemory.{put}
use Rattle.std.proofs.lemmas.Bool.{eqb-true}
use Rattle.asm80_types.specs.Program.{Program, is_code}
use Rattle.cpu80_tagged.specs.State.{Regs80, State80, reg80, with_reg80, num_or}
use Rattle.cpu80_tagged.specs.Memory.{put as put80}
use Rattle.cpu80.specs.State.{UntaggedFlags, UntaggedRegs, UntaggedState, reg, with_reg}
use Rattle.cpu80.specs.Start.{address_of}

abbrev pub Means : Cell → ℕ → Type 0
Means (Num n) b = b ≡ n
Means (Lo q) b = b ≡ address_of q % 256
Means (Hi q) b = b ≡ address_of q / 256
Means (Psw f) b = KnowsBits f b
Means Junk b = Unit {0}

pub record Stands (v : Cell) (b : ℕ) : Type 0 where
  pub means : Means v b
  pub small : b < 256

pub record FlagsStand (f : Flags) (g : UntaggedFlags) : Type 0 where
  pub s : Knows f.s g.s
  pub z : Knows f.z g.z
  pub ac : Knows f.ac g.ac
  pub p : Knows f.p g.p
  pub cy : Knows f.cy g.cy

pub record RegsStand (x : Regs80) (y : UntaggedRegs) : Type 0 where
  pub a : Stands x.a y.a
  pub b : Stands x.b y.b
  pub c : Stands x.c y.c
  pub d : Stands x.d y.d
  pub e : Stands x.e y.e
  pub h : Stands x.h y.h
  pub l : Stands x.l y.l

-- the cells of the program's instructions, of which the tagged machine knows nothing, hold what they held at the start
pub record CellsStand (p : Program) (held : ℕ → ℕ) (m : ℕ → Cell) (n : ℕ → ℕ) : Type 0 where
  pub each : (a : ℕ) → Stands (m a) (n a)
  pub code : (a : ℕ) → is_code p a ≡ true → n a ≡ held a

pub record StatesStand (p : Program) (held : ℕ → ℕ) (s : State80) (u : UntaggedState) : Type 0 where
  pub regs : RegsStand s.regs u.regs
  pub flags : FlagsStand s.flags u.flags
  pub mem : CellsStand p held s.mem u.mem
  pub sp : u.sp ≡ s.sp
  pub sp_small : s.sp < 0x10000
  pub place : u.place ≡ s.place
  pub dma : u.dma ≡ s.dma

-- registers

pub reg_stands : (x : Regs80) (y : UntaggedRegs) (r : Reg) → RegsStand x y → Stands (reg80 x r) (reg y r)
reg_stands x y A h = h.a
reg_stands x y B h = h.b
reg_stands x y C h = h.c
reg_stands x y D h = h.d
reg_stands x y E h = h.e
reg_stands x y H h = h.h
reg_stands x y L h = h.l

pub set_stands : (x : Regs80) (y : UntaggedRegs) (r : Reg) (v : Cell) (b : ℕ) → RegsStand x y → Stands v b → RegsStand (with_reg80 x r v) (with_reg y r b)
set_stands x y A v b h k = record { a = k; b = h.b; c = h.c; d = h.d; e = h.e; h = h.h; l = h.l }
set_stands x y B v b h k = record { a = h.a; b = k; c = h.c; d = h.d; e = h.e; h = h.h; l = h.l }
set_stands x y C v b h k = record { a = h.a; b = h.b; c = k; d = h.d; e = h.e; h = h.h; l = h.l }
set_stands x y D v b h k = record { a = h.a; b = h.b; c = h.c; d = k; e = h.e; h = h.h; l = h.l }
set_stands x y E v b h k = record { a = h.a; b = h.b; c = h.c; d = h.d; e = k; h = h.h; l = h.l }
set_stands x y H v b h k = record { a = h.a; b = h.b; c = h.c; d = h.d; e = h.e; h = k; l = h.l }
set_stands x y L v b h k = record { a = h.a; b = h.b; c = h.c; d = h.d; e = h.e; h = h.h; l = k }

-- memory

not_both : (b : Bool) → b ≡ true → b ≡ false → ⊥
not_both true h k = absurd (cc)
not_both false h k = absurd (cc)

module _ {p : Program} {held : ℕ → ℕ} where
  -- a cell that is none of an instruction is written
  pub put_stands : (m : ℕ → Cell) (n : ℕ → ℕ) (a : ℕ) (v : Cell) (b : ℕ) → CellsStand p held m n → Stands v b → is_code p a ≡ false → CellsStand p held (put80 m a v) (put n a b)
  put_stands m n a v b h k free = record { each = λ at. by_place at (at == a); code = λ at c. by_code at c (at == a) refl }
    where
      by_place : (at : ℕ) (t : Bool) → Stands (cond t v (m at)) (cond t b (n at))
      by_place at true = k
      by_place at false = h.each at

      by_code : (at : ℕ) → is_code p at ≡ true → (t : Bool) → (at == a) ≡ t → cond t b (n at) ≡ held at
      by_code at c true e = absurd (not_both (is_code p a) (subst (λ x. is_code p x ≡ true) (eqb-true at a e) c) free)
      by_code at c false e = h.code at c

  -- states that differ in one part

  pub sets_regs : (s : State80) (u : UntaggedState) (x : Regs80) (y : UntaggedRegs) → StatesStand p held s u → RegsStand x y → StatesStand p held (record s { regs = x }) (record u { regs = y })
  sets_regs s u x y d h = record { regs = h; flags = d.flags; mem = d.mem; sp = d.sp; sp_small = d.sp_small; place = d.place; dma = d.dma }

  pub sets_flags : (s : State80) (u : UntaggedState) (f : Flags) (g : UntaggedFlags) → StatesStand p held s u → FlagsStand f g → StatesStand p held (record s { flags = f }) (record u { flags = g })
  sets_flags s u f g d h = record { regs = d.regs; flags = h; mem = d.mem; sp = d.sp; sp_small = d.sp_small; place = d.place; dma = d.dma }

  pub sets_cells : (s : State80) (u : UntaggedState) (m : ℕ → Cell) (n : ℕ → ℕ) → StatesStand p held s u → CellsStand p held m n → StatesStand p held (record s { mem = m }) (record u { mem = n })
  sets_cells s u m n d h = record { regs = d.regs; flags = d.flags; mem = h; sp = d.sp; sp_small = d.sp_small; place = d.place; dma = d.dma }

  pub sets_sp : (s : State80) (u : UntaggedState) (w : ℕ) → StatesStand p held s u → w < 0x10000 → StatesStand p held (record s { sp = w }) (record u { sp = w })
  sets_sp s u w d h = record { regs = d.regs; flags = d.flags; mem = d.mem; sp = refl; sp_small = h; place = d.place; dma = d.dma }

  pub sets_place : (s : State80) (u : UntaggedState) (q : Place) → StatesStand p held s u → StatesStand p held (record s { place = q }) (record u { place = q })
  sets_place s u q d = record { regs = d.regs; flags = d.flags; mem = d.mem; sp = d.sp; sp_small = d.sp_small; place = refl; dma = d.dma }

-- numbers

pub number : (n : ℕ) → n < 256 → Stands (Num n) n
number n lt = record { means = refl; small = lt }

-- a cell that is taken as a number is one, and the byte is that number
pub number_is : (r : Rule) (v : Cell) (n b : ℕ) → Stands v b → num_or r v ≡ Ok n → b ≡ n
number_is r (Num m) n b h e = h.means ∙ ok_is m n e
number_is r (Lo q) n b h e = absurd (err_is_not r n e)
number_is r (Hi q) n b h e = absurd (err_is_not r n e)
number_is r (Psw f) n b h e = absurd (err_is_not r n e)
number_is r Junk n b h e = absurd (err_is_not r n e)

-- two cells that are taken as a word
pub word_is : (r : Rule) (h l : Cell) (a b n : ℕ) → Stands h a → Stands l b → try_then (num_or r h) (λ x. try_then (num_or r l) (λ y. Ok (256 * x + y))) ≡ Ok n → 256 * a + b ≡ n
word_is r h l a b n ha lb e =
    let x = then_is (num_or r h) _ n e in
    let y = then_is (num_or r l) _ n x.2 in
    ap (λ k. 256 * k + b) (number_is r h x.0 a ha x.1) ∙ ap (λ k. 256 * x.0 + k) (number_is r l y.0 b lb y.1) ∙ ok_is _ n y.2

pub word_small : (a b : ℕ) → a < 256 → b < 256 → 256 * a + b < 0x10000
word_small a b ha hb = omega (arith, ha, hb)
