-- Environments of the two machines that stand for one another, and what is so of terms that agree.
use Rattle.std.specs.Prelude.{◌≡◌, ◌<◌, ℕ, ◌/◌, ◌%◌, Bool, true, List, [], ◌∷◌, Option}
use Rattle.cells.specs.declared.Place.{Place}
use Rattle.cells.specs.declared.Cell.{Cell}
use Rattle.cells.specs.declared.Part.{Part}
use Rattle.cells.specs.declared.Part.TheVariants.{A, B, C, D, E, H, L, S, Z, Ac, P, Cy}
use Rattle.cells.specs.Conditions.{Knows}
use Rattle.base.specs.Arithmetic.{as_bit}
use Rattle.sym_terms.specs.Term.{Term, is_byte, is_word}
use Rattle.sym_terms.specs.Values80.{Env80, Load80, LoadedByte, LoadedWord, Byte, Word, OneBit, Val80}
use Rattle.sym_terms.specs.Values86.{Env86, Load86, LoadedByte as LoadedByte86, LoadedWord as LoadedWord86, Number, Val86}
use Rattle.sym_terms.specs.Laws.{IsMadeAs}
use Rattle.sym_block_def.specs.Agree.{agrees}
use Rattle.sym_block_def.specs.Stands.{Stands}

-- a word's halves stand for a number's
abbrev pub WordStands : (Place → Option ℕ) → Cell → Cell → ℕ → Type 0
WordStands offset h l w = Stands offset h (w / 256) × Stands offset l (w % 256)

-- what was loaded, one by one
abbrev pub LoadsStand : (Place → Option ℕ) → List Load80 → List Load86 → Type 0
LoadsStand offset [] [] = Unit {0}
LoadsStand offset (LoadedByte c ∷ xs) (LoadedByte86 n ∷ ys) = Stands offset c n × LoadsStand offset xs ys
LoadsStand offset (LoadedWord h l ∷ xs) (LoadedWord86 w ∷ ys) = WordStands offset h l w × LoadsStand offset xs ys
LoadsStand offset xs ys = ⊥

-- what a part held at the start
abbrev pub StartStands : (Place → Option ℕ) → Env80 → Env86 → Part → Type 0
StartStands offset e d A = Stands offset e.a d.a
StartStands offset e d B = Stands offset e.b d.b
StartStands offset e d C = Stands offset e.c d.c
StartStands offset e d D = Stands offset e.d d.d
StartStands offset e d E = Stands offset e.e d.e
StartStands offset e d H = Stands offset e.h d.h
StartStands offset e d L = Stands offset e.l d.l
StartStands offset e d S = Knows e.flags.s d.s
StartStands offset e d Z = Knows e.flags.z d.z
StartStands offset e d Ac = Knows e.flags.ac d.ac
StartStands offset e d P = Knows e.flags.p d.p
StartStands offset e d Cy = Knows e.flags.cy d.cy

pub record EnvsStand (offset : Place → Option ℕ) (e : Env80) (d : Env86) : Type 0 where
  pub starts : (q : Part) → StartStands offset e d q
  pub sp : d.sp ≡ e.sp
  pub sp_fits : e.sp < 0x10000
  pub loads : LoadsStand offset e.loads d.loads
  pub offsets : (q : Place) → d.offset q ≡ offset q

-- terms that agree: a byte of the 8086 is below 256, a word below 65,536
pub record AgreeingTermsStand : Type 0 where
  pub byte : (offset : Place → Option ℕ) (e : Env80) (d : Env86) (s t : Term) (c : Cell) (n : ℕ) →
      EnvsStand offset e d → IsMadeAs is_byte t → agrees s t ≡ true → Val80 e s (Byte c) → Val86 d t (Number n) → n < 256 → Stands offset c n
  pub word : (offset : Place → Option ℕ) (e : Env80) (d : Env86) (s t : Term) (h l : Cell) (w : ℕ) →
      EnvsStand offset e d → IsMadeAs is_word t → agrees s t ≡ true → Val80 e s (Word h l) → Val86 d t (Number w) → w < 0x10000 → WordStands offset h l w
  pub flag : (offset : Place → Option ℕ) (e : Env80) (d : Env86) (s t : Term) (o : Option Bool) (b : Bool) →
      EnvsStand offset e d → agrees s t ≡ true → Val80 e s (OneBit o) → Val86 d t (Number (as_bit b)) → Knows o b
