-- What a tagged cell stands for on the 8086, where `offset` gives the offset of each place that has a label.
use Rattle.std.specs.Prelude.{◌≡◌, ◌<◌, ℕ, ◌/◌, ◌%◌, Option, Some, None}
use Rattle.cells.specs.declared.Place.{Place}
use Rattle.cells.specs.declared.Place.TheVariants.{At as AtPlace, Exit}
use Rattle.cells.specs.declared.Cell.{Cell}
use Rattle.cells.specs.declared.Cell.TheVariants.{Num, Lo, Hi, Psw, Junk}
use Rattle.cells.specs.Conditions.{KnowsBits}
use Rattle.asm86_line_types.specs.declared.line.Label.{Label}
use Rattle.asm86_line_types.specs.declared.line.Label.TheVariants.{At, End}

-- the label of a place; that of EXIT is X_END
abbrev pub label_of : Place → Label
label_of (AtPlace a) = At a
label_of Exit = End

-- a half of the offset of a place's label; without a label, none
abbrev pub IsHalf : (ℕ → ℕ) → Option ℕ → ℕ → Type 0
IsHalf half None b = ⊥
IsHalf half (Some offset) b = b ≡ half offset

-- a cell stands for a byte
abbrev pub Stands : (Place → Option ℕ) → Cell → ℕ → Type 0
Stands offset (Num n) b = b ≡ n
Stands offset (Lo q) b = IsHalf (λ n. n % 256) (offset q) b
Stands offset (Hi q) b = IsHalf (λ n. n / 256) (offset q) b
Stands offset (Psw f) b = (b < 256) × KnowsBits f b
Stands offset Junk b = b < 256
