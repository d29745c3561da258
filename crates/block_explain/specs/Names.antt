-- What stands in terms, in words: numbers, labels, parts and operations. The words are this project's own.
use Rattle.std.specs.Prelude.{ℕ, nat_lt, cond, codes, Bool, true, false, List, [], ◌∷◌, ◌++◌}
use Rattle.std.specs.Fmt.{digits}
use Rattle.cells.specs.declared.Place.{Place}
use Rattle.cells.specs.declared.Place.TheVariants.{At, Exit}
use Rattle.cells.specs.declared.Part.{Part}
use Rattle.cells.specs.declared.Part.TheVariants.{A, B, C, D, E, H, L, S, Z, Ac, P, Cy}
use Rattle.i80.specs.declared.Op.{Op}
use Rattle.i80.specs.declared.Op.TheVariants.{Add, Adc, Sub, Sbb, Ana, Xra, Ora, Cmp}
use Rattle.asm86_line_types.specs.declared.line.Label.TheVariants.{At as LabelAt, End as LabelEnd}
use Rattle.asm86_line_types.specs.Written.{label_text}

-- as in ASM and ASM-86: a number begins with a digit, so a 0 stands before a letter
abbrev pub zero_first : List ℕ → List ℕ
zero_first [] = []
zero_first (d ∷ ds) = cond (nat_lt d 0x41) (d ∷ ds) (0x30 ∷ (d ∷ ds))

-- a number: its hexadecimal digits in upper case, and H
abbrev pub number_words : ℕ → List ℕ
number_words n = zero_first (digits 16 true n) ++ codes "H"

-- the written label of a place, also where no instruction stands there
abbrev pub label_words : Place → List ℕ
label_words (At a) = label_text (LabelAt a)
label_words Exit = label_text LabelEnd

abbrev pub part_words : Part → List ℕ
part_words A = codes "A"
part_words B = codes "B"
part_words C = codes "C"
part_words D = codes "D"
part_words E = codes "E"
part_words H = codes "H"
part_words L = codes "L"
part_words S = codes "S"
part_words Z = codes "Z"
part_words Ac = codes "AC"
part_words P = codes "P"
part_words Cy = codes "CY"

-- a flag that a result leaves; a register is none, and has its letter
abbrev pub flag_words : Part → List ℕ
flag_words S = codes "sign"
flag_words Z = codes "zero"
flag_words Ac = codes "half carry"
flag_words P = codes "parity"
flag_words Cy = codes "carry"
flag_words part = part_words part

-- what stands between the operands of an operation
abbrev pub sign_words : Op → List ℕ
sign_words Add = codes " + "
sign_words Adc = codes " + "
sign_words Sub = codes " - "
sign_words Sbb = codes " - "
sign_words Ana = codes " AND "
sign_words Xra = codes " XOR "
sign_words Ora = codes " OR "
sign_words Cmp = codes " - "

-- ADC and SBB have the carry as their third operand
abbrev pub takes_carry : Op → Bool
takes_carry Adc = true
takes_carry Sbb = true
takes_carry op = false

-- which half of a word or of a code address
abbrev pub half_words : Bool → List ℕ
half_words true = codes "high "
half_words false = codes "low "
