-- Parts, operations and kinds of nodes by number, in the order in which they are listed.
use Rattle.std.specs.Prelude.{ℕ, ◌==◌, ◌/◌, ◌%◌, List, [], ◌∷◌, Bool, true, false, cond, slice_index_or}
use Rattle.cells.specs.declared.Place.{Place}
use Rattle.cells.specs.declared.Place.TheVariants.{At, Exit}
use Rattle.cells.specs.declared.Part.{Part}
use Rattle.cells.specs.declared.Part.TheVariants.{A, B, C, D, E, H, L, S, Z, Ac, P, Cy}
use Rattle.cells.specs.Parts.{all_parts}
use Rattle.i80.specs.declared.Op.{Op}
use Rattle.i80.specs.declared.Op.TheVariants.{Add, Adc, Sub, Sbb, Ana, Xra, Ora, Cmp}
use Rattle.sym_terms.specs.declared.numbers.Kind.{Kind}
use Rattle.sym_terms.specs.declared.numbers.Kind.TheVariants.{Num, Start, StartSp, Loaded8, Loaded16, Alu, Flag, Sum16, High, Low, Join, FlagByte, Rest, Bit, Turn, Turned, Adjust, Code, Unknown}

abbrev pub part_number : Part → ℕ
part_number A = 0
part_number B = 1
part_number C = 2
part_number D = 3
part_number E = 4
part_number H = 5
part_number L = 6
part_number S = 7
part_number Z = 8
part_number Ac = 9
part_number P = 10
part_number Cy = 11

abbrev pub part_numbered : ℕ → Part
part_numbered n = slice_index_or all_parts n A

abbrev pub op_number : Op → ℕ
op_number Add = 0
op_number Adc = 1
op_number Sub = 2
op_number Sbb = 3
op_number Ana = 4
op_number Xra = 5
op_number Ora = 6
op_number Cmp = 7

abbrev pub op_numbered : ℕ → Op
op_numbered n = slice_index_or (Add ∷ Adc ∷ Sub ∷ Sbb ∷ Ana ∷ Xra ∷ Ora ∷ Cmp ∷ []) n Add

abbrev pub kind_number : Kind → ℕ
kind_number Num = 0
kind_number Start = 1
kind_number StartSp = 2
kind_number Loaded8 = 3
kind_number Loaded16 = 4
kind_number Alu = 5
kind_number Flag = 6
kind_number Sum16 = 7
kind_number High = 8
kind_number Low = 9
kind_number Join = 10
kind_number FlagByte = 11
kind_number Rest = 12
kind_number Bit = 13
kind_number Turn = 14
kind_number Turned = 15
kind_number Adjust = 16
kind_number Code = 17
kind_number Unknown = 18

abbrev pub head_kinds : List Kind
head_kinds = Num ∷ Start ∷ StartSp ∷ Loaded8 ∷ Loaded16 ∷ Alu ∷ Flag ∷ Sum16 ∷ High ∷ Low ∷ Join ∷ FlagByte ∷ Rest ∷ Bit ∷ Turn ∷ Turned ∷ Adjust ∷ Code ∷ Unknown ∷ []

-- an `op` is the number of a kind, and 32 more where an Adjust stands in the term
abbrev pub kind_of : ℕ → Kind
kind_of op = slice_index_or head_kinds (op % 32) Unknown

abbrev pub says_adjusted : ℕ → Bool
says_adjusted op = op / 32 == 1

abbrev pub bit_number : Bool → ℕ
bit_number true = 1
bit_number false = 0

-- an address, or EXIT where this number is not 0
abbrev pub place_numbered : ℕ → ℕ → Place
place_numbered zero_if_at address = cond (zero_if_at == 0) (At address) Exit
