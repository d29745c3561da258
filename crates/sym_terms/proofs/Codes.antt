-- A number gives back the part or the operation that it was given for.
use Rattle.std.proofs.Common.{◌≡◌, refl}
use Rattle.cells.specs.declared.Part.{Part}
use Rattle.cells.specs.declared.Part.TheVariants.{A, B, C, D, E, H, L, S, Z, Ac, P, Cy}
use Rattle.i80.specs.declared.Op.{Op}
use Rattle.i80.specs.declared.Op.TheVariants.{Add, Adc, Sub, Sbb, Ana, Xra, Ora, Cmp}
use Rattle.sym_terms.specs.Numbers.{part_number, part_numbered, op_number, op_numbered}

pub part_of-part_number : (q : Part) → part_numbered (part_number q) ≡ q
part_of-part_number A = refl
part_of-part_number B = refl
part_of-part_number C = refl
part_of-part_number D = refl
part_of-part_number E = refl
part_of-part_number H = refl
part_of-part_number L = refl
part_of-part_number S = refl
part_of-part_number Z = refl
part_of-part_number Ac = refl
part_of-part_number P = refl
part_of-part_number Cy = refl

pub op_of-op_number : (op : Op) → op_numbered (op_number op) ≡ op
op_of-op_number Add = refl
op_of-op_number Adc = refl
op_of-op_number Sub = refl
op_of-op_number Sbb = refl
op_of-op_number Ana = refl
op_of-op_number Xra = refl
op_of-op_number Ora = refl
op_of-op_number Cmp = refl
