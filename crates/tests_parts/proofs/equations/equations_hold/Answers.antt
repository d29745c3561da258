use Rattle.std.proofs.Common.{refl}
use Rattle.tests_parts.proofs.equations.equations_hold.Goals as goal

pub returns : goal.returns
returns c = record {
  numbers = record { high_byte = refl; low_byte = refl; number = refl };
  halves = record { joined = refl; exchanged = refl; made = refl; parted = refl; first = refl; second = refl };
  flag_bytes = record {
    sign = λ s z ac p cy. refl;
    zero_flag = λ s z ac p cy. refl;
    half_carry = λ s z ac p cy. refl;
    parity = λ s z ac p cy. refl;
    carry = λ s z ac p cy. refl;
  };
  sums = record { one = refl; gathered = refl; nothing = refl; back = refl };
  flags = record {
    of_and = refl;
    of_exclusive = refl;
    of_inclusive = refl;
    of_sum = refl;
    sign = refl;
    half = refl;
    half_of_difference = refl;
    half_of_and = refl;
  };
  unknowns = record {
    operation = refl;
    a_bit = refl;
    half = refl;
    rotation = refl;
    adjustment = refl;
    rotated = refl;
    half_of_rotated = refl;
    sum_with_rotated = refl;
  };
}
