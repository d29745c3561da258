use Rattle.std.proofs.Common.{◌≡◌, take, min, true, ltb}
use Rattle.std.specs.List.{list_all}
use Rattle.asm80_text.specs.Letters.{significant}
use Rattle.asm80_text.specs.Numbers.{digit_of, total}
use Rattle.asm80_text.proofs.numbers.value_in.Given as goal

abbrev pub invariant-loop-c : goal.invariant-loop-c
invariant-loop-c l = record {
  digits : list_all (λ c. ltb (digit_of c) l.base) (significant (take l.c-index l.text)) ≡ true;
  capped : l.total ≡ min (total l.base (significant (take l.c-index l.text))) 65536;
}
