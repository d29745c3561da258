-- Instructions that `==` finds to be the same are the same.
use Rattle.std.proofs.Common.{◌≡◌, true, subst}
use Rattle.std.proofs.lemmas.Slice.Eq.{bytes_eq-Decides}
use denote.Enum.Bare.{same_true}
use Rattle.i86.specs.declared.Reg16.{Reg16}
use Rattle.i86.specs.contracts.Reg16.{the_type as reg16s}
use Rattle.i86.specs.contracts.Reg16PartialEq.TheImpl as reg16_eq
use Rattle.i86.specs.declared.Jump.{Jump}
use Rattle.i86.specs.contracts.Jump.{the_type as jumps}
use Rattle.i86.specs.contracts.JumpPartialEq.TheImpl as jump_eq
use Rattle.i86.specs.declared.Instr86.{Instr86}
use Rattle.i86.specs.contracts.encoding.Instr86PartialEq.TheImpl as instr86_eq
use Rattle.i86.specs.Enc86.{enc86}
use Rattle.i86.specs.Code.{HasBytes}
use Rattle.i86.proofs.Prefixes.{has_itself, one_stands}

pub same_reg16 : (a b : Reg16) → reg16_eq.eq-value.it a b ≡ true → a ≡ b
same_reg16 a b h = same_true reg16s tt a b h

pub same_jump : (a b : Jump) → jump_eq.eq-value.it a b ≡ true → a ≡ b
same_jump a b h = same_true jumps tt a b h

pub same_instr86 : (a b : Instr86) → instr86_eq.eq-value.it a b ≡ true → a ≡ b
same_instr86 a b h =
    let same_bytes = (bytes_eq-Decides (enc86 a) (enc86 b)).0 h in
    one_stands (enc86 b) 0 a b (subst (λ c. HasBytes c 0 (enc86 a)) same_bytes (has_itself (enc86 a))) (has_itself (enc86 b))
