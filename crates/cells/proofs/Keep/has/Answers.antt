use Rattle.std.proofs.Common.{ap, ◌∙◌, ◌==◌}
use Rattle.std.proofs.lemmas.Nat.Bits.{shr_and_one}
use denote.Enum.Declared.{tag_of}
use Rattle.cells.specs.Parts.{has}
use Rattle.cells.specs.contracts.Part.{the_type}
use Rattle.cells.proofs.KeepBits.{has_part}
use Rattle.cells.proofs.Keep.has.Goals as goal

pub returns : goal.returns
returns c =
    ap (λ v. v == 1) (shr_and_one c.self.inside.bits (tag_of the_type c.args.part)) ∙ has_part c.self.inside.bits c.args.part ∙ ap (λ k. has k c.args.part) c.self.view_is
