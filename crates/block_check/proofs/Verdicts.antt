-- The reason that a verdict was made of.
use Rattle.std.proofs.Common.{◌≡◌, Option, Some, None, refl}
use Rattle.sym_block_def.specs.declared.reason.Reason.{Reason}
use Rattle.block_check.specs.declared.block.Verdict.TheVariants.{Shown, NotShown}
use Rattle.block_check.specs.Comparing.{verdict_of}

pub none_found : (r : Option Reason) → Shown ≡ verdict_of r → r ≡ None
none_found None e = refl
none_found (Some r) e = absurd (cc)

pub some_found : (r : Option Reason) (reason : Reason) → NotShown reason ≡ verdict_of r → r ≡ Some reason
some_found None reason e = absurd (cc)
some_found (Some r) reason e = cc
