-- The first block of a list with a reason.
use Rattle.std.proofs.Common.{◌≡◌, ℕ, Option, Some, None, refl}
use Rattle.sym_block_def.specs.declared.reason.Reason.{Reason}
use Rattle.simulation_def.specs.Matches.{or_next}

-- where there is none, the first block has none, nor has any other
pub no_reason : (first : ℕ) (o : Option Reason) (rest : Option (ℕ × Reason)) → or_next first o rest ≡ None → (o ≡ None) × (rest ≡ None)
no_reason first None rest h = (refl, h)
no_reason first (Some r) rest h = absurd (cc)
