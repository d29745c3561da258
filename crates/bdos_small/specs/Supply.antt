-- What a system has left to answer with.
use Rattle.std.specs.Prelude.{ℕ, List, None}
use Rattle.bdos_small.specs.Stored.{Stored}
use Rattle.bdos_small.specs.Small.{Small, small_of}

-- a small BDOS with its disk and the input of its console, and the bytes that its ports give
pub record Supply : Type 0 where
  pub system : Small
  pub ports : List ℕ

abbrev pub supply_of : Small → List ℕ → Supply
supply_of system ports = record { system = system; ports = ports }

-- what devices have before the first event: no search goes on
abbrev pub first_supply : List Stored → List ℕ → List ℕ → Supply
first_supply disk input ports = supply_of (small_of disk input None) ports
