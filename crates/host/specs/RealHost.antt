-- What a host tells that tells nothing but its counts.
use Rattle.std.specs.Prelude.{ℕ, None}
use Rattle.host.specs.Host.{Untold, HostState}

-- no file and nothing that was said is told
abbrev pub untold : ℕ → ℕ → ℕ → HostState
untold read_faults write_faults memory_faults = record {
  file = λ name. Untold;
  said = None;
  read_faults = read_faults;
  write_faults = write_faults;
  memory_faults = memory_faults;
}
