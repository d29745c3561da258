-- The fetch of the machine: what the decoder makes of the bytes from an address on. Law `memory_is_fetched` says what it is by the
-- encodings alone.
use Rattle.i80_bytes.specs.Decoder.{decoded80}
use Rattle.cpu80.specs.Step.{Fetch}
use Rattle.i80_bytes.specs.InMemory.{bytes_from}

abbrev pub fetch_of_bytes : Fetch
fetch_of_bytes u a = decoded80 (bytes_from u.mem a)
