-- What is known of HEX files makes `runhex` come to one thing.
use Rattle.std.proofs.Common.{◌≡◌, ℕ, List, [], ◌∷◌, refl, sym, ap, subst, ◌∙◌}
use Rattle.hex_file.specs.declared.fault.HexFault.{HexFault}
use Rattle.hex_file.specs.declared.fault.HexFault.TheVariants.{Bad, Memory}
use Rattle.hex_file.specs.HexFile.{IsHexOf, IsHexFaultOf}
use Rattle.host.specs.Host.{HostState, SameFaults}
use Rattle.i80_bytes.specs.Fetch.{fetch_of_bytes}
use Rattle.emulators.specs.ByteCourses.{course_bytes}
use Rattle.cmd_arguments.specs.Words.{RunHex}
use Rattle.cmd_common.specs.declared.stop.Stop.{Stop}
use Rattle.cmd_common.specs.declared.stop.Stop.TheVariants.{BadHex}
use Rattle.cmd_common.specs.Files.{IsWholeFile, input_limit}
use Rattle.cmd_runs.specs.Supplies.{Given, IsSupplied, fill_by}
use Rattle.cmd_runs.specs.Kinds.{NothingToRun, is_refused, no_memory}
use Rattle.cmd_runs.specs.RunsHex.{HexStops, stop_of_hex, kind_hex}
use Rattle.cmd_runs.proofs.OneOutcome.{KindLaws}

pub laws_hex : ((bytes : List ℕ) (cells others : List (ℕ × ℕ)) → IsHexOf bytes cells → IsHexOf bytes others → cells ≡ others) →
    ((bytes : List ℕ) (j k : ℕ) → IsHexFaultOf bytes (Bad j) → IsHexFaultOf bytes (Bad k) → j ≡ k) →
    ((bytes : List ℕ) (cells : List (ℕ × ℕ)) (k : ℕ) → IsHexOf bytes cells → IsHexFaultOf bytes (Bad k) → ⊥) →
    (c : RunHex) → KindLaws (kind_hex c)
laws_hex one fault apart c = record {
  one = one;
  refusal = λ bytes s t x y. x.2 ∙ ap BadHex (fault bytes x.0 y.0 x.1 y.1) ∙ sym y.2;
  apart = λ bytes cells stop is stops. apart bytes cells stops.0 is stops.1;
  course = λ cells fetches. (course_bytes fetch_of_bytes cells c.top c.run.page (fill_by c.choice) (c.choice ∷ []), record { fetches = fetches; is = refl });
  line = λ cells end m n x y. x ∙ sym y;
}

-- the file is no HEX file, and the other files were read
module _ (c : RunHex) (old new : HostState) (bytes : List ℕ) (given : Given) (file : IsWholeFile old c.file input_limit bytes) (supplied : IsSupplied c.run old given) (same : SameFaults old new) where
  by_fault : (fault : HexFault) → IsHexFaultOf bytes fault → NothingToRun (kind_hex c) old new (stop_of_hex fault)
  by_fault (Bad line) h = is_refused bytes given file supplied same (line, h, refl)
  by_fault Memory h = no_memory

  pub hex_stops : (stop : Stop) → HexStops bytes stop → NothingToRun (kind_hex c) old new stop
  hex_stops stop h = subst (NothingToRun (kind_hex c) old new) (sym h.2) (by_fault h.0 h.1)
