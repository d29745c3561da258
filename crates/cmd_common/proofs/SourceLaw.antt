-- What is known of sources, in a spelling: one is that of one program, or is refused by one line and rule, and not both. So a command stops
-- for one reason.
use Rattle.std.proofs.Common.{◌≡◌, ℕ, Bool, true, false, List}
use Rattle.asm80_types.specs.Reading.{Reading}
use Rattle.asm80_text.specs.Intel.{intel_reading}
use Rattle.zilog80.specs.Zilog.{zilog_reading}
use Rattle.asm80_types.specs.Program.{Program}
use Rattle.asm80_source_def.specs.Source.{IsSource, OfLine, OfProgram}
use Rattle.cmd_common.specs.declared.stop.Stop.{Stop}
use Rattle.cmd_common.specs.Sources.{reading_of, SourceLaw, SourceStops, of_line, of_program}

module _ {reading : Reading} (law : SourceLaw reading) where
  pub not_source_and_stop : (bytes : List ℕ) (top : ℕ) (p : Program) (stop : Stop) → IsSource reading bytes top p → SourceStops reading bytes top stop → ⊥
  not_source_and_stop bytes top p _ is (of_line {line = n} {rule = r} h) = law.apart bytes top n p (OfLine r) is h
  not_source_and_stop bytes top p _ is (of_program {line = n} {rule = r} h) = law.apart bytes top n p (OfProgram r) is h

  pub one_source_stop : (bytes : List ℕ) (top : ℕ) (s t : Stop) → SourceStops reading bytes top s → SourceStops reading bytes top t → s ≡ t
  one_source_stop bytes top _ _ (of_line {line = m} {rule = r} x) (of_line {line = n} {rule = s} y) =
      let e = law.refusal bytes top m n (OfLine r) (OfLine s) x y in
      let lines : m ≡ n = e.0 in
      let rules : OfLine r ≡ OfLine s = e.1 in
      cc
  one_source_stop bytes top _ _ (of_line {line = m} {rule = r} x) (of_program {line = n} {rule = s} y) =
      let e = law.refusal bytes top m n (OfLine r) (OfProgram s) x y in
      let rules : OfLine r ≡ OfProgram s = e.1 in
      cc
  one_source_stop bytes top _ _ (of_program {line = m} {rule = r} x) (of_line {line = n} {rule = s} y) =
      let e = law.refusal bytes top m n (OfProgram r) (OfLine s) x y in
      let rules : OfProgram r ≡ OfLine s = e.1 in
      cc
  one_source_stop bytes top _ _ (of_program {line = m} {rule = r} x) (of_program {line = n} {rule = s} y) =
      let e = law.refusal bytes top m n (OfProgram r) (OfProgram s) x y in
      let lines : m ≡ n = e.0 in
      let rules : OfProgram r ≡ OfProgram s = e.1 in
      cc

-- what holds by either reading holds by the one that the words of a command ask for
pub either_reading : (P : Reading → Type 0) → P intel_reading → P zilog_reading → (zilog : Bool) → P (reading_of zilog)
either_reading P intel zilog true = zilog
either_reading P intel zilog false = intel
