-- What is known of sources makes `run80` come to one thing.
use Rattle.std.proofs.Common.{◌≡◌, ℕ, refl, sym, ◌∙◌, Some}
use Rattle.cells.specs.declared.Place.{Place}
use Rattle.cells.specs.declared.Place.TheVariants.{At, Exit}
use Rattle.asm80_types.specs.Program.{Program}
use Rattle.emulator_loop.specs.declared.emulator.Why.TheVariants.{Left, NoInstruction, StackSegment, OddCall}
use Rattle.emulator_loop.specs.declared.running.RunEnd.{RunEnd}
use Rattle.emulator_loop.specs.declared.running.RunEnd.TheVariants.{Ended, Stopped, StepLimit, InputEnded, NoDrive}
use Rattle.emulators.specs.Courses.{course80}
use Rattle.cmd_arguments.specs.Words.{Run80}
use Rattle.cmd_common.specs.Sources.{reading_of, SourceLaw}
use Rattle.cmd_common.proofs.SourceLaw.{not_source_and_stop, one_source_stop}
use Rattle.cmd_runs.specs.Runs80.{IsLineAt, IsLineOf, kind80}
use Rattle.cmd_runs.proofs.OneOutcome.{KindLaws}

-- an end has one line
one_line_at : (p : Program) (q : Place) (m n : ℕ) → IsLineAt p q m → IsLineAt p q n → m ≡ n
one_line_at p (At a) m n x y = let e : Some m ≡ Some n = sym x ∙ y in cc
one_line_at p Exit m n x y = absurd x

one_line : (p : Program) (o : RunEnd) (m n : ℕ) → IsLineOf p o m → IsLineOf p o n → m ≡ n
one_line p Ended m n x y = x ∙ sym y
one_line p (Stopped (Left place rule)) m n x y = one_line_at p place m n x y
one_line p (Stopped (NoInstruction offset)) m n x y = x ∙ sym y
one_line p (Stopped (StackSegment offset)) m n x y = x ∙ sym y
one_line p (Stopped (OddCall offset function)) m n x y = x ∙ sym y
one_line p StepLimit m n x y = x ∙ sym y
one_line p InputEnded m n x y = x ∙ sym y
one_line p (NoDrive function) m n x y = x ∙ sym y

pub laws80 : (c : Run80) → SourceLaw (reading_of c.zilog) → KindLaws (kind80 c)
laws80 c law = record {
  one = λ bytes p q x y. law.program bytes c.top p q x y;
  refusal = λ bytes s t x y. one_source_stop law bytes c.top s t x y;
  apart = λ bytes p stop is stops. not_source_and_stop law bytes c.top p stop is stops;
  course = λ p readable. (course80 p c.run.page, refl);
  line = one_line;
}
