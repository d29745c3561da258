-- What is known of texts makes `run86` come to one thing.
use Rattle.std.proofs.Common.{◌≡◌, ℕ, List, refl, sym, ◌∙◌, []}
use Rattle.std.specs.Prelude.{◌∷◌}
use Rattle.asm86_line_types.specs.Image.{Image}
use Rattle.asm86.specs.declared.fault.ImageFault.{ImageFault}
use Rattle.asm86.specs.Images.{HasImage, IsNoImage}
use Rattle.emulators.specs.Courses.{course86}
use Rattle.emulators.specs.Starts.{start_by}
use Rattle.cmd_arguments.specs.Words.{Run86}
use Rattle.cmd_common.proofs.Texts.{one_stop}
use Rattle.cmd_runs.specs.Supplies.{fill_by}
use Rattle.cmd_runs.proofs.OneOutcome.{KindLaws}
use Rattle.cmd_runs.specs.Runs86.{kind86}

pub laws86 : ((text : List ℕ) (a b : Image) → HasImage text a → HasImage text b → a ≡ b) →
    ((text : List ℕ) (a b : ImageFault) → IsNoImage text a → IsNoImage text b → a ≡ b) →
    ((text : List ℕ) (a : Image) (fault : ImageFault) → HasImage text a → IsNoImage text fault → ⊥) →
    (c : Run86) → KindLaws (kind86 c)
laws86 image fault apart c = record {
  one = image;
  refusal = one_stop fault;
  apart = λ text a stop is stops. apart text a stops.0 is stops.1;
  course = λ a reader. (
    course86 reader.0 a c.run.page (fill_by c.choice) (start_by c.choice) (c.choice ∷ []),
    record { fetch = reader.0; reads = reader.1.0; is = refl },
  );
  line = λ a end m n x y. x ∙ sym y;
}
