-- The made source is never refused, and the code of its lean text is never too large.
use Rattle.std.proofs.Common.{◌≡◌, ℕ, List, None, sym, ◌∙◌, ap, subst, arith}
use Rattle.std.proofs.lemmas.Option.{none-some}
use Rattle.asm80_types.specs.Reading.{HasOneOutcome}
use Rattle.asm80_types.specs.Tree.{Statement}
use Rattle.asm80_source_def.specs.Assembly.{refusal, IsAssembled}
use Rattle.asm80_text.specs.Intel.{intel_reading}
use Rattle.asm80_source_def.specs.Source.{IsSource, faulty, refused}
use Rattle.asm80_types.specs.Program.{Program}
use Rattle.asm86_line_types.specs.declared.line.Line86.{Line86}
use Rattle.templates.specs.declared.translation.Mode.TheVariants.{Lean}
use Rattle.templates.specs.Translation.{IsText, CodeFits, IsTooLarge}
use Rattle.cmd_common.specs.declared.stop.Stop.{Stop}
use Rattle.cmd_common.specs.Sources.{SourceStops, of_line, of_program}
use Rattle.cmd_sample.specs.Sample.{sample_text, sample_statements}
use Rattle.cmd_sample.specs.Laws.{SampleIsRead}
use Rattle.cmd_sample.specs.SampleReport.{sample_top}
use Rattle.cmd_sample.specs.Samples.{IsCount}

module _ (one : HasOneOutcome intel_reading) (read : SampleIsRead) (K : ℕ) (count : IsCount K) where
  -- the statements that the source is read as
  only_statements : (ss : List Statement) → intel_reading (sample_text K) ss None → ss ≡ sample_statements K
  only_statements ss gives = (one (sample_text K) ss (sample_statements K) None None gives (read K count.most)).0

  pub never_refused : refusal (sample_statements K) sample_top ≡ None → (stop : Stop) → SourceStops intel_reading (sample_text K) sample_top stop → ⊥
  never_refused accepted _ (of_line (faulty {statements = ss} {rule = rule} gives)) =
      none-some _ (sym (one (sample_text K) ss (sample_statements K) _ None gives (read K count.most)).1)
  never_refused accepted _ (of_program {line = line} (refused {statements = ss} {rule = rule} gives broken)) =
      none-some (line, rule) (sym accepted ∙ ap (λ s. refusal s sample_top) (sym (only_statements ss gives)) ∙ broken)

  pub never_large : ((p : Program) → IsAssembled (sample_statements K) sample_top p → (lines : List Line86) → IsText Lean p lines → CodeFits lines) → (p : Program) (size : ℕ) → IsSource intel_reading (sample_text K) sample_top p → IsTooLarge Lean p size → ⊥
  never_large fits p size source large =
      let assembled = subst (λ s. IsAssembled s sample_top p) (only_statements source.statements source.lines) source.program in
      let less = fits p assembled large.lines large.text in
      let is = large.is in
      let more = large.large in
      omega (arith, less, is, more)
