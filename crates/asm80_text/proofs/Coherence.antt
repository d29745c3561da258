-- Intel's spelling is that of statements.
use Rattle.std.proofs.Common.{◌≡◌, sym, ◌∙◌, subst, List, ℕ, true}
use Rattle.asm80_types.specs.Words.{is_operation}
use Rattle.asm80_text.specs.Coherent.{IsCoherent}
use Rattle.asm80_text.specs.Intel.{intel_spelling}
use Rattle.asm80_text.proofs.Alone.{one_operand_list}
use Rattle.asm80_text.proofs.Lawful.{list_lawful}
use Rattle.asm80_text.proofs.Ranges.{list_range}

pub intel_coherent : IsCoherent intel_spelling
intel_coherent = record {
  labels = λ name free. free;
  lawful = λ word op ts args operation lawful form.
      (subst (λ (w : List ℕ). is_operation w ≡ true) (sym form.0) operation, list_lawful intel_spelling ts args lawful form.1);
  ranged = λ word op ts args small form. list_range form.1 small;
  one = λ word ts op other args others form again. (form.0 ∙ sym again.0, one_operand_list form.1 again.1);
}
