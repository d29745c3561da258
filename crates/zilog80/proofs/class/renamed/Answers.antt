use Rattle.std.proofs.Common.{ap, ◌∙◌, [], ◌∷◌, List, ℕ}
use Rattle.std.specs.Prelude.{option_map}
use Rattle.asm80_types.specs.Tree.{Named, Whole}
use Rattle.zilog80.proofs.Found.{beside_renamed}
use Rattle.zilog80.proofs.class.renamed.Goals as goal

pub returns-in-Some : goal.returns-in-Some
returns-in-Some c = λ entries a view. ap (option_map (λ (n : List ℕ). Whole (Named n) ∷ [])) c.in-Some.ensures ∙ beside_renamed entries c.args.names.now c.args.name.now view

pub returns-in-None : goal.returns-in-None
returns-in-None c = λ entries a view. ap (option_map (λ (n : List ℕ). Whole (Named n) ∷ [])) c.in-None.ensures ∙ beside_renamed entries c.args.names.now c.args.name.now view
