use Rattle.flow.specs.declared.node.Node.TheVariants.{Start, Return}
use Rattle.flow.proofs.Sets.{has-nothing}
use Rattle.flow.proofs.Needs.{need_here, need_passes, need_only, taken_edge}
use Rattle.flow.proofs.laws.needs_are_closed.Goals as goal

pub returns : goal.returns
returns c = λ p. record {
  uses = need_here p;
  passes = λ q r x e d n. need_passes p q r x e d n;
  only = need_only p;
  returns = λ a x t n. need_passes p Return (Start a) x (taken_edge p a t) (has-nothing x) n;
}
