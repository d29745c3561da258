-- A program has one lean text.
use Rattle.std.proofs.Common.{◌≡◌, List, sym, ap, ◌∙◌}
use Rattle.asm80_types.specs.Program.{Program}
use Rattle.asm86_line_types.specs.declared.line.Line86.{Line86}
use Rattle.flow.proofs.OneNeeds.{all_needs_once}
use Rattle.templates.specs.Lean.{lean, IsLean}

pub lean_is_one : (p : Program) (xs ys : List Line86) → IsLean p xs → IsLean p ys → xs ≡ ys
lean_is_one p xs ys f g = f.2 ∙ ap (λ n. lean n p) (all_needs_once p f.0 g.0 f.1 g.1) ∙ sym g.2
