-- A text that matches each block matches all of them.
use Rattle.std.proofs.Common.{◌≡◌, ℕ, suc, List, [], ◌∷◌, None, refl, ap, ◌∙◌, arith}
use Rattle.std.specs.List.{Contains}
use Rattle.asm86_line_types.specs.declared.line.Stmt86.{Stmt86}
use Rattle.asm80_types.specs.Program.{Program}
use Rattle.flow.specs.Blocks.{blocks}
use Rattle.templates.specs.Style.{styled_statements}
use Rattle.sym_block_def.specs.BlockMatch.{Keeps, block_reason}
use Rattle.simulation_def.specs.Matches.{or_next, blocks_reason}
use Rattle.simulation_def.specs.Needed.{needed_by}
use Rattle.templates_law.specs.Match.Own.{OwnBlocksMatch, OwnTextsMatch}

none_of : (p : Program) (text : List Stmt86) (keeps : Keeps) (bs : List (ℕ × ℕ)) → ((a count : ℕ) → Contains bs (a, count) → block_reason p text keeps a count ≡ None) → blocks_reason p text keeps bs ≡ None
none_of p text keeps [] each = refl
none_of p text keeps (b ∷ bs) each =
    ap (λ o. or_next b.0 o (blocks_reason p text keeps bs)) (each b.0 b.1 (0, omega arith, refl))
    ∙ none_of p text keeps bs (λ a count h. each a count (suc h.0, omega (arith, h.1), h.2))

pub all_match : OwnBlocksMatch → OwnTextsMatch
all_match each p n s good are respects = none_of p (styled_statements s p) (needed_by p n) (blocks p) (each p n s good are respects)
