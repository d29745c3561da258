-- The style of a text by what is needed and by which conditional jumps are short: with no jump short it is the long style, and by the
-- places of that text it is the lean one.
use Rattle.std.specs.Prelude.{Bool, false}
use Rattle.asm80_types.specs.declared.program.Placed.{Placed}
use Rattle.flow.specs.Solving.{Needs}
use Rattle.templates.specs.Style.{Style}
use Rattle.templates.specs.Lean.{long_style}
use Rattle.templates.specs.Places.{reaches_by}
use Rattle.templates.specs.declared.places.Jumps.{Jumps}
use Rattle.templates.specs.declared.places.Jumps.TheVariants.{Long, Reaching}

abbrev pub shortens_by : Jumps → Placed → Bool
shortens_by Long x = false
shortens_by (Reaching t) x = reaches_by t x x.instr

abbrev pub style_by : Needs → Jumps → Style
style_by n j = record (long_style n) { shortens = shortens_by j }
