-- The texts whose code is one segment.
use Rattle.std.specs.Prelude.{◌<◌}
use Rattle.asm86_line_types.specs.Layout.{sizes_of}
use Rattle.asm80_types.specs.Program.{Program}
use Rattle.templates.specs.Style.{Style, styled_statements}

-- the code of a program's text in a style has at most 65,535 bytes
abbrev pub StyleFits : Style → Program → Type 0
StyleFits s p = sizes_of (styled_statements s p) < 0x10000
