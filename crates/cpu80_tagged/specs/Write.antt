-- Writes that are still to be made.
use Rattle.std.specs.Prelude.{nat_lt, Bool, true}
use Rattle.cpu80_tagged.specs.declared.draft.Write.{Write}
use Rattle.cpu80_tagged.specs.declared.draft.Write.TheVariants.{Nothing, Cell as OneCell, Word as OneWord}

-- a word to be written does not begin at the last cell
abbrev pub write_fits : Write → Bool
write_fits Nothing = true
write_fits (OneCell a v) = true
write_fits (OneWord a w) = nat_lt a 0xFFFF
