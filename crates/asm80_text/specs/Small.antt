-- Tokens whose numbers are words and whose strings have bytes for characters, as those of every line are.
use Rattle.std.specs.Prelude.{◌<◌, List}
use Rattle.std.specs.List.{AllByRecursion}
use Rattle.asm80_types.specs.Ranges.{AreBytes}
use Rattle.asm80_text.specs.declared.token.Token.{Token}
use Rattle.asm80_text.specs.declared.token.Token.TheVariants.{Digits, Num, Text}

abbrev pub IsSmall : Token → Type 0
IsSmall (Digits n) = n < 0x10000
IsSmall (Num n) = n < 0x10000
IsSmall (Text bytes) = AreBytes bytes
IsSmall t = Unit {0}

abbrev pub AreSmall : List Token → Type 0
AreSmall ts = AllByRecursion IsSmall ts
