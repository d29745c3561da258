-- The parts between the commas.
use Rattle.std.proofs.Common.{◌≡◌, List, [], ◌∷◌, map, length, false, eqb, ap, ◌∙◌, Bor}
use Rattle.std.specs.List.{slice_split}
use Rattle.asm86_line_reader.specs.declared.token.Token.{Token}
use Rattle.asm86_line_reader.specs.Operands.{each, operand_in, is_comma, operands_in}
use Rattle.asm86_line_reader.proofs.Each.{each_map}

pub of_parts : (ts : List Token) (parts : List (Bor (List Token))) → eqb (length ts) 0 ≡ false → map (λ (x : Bor (List Token)). x.now) parts ≡ slice_split is_comma ts → each (λ (part : Bor (List Token)). operand_in part.now) parts ≡ operands_in ts
of_parts [] parts ne e = absurd cc
of_parts (t ∷ ts) parts ne e = each_map operand_in (λ (x : Bor (List Token)). x.now) parts ∙ ap (each operand_in) e
