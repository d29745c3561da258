-- The cells of data are as many as the first walk counted.
use Rattle.std.proofs.Common.{◌≡◌, ℕ, ◌*◌, true, List, [], ◌∷◌, length, Option, Some, None, refl, ap, ◌∙◌, arith, length-append}
use Rattle.std.specs.List.{flat_map, sum_by}
use Rattle.std.proofs.Math.Path.{fun_ext}
use Rattle.std.proofs.lemmas.List.{length-map}
use Rattle.std.proofs.lemmas.List.Concat.{length-flat_map}
use Rattle.cells.specs.declared.Cell.TheVariants.{Num}
use Rattle.asm80_types.specs.Tree.{Operand, String, Whole, Statement}
use Rattle.asm80_source_def.specs.declared.operation.Operation.{Operation}
use Rattle.asm80_source_def.specs.declared.operation.Operation.TheVariants.{Db, Dw}
use Rattle.asm80_source_def.specs.Walk.{bytes_of_item, size_by}
use Rattle.asm80_source_def.specs.Items.{Setting, is_data_op, value, code_address, cells_of_byte, cells_of_word_by, cells_of_word, data_by}

byte_size : (t : Setting) (a : Operand) → length (cells_of_byte t a) ≡ bytes_of_item a
byte_size t (String bytes) = length-map bytes Num
byte_size t (Whole e) = refl

bytes_size : (t : Setting) (args : List Operand) → length (flat_map (cells_of_byte t) args) ≡ sum_by bytes_of_item args
bytes_size t args =
    let same : (λ (a : Operand). length (cells_of_byte t a)) ≡ bytes_of_item = fun_ext (byte_size t) in
    length-flat_map (cells_of_byte t) args ∙ ap (λ (f : Operand → ℕ). sum_by f args) same

word_size : (n : ℕ) (o : Option ℕ) → length (cells_of_word_by n o) ≡ 2
word_size n None = refl
word_size n (Some a) = refl

words_size : (t : Setting) (args : List Operand) → length (flat_map (cells_of_word t) args) ≡ 2 * length args
words_size t [] = refl
words_size t (a ∷ args) = omega (arith, length-append (cells_of_word t a) (flat_map (cells_of_word t) args), word_size (value t a) (code_address t a), words_size t args)

pub data_size : (t : Setting) (s : Statement) (o : Operation) → is_data_op (Some o) ≡ true → length (data_by t s.args (Some o)) ≡ size_by s (Some o)
data_size t s Db h = bytes_size t s.args
data_size t s Dw h = words_size t s.args
data_size t s o h = absurd cc
