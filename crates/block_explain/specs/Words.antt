-- Terms in words, to a depth: an operand that has operands of its own and stands deeper is said as two points.
use Rattle.std.specs.Prelude.{ℕ, zero, suc, cond, codes, true, false, List, ◌++◌}
use Rattle.std.specs.Fmt.{decimal}
use Rattle.i80.specs.declared.Op.{Op}
use Rattle.sym_terms.specs.Term.{Term, Num, Start, StartSp, Loaded8, Loaded16, Alu, Flag, Sum16, High, Low, Join, FlagByte, Bit, Turn, Turned, Adjust, Code, Unknown}
use Rattle.block_explain.specs.Names.{number_words, label_words, part_words, flag_words, sign_words, takes_carry, half_words}

-- two and three operands with the same between them
abbrev pub two_words : List ℕ → List ℕ → List ℕ → List ℕ
two_words between a b = a ++ (between ++ b)

abbrev pub three_words : List ℕ → List ℕ → List ℕ → List ℕ → List ℕ
three_words between a b c = a ++ (between ++ two_words between b c)

abbrev pub in_brackets : List ℕ → List ℕ
in_brackets x = codes "(" ++ (x ++ codes ")")

-- an operation, of which two have a carry
abbrev pub alu_words : Op → List ℕ → List ℕ → List ℕ → List ℕ
alu_words op a b c = in_brackets (cond (takes_carry op) (three_words (sign_words op) a b c) (two_words (sign_words op) a b))

-- a rotation: two of them turn the byte alone
abbrev pub turn_words : ℕ → List ℕ → List ℕ → List ℕ
turn_words zero a c = codes "RLC " ++ a
turn_words (suc zero) a c = codes "RRC " ++ a
turn_words (suc (suc zero)) a c = codes "RAL" ++ in_brackets (two_words (codes ", ") a c)
turn_words kind a c = codes "RAR" ++ in_brackets (two_words (codes ", ") a c)

-- A term, of whose operations so many may stand in one another. Loads are counted from 1. A term without operands is said at any depth.
abbrev pub words_to : ℕ → Term → List ℕ
words_to n (Num number) = number_words number
words_to n (Start part) = part_words part
words_to n StartSp = codes "SP"
words_to n (Loaded8 k) = codes "byte " ++ decimal (suc k)
words_to n (Loaded16 k) = codes "word " ++ decimal (suc k)
words_to n (Code place high) = half_words high ++ label_words place
words_to n Unknown = codes "open"
words_to zero t = codes ".."
words_to (suc n) (Alu op a b c) = alu_words op (words_to n a) (words_to n b) (words_to n c)
words_to (suc n) (Flag part r) = flag_words part ++ (codes " of " ++ words_to n r)
words_to (suc n) (Sum16 a b) = in_brackets (two_words (codes " + ") (words_to n a) (words_to n b))
words_to (suc n) (High w) = half_words true ++ words_to n w
words_to (suc n) (Low w) = half_words false ++ words_to n w
words_to (suc n) (Join h l) = two_words (codes ":") (words_to n h) (words_to n l)
words_to (suc n) (FlagByte s z ac p cy) = codes "flags"
words_to (suc n) (Bit b part) = part_words part ++ (codes " in " ++ words_to n b)
words_to (suc n) (Turn kind a c) = turn_words kind (words_to n a) (words_to n c)
words_to (suc n) (Turned c) = codes "turned " ++ words_to n c
words_to (suc n) (Adjust a ac cy) = codes "DAA" ++ in_brackets (three_words (codes ", ") (words_to n a) (words_to n ac) (words_to n cy))

-- the term itself, and operands to a depth of six
abbrev pub words : Term → List ℕ
words t = words_to 7 t
