-- Lines of assembler as a person writes them: each with its text, and with the statement that it is. Words are parted by one
-- tab; a line without a label begins with a tab.
use Rattle.std.specs.Prelude.{ℕ, suc, codes, List, [], ◌∷◌, ◌++◌, map, flat_map, Option, Some, None}
use Rattle.std.specs.Fmt.{decimal}
use Rattle.asm80_types.specs.Tree.{Named, Number, Operand, Whole, Statement}

-- an operand's text, and what it is
pub record Argument : Type 0 where
  pub text : List ℕ
  pub operand : Operand

-- a name, be it a register's or a label's; a decimal number
abbrev pub name : List ℕ → Argument
name text = record { text = text; operand = Whole (Named text) }

abbrev pub number : ℕ → Argument
number n = record { text = decimal n; operand = Whole (Number n) }

-- a line's label, operation and operands
pub record Written : Type 0 where
  pub label : Option (List ℕ)
  pub operation : List ℕ
  pub arguments : List Argument

abbrev pub labelled : List ℕ → List ℕ → List Argument → Written
labelled label operation arguments = record { label = Some label; operation = operation; arguments = arguments }

abbrev pub unlabelled : List ℕ → List Argument → Written
unlabelled operation arguments = record { label = None; operation = operation; arguments = arguments }

-- ---- the text

abbrev pub label_column : Option (List ℕ) → List ℕ
label_column None = []
label_column (Some label) = label ++ codes ":"

-- a comma before each operand but the first
abbrev pub more_arguments : List Argument → List ℕ
more_arguments [] = []
more_arguments (a ∷ rest) = codes "," ++ (a.text ++ more_arguments rest)

-- a tab before the operands, if there are some
abbrev pub arguments_text : List Argument → List ℕ
arguments_text [] = []
arguments_text (a ∷ rest) = codes "\t" ++ (a.text ++ more_arguments rest)

-- without the LF at its end
abbrev pub line_text : Written → List ℕ
line_text w = label_column w.label ++ (codes "\t" ++ (w.operation ++ arguments_text w.arguments))

abbrev pub text_of_source : List Written → List ℕ
text_of_source ws = flat_map (λ (w : Written). line_text w ++ codes "\n") ws

-- ---- the statements

abbrev pub statement_at : ℕ → Written → Statement
statement_at line w =
    record { line = line; label = w.label; op = Some w.operation; args = map (λ (a : Argument). a.operand) w.arguments }

-- lines from number n on
abbrev pub statements_from : ℕ → List Written → List Statement
statements_from n [] = []
statements_from n (w ∷ ws) = statement_at n w ∷ statements_from (suc n) ws

abbrev pub statements_of : List Written → List Statement
statements_of ws = statements_from 1 ws
