-- Heads, which are what terms are made of, as nodes of a pool: a kind, a number, and the ids of operands.
use Rattle.std.specs.Prelude.{ℕ, ◌+◌, ◌==◌, Bool, true, false, List, [], ◌∷◌}
use Rattle.cells.specs.declared.Place.{Place}
use Rattle.cells.specs.declared.Place.TheVariants.{At, Exit}
use Rattle.xlt_pool.specs.declared.node.Node.{Node}
use Rattle.sym_terms.specs.declared.head.Term.{Term as TermId}
use Rattle.sym_terms.specs.declared.head.Head.{Head}
use Rattle.sym_terms.specs.declared.head.Head.TheVariants.{Num as NumHead, Start as StartHead, StartSp as StartSpHead, Loaded8 as Loaded8Head, Loaded16 as Loaded16Head, Alu as AluHead, Flag as FlagHead, Sum16 as Sum16Head, High as HighHead, Low as LowHead, Join as JoinHead, FlagByte as FlagByteHead, Bit as BitHead, Turn as TurnHead, Turned as TurnedHead, Adjust as AdjustHead, Code as CodeHead, Unknown as UnknownHead}
use Rattle.sym_terms.specs.declared.numbers.Kind.{Kind}
use Rattle.sym_terms.specs.declared.numbers.Kind.TheVariants.{Num as NumKind, Start as StartKind, StartSp as StartSpKind, Loaded8 as Loaded8Kind, Loaded16 as Loaded16Kind, Alu as AluKind, Flag as FlagKind, Sum16 as Sum16Kind, High as HighKind, Low as LowKind, Join as JoinKind, Bit as BitKind, Turn as TurnKind, Turned as TurnedKind, Adjust as AdjustKind, Code as CodeKind}
use Rattle.sym_terms.specs.Making.{is_logic, is_addition}
use Rattle.sym_terms.specs.Numbers.{part_number, part_numbered, op_number, op_numbered, bit_number, place_numbered}

abbrev pub number_of_id : TermId → ℕ
number_of_id t = t.0.0

abbrev pub term_of : ℕ → TermId
term_of id = record { 0 = record { 0 = id } }

abbrev pub operands : Head → List TermId
operands (AluHead op a b c) = a ∷ b ∷ c ∷ []
operands (FlagHead part r) = r ∷ []
operands (Sum16Head a b) = a ∷ b ∷ []
operands (HighHead w) = w ∷ []
operands (LowHead w) = w ∷ []
operands (JoinHead h l) = h ∷ l ∷ []
operands (FlagByteHead s z ac p cy) = s ∷ z ∷ ac ∷ p ∷ cy ∷ []
operands (BitHead b part) = b ∷ []
operands (TurnHead kind a c) = a ∷ c ∷ []
operands (TurnedHead c) = c ∷ []
operands (AdjustHead a ac cy) = a ∷ ac ∷ cy ∷ []
operands h = []

abbrev pub is_flag_byte_head : Head → Bool
is_flag_byte_head (FlagByteHead s z ac p cy) = true
is_flag_byte_head h = false

-- a head without operands
abbrev pub is_leaf_head : Head → Bool
is_leaf_head (NumHead n) = true
is_leaf_head (StartHead part) = true
is_leaf_head StartSpHead = true
is_leaf_head (Loaded8Head k) = true
is_leaf_head (Loaded16Head k) = true
is_leaf_head (CodeHead q high) = true
is_leaf_head UnknownHead = true
is_leaf_head h = false

-- a node with a number and up to three operands
abbrev pub node_with : ℕ → ℕ → ℕ → ℕ → ℕ → Node
node_with kind number a b c = record { op = kind; num = number; a = a; b = b; c = c }

-- the node of a place's half: EXIT has the last number 1
abbrev pub code_node : Place → Bool → Node
code_node (At address) high = node_with 17 address (bit_number high) 0 0
code_node Exit high = node_with 17 0 (bit_number high) 1 0

-- the node of a head; that of a FlagByte has the id of a further node with AC, P and CY
abbrev pub node_of : Head → ℕ → Node
node_of (NumHead n) rest = node_with 0 n 0 0 0
node_of (StartHead part) rest = node_with 1 (part_number part) 0 0 0
node_of StartSpHead rest = node_with 2 0 0 0 0
node_of (Loaded8Head k) rest = node_with 3 k 0 0 0
node_of (Loaded16Head k) rest = node_with 4 k 0 0 0
node_of (AluHead op a b c) rest = node_with 5 (op_number op) (number_of_id a) (number_of_id b) (number_of_id c)
node_of (FlagHead part r) rest = node_with 6 (part_number part) (number_of_id r) 0 0
node_of (Sum16Head a b) rest = node_with 7 0 (number_of_id a) (number_of_id b) 0
node_of (HighHead w) rest = node_with 8 0 (number_of_id w) 0 0
node_of (LowHead w) rest = node_with 9 0 (number_of_id w) 0 0
node_of (JoinHead h l) rest = node_with 10 0 (number_of_id h) (number_of_id l) 0
node_of (FlagByteHead s z ac p cy) rest = node_with 11 0 (number_of_id s) (number_of_id z) rest
node_of (BitHead b part) rest = node_with 13 (part_number part) (number_of_id b) 0 0
node_of (TurnHead kind a c) rest = node_with 14 kind (number_of_id a) (number_of_id c) 0
node_of (TurnedHead c) rest = node_with 15 0 (number_of_id c) 0 0
node_of (AdjustHead a ac cy) rest = node_with 16 0 (number_of_id a) (number_of_id ac) (number_of_id cy)
node_of (CodeHead q high) rest = code_node q high
node_of UnknownHead rest = node_with 18 0 0 0 0

-- a node marked where an Adjust stands in its term
abbrev pub marked_node : Bool → Node → Node
marked_node true n = record { op = n.op + 32; num = n.num; a = n.a; b = n.b; c = n.c }
marked_node false n = n

-- the further node of a FlagByte, which is no term by itself and has no mark
abbrev pub rest_node : TermId → TermId → TermId → Node
rest_node ac p cy = node_with 12 0 (number_of_id ac) (number_of_id p) (number_of_id cy)

-- the head of a node of any other kind
abbrev pub head_by : Kind → Node → Head
head_by NumKind n = NumHead n.num
head_by StartKind n = StartHead (part_numbered n.num)
head_by StartSpKind n = StartSpHead
head_by Loaded8Kind n = Loaded8Head n.num
head_by Loaded16Kind n = Loaded16Head n.num
head_by AluKind n = AluHead (op_numbered n.num) (term_of n.a) (term_of n.b) (term_of n.c)
head_by FlagKind n = FlagHead (part_numbered n.num) (term_of n.a)
head_by Sum16Kind n = Sum16Head (term_of n.a) (term_of n.b)
head_by HighKind n = HighHead (term_of n.a)
head_by LowKind n = LowHead (term_of n.a)
head_by JoinKind n = JoinHead (term_of n.a) (term_of n.b)
head_by BitKind n = BitHead (term_of n.a) (part_numbered n.num)
head_by TurnKind n = TurnHead n.num (term_of n.a) (term_of n.b)
head_by TurnedKind n = TurnedHead (term_of n.a)
head_by AdjustKind n = AdjustHead (term_of n.a) (term_of n.b) (term_of n.c)
head_by CodeKind n = CodeHead (place_numbered n.b n.num) (n.a == 1)
head_by kind n = UnknownHead

-- tests of heads: one that is open, a logic operation, an addition
abbrev pub opens : Head → Bool
opens (FlagByteHead s z ac p cy) = true
opens (TurnedHead c) = true
opens UnknownHead = true
opens h = false

abbrev pub is_logic_head : Head → Bool
is_logic_head (AluHead op a b c) = is_logic op
is_logic_head h = false

abbrev pub is_addition_head : Head → Bool
is_addition_head (AluHead op a b c) = is_addition op
is_addition_head h = false
