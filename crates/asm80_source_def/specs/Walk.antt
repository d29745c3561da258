-- The first walk through the statements: it gives each statement its address and each name its meaning (CP/M 2.2 Operating
-- System Manual, the assembler, "Operand field", "Assembler directives").
use Rattle.std.specs.Prelude.{ℕ, ◌+◌, ◌*◌, ◌%◌, ◌==◌, not, ◌&&◌, ◌||◌, Bool, true, false, cond, List, [], ◌∷◌, length, Option, Some, None, option_and_then, option_map, drop, sum_by}
use Rattle.std.specs.List.{list_any}
use Rattle.asm80_types.specs.Tree.{Tree, Number, Place, Named, Inverted, Negated, Binary, Operand, String, Whole, Statement}
use Rattle.asm80_source_def.specs.declared.operation.Operation.{Operation}
use Rattle.asm80_source_def.specs.declared.operation.Operation.TheVariants.{Org, End, Equ, Set, If, EndIf, Db, Dw, Ds}
use Rattle.asm80_source_def.specs.declared.operation.Kind.{Kind}
use Rattle.asm80_source_def.specs.Operations.{operation_of, operand_kinds, bytes_of}
use Rattle.asm80_source_def.specs.declared.meaning.Meaning.{Meaning}
use Rattle.asm80_source_def.specs.declared.meaning.NameKind.{NameKind}
use Rattle.asm80_source_def.specs.declared.meaning.NameKind.TheVariants.{Label, Equate, Settable}
use Rattle.asm80_source_def.specs.Values.{unknown, Scope, meaning_of_name, value_of_tree}
use Rattle.asm80_source_def.specs.Names.{Name, named, defined}

-- where the walk is before a statement: the address, the names defined so far, and the IFs that are open, the innermost
-- first, each with whether its statements are taken
pub record Walk : Type 0 where
  pub at : ℕ
  pub names : List Name
  pub ifs : List Bool

abbrev pub at_start : Walk
at_start = record { at = 0; names = []; ifs = [] }

-- a statement with where the walk was before it
pub record WalkRow : Type 0 where
  pub statement : Statement
  pub before : Walk

abbrev pub operation_in : Statement → Option Operation
operation_in s = option_and_then operation_of s.op

-- ---- IF and ENDIF

-- one of these IFs skips its statements
abbrev pub is_skipping : List Bool → Bool
is_skipping ifs = list_any not ifs

abbrev pub is_if : Option Operation → Bool
is_if (Some If) = true
is_if o = false

abbrev pub is_endif : Option Operation → Bool
is_endif (Some EndIf) = true
is_endif o = false

abbrev pub is_end_directive : Option Operation → Bool
is_end_directive (Some End) = true
is_end_directive o = false

-- The statement is taken: no open IF skips it, or it is the ENDIF that closes the IF that skips.
abbrev pub is_taken : Walk → Statement → Bool
is_taken w s = not (is_skipping w.ifs) || (is_endif (operation_in s) && not (is_skipping (drop 1 w.ifs)))

-- ---- the operand of a directive

-- what a name stands for among the names so far
abbrev pub meaning_in : List Name → List ℕ → Option Meaning
meaning_in names text = option_map (λ (n : Name). n.meaning) (named names text)

-- an expression of a directive sees the names defined before its statement
abbrev pub scope : Walk → Scope
scope w = record { here = w.at; find = meaning_in w.names }

abbrev pub or_unknown : Option Meaning → Meaning
or_unknown None = unknown
or_unknown (Some m) = m

-- what an expression stands for: a name alone is what that name is, `$` alone is a place, all else a number
abbrev pub meaning_of : Scope → Tree → Meaning
meaning_of s (Number n) = record { value = Some n; is_place = false }
meaning_of s Place = record { value = Some s.here; is_place = true }
meaning_of s (Named name) = or_unknown (meaning_of_name s name)
meaning_of s (Inverted e) = record { value = value_of_tree s (Inverted e); is_place = false }
meaning_of s (Negated e) = record { value = value_of_tree s (Negated e); is_place = false }
meaning_of s (Binary op a b) = record { value = value_of_tree s (Binary op a b); is_place = false }

-- of the one operand that a directive has
abbrev pub operand_meaning : Scope → List Operand → Meaning
operand_meaning s (Whole e ∷ []) = meaning_of s e
operand_meaning s args = unknown

abbrev pub directive_meaning : Walk → Statement → Meaning
directive_meaning w s = operand_meaning (scope w) s.args

-- ---- the label

abbrev pub kind_of_label : Option Operation → NameKind
kind_of_label (Some Equ) = Equate
kind_of_label (Some Set) = Settable
kind_of_label o = Label

-- EQU and SET give their name the operand's meaning; the label of an ORG is the value of its expression; every other label
-- is the address of its statement's first byte
abbrev pub label_meaning_by : Walk → Statement → Option Operation → Meaning
label_meaning_by w s (Some Equ) = directive_meaning w s
label_meaning_by w s (Some Set) = directive_meaning w s
label_meaning_by w s (Some Org) = record { value = (directive_meaning w s).value; is_place = true }
label_meaning_by w s o = record { value = Some w.at; is_place = true }

abbrev pub definition : Walk → Statement → List ℕ → Name
definition w s text =
    record { text = text; kind = kind_of_label (operation_in s); meaning = label_meaning_by w s (operation_in s) }

abbrev pub names_by : Walk → Statement → Option (List ℕ) → List Name
names_by w s None = w.names
names_by w s (Some text) = defined w.names (definition w s text)

-- the names after a statement that is taken
abbrev pub names_after : Walk → Statement → List Name
names_after w s = names_by w s s.label

-- ---- the address

-- a string has a byte for each character, any other item of DB is one byte
abbrev pub bytes_of_item : Operand → ℕ
bytes_of_item (String bytes) = length bytes
bytes_of_item (Whole e) = 1

abbrev pub size_of_kinds : Option (List Kind) → ℕ
size_of_kinds None = 0
size_of_kinds (Some ks) = bytes_of ks

-- the cells that a statement fills, also where its operands are refused later
abbrev pub size_by : Statement → Option Operation → ℕ
size_by s None = 0
size_by s (Some Db) = sum_by bytes_of_item s.args
size_by s (Some Dw) = 2 * length s.args
size_by s (Some o) = size_of_kinds (operand_kinds o)

abbrev pub size_of_statement : Statement → ℕ
size_of_statement s = size_by s (operation_in s)

abbrev pub or_at : ℕ → Option ℕ → ℕ
or_at at None = at
or_at at (Some n) = n

-- ORG sets the address, DS adds to it, and every other statement adds the cells that it fills, modulo 65,536
abbrev pub address_by : Walk → Statement → Option Operation → ℕ
address_by w s (Some Org) = or_at w.at (directive_meaning w s).value
address_by w s (Some Ds) = or_at w.at (option_map (λ n. (w.at + n) % 0x10000) (directive_meaning w s).value)
address_by w s o = (w.at + size_by s o) % 0x10000

abbrev pub address_after : Walk → Statement → ℕ
address_after w s = address_by w s (operation_in s)

-- ---- the walk

-- the statements of an IF are taken where its value is known and not 0
abbrev pub is_true : Option ℕ → Bool
is_true None = false
is_true (Some n) = not (n == 0)

abbrev pub ifs_by : Walk → Statement → Option Operation → List Bool
ifs_by w s (Some If) = is_true (directive_meaning w s).value ∷ w.ifs
ifs_by w s (Some EndIf) = drop 1 w.ifs
ifs_by w s o = w.ifs

-- within statements that are skipped, IF and ENDIF only nest
abbrev pub skipped_ifs : List Bool → Option Operation → List Bool
skipped_ifs ifs (Some If) = false ∷ ifs
skipped_ifs ifs (Some EndIf) = drop 1 ifs
skipped_ifs ifs o = ifs

abbrev pub after_by : Bool → Walk → Statement → Walk
after_by false w s = record w { ifs = skipped_ifs w.ifs (operation_in s) }
after_by true w s = record { at = address_after w s; names = names_after w s; ifs = ifs_by w s (operation_in s) }

abbrev pub walk_after : Walk → Statement → Walk
walk_after w s = after_by (is_taken w s) w s

-- the source ends at an END that is taken
abbrev pub ends : Walk → Statement → Bool
ends w s = is_taken w s && is_end_directive (operation_in s)

-- the statements up to END with it, each with where the walk was before it, and where the walk is at the end
abbrev pub rows_from : Walk → List Statement → List WalkRow
rows_from w [] = []
rows_from w (s ∷ ss) = record { statement = s; before = w } ∷ cond (ends w s) [] (rows_from (walk_after w s) ss)

abbrev pub walk_after_all : Walk → List Statement → Walk
walk_after_all w [] = w
walk_after_all w (s ∷ ss) = cond (ends w s) (walk_after w s) (walk_after_all (walk_after w s) ss)

abbrev pub rows : List Statement → List WalkRow
rows ss = rows_from at_start ss

abbrev pub walked : List Statement → Walk
walked ss = walk_after_all at_start ss

-- a row whose statement is taken
abbrev pub row_is_taken : WalkRow → Bool
row_is_taken r = is_taken r.before r.statement

abbrev pub row_operation : WalkRow → Option Operation
row_operation r = operation_in r.statement
