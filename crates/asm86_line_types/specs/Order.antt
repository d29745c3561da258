-- What stands in which group of a text: code after CSEG, data after DSEG, each cell filled once, and nothing after END.
use Rattle.std.specs.Prelude.{ℕ, ◌+◌, ◌==◌, nat_lt, nat_le, ◌&&◌, ◌||◌, Bool, true, false, not, List, [], ◌∷◌}
use Rattle.std.specs.List.{list_any}
use Rattle.asm86_line_types.specs.declared.line.Stmt86.{Stmt86}
use Rattle.asm86_line_types.specs.declared.line.Stmt86.TheVariants.{Cseg, Dseg, Org, Rb, Db, Dw, Mark, Run, MovOffset, Jmp, Jmps, Jcc as JccTo, Call, EndText}

-- the last of CSEG and DSEG before a statement
pub data Group : Type 0 where
  NoGroup : Group
  CodeGroup : Group
  DataGroup : Group

-- where a reader of the text is: its group, whether CSEG and DSEG have come, the data address, and the cells filled
pub record Reading : Type 0 where
  pub group : Group
  pub code_came : Bool
  pub data_came : Bool
  pub at : ℕ
  pub filled : List ℕ

abbrev pub at_start : Reading
at_start = record { group = NoGroup; code_came = false; data_came = false; at = 0; filled = [] }

abbrev pub in_code : Group → Bool
in_code NoGroup = false
in_code CodeGroup = true
in_code DataGroup = false

abbrev pub in_data : Group → Bool
in_data NoGroup = false
in_data CodeGroup = false
in_data DataGroup = true

-- a data cell is from 100H up, within memory, and not filled before
abbrev pub is_free_cell : Reading → ℕ → Bool
is_free_cell r a = nat_le 0x100 a && (nat_lt a 0x10000 && not (list_any (λ b. b == a) r.filled))

-- the statement may stand there
abbrev pub may_stand : Reading → Stmt86 → Bool
may_stand r Cseg = not r.code_came
may_stand r Dseg = not r.data_came
may_stand r (Org w) = in_data r.group
may_stand r (Rb w) = in_data r.group
may_stand r (Db n) = in_data r.group && is_free_cell r r.at
may_stand r (Dw v) = in_data r.group && (is_free_cell r r.at && is_free_cell r (r.at + 1))
may_stand r (Mark l) = in_code r.group
may_stand r (Run i) = in_code r.group
may_stand r (MovOffset k l) = in_code r.group
may_stand r (Jmp l) = in_code r.group
may_stand r (Jmps l) = in_code r.group
may_stand r (JccTo j l) = in_code r.group
may_stand r (Call l) = in_code r.group
may_stand r EndText = true

-- where the reader is after it
abbrev pub reading_after : Reading → Stmt86 → Reading
reading_after r Cseg = record r { group = CodeGroup; code_came = true }
reading_after r Dseg = record r { group = DataGroup; data_came = true; at = 0 }
reading_after r (Org w) = record r { at = w }
reading_after r (Rb w) = record r { at = r.at + w }
reading_after r (Db n) = record r { at = r.at + 1; filled = r.at ∷ r.filled }
reading_after r (Dw v) = record r { at = r.at + 2; filled = r.at ∷ ((r.at + 1) ∷ r.filled) }
reading_after r (Mark l) = r
reading_after r (Run i) = r
reading_after r (MovOffset k l) = r
reading_after r (Jmp l) = r
reading_after r (Jmps l) = r
reading_after r (JccTo j l) = r
reading_after r (Call l) = r
reading_after r EndText = r

abbrev pub ends_text : Stmt86 → Bool
ends_text Cseg = false
ends_text Dseg = false
ends_text (Org w) = false
ends_text (Rb w) = false
ends_text (Db n) = false
ends_text (Dw v) = false
ends_text (Mark l) = false
ends_text (Run i) = false
ends_text (MovOffset k l) = false
ends_text (Jmp l) = false
ends_text (Jmps l) = false
ends_text (JccTo j l) = false
ends_text (Call l) = false
ends_text EndText = true

abbrev pub has_no_statement : List Stmt86 → Bool
has_no_statement [] = true
has_no_statement (x ∷ xs) = false

-- each statement may stand where it stands, and none stands after END
abbrev pub in_order : Reading → List Stmt86 → Bool
in_order r [] = true
in_order r (x ∷ xs) = may_stand r x && ((not (ends_text x) || has_no_statement xs) && in_order (reading_after r x) xs)
