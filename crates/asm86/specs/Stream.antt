-- The lines of a stream of bytes, and what they give (CP/M-86 Programmer's Guide, "ASM-86"; the rules M1 to M6 are this
-- project's).
use Rattle.std.specs.Prelude.{◌≡◌, ◌≢◌, ℕ, suc, Bool, true, false, ◌==◌, if◌then◌else◌, List, [], ◌∷◌, ◌++◌, map, Result, Ok, Err}
use Rattle.std.specs.List.{list_any, prefix_len}
use Rattle.asm86_line_types.specs.declared.line.Line86.{Line86}
use Rattle.asm86_line_types.specs.declared.line.Stmt86.{Stmt86}
use Rattle.asm86_line_types.specs.declared.line.TextRule.{TextRule}
use Rattle.asm86_line_types.specs.declared.line.TextRule.TheVariants.{M5, M6}
use Rattle.asm86_line_types.specs.Image.{statements}
use Rattle.asm86_line_types.specs.Order.{at_start, in_order, ends_text}
use Rattle.asm86_line_reader.specs.Line.{TextLineGives}
use Rattle.base.specs.Cut.{Cut, without_cr, last_line}

-- the bytes of a line
abbrev pub IsNotLf : ℕ → Type 0
IsNotLf b = b ≢ 10

abbrev pub is_not_lf : ℕ → Bool
is_not_lf b = if b == 10 then false else true

-- how many bytes at the front stand before a LF
abbrev pub line_len : List ℕ → ℕ
line_len bytes = prefix_len is_not_lf bytes

-- ---- statements

-- the statements of the line of a number
abbrev pub lines_of_number : ℕ → List Stmt86 → List Line86
lines_of_number n ss = map (λ (s : Stmt86). record { line = n; stmt = s }) ss

-- each statement may stand where it stands, and none stands after END
abbrev pub are_in_order : List Line86 → Bool
are_in_order xs = in_order at_start (statements xs)

abbrev pub has_end : List Line86 → Bool
has_end xs = list_any ends_text (statements xs)

-- The line of a number adds its statements to those of the lines before it, and all of them are in order.
pub record AddsLine (xs : List Line86) (n : ℕ) (line : List ℕ) (ys : List Line86) : Type 0 where
  pub given : List Stmt86
  pub reads : TextLineGives line (Ok given)
  pub whole : ys ≡ xs ++ lines_of_number n given
  pub in_order : are_in_order ys ≡ true

-- The line of a number, behind those that gave these statements, breaks a rule: of itself, or else M5 where not all of its
-- statements may stand there.
pub data Breaks : List Line86 → ℕ → List ℕ → TextRule → Type 0 where
  unread : {xs : List Line86} {n : ℕ} {line : List ℕ} {rule : TextRule} → TextLineGives line (Err rule) → Breaks xs n line rule
  misplaced : {xs : List Line86} {n : ℕ} {line : List ℕ} {ss : List Stmt86} → TextLineGives line (Ok ss) → are_in_order (xs ++ lines_of_number n ss) ≡ false → Breaks xs n line M5

-- how lines end: END has not come; it has come; or the line of a number breaks a rule
pub data Ending : Type 0 where
  Open : Ending
  Ended : Ending
  Broken : ℕ → TextRule → Ending

-- What lines from number n on make of the statements before them: all statements up to the first line with END or with a
-- fault, and which of these it was. The lines behind it are not read.
pub data TextLinesGive : ℕ → List Line86 → List (List ℕ) → List Line86 → Ending → Type 0 where
  none_left : {n : ℕ} {xs : List Line86} → TextLinesGive n xs [] xs Open
  next : {n : ℕ} {xs ys zs : List Line86} {line : List ℕ} {lines : List (List ℕ)} {e : Ending} → AddsLine xs n line ys → has_end ys ≡ false → TextLinesGive (suc n) ys lines zs e → TextLinesGive n xs (line ∷ lines) zs e
  ends : {n : ℕ} {xs ys : List Line86} {line : List ℕ} {lines : List (List ℕ)} → AddsLine xs n line ys → has_end ys ≡ true → TextLinesGive n xs (line ∷ lines) ys Ended
  breaks : {n : ℕ} {xs : List Line86} {line : List ℕ} {lines : List (List ℕ)} {rule : TextRule} → Breaks xs n line rule → TextLinesGive n xs (line ∷ lines) xs (Broken n rule)

-- ---- texts

-- what a whole text is read as: its statements, or a line and the rule that it breaks; M6 stands at line 0
abbrev pub outcome_of_text : List Line86 → Ending → Result (List Line86) (ℕ × TextRule)
outcome_of_text xs Open = Err (0, M6)
outcome_of_text xs Ended = Ok xs
outcome_of_text xs (Broken n rule) = Err (n, rule)

pub record TextGives (text : List ℕ) (outcome : Result (List Line86) (ℕ × TextRule)) : Type 0 where
  pub raw : List (List ℕ)
  pub rest : List ℕ
  pub found : List Line86
  pub ending : Ending
  pub cut : Cut IsNotLf text raw rest
  pub lines : TextLinesGive 1 [] (map without_cr raw ++ last_line rest) found ending
  pub is : outcome ≡ outcome_of_text found ending

-- a line of this number is complete in the stream so far and breaks the rule, and no line before it has a fault or END
pub record HoldsTextFault (stream : List ℕ) (n : ℕ) (rule : TextRule) : Type 0 where
  pub raw : List (List ℕ)
  pub rest : List ℕ
  pub found : List Line86
  pub cut : Cut IsNotLf stream raw rest
  pub lines : TextLinesGive 1 [] (map without_cr raw) found (Broken n rule)
