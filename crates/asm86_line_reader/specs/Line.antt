-- What a line of an ASM-86 text gives: its statements, or the rule that it breaks. The line is its bytes without its LF or CR LF.
use Rattle.std.specs.Prelude.{◌≡◌, ℕ, ◌<◌, ◌≤◌, List, true, false, Some, None, Result, Ok, Err, length, map}
use Rattle.std.specs.List.{list_all}
use Rattle.asm86_line_types.specs.declared.line.Stmt86.{Stmt86}
use Rattle.asm86_line_types.specs.declared.line.TextRule.{TextRule}
use Rattle.asm86_line_types.specs.declared.line.TextRule.TheVariants as rules
use Rattle.asm86_line_reader.specs.declared.token.Token.{Token}
use Rattle.asm86_line_reader.specs.Letters.{upper}
use Rattle.asm86_line_reader.specs.Tokens.{Lexes}
use Rattle.asm86_line_reader.specs.Forms.{statements_of, is_small}

-- M1 is looked for over the whole line before M2: a line is too long, holds a byte that may stand in comments alone, a word
-- that begins with a digit and is no number, or a number above 65,535; or its words form statements but for a number above
-- 255 where a byte is needed. M2: its words form no statement.
pub data TextLineGives : List ℕ → Result (List Stmt86) TextRule → Type 0 where
  long : {line : List ℕ} → 255 < length line → TextLineGives line (Err rules.M1)
  faulty : {line : List ℕ} {ts : List Token} → length line ≤ 255 → Lexes (map upper line) ts false → TextLineGives line (Err rules.M1)
  large : {line : List ℕ} {ts : List Token} {ss : List Stmt86} → length line ≤ 255 → Lexes (map upper line) ts true → statements_of ts ≡ Some ss → list_all is_small ss ≡ false → TextLineGives line (Err rules.M1)
  senseless : {line : List ℕ} {ts : List Token} → length line ≤ 255 → Lexes (map upper line) ts true → statements_of ts ≡ None → TextLineGives line (Err rules.M2)
  sensible : {line : List ℕ} {ts : List Token} {ss : List Stmt86} → length line ≤ 255 → Lexes (map upper line) ts true → statements_of ts ≡ Some ss → list_all is_small ss ≡ true → TextLineGives line (Ok ss)
