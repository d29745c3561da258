-- What follows of the written lines of a text: it reads back, its code has one reader, and its numbers are in their ranges.
use Rattle.std.proofs.Common.{◌≡◌, ℕ, ◌+◌, List, [], ◌∷◌, ◌++◌, refl, sym, ap, subst, ◌∙◌, Bool, true, ◌||◌, add-one}
use Rattle.std.specs.List.{list_any}
use mathlib.Core.Bool.{or-true}
use Rattle.i86.specs.declared.Operand16.TheVariants.{Direct}
use Rattle.i86.specs.declared.Instr86.{Instr86}
use Rattle.i86.specs.declared.Instr86.TheVariants.{MovAlDirect, MovDirectAl, MovNum8, MovNum16, MovMemNum, MovReg16, MovDirect16, AluNum, InAl, OutAl}
use Rattle.i86.specs.Decode.{HasReader}
use Rattle.asm86_line_types.specs.declared.line.Value16.TheVariants.{Num as Number}
use Rattle.asm86_line_types.specs.declared.line.Stmt86.{Stmt86}
use Rattle.asm86_line_types.specs.declared.line.Stmt86.TheVariants.{Db, Dw, Run}
use Rattle.asm86_line_types.specs.Order.{ends_text}
use Rattle.asm86_line_types.specs.Image.{statements, image_of, Assembles}
use Rattle.asm86_line_reader.specs.ReadBack.{instr_fits, has_line}
use Rattle.asm80_types.specs.Program.{Program, IsProgram}
use Rattle.flow.specs.Blocks.{BlocksCut}
use Rattle.templates.specs.Plain.{data_from, ending, numbered_from}
use Rattle.templates.specs.Style.{Style, styled_statements, styled}
use Rattle.asm86.specs.Back.{AreWritten}
use Rattle.asm86.specs.Stream.{has_end}
use Rattle.sym_block_def.specs.Sorts.{IsCoded86, StatementIsCoded, StatementsAreCoded}
use Rattle.simulation_def.specs.Matches.{DatumIsCoded, DataAreCoded}
use Rattle.templates.proofs.NumberedLines.{statements-numbered}
use Rattle.templates_law.proofs.Text.Statements.{HaveLines}
use Rattle.templates_law.proofs.Text.Whole.{data_of, tail_of, body_of, all_lines}
use Rattle.templates_law.proofs.Text.CodeBytes.{word_below, byte_below, code_has_reader}

numbered_written : (n : ℕ) (xs : List Stmt86) → HaveLines xs → AreWritten n (numbered_from n xs)
numbered_written n [] h = tt
numbered_written n (x ∷ xs) h = (refl, h.0, subst (λ k. AreWritten k (numbered_from (n + 1) xs)) (add-one n) (numbered_written (n + 1) xs h.1))

any_last : (t : Stmt86 → Bool) (xs ys : List Stmt86) → list_any t ys ≡ true → list_any t (xs ++ ys) ≡ true
any_last t [] ys h = h
any_last t (x ∷ xs) ys h = ap (λ b. t x || b) (any_last t xs ys h) ∙ or-true (t x)

-- the numbers of an instruction that has a line are in their ranges
instr_coded : (i : Instr86) → instr_fits i ≡ true → IsCoded86 i
instr_coded (MovAlDirect a) h = word_below a h
instr_coded (MovDirectAl a) h = word_below a h
instr_coded (MovNum8 r n) h = byte_below n h
instr_coded (MovNum16 r w) h = word_below w h
instr_coded (MovMemNum q n) h = byte_below n h
instr_coded (MovReg16 r (Direct a)) h = word_below a h
instr_coded (MovDirect16 a r) h = word_below a h
instr_coded (AluNum op n) h = byte_below n h
instr_coded (InAl port) h = byte_below port h
instr_coded (OutAl port) h = byte_below port h
instr_coded i h = tt

statement_coded : (x : Stmt86) → has_line x ≡ true → StatementIsCoded x
statement_coded (Run i) h = instr_coded i h
statement_coded x h = tt

datum_coded : (x : Stmt86) → has_line x ≡ true → DatumIsCoded x
datum_coded (Db n) h = byte_below n h
datum_coded (Dw (Number w)) h = word_below w h
datum_coded x h = tt

statements_coded : (xs : List Stmt86) → HaveLines xs → StatementsAreCoded xs
statements_coded [] h = tt
statements_coded (x ∷ xs) h = (statement_coded x h.0, statements_coded xs h.1)

data_coded : (xs : List Stmt86) → HaveLines xs → DataAreCoded xs
data_coded [] h = tt
data_coded (x ∷ xs) h = (datum_coded x h.0, data_coded xs h.1)

pub text_has_end : (s : Style) (p : Program) → has_end (styled s p) ≡ true
text_has_end s p =
    let data_end : list_any ends_text (data_of p) ≡ true = any_last ends_text (data_from 0 p.cells) (ending p.top) refl in
    ap (list_any ends_text) (statements-numbered 1 (styled_statements s p)) ∙ any_last ends_text (body_of s p) (tail_of p) data_end

module _ (s : Style) (p : Program) (is : IsProgram p) (cut : BlocksCut p) where
  text_lines : HaveLines (statements (styled s p))
  text_lines = subst HaveLines (sym (statements-numbered 1 (styled_statements s p))) (all_lines s p is cut)

  pub text_written : AreWritten 1 (styled s p)
  text_written = numbered_written 1 (styled_statements s p) (all_lines s p is cut)

  pub text_has_reader : Assembles (styled s p) → HasReader (image_of (styled s p)).code
  text_has_reader assembles = code_has_reader (statements (styled s p)) text_lines assembles.small

  pub text_coded : StatementsAreCoded (statements (styled s p))
  text_coded = statements_coded (statements (styled s p)) text_lines

  pub text_data_coded : DataAreCoded (statements (styled s p))
  text_data_coded = data_coded (statements (styled s p)) text_lines
