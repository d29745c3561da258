-- Lawful tokens are well-formed statements.
use Rattle.std.proofs.Common.{◌≡◌, ℕ, List, [], false, Option, Some, None, All, refl}
use Rattle.std.specs.List.{AllByRecursion}
use Rattle.std.proofs.lemmas.List.Elements.{All-from_recursion, recursion_from_All}
use Rattle.asm80_text.specs.declared.token.Token.{Token}
use Rattle.asm80_types.specs.Tree.{Tree, Operand, Statement}
use Rattle.asm80_text.specs.Spelling.{Spelling}
use Rattle.asm80_text.specs.Tokens.{IsLawful}
use Rattle.asm80_text.specs.Coherent.{IsCoherent}
use Rattle.asm80_text.proofs.Operations.{operates}
use Rattle.asm80_text.specs.Grammar.{Spells, Begins, alone, joined, digits, number, here, name, register, parens, tighter, minus, plus, inverse}
use Rattle.asm80_types.specs.Words.{is_register}
use Rattle.asm80_types.specs.WellFormed.{IsLawfulOperand, IsWellFormed}
use Rattle.asm80_text.specs.Statement.{IsOperand, text, value, AreOperands, last, more, HasOperands, bare, full, IsBody, nothing, operated, IsLabeled, unlabeled, labeled, with_colon, IsStatement, unnumbered, numbered, IsStatementOf}

abbrev AreLawful : Spelling → List Token → Type 0
AreLawful s ts = AllByRecursion (IsLawful s) ts

no_operands : All IsLawfulOperand []
no_operands = All-from_recursion IsLawfulOperand [] tt

module _ (spelling : Spelling) where
  -- what follows an expression was among the tokens
  mutual
    spells_rest : {k : ℕ} {ts rest : List Token} {e : Tree} → Spells k ts e rest → AreLawful spelling ts → AreLawful spelling rest
    spells_rest (alone b) h = begins_rest b h
    spells_rest (joined l lv r) h = spells_rest r (spells_rest l h).1

    begins_rest : {k : ℕ} {ts rest : List Token} {e : Tree} → Begins k ts e rest → AreLawful spelling ts → AreLawful spelling rest
    begins_rest digits h = h.1
    begins_rest number h = h.1
    begins_rest here h = h.1
    begins_rest name h = h.1
    begins_rest register h = h.1
    begins_rest (parens s) h = (spells_rest s h.1).1
    begins_rest (tighter s) h = spells_rest s h
    begins_rest (minus s) h = spells_rest s h.1
    begins_rest (plus s) h = spells_rest s h.1
    begins_rest (inverse s) h = spells_rest s h.1

  operand_lawful : {ts rest : List Token} {a : Operand} → IsOperand ts a rest → AreLawful spelling ts → IsLawfulOperand a × AreLawful spelling rest
  operand_lawful text h = h
  operand_lawful (value s) h = (tt, spells_rest s h)

  operands_lawful : {ts : List Token} {args : List Operand} → AreOperands ts args → AreLawful spelling ts → AllByRecursion IsLawfulOperand args
  operands_lawful (last a) h = ((operand_lawful a h).0, tt)
  operands_lawful (more a x) h = let p = operand_lawful a h in (p.0, operands_lawful x p.1.1)

  pub list_lawful : (ts : List Token) (args : List Operand) → All (IsLawful spelling) ts → HasOperands ts args → All IsLawfulOperand args
  list_lawful [] [] h bare = no_operands
  list_lawful ts args h (full x) = All-from_recursion _ _ (operands_lawful x (recursion_from_All _ _ h))

-- what is known of the parts of a statement
record IsGood (label op : Option (List ℕ)) (args : List Operand) : Type 0 where
  good : (n : ℕ) → IsWellFormed (record { line = n; label = label; op = op; args = args })

with_label : (word : List ℕ) (op : Option (List ℕ)) (args : List Operand) → is_register word ≡ false → IsGood None op args → IsGood (Some word) op args
with_label word op args h g = record { good = λ n. let w = g.good n in record { operation = w.operation; bare = w.bare; label = h; operands = w.operands } }

module _ (spelling : Spelling) (coherent : IsCoherent spelling) where
  body_lawful : {ts : List Token} {op : Option (List ℕ)} {args : List Operand} → IsBody spelling ts op args → AreLawful spelling ts → IsGood None op args
  body_lawful nothing h = record { good = λ n. record { operation = tt; bare = refl; label = tt; operands = no_operands } }
  body_lawful (operated {t = t} {ts = ts} {word = w} {op = op} {args = args} e x) h =
      let formed = coherent.lawful w op ts args (operates spelling t w e h.0) (All-from_recursion _ _ h.1) x in
      record { good = λ n. record { operation = formed.0; bare = tt; label = tt; operands = formed.1 } }

  labeled_lawful : {ts : List Token} {label op : Option (List ℕ)} {args : List Operand} → IsLabeled spelling ts label op args → AreLawful spelling ts → IsGood label op args
  labeled_lawful (unlabeled b) h = body_lawful b h
  labeled_lawful (labeled {name = w} {op = o} {args = a} b) h = with_label w o a (coherent.labels w h.0) (body_lawful b h.1)
  labeled_lawful (with_colon {name = w} {op = o} {args = a} b) h = with_label w o a (coherent.labels w h.0) (body_lawful b h.1.1)

  statement_lawful : {ts : List Token} {label op : Option (List ℕ)} {args : List Operand} → IsStatement spelling ts label op args → AreLawful spelling ts → IsGood label op args
  statement_lawful (unnumbered x) h = labeled_lawful x h
  statement_lawful (numbered x) h = labeled_lawful x h.1

  pub lawful_statement : (n : ℕ) (ts : List Token) (s : Statement) → All (IsLawful spelling) ts → IsStatementOf spelling n ts s → IsWellFormed s
  lawful_statement n ts s h x = (statement_lawful x.words (recursion_from_All _ _ h)).good s.line
