-- Operands of tokens in range are in range.
use Rattle.std.proofs.Common.{List, ℕ}
use Rattle.std.specs.List.{AllByRecursion}
use Rattle.asm80_types.specs.Tree.{Tree, Operand}
use Rattle.asm80_types.specs.Ranges.{HasWords, IsInRange}
use Rattle.asm80_text.specs.declared.token.Token.{Token}
use Rattle.asm80_text.specs.Small.{AreSmall}
use Rattle.asm80_text.specs.Grammar.{Spells, Begins, alone, joined, digits, number, here, name, register, parens, tighter, minus, plus, inverse}
use Rattle.asm80_text.specs.Statement.{IsOperand, text, value, AreOperands, last, more, HasOperands, bare, full}

mutual
  spelled : {k : ℕ} {ts rest : List Token} {e : Tree} → Spells k ts e rest → AreSmall ts → HasWords e × AreSmall rest
  spelled (alone b) h = begun b h
  spelled (joined l lv r) h = let a = spelled l h in let b = spelled r a.1.1 in ((a.0, b.0), b.1)

  begun : {k : ℕ} {ts rest : List Token} {e : Tree} → Begins k ts e rest → AreSmall ts → HasWords e × AreSmall rest
  begun digits h = h
  begun number h = h
  begun here h = h
  begun name h = h
  begun register h = h
  begun (parens s) h = let a = spelled s h.1 in (a.0, a.1.1)
  begun (tighter s) h = spelled s h
  begun (minus s) h = spelled s h.1
  begun (plus s) h = spelled s h.1
  begun (inverse s) h = spelled s h.1

operand_range : {ts rest : List Token} {a : Operand} → IsOperand ts a rest → AreSmall ts → IsInRange a × AreSmall rest
operand_range text h = h
operand_range (value s) h = spelled s h

operands_range : {ts : List Token} {args : List Operand} → AreOperands ts args → AreSmall ts → AllByRecursion IsInRange args
operands_range (last a) h = ((operand_range a h).0, tt)
operands_range (more a x) h = let p = operand_range a h in (p.0, operands_range x p.1.1)

pub list_range : {ts : List Token} {args : List Operand} → HasOperands ts args → AreSmall ts → AllByRecursion IsInRange args
list_range bare h = tt
list_range (full x) h = operands_range x h
