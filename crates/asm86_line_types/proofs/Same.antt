-- Statements that `==` finds to be the same are the same.
use Rattle.std.proofs.Common.{◌≡◌, true, false, refl, ap, sym, ◌∙◌}
use Rattle.std.proofs.lemmas.Bool.{and_parts, eqb-true, false≢true}
use Rattle.i86.specs.contracts.Reg16PartialEq.TheImpl as reg16_eq
use Rattle.i86.specs.contracts.JumpPartialEq.TheImpl as jump_eq
use Rattle.i86.proofs.Same.{same_reg16, same_jump, same_instr86}
use Rattle.asm86_line_types.specs.contracts.line.LabelPartialEq.TheImpl as label_eq
use Rattle.asm86_line_types.specs.declared.line.Value16.{Value16}
use Rattle.asm86_line_types.specs.declared.line.Value16.TheVariants as value16s
use Rattle.asm86_line_types.specs.contracts.line.Value16PartialEq.TheImpl as value16_eq
use Rattle.asm86_line_types.specs.declared.line.Stmt86.{Stmt86}
use Rattle.asm86_line_types.specs.declared.line.Stmt86.TheVariants as stmt86s
use Rattle.asm86_line_types.specs.contracts.line.Stmt86PartialEq.TheImpl as stmt86_eq
use Rattle.asm86_line_types.specs.contracts.line.Stmt86Eq.TheImpl.Laws.{laws-law}
use Rattle.asm86_line_types.proofs.Labels.{equal_is_one}

same_value16 : (a b : Value16) → value16_eq.eq-value.it a b ≡ true → a ≡ b
same_value16 (value16s.Num x) (value16s.Num y) h = ap value16s.Num (eqb-true x y h)
same_value16 (value16s.Offset x) (value16s.Offset y) h = ap value16s.Offset (equal_is_one x y h)
same_value16 a b h = absurd (false≢true h)

pub same_stmt86 : (a b : Stmt86) → stmt86_eq.eq-value.it a b ≡ true → a ≡ b
same_stmt86 stmt86s.Cseg stmt86s.Cseg h = refl
same_stmt86 stmt86s.Dseg stmt86s.Dseg h = refl
same_stmt86 (stmt86s.Org x) (stmt86s.Org y) h = ap stmt86s.Org (eqb-true x y h)
same_stmt86 (stmt86s.Rb x) (stmt86s.Rb y) h = ap stmt86s.Rb (eqb-true x y h)
same_stmt86 (stmt86s.Db x) (stmt86s.Db y) h = ap stmt86s.Db (eqb-true x y h)
same_stmt86 (stmt86s.Dw x) (stmt86s.Dw y) h = ap stmt86s.Dw (same_value16 x y h)
same_stmt86 (stmt86s.Mark x) (stmt86s.Mark y) h = ap stmt86s.Mark (equal_is_one x y h)
same_stmt86 (stmt86s.Run x) (stmt86s.Run y) h = ap stmt86s.Run (same_instr86 x y h)
same_stmt86 (stmt86s.MovOffset x v) (stmt86s.MovOffset y w) h = let parts = and_parts (reg16_eq.eq-value.it x y) (label_eq.eq-value.it v w) h in λ i. stmt86s.MovOffset (same_reg16 x y parts.0 i) (equal_is_one v w parts.1 i)
same_stmt86 (stmt86s.Jmp x) (stmt86s.Jmp y) h = ap stmt86s.Jmp (equal_is_one x y h)
same_stmt86 (stmt86s.Jmps x) (stmt86s.Jmps y) h = ap stmt86s.Jmps (equal_is_one x y h)
same_stmt86 (stmt86s.Jcc x v) (stmt86s.Jcc y w) h = let parts = and_parts (jump_eq.eq-value.it x y) (label_eq.eq-value.it v w) h in λ i. stmt86s.Jcc (same_jump x y parts.0 i) (equal_is_one v w parts.1 i)
same_stmt86 (stmt86s.Call x) (stmt86s.Call y) h = ap stmt86s.Call (equal_is_one x y h)
same_stmt86 stmt86s.EndText stmt86s.EndText h = refl
same_stmt86 a b h = absurd (false≢true h)

pub differs : (a b : Stmt86) → stmt86_eq.eq-value.it a b ≡ false → a ≡ b → ⊥
differs a b h e = false≢true (sym h ∙ (ap (λ c. stmt86_eq.eq-value.it a c) (sym e) ∙ laws-law.refl a))
