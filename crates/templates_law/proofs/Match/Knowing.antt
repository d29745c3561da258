-- Where C is known to hold a number other than 0, its term is that number.
use Rattle.std.proofs.Common.{◌≡◌, Bool, true, false, refl, ap, ◌∙◌}
use Rattle.std.specs.Prelude.{◌&&◌, not}
use Rattle.std.proofs.lemmas.Bool.{and_parts, cond_both, not-true, true≢false}
use Rattle.cells.specs.declared.Part.TheVariants.{C}
use Rattle.cells.specs.Parts.{has}
use Rattle.i80.specs.declared.Reg.TheVariants.{C as RegC}
use Rattle.i80.specs.declared.Src.TheVariants.{Reg as InReg, Mem}
use Rattle.i80.specs.declared.Pair.TheVariants.{B as PairB}
use Rattle.i80.specs.declared.StackPair.TheVariants.{B as StackB}
use Rattle.i80.specs.declared.Op.{Op}
use Rattle.i80.specs.declared.Src.{Src}
use Rattle.i80.specs.declared.Word.TheVariants.{Num as Number, Code as CodeAt}
use Rattle.i80.specs.declared.Instr80.{Instr80}
use Rattle.i80.specs.declared.Instr80.TheVariants.{Mov, Mvi, Lxi, Alu, Inr, Dcr, Inx, Dcx, Pop}
use Rattle.i80.specs.Columns.{defs80, gives_zero}
use Rattle.sym_block_def.specs.Block80.{Symbolic80, effect80}
use Rattle.sym_block_def.specs.Walk86.{is_call}
use Rattle.templates.specs.Style.{knows_function}

alu_keeps : (s : Symbolic80) (op : Op) (from : Src) → (effect80 s (Alu op from)).held.c ≡ s.held.c
alu_keeps s op (InReg r) = cond_both (gives_zero op (InReg r)) _ _ (λ (t : Symbolic80). t.held.c ≡ s.held.c) (λ q. refl) (λ q. refl)
alu_keeps s op Mem = cond_both (gives_zero op Mem) _ _ (λ (t : Symbolic80). t.held.c ≡ s.held.c) (λ q. refl) (λ q. refl)

-- what does not define C keeps it
c_kept : (s : Symbolic80) (i : Instr80) → has (defs80 i) C ≡ false → (effect80 s i).held.c ≡ s.held.c
c_kept s (Mov (InReg RegC) from) e = absurd (true≢false e)
c_kept s (Mov (InReg r) (InReg q)) e = refl
c_kept s (Mov (InReg r) Mem) e = refl
c_kept s (Mov Mem (InReg q)) e = refl
c_kept s (Mov Mem Mem) e = refl
c_kept s (Mvi (InReg RegC) n) e = absurd (true≢false e)
c_kept s (Mvi (InReg r) n) e = refl
c_kept s (Mvi Mem n) e = refl
c_kept s (Lxi PairB w) e = absurd (true≢false e)
c_kept s (Lxi p (Number w)) e = refl
c_kept s (Lxi p (CodeAt a)) e = refl
c_kept s (Alu op from) e = alu_keeps s op from
c_kept s (Inr (InReg RegC)) e = absurd (true≢false e)
c_kept s (Inr (InReg r)) e = refl
c_kept s (Inr Mem) e = refl
c_kept s (Dcr (InReg RegC)) e = absurd (true≢false e)
c_kept s (Dcr (InReg r)) e = refl
c_kept s (Dcr Mem) e = refl
c_kept s (Inx PairB) e = absurd (true≢false e)
c_kept s (Inx p) e = refl
c_kept s (Dcx PairB) e = absurd (true≢false e)
c_kept s (Dcx p) e = refl
c_kept s (Pop StackB) e = absurd (true≢false e)
c_kept s (Pop p) e = refl
c_kept s i e = refl

kept_number : (c : Bool) (s : Symbolic80) (i : Instr80) → (c ≡ true → is_call s.held.c ≡ true) → (c && not (has (defs80 i) C)) ≡ true → is_call (effect80 s i).held.c ≡ true
kept_number c s i k e =
    let both = and_parts c (not (has (defs80 i) C)) e in
    let same = c_kept s i (not-true (has (defs80 i) C) both.1) in
    ap is_call same ∙ k both.0

pub number_known : (c : Bool) (s : Symbolic80) (i : Instr80) → (c ≡ true → is_call s.held.c ≡ true) → knows_function c i ≡ true → is_call (effect80 s i).held.c ≡ true
number_known c s (Mvi (InReg RegC) n) k e = e
number_known c s (Lxi PairB (Number w)) k e = e
number_known c s i k e = kept_number c s i k e
