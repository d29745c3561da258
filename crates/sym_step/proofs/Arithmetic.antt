-- What is no move does what the others do, and what is none of these its arithmetic alone.
use Rattle.std.proofs.Common.{◌≡◌, ℕ, refl}
use Rattle.i80.specs.declared.Instr80.{Instr80}
use Rattle.i80.specs.declared.Src.{Src}
use Rattle.i80.specs.declared.Pair.{Pair}
use Rattle.i80.specs.declared.StackPair.{StackPair}
use Rattle.i80.specs.declared.Word.{Word}
use Rattle.i86.specs.declared.Instr86.{Instr86}
use Rattle.i86.specs.declared.Operand8.{Operand8}
use Rattle.i86.specs.declared.Operand16.{Operand16}
use Rattle.i86.specs.declared.Ptr.{Ptr}
use Rattle.i86.specs.declared.Reg8.{Reg8}
use Rattle.i86.specs.declared.Reg16.{Reg16}
use Rattle.i86.specs.declared.StackReg.{StackReg}
use Rattle.sym_block_def.specs.Block80.{Symbolic80, effect80}
use Rattle.sym_block_def.specs.Symbolic86.{Symbolic86, effect86}
use Rattle.sym_step.specs.Arithmetic.{past_moves80, past_moves86, arithmetic80, arithmetic86}

pub no_move80 : (s : Symbolic80) (i : Instr80) → ((x : Src) (y : Src) → i ≡ Instr80.Mov x y → ⊥) → ((x : Src) (y : ℕ) → i ≡ Instr80.Mvi x y → ⊥) → ((x : Pair) (y : Word) → i ≡ Instr80.Lxi x y → ⊥) → ((x : ℕ) → i ≡ Instr80.Lda x → ⊥) → ((x : ℕ) → i ≡ Instr80.Sta x → ⊥) → ((x : ℕ) → i ≡ Instr80.Lhld x → ⊥) → ((x : ℕ) → i ≡ Instr80.Shld x → ⊥) → ((x : Pair) → i ≡ Instr80.Ldax x → ⊥) → ((x : Pair) → i ≡ Instr80.Stax x → ⊥) → past_moves80 s i ≡ effect80 s i
no_move80 s (Instr80.Mov x y) h1 h2 h3 h4 h5 h6 h7 h8 h9 = absurd (h1 x y refl)
no_move80 s (Instr80.Mvi x y) h1 h2 h3 h4 h5 h6 h7 h8 h9 = absurd (h2 x y refl)
no_move80 s (Instr80.Lxi x y) h1 h2 h3 h4 h5 h6 h7 h8 h9 = absurd (h3 x y refl)
no_move80 s (Instr80.Lda x) h1 h2 h3 h4 h5 h6 h7 h8 h9 = absurd (h4 x refl)
no_move80 s (Instr80.Sta x) h1 h2 h3 h4 h5 h6 h7 h8 h9 = absurd (h5 x refl)
no_move80 s (Instr80.Lhld x) h1 h2 h3 h4 h5 h6 h7 h8 h9 = absurd (h6 x refl)
no_move80 s (Instr80.Shld x) h1 h2 h3 h4 h5 h6 h7 h8 h9 = absurd (h7 x refl)
no_move80 s (Instr80.Ldax x) h1 h2 h3 h4 h5 h6 h7 h8 h9 = absurd (h8 x refl)
no_move80 s (Instr80.Stax x) h1 h2 h3 h4 h5 h6 h7 h8 h9 = absurd (h9 x refl)
no_move80 s i h1 h2 h3 h4 h5 h6 h7 h8 h9 = refl

pub only_arithmetic80 : (s : Symbolic80) (i : Instr80) → (i ≡ Instr80.Xchg → ⊥) → (i ≡ Instr80.Xthl → ⊥) → (i ≡ Instr80.Sphl → ⊥) → ((x : StackPair) → i ≡ Instr80.Push x → ⊥) → ((x : StackPair) → i ≡ Instr80.Pop x → ⊥) → arithmetic80 s i ≡ past_moves80 s i
only_arithmetic80 s Instr80.Xchg h1 h2 h3 h4 h5 = absurd (h1 refl)
only_arithmetic80 s Instr80.Xthl h1 h2 h3 h4 h5 = absurd (h2 refl)
only_arithmetic80 s Instr80.Sphl h1 h2 h3 h4 h5 = absurd (h3 refl)
only_arithmetic80 s (Instr80.Push x) h1 h2 h3 h4 h5 = absurd (h4 x refl)
only_arithmetic80 s (Instr80.Pop x) h1 h2 h3 h4 h5 = absurd (h5 x refl)
only_arithmetic80 s i h1 h2 h3 h4 h5 = refl

pub no_move86 : (s : Symbolic86) (i : Instr86) → ((x : Reg8) (y : Operand8) → i ≡ Instr86.MovReg8 x y → ⊥) → ((x : Ptr) (y : Reg8) → i ≡ Instr86.MovMem8 x y → ⊥) → ((x : ℕ) → i ≡ Instr86.MovAlDirect x → ⊥) → ((x : ℕ) → i ≡ Instr86.MovDirectAl x → ⊥) → ((x : Reg8) (y : ℕ) → i ≡ Instr86.MovNum8 x y → ⊥) → ((x : Reg16) (y : ℕ) → i ≡ Instr86.MovNum16 x y → ⊥) → ((x : Ptr) (y : ℕ) → i ≡ Instr86.MovMemNum x y → ⊥) → ((x : Reg16) (y : Operand16) → i ≡ Instr86.MovReg16 x y → ⊥) → ((x : ℕ) (y : Reg16) → i ≡ Instr86.MovDirect16 x y → ⊥) → (i ≡ Instr86.MovAxDs → ⊥) → past_moves86 s i ≡ effect86 s i
no_move86 s (Instr86.MovReg8 x y) h1 h2 h3 h4 h5 h6 h7 h8 h9 h10 = absurd (h1 x y refl)
no_move86 s (Instr86.MovMem8 x y) h1 h2 h3 h4 h5 h6 h7 h8 h9 h10 = absurd (h2 x y refl)
no_move86 s (Instr86.MovAlDirect x) h1 h2 h3 h4 h5 h6 h7 h8 h9 h10 = absurd (h3 x refl)
no_move86 s (Instr86.MovDirectAl x) h1 h2 h3 h4 h5 h6 h7 h8 h9 h10 = absurd (h4 x refl)
no_move86 s (Instr86.MovNum8 x y) h1 h2 h3 h4 h5 h6 h7 h8 h9 h10 = absurd (h5 x y refl)
no_move86 s (Instr86.MovNum16 x y) h1 h2 h3 h4 h5 h6 h7 h8 h9 h10 = absurd (h6 x y refl)
no_move86 s (Instr86.MovMemNum x y) h1 h2 h3 h4 h5 h6 h7 h8 h9 h10 = absurd (h7 x y refl)
no_move86 s (Instr86.MovReg16 x y) h1 h2 h3 h4 h5 h6 h7 h8 h9 h10 = absurd (h8 x y refl)
no_move86 s (Instr86.MovDirect16 x y) h1 h2 h3 h4 h5 h6 h7 h8 h9 h10 = absurd (h9 x y refl)
no_move86 s Instr86.MovAxDs h1 h2 h3 h4 h5 h6 h7 h8 h9 h10 = absurd (h10 refl)
no_move86 s i h1 h2 h3 h4 h5 h6 h7 h8 h9 h10 = refl

pub only_arithmetic86 : (s : Symbolic86) (i : Instr86) → ((x : StackReg) → i ≡ Instr86.Push x → ⊥) → ((x : StackReg) → i ≡ Instr86.Pop x → ⊥) → ((x : Reg8) (y : Reg8) → i ≡ Instr86.Xchg8 x y → ⊥) → ((x : Reg16) (y : Reg16) → i ≡ Instr86.Xchg16 x y → ⊥) → (i ≡ Instr86.Sahf → ⊥) → (i ≡ Instr86.Lahf → ⊥) → arithmetic86 s i ≡ past_moves86 s i
only_arithmetic86 s (Instr86.Push x) h1 h2 h3 h4 h5 h6 = absurd (h1 x refl)
only_arithmetic86 s (Instr86.Pop x) h1 h2 h3 h4 h5 h6 = absurd (h2 x refl)
only_arithmetic86 s (Instr86.Xchg8 x y) h1 h2 h3 h4 h5 h6 = absurd (h3 x y refl)
only_arithmetic86 s (Instr86.Xchg16 x y) h1 h2 h3 h4 h5 h6 = absurd (h4 x y refl)
only_arithmetic86 s Instr86.Sahf h1 h2 h3 h4 h5 h6 = absurd (h5 refl)
only_arithmetic86 s Instr86.Lahf h1 h2 h3 h4 h5 h6 = absurd (h6 refl)
only_arithmetic86 s i h1 h2 h3 h4 h5 h6 = refl
