-- What is to be shown of one instruction, and its operands.
use Rattle.std.proofs.Common.{◌≡◌, ℕ, Bool, true, refl, ◌∙◌}
use Rattle.std.proofs.lemmas.Bool.{or_right, false≢true}
use Rattle.cells.specs.declared.Part.{Part}
use Rattle.cells.specs.declared.Part.TheVariants.{H, L}
use Rattle.cells.specs.Parts.{Parts, has, only, union}
use Rattle.cells.proofs.Unions.{has_union}
use Rattle.i80.specs.declared.Reg.{Reg as Register}
use Rattle.i80.specs.declared.Reg.TheVariants.{A as RegA}
use Rattle.i80.specs.declared.Pair.TheVariants.{H as PairH}
use Rattle.i80.specs.declared.Instr80.{Instr80}
use Rattle.i80.specs.Columns.{part_of_reg, pair, uses80, defs80}
use Rattle.i86.specs.declared.Reg16.TheVariants.{Bx}
use Rattle.templates.specs.Template.{template}
use Rattle.sym_block_def.specs.Block80.{Symbolic80, pair_term, effect80}
use Rattle.sym_block_def.specs.Symbolic86.{Symbolic86, reg16_term}
use Rattle.sym_block_def.specs.Sorts.{AreSorted80, AreSorted86}
use Rattle.sym_block_def.specs.Agree.{agrees}
use Rattle.templates_law.specs.Match.Meeting.{Among, Agree}
use Rattle.templates_law.specs.Match.Rows.{all_passed}
use Rattle.templates_law.proofs.Match.Terms.{or_first}
use Rattle.templates_law.proofs.Match.Words.{words_agree}
use Rattle.templates_law.proofs.Match.Moves.{Adding, pair_meets}

-- an instruction uses parts that are agreed on
abbrev pub Given : Parts → Instr80 → Type 0
Given before i = (q : Part) → Among (uses80 i) q → Among before q

-- states of terms that agree on some parts, before the instruction at an address
pub record Agreeing : Type 0 where
  pub before : Parts
  pub s : Symbolic80
  pub t : Symbolic86
  pub x : AreSorted80 s
  pub y : AreSorted86 t
  pub a : Agree (Among before) s t
  pub at : ℕ

-- behind it the states agree on those and on what it defines
abbrev pub Row : Agreeing → Instr80 → Bool → Type 0
Row now i save = Agree (Adding (Among now.before) (defs80 i)) (effect80 now.s i) (all_passed now.t (template i now.at save))

pub in_first : (a b : Parts) (q : Part) → Among a q → Among (union a b) q
in_first a b q c = has_union a b q ∙ or_first (has a q) (has b q) c

pub in_second : (a b : Parts) (q : Part) → Among b q → Among (union a b) q
in_second a b q c = has_union a b q ∙ or_right (has a q) (has b q) c

pub itself : (r : Register) → Among (only (part_of_reg r)) (part_of_reg r)
itself RegA = refl
itself r = refl

-- the address in HL
pub address : (now : Agreeing) → Among now.before H → Among now.before L → agrees (pair_term now.s PairH) (reg16_term now.t Bx) ≡ true
address now kh kl = words_agree _ _ (pair_meets PairH now.s now.t now.x now.y now.a of_hl)
  where
    of_hl : (q : Part) → Among (pair PairH) q → Among now.before q
    of_hl H c = kh
    of_hl L c = kl
    of_hl q c = absurd (false≢true c)
