-- A block as far as it has come: what the instructions that are left do, is what the block does.
use Rattle.std.proofs.Common.{◌≡◌, ◌∙◌, ℕ, zero, suc, ◌+◌, ◌-◌, ◌≤◌, false, List, [], ◌∷◌, length, Option, Some, IsSome, refl, sym, ap, subst, arith}
use Rattle.i80.specs.declared.Instr80.{Instr80}
use Rattle.i80.specs.Columns.{length80}
use Rattle.asm80_types.specs.Program.{Program, instr_at}
use Rattle.xlt_pool.specs.Contents.{Contents}
use Rattle.sym_block_def.specs.Block80.{Symbolic80, start80, effect80, exit80, outcome80, outcome_from, instrs_from, MayRun, block80}
use Rattle.sym_micro.specs.declared.run.Run.{Run}
use Rattle.sym_micro.specs.declared.outcome.Exit.{Exit as ExitIds}
use Rattle.cells.specs.Parts.{Parts, everything}
use Rattle.sym_block_def.specs.Symbolic86.{start86}
use Rattle.sym_block_def.proofs.Instructions.{some_there, first_is, shorter}
use Rattle.sym_micro.specs.Machine.{Machine, as80, as86}
use Rattle.sym_micro.specs.Stands.{machine_of, Runs}
use Rattle.sym_micro.specs.Exits.{FindsExit, RunsTo}
use Rattle.sym_micro.proofs.Found.{ends_by}
use Rattle.sym_micro.proofs.Alike.{seen_80}

pub record Left (p : Program) (first count at left : ℕ) (s : Symbolic80) : Type 0 where
  pub rest : outcome_from p at (instrs_from p at left) s ≡ block80 p first count
  pub whole : length (instrs_from p at left) ≡ left

pub all_left : (p : Program) (first count : ℕ) (s : Symbolic80) → MayRun p first count → s ≡ start80 → Left p first count first count s
all_left p first count s b e = record { rest = ap (outcome_from p first (instrs_from p first count)) e; whole = b.whole }

-- an instruction is there where one is left
pub is_there : (p : Program) (first count at left : ℕ) (s : Symbolic80) → Left p first count at left s → 1 ≤ left → IsSome (instr_at p at)
is_there p first count at zero s d le = absurd (omega arith)
is_there p first count at (suc n) s d le = some_there (instr_at p at) (λ i. instrs_from p (at + length80 i) n) n d.whole

outcome_more : (p : Program) (at n : ℕ) (i : Instr80) (xs : List Instr80) (s : Symbolic80) → length xs ≡ suc n → outcome_from p at (i ∷ xs) s ≡ outcome_from p (at + length80 i) xs (effect80 s i)
outcome_more p at n i [] s h = absurd (cc)
outcome_more p at n i (j ∷ ys) s h = refl

-- an instruction that is not the last
pub goes_on : (p : Program) (first count at left : ℕ) (s : Symbolic80) (i : Instr80) → Left p first count at left s → 2 ≤ left → instr_at p at ≡ Some i → Left p first count (at + length80 i) (left - 1) (effect80 s i)
goes_on p first count at zero s i d le h = absurd (omega arith)
goes_on p first count at (suc zero) s i d le h = absurd (omega arith)
goes_on p first count at (suc (suc n)) s i d le h =
    let first_one = first_is p at (suc n) i h in
    let others = instrs_from p (at + length80 i) (suc n) in
    let whole : length others ≡ suc n = shorter i others (suc n) (sym (ap length first_one) ∙ d.whole) in
    let one_less : suc n ≡ suc (suc n) - 1 = omega arith in
    subst (λ k. Left p first count (at + length80 i) k (effect80 s i)) one_less
    (record {
      rest = sym (outcome_more p at n i others s whole) ∙ sym (ap (λ l. outcome_from p at l s) first_one) ∙ d.rest;
      whole = whole;
    })

-- the last one
last_is : (p : Program) (first count at : ℕ) (s : Symbolic80) (i : Instr80) → Left p first count at 1 s → instr_at p at ≡ Some i → outcome80 (effect80 s i) (exit80 p (at + length80 i) (effect80 s i) i) ≡ block80 p first count
last_is p first count at s i d h = sym (ap (λ l. outcome_from p at l s) (first_is p at 0 i h)) ∙ d.rest

pub ended : (p : Program) (first count at next : ℕ) (s : Symbolic80) (i : Instr80) (old mid new : Contents) (r : Run) (j a : ℕ) (found : Option ExitIds)
    → Left p first count at 1 s → instr_at p at ≡ Some i → next ≡ at + length80 i → Runs old mid r j a (λ m. as80 m ≡ effect80 s i) (Some tt)
    → FindsExit mid new 3 (exit80 p next (as80 (machine_of mid r)) i) found → RunsTo old new r (j + 3) false (block80 p first count) found
ended p first count at next s i old mid new r j a found d h e g w =
    let x = outcome80 (effect80 s i) (exit80 p (at + length80 i) (effect80 s i) i) in
    let is = g.gives.is in
    let exit_is : exit80 p next (as80 (machine_of mid r)) i ≡ exit80 p (at + length80 i) (effect80 s i) i = (λ k. exit80 p (e k) (is k) i) in
    subst (λ y. RunsTo old new r (j + 3) false y found) (last_is p first count at s i d h)
    (ends_by old mid new r j 3 a (λ m. as80 m ≡ effect80 s i) false x found g
    (subst (λ y. FindsExit mid new 3 y found) exit_is w)
    (ap (λ (y : Symbolic80). y.held) is) (ap (λ (y : Symbolic80). y.sp) is) (ap (λ (y : Symbolic80). y.trace.actions) is) refl)

-- what the 8080 sees of the beginning
pub begun : (m : Machine) (keep : Parts) → keep ≡ everything → as86 m ≡ start86 keep → as80 m ≡ start80
begun m keep all e = ap seen_80 (e ∙ ap start86 all)
