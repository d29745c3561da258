use Rattle.std.proofs.Common.{◌≡◌, get_or, refl, sym, subst, ◌∙◌, arith}
use Rattle.std.specs.Prelude.{filter}
use Rattle.std.proofs.lemmas.List.{take_all}
use Rattle.i80.specs.declared.Instr80.TheVariants.{Nop}
use Rattle.asm80_types.specs.declared.program.Placed.{Placed}
use Rattle.flow.specs.Saves.{is_word_sum, is_sum_at}
use Rattle.cmd_lists.specs.Saves.{AreSavings}
use Rattle.cmd_lists.proofs.Gathering.{sum_of_placed, kept, passed}
use Rattle.cmd_lists.proofs.savings.savings_by.Goals as goal
use Rattle.cmd_lists.proofs.savings.savings_by.Goals.{in-Some+in_ok-push, in_default}

-- what an index past the end would give
abbrev any_placed : Placed
any_placed = record { at = 0; line = 0; instr = Nop }

pub loop-placed-preserved : goal.loop-placed-preserved
loop-placed-preserved c =
    let p = c.args.program.now in
    let items = c.instrs-placed-items.result.now in
    let i = c.loop-placed.placed-index in
    let before = c.loop-placed.savings.items in
    elim c.match-saves.branch [
      | in-Some+in_ok-push w ↦ rw (w.savings-is, w.in_ok-push.ensures.items) (kept p items i any_placed before c.loop-placed-test.true c.loop-placed.invariant _ (sym w.in-Some.ensures.place) (record { at = refl; line = refl; keep = w.in-Some.ensures.saves }))
      | in_default w ↦ rw w.savings-is (passed p items i any_placed before c.loop-placed-test.true c.loop-placed.invariant (sym w.in_default.ensures.place))
    ]

-- another instruction is passed
pub loop-placed-preserved-then-not-is_word_sum : goal.loop-placed-preserved-then-not-is_word_sum
loop-placed-preserved-then-not-is_word_sum c =
    let p = c.args.program.now in
    let items = c.instrs-placed-items.result.now in
    let i = c.loop-placed.placed-index in
    let same : is_sum_at p (get_or items i any_placed).at ≡ is_word_sum (get_or items i any_placed).instr =
    rw c.instrs-placed-items.ensures.value (sum_of_placed p i any_placed c.instrs-placed-items.ensures.program (rw c.instrs-placed-items.ensures.value at c.loop-placed-test.true)) in
    passed p items i any_placed c.loop-placed.savings.items c.loop-placed-test.true c.loop-placed.invariant (same ∙ sym c.is_word_sum.ensures ∙ c.if-not-is_word_sum.true)

pub returns : goal.returns
returns c =
    let p = c.args.program.now in
    subst (λ l. AreSavings p (filter (λ (x : Placed). is_sum_at p x.at) l) c.loop-placed.savings.items)
    (take_all c.loop-placed.placed-index c.instrs-placed-items.result.now (omega arith) ∙ c.instrs-placed-items.ensures.value)
    c.loop-placed.invariant
