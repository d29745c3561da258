use Rattle.std.proofs.Common.{◌≡◌, ◌∙◌, ℕ, ◌+◌, ◌-◌, ◌≤◌, length, take, subst, sym, ap, arith}
use Rattle.std.specs.Prelude.{option_map}
use Rattle.i80.specs.declared.Instr80.{Instr80}
use Rattle.asm80_types.specs.Program.{instr_at}
use Rattle.std.proofs.lemmas.List.{length-set}
use Rattle.sym_run.proofs.Addresses.{Filled, not_none, is_there, fills, all_later, all_after}
use Rattle.sym_run.proofs.block.addresses.Goals as goal

abbrev found_instr : ℕ × Instr80 → Instr80
found_instr found = found.1

pub unreachable-requires : goal.unreachable-requires
unreachable-requires c =
    let p = c.args.program.now in
    let at = c.loop-done.at in
    not_none (instr_at p at)
    (is_there p c.args.first c.args.count at (c.args.count - c.loop-done.done) (take c.loop-done.done c.loop-done.addresses) c.loop-done.invariant.1 (omega arith))
    (sym c.instr_near.ensures.value ∙ ap (option_map found_instr) c.in_default.is)

pub loop-done-preserved : goal.loop-done-preserved
loop-done-preserved c =
    let p = c.args.program.now in
    let at = c.loop-done.at in
    let done = c.loop-done.done in
    let xs = c.loop-done.addresses in
    let size : length xs ≡ 16 = c.loop-done.invariant.0 in
    let few : c.args.count ≤ 16 = c.requires.few in (
      length-set xs done at ∙ size,
      fills p c.args.first c.args.count at (at + c.length-at.result) done xs c.in-Some.instr c.loop-done.invariant.1 (sym c.instr_near.ensures.value ∙ ap (option_map found_instr) c.in-Some.is) (ap (λ n. at + n) c.length-at.ensures) (omega arith) (omega arith),
    )

pub returns : goal.returns
returns c =
    let p = c.args.program.now in
    let at = c.loop-done.at in
    let xs = c.loop-done.addresses in
    let all : c.loop-done.done ≡ c.args.count = omega arith in
    let filled : Filled p c.args.first c.args.count at (c.args.count - c.args.count) (take c.args.count xs) = subst (λ n. Filled p c.args.first c.args.count at (c.args.count - n) (take n xs)) all c.loop-done.invariant.1 in
    record {
      later = all_later p c.args.first c.args.count at xs filled c.requires.some;
      after = all_after p c.args.first c.args.count at (take c.args.count xs) filled;
    }
