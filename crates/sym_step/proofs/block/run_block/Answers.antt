use Rattle.std.proofs.Common.{◌≡◌, ℕ, ◌+◌, ◌-◌, ◌*◌, ◌≤◌, false, Some, None, ap, subst, sym, arith, le_refl}
use Rattle.i80.specs.Columns.{length80}
use Rattle.sym_block_def.specs.Block80.{Symbolic80, effect80, block80}
use Rattle.sym_block_def.specs.Symbolic86.{start86}
use Rattle.sym_micro.specs.Machine.{as80, as86}
use Rattle.sym_micro.specs.Stands.{machine_of}
use Rattle.sym_micro.specs.Exits.{RunsTo}
use Rattle.sym_micro.proofs.Ready.{then_runs, run_as}
use Rattle.sym_micro.proofs.Found.{never_ends, ends_as}
use Rattle.sym_step.proofs.Blocks.{Left, all_left, begun, is_there, goes_on, ended}
use Rattle.sym_step.proofs.block.run_block.Goals as goal

enough_to_begin : (count : ℕ) → 16 ≤ 24 * count + 32
enough_to_begin count = omega arith

pub begin-requires : goal.begin-requires
begin-requires c = c.requires.capacity

pub returns-in_err-begin : goal.returns-in_err-begin
returns-in_err-begin c =
    let old = c.args.terms.now in
    let new = c.begin.new.terms in
    let s = c.begin.new.run in
    let x = block80 c.args.program.now c.args.first c.args.count in
    subst (λ e. RunsTo old new s (24 * c.args.count + 32) false x e) (sym c.from_residual.ensures)
    (never_ends old new s 16 (24 * c.args.count + 32) 0 (λ m. as86 m ≡ start86 c.all.result) false x (enough_to_begin c.args.count) c.in_err-begin.ensures)

pub loop-done-init : goal.loop-done-init
loop-done-init c =
    let p = c.args.program.now in
    let first = c.args.first in
    let count = c.args.count in
    let all : count ≡ count - 0 = omega arith in
    run_as c.args.terms.now c.begin.new.terms c.begin.new.run 16 16 0 0
    (λ m. as86 m ≡ start86 c.all.result)
    (λ m. Left p first count first (count - 0) (as80 m))
    (Some tt) (le_refl 16) (le_refl 0) c.in_ok-begin.ensures
    (λ m e. subst (λ n. Left p first count first n (as80 m)) all (all_left p first count (as80 m) c.requires.block (begun m c.all.result c.all.ensures e)))

pub instr_near-place-requires : goal.instr_near-place-requires
instr_near-place-requires c =
    let left = c.args.count - (c.loop-done._done - 1) in
    let some : 1 ≤ left = omega arith in
    is_there c.args.program.now c.args.first c.args.count c.loop-done.at left (as80 (machine_of c.loop-done.terms c.loop-done.run)) c.loop-done.invariant.gives.is some

pub step80-requires-clause-ready : goal.step80-requires-clause-ready
step80-requires-clause-ready c = c.loop-done.invariant.gives.ready

pub returns-in_err-step80 : goal.returns-in_err-step80
returns-in_err-step80 c =
    let old = c.args.terms.now in
    let mid = c.loop-done.terms in
    let new = c.step80.new.terms in
    let r = c.loop-done.run in
    let s = c.step80.new.run in
    let j = 16 + 24 * (c.loop-done._done - 1) in
    let a = 2 * (c.loop-done._done - 1) in
    let x = block80 c.args.program.now c.args.first c.args.count in
    let left = c.args.count - (c.loop-done._done - 1) in
    let after = effect80 (as80 (machine_of mid r)) c.instr_near-place.result.1 in
    let few : j + 24 ≤ 24 * c.args.count + 32 = omega arith in
    subst (λ e. RunsTo old new s (24 * c.args.count + 32) false x e) (sym c.from_residual-in_err-step80.ensures)
    (never_ends old new s (j + 24) (24 * c.args.count + 32) (a + 2) (λ m. as80 m ≡ after) false x few
    (then_runs old mid new r s j 24 a 2
    (λ m. Left c.args.program.now c.args.first c.args.count c.loop-done.at left (as80 m))
    (λ m. as80 m ≡ after) (λ m. as80 m ≡ after) None c.loop-done.invariant c.in_err-step80.ensures (λ m e. e)))

pub loop-done-preserved : goal.loop-done-preserved
loop-done-preserved c =
    let old = c.args.terms.now in
    let mid = c.loop-done.terms in
    let new = c.step80.new.terms in
    let r = c.loop-done.run in
    let s = c.step80.new.run in
    let p = c.args.program.now in
    let first = c.args.first in
    let count = c.args.count in
    let at = c.loop-done.at in
    let done = c.loop-done._done in
    let i = c.instr_near-place.result.1 in
    let j = 16 + 24 * (done - 1) in
    let a = 2 * (done - 1) in
    let left = count - (done - 1) in
    let before = as80 (machine_of mid r) in
    let two : 2 ≤ left = omega arith in
    let fewer : left - 1 ≡ count - (done + 1 - 1) = omega arith in
    let nodes : j + 24 ≤ 16 + 24 * (done + 1 - 1) = omega arith in
    let actions : a + 2 ≤ 2 * (done + 1 - 1) = omega arith in
    run_as old new s (j + 24) (16 + 24 * (done + 1 - 1)) (a + 2) (2 * (done + 1 - 1))
    (λ m. Left p first count (at + length80 i) (left - 1) (as80 m))
    (λ m. Left p first count (at + c.length-at.result) (count - (done + 1 - 1)) (as80 m))
    (Some tt) nodes actions
    (then_runs old mid new r s j 24 a 2
    (λ m. Left p first count at left (as80 m))
    (λ m. as80 m ≡ effect80 before i)
    (λ m. Left p first count (at + length80 i) (left - 1) (as80 m))
    (Some tt) c.loop-done.invariant c.in_ok-step80.ensures
    (λ m e. subst (λ (q : Symbolic80). Left p first count (at + length80 i) (left - 1) q) (sym e) (goes_on p first count at left before i c.loop-done.invariant.gives.is two c.instr_near-place.ensures.found)))
    (λ m d.
    subst (λ k. Left p first count (at + k) (count - (done + 1 - 1)) (as80 m)) (sym c.length-at.ensures)
    (subst (λ n. Left p first count (at + length80 i) n (as80 m)) fewer d))

pub instr_near-last-requires : goal.instr_near-last-requires
instr_near-last-requires c =
    let left = c.args.count - (c.loop-done._done - 1) in
    let some : 1 ≤ left = let positive = c.requires.block.some in omega arith in
    is_there c.args.program.now c.args.first c.args.count c.loop-done.at left (as80 (machine_of c.loop-done.terms c.loop-done.run)) c.loop-done.invariant.gives.is some

pub step80-requires-2-clause-ready : goal.step80-requires-2-clause-ready
step80-requires-2-clause-ready c = c.loop-done.invariant.gives.ready

pub returns-in_err-step80-2 : goal.returns-in_err-step80-2
returns-in_err-step80-2 c =
    let old = c.args.terms.now in
    let mid = c.loop-done.terms in
    let new = c.step80-2.new.terms in
    let r = c.loop-done.run in
    let s = c.step80-2.new.run in
    let j = 16 + 24 * (c.loop-done._done - 1) in
    let a = 2 * (c.loop-done._done - 1) in
    let x = block80 c.args.program.now c.args.first c.args.count in
    let left = c.args.count - (c.loop-done._done - 1) in
    let after = effect80 (as80 (machine_of mid r)) c.instr_near-last.result.1 in
    let few : j + 24 ≤ 24 * c.args.count + 32 = let positive = c.requires.block.some in omega arith in
    subst (λ e. RunsTo old new s (24 * c.args.count + 32) false x e) (sym c.from_residual-in_err-step80-2.ensures)
    (never_ends old new s (j + 24) (24 * c.args.count + 32) (a + 2) (λ m. as80 m ≡ after) false x few
    (then_runs old mid new r s j 24 a 2
    (λ m. Left c.args.program.now c.args.first c.args.count c.loop-done.at left (as80 m))
    (λ m. as80 m ≡ after) (λ m. as80 m ≡ after) None c.loop-done.invariant c.in_err-step80-2.ensures (λ m e. e)))

pub exit-requires : goal.exit-requires
exit-requires c = c.in_ok-step80-2.ensures.ready

pub returns : goal.returns
returns c =
    let old = c.args.terms.now in
    let mid = c.loop-done.terms in
    let last = c.step80-2.new.terms in
    let new = c.exit.new.terms in
    let r = c.loop-done.run in
    let s = c.step80-2.new.run in
    let p = c.args.program.now in
    let first = c.args.first in
    let count = c.args.count in
    let at = c.loop-done.at in
    let done = c.loop-done._done in
    let i = c.instr_near-last.result.1 in
    let j = 16 + 24 * (done - 1) in
    let a = 2 * (done - 1) in
    let left = count - (done - 1) in
    let before = as80 (machine_of mid r) in
    let one : left ≡ 1 = let positive = c.requires.block.some in omega arith in
    let few : j + 24 + 3 ≤ 24 * count + 32 = let positive = c.requires.block.some in omega arith in
    ends_as old new s (j + 24 + 3) (24 * count + 32) false (block80 p first count) c.exit.result few
    (ended p first count at (at + c.length.result) before i old last new s (j + 24) (a + 2) c.exit.result
    (subst (λ n. Left p first count at n before) one c.loop-done.invariant.gives.is)
    c.instr_near-last.ensures.found
    (ap (λ k. at + k) c.length.ensures)
    (then_runs old mid last r s j 24 a 2
    (λ m. Left p first count at left (as80 m))
    (λ m. as80 m ≡ effect80 before i) (λ m. as80 m ≡ effect80 before i) (Some tt) c.loop-done.invariant c.in_ok-step80-2.ensures (λ m e. e))
    c.exit.ensures)
