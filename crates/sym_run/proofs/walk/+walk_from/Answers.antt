use Rattle.std.proofs.Common.{◌≡◌, ◌∙◌, ℕ, zero, suc, ◌+◌, ◌-◌, ◌*◌, ◌<◌, ◌≤◌, List, Some, Err, refl, ap, subst, sym, arith}
use Rattle.asm86_line_types.specs.declared.line.Stmt86.{Stmt86}
use Rattle.sym_block_def.specs.declared.reason.Reason.TheVariants.{Form, Length}
use Rattle.sym_block_def.specs.Symbolic86.{Symbolic86}
use Rattle.sym_block_def.specs.Walk86.{Surroundings, Instruction, met, walk_by, walk_through}
use Rattle.sym_micro.specs.Machine.{as86}
use Rattle.sym_micro.specs.Stands.{machine_of}
use Rattle.sym_run.specs.declared.ends.Next.{Next}
use Rattle.sym_run.specs.Around.{surroundings_of}
use Rattle.sym_run.specs.Ends.{OnTo, Advances, WalksTo}
use Rattle.sym_run.proofs.Steps.{counted, ends_here, step_missing, step_ends, then_walks, walks_more}
use Rattle.sym_run.proofs.walk.+walk_from.Goals as goal

no_room : (w : Surroundings) (s : Symbolic86) (room : ℕ) (x : Stmt86) (rest : List Stmt86) → room ≡ 0 → Err Length ≡ walk_through w room (Instruction x rest) s
no_room w s zero x rest h = refl
no_room w s (suc room) x rest h = absurd (omega arith)

pub returns-in-EndsAt : goal.returns-in-EndsAt
returns-in-EndsAt t c =
    let old = c.args.terms.now in
    let r = c.args.run.now in
    let start = as86 (machine_of old r) in
    subst (λ m. WalksTo old old r (24 * c.args.room) (walk_through (surroundings_of c.args.around.now) c.args.room m start) (Some c.end_at.result)) c.in-EndsAt.ensures
    (ends_here old r (24 * c.args.room) _ c.end_at.result c.requires.ready (c.end_at.ensures old r c.requires.ready))

pub returns-in-Nothing : goal.returns-in-Nothing
returns-in-Nothing t c =
    let old = c.args.terms.now in
    let r = c.args.run.now in
    let start = as86 (machine_of old r) in
    subst (λ m. WalksTo old old r (24 * c.args.room) (walk_through (surroundings_of c.args.around.now) c.args.room m start) (Some (Err Form))) c.in-Nothing.ensures
    (ends_here old r (24 * c.args.room) (Err Form) (Err Form) c.requires.ready refl)

pub returns-then-room-eq0 : goal.returns-then-room-eq0
returns-then-room-eq0 t c =
    let old = c.args.terms.now in
    let r = c.args.run.now in
    let w = surroundings_of c.args.around.now in
    let room = c.args.room in
    let start = as86 (machine_of old r) in
    let same = no_room w start room c.in-Instruction.stmt c.in-Instruction.rest.now c.if-room-eq0.true ∙ ap (λ m. walk_through w room m start) c.in-Instruction.ensures in
    subst (λ x. WalksTo old old r (24 * room) x (Some (Err Length))) same (ends_here old r (24 * room) (Err Length) (Err Length) c.requires.ready refl)

pub returns-in-Ends : goal.returns-in-Ends
returns-in-Ends t c =
    let old = c.args.terms.now in
    let mid = c.advance.new.terms in
    let r = c.args.run.now in
    let s = c.advance.new.run in
    let w = surroundings_of c.args.around.now in
    let room = c.args.room in
    let stmt = c.in-Instruction.stmt in
    let rest = c.in-Instruction.rest.now in
    let start = as86 (machine_of old r) in
    let on : OnTo = λ x xs. walk_through w (room - 1) (met w xs) x in
    let is : met w c.args.from.now ≡ Instruction stmt rest = sym c.in-Instruction.ensures in
    let some : 0 < room = omega arith in
    let enough : 24 ≤ 24 * room = omega arith in
    let same : walk_through w room (met w c.args.from.now) start ≡ walk_by w (room - 1) on rest start stmt = ap (λ m. walk_through w room m start) is ∙ counted w room stmt rest start some in
    let step = subst (λ (x : Next). Advances old mid r s (λ o. walk_by w (room - 1) o rest start stmt) (Some x)) c.in-Ends.is c.in_ok-end-in-Instruction.ensures in
    subst (λ x. WalksTo old mid s (24 * room) x (Some c.in-Ends.end)) (sym same)
    (step_ends old mid r s (24 * room) (λ o. walk_by w (room - 1) o rest start stmt) on c.in-Ends.end enough step)

pub returns-in-GoesOn : goal.returns-in-GoesOn
returns-in-GoesOn t c =
    let old = c.args.terms.now in
    let mid = c.advance.new.terms in
    let new = c.walk_from.new.terms in
    let r = c.args.run.now in
    let s = c.advance.new.run in
    let w = surroundings_of c.args.around.now in
    let room = c.args.room in
    let stmt = c.in-Instruction.stmt in
    let rest = c.in-Instruction.rest.now in
    let start = as86 (machine_of old r) in
    let on : OnTo = λ x xs. walk_through w (room - 1) (met w xs) x in
    let is : met w c.args.from.now ≡ Instruction stmt rest = sym c.in-Instruction.ensures in
    let some : 0 < room = omega arith in
    let enough : 24 + 24 * (room - 1) ≤ 24 * room = omega arith in
    let same : walk_through w room (met w c.args.from.now) start ≡ walk_by w (room - 1) on rest start stmt = ap (λ m. walk_through w room m start) is ∙ counted w room stmt rest start some in
    let step = subst (λ (x : Next). Advances old mid r s (λ o. walk_by w (room - 1) o rest start stmt) (Some x)) c.in-GoesOn.is c.in_ok-end-in-Instruction.ensures in
    let end = c.walk_from.result in
    subst (λ x. WalksTo old new c.walk_from.new.run (24 * room) x end) (sym (same ∙ step.gives.is on))
    (walks_more old new c.walk_from.new.run (24 + 24 * (room - 1)) (24 * room) (on (as86 (machine_of mid s)) c.in-GoesOn.rest.now) end enough
    (then_walks old mid new c.walk_from.new.run 24 (24 * (room - 1)) (on (as86 (machine_of mid s)) c.in-GoesOn.rest.now) end step.grows c.walk_from.ensures))

pub returns-in_err-end-in-Instruction : goal.returns-in_err-end-in-Instruction
returns-in_err-end-in-Instruction t c =
    let old = c.args.terms.now in
    let mid = c.advance.new.terms in
    let r = c.args.run.now in
    let s = c.advance.new.run in
    let w = surroundings_of c.args.around.now in
    let room = c.args.room in
    let start = as86 (machine_of old r) in
    let some : 24 ≤ 24 * room = omega arith in
    let walk = walk_through w room (met w c.args.from.now) start in
    subst (λ x. WalksTo old mid s (24 * room) walk x) (sym c.from_residual.ensures)
    (step_missing old mid r s (24 * room) (λ o. walk_by w (room - 1) o c.in-Instruction.rest.now start c.in-Instruction.stmt) walk some c.in_err-end-in-Instruction.ensures)
