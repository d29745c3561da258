use Rattle.std.proofs.Common.{◌≡◌, ◌∙◌, ℕ, zero, suc, ◌-◌, ◌<◌, List, Option, Some, None, Result, Ok, Err, refl, subst, sym, ap, arith}
use Rattle.asm86_line_types.specs.declared.line.Label.{Label}
use Rattle.asm86_line_types.specs.declared.line.Stmt86.{Stmt86}
use Rattle.sym_block_def.specs.declared.reason.Reason.{Reason}
use Rattle.sym_block_def.specs.declared.reason.Reason.TheVariants.{Form, Length}
use Rattle.sym_block_def.specs.Outcome.{Way}
use Rattle.sym_block_def.specs.Symbolic86.{Symbolic86}
use Rattle.sym_block_def.specs.Walk86.{Surroundings, Instruction, met, way_to, way_from, jump_to, walk_jump, go_behind, after_label}
use Rattle.sym_micro.specs.declared.outcome.Way.{Way as WayIds}
use Rattle.sym_run.specs.declared.lasts.Last.TheVariants.{Known}
use Rattle.sym_run.specs.Around.{WayMayBe, surroundings_of}
use Rattle.sym_run.specs.Ends.{LastStands}
use Rattle.sym_run.proofs.BothWays.{counted, jumps}
use Rattle.sym_run.proofs.lasts.+ways.Goals as goal

some_room : (room : ℕ) → (room ≡ 0 → ⊥) → 0 < room
some_room room h = omega (arith, h)

no_room : (w : Surroundings) (s : Symbolic86) (room : ℕ) (x : Stmt86) (rest : List Stmt86) → room ≡ 0 → Err Length ≡ way_from w s room (Instruction x rest)
no_room w s zero x rest h = refl
no_room w s (suc room) x rest h = absurd (omega arith)

-- a jump to a label that ends the way, and to one that does not
by_way : (s : Symbolic86) (tree : Option Way) (way : WayIds) (on : Result Way Reason) → WayMayBe tree (Some way) → LastStands s (walk_jump Ok on tree) (Ok (Known way))
by_way s (Some tree) way on h = h
by_way s None way on h = absurd h

by_text : (tree : Option Way) (on : Result Way Reason) → WayMayBe tree None → on ≡ walk_jump Ok on tree
by_text (Some tree) on h = absurd h
by_text None on h = refl

jumped : (w : Surroundings) (on : List Stmt86 → Result Way Reason) (l : Label) (behind : Option (List Stmt86)) → WayMayBe (way_to l) None → behind ≡ after_label w.text l → go_behind on behind ≡ jump_to w Ok on l
jumped w on l behind h e = ap (go_behind on) e ∙ by_text (way_to l) (go_behind on (after_label w.text l)) h

pub jump_from-returns-in-Some : goal.jump_from-returns-in-Some
jump_from-returns-in-Some t c = λ s. by_way s (way_to c.args.label) c.in-Some.way _ c.in-Some.ensures

pub jump_from-returns-in-Some-behind : goal.jump_from-returns-in-Some-behind
jump_from-returns-in-Some-behind t c = λ s.
    let w = surroundings_of c.args.around.now in
    let on = λ (xs : List Stmt86). way_from w s c.args.room (met w xs) in
    subst (λ x. LastStands s x c.way_from.result) (jumped w on c.args.label (Some c.in-Some-behind.rest.now) c.in_default.ensures c.in-Some-behind.ensures) (c.way_from.ensures s)

pub jump_from-returns-in-None : goal.jump_from-returns-in-None
jump_from-returns-in-None t c = λ s.
    let w = surroundings_of c.args.around.now in
    let on = λ (xs : List Stmt86). way_from w s c.args.room (met w xs) in
    subst (λ x. LastStands s x (Err Form)) (jumped w on c.args.label None c.in_default.ensures c.in-None.ensures) refl

pub way_from-returns-in-EndsAt : goal.way_from-returns-in-EndsAt
way_from-returns-in-EndsAt t c = λ s.
    subst (λ m. LastStands s (way_from (surroundings_of c.args.around.now) s c.args.room m) c.end_at.result) c.in-EndsAt.ensures (c.end_at.ensures s)

pub way_from-returns-in-Nothing : goal.way_from-returns-in-Nothing
way_from-returns-in-Nothing t c = λ s.
    subst (λ m. LastStands s (way_from (surroundings_of c.args.around.now) s c.args.room m) (Err Form)) c.in-Nothing.ensures refl

pub way_from-returns-then-room-eq0 : goal.way_from-returns-then-room-eq0
way_from-returns-then-room-eq0 t c = λ s.
    let w = surroundings_of c.args.around.now in
    let room = c.args.room in
    let same = no_room w s room c.in-Instruction.stmt c.in-Instruction.rest.now c.if-room-eq0.true ∙ ap (way_from w s room) c.in-Instruction.ensures in
    subst (λ x. LastStands s x (Err Length)) same refl

pub way_from-returns-in-None : goal.way_from-returns-in-None
way_from-returns-in-None t c = λ s.
    let w = surroundings_of c.args.around.now in
    let room = c.args.room in
    let stmt = c.in-Instruction.stmt in
    let rest = c.in-Instruction.rest.now in
    let same = ap (way_from w s room) (sym c.in-Instruction.ensures) ∙ counted w s room stmt rest (some_room room c.if-room-eq0.false) in
    subst (λ x. LastStands s x c.last_at.result) (sym same) (c.last_at.ensures s (λ (xs : List Stmt86). way_from w s (room - 1) (met w xs)))

pub way_from-returns-in-Some : goal.way_from-returns-in-Some
way_from-returns-in-Some t c = λ s.
    let w = surroundings_of c.args.around.now in
    let room = c.args.room in
    let stmt = c.in-Instruction.stmt in
    let rest = c.in-Instruction.rest.now in
    let label = c.in-Some.label in
    let is : met w c.args.from.now ≡ Instruction stmt rest = sym c.in-Instruction.ensures in
    let some = some_room room c.if-room-eq0.false in
    let same : way_from w s room (met w c.args.from.now) ≡ jump_to w Ok (λ xs. way_from w s (room - 1) (met w xs)) label =
    ap (way_from w s room) is ∙ counted w s room stmt rest some ∙ jumps w s (λ xs. way_from w s (room - 1) (met w xs)) rest stmt label (sym c.target.ensures ∙ c.in-Some.is) in
    subst (λ x. LastStands s x c.jump_from.result) (sym same) (c.jump_from.ensures s)
