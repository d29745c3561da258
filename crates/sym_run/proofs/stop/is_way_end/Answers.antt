use Rattle.std.proofs.Common.{◌≡◌, ◌∙◌, ◌+◌, ◌-◌, [], ◌∷◌, drop, length, Some, sym, ap, subst}
use Rattle.std.proofs.lemmas.Bool.{false≢true}
use Rattle.std.specs.Option.{option_copied}
use Rattle.asm86_line_types.specs.declared.line.Stmt86.{Stmt86}
use Rattle.sym_run.proofs.Stops.{first_at, none_at, mark_ends, statement_ends, no_room_ends, nothing_ends}
use Rattle.sym_run.proofs.stop.is_way_end.Goals.{in-Mark, in_default}
use Rattle.sym_run.proofs.stop.is_way_end.Goals as goal

pub returns-then-matches : goal.returns-then-matches
returns-then-matches c =
    let at = c.args.stop.at in
    let stmt : Stmt86 = c.in-Some.stmt.now in
    let is : option_copied c.first.result ≡ Some stmt = ap option_copied c.in-Some.is in
    let first = first_at c.statements.result.now at (length c.statements.result.now - at) stmt (sym c.first.ensures.value ∙ is) in
    let here = subst (λ xs. drop at xs ≡ stmt ∷ drop (at + 1) xs) c.statements.ensures first in
    elim c.match-matches.branch [
      | in-Mark w ↦ c.if-matches.true ∙ sym (mark_ends c.args.stop.room _ _ _ (here ∙ ap (λ x. x ∷ drop (at + 1) c.args.around.now.text.now) w.in-Mark.is))
      | in_default w ↦ absurd (false≢true (sym w.matches-is ∙ c.if-matches.true))
    ]

pub returns-then-stop-gt0 : goal.returns-then-stop-gt0
returns-then-stop-gt0 c =
    let at = c.args.stop.at in
    let stmt : Stmt86 = c.in-Some.stmt.now in
    let is : option_copied c.first.result ≡ Some stmt = ap option_copied c.in-Some.is in
    let first = first_at c.statements.result.now at (length c.statements.result.now - at) stmt (sym c.first.ensures.value ∙ is) in
    let here = subst (λ xs. drop at xs ≡ stmt ∷ drop (at + 1) xs) c.statements.ensures first in
    elim c.match-matches.branch [
      | in-Mark w ↦ absurd (false≢true (sym c.if-matches.false ∙ w.matches-is))
      | in_default w ↦ c.ends_by.ensures ∙ sym (statement_ends c.args.stop.room stmt _ _ here w.in_default.not-Mark c.if-stop-gt0.true)
    ]

pub returns-else-stop-gt0 : goal.returns-else-stop-gt0
returns-else-stop-gt0 c =
    let at = c.args.stop.at in
    let stmt : Stmt86 = c.in-Some.stmt.now in
    let is : option_copied c.first.result ≡ Some stmt = ap option_copied c.in-Some.is in
    let first = first_at c.statements.result.now at (length c.statements.result.now - at) stmt (sym c.first.ensures.value ∙ is) in
    let here = subst (λ xs. drop at xs ≡ stmt ∷ drop (at + 1) xs) c.statements.ensures first in
    elim c.match-matches.branch [
      | in-Mark w ↦ absurd (false≢true (sym c.if-matches.false ∙ w.matches-is))
      | in_default w ↦ no_room_ends c.args.stop.room stmt _ _ here w.in_default.not-Mark c.if-stop-gt0.false
    ]

pub returns-in-None : goal.returns-in-None
returns-in-None c =
    let at = c.args.stop.at in
    let none = none_at c.statements.result.now at (sym c.first.ensures.value ∙ ap option_copied c.in-None.is) in
    sym (nothing_ends c.args.stop.room _ (subst (λ xs. drop at xs ≡ []) c.statements.ensures none))
