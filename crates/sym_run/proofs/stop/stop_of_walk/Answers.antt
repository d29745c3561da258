use Rattle.std.proofs.Common.{◌≡◌, ◌∙◌, ◌+◌, ◌-◌, ◌<◌, [], ◌∷◌, false, drop, length, Some, None, refl, sym, ap, subst, arith}
use Rattle.std.specs.Option.{option_copied}
use Rattle.i86.specs.declared.Jump.{Jump}
use Rattle.asm86_line_types.specs.declared.line.Label.{Label}
use Rattle.asm86_line_types.specs.declared.line.Stmt86.{Stmt86}
use Rattle.asm86_line_types.specs.declared.line.Stmt86.TheVariants.{Jcc as JccTo}
use Rattle.sym_run.specs.Around.{surroundings_of}
use Rattle.sym_run.specs.Stop.{Stop, pass, stop_from, jump_label, IsAt}
use Rattle.sym_run.proofs.Stops.{first_at, none_at, jump_at, ends_nowhere, ends_with_none_left, ends_at_no_jump}
use Rattle.sym_run.proofs.stop.stop_of_walk.Goals as goal

no_jump : (x : Stmt86) → ((j : Jump) (l : Label) → x ≡ JccTo j l → ⊥) → jump_label x ≡ None
no_jump (JccTo j l) h = absurd (h j l refl)
no_jump x h = refl

pub returns-in-Jcc : goal.returns-in-Jcc
returns-in-Jcc c =
    let w = surroundings_of c.args.around.now in
    let text = c.args.around.now.text.now in
    let s : Stop = stop_from false w c.args.room (pass w (drop c.args.from text)) in
    let found = c.stop_from-stop.result in
    let stmt : Stmt86 = c.in-Some.stmt.now in
    let is : option_copied c.first.result ≡ Some stmt = ap option_copied c.in-Some.is in
    let first = first_at c.statements.result.now found.at (length c.statements.result.now - found.at) stmt (sym c.first.ensures.value ∙ is) in
    let here = subst (λ xs. drop found.at xs ≡ stmt ∷ drop (found.at + 1) xs) c.statements.ensures first in
    let some : 0 < found.room = omega arith in
    let same = jump_at w text s found.room found.at stmt c.in-Jcc.label c.stop_from-stop.ensures.room c.stop_from-stop.ensures.at.is here some (ap jump_label c.in-Jcc.is) in
    subst (λ (t : Stop). IsAt text c.two_ways_stop.result t.at) (sym same) (c.two_ways_stop.ensures found.room)

pub returns-in_default : goal.returns-in_default
returns-in_default c =
    let w = surroundings_of c.args.around.now in
    let text = c.args.around.now.text.now in
    let s : Stop = stop_from false w c.args.room (pass w (drop c.args.from text)) in
    let at = c.stop_from-stop.result.at in
    let none = none_at c.statements.result.now at (sym c.first.ensures.value ∙ ap option_copied c.in_default.is) in
    let here = subst (λ xs. drop at xs ≡ []) c.statements.ensures none in
    subst (IsAt text at) (sym (ends_nowhere w s (sym c.stop_from-stop.ensures.at.is ∙ here))) c.stop_from-stop.ensures.at

pub returns-then-stop-eq0 : goal.returns-then-stop-eq0
returns-then-stop-eq0 c =
    let w = surroundings_of c.args.around.now in
    let text = c.args.around.now.text.now in
    let s : Stop = stop_from false w c.args.room (pass w (drop c.args.from text)) in
    subst (IsAt text c.stop_from-stop.result.at) (sym (ends_with_none_left w s (sym c.stop_from-stop.ensures.room ∙ c.if-stop-eq0.true))) c.stop_from-stop.ensures.at

pub returns-in_default-stmt : goal.returns-in_default-stmt
returns-in_default-stmt c =
    let w = surroundings_of c.args.around.now in
    let text = c.args.around.now.text.now in
    let s : Stop = stop_from false w c.args.room (pass w (drop c.args.from text)) in
    let found = c.stop_from-stop.result in
    let stmt : Stmt86 = c.in-Some.stmt.now in
    let is : option_copied c.first.result ≡ Some stmt = ap option_copied c.in-Some.is in
    let first = first_at c.statements.result.now found.at (length c.statements.result.now - found.at) stmt (sym c.first.ensures.value ∙ is) in
    let here = subst (λ xs. drop found.at xs ≡ stmt ∷ drop (found.at + 1) xs) c.statements.ensures first in
    subst (IsAt text found.at) (sym (ends_at_no_jump w s stmt (drop (found.at + 1) text) (sym c.stop_from-stop.ensures.at.is ∙ here) (no_jump stmt c.in_default-stmt.not-Jcc))) c.stop_from-stop.ensures.at
