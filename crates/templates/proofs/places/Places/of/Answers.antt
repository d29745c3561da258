use Rattle.std.proofs.Common.{◌≡◌, ℕ, ◌+◌, ◌-◌, ◌≤◌, arith, sym, ap, subst, ◌∙◌, le_refl, length, get_or, take, drop}
use Rattle.std.proofs.lemmas.List.{take_all, drop_all}
use Rattle.std.proofs.lemmas.Result.{IfOk-from_err}
use Rattle.asm86_line_types.specs.declared.line.Stmt86.TheVariants.{Cseg}
use Rattle.asm86_line_types.specs.Layout.{size_of, sizes_of}
use Rattle.asm86_line_types.specs.Image.{statements}
use Rattle.templates.specs.Places.{ArePlaces}
use Rattle.templates.proofs.Laid.{size_before, one_before}
use Rattle.templates.proofs.places.Places.of.Goals as goal

none_left : (rest : ℕ) → rest ≤ 0 → rest ≡ 0
none_left rest end = omega (arith, end)

pub overflow_sub-at : goal.overflow_sub-at
overflow_sub-at c =
    let size = size_before c.args.lines.now c.loop-rest.rest (record { line = 0; stmt = Cseg }) c.loop-rest-test.true c.loop-rest.invariant.within in
    omega (arith, size)

pub loop-rest-preserved : goal.loop-rest-preserved
loop-rest-preserved c =
    let lines = c.args.lines.now in
    let rest = c.loop-rest.rest in
    let at = c.loop-rest.at - c.statement_size.result in
    let own = size_of (get_or lines (rest - 1) (record { line = 0; stmt = Cseg })).stmt in
    let size = size_before lines rest (record { line = 0; stmt = Cseg }) c.loop-rest-test.true c.loop-rest.invariant.within in
    let here = one_before lines rest (record { line = 0; stmt = Cseg }) c.loop-rest-test.true c.loop-rest.invariant.within in
    let end : c.loop-rest.at ≡ at + own = omega (arith, size) in
    record {
      within = omega arith;
      at = omega (arith, size);
      places = subst (ArePlaces c.mark.new.self at) (sym here)
          (c.mark.ensures (statements (drop rest lines)) (subst (λ a. ArePlaces c.loop-rest.places a (statements (drop rest lines))) end c.loop-rest.invariant.places));
    }

pub returns : goal.returns
returns c =
    let lines = c.args.lines.now in
    let so_far = c.loop-rest.invariant in
    let none : c.loop-rest.rest ≡ 0 = none_left _ c.loop-rest-test.false in
    let at : c.loop-rest.at ≡ 0 = so_far.at ∙ ap (λ r. sizes_of (statements (take r lines))) none in
    subst (λ a. ArePlaces c.loop-rest.places a (statements lines)) at (subst (λ r. ArePlaces c.loop-rest.places c.loop-rest.at (statements (drop r lines))) none so_far.places)

pub returns-in_err-places : goal.returns-in_err-places
returns-in_err-places c = let r = c.from_residual in IfOk-from_err r.result _ r.ensures.0

pub loop-rest-init : goal.loop-rest-init
loop-rest-init c =
    let lines = c.args.lines.now in
    record {
      within = le_refl (length lines);
      at = c.code_size-at.ensures.value ∙ ap (λ ls. sizes_of (statements ls)) (sym (take_all (length lines) lines (le_refl (length lines))));
      places = subst (λ ls. ArePlaces c.in_ok-places.places c.code_size-at.result (statements ls)) (sym (drop_all (length lines) lines (le_refl (length lines)))) c.in_ok-places.ensures;
    }
