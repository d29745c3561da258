use Rattle.std.proofs.Common.{◌≡◌, ◌+◌, ◌-◌, ◌∙◌, ◌∷◌, ◌++◌, [], get_or, take, drop, sym, ap, subst, arith}
use Rattle.std.specs.List.{remove}
use Rattle.asm86_line_types.specs.declared.line.Line86.{Line86}
use Rattle.asm86_line_types.specs.declared.line.Stmt86.TheVariants.{Cseg}
use Rattle.asm86_line_types.specs.Image.{Assembles}
use Rattle.flow.specs.Solving.{HasNeeds}
use Rattle.shrink.specs.Shrunk.{MatchesBlocks, Shrinks}
use Rattle.shrink.proofs.Left.{assembles_less}
use Rattle.shrink.proofs.Steps.{not_true, removed, begins, ends, whole, count, shape, goes, stays}
use Rattle.shrink.proofs.shrinking.shrink_backwards.Goals as goal

abbrev cseg : Line86
cseg = record { line = 0; stmt = Cseg }

pub loop-at-init : goal.loop-at-init
loop-at-init c =
    let lines = c.args.lines.now in
    record {
      within = omega arith;
      few = (let e = c.in_ok-left.ensures.len in omega (arith, e));
      kept = [];
      is = whole lines c.in_ok-left.left.items c.in_ok-left.ensures.items;
      shrinks = λ n needs. begins (MatchesBlocks c.args.program.now n) lines;
      assembles = subst Assembles (sym c.in_ok-left.ensures.items) c.requires.assembles;
      matches = λ n needs. subst (MatchesBlocks c.args.program.now n) (sym c.in_ok-left.ensures.items) (c.requires.matches n needs);
    }

pub may_go-requires-clause-few : goal.may_go-requires-clause-few
may_go-requires-clause-few c =
    let e = c.as_slice.ensures.len in
    let few = c.loop-at.invariant.few in
    let most = c.requires.few in
    omega (arith, e, few, most)

pub may_go-requires-clause-matches : goal.may_go-requires-clause-matches
may_go-requires-clause-matches c = λ n needs. subst (MatchesBlocks c.args.program.now n) (sym c.as_slice.ensures.value) (c.loop-at.invariant.matches n needs)

pub loop-at-preserved-then-branch : goal.loop-at-preserved-then-branch
loop-at-preserved-then-branch c =
    let p = c.args.program.now in
    let lines = c.args.lines.now in
    let at = c.loop-at.at in
    let k = at - 1 in
    let i = c.loop-at.invariant in
    let next : k + 1 ≡ at = omega (arith, c.loop-at-test.true) in
    let parts = shape lines at k next i.within cseg c.loop-at.left.items i.kept i.is in
    let before = count lines at k next i.within cseg in
    let x = get_or lines k cseg in
    let may = c.in_ok-may_go.ensures in
    let left : c.remove.new.self.items ≡ take k lines ++ i.kept =
    c.remove.ensures.items ∙ ap (λ xs. remove xs k) parts ∙ removed (take k lines) x i.kept k before in
    record {
      within = omega (arith, i.within);
      few = (let e = c.remove.ensures.len in let few = i.few in omega (arith, e, few));
      kept = i.kept;
      is = left;
      shrinks = λ n needs.
          let gone = (may n (take k lines) i.kept x needs (c.as_slice.ensures.value ∙ parts) before).0 c.if-branch.true in
          goes lines at k next i.within cseg (MatchesBlocks p n) i.kept (i.shrinks n needs) gone.0 gone.1;
      assembles =
          (let has = subst HasNeeds c.requires.program c.needs_are_sets.ensures in
          let gone = (may has.0 (take k lines) i.kept x has.1 (c.as_slice.ensures.value ∙ parts) before).0 c.if-branch.true in
          subst Assembles (sym left) (assembles_less (take k lines) i.kept x gone.0 (subst Assembles parts i.assembles)));
      matches = λ n needs.
          let gone = (may n (take k lines) i.kept x needs (c.as_slice.ensures.value ∙ parts) before).0 c.if-branch.true in
          subst (MatchesBlocks p n) (sym left) gone.1;
    }

pub loop-at-preserved : goal.loop-at-preserved
loop-at-preserved c =
    let p = c.args.program.now in
    let lines = c.args.lines.now in
    let at = c.loop-at.at in
    let k = at - 1 in
    let i = c.loop-at.invariant in
    let next : k + 1 ≡ at = omega (arith, c.loop-at-test.true) in
    let parts = shape lines at k next i.within cseg c.loop-at.left.items i.kept i.is in
    let before = count lines at k next i.within cseg in
    let x = get_or lines k cseg in
    let may = c.in_ok-may_go.ensures in
    record {
      within = omega (arith, i.within);
      few = i.few;
      kept = x ∷ i.kept;
      is = parts;
      shrinks = λ n needs.
          stays lines at k next i.within cseg (MatchesBlocks p n) i.kept (i.shrinks n needs)
          (λ candidate m. not_true c.in_ok-may_go.field-0 c.if-branch.false ((may n (take k lines) i.kept x needs (c.as_slice.ensures.value ∙ parts) before).1 (candidate, m)));
      assembles = i.assembles;
      matches = i.matches;
    }

pub returns : goal.returns
returns c =
    let lines = c.args.lines.now in
    let i = c.loop-at.invariant in
    let has = subst HasNeeds c.requires.program c.needs_are_sets.ensures in
    let first : c.loop-at.at ≡ 0 = omega (arith, c.loop-at-test.false) in
    let right = MatchesBlocks c.args.program.now has.0 in
    record {
      needs = has.0;
      are = has.1;
      shrinks = ends right lines c.loop-at.left.items i.kept
          (subst (λ k. c.loop-at.left.items ≡ take k lines ++ i.kept) first i.is)
          (subst (λ k. Shrinks right (take k lines) (drop k lines) i.kept) first (i.shrinks has.0 has.1));
    }
