use Rattle.std.proofs.Common.{◌∙◌, sym, ap}
use Rattle.std.specs.List.{remove}
use Rattle.asm86_line_types.specs.declared.line.Line86.{Line86}
use Rattle.asm86_line_types.specs.declared.line.Stmt86.TheVariants.{Cseg}
use Rattle.shrink.proofs.Steps.{may_go_if, assembles_on, matched_with}
use Rattle.shrink.proofs.shrinking.may_go.Goals as goal

abbrev cseg : Line86
cseg = record { line = 0; stmt = Cseg }

pub match_without-requires-clause-assembles : goal.match_without-requires-clause-assembles
match_without-requires-clause-assembles c =
    assembles_on c.args.program.now c.args.lines.now c.as_slice.result.now c.args.at cseg
    (c.as_slice.ensures.value ∙ c.remove.ensures.items ∙ ap (λ xs. remove xs c.args.at) c.in_ok-less.ensures.items)
    (sym c.is_candidate.ensures ∙ c.if-not-is_candidate.false) c.requires.assembles c.requires.within

pub match_without-requires-clause-matched : goal.match_without-requires-clause-matched
match_without-requires-clause-matched c =
    matched_with c.args.program.now c.args.lines.now c.as_slice.result.now c.args.at cseg
    (c.as_slice.ensures.value ∙ c.remove.ensures.items ∙ ap (λ xs. remove xs c.args.at) c.in_ok-less.ensures.items)
    (sym c.is_candidate.ensures ∙ c.if-not-is_candidate.false) c.requires.within c.requires.matches

pub returns : goal.returns
returns c =
    may_go_if c.args.program.now c.args.lines.now c.as_slice.result.now c.args.at cseg
    (c.as_slice.ensures.value ∙ c.remove.ensures.items ∙ ap (λ xs. remove xs c.args.at) c.in_ok-less.ensures.items)
    (sym c.is_candidate.ensures ∙ c.if-not-is_candidate.false) c.match_without.result c.match_without.ensures
