use Rattle.std.proofs.Common.{◌≡◌, ◌≤◌, subst, refl, arith}
use Rattle.asm86_line_types.specs.Image.{image_of}
use Rattle.cpu80_tagged.specs.Start.{run80}
use Rattle.cpu86.specs.Start.{run86}
use Rattle.flow.specs.Blocks.{blocks}
use Rattle.simulation_def.specs.Runs86.{offsets_of}
use Rattle.simulation_def.specs.Linked.{Paired}
use Rattle.simulation_def.specs.Needed.{needed_by}
use Rattle.templates_law.proofs.Beginning.{linked_while_going}
use Rattle.templates_law.proofs.laws.own_runs_begin_in_step.Goals as goal

pub returns : goal.returns
returns c = λ mode p n lines fetch page fill start choices replies program needs text fits reads is_page is_fill is_start are_choices are_replies.
    let match = c.modes_match.ensures mode p n lines program needs text fits in
    let f = c.blocks_follow.ensures p lines (blocks p) (needed_by p n) fetch page fill start choices replies 0 match reads is_page is_fill is_start are_choices are_replies tt in
    let low = f.low in
    let fast = f.fast in
    let none : f.turns80 ≡ 0 = omega (arith, low) in
    let few : f.turns86 ≤ 7 = omega (arith, low, fast) in
    let paired : Paired p (offsets_of lines) (blocks p) (needed_by p n) (run80 p page replies 0) (run86 fetch (image_of lines) page fill start choices replies f.turns86) =
    subst (λ k. Paired p (offsets_of lines) (blocks p) (needed_by p n) (run80 p page replies k) (run86 fetch (image_of lines) page fill start choices replies f.turns86)) none f.paired in
    (f.turns86, few, linked_while_going p (offsets_of lines) (blocks p) (needed_by p n) (run80 p page replies 0) (run86 fetch (image_of lines) page fill start choices replies f.turns86) refl paired)
