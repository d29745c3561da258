use Rattle.std.proofs.Common.{◌≡◌, List, ℕ, length, take, map, ap, ◌∙◌, arith}
use Rattle.std.specs.List.{filter_map}
use Rattle.std.proofs.Math.Seq.{take-length}
use Rattle.asm80_types.specs.Tree.{statement_of}
use Rattle.base.specs.Addresses.{is_among}
use Rattle.asm80_first_walk.specs.declared.walked.Taken.{Taken}
use Rattle.asm80_source_def.specs.Walk.{rows}
use Rattle.asm80_values.specs.Second.{start_of_row}
use Rattle.asm80_values.proofs.second_walk.starts_of.Goals as goal
use Rattle.asm80_values.proofs.Starts.{starts_more, starts_found}

pub loop-row-preserved : goal.loop-row-preserved
loop-row-preserved c = λ a. starts_more c.args.taken.now c.loop-row.row-index _ a _ _ c.loop-row-test.true (c.mark_start.ensures a) (c.loop-row.invariant a)

pub returns : goal.returns
returns c = λ statements stands a.
    let all : c.loop-row.row-index ≡ length c.args.taken.now = omega arith in
    let whole : take c.loop-row.row-index c.args.taken.now ≡ c.args.taken.now = ap (λ n. take n c.args.taken.now) all ∙ take-length c.args.taken.now in
    c.loop-row.invariant a ∙ ap (λ (ts : List Taken). is_among (filter_map start_of_row ts) a) whole ∙ ap (λ (xs : List ℕ). is_among xs a) (starts_found statements c.args.taken.now (rows (map statement_of statements)) stands)
