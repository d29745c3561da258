-- The made source breaks no rule.
use Rattle.std.proofs.Common.{◌≡◌, ℕ, ◌-◌, ◌≤◌, List, ◌∷◌, refl, sym, ap, ◌∙◌, arith}
use Rattle.asm80_source_def.specs.Operations.{operation_table}
use Rattle.asm80_source_def.specs.Walk.{WalkRow, rows, walked}
use Rattle.cmd_sample.specs.Written.{Written, statements_of}
use Rattle.cmd_sample.specs.Sample.{sample_statements}
use Rattle.cmd_sample.specs.Laws.{SampleIsAccepted}
use Rattle.cmd_sample.proofs.Spots.{row_of, rows_along, walk_along}
use Rattle.cmd_sample.proofs.Faultless.{is_accepted}
use Rattle.cmd_sample.proofs.Chain.{org_spot, end_spot, walk_end, inner_goes, lines_are, end_ends}
use Rattle.cmd_sample.proofs.Starts.{all_spots, all_rows, are_spaced, begins, routine_begins, loop_begins}
use Rattle.cmd_sample.proofs.FineLines.{fine_rows, all_fine}

-- the rows of the made source, and where the walk ends
pub rows_are : (K : ℕ) → K ≤ 500 → rows (sample_statements K) ≡ all_rows K
unfolding operation_table
rows_are K le =
    ap (λ (ws : List Written). rows (statements_of ws)) (sym (lines_are K))
    ∙ ap (λ (rs : List WalkRow). row_of 1 org_spot ∷ rs) (rows_along (end_spot K) (walk_end K) (end_ends K) (inner_goes K le) 2)

pub walk_is : (K : ℕ) → K ≤ 500 → walked (sample_statements K) ≡ walk_end K
unfolding operation_table
walk_is K le =
    ap (λ (ws : List Written). walked (statements_of ws)) (sym (lines_are K))
    ∙ walk_along (end_spot K) (walk_end K) (end_ends K) (inner_goes K le) 2

pub sample_accepted : SampleIsAccepted
sample_accepted K some le =
    let rs = all_rows K in
    let end = walk_end K in
    let fine = fine_rows rs end (all_spots K) (all_fine K rs end le refl (routine_begins K) (loop_begins K)) 1 in
    is_accepted rs end 0xF000 fine (begins K some) (are_spaced K (0xF000 - 2) (inner_goes K le) (omega arith)) (omega arith) (sample_statements K) (rows_are K le) (walk_is K le)
