use Rattle.std.proofs.Common.{ℕ, ◌∙◌, List, sym, ap, subst, rules}
use Rattle.std.specs.List.Sorted.{IsStrictlyIncreasing}
use Rattle.std.specs.Map.{keys_of}
use Rattle.std.proofs.lemmas.List.Sorted.{answers_always}
use Rattle.simulation_def.specs.Matches.{byte_at}
use Rattle.text_check.proofs.Cells.{rising, byte_found, byte_absent}
use Rattle.text_check.proofs.data.byte_at.Goals as goal

pub returns-in-Ok : goal.returns-in-Ok
returns-in-Ok c =
    let found = c.in-Ok.ensures.position (λ (x : ℕ × ℕ). x.0) (answers_always _ _ _ (λ f a r g called. search rules)) in
    let r = rising c.cells-cells.result.now (subst (λ (cs : List (ℕ × ℕ)). IsStrictlyIncreasing (keys_of cs)) (sym c.cells-cells.ensures) c.requires) in
    sym (byte_found c.cells-cells.result.now c.args.at r c.in-Ok.place (0, 0) c.in-Ok.ensures.bound found)
    ∙ ap (λ (cs : List (ℕ × ℕ)). byte_at cs c.args.at) c.cells-cells.ensures

pub returns-in-Err : goal.returns-in-Err
returns-in-Err c =
    let found = c.in-Err.ensures.position (λ (x : ℕ × ℕ). x.0) (answers_always _ _ _ (λ f a r g called. search rules)) in
    let r = rising c.cells-cells.result.now (subst (λ (cs : List (ℕ × ℕ)). IsStrictlyIncreasing (keys_of cs)) (sym c.cells-cells.ensures) c.requires) in
    sym (byte_absent c.cells-cells.result.now c.args.at r c.in-Err.field-0 found)
    ∙ ap (λ (cs : List (ℕ × ℕ)). byte_at cs c.args.at) c.cells-cells.ensures
