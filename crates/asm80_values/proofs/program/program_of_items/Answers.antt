use Rattle.std.proofs.Common.{◌≡◌, sym, ap, subst, ◌∙◌, IsPermutation, rules}
use Rattle.std.specs.List.{filter_map, flat_map}
use Rattle.std.specs.List.Sorted.{IsNonDecreasingBy}
use Rattle.std.proofs.lemmas.List.Sorted.{IsNonDecreasingBy-from_sort_by_key}
use Rattle.std.proofs.lemmas.Result.{IfOk-weaker, IfOk-from_err}
use Rattle.asm80_types.specs.Program.{Program, IsProgram, program_of}
use Rattle.asm80_values.specs.declared.item.Item.{Item}
use Rattle.asm80_values.specs.Programs.{placed_item, data_item}
use Rattle.asm80_values.proofs.program.program_of_items.Goals as goal
use Rattle.asm80_values.proofs.SortedItems.{laid_in_order}

pub new-requires : goal.new-requires
new-requires c =
    let moved = c.sort_by_key.new.self.items in
    let by_address : IsNonDecreasingBy (λ (x : Item). x.at) moved = IsNonDecreasingBy-from_sort_by_key (λ (x : Item). x.at) _ c.in_ok-sort_by_key.ensures.sorted (λ a r q k. search rules) in
    (laid_in_order c.args.top c.args.items.items moved _ _ c.requires c.sort_by_key.ensures.permutation by_address
    (c.in_ok-placed.ensures ∙ ap (filter_map placed_item) c.deref.ensures.value) (c.in_ok-cells.ensures ∙ ap (flat_map data_item) c.deref-2.ensures.value)).2

pub returns : goal.returns
returns c =
    let is = c.args.items.items in
    let moved = c.sort_by_key.new.self.items in
    let by_address : IsNonDecreasingBy (λ (x : Item). x.at) moved = IsNonDecreasingBy-from_sort_by_key (λ (x : Item). x.at) _ c.in_ok-sort_by_key.ensures.sorted (λ a r q k. search rules) in
    let laid = laid_in_order c.args.top is moved _ _ c.requires c.sort_by_key.ensures.permutation by_address
    (c.in_ok-placed.ensures ∙ ap (filter_map placed_item) c.deref.ensures.value) (c.in_ok-cells.ensures ∙ ap (flat_map data_item) c.deref-2.ensures.value) in
    let made : Program = program_of c.in_ok-placed.placed.items c.in_ok-cells.cells.items c.args.top in
    record {
      program = IfOk-weaker c.new.result (λ p. p ≡ made) IsProgram (λ p same. subst IsProgram (sym same) laid.2) c.new.ensures;
      top = IfOk-weaker c.new.result (λ p. p ≡ made) (λ p. p.top ≡ c.args.top) (λ p same. ap (λ (q : Program). q.top) same) c.new.ensures;
      instrs = IfOk-weaker c.new.result (λ p. p ≡ made) (λ p. IsPermutation (filter_map placed_item is) p.instrs)
          (λ p same. subst (λ (q : Program). IsPermutation (filter_map placed_item is) q.instrs) (sym same) laid.0) c.new.ensures;
      cells = IfOk-weaker c.new.result (λ p. p ≡ made) (λ p. IsPermutation (flat_map data_item is) p.cells)
          (λ p same. subst (λ (q : Program). IsPermutation (flat_map data_item is) q.cells) (sym same) laid.1) c.new.ensures;
    }

pub returns-in_err-sort_by_key : goal.returns-in_err-sort_by_key
returns-in_err-sort_by_key c =
    let refused = c.from_residual in
    record {
      program = IfOk-from_err refused.result _ refused.ensures.0;
      top = IfOk-from_err refused.result _ refused.ensures.0;
      instrs = IfOk-from_err refused.result _ refused.ensures.0;
      cells = IfOk-from_err refused.result _ refused.ensures.0;
    }

pub returns-in_err-placed : goal.returns-in_err-placed
returns-in_err-placed c =
    let refused = c.from_residual-in_err-placed in
    record {
      program = IfOk-from_err refused.result _ refused.ensures.0;
      top = IfOk-from_err refused.result _ refused.ensures.0;
      instrs = IfOk-from_err refused.result _ refused.ensures.0;
      cells = IfOk-from_err refused.result _ refused.ensures.0;
    }

pub returns-in_err-cells : goal.returns-in_err-cells
returns-in_err-cells c =
    let refused = c.from_residual-in_err-cells in
    record {
      program = IfOk-from_err refused.result _ refused.ensures.0;
      top = IfOk-from_err refused.result _ refused.ensures.0;
      instrs = IfOk-from_err refused.result _ refused.ensures.0;
      cells = IfOk-from_err refused.result _ refused.ensures.0;
    }
