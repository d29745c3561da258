use Rattle.std.proofs.Common.{◌≡◌, ◌≤◌, subst, ◌∙◌, arith}
use Rattle.cpu80_tagged.specs.declared.area.CellUse.TheVariants.{Closed}
use Rattle.cpu80_tagged.proofs.Starts.{IsUseOf, filled_all, filled_more, use_past}
use Rattle.cpu80_tagged.proofs.start.uses_of_cells.Goals as goal

pub loop-at-preserved : goal.loop-at-preserved
loop-at-preserved c =
    filled_more Closed (IsUseOf c.args.program.now) c.loop-at.uses.items c.push.new.self.items c.use_of_cell.result c.loop-at.at
    c.loop-at.invariant c.in_ok-push.ensures.items (record { closed = c.use_of_cell.ensures.closed; start = c.use_of_cell.ensures.start })

pub returns : goal.returns
returns c =
    let p = c.args.program.now in
    let top = subst (λ t. t ≤ 0xFF00) c.top-top.ensures.value c.top-top.ensures.range.1 in
    let end : c.loop-at.at ≡ 0x10000 = omega arith in
    let all = filled_all Closed (IsUseOf p) c.loop-at.uses.items c.loop-at.at 0x10000 c.loop-at.invariant end (λ a le. use_past p a c.top-top.ensures.program top le) in
    record {
      size = c.loop-at.invariant.size ∙ end;
      closed = λ a. (all a).closed;
      starts = λ a. (all a).start;
    }
