use Rattle.std.proofs.Common.{◌≡◌, ◌≤◌, subst, sym, arith}
use mathlib.Core.Path.{fun_ext}
use Rattle.cells.specs.declared.Cell.TheVariants.{Junk}
use Rattle.cpu80_tagged.specs.Start.{start_cell80}
use Rattle.cpu80_tagged.proofs.Starts.{filled_all, filled_more, start_past}
use Rattle.cpu80_tagged.proofs.start.start_memory.Goals as goal

pub loop-at-preserved : goal.loop-at-preserved
loop-at-preserved c =
    filled_more Junk (λ a v. v ≡ start_cell80 c.args.program.now c.args.page.now a) c.loop-at.memory.items c.push.new.self.items c.start_cell.result c.loop-at.at
    c.loop-at.invariant c.in_ok-push.ensures.items c.start_cell.ensures

pub returns-clause-cells : goal.returns-clause-cells
returns-clause-cells c =
    let p = c.args.program.now in
    let page = c.args.page.now in
    let top = subst (λ t. t ≤ 0xFF00) c.top-top.ensures.value c.top-top.ensures.range.1 in
    fun_ext (filled_all Junk (λ a v. v ≡ start_cell80 p page a) c.loop-at.memory.items c.loop-at.at 0x10000 c.loop-at.invariant (omega arith)
    (λ a le. sym (start_past p page a c.top-top.ensures.program top le)))
