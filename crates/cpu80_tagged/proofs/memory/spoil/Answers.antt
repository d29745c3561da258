use Rattle.std.proofs.Common.{◌≡◌, ℕ, ◌<◌, ◌≤◌, Bool, true, false, length, sym, ap, ◌∙◌, arith}
use Rattle.std.proofs.lemmas.List.{get_or_default, get_or_past}
use Rattle.cells.specs.declared.Cell.TheVariants.{Junk}
use Rattle.cpu80_tagged.specs.Memory.{put}
use Rattle.cpu80_tagged.specs.declared.area.CellUse.TheVariants.{Open, Closed}
use Rattle.cpu80_tagged.specs.Area.{is_closed_use}
use Rattle.cpu80_tagged.specs.Draft.{memory_of}
use Rattle.cpu80_tagged.specs.Sight.{closed_in}
use Rattle.cpu80_tagged.proofs.Writes.{memory_of-set}
use Rattle.cpu80_tagged.proofs.Spoils.{cell_below, spoil_first, spoil_more, spoil_none}
use Rattle.cpu80_tagged.proofs.memory.spoil.Goals as goal
use Rattle.cpu80_tagged.proofs.memory.spoil.Goals.{then-not-is_closed, else-not-is_closed}

pub loop-k-init : goal.loop-k-init
loop-k-init c = spoil_first (closed_in c.args.uses.now) (memory_of c.args.memory.now) c.args.sp

pub loop-k-preserved : goal.loop-k-preserved
loop-k-preserved c =
    let past : (b : ℕ) → 0x10000 ≤ b → closed_in c.args.uses.now b ≡ true = λ b le. ap is_closed_use (get_or_past c.args.uses.now b Closed (omega arith)) in
    let within : cell_below c.args.sp c.loop-k.k < length c.args.uses.now = omega arith in
    let again = λ (b : Bool) (e : c.is_closed.result ≡ b). ap is_closed_use (get_or_default c.args.uses.now (cell_below c.args.sp c.loop-k.k) Closed Open within) ∙ sym c.is_closed.ensures ∙ e in
    elim c.if-not-is_closed.branch [
      | then-not-is_closed w ↦
          ap memory_of w.memory-is
          ∙ memory_of-set c.loop-k.memory (cell_below c.args.sp c.loop-k.k) Junk (omega arith)
          ∙ ap (λ m. put m (cell_below c.args.sp c.loop-k.k) Junk) c.loop-k.invariant
          ∙ spoil_more (closed_in c.args.uses.now) (memory_of c.args.memory.now) c.args.sp c.loop-k.k past (omega arith) (omega arith) (again false w.if-not-is_closed.true)
      | else-not-is_closed w ↦
          ap memory_of w.memory-is
          ∙ c.loop-k.invariant
          ∙ spoil_none (closed_in c.args.uses.now) (memory_of c.args.memory.now) c.args.sp c.loop-k.k past (omega arith) (omega arith) (again true w.if-not-is_closed.false)
    ]
