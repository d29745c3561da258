use Rattle.std.proofs.Common.{◌≡◌, suc, ◌+◌, sym, ap, ◌∙◌, arith}
use Rattle.i80_bytes.proofs.Texts.{found_more, none_more, all_cells}
use Rattle.i80_bytes.proofs.text.program_cells.Goals.{in-Some+in_ok-push, in_default}
use Rattle.i80_bytes.proofs.text.program_cells.Goals as goal

pub loop-at-preserved : goal.loop-at-preserved
loop-at-preserved c = elim c.match-program_byte.branch [
  | in-Some+in_ok-push w ↦
      let next : c.loop-at.at + 1 ≡ suc c.loop-at.at = omega arith in
      ap (λ v. v.items) w.cells-is
      ∙ w.in_ok-push.ensures.items
      ∙ found_more c.args.program.now c.loop-at.cells.items c.loop-at.at w.in-Some.byte (c.loop-at.at + 1) next c.loop-at.invariant (sym w.in-Some.ensures)
  | in_default w ↦
      let next : c.loop-at.at + 1 ≡ suc c.loop-at.at = omega arith in
      ap (λ v. v.items) w.cells-is
      ∙ none_more c.args.program.now c.loop-at.cells.items c.loop-at.at (c.loop-at.at + 1) next c.loop-at.invariant (sym c.program_byte.ensures ∙ w.in_default.is)
]

pub returns : goal.returns
returns c =
    let whole : c.loop-at.at ≡ 0x10000 = omega arith in
    all_cells c.args.program.now c.loop-at.cells.items c.loop-at.at whole c.loop-at.invariant
