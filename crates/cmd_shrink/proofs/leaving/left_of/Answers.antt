use Rattle.std.proofs.Common.{ℕ, ◌-◌, ◌<◌, ◌≤◌, ◌∙◌, List, length, ap, sym, subst, arith}
use Rattle.i86.specs.Decode.{HasReader}
use Rattle.asm86_line_types.specs.declared.line.Line86.{Line86}
use Rattle.asm86_line_types.specs.Layout.{sizes_of}
use Rattle.asm86_line_types.specs.Image.{Image, statements}
use Rattle.sym_block_def.specs.Sorts.{StatementsAreCoded}
use Rattle.simulation_def.specs.Matches.{DataAreCoded}
use Rattle.cmd_common.specs.declared.stop.Stop.TheVariants.{OutOfMemory}
use Rattle.cmd_common.specs.Lines.{shrunk_line}
use Rattle.cmd_common.proofs.Told.{handed_on}
use Rattle.cmd_shrink.specs.Shrinks.{LeftStops, TextIsLeft, no_memory}
use Rattle.cmd_shrink.proofs.Left.{left_stops}
use Rattle.cmd_shrink.proofs.leaving.left_of.Goals as goal

-- what is left is no more than what there was
few_lines : (n m : ℕ) → n ≤ m → m ≤ 2048 → n < 0x10000000
few_lines n m fewer few = omega arith

pub returns-in_err-left-clause-stopped : goal.returns-in_err-left-clause-stopped
returns-in_err-left-clause-stopped c =
    let stops = LeftStops c.args.program.now c.args.lines.now in
    handed_on c.from_residual.result OutOfMemory stops c.from_residual.ensures.1 no_memory

pub returns-in_err-line-clause-stopped : goal.returns-in_err-line-clause-stopped
returns-in_err-line-clause-stopped c =
    let stops = LeftStops c.args.program.now c.args.lines.now in
    handed_on c.from_residual-in_err-line.result OutOfMemory stops c.from_residual-in_err-line.ensures.1 no_memory

pub of-requires-clause-order : goal.of-requires-clause-order
of-requires-clause-order c = ((c.shrunk_is_left.ensures.left c.args.program.now c.args.lines.now c.in_ok-left.left.items c.in_ok-left.ensures).assembles c.requires.assembles).order

pub of-requires-clause-few : goal.of-requires-clause-few
of-requires-clause-few c =
    let fewer = (c.shrunk_is_left.ensures.left c.args.program.now c.args.lines.now c.in_ok-left.left.items c.in_ok-left.ensures).fewer in
    few_lines _ _ fewer c.requires.few

pub returns-in_err-text-clause-stopped : goal.returns-in_err-text-clause-stopped
returns-in_err-text-clause-stopped c =
    let p = c.args.program.now in
    let lines = c.args.lines.now in
    let left = c.in_ok-left.left.items in
    let stops = LeftStops p lines in
    let a = (c.shrunk_is_left.ensures.left p lines left c.in_ok-left.ensures).assembles c.requires.assembles in
    handed_on c.from_residual-in_err-text.result c.in_err-text.field-0.0 stops c.from_residual-in_err-text.ensures.1
    (left_stops c.images_exclude_refusals.ensures.not_both p lines left a c.in_err-text.field-0.0 c.in_err-text.ensures.stopped)

pub returns-clause-left : goal.returns-clause-left
returns-clause-left c =
    let p = c.args.program.now in
    let lines = c.args.lines.now in
    let left = c.in_ok-left.left.items in
    let is = c.in_ok-left.ensures in
    let l = c.shrunk_is_left.ensures.left p lines left is in
    let w = l.writable c.text_is_writable.ensures in
    let blocks = c.requires.shown.0 in
    let finding = c.requires.shown.1 in
    let text = c.in_ok-text.ensures in
    subst (TextIsLeft p lines) (sym (ap (λ v. v.items) c.into_lines.ensures ∙ text.lines))
    (record {
      few = c.requires.few;
      blocks = blocks;
      finding = finding;
      is = is;
      among = l.among;
      shorter = l.shorter;
      has_image = c.written_lines_read_back.ensures.image left w;
      reader = subst (λ (i : Image). HasReader i.code) text.image.made.is text.image.reader;
      same = c.shown_is_same.ensures p left blocks c.top-top.ensures.program w.assembles
          (subst (λ (ls : List Line86). StatementsAreCoded (statements ls)) c.as_slice.ensures.value c.lines_are_coded.ensures.instructions)
          (subst (λ (ls : List Line86). DataAreCoded (statements ls)) c.as_slice.ensures.value c.lines_are_coded.ensures.data)
          (l.shown blocks finding);
    })

pub code_size-code-requires : goal.code_size-code-requires
code_size-code-requires c =
    let fewer = (c.shrunk_is_left.ensures.left c.args.program.now c.args.lines.now c.in_ok-left.left.items c.in_ok-left.ensures).fewer in
    subst (λ (ls : List Line86). length ls < 0x10000000) (sym c.as_slice-2.ensures.value) (few_lines _ _ fewer c.requires.few)

pub returns-clause-line : goal.returns-clause-line
returns-clause-line c =
    let lines = c.args.lines.now in
    let left = c.into_lines.result.items in
    let same = sym (ap (λ v. v.items) c.into_lines.ensures ∙ c.in_ok-text.ensures.lines) in
    c.in_ok-line.ensures
    ∙ ap (λ n. shrunk_line (length lines - n) c.code_size-code.result) (c.len.ensures ∙ sym c.as_slice-2.ensures.len ∙ ap length (c.as_slice-2.ensures.value ∙ same))
    ∙ ap (λ n. shrunk_line (length lines - length left) n) (c.code_size-code.ensures.value ∙ ap (λ (ls : List Line86). sizes_of (statements ls)) (c.as_slice-2.ensures.value ∙ same))
