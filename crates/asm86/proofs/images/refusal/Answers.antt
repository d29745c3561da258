use Rattle.std.proofs.Common.{arith}
use Rattle.asm86.proofs.Made.{found_small, found_short, labels_checked}
use Rattle.asm86.proofs.images.refusal.Goals as goal

pub first_short-requires-clause-labels : goal.first_short-requires-clause-labels
first_short-requires-clause-labels c =
    let size = c.code_size-size.ensures.value in
    let most = c.if-size-gt-MOST_CODE.false in
    found_small c.args.lines.now c.args.labels.now c.requires.found (omega (arith, size, most))

pub returns-in-Some-first_short : goal.returns-in-Some-first_short
returns-in-Some-first_short c =
    let size = c.code_size-size.ensures.value in
    let most = c.if-size-gt-MOST_CODE.false in
    (c.requires.once, c.in_default.ensures, omega (arith, size, most), found_short c.args.lines.now c.args.labels.now c.in-Some-first_short.line c.requires.found c.in-Some-first_short.ensures)

pub returns : goal.returns
returns c =
    let size = c.code_size-size.ensures.value in
    let most = c.if-size-gt-MOST_CODE.false in
    labels_checked c.args.lines.now c.args.labels.now c.requires.found c.requires.once c.in_default.ensures (omega (arith, size, most)) c.in_default-first_short.ensures
