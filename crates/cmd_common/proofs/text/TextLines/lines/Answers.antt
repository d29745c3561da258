use Rattle.std.proofs.Common.{subst, Err, refl}
use Rattle.asm86.specs.Reader.{FinishesText}
use Rattle.cmd_common.specs.Texts.{breaks}
use Rattle.cmd_common.proofs.text.TextLines.lines.Goals as goal

pub returns-in-Ok : goal.returns-in-Ok
returns-in-Ok c =
    let e = c.in-Ok.ensures in
    record { read = e.outcome; in_order = e.in_order; few = e.few; stopped = tt }

pub returns-in-Err-Line : goal.returns-in-Err-Line
returns-in-Err-Line c =
    record {
      read = λ bytes after. breaks (subst (λ f. FinishesText bytes (Err f)) c.in-Err-Line.field-0-is (c.in-Err-Line.ensures.outcome bytes after));
      in_order = tt;
      few = tt;
      stopped = tt;
    }

pub returns-in-Err-Memory : goal.returns-in-Err-Memory
returns-in-Err-Memory c = record { read = tt; in_order = tt; few = tt; stopped = refl }
