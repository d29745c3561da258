use Rattle.std.proofs.Common.{subst}
use Rattle.templates.specs.Translation.{HasNoText}
use Rattle.cmd_translate.specs.TranslateWork.{is_large, no_room}
use Rattle.cmd_translate.proofs.translation.lines_of.Goals as goal

pub returns-in-Ok : goal.returns-in-Ok
returns-in-Ok c = let e = c.in-Ok.ensures in record { text = e.value; fits = e.fits; few = e.few; stopped = tt }

pub returns-in-Err-CodeTooLarge : goal.returns-in-Err-CodeTooLarge
returns-in-Err-CodeTooLarge c =
    record {
      text = tt;
      fits = tt;
      few = tt;
      stopped = is_large (subst (HasNoText c.args.mode c.args.program.now) c.in-Err-CodeTooLarge.field-0-is c.in-Err-CodeTooLarge.ensures.none);
    }

pub returns-in-Err-Memory : goal.returns-in-Err-Memory
returns-in-Err-Memory c = record { text = tt; fits = tt; few = tt; stopped = no_room }
