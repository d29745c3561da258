use Rattle.std.proofs.Common.{List, refl, subst}
use Rattle.i86.specs.Decode.{HasReader}
use Rattle.asm86_line_types.specs.declared.line.Line86.{Line86}
use Rattle.asm86_line_types.specs.Image.{IsImage}
use Rattle.cmd_common.specs.Texts.{ImageStops}
use Rattle.cmd_common.proofs.text.LoadedText.of.Goals as goal

pub returns-in-Ok : goal.returns-in-Ok
returns-in-Ok c =
    record {
      lines = refl;
      image = record {
        made = subst (λ (l : List Line86). IsImage l c.in-Ok.image) c.as_slice.ensures.value c.in-Ok.ensures.answer;
        reader = subst HasReader c.code.ensures.value c.bytes_have_one_reader.ensures;
      };
      stopped = tt;
    }

pub returns-in-Err : goal.returns-in-Err
returns-in-Err c =
    record {
      lines = tt;
      image = tt;
      stopped = subst (λ (l : List Line86). ImageStops l c.stop_of_image.result) c.as_slice.ensures.value
          (record { fault = c.in-Err.fault; refused = c.in-Err.ensures.answer; is = c.stop_of_image.ensures });
    }
