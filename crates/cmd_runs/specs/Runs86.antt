-- What `run86` is among the commands that run something: the image of a text runs on the 8086, by a choice.
use Rattle.std.specs.Prelude.{◌≡◌}
use Rattle.i86.specs.Decode.{HasReader}
use Rattle.asm86_line_types.specs.Image.{Image}
use Rattle.cmd_arguments.specs.Words.{Run86}
use Rattle.cmd_common.specs.Files.{text_limit}
use Rattle.cmd_common.specs.Texts.{TextIsRefused}
use Rattle.asm86.specs.Images.{HasImage}
use Rattle.cmd_runs.specs.Settings.{IsCourse86}
use Rattle.cmd_runs.specs.Kinds.{RunKind}
use Rattle.cmd_runs.specs.Works.{RunWork, work_of_one}

-- a file that is a text with an image gives it, and any other file is refused by the rule that it breaks; the image's code has one
-- reader, the image has a course by that, and no line stands with a stop
abbrev pub kind86 : Run86 → RunKind Image
kind86 c = record {
  file = c.text;
  most = text_limit;
  options = c.run;
  IsGiven = λ text image. HasImage text image;
  IsRefused = λ text stop. TextIsRefused text stop;
  IsReadable = λ image. HasReader image.code;
  IsCourse = λ image course. IsCourse86 c.run.page c.choice image course;
  IsStopLine = λ image end line. line ≡ 0;
}

abbrev pub work86 : Run86 → RunWork
work86 c = work_of_one (kind86 c)
