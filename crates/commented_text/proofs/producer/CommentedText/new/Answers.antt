use Rattle.commented_text.specs.Lines.{lines_of_source}
use Rattle.commented_text.proofs.SourceLines.{lines_are}
use Rattle.commented_text.proofs.Whole.{opened}
use Rattle.commented_text.proofs.producer.CommentedText.new.Goals as goal

pub returns : goal.returns
returns c s e =
    let lines = lines_of_source c.args.source.now in
    record {
      style = s;
      of_style = e;
      source_lines = lines;
      cut = lines_are c.args.source.now;
      is = rw (c.source_of.ensures, c.instrs.ensures.value) (opened s c.args.program.now c.args.lines.now lines c.instrs.ensures.program e);
    }
