use Rattle.std.proofs.Common.{codes, sym, ap, ◌∙◌}
use Rattle.asm86_line_types.specs.Written.{written_line}
use Rattle.asm86_line_types.proofs.write.write_line.Goals as goal
use Rattle.asm86_line_types.proofs.WrittenLines.{said, one_said, two_said}

pub returns-in-Org : goal.returns-in-Org
returns-in-Org c = record {
  value = one_said (said (codes "ORG")) (c.as_slice.ensures.value ∙ c.word.ensures.value) c.with_one.ensures.value ∙ ap written_line (sym c.in-Org.is);
  size = c.with_one.ensures.size;
}

pub returns-in-Rb : goal.returns-in-Rb
returns-in-Rb c = record {
  value = one_said (said (codes "RB")) (c.as_slice-in-Rb.ensures.value ∙ c.word-in-Rb.ensures.value) c.with_one-in-Rb.ensures.value ∙ ap written_line (sym c.in-Rb.is);
  size = c.with_one-in-Rb.ensures.size;
}

pub returns-in-Db : goal.returns-in-Db
returns-in-Db c = record {
  value = one_said (said (codes "DB")) (c.as_slice-in-Db.ensures.value ∙ c.byte.ensures.value) c.with_one-in-Db.ensures.value ∙ ap written_line (sym c.in-Db.is);
  size = c.with_one-in-Db.ensures.size;
}

pub returns-in-Dw : goal.returns-in-Dw
returns-in-Dw c = record {
  value = one_said (said (codes "DW")) (c.as_slice-in-Dw.ensures.value ∙ c.value.ensures.value) c.with_one-in-Dw.ensures.value ∙ ap written_line (sym c.in-Dw.is);
  size = c.with_one-in-Dw.ensures.size;
}

pub returns-in-MovOffset : goal.returns-in-MovOffset
returns-in-MovOffset c = record {
  value = two_said (said (codes "MOV")) c.reg16.ensures.value (c.as_slice-in-MovOffset.ensures.value ∙ c.offset.ensures.value) c.with_two.ensures.value ∙ ap written_line (sym c.in-MovOffset.is);
  size = c.with_two.ensures.size;
}

pub returns-in-Jmp : goal.returns-in-Jmp
returns-in-Jmp c = record {
  value = one_said (said (codes "JMP")) (c.as_slice-in-Jmp.ensures.value ∙ c.label.ensures.value) c.with_one-in-Jmp.ensures.value ∙ ap written_line (sym c.in-Jmp.is);
  size = c.with_one-in-Jmp.ensures.size;
}

pub returns-in-Jmps : goal.returns-in-Jmps
returns-in-Jmps c = record {
  value = one_said (said (codes "JMPS")) (c.as_slice-in-Jmps.ensures.value ∙ c.label-in-Jmps.ensures.value) c.with_one-in-Jmps.ensures.value ∙ ap written_line (sym c.in-Jmps.is);
  size = c.with_one-in-Jmps.ensures.size;
}

pub returns-in-Jcc : goal.returns-in-Jcc
returns-in-Jcc c = record {
  value = one_said c.jump.ensures.value (c.as_slice-in-Jcc.ensures.value ∙ c.label-in-Jcc.ensures.value) c.with_one-in-Jcc.ensures.value ∙ ap written_line (sym c.in-Jcc.is);
  size = c.with_one-in-Jcc.ensures.size;
}

pub returns-in-Call : goal.returns-in-Call
returns-in-Call c = record {
  value = one_said (said (codes "CALL")) (c.as_slice-in-Call.ensures.value ∙ c.label-in-Call.ensures.value) c.with_one-in-Call.ensures.value ∙ ap written_line (sym c.in-Call.is);
  size = c.with_one-in-Call.ensures.size;
}

pub returns-in-Run : goal.returns-in-Run
returns-in-Run c = record {
  value = c.instr.ensures.value ∙ ap written_line (sym c.in-Run.is);
  size = c.instr.ensures.size;
}

pub returns-in-Mark : goal.returns-in-Mark
returns-in-Mark c = record {
  value = c.mark.ensures.value ∙ ap written_line (sym c.in-Mark.is);
  size = c.mark.ensures.size;
}
