use Rattle.std.proofs.Common.{codes, sym, ap, ◌∙◌}
use Rattle.asm86_line_types.specs.Written.{mov_line}
use Rattle.asm86_line_types.proofs.write.mov.Goals as goal
use Rattle.asm86_line_types.proofs.WrittenLines.{said, two_said}

pub returns-in-MovReg8 : goal.returns-in-MovReg8
returns-in-MovReg8 c = record {
  value = two_said (said (codes "MOV")) c.reg8.ensures.value c.operand8.ensures.value c.with_two.ensures.value ∙ ap mov_line (sym c.in-MovReg8.is);
  size = c.with_two.ensures.size;
}

pub returns-in-MovMem8 : goal.returns-in-MovMem8
returns-in-MovMem8 c = record {
  value = two_said (said (codes "MOV")) c.ptr.ensures.value c.reg8-in-MovMem8.ensures.value c.with_two-in-MovMem8.ensures.value ∙ ap mov_line (sym c.in-MovMem8.is);
  size = c.with_two-in-MovMem8.ensures.size;
}

pub returns-in-MovAlDirect : goal.returns-in-MovAlDirect
returns-in-MovAlDirect c = record {
  value = two_said (said (codes "MOV")) (said (codes "AL")) (c.as_slice.ensures.value ∙ c.direct8.ensures.value) c.with_two-in-MovAlDirect.ensures.value ∙ ap mov_line (sym c.in-MovAlDirect.is);
  size = c.with_two-in-MovAlDirect.ensures.size;
}

pub returns-in-MovDirectAl : goal.returns-in-MovDirectAl
returns-in-MovDirectAl c = record {
  value = two_said (said (codes "MOV")) (c.as_slice-in-MovDirectAl.ensures.value ∙ c.direct8-in-MovDirectAl.ensures.value) (said (codes "AL")) c.with_two-in-MovDirectAl.ensures.value ∙ ap mov_line (sym c.in-MovDirectAl.is);
  size = c.with_two-in-MovDirectAl.ensures.size;
}

pub returns-in-MovNum8 : goal.returns-in-MovNum8
returns-in-MovNum8 c = record {
  value = two_said (said (codes "MOV")) c.reg8-in-MovNum8.ensures.value (c.as_slice-in-MovNum8.ensures.value ∙ c.byte.ensures.value) c.with_two-in-MovNum8.ensures.value ∙ ap mov_line (sym c.in-MovNum8.is);
  size = c.with_two-in-MovNum8.ensures.size;
}

pub returns-in-MovNum16 : goal.returns-in-MovNum16
returns-in-MovNum16 c = record {
  value = two_said (said (codes "MOV")) c.reg16.ensures.value (c.as_slice-in-MovNum16.ensures.value ∙ c.word.ensures.value) c.with_two-in-MovNum16.ensures.value ∙ ap mov_line (sym c.in-MovNum16.is);
  size = c.with_two-in-MovNum16.ensures.size;
}

pub returns-in-MovMemNum : goal.returns-in-MovMemNum
returns-in-MovMemNum c = record {
  value = two_said (said (codes "MOV")) c.ptr-in-MovMemNum.ensures.value (c.as_slice-in-MovMemNum.ensures.value ∙ c.byte-in-MovMemNum.ensures.value) c.with_two-in-MovMemNum.ensures.value ∙ ap mov_line (sym c.in-MovMemNum.is);
  size = c.with_two-in-MovMemNum.ensures.size;
}

pub returns-in-MovReg16 : goal.returns-in-MovReg16
returns-in-MovReg16 c = record {
  value = two_said (said (codes "MOV")) c.reg16-in-MovReg16.ensures.value (c.as_slice-in-MovReg16.ensures.value ∙ c.operand16.ensures.value) c.with_two-in-MovReg16.ensures.value ∙ ap mov_line (sym c.in-MovReg16.is);
  size = c.with_two-in-MovReg16.ensures.size;
}

pub returns-in-MovDirect16 : goal.returns-in-MovDirect16
returns-in-MovDirect16 c = record {
  value = two_said (said (codes "MOV")) (c.as_slice-in-MovDirect16.ensures.value ∙ c.direct16.ensures.value) c.reg16-in-MovDirect16.ensures.value c.with_two-in-MovDirect16.ensures.value ∙ ap mov_line (sym c.in-MovDirect16.is);
  size = c.with_two-in-MovDirect16.ensures.size;
}

pub returns-in-MovAxDs : goal.returns-in-MovAxDs
returns-in-MovAxDs c = record {
  value = two_said (said (codes "MOV")) (said (codes "AX")) (said (codes "DS")) c.with_two-in-MovAxDs.ensures.value ∙ ap mov_line (sym c.in-MovAxDs.is);
  size = c.with_two-in-MovAxDs.ensures.size;
}

pub returns-in-MovSsAx : goal.returns-in-MovSsAx
returns-in-MovSsAx c = record {
  value = two_said (said (codes "MOV")) (said (codes "SS")) (said (codes "AX")) c.with_two-in-MovSsAx.ensures.value ∙ ap mov_line (sym c.in-MovSsAx.is);
  size = c.with_two-in-MovSsAx.ensures.size;
}
