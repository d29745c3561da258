use Rattle.std.proofs.Common.{codes, sym, ap, ◌∙◌}
use Rattle.asm86_line_types.specs.Written.{computation_line}
use Rattle.asm86_line_types.proofs.write.computation.Goals as goal
use Rattle.asm86_line_types.proofs.WrittenLines.{said, one_said, two_said}

pub returns-in-Alu : goal.returns-in-Alu
returns-in-Alu c = record {
  value = two_said c.alu.ensures.value (said (codes "AL")) c.operand8.ensures.value c.with_two.ensures.value ∙ ap computation_line (sym c.in-Alu.is);
  size = c.with_two.ensures.size;
}

pub returns-in-AluNum : goal.returns-in-AluNum
returns-in-AluNum c = record {
  value = two_said c.alu-in-AluNum.ensures.value (said (codes "AL")) (c.as_slice.ensures.value ∙ c.byte.ensures.value) c.with_two-in-AluNum.ensures.value ∙ ap computation_line (sym c.in-AluNum.is);
  size = c.with_two-in-AluNum.ensures.size;
}

pub returns-in-OrClCl : goal.returns-in-OrClCl
returns-in-OrClCl c = record {
  value = two_said (said (codes "OR")) (said (codes "CL")) (said (codes "CL")) c.with_two-in-OrClCl.ensures.value ∙ ap computation_line (sym c.in-OrClCl.is);
  size = c.with_two-in-OrClCl.ensures.size;
}

pub returns-in-Add16 : goal.returns-in-Add16
returns-in-Add16 c = record {
  value = two_said (said (codes "ADD")) c.reg16.ensures.value c.reg16-in-Add16.ensures.value c.with_two-in-Add16.ensures.value ∙ ap computation_line (sym c.in-Add16.is);
  size = c.with_two-in-Add16.ensures.size;
}

pub returns-in-Count8 : goal.returns-in-Count8
returns-in-Count8 c = record {
  value = one_said c.count.ensures.value c.operand8-in-Count8.ensures.value c.with_one.ensures.value ∙ ap computation_line (sym c.in-Count8.is);
  size = c.with_one.ensures.size;
}

pub returns-in-Count16 : goal.returns-in-Count16
returns-in-Count16 c = record {
  value = one_said c.count-in-Count16.ensures.value c.reg16-in-Count16.ensures.value c.with_one-in-Count16.ensures.value ∙ ap computation_line (sym c.in-Count16.is);
  size = c.with_one-in-Count16.ensures.size;
}

pub returns-in-Rotate8 : goal.returns-in-Rotate8
returns-in-Rotate8 c = record {
  value = two_said c.rotate.ensures.value c.reg8.ensures.value (said (codes "1")) c.with_two-in-Rotate8.ensures.value ∙ ap computation_line (sym c.in-Rotate8.is);
  size = c.with_two-in-Rotate8.ensures.size;
}

pub returns-in-Rotate16 : goal.returns-in-Rotate16
returns-in-Rotate16 c = record {
  value = two_said c.rotate-in-Rotate16.ensures.value c.reg16-in-Rotate16.ensures.value (said (codes "1")) c.with_two-in-Rotate16.ensures.value ∙ ap computation_line (sym c.in-Rotate16.is);
  size = c.with_two-in-Rotate16.ensures.size;
}

pub returns-in-Not8 : goal.returns-in-Not8
returns-in-Not8 c = record {
  value = one_said (said (codes "NOT")) c.reg8-in-Not8.ensures.value c.with_one-in-Not8.ensures.value ∙ ap computation_line (sym c.in-Not8.is);
  size = c.with_one-in-Not8.ensures.size;
}
