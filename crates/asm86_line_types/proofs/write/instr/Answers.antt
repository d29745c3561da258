use Rattle.std.proofs.Common.{codes, sym, ap, ◌∙◌}
use Rattle.asm86_line_types.specs.Written.{instr_line}
use Rattle.asm86_line_types.proofs.write.instr.Goals as goal
use Rattle.asm86_line_types.proofs.WrittenLines.{said, one_said, two_said}

pub returns-in-Push : goal.returns-in-Push
returns-in-Push c = record {
  value = one_said (said (codes "PUSH")) c.stacked.ensures.value c.with_one.ensures.value ∙ ap instr_line (sym c.in-Push.is);
  size = c.with_one.ensures.size;
}

pub returns-in-Pop : goal.returns-in-Pop
returns-in-Pop c = record {
  value = one_said (said (codes "POP")) c.stacked-in-Pop.ensures.value c.with_one-in-Pop.ensures.value ∙ ap instr_line (sym c.in-Pop.is);
  size = c.with_one-in-Pop.ensures.size;
}

pub returns-in-Xchg8 : goal.returns-in-Xchg8
returns-in-Xchg8 c = record {
  value = two_said (said (codes "XCHG")) c.reg8.ensures.value c.reg8-in-Xchg8.ensures.value c.with_two.ensures.value ∙ ap instr_line (sym c.in-Xchg8.is);
  size = c.with_two.ensures.size;
}

pub returns-in-Xchg16 : goal.returns-in-Xchg16
returns-in-Xchg16 c = record {
  value = two_said (said (codes "XCHG")) c.reg16.ensures.value c.reg16-in-Xchg16.ensures.value c.with_two-in-Xchg16.ensures.value ∙ ap instr_line (sym c.in-Xchg16.is);
  size = c.with_two-in-Xchg16.ensures.size;
}

pub returns-in-Daa : goal.returns-in-Daa
returns-in-Daa c = record {
  value = c.alone.ensures.value ∙ ap instr_line (sym c.in-Daa.is);
  size = c.alone.ensures.size;
}

pub returns-in-Sahf : goal.returns-in-Sahf
returns-in-Sahf c = record {
  value = c.alone-in-Sahf.ensures.value ∙ ap instr_line (sym c.in-Sahf.is);
  size = c.alone-in-Sahf.ensures.size;
}

pub returns-in-Lahf : goal.returns-in-Lahf
returns-in-Lahf c = record {
  value = c.alone-in-Lahf.ensures.value ∙ ap instr_line (sym c.in-Lahf.is);
  size = c.alone-in-Lahf.ensures.size;
}

pub returns-in-Cmc : goal.returns-in-Cmc
returns-in-Cmc c = record {
  value = c.alone-in-Cmc.ensures.value ∙ ap instr_line (sym c.in-Cmc.is);
  size = c.alone-in-Cmc.ensures.size;
}

pub returns-in-Stc : goal.returns-in-Stc
returns-in-Stc c = record {
  value = c.alone-in-Stc.ensures.value ∙ ap instr_line (sym c.in-Stc.is);
  size = c.alone-in-Stc.ensures.size;
}

pub returns-in-Nop : goal.returns-in-Nop
returns-in-Nop c = record {
  value = c.alone-in-Nop.ensures.value ∙ ap instr_line (sym c.in-Nop.is);
  size = c.alone-in-Nop.ensures.size;
}

pub returns-in-JmpBx : goal.returns-in-JmpBx
returns-in-JmpBx c = record {
  value = one_said (said (codes "JMP")) (said (codes "BX")) c.with_one-in-JmpBx.ensures.value ∙ ap instr_line (sym c.in-JmpBx.is);
  size = c.with_one-in-JmpBx.ensures.size;
}

pub returns-in-Ret : goal.returns-in-Ret
returns-in-Ret c = record {
  value = c.alone-in-Ret.ensures.value ∙ ap instr_line (sym c.in-Ret.is);
  size = c.alone-in-Ret.ensures.size;
}

pub returns-in-Int224 : goal.returns-in-Int224
returns-in-Int224 c = record {
  value = one_said (said (codes "INT")) (said (codes "224")) c.with_one-in-Int224.ensures.value ∙ ap instr_line (sym c.in-Int224.is);
  size = c.with_one-in-Int224.ensures.size;
}

pub returns-in-InAl : goal.returns-in-InAl
returns-in-InAl c = record {
  value = two_said (said (codes "IN")) (said (codes "AL")) (c.as_slice.ensures.value ∙ c.byte.ensures.value) c.with_two-in-InAl.ensures.value ∙ ap instr_line (sym c.in-InAl.is);
  size = c.with_two-in-InAl.ensures.size;
}

pub returns-in-OutAl : goal.returns-in-OutAl
returns-in-OutAl c = record {
  value = two_said (said (codes "OUT")) (c.as_slice-in-OutAl.ensures.value ∙ c.byte-in-OutAl.ensures.value) (said (codes "AL")) c.with_two-in-OutAl.ensures.value ∙ ap instr_line (sym c.in-OutAl.is);
  size = c.with_two-in-OutAl.ensures.size;
}
