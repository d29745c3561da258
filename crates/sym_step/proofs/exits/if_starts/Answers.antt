use Rattle.std.proofs.Common.{◌≡◌, ◌∙◌, Bool, Option, None, Some, cond, refl, sym, ap, subst}
use Rattle.std.specs.Option.{is_some}
use Rattle.i80.specs.declared.Instr80.{Instr80}
use Rattle.asm80_types.specs.declared.program.Placed.{Placed}
use Rattle.asm80_types.specs.Program.{instr_of_placed, placed_in}
use Rattle.sym_block_def.specs.Outcome.{Leave}
use Rattle.sym_micro.specs.declared.outcome.Way.TheVariants.{Leave as LeaveIds}
use Rattle.sym_micro.specs.Exits.{WayIs}
use Rattle.sym_step.proofs.exits.if_starts.Goals as goal

-- an instruction is found where one is placed
placed : (o : Option Placed) (r : Option Instr80) (b : Bool) → r ≡ instr_of_placed o → b ≡ is_some r → is_some o ≡ b
placed None r b e f = sym (f ∙ ap is_some e)
placed (Some x) r b e f = sym (f ∙ ap is_some e)

pub returns-then-is_some : goal.returns-then-is_some
returns-then-is_some c = λ pool tree w.
    let starts = placed (placed_in c.args.program.now.instrs c.args.a) c.instr_at.result c.is_some.result c.instr_at.ensures.value c.is_some.ensures ∙ c.if-is_some.true in
    subst (λ b. WayIs pool (cond b tree Leave) c.args.way) (sym starts) w

pub returns-else-is_some : goal.returns-else-is_some
returns-else-is_some c = λ pool tree w.
    let none = placed (placed_in c.args.program.now.instrs c.args.a) c.instr_at.result c.is_some.result c.instr_at.ensures.value c.is_some.ensures ∙ c.if-is_some.false in
    subst (λ b. WayIs pool (cond b tree Leave) LeaveIds) (sym none) (record { given = tt; is = refl })
