use Rattle.std.proofs.Common.{◌∙◌, ◌-◌, ap, arith}
use Rattle.asm80_types.specs.Program.{instr_at}
use Rattle.flow.specs.Blocks.{place_after}
use Rattle.profile_leaving.specs.Leaving.{leaving_where}
use Rattle.profile_leaving.proofs.Fronts.{front_may_run}
use Rattle.profile_leaving.proofs.Walking.{last_alone}
use Rattle.profile_leaving.proofs.block.place_of.Goals as goal

pub known_function-function-requires : goal.known_function-function-requires
known_function-function-requires c = λ some. front_may_run c.args.program.now c.args.leader c.args.count (c.args.count - 1) c.requires.straight c.requires.few some (omega arith)

pub returns : goal.returns
returns c =
    let p = c.args.program.now in
    let at = place_after p c.args.leader (c.args.count - 1) in
    last_alone p c.args.leader c.args.count c.leaving_where.result c.requires.straight c.requires.some
    (c.leaving_where.ensures
    ∙ ap (λ a. leaving_where p a c.known_function-function.result (instr_at p a)) c.place_after.ensures
    ∙ ap (λ f. leaving_where p at f (instr_at p at)) c.known_function-function.ensures)
