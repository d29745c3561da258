use Rattle.std.proofs.Common.{◌≡◌, Option, Some, None, sym, ap, subst, ◌∙◌}
use Rattle.std.specs.Prelude.{IfSome, IsSomeAnd, MatchOption, option_map}
use Rattle.i80.specs.declared.Instr80.{Instr80}
use Rattle.i80.specs.declared.Instr80.TheVariants as i80
use Rattle.asm80_types.specs.Tree.{Operand, operand_of}
use Rattle.asm80_types.specs.Program.{IsCoded}
use Rattle.asm80_source_def.specs.declared.operation.Operation.{Operation}
use Rattle.asm80_values.specs.Instructions.{register_instruction}
use Rattle.asm80_values.proofs.instruction.with_register.Goals as goal

-- the definition of an operation that is known
of_operation : (a : Operand) {o p : Operation} → o ≡ p → register_instruction p a ≡ register_instruction o a
of_operation a is = ap (λ (o : Operation). register_instruction o a) (sym is)

-- what `map` makes of a register or a pair
made : {A : Type 0} (make : A → Instr80) (found : Option A) (r : Option Instr80) → MatchOption found (r ≡ None) (λ x. IsSomeAnd r (λ y. y ≡ make x)) → r ≡ option_map make found
made make None r is = is
made make (Some x) None is = absurd is
made make (Some x) (Some y) is = ap Some is

coded : {A : Type 0} (make : A → Instr80) (found : Option A) (r : Option Instr80) → ((x : A) → IsCoded (make x)) → MatchOption found (r ≡ None) (λ x. IsSomeAnd r (λ y. y ≡ make x)) → IfSome r (λ x. IsCoded x)
coded make None None all is = tt
coded make None (Some y) all is = absurd cc
coded make (Some x) None all is = absurd is
coded make (Some x) (Some y) all is = subst IsCoded (sym is) (all x)

pub returns-in-Ldax-clause-instr : goal.returns-in-Ldax-clause-instr
returns-in-Ldax-clause-instr c = made i80.Ldax c.indirect_of.result c.map.result c.map.ensures.cases ∙ ap (option_map i80.Ldax) c.indirect_of.ensures ∙ of_operation (operand_of c.args.arg.now) c.in-Ldax.is

pub returns-in-Ldax-clause-coded : goal.returns-in-Ldax-clause-coded
returns-in-Ldax-clause-coded c = coded i80.Ldax c.indirect_of.result c.map.result (λ _. tt) c.map.ensures.cases

pub returns-in-Stax-clause-instr : goal.returns-in-Stax-clause-instr
returns-in-Stax-clause-instr c = made i80.Stax c.indirect_of-in-Stax.result c.map-in-Stax.result c.map-in-Stax.ensures.cases ∙ ap (option_map i80.Stax) c.indirect_of-in-Stax.ensures ∙ of_operation (operand_of c.args.arg.now) c.in-Stax.is

pub returns-in-Stax-clause-coded : goal.returns-in-Stax-clause-coded
returns-in-Stax-clause-coded c = coded i80.Stax c.indirect_of-in-Stax.result c.map-in-Stax.result (λ _. tt) c.map-in-Stax.ensures.cases

pub returns-in_err-src_of-in-Alu-clause-instr : goal.returns-in_err-src_of-in-Alu-clause-instr
returns-in_err-src_of-in-Alu-clause-instr c = c.from_residual.ensures ∙ ap (option_map (i80.Alu c.in-Alu.op)) (sym c.in_err-src_of-in-Alu.was ∙ c.src_of.ensures) ∙ of_operation (operand_of c.args.arg.now) c.in-Alu.is

pub returns-in_ok-src_of-in-Alu-clause-instr : goal.returns-in_ok-src_of-in-Alu-clause-instr
returns-in_ok-src_of-in-Alu-clause-instr c = ap (option_map (i80.Alu c.in-Alu.op)) (sym c.in_ok-src_of-in-Alu.was ∙ c.src_of.ensures) ∙ of_operation (operand_of c.args.arg.now) c.in-Alu.is

pub returns-in-Inr-clause-instr : goal.returns-in-Inr-clause-instr
returns-in-Inr-clause-instr c = made i80.Inr c.src_of-in-Inr.result c.map-in-Inr.result c.map-in-Inr.ensures.cases ∙ ap (option_map i80.Inr) c.src_of-in-Inr.ensures ∙ of_operation (operand_of c.args.arg.now) c.in-Inr.is

pub returns-in-Inr-clause-coded : goal.returns-in-Inr-clause-coded
returns-in-Inr-clause-coded c = coded i80.Inr c.src_of-in-Inr.result c.map-in-Inr.result (λ _. tt) c.map-in-Inr.ensures.cases

pub returns-in-Dcr-clause-instr : goal.returns-in-Dcr-clause-instr
returns-in-Dcr-clause-instr c = made i80.Dcr c.src_of-in-Dcr.result c.map-in-Dcr.result c.map-in-Dcr.ensures.cases ∙ ap (option_map i80.Dcr) c.src_of-in-Dcr.ensures ∙ of_operation (operand_of c.args.arg.now) c.in-Dcr.is

pub returns-in-Dcr-clause-coded : goal.returns-in-Dcr-clause-coded
returns-in-Dcr-clause-coded c = coded i80.Dcr c.src_of-in-Dcr.result c.map-in-Dcr.result (λ _. tt) c.map-in-Dcr.ensures.cases

pub returns-in-Inx-clause-instr : goal.returns-in-Inx-clause-instr
returns-in-Inx-clause-instr c = made i80.Inx c.pair_of.result c.map-in-Inx.result c.map-in-Inx.ensures.cases ∙ ap (option_map i80.Inx) c.pair_of.ensures ∙ of_operation (operand_of c.args.arg.now) c.in-Inx.is

pub returns-in-Inx-clause-coded : goal.returns-in-Inx-clause-coded
returns-in-Inx-clause-coded c = coded i80.Inx c.pair_of.result c.map-in-Inx.result (λ _. tt) c.map-in-Inx.ensures.cases

pub returns-in-Dcx-clause-instr : goal.returns-in-Dcx-clause-instr
returns-in-Dcx-clause-instr c = made i80.Dcx c.pair_of-in-Dcx.result c.map-in-Dcx.result c.map-in-Dcx.ensures.cases ∙ ap (option_map i80.Dcx) c.pair_of-in-Dcx.ensures ∙ of_operation (operand_of c.args.arg.now) c.in-Dcx.is

pub returns-in-Dcx-clause-coded : goal.returns-in-Dcx-clause-coded
returns-in-Dcx-clause-coded c = coded i80.Dcx c.pair_of-in-Dcx.result c.map-in-Dcx.result (λ _. tt) c.map-in-Dcx.ensures.cases

pub returns-in-Dad-clause-instr : goal.returns-in-Dad-clause-instr
returns-in-Dad-clause-instr c = made i80.Dad c.pair_of-in-Dad.result c.map-in-Dad.result c.map-in-Dad.ensures.cases ∙ ap (option_map i80.Dad) c.pair_of-in-Dad.ensures ∙ of_operation (operand_of c.args.arg.now) c.in-Dad.is

pub returns-in-Dad-clause-coded : goal.returns-in-Dad-clause-coded
returns-in-Dad-clause-coded c = coded i80.Dad c.pair_of-in-Dad.result c.map-in-Dad.result (λ _. tt) c.map-in-Dad.ensures.cases

pub returns-in-Push-clause-instr : goal.returns-in-Push-clause-instr
returns-in-Push-clause-instr c = made i80.Push c.stack_of.result c.map-in-Push.result c.map-in-Push.ensures.cases ∙ ap (option_map i80.Push) c.stack_of.ensures ∙ of_operation (operand_of c.args.arg.now) c.in-Push.is

pub returns-in-Push-clause-coded : goal.returns-in-Push-clause-coded
returns-in-Push-clause-coded c = coded i80.Push c.stack_of.result c.map-in-Push.result (λ _. tt) c.map-in-Push.ensures.cases

pub returns-in-Pop-clause-instr : goal.returns-in-Pop-clause-instr
returns-in-Pop-clause-instr c = made i80.Pop c.stack_of-in-Pop.result c.map-in-Pop.result c.map-in-Pop.ensures.cases ∙ ap (option_map i80.Pop) c.stack_of-in-Pop.ensures ∙ of_operation (operand_of c.args.arg.now) c.in-Pop.is

pub returns-in-Pop-clause-coded : goal.returns-in-Pop-clause-coded
returns-in-Pop-clause-coded c = coded i80.Pop c.stack_of-in-Pop.result c.map-in-Pop.result (λ _. tt) c.map-in-Pop.ensures.cases
