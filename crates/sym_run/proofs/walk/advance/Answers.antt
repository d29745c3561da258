use Rattle.std.proofs.Common.{◌≡◌, ◌∙◌, ℕ, List, Some, None, Result, Err, refl, ap, subst, sym, arith}
use Rattle.asm86_line_types.specs.declared.line.Label.{Label}
use Rattle.asm86_line_types.specs.declared.line.Stmt86.{Stmt86}
use Rattle.asm86_line_types.specs.declared.line.Stmt86.TheVariants.{Run, MovOffset, Jmp, Jmps, Jcc as JccTo, Call as CallTo}
use Rattle.i86.specs.declared.Instr86.{Instr86}
use Rattle.i86.specs.declared.Jump.{Jump}
use Rattle.i86.specs.declared.Reg16.{Reg16}
use Rattle.dialogue.specs.Tried.{try_then}
use Rattle.sym_block_def.specs.declared.reason.Reason.TheVariants.{Form}
use Rattle.sym_block_def.specs.declared.reason.Reason.{Reason}
use Rattle.sym_block_def.specs.Outcome.{Outcome}
use Rattle.sym_block_def.specs.Symbolic86.{Symbolic86}
use Rattle.sym_block_def.specs.Walk86.{Surroundings, call_way, jump_to, one_way, walk_by}
use Rattle.xlt_pool.specs.Contents.{Contents}
use Rattle.sym_micro.specs.declared.run.Run.{Run as Run86}
use Rattle.sym_micro.specs.Machine.{Machine, as86}
use Rattle.sym_micro.specs.Stands.{machine_of, GoesOn}
use Rattle.sym_run.specs.declared.ends.Next.TheVariants.{Ends}
use Rattle.sym_run.specs.Around.{surroundings_of}
use Rattle.sym_run.specs.Ends.{OnTo, Advances}
use Rattle.sym_run.proofs.Steps.{advances_as, stands_still, end_missing, end_found, jumps_by}
use Rattle.sym_run.proofs.walk.advance.Goals as goal

-- a step for which a node is missing
step_missing : (old new : Contents) (r s : Run86) (P : Machine → Type 0) (tree : OnTo → Result Outcome Reason) → GoesOn old new r s 24 2 P None → Advances old new r s tree None
step_missing old new r s P tree g = record { grows = g.grows; terms = g.ready.terms; capacity = g.ready.capacity; gives = g.gives; enough = g.enough }

has_no_form : (w : Surroundings) (room : ℕ) (on : OnTo) (rest : List Stmt86) (s : Symbolic86) (x : Stmt86) → ((i : Instr86) → x ≡ Run i → ⊥) → ((r : Reg16) (l : Label) → x ≡ MovOffset r l → ⊥) → ((l : Label) → x ≡ Jmp l → ⊥) → ((l : Label) → x ≡ Jmps l → ⊥) → ((j : Jump) (l : Label) → x ≡ JccTo j l → ⊥) → ((l : Label) → x ≡ CallTo l → ⊥) → walk_by w room on rest s x ≡ Err Form
has_no_form w room on rest s (Run i) a b c d e f = absurd (a i refl)
has_no_form w room on rest s (MovOffset r l) a b c d e f = absurd (b r l refl)
has_no_form w room on rest s (Jmp l) a b c d e f = absurd (c l refl)
has_no_form w room on rest s (Jmps l) a b c d e f = absurd (d l refl)
has_no_form w room on rest s (JccTo j l) a b c d e f = absurd (e j l refl)
has_no_form w room on rest s (CallTo l) a b c d e f = absurd (f l refl)
has_no_form w room on rest s x a b c d e f = refl

pub returns-in-Run : goal.returns-in-Run
returns-in-Run c =
    let old = c.args.terms.now in
    let r = c.args.run.now in
    let s = as86 (machine_of old r) in
    let w = surroundings_of c.args.around.now in
    subst (λ (x : Stmt86). Advances old c.run_instr.new.terms r c.run_instr.new.run (λ on. walk_by w c.args.room on c.args.rest.now s x) c.run_instr.result) (sym c.in-Run.is) c.run_instr.ensures

pub returns-in-Jmp : goal.returns-in-Jmp
returns-in-Jmp c =
    let old = c.args.terms.now in
    let r = c.args.run.now in
    let s = as86 (machine_of old r) in
    let w = surroundings_of c.args.around.now in
    let label = c.in-Jmp.label in
    advances_as old old r r (λ on. walk_by w c.args.room on c.args.rest.now s c.args.stmt) (λ on. jump_to w (one_way s) (on s) label) (Some c.jump.result)
    (λ on. jumps_by w c.args.room on c.args.rest.now s c.args.stmt label c.in-Jmp.is)
    (stands_still old r (λ x on. jump_to w (one_way x) (on x) label) c.jump.result c.requires.ready c.jump.ensures)

pub returns-in_err-end-in-Jcc : goal.returns-in_err-end-in-Jcc
returns-in_err-end-in-Jcc c =
    let old = c.args.terms.now in
    let new = c.two_ways.new.terms in
    let r = c.args.run.now in
    let tree = λ (on : OnTo). walk_by (surroundings_of c.args.around.now) c.args.room on c.args.rest.now (as86 (machine_of old r)) c.args.stmt in
    subst (Advances old new r r tree) (sym c.from_residual-in_err-end-in-Jcc.ensures) (end_missing old new 6 r r _ tree (omega arith) c.in_err-end-in-Jcc.ensures.walks)

pub returns-in_ok-end-in-Jcc : goal.returns-in_ok-end-in-Jcc
returns-in_ok-end-in-Jcc c =
    let old = c.args.terms.now in
    let new = c.two_ways.new.terms in
    let r = c.args.run.now in
    let s = as86 (machine_of old r) in
    let w = surroundings_of c.args.around.now in
    let end = c.in_ok-end-in-Jcc.end in
    subst (λ (x : Stmt86). Advances old new r r (λ on. walk_by w c.args.room on c.args.rest.now s x) (Some (Ends end))) (sym c.in-Jcc.is)
    (end_found old new 6 r r _ end (omega arith) c.in_ok-end-in-Jcc.ensures.walks)

pub returns-in-Call : goal.returns-in-Call
returns-in-Call c =
    let old = c.args.terms.now in
    let r = c.args.run.now in
    let s = as86 (machine_of old r) in
    let w = surroundings_of c.args.around.now in
    let rest = c.args.rest.now in
    let end = Ends c.call.result in
    subst (λ (x : Stmt86). Advances old old r r (λ on. walk_by w c.args.room on rest s x) (Some end)) (sym c.in-Call.is)
    (stands_still old r (λ x on. try_then (call_way w rest c.in-Call.label) (one_way x)) end c.requires.ready (λ on. c.call.ensures))

pub returns-in_default : goal.returns-in_default
returns-in_default c =
    let old = c.args.terms.now in
    let r = c.args.run.now in
    let s = as86 (machine_of old r) in
    let w = surroundings_of c.args.around.now in
    let end = Ends (Err Form) in
    advances_as old old r r (λ on. walk_by w c.args.room on c.args.rest.now s c.args.stmt) (λ on. Err Form) (Some end)
    (λ on. has_no_form w c.args.room on c.args.rest.now s c.args.stmt c.in_default.not-Run c.in_default.not-MovOffset c.in_default.not-Jmp c.in_default.not-Jmps c.in_default.not-Jcc c.in_default.not-Call)
    (stands_still old r (λ x on. Err Form) end c.requires.ready (λ on pool r h. refl))

pub returns-in_err-offset-in-MovOffset : goal.returns-in_err-offset-in-MovOffset
returns-in_err-offset-in-MovOffset c =
    let old = c.args.terms.now in
    let new = c.offset.new.terms in
    let r = c.args.run.now in
    let s = c.offset.new.run in
    let tree = λ (on : OnTo). walk_by (surroundings_of c.args.around.now) c.args.room on c.args.rest.now (as86 (machine_of old r)) c.args.stmt in
    subst (Advances old new r s tree) (sym c.from_residual.ensures) (step_missing old new r s _ tree c.in_err-offset-in-MovOffset.ensures)

pub returns-in_ok-offset-in-MovOffset : goal.returns-in_ok-offset-in-MovOffset
returns-in_ok-offset-in-MovOffset c =
    let w = surroundings_of c.args.around.now in
    let rest = c.args.rest.now in
    let s = as86 (machine_of c.args.terms.now c.args.run.now) in
    let g = c.in_ok-offset-in-MovOffset.ensures in
    record {
      grows = g.grows;
      terms = g.ready.terms;
      capacity = g.ready.capacity;
      gives = record {
        ready = g.ready;
        few = g.few;
        is = λ on. ap (walk_by w c.args.room on rest s) c.in-MovOffset.is ∙ ap (λ x. on x rest) (sym g.gives);
      };
      enough = λ _. refl;
    }
