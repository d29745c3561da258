-- How each arm ends. Of what a step leaves and of the ways that no term is made for, a search finds it too, but takes long.
use Rattle.std.proofs.Common.{◌≡◌, ◌∙◌, ℕ, Bool, true, cond, List, Some, None, Result, Ok, Err, refl, ap, subst, sym, arith}
use Rattle.cells.specs.declared.Place.TheVariants.{At as AtPlace}
use Rattle.i86.specs.declared.Jump.{Jump}
use Rattle.i86.specs.declared.Instr86.{Instr86}
use Rattle.i86.specs.declared.Instr86.TheVariants.{MovSsAx, Jcc, JmpNear, JmpShort, JmpBx, CallNear, Ret, Int224, InAl, OutAl}
use Rattle.asm86_line_types.specs.declared.line.Stmt86.{Stmt86}
use Rattle.xlt_pool.specs.Contents.{Contents}
use Rattle.sym_terms.proofs.Interning.{still, more}
use Rattle.sym_block_def.specs.declared.reason.Reason.{Reason}
use Rattle.sym_block_def.specs.declared.reason.Reason.TheVariants.{Form}
use Rattle.sym_block_def.specs.Outcome.{One, In, Out, Sys as AskSystem, Outcome}
use Rattle.sym_block_def.specs.Symbolic86.{Symbolic86, effect86}
use Rattle.sym_block_def.specs.Walk86.{Surroundings, return_way, bx_way, one_way, outcome86, run_by, direct_call, port_way, back_from_system}
use Rattle.sym_micro.specs.declared.run.Run.{Run}
use Rattle.sym_micro.specs.Machine.{Machine, as86}
use Rattle.sym_micro.specs.Stands.{machine_of, IsReady, GoesOn}
use Rattle.sym_run.specs.declared.ends.End.{End}
use Rattle.sym_run.specs.declared.ends.Next.TheVariants.{Ends as EndsSo}
use Rattle.sym_run.specs.Around.{surroundings_of}
use Rattle.sym_run.specs.Ends.{Advances, EndStands, OnTo}
use Rattle.sym_run.proofs.Steps.{advances_as}
use Rattle.sym_run.proofs.walk.run_instr.Goals as goal

-- an end for which no term is made
ends_here : (pool : Contents) (r : Run) (t : Result Outcome Reason) (end : Result End Reason) → IsReady pool r → EndStands pool r t end → Advances pool pool r r (λ on. t) (Some (EndsSo end))
ends_here pool r t end h g = record {
  grows = more pool pool 0 24 (omega arith) (still pool);
  terms = h.terms;
  capacity = h.capacity;
  gives = λ on. g;
  enough = λ _. refl;
}

step_missing : (old new : Contents) (r s : Run) (P : Machine → Type 0) (tree : OnTo → Result Outcome Reason) → GoesOn old new r s 24 2 P None → Advances old new r s tree None
step_missing old new r s P tree g = record { grows = g.grows; terms = g.ready.terms; capacity = g.ready.capacity; gives = g.gives; enough = g.enough }

-- an instruction that does not end the walk
goes_on_by :
    (w : Surroundings) (on : OnTo) (rest : List Stmt86) (s : Symbolic86) (i : Instr86) → (i ≡ Ret → ⊥) → (i ≡ JmpBx → ⊥) → (i ≡ Int224 → ⊥) → ((n : ℕ) → i ≡ InAl n → ⊥) → ((n : ℕ) → i ≡ OutAl n → ⊥) → (i ≡ MovSsAx → ⊥)
    → ((j : Jump) (d : ℕ) → i ≡ Jcc j d → ⊥) → ((d : ℕ) → i ≡ JmpNear d → ⊥) → ((d : ℕ) → i ≡ JmpShort d → ⊥) → ((d : ℕ) → i ≡ CallNear d → ⊥) → run_by w on rest s i ≡ on (effect86 s i) rest
goes_on_by w on rest s Ret a b c d e f g h k l = absurd (a refl)
goes_on_by w on rest s JmpBx a b c d e f g h k l = absurd (b refl)
goes_on_by w on rest s Int224 a b c d e f g h k l = absurd (c refl)
goes_on_by w on rest s (InAl n) a b c d e f g h k l = absurd (d n refl)
goes_on_by w on rest s (OutAl n) a b c d e f g h k l = absurd (e n refl)
goes_on_by w on rest s MovSsAx a b c d e f g h k l = absurd (f refl)
goes_on_by w on rest s (Jcc j n) a b c d e f g h k l = absurd (g j n refl)
goes_on_by w on rest s (JmpNear n) a b c d e f g h k l = absurd (h n refl)
goes_on_by w on rest s (JmpShort n) a b c d e f g h k l = absurd (k n refl)
goes_on_by w on rest s (CallNear n) a b c d e f g h k l = absurd (l n refl)
goes_on_by w on rest s i a b c d e f g h k l = refl

pub returns-in-Ret : goal.returns-in-Ret
returns-in-Ret c =
    let old = c.args.terms.now in
    let r = c.args.run.now in
    let s = as86 (machine_of old r) in
    let w = surroundings_of c.args.around.now in
    advances_as old c.one_way.new.terms r r (λ on. run_by w on c.args.rest.now s c.args.instr) (λ on. one_way s (return_way s)) c.one_way.result (λ on. ap (run_by w on c.args.rest.now s) c.in-Ret.is) (c.one_way.ensures (return_way s) refl)

pub returns-in-JmpBx : goal.returns-in-JmpBx
returns-in-JmpBx c =
    let old = c.args.terms.now in
    let r = c.args.run.now in
    let s = as86 (machine_of old r) in
    let w = surroundings_of c.args.around.now in
    advances_as old c.one_way-in-JmpBx.new.terms r r (λ on. run_by w on c.args.rest.now s c.args.instr) (λ on. one_way s (bx_way s)) c.one_way-in-JmpBx.result (λ on. ap (run_by w on c.args.rest.now s) c.in-JmpBx.is) (c.one_way-in-JmpBx.ensures (bx_way s) refl)

pub returns-in-Int224 : goal.returns-in-Int224
returns-in-Int224 c =
    let old = c.args.terms.now in
    let r = c.args.run.now in
    let s = as86 (machine_of old r) in
    let w = surroundings_of c.args.around.now in
    let rest = c.args.rest.now in
    advances_as old old r r (λ on. run_by w on rest s c.args.instr) (λ on. direct_call w rest s) (Some (EndsSo c.direct_call.result)) (λ on. ap (run_by w on rest s) c.in-Int224.is)
    (ends_here old r (direct_call w rest s) c.direct_call.result c.requires.ready
    (subst (λ (b : Bool). EndStands old r (cond b (Ok (outcome86 s true (One (AskSystem (back_from_system w rest))))) (Err Form)) c.direct_call.result) c.is_call-is_call.ensures
    (c.direct_call.ensures old r c.requires.ready)))

pub returns-in-InAl : goal.returns-in-InAl
returns-in-InAl c =
    let old = c.args.terms.now in
    let r = c.args.run.now in
    let s = as86 (machine_of old r) in
    let w = surroundings_of c.args.around.now in
    let rest = c.args.rest.now in
    let way = In c.in-InAl.n in
    advances_as old old r r (λ on. run_by w on rest s c.args.instr) (λ on. port_way w rest s way) (Some (EndsSo c.port.result)) (λ on. ap (run_by w on rest s) c.in-InAl.is)
    (ends_here old r (port_way w rest s way) c.port.result c.requires.ready (c.port.ensures (way (AtPlace w.after)) (λ pool. record { given = tt; is = refl }) old r c.requires.ready))

pub returns-in-OutAl : goal.returns-in-OutAl
returns-in-OutAl c =
    let old = c.args.terms.now in
    let r = c.args.run.now in
    let s = as86 (machine_of old r) in
    let w = surroundings_of c.args.around.now in
    let rest = c.args.rest.now in
    let way = Out c.in-OutAl.n in
    advances_as old old r r (λ on. run_by w on rest s c.args.instr) (λ on. port_way w rest s way) (Some (EndsSo c.port-in-OutAl.result)) (λ on. ap (run_by w on rest s) c.in-OutAl.is)
    (ends_here old r (port_way w rest s way) c.port-in-OutAl.result c.requires.ready (c.port-in-OutAl.ensures (way (AtPlace w.after)) (λ pool. record { given = tt; is = refl }) old r c.requires.ready))

pub returns-in_err-step86-in_default : goal.returns-in_err-step86-in_default
returns-in_err-step86-in_default c =
    let old = c.args.terms.now in
    let new = c.step86.new.terms in
    let r = c.args.run.now in
    let s = as86 (machine_of old r) in
    let w = surroundings_of c.args.around.now in
    let tree : OnTo → Result Outcome Reason = λ on. run_by w on c.args.rest.now s c.args.instr in
    subst (λ x. Advances old new r c.step86.new.run tree x) (sym c.from_residual.ensures)
    (step_missing old new r c.step86.new.run (λ m. as86 m ≡ effect86 s c.args.instr) tree c.in_err-step86-in_default.ensures)

pub returns-in_ok-step86-in_default : goal.returns-in_ok-step86-in_default
returns-in_ok-step86-in_default c =
    let r = c.args.run.now in
    let s = as86 (machine_of c.args.terms.now r) in
    let w = surroundings_of c.args.around.now in
    let rest = c.args.rest.now in
    let g = c.in_ok-step86-in_default.ensures in
    let d = c.in_default in
    record {
      grows = g.grows;
      terms = g.ready.terms;
      capacity = g.ready.capacity;
      gives = record {
        ready = g.ready;
        few = g.few;
        is = λ on. goes_on_by w on rest s c.args.instr d.not-Ret d.not-JmpBx d.not-Int224 d.not-InAl d.not-OutAl d.not-MovSsAx d.not-Jcc d.not-JmpNear d.not-JmpShort d.not-CallNear ∙ ap (λ x. on x rest) (sym g.gives);
      };
      enough = λ _. refl;
    }
