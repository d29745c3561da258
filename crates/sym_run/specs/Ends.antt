-- What the ways, ends and steps of a walk stand for.
use Rattle.std.specs.Prelude.{◌≡◌, ℕ, ◌+◌, ◌≤◌, List, length, Option, Some, None, IsSome, MatchOption, Result, Ok, Err}
use Rattle.std.specs.Vec.{vec_capacity}
use Rattle.i86.specs.declared.Jump.{Jump}
use Rattle.i86.specs.declared.Jump.TheVariants.{Jb, Jnb, Jz, Jnz, Js, Jns, Jp, Jnp}
use Rattle.dialogue.specs.Tried.{try_then}
use Rattle.asm86_line_types.specs.declared.line.Label.{Label}
use Rattle.asm86_line_types.specs.declared.line.Stmt86.{Stmt86}
use Rattle.asm86_line_types.specs.declared.line.Stmt86.TheVariants.{Jmp, Jmps}
use Rattle.xlt_pool.specs.Contents.{Contents}
use Rattle.sym_terms.specs.declared.head.Term.{Term as TermId}
use Rattle.sym_terms.specs.Trees.{AreTerms, PoolGrows}
use Rattle.sym_block_def.specs.declared.reason.Reason.{Reason}
use Rattle.sym_block_def.specs.Outcome.{Way, Outcome}
use Rattle.sym_block_def.specs.Symbolic86.{Symbolic86}
use Rattle.sym_block_def.specs.Walk86.{Surroundings, return_way, bx_way, jump_to, met, way_from}
use Rattle.sym_micro.specs.declared.outcome.Way.{Way as WayIds}
use Rattle.sym_micro.specs.declared.outcome.Held.{Held as HeldIds}
use Rattle.sym_micro.specs.declared.run.Run.{Run}
use Rattle.sym_micro.specs.Machine.{as86}
use Rattle.sym_micro.specs.Stands.{machine_of, IsReady}
use Rattle.sym_micro.specs.Exits.{WayIs, OutcomeIs}
use Rattle.sym_run.specs.declared.lasts.Last.{Last}
use Rattle.sym_run.specs.declared.lasts.Last.TheVariants.{Known, Return, ByBx}
use Rattle.sym_run.specs.declared.ends.End.{End}
use Rattle.sym_run.specs.declared.ends.Next.{Next}
use Rattle.sym_run.specs.declared.ends.Next.TheVariants.{Ends as EndsSo, GoesOn}

-- ways

-- the ids of a way without terms stand for it, or there is the same refusal
abbrev pub WayStands : Result Way Reason → Result WayIds Reason → Type 0
WayStands (Ok tree) (Ok way) = (pool : Contents) → WayIs pool tree way
WayStands (Err r) (Err q) = q ≡ r
WayStands tree found = ⊥

-- the way that ends so, where these are the terms
abbrev pub LastIs : Symbolic86 → Way → Last → Type 0
LastIs s tree (Known way) = (pool : Contents) → WayIs pool tree way
LastIs s tree Return = tree ≡ return_way s
LastIs s tree ByBx = tree ≡ bx_way s

abbrev pub LastStands : Symbolic86 → Result Way Reason → Result Last Reason → Type 0
LastStands s (Ok tree) (Ok last) = LastIs s tree last
LastStands s (Err r) (Err q) = q ≡ r
LastStands s tree found = ⊥

-- the label to which an instruction jumps, if it is a jump
abbrev pub target : Stmt86 → Option Label
target (Jmp l) = Some l
target (Jmps l) = Some l
target x = None

-- the two ways behind a conditional jump
abbrev pub both : Surroundings → ℕ → List Stmt86 → Symbolic86 → Label → Result (Way × Way) Reason
both w room rest s l =
    try_then (way_from w s room (met w rest)) (λ straight.
    try_then (jump_to w Ok (λ xs. way_from w s room (met w xs)) l) (λ jumped.
    Ok (straight, jumped)))

abbrev pub BothStand : Symbolic86 → Result (Way × Way) Reason → Result (Last × Last) Reason → Type 0
BothStand s (Ok trees) (Ok lasts) = LastIs s trees.0 lasts.0 × LastIs s trees.1 lasts.1
BothStand s (Err r) (Err q) = q ≡ r
BothStand s trees found = ⊥

-- the flag of a conditional jump, by its id
abbrev pub flag_id : HeldIds → Jump → TermId
flag_id x Jb = x.cy
flag_id x Jnb = x.cy
flag_id x Jz = x.z
flag_id x Jnz = x.z
flag_id x Js = x.s
flag_id x Jns = x.s
flag_id x Jp = x.p
flag_id x Jnp = x.p

-- ends

-- a run and where it ends stand for an outcome, or there is the same refusal
abbrev pub EndStands : Contents → Run → Result Outcome Reason → Result End Reason → Type 0
EndStands pool r (Ok x) (Ok end) = OutcomeIs pool r end.exit end.direct x
EndStands pool r (Err reason) (Err q) = q ≡ reason
EndStands pool r tree end = ⊥

-- an end for which no term is made
abbrev pub EndsWithoutTerm : (Symbolic86 → Result Outcome Reason) → Result End Reason → Type 0
EndsWithoutTerm tree end = (pool : Contents) (r : Run) → IsReady pool r → EndStands pool r (tree (as86 (machine_of pool r))) end

-- what goes on with terms behind an instruction
abbrev pub OnTo : Type 0
OnTo = Symbolic86 → List Stmt86 → Result Outcome Reason

-- a step for which no term is made
abbrev pub Goes : (Symbolic86 → OnTo → Result Outcome Reason) → Next → Type 0
Goes tree (EndsSo end) = (on : OnTo) → EndsWithoutTerm (λ s. tree s on) end
Goes tree (GoesOn xs) = (s : Symbolic86) (on : OnTo) → tree s on ≡ on s xs.now

-- A walk to its end: so many nodes join at most, and the run and the end stand for its outcome, or its reason is the answer. There is no
-- answer only where there is no room for a node more; with so much room there is one.
pub record WalksTo (old new : Contents) (r : Run) (nodes : ℕ) (tree : Result Outcome Reason) (end : Option (Result End Reason)) : Type 0 where
  pub grows : PoolGrows old new nodes
  pub terms : AreTerms new
  pub capacity : vec_capacity r.actions ≡ 512
  pub gives : MatchOption end (new.spare ≡ 0) (λ e. EndStands new r tree e)
  pub enough : nodes ≤ old.spare → IsSome end

-- a run that went on by two loads and stores at most
pub record WentOn (new : Contents) (r s : Run) (tree : OnTo → Result Outcome Reason) (rest : List Stmt86) : Type 0 where
  pub ready : IsReady new s
  pub few : length s.actions.items ≤ length r.actions.items + 2
  pub is : (on : OnTo) → tree on ≡ on (as86 (machine_of new s)) rest

abbrev pub NextStands : Contents → Run → Run → (OnTo → Result Outcome Reason) → Next → Type 0
NextStands new r s tree (EndsSo end) = (on : OnTo) → EndStands new s (tree on) end
NextStands new r s tree (GoesOn xs) = WentOn new r s tree xs.now

-- An instruction of a walk: 24 nodes join at most, and the walk ends, is refused or goes on. There is no answer only where there is no
-- room for a node more; with so much room there is one.
pub record Advances (old new : Contents) (r s : Run) (tree : OnTo → Result Outcome Reason) (next : Option Next) : Type 0 where
  pub grows : PoolGrows old new 24
  pub terms : AreTerms new
  pub capacity : vec_capacity s.actions ≡ 512
  pub gives : MatchOption next (new.spare ≡ 0) (λ x. NextStands new r s tree x)
  pub enough : 24 ≤ old.spare → IsSome next
