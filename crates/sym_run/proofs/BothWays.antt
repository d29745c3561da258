-- The ends of ways behind a conditional jump.
use Rattle.std.proofs.Common.{◌≡◌, ℕ, zero, suc, ◌+◌, ◌-◌, ◌<◌, ◌≤◌, Bool, List, length, Some, None, Result, Ok, Err, refl, sym, ap, subst, arith}
use Rattle.std.proofs.lemmas.Option.{same_Some}
use Rattle.asm86_line_types.specs.declared.line.Label.{Label}
use Rattle.asm86_line_types.specs.declared.line.Stmt86.{Stmt86}
use Rattle.asm86_line_types.specs.declared.line.Stmt86.TheVariants.{Jmp, Jmps}
use Rattle.i86.specs.declared.Jump.{Jump}
use Rattle.i86.specs.declared.Jump.TheVariants.{Jb, Jnb, Jz, Jnz, Js, Jns, Jp, Jnp}
use Rattle.xlt_pool.specs.Contents.{Contents}
use Rattle.dialogue.specs.Tried.{try_then}
use Rattle.sym_terms.specs.declared.head.Term.{Term as TermId}
use Rattle.sym_terms.specs.Trees.{StandsFor, PoolGrows, AreTerms}
use Rattle.sym_terms.proofs.Interning.{more, then_grows}
use Rattle.sym_block_def.specs.declared.reason.Reason.{Reason}
use Rattle.sym_block_def.specs.Outcome.{Way, Exit, Two}
use Rattle.sym_block_def.specs.Symbolic86.{Symbolic86}
use Rattle.sym_block_def.specs.Walk86.{Surroundings, Instruction, way_by, way_from, met, jump_to, flag_of_jump, jumps_at}
use Rattle.sym_micro.specs.declared.outcome.Held.{Held as HeldIds}
use Rattle.sym_micro.specs.declared.outcome.Way.{Way as WayIds}
use Rattle.sym_micro.specs.declared.outcome.Exit.TheVariants.{Two as TwoIds}
use Rattle.sym_micro.specs.declared.run.Run.{Run}
use Rattle.sym_micro.specs.Machine.{Machine, as86}
use Rattle.sym_micro.specs.Stands.{machine_of, trees_of_held, HeldIsGiven, IsReady}
use Rattle.sym_micro.specs.Exits.{WayIs, FindsWay, FindsExit}
use Rattle.sym_micro.proofs.Ready.{same_machine}
use Rattle.sym_micro.proofs.Found.{way_still, two_by}
use Rattle.sym_run.specs.declared.lasts.Last.{Last}
use Rattle.sym_run.specs.Ends.{LastIs, LastStands, BothStand, target, both, flag_id}

-- an instruction is counted
pub counted : (w : Surroundings) (s : Symbolic86) (room : ℕ) (x : Stmt86) (rest : List Stmt86) → 0 < room → way_from w s room (Instruction x rest) ≡ way_by w s (λ xs. way_from w s (room - 1) (met w xs)) rest x
counted w s zero x rest h = absurd (omega arith)
counted w s (suc n) x rest h =
    let one_less : n ≡ suc n - 1 = omega arith in
    subst (λ k. way_from w s (suc n) (Instruction x rest) ≡ way_by w s (λ xs. way_from w s k (met w xs)) rest x) one_less refl

-- the label of a jump
pub jumps : (w : Surroundings) (s : Symbolic86) (on : List Stmt86 → Result Way Reason) (rest : List Stmt86) (x : Stmt86) (l : Label) → target x ≡ Some l → way_by w s on rest x ≡ jump_to w Ok on l
jumps w s on rest (Jmp k) l h = ap (jump_to w Ok on) (same_Some k l h)
jumps w s on rest (Jmps k) l h = ap (jump_to w Ok on) (same_Some k l h)
jumps w s on rest x l h = absurd (cc)

-- two ways

pub first_refused : (w : Surroundings) (room : ℕ) (rest : List Stmt86) (s : Symbolic86) (l : Label) (q : Reason) → LastStands s (way_from w s room (met w rest)) (Err q) → BothStand s (both w room rest s l) (Err q)
first_refused w room rest s l q h = by_first (way_from w s room (met w rest)) h
  where
    by_first : (a : Result Way Reason) → LastStands s a (Err q) → BothStand s (try_then a (λ x. try_then (jump_to w Ok (λ xs. way_from w s room (met w xs)) l) (λ y. Ok (x, y)))) (Err q)
    by_first (Ok t) h = absurd h
    by_first (Err r) h = h

pub second_refused : (w : Surroundings) (room : ℕ) (rest : List Stmt86) (s : Symbolic86) (l : Label) (last : Last) (q : Reason) → LastStands s (way_from w s room (met w rest)) (Ok last) → LastStands s (jump_to w Ok (λ xs. way_from w s room (met w xs)) l) (Err q) → BothStand s (both w room rest s l) (Err q)
second_refused w room rest s l last q h k = by_both (way_from w s room (met w rest)) (jump_to w Ok (λ xs. way_from w s room (met w xs)) l) h k
  where
    by_both : (a b : Result Way Reason) → LastStands s a (Ok last) → LastStands s b (Err q) → BothStand s (try_then a (λ x. try_then b (λ y. Ok (x, y)))) (Err q)
    by_both (Ok t) (Ok u) h k = absurd k
    by_both (Ok t) (Err r) h k = k
    by_both (Err r) b h k = absurd h

pub both_found : (w : Surroundings) (room : ℕ) (rest : List Stmt86) (s : Symbolic86) (l : Label) (x y : Last) → LastStands s (way_from w s room (met w rest)) (Ok x) → LastStands s (jump_to w Ok (λ xs. way_from w s room (met w xs)) l) (Ok y) → BothStand s (both w room rest s l) (Ok (x, y))
both_found w room rest s l x y h k = by_both (way_from w s room (met w rest)) (jump_to w Ok (λ xs. way_from w s room (met w xs)) l) h k
  where
    by_both : (a b : Result Way Reason) → LastStands s a (Ok x) → LastStands s b (Ok y) → BothStand s (try_then a (λ p. try_then b (λ q. Ok (p, q)))) (Ok (x, y))
    by_both (Ok t) (Ok u) h k = (h, k)
    by_both (Ok t) (Err r) h k = absurd k
    by_both (Err r) b h k = absurd h

-- the flag of a conditional jump
pub flag_stands : (pool : Contents) (h : HeldIds) (j : Jump) → HeldIsGiven pool h → StandsFor pool (flag_id h j) (flag_of_jump (trees_of_held pool h) j)
flag_stands pool h Jb g = (g.cy, refl)
flag_stands pool h Jnb g = (g.cy, refl)
flag_stands pool h Jz g = (g.z, refl)
flag_stands pool h Jnz g = (g.z, refl)
flag_stands pool h Js g = (g.s, refl)
flag_stands pool h Jns g = (g.s, refl)
flag_stands pool h Jp g = (g.p, refl)
flag_stands pool h Jnp g = (g.p, refl)

pub jump_is : (old new : Contents) (n : ℕ) (h : HeldIds) (j : Jump) (f : TermId) (value : Bool) (a b : WayIds) (v w : Way) → PoolGrows old new n → AreTerms new → HeldIsGiven old h → f ≡ flag_id h j → value ≡ jumps_at j → WayIs new v a → WayIs new w b
    → FindsExit old new n (Two (flag_of_jump (trees_of_held old h) j) (jumps_at j) v w) (Some (TwoIds f value a b))
jump_is old new n h j f value a b v w g terms given ef ev p q =
    two_by old new n f (flag_id h j) (flag_of_jump (trees_of_held old h) j) value (jumps_at j) a b v w g terms (flag_stands old h j given) ef ev p q

-- what a way is stays, where terms join
pub last_still : (old new : Contents) (n : ℕ) (r : Run) (tree : Way) (last : Last) → PoolGrows old new n → IsReady old r → LastIs (as86 (machine_of old r)) tree last → LastIs (as86 (machine_of new r)) tree last
last_still old new n r tree last g h l = subst (λ (m : Machine). LastIs (as86 m) tree last) (sym (same_machine old new n g r h.given)) l

pub first_missing : (old new : Contents) (tree : Way) (exit : Exit) → FindsWay old new 3 tree None → FindsExit old new 6 exit None
first_missing old new tree exit w = record {
  grows = more old new 3 6 (omega arith) w.grows;
  terms = w.terms;
  gives = w.gives;
  enough = λ q. w.enough (omega arith);
}

pub second_missing : (old mid new : Contents) (first second : Way) (way : WayIds) (exit : Exit) → FindsWay old mid 3 first (Some way) → FindsWay mid new 3 second None → FindsExit old new 6 exit None
second_missing old mid new first second way exit v w = record {
  grows = then_grows old mid new 3 3 v.grows w.grows;
  terms = w.terms;
  gives = w.gives;
  enough = λ q.
      let few : length v.grows.added ≤ 3 = v.grows.few in
      let spare : mid.spare + length v.grows.added ≡ old.spare = v.grows.spare in
      w.enough (omega arith);
}

pub two_found : (old mid new : Contents) (r : Run) (j : Jump) (f : TermId) (value : Bool) (a b : WayIds) (there here : Way) → IsReady old r → f ≡ flag_id r.held j → value ≡ jumps_at j → FindsWay old mid 3 there (Some a) → FindsWay mid new 3 here (Some b)
    → FindsExit old new 6 (Two (flag_of_jump (trees_of_held old r.held) j) (jumps_at j) there here) (Some (TwoIds f value a b))
two_found old mid new r j f value a b there here h ef ev v w =
    jump_is old new 6 r.held j f value a b there here (then_grows old mid new 3 3 v.grows w.grows) w.terms h.given.held ef ev (way_still mid new 3 a there w.grows v.gives) w.gives
