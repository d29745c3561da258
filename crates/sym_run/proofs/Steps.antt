-- Steps of a walk, one after another.
use Rattle.std.proofs.Common.{◌≡◌, ◌∙◌, ℕ, zero, suc, ◌+◌, ◌-◌, ◌*◌, ◌<◌, ◌≤◌, Bool, false, List, length, drop, ◌⊎◌, inl, inr, is_some, Option, Some, None, Result, Ok, Err, refl, sym, ap, ap₂, subst, arith}
use Rattle.asm86_line_types.specs.declared.line.Stmt86.{Stmt86}
use Rattle.asm86_line_types.specs.declared.line.Stmt86.TheVariants.{Jmp, Jmps}
use Rattle.asm86_line_types.specs.declared.line.Label.{Label}
use Rattle.asm86_line_types.specs.declared.line.Label.TheVariants.{At}
use Rattle.cells.specs.Parts.{Parts}
use Rattle.i80.specs.declared.Instr80.{Instr80}
use Rattle.asm80_types.specs.Program.{Program, instr_at, is_start, placed_in, instr_of_placed}
use Rattle.asm80_types.specs.declared.program.Placed.{Placed}
use Rattle.i86.specs.declared.Jump.{Jump}
use Rattle.xlt_pool.specs.Contents.{Contents}
use Rattle.sym_terms.specs.Trees.{PoolGrows}
use Rattle.sym_terms.proofs.Interning.{still, more, then_grows}
use Rattle.sym_block_def.specs.declared.reason.Reason.{Reason}
use Rattle.sym_block_def.specs.Outcome.{Way, Exit, Two, Outcome}
use Rattle.sym_block_def.specs.Block80.{instrs_from, addresses_from, address_after_all}
use Rattle.sym_block_def.specs.Symbolic86.{Symbolic86, start86}
use Rattle.sym_block_def.specs.Walk86.{Surroundings, Instruction, surroundings, after_label, one_way, outcome86, walk_by, walk_through, walk_behind, walk86, met, way_from, jump_to, two_ways, flag_of_jump, jumps_at}
use Rattle.sym_micro.specs.declared.outcome.Exit.{Exit as ExitIds}
use Rattle.sym_micro.specs.declared.run.Run.{Run}
use Rattle.sym_micro.specs.Machine.{Machine, as86}
use Rattle.sym_micro.specs.Stands.{machine_of, IsReady, Runs}
use Rattle.sym_micro.specs.Exits.{FindsExit}
use Rattle.dialogue.specs.Tried.{try_then}
use Rattle.sym_run.specs.declared.lasts.Last.{Last}
use Rattle.sym_run.specs.declared.ends.End.{End}
use Rattle.sym_run.specs.declared.ends.Next.{Next}
use Rattle.sym_run.specs.declared.ends.Next.TheVariants.{Ends as EndsSo, GoesOn as GoesOnTo}
use Rattle.sym_run.specs.Ends.{LastIs, both, BothStand, EndStands, OnTo, Goes, WalksTo, Advances}
use Rattle.sym_run.proofs.Ending.{outcome_is}

-- single steps

-- a step for which no term is made
pub stands_still : (pool : Contents) (r : Run) (tree : Symbolic86 → OnTo → Result Outcome Reason) (next : Next) → IsReady pool r → Goes tree next → Advances pool pool r r (tree (as86 (machine_of pool r))) (Some next)
stands_still pool r tree (EndsSo end) h g = record {
  grows = more pool pool 0 24 (omega arith) (still pool);
  terms = h.terms;
  capacity = h.capacity;
  gives = λ on. g on pool r h;
  enough = λ _. refl;
}
stands_still pool r tree (GoesOnTo xs) h g = record {
  grows = more pool pool 0 24 (omega arith) (still pool);
  terms = h.terms;
  capacity = h.capacity;
  gives = record { ready = h; few = omega arith; is = λ on. g (as86 (machine_of pool r)) on };
  enough = λ _. refl;
}

-- what is said otherwise
pub advances_as : (old new : Contents) (r s : Run) (t u : OnTo → Result Outcome Reason) (next : Option Next) → ((on : OnTo) → t on ≡ u on) → Advances old new r s u next → Advances old new r s t next
advances_as old new r s t u None e a = record { grows = a.grows; terms = a.terms; capacity = a.capacity; gives = a.gives; enough = a.enough }
advances_as old new r s t u (Some (EndsSo end)) e a = record {
  grows = a.grows;
  terms = a.terms;
  capacity = a.capacity;
  gives = λ on. subst (λ x. EndStands new s x end) (sym (e on)) (a.gives on);
  enough = a.enough;
}
advances_as old new r s t u (Some (GoesOnTo xs)) e a = record {
  grows = a.grows;
  terms = a.terms;
  capacity = a.capacity;
  gives = record { ready = a.gives.ready; few = a.gives.few; is = λ on. e on ∙ a.gives.is on };
  enough = a.enough;
}

-- an end for which nodes join
pub end_missing : (old new : Contents) (n : ℕ) (r s : Run) (t : Result Outcome Reason) (tree : OnTo → Result Outcome Reason) → n ≤ 24 → WalksTo old new s n t None → Advances old new r s tree None
end_missing old new n r s t tree le w = record {
  grows = more old new n 24 le w.grows;
  terms = w.terms;
  capacity = w.capacity;
  gives = w.gives;
  enough = λ q. w.enough (omega arith);
}

pub end_found : (old new : Contents) (n : ℕ) (r s : Run) (t : Result Outcome Reason) (end : Result End Reason) → n ≤ 24 → WalksTo old new s n t (Some end) → Advances old new r s (λ on. t) (Some (EndsSo end))
end_found old new n r s t end le w = record {
  grows = more old new n 24 le w.grows;
  terms = w.terms;
  capacity = w.capacity;
  gives = λ on. w.gives;
  enough = λ _. refl;
}

-- walks

-- a walk that ends by an exit for which nodes join
pub exit_missing : (old new : Contents) (n : ℕ) (r : Run) (exit : Exit) (t : Result Outcome Reason) → IsReady old r → FindsExit old new n exit None → WalksTo old new r n t None
exit_missing old new n r exit t h f = record { grows = f.grows; terms = f.terms; capacity = h.capacity; gives = f.gives; enough = f.enough }

pub exit_found : (old new : Contents) (n : ℕ) (r : Run) (exit : Exit) (ids : ExitIds) → IsReady old r → FindsExit old new n exit (Some ids) → WalksTo old new r n (Ok (outcome86 (as86 (machine_of old r)) false exit)) (Some (Ok (record { exit = ids; direct = false })))
exit_found old new n r exit ids h f = record { grows = f.grows; terms = f.terms; capacity = h.capacity; gives = outcome_is old new n r exit ids false f.grows h f.gives; enough = λ _. refl }

-- the two ways behind a conditional jump
pub record TwoIs (s : Symbolic86) (j : Jump) (x y : Last) (t : Result Outcome Reason) : Type 0 where
  pub here : Way
  pub there : Way
  pub straight : LastIs s here x
  pub jumped : LastIs s there y
  pub is : t ≡ Ok (outcome86 s false (Two (flag_of_jump s.held j) (jumps_at j) there here))

pub two_is : (w : Surroundings) (room : ℕ) (rest : List Stmt86) (s : Symbolic86) (j : Jump) (l : Label) (x y : Last) → BothStand s (both w room rest s l) (Ok (x, y)) → TwoIs s j x y (two_ways w room rest s j l)
two_is w room rest s j l x y h = by_both (way_from w s room (met w rest)) (jump_to w Ok (λ xs. way_from w s room (met w xs)) l) h
  where
    by_both : (a b : Result Way Reason) → BothStand s (try_then a (λ p. try_then b (λ q. Ok (p, q)))) (Ok (x, y)) → TwoIs s j x y (try_then a (λ p. try_then b (λ q. Ok (outcome86 s false (Two (flag_of_jump s.held j) (jumps_at j) q p)))))
    by_both (Ok t) (Ok u) h = record { here = t; there = u; straight = h.0; jumped = h.1; is = refl }
    by_both (Ok t) (Err r) h = absurd h
    by_both (Err r) b h = absurd h

pub two_refused : (pool : Contents) (r : Run) (w : Surroundings) (room : ℕ) (rest : List Stmt86) (j : Jump) (l : Label) (q : Reason) → IsReady pool r → BothStand (as86 (machine_of pool r)) (both w room rest (as86 (machine_of pool r)) l) (Err q) → WalksTo pool pool r 6 (two_ways w room rest (as86 (machine_of pool r)) j l) (Some (Err q))
two_refused pool r w room rest j l q ready h = record {
  grows = more pool pool 0 6 (omega arith) (still pool);
  terms = ready.terms;
  capacity = ready.capacity;
  gives = by_both (way_from w s room (met w rest)) (jump_to w Ok (λ xs. way_from w s room (met w xs)) l) h;
  enough = λ _. refl;
}
  where
    s : Symbolic86
    s = as86 (machine_of pool r)

    by_both : (a b : Result Way Reason) → BothStand s (try_then a (λ x. try_then b (λ y. Ok (x, y)))) (Err q) → EndStands pool r (try_then a (λ x. try_then b (λ y. Ok (outcome86 s false (Two (flag_of_jump s.held j) (jumps_at j) y x))))) (Err q)
    by_both (Ok t) (Ok u) h = absurd h
    by_both (Ok t) (Err e) h = h
    by_both (Err e) b h = h

-- an instruction is counted
pub counted : (w : Surroundings) (room : ℕ) (x : Stmt86) (rest : List Stmt86) (s : Symbolic86) → 0 < room → walk_through w room (Instruction x rest) s ≡ walk_by w (room - 1) (λ t xs. walk_through w (room - 1) (met w xs) t) rest s x
counted w zero x rest s h = absurd (omega arith)
counted w (suc n) x rest s h =
    let one_less : n ≡ suc n - 1 = omega arith in
    subst (λ k. walk_through w (suc n) (Instruction x rest) s ≡ walk_by w k (λ t xs. walk_through w k (met w xs) t) rest s x) one_less refl

pub step_missing : (old new : Contents) (r s : Run) (nodes : ℕ) (tree : OnTo → Result Outcome Reason) (t : Result Outcome Reason) → 24 ≤ nodes → Advances old new r s tree None → WalksTo old new s nodes t None
step_missing old new r s nodes tree t le a = record {
  grows = more old new 24 nodes le a.grows;
  terms = a.terms;
  capacity = a.capacity;
  gives = a.gives;
  enough = λ q. a.enough (omega arith);
}

pub step_ends : (old new : Contents) (r s : Run) (nodes : ℕ) (tree : OnTo → Result Outcome Reason) (on : OnTo) (end : Result End Reason) → 24 ≤ nodes → Advances old new r s tree (Some (EndsSo end)) → WalksTo old new s nodes (tree on) (Some end)
step_ends old new r s nodes tree on end le a = record {
  grows = more old new 24 nodes le a.grows;
  terms = a.terms;
  capacity = a.capacity;
  gives = a.gives on;
  enough = λ _. refl;
}

pub then_walks : (old mid new : Contents) (s : Run) (j k : ℕ) (t : Result Outcome Reason) (end : Option (Result End Reason)) → PoolGrows old mid j → WalksTo mid new s k t end → WalksTo old new s (j + k) t end
then_walks old mid new s j k t None g w = record {
  grows = then_grows old mid new j k g w.grows;
  terms = w.terms;
  capacity = w.capacity;
  gives = w.gives;
  enough = λ q.
      let few : length g.added ≤ j = g.few in
      let spare : mid.spare + length g.added ≡ old.spare = g.spare in
      w.enough (omega arith);
}
then_walks old mid new s j k t (Some end) g w = record {
  grows = then_grows old mid new j k g w.grows;
  terms = w.terms;
  capacity = w.capacity;
  gives = w.gives;
  enough = λ _. refl;
}

-- an end at once
pub ends_here : (pool : Contents) (r : Run) (nodes : ℕ) (tree : Result Outcome Reason) (end : Result End Reason) → IsReady pool r → EndStands pool r tree end → WalksTo pool pool r nodes tree (Some end)
ends_here pool r nodes tree end h e = record { grows = more pool pool 0 nodes (omega arith) (still pool); terms = h.terms; capacity = h.capacity; gives = e; enough = λ _. refl }

pub walks_more : (old new : Contents) (s : Run) (j k : ℕ) (t : Result Outcome Reason) (end : Option (Result End Reason)) → j ≤ k → WalksTo old new s j t end → WalksTo old new s k t end
walks_more old new s j k t end le w = record {
  grows = more old new j k le w.grows;
  terms = w.terms;
  capacity = w.capacity;
  gives = w.gives;
  enough = λ q. w.enough (omega arith);
}

-- a jump of either form
pub jumps_by : (w : Surroundings) (room : ℕ) (on : OnTo) (rest : List Stmt86) (s : Symbolic86) (x : Stmt86) (l : Label) → (x ≡ Jmp l) ⊎ (x ≡ Jmps l) → walk_by w room on rest s x ≡ jump_to w (one_way s) (on s) l
jumps_by w room on rest s x l (inl e) = ap (walk_by w room on rest s) e
jumps_by w room on rest s x l (inr e) = ap (walk_by w room on rest s) e

-- the surroundings of a block, found one by one
pub surroundings_are : (p : Program) (text : List Stmt86) (first : ℕ) (is : List Instr80) (later : List ℕ) (after : ℕ) (goes_on : Bool) → later ≡ drop 1 (addresses_from first is) → after ≡ address_after_all first is → goes_on ≡ is_some (instr_at p after) → record { text = text; later = later; after = after; goes_on = goes_on } ≡ surroundings p text first is
surroundings_are p text first is later after goes_on el ea eg =
    let starts : goes_on ≡ is_start p (address_after_all first is) = eg ∙ starts_is (placed_in p.instrs after) ∙ ap (is_start p) ea in
    λ i. record { text = text; later = el i; after = ea i; goes_on = starts i }
  where
    starts_is : (o : Option Placed) → is_some (instr_of_placed o) ≡ is_some o
    starts_is None = refl
    starts_is (Some x) = refl

-- a walk from a block's label on
pub walks_from : (p : Program) (text : List Stmt86) (keep : Parts) (first count : ℕ) (w : Surroundings) (old mid new : Contents) (r s : Run) (end : Option (Result End Reason)) → w ≡ surroundings p text first (instrs_from p first count) → Runs old mid r 16 0 (λ m. as86 m ≡ start86 keep) (Some tt)
    → WalksTo mid new s (24 * (10 * count)) (walk_behind w (10 * count) (as86 (machine_of mid r)) (after_label text (At first))) end → WalksTo old new s (240 * count + 32) (walk86 p text keep first count) end
walks_from p text keep first count w old mid new r s end ew begun walk =
    let few : 16 + 24 * (10 * count) ≤ 240 * count + 32 = omega arith in
    walks_more old new s (16 + 24 * (10 * count)) (240 * count + 32) (walk86 p text keep first count) end few
    (then_walks old mid new s 16 (24 * (10 * count)) (walk86 p text keep first count) end begun.grows
    (subst (λ x. WalksTo mid new s (24 * (10 * count)) x end) (ap₂ (λ v x. walk_behind v (10 * count) x (after_label text (At first))) ew begun.gives.is) walk))

-- no node was left for what a walk begins with
pub begin_missing : (old new : Contents) (r : Run) (P : Machine → Type 0) (t : Result Outcome Reason) (count : ℕ) → Runs old new r 16 0 P None → WalksTo old new r (240 * count + 32) t None
begin_missing old new r P t count begin = record {
  grows = more old new 16 (240 * count + 32) (omega arith) begin.grows;
  terms = begin.terms;
  capacity = begin.capacity;
  gives = begin.gives;
  enough = λ q. begin.enough (omega arith);
}

pub room_for_walk : (n count : ℕ) → n ≤ 0 → count ≤ 16 → n + 2 * (10 * count) ≤ 512
room_for_walk n count none few = omega arith
