-- Ways and exits that are found one node after another.
use Rattle.std.proofs.Common.{◌≡◌, ◌∙◌, ℕ, ◌+◌, ◌≤◌, Bool, length, Option, Some, None, ap, ap₂, refl, subst, sym, arith}
use Rattle.xlt_pool.specs.Contents.{Contents}
use Rattle.sym_terms.specs.declared.head.Term.{Term as TermId}
use Rattle.sym_terms.specs.Term.{Term}
use Rattle.sym_terms.specs.Trees.{StandsFor, PoolGrows, Makes, AreTerms}
use Rattle.sym_terms.proofs.Interning.{still, more, then_grows}
use Rattle.sym_block_def.specs.Outcome.{Way, ByTerms, Exit, One, Two, Outcome}
use Rattle.sym_micro.specs.declared.outcome.Way.{Way as WayIds}
use Rattle.sym_micro.specs.declared.outcome.Way.TheVariants.{Goto as GotoIds, ByTerms as ByTermsIds, Call as CallIds, Sys as SysIds, SysReturn as SysReturnIds, Boot as BootIds, Leave as LeaveIds, In as InIds, Out as OutIds}
use Rattle.sym_micro.specs.declared.outcome.Exit.{Exit as ExitIds}
use Rattle.sym_micro.specs.declared.outcome.Exit.TheVariants.{One as OneIds, Two as TwoIds}
use Rattle.sym_micro.specs.declared.run.Run.{Run}
use Rattle.sym_micro.specs.Machine.{Machine}
use Rattle.sym_micro.specs.Stands.{machine_of, Runs}
use Rattle.sym_micro.specs.Exits.{WayIs, FindsWay, FindsExit, RunsTo}
use Rattle.sym_micro.proofs.Ready.{run_given, same_machine}

-- where a node is missing, so is the way
pub no_way : (old mid new : Contents) (j : ℕ) (tree : Term) (way : Way) → PoolGrows old mid j → j + 1 ≤ 3 → Makes mid new 1 tree None → FindsWay old new 3 way None
no_way old mid new j tree way g few m = record {
  grows = more old new (j + 1) 3 few (then_grows old mid new j 1 g m.grows);
  terms = m.terms;
  gives = m.gives.full;
  enough = λ h.
      let added : length g.added ≤ j = g.few in
      let spare : mid.spare + length g.added ≡ old.spare = g.spare in
      m.room (omega arith);
}

pub way_of_terms : (old new : Contents) (n : ℕ) (h l : TermId) (x y : Term) → PoolGrows old new n → AreTerms new → StandsFor new h x → StandsFor new l y → FindsWay old new n (ByTerms x y) (Some (ByTermsIds h l))
way_of_terms old new n h l x y g terms p q = record {
  grows = g;
  terms = terms;
  gives = record { given = (p.0, q.0); is = ap₂ ByTerms p.1 q.1 };
  enough = λ _. refl;
}

-- a way that is given stays what it is
pub way_still : (old new : Contents) (n : ℕ) (way : WayIds) (tree : Way) → PoolGrows old new n → WayIs old tree way → WayIs new tree way
way_still old new n (ByTermsIds h l) tree g w =
    let p = g.kept h w.given.0 in
    let q = g.kept l w.given.1 in
    record { given = (p.0, q.0); is = ap₂ ByTerms p.1 q.1 ∙ w.is }
way_still old new n (GotoIds q) tree g w = record { given = tt; is = w.is }
way_still old new n (CallIds q back) tree g w = record { given = tt; is = w.is }
way_still old new n (SysIds back) tree g w = record { given = tt; is = w.is }
way_still old new n SysReturnIds tree g w = record { given = tt; is = w.is }
way_still old new n BootIds tree g w = record { given = tt; is = w.is }
way_still old new n LeaveIds tree g w = record { given = tt; is = w.is }
way_still old new n (InIds port next) tree g w = record { given = tt; is = w.is }
way_still old new n (OutIds port next) tree g w = record { given = tt; is = w.is }

-- exits of ways that are there

pub one_exit : (pool : Contents) (n : ℕ) (tree : Way) (way : WayIds) → AreTerms pool → WayIs pool tree way → FindsExit pool pool n (One tree) (Some (OneIds way))
one_exit pool n tree way terms w = record {
  grows = more pool pool 0 n (omega arith) (still pool);
  terms = terms;
  gives = record { given = w.given; is = ap One w.is };
  enough = λ _. refl;
}

pub two_exit : (old new : Contents) (n : ℕ) (f : TermId) (x : Term) (value : Bool) (a b : WayIds) (v w : Way) → PoolGrows old new n → AreTerms new → StandsFor new f x → WayIs new v a → WayIs new w b → FindsExit old new n (Two x value v w) (Some (TwoIds f value a b))
two_exit old new n f x value a b v w g terms p q r = record {
  grows = g;
  terms = terms;
  gives = record { given = (p.0, q.given, r.given); is = λ i. Two (p.1 i) value (q.is i) (r.is i) };
  enough = λ _. refl;
}

-- by an id that is known to be that of a flag, and a value that is the one that is wanted
pub two_by : (old new : Contents) (n : ℕ) (f k : TermId) (x : Term) (value wanted : Bool) (a b : WayIds) (v w : Way) → PoolGrows old new n → AreTerms new → StandsFor old k x → f ≡ k → value ≡ wanted → WayIs new v a → WayIs new w b → FindsExit old new n (Two x wanted v w) (Some (TwoIds f value a b))
two_by old new n f k x value wanted a b v w g terms s ef ev p q =
    let kept = g.kept k s.0 in
    subst (λ (i : TermId). FindsExit old new n (Two x wanted v w) (Some (TwoIds i value a b))) (sym ef)
    (subst (λ (i : Bool). FindsExit old new n (Two x wanted v w) (Some (TwoIds k i a b))) (sym ev)
    (two_exit old new n k x wanted a b v w g terms (kept.0, kept.1 ∙ s.1) p q))

-- where the way is missing, so is the exit
pub no_exit : (old new : Contents) (n : ℕ) (tree : Way) (exit : Exit) → FindsWay old new n tree None → FindsExit old new n exit None
no_exit old new n tree exit w = record { grows = w.grows; terms = w.terms; gives = w.gives; enough = w.enough }

pub exit_of_way : (old new : Contents) (n : ℕ) (tree : Way) (way : WayIds) → FindsWay old new n tree (Some way) → FindsExit old new n (One tree) (Some (OneIds way))
exit_of_way old new n tree way w = record { grows = w.grows; terms = w.terms; gives = record { given = w.gives.given; is = ap One w.gives.is }; enough = λ _. refl }

-- a run that comes to its exit

no_end : (old mid new : Contents) (r : Run) (j k a : ℕ) (P : Machine → Type 0) (direct : Bool) (x : Outcome) (exit : Exit) → Runs old mid r j a P (Some tt) → FindsExit mid new k exit None → RunsTo old new r (j + k) direct x None
no_end old mid new r j k a P direct x exit g w = record {
  grows = then_grows old mid new j k g.grows w.grows;
  terms = w.terms;
  capacity = g.capacity;
  gives = w.gives;
  enough = λ q.
      let few : length g.grows.added ≤ j = g.grows.few in
      let spare : mid.spare + length g.grows.added ≡ old.spare = g.grows.spare in
      w.enough (omega arith);
}

pub never_ends : (old new : Contents) (r : Run) (j k a : ℕ) (P : Machine → Type 0) (direct : Bool) (x : Outcome) → j ≤ k → Runs old new r j a P None → RunsTo old new r k direct x None
never_ends old new r j k a P direct x le g = record {
  grows = more old new j k le g.grows;
  terms = g.terms;
  capacity = g.capacity;
  gives = g.gives;
  enough = λ q. g.enough (omega arith);
}

pub ends_by : (old mid new : Contents) (r : Run) (j k a : ℕ) (P : Machine → Type 0) (direct : Bool) (x : Outcome) (found : Option ExitIds) → Runs old mid r j a P (Some tt) → FindsExit mid new k x.exit found → (machine_of mid r).held ≡ x.held → (machine_of mid r).sp ≡ x.sp → (machine_of mid r).trace.actions ≡ x.actions → direct ≡ x.direct → RunsTo old new r (j + k) direct x found
ends_by old mid new r j k a P direct x None g w held sp actions d = no_end old mid new r j k a P direct x x.exit g w
ends_by old mid new r j k a P direct x (Some e) g w held sp actions d = record {
  grows = then_grows old mid new j k g.grows w.grows;
  terms = w.terms;
  capacity = g.capacity;
  gives =
      let given = run_given mid new k w.grows r g.gives.ready.given in
      let same = same_machine mid new k w.grows r g.gives.ready.given in
      record {
        held_given = given.held;
        held = ap (λ (m : Machine). m.held) same ∙ held;
        sp_given = given.sp;
        sp = ap (λ (m : Machine). m.sp) same ∙ sp;
        actions_given = given.actions;
        actions = ap (λ (m : Machine). m.trace.actions) same ∙ actions;
        exit = w.gives;
        direct = d;
      };
  enough = λ _. refl;
}

pub ends_as : (old new : Contents) (r : Run) (j k : ℕ) (direct : Bool) (x : Outcome) (found : Option ExitIds) → j ≤ k → RunsTo old new r j direct x found → RunsTo old new r k direct x found
ends_as old new r j k direct x found le g = record {
  grows = more old new j k le g.grows;
  terms = g.terms;
  capacity = g.capacity;
  gives = g.gives;
  enough = λ q. g.enough (omega arith);
}
