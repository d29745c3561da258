-- An outcome that stands for one stands for it still, where terms join.
use Rattle.std.proofs.Common.{◌≡◌, ◌∙◌, ℕ, ◌+◌, length, ap, refl, arith, length-append}
use Rattle.xlt_pool.specs.Contents.{Contents}
use Rattle.sym_terms.specs.Trees.{PoolGrows}
use Rattle.sym_block_def.specs.Outcome.{Exit, One, Two, Outcome}
use Rattle.sym_micro.specs.declared.outcome.Held.{Held as HeldIds}
use Rattle.sym_micro.specs.declared.outcome.Way.{Way as WayIds}
use Rattle.sym_micro.specs.declared.outcome.Exit.{Exit as ExitIds}
use Rattle.sym_micro.specs.declared.outcome.Exit.TheVariants.{One as OneIds, Two as TwoIds}
use Rattle.sym_micro.specs.Stands.{trees_of_held, HeldIsGiven}
use Rattle.sym_micro.specs.Exits.{tree_of_way, WayIsGiven, WayIs, ExitIs}
use Rattle.sym_micro.proofs.Ready.{actions_given, same_actions}
use Rattle.sym_micro.proofs.Found.{way_still}
use Rattle.sym_run.specs.Outcomes.{OutcomeIds, OutcomeStands}

module _ (old new : Contents) (n : ℕ) (g : PoolGrows old new n) where
  held_still : (x : HeldIds) → HeldIsGiven old x → HeldIsGiven new x
  held_still x h = record {
    a = (g.kept x.a h.a).0;
    b = (g.kept x.b h.b).0;
    c = (g.kept x.c h.c).0;
    d = (g.kept x.d h.d).0;
    e = (g.kept x.e h.e).0;
    h = (g.kept x.h h.h).0;
    l = (g.kept x.l h.l).0;
    s = (g.kept x.s h.s).0;
    z = (g.kept x.z h.z).0;
    ac = (g.kept x.ac h.ac).0;
    p = (g.kept x.p h.p).0;
    cy = (g.kept x.cy h.cy).0;
  }

  held_same : (x : HeldIds) → HeldIsGiven old x → trees_of_held new x ≡ trees_of_held old x
  held_same x h = λ i. record {
    a = (g.kept x.a h.a).1 i;
    b = (g.kept x.b h.b).1 i;
    c = (g.kept x.c h.c).1 i;
    d = (g.kept x.d h.d).1 i;
    e = (g.kept x.e h.e).1 i;
    h = (g.kept x.h h.h).1 i;
    l = (g.kept x.l h.l).1 i;
    s = (g.kept x.s h.s).1 i;
    z = (g.kept x.z h.z).1 i;
    ac = (g.kept x.ac h.ac).1 i;
    p = (g.kept x.p h.p).1 i;
    cy = (g.kept x.cy h.cy).1 i;
  }

  way_kept : (w : WayIds) → WayIsGiven old w → WayIs new (tree_of_way old w) w
  way_kept w h = way_still old new n w (tree_of_way old w) g (record { given = h; is = refl })

  exit_still : (e : ExitIds) (x : Exit) → ExitIs old x e → ExitIs new x e
  exit_still (OneIds w) x h = let k = way_kept w h.given in record { given = k.given; is = ap One k.is ∙ h.is }
  exit_still (TwoIds f value a b) x h =
      let flag = g.kept f h.given.0 in
      let first = way_kept a h.given.1 in
      let second = way_kept b h.given.2 in
      record { given = (flag.0, first.given, second.given); is = (λ i. Two (flag.1 i) value (first.is i) (second.is i)) ∙ h.is }

  pub stands_still : (ids : OutcomeIds) (x : Outcome) → OutcomeStands old ids x → OutcomeStands new ids x
  stands_still ids x h =
      let sp = g.kept ids.sp h.sp_given in
      record {
        held_given = held_still ids.held h.held_given;
        held = held_same ids.held h.held_given ∙ h.held;
        sp_given = sp.0;
        sp = sp.1 ∙ h.sp;
        actions_given = actions_given old new n g ids.actions h.actions_given;
        actions = same_actions old new n g ids.actions h.actions_given ∙ h.actions;
        exit = exit_still ids.exit x.exit h.exit;
        direct = h.direct;
      }

-- a pool keeps its room: what nodes it has with those that can still join
pub whole_still : (old new : Contents) (n : ℕ) → PoolGrows old new n → old.spare + length old.nodes ≡ 8192 → new.spare + length new.nodes ≡ 8192
whole_still old new n g whole =
    let nodes : length new.nodes ≡ length old.nodes + length g.added = ap length g.nodes ∙ length-append old.nodes g.added in
    let spare : new.spare + length g.added ≡ old.spare = g.spare in
    omega arith
