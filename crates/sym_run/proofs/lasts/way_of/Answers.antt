use Rattle.std.proofs.Common.{◌≡◌, refl, sym, subst, lit≤}
use Rattle.sym_terms.proofs.Interning.{still, more}
use Rattle.sym_block_def.specs.Walk86.{return_way}
use Rattle.sym_micro.specs.Machine.{as86}
use Rattle.sym_micro.specs.Stands.{machine_of}
use Rattle.sym_micro.specs.Exits.{FindsWay}
use Rattle.sym_micro.proofs.Ready.{ready_still}
use Rattle.sym_run.specs.declared.lasts.Last.{Last}
use Rattle.sym_run.specs.Ends.{LastIs}
use Rattle.sym_run.proofs.lasts.way_of.Goals as goal

pub returns-in-Known-clause-finds : goal.returns-in-Known-clause-finds
returns-in-Known-clause-finds c =
    let old = c.args.terms.now in
    let s = as86 (machine_of old c.args.run.now) in
    λ tree h. record {
      grows = more old old 0 3 (lit≤ tt) (still old);
      terms = c.requires.terms;
      gives = let is : LastIs s tree (Last.Known c.in-Known.way) = subst (λ (x : Last). LastIs s tree x) c.in-Known.is h in is old;
      enough = λ _. refl;
    }

pub returns-in-Return-clause-ready : goal.returns-in-Return-clause-ready
returns-in-Return-clause-ready c = ready_still c.args.terms.now c.return_way.new.terms 3 c.return_way.ensures.grows c.args.run.now c.return_way.ensures.terms c.requires

pub returns-in-Return-clause-finds : goal.returns-in-Return-clause-finds
returns-in-Return-clause-finds c =
    let old = c.args.terms.now in
    let s = as86 (machine_of old c.args.run.now) in
    λ tree h.
    let is : tree ≡ return_way s = subst (λ (x : Last). LastIs s tree x) c.in-Return.is h in
    subst (λ t. FindsWay old c.return_way.new.terms 3 t c.return_way.result) (sym is) c.return_way.ensures
