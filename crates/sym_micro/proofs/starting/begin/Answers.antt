use Rattle.std.proofs.Common.{◌≡◌, None, subst, sym, arith, lit≤}
use Rattle.std.specs.Vec.{vec_capacity}
use Rattle.xlt_pool.specs.Contents.{Contents}
use Rattle.sym_terms.specs.Term.{Unknown}
use Rattle.sym_terms.specs.Trees.{Makes}
use Rattle.sym_terms.proofs.Interning.{more}
use Rattle.sym_block_def.specs.Symbolic86.{start86}
use Rattle.sym_micro.specs.declared.run.Run.{Run}
use Rattle.sym_micro.specs.Machine.{Machine, as86}
use Rattle.sym_micro.specs.Stands.{Runs}
use Rattle.sym_micro.proofs.Ready.{began}
use Rattle.sym_micro.proofs.starting.begin.Goals as goal

not_begun : (old new : Contents) (r : Run) (Here : Machine → Type 0) → vec_capacity r.actions ≡ 512 → Makes old new 1 Unknown None → Runs old new r 16 0 Here None
not_begun old new r Here capacity m = record {
  grows = more old new 1 16 (lit≤ tt) m.grows;
  terms = m.terms;
  capacity = capacity;
  gives = m.gives.full;
  enough = λ q. m.room (omega arith);
}

pub returns-in_err-unknown : goal.returns-in_err-unknown
returns-in_err-unknown c =
    let old = c.args.terms.now in
    let new = c.unknown.new.self in
    let r = c.args.run.now in
    let Here : Machine → Type 0 = λ m. as86 m ≡ start86 c.args.keep in
    subst (λ x. Runs old new r 16 0 Here x) (sym c.from_residual.ensures) (not_begun old new r Here c.requires c.in_err-unknown.ensures)

pub clear-requires : goal.clear-requires
clear-requires c = record { terms = c.in_ok-unknown.ensures.terms; unknown = c.in_ok-unknown.ensures.gives; capacity = c.requires }

pub start-requires : goal.start-requires
start-requires c = record { ready = c.clear.ensures.ready; machine = c.clear.ensures.machine }

pub returns : goal.returns
returns c =
    began c.args.terms.now c.unknown.new.self c.start.new.terms c.clear.new.run c.start.new.run 1 15 0
    (λ m. as86 m ≡ start86 c.args.keep)
    c.start.result c.in_ok-unknown.ensures.grows c.clear.ensures.empty c.start.ensures
