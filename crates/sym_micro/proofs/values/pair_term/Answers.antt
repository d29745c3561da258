-- What each arm calls ensures it of the arm's pair, which saves a long search.
use Rattle.std.proofs.Common.{◌≡◌, ap, refl, sym, Option, Some}
use Rattle.i80.specs.declared.Pair.{Pair}
use Rattle.sym_terms.specs.declared.head.Term.{Term as TermId}
use Rattle.sym_terms.specs.Trees.{Makes}
use Rattle.xlt_pool.specs.Contents.{Contents}
use Rattle.sym_micro.specs.declared.micro.Wide.TheVariants.{Of80 as Wide80}
use Rattle.sym_micro.specs.declared.run.Run.{Run}
use Rattle.sym_micro.specs.Machine.{wide_in}
use Rattle.sym_micro.specs.Stands.{machine_of}
use Rattle.sym_micro.proofs.Ready.{made_already, makes_same}
use Rattle.sym_micro.proofs.values.pair_term.Goals as goal

of_arm : {pair arm : Pair} (old new : Contents) (r : Run) (made : Option TermId) → pair ≡ arm → Makes old new 1 (wide_in (machine_of old r) (Wide80 arm)) made → Makes old new 1 (wide_in (machine_of old r) (Wide80 pair)) made
of_arm old new r made is h = makes_same old new _ _ made (ap (λ q. wide_in (machine_of old r) (Wide80 q)) (sym is)) h

pub join-requires : goal.join-requires
join-requires c =
    let given = c.requires.given.held in
    let sorted = c.requires.sorted.held in
    record { high = record { given = given.b; of_sort = sorted.b.1 }; low = record { given = given.c; of_sort = sorted.c.1 } }

pub returns-in-B : goal.returns-in-B
returns-in-B c = of_arm c.args.terms.now c.join.new.self c.args.run.now c.join.result c.in-B.is c.join.ensures

pub join-requires-in-D : goal.join-requires-in-D
join-requires-in-D c =
    let given = c.requires.given.held in
    let sorted = c.requires.sorted.held in
    record { high = record { given = given.d; of_sort = sorted.d.1 }; low = record { given = given.e; of_sort = sorted.e.1 } }

pub returns-in-D : goal.returns-in-D
returns-in-D c = of_arm c.args.terms.now c.join-in-D.new.self c.args.run.now c.join-in-D.result c.in-D.is c.join-in-D.ensures

pub join-requires-in-H : goal.join-requires-in-H
join-requires-in-H c =
    let given = c.requires.given.held in
    let sorted = c.requires.sorted.held in
    record { high = record { given = given.h; of_sort = sorted.h.1 }; low = record { given = given.l; of_sort = sorted.l.1 } }

pub returns-in-H : goal.returns-in-H
returns-in-H c = of_arm c.args.terms.now c.join-in-H.new.self c.args.run.now c.join-in-H.result c.in-H.is c.join-in-H.ensures

pub returns-in-Sp : goal.returns-in-Sp
returns-in-Sp c =
    let old = c.args.terms.now in
    let r = c.args.run.now in
    of_arm old old r (Some r.sp) c.in-Sp.is (made_already old _ r.sp c.requires.terms c.requires.given.sp refl)
