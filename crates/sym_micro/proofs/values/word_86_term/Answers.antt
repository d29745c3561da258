-- What each arm calls ensures it of the arm's register, which saves a long search.
use Rattle.std.proofs.Common.{◌≡◌, ap, refl, sym, Option, Some}
use Rattle.i86.specs.declared.Reg16.{Reg16}
use Rattle.sym_terms.specs.declared.head.Term.{Term as TermId}
use Rattle.sym_terms.specs.Trees.{Makes}
use Rattle.xlt_pool.specs.Contents.{Contents}
use Rattle.sym_micro.specs.declared.micro.Wide.TheVariants.{Of86 as Wide86}
use Rattle.sym_micro.specs.declared.run.Run.{Run}
use Rattle.sym_micro.specs.Machine.{wide_in}
use Rattle.sym_micro.specs.Stands.{machine_of}
use Rattle.sym_micro.proofs.Ready.{made_already, makes_same}
use Rattle.sym_micro.proofs.values.word_86_term.Goals as goal

of_arm : {reg arm : Reg16} (old new : Contents) (r : Run) (made : Option TermId) → reg ≡ arm → Makes old new 1 (wide_in (machine_of old r) (Wide86 arm)) made → Makes old new 1 (wide_in (machine_of old r) (Wide86 reg)) made
of_arm old new r made is h = makes_same old new _ _ made (ap (λ q. wide_in (machine_of old r) (Wide86 q)) (sym is)) h

pub join-requires : goal.join-requires
join-requires c =
    let given = c.requires.given in
    let sorted = c.requires.sorted in
    record { high = record { given = given.ah; of_sort = sorted.ah.1 }; low = record { given = given.held.a; of_sort = sorted.held.a.1 } }

pub returns-in-Ax : goal.returns-in-Ax
returns-in-Ax c = of_arm c.args.terms.now c.join.new.self c.args.run.now c.join.result c.in-Ax.is c.join.ensures

pub returns-in-Cx : goal.returns-in-Cx
returns-in-Cx c = of_arm c.args.terms.now c.pair_term.new.terms c.args.run.now c.pair_term.result c.in-Cx.is c.pair_term.ensures

pub returns-in-Dx : goal.returns-in-Dx
returns-in-Dx c = of_arm c.args.terms.now c.pair_term-in-Dx.new.terms c.args.run.now c.pair_term-in-Dx.result c.in-Dx.is c.pair_term-in-Dx.ensures

pub returns-in-Bx : goal.returns-in-Bx
returns-in-Bx c = of_arm c.args.terms.now c.pair_term-in-Bx.new.terms c.args.run.now c.pair_term-in-Bx.result c.in-Bx.is c.pair_term-in-Bx.ensures

pub returns-in-Sp : goal.returns-in-Sp
returns-in-Sp c = of_arm c.args.terms.now c.pair_term-in-Sp.new.terms c.args.run.now c.pair_term-in-Sp.result c.in-Sp.is c.pair_term-in-Sp.ensures

pub returns-in-Si : goal.returns-in-Si
returns-in-Si c =
    let old = c.args.terms.now in
    let r = c.args.run.now in
    of_arm old old r (Some r.si) c.in-Si.is (made_already old _ r.si c.requires.terms c.requires.given.si refl)
