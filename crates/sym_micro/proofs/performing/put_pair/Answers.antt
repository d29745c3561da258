-- What each arm calls ensures it of the arm's registers, which saves a long search.
use Rattle.std.proofs.Common.{◌≡◌, subst, sym, Some}
use Rattle.i80.specs.declared.Pair.{Pair}
use Rattle.sym_micro.specs.declared.micro.Wide.TheVariants.{Of80 as Wide80}
use Rattle.sym_micro.specs.Machine.{with_wide, word_in}
use Rattle.sym_micro.specs.Stands.{machine_of, GoesOn}
use Rattle.sym_micro.proofs.Ready.{sp_moved}
use Rattle.sym_micro.proofs.performing.put_pair.Goals as goal

pub returns-in-B : goal.returns-in-B
returns-in-B c =
    subst (λ (pair : Pair). GoesOn c.args.terms.now c.put_halves.new.terms c.args.run.now c.put_halves.new.run 2 0 (λ m. m ≡ with_wide (machine_of c.args.terms.now c.args.run.now) (Wide80 pair) (word_in (machine_of c.args.terms.now c.args.run.now) c.args.from)) c.put_halves.result)
    (sym c.in-B.is) c.put_halves.ensures

pub returns-in-D : goal.returns-in-D
returns-in-D c =
    subst (λ (pair : Pair). GoesOn c.args.terms.now c.put_halves-in-D.new.terms c.args.run.now c.put_halves-in-D.new.run 2 0 (λ m. m ≡ with_wide (machine_of c.args.terms.now c.args.run.now) (Wide80 pair) (word_in (machine_of c.args.terms.now c.args.run.now) c.args.from)) c.put_halves-in-D.result)
    (sym c.in-D.is) c.put_halves-in-D.ensures

pub returns-in-H : goal.returns-in-H
returns-in-H c =
    subst (λ (pair : Pair). GoesOn c.args.terms.now c.put_halves-in-H.new.terms c.args.run.now c.put_halves-in-H.new.run 2 0 (λ m. m ≡ with_wide (machine_of c.args.terms.now c.args.run.now) (Wide80 pair) (word_in (machine_of c.args.terms.now c.args.run.now) c.args.from)) c.put_halves-in-H.result)
    (sym c.in-H.is) c.put_halves-in-H.ensures

pub returns-in-Sp : goal.returns-in-Sp
returns-in-Sp c =
    let old = c.args.terms.now in
    let r = c.args.run.now in
    subst (λ (pair : Pair). GoesOn old old r (record r { sp = c.word-run.result }) 2 0 (λ m. m ≡ with_wide (machine_of old r) (Wide80 pair) (word_in (machine_of old r) c.args.from)) (Some tt)) (sym c.in-Sp.is)
    (sp_moved old r c.args.from c.word-run.result c.requires c.word-run.ensures)
