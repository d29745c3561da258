-- What each arm calls ensures it of the arm's registers, which saves a long search.
use Rattle.std.proofs.Common.{◌≡◌, ◌∙◌, ap, subst, sym, Option, Some}
use Rattle.xlt_pool.specs.Contents.{Contents}
use Rattle.sym_micro.specs.declared.micro.Wide.{Wide}
use Rattle.sym_micro.specs.declared.micro.Wide.TheVariants.{Of86 as Wide86}
use Rattle.sym_micro.specs.declared.micro.WordSlot.{WordSlot}
use Rattle.sym_micro.specs.declared.run.Run.{Run}
use Rattle.sym_micro.specs.Machine.{with_wide, word_in}
use Rattle.sym_micro.specs.Stands.{machine_of, GoesOn}
use Rattle.sym_micro.proofs.Ready.{si_moved}
use Rattle.sym_micro.proofs.performing.put.Goals as goal

of_arm : {wide arm : Wide} (old new : Contents) (r s : Run) (from : WordSlot) (made : Option (Unit {0})) → wide ≡ arm → GoesOn old new r s 2 0 (λ m. m ≡ with_wide (machine_of old r) arm (word_in (machine_of old r) from)) made → GoesOn old new r s 2 0 (λ m. m ≡ with_wide (machine_of old r) wide (word_in (machine_of old r) from)) made
of_arm old new r s from made is h = subst (λ (w : Wide). GoesOn old new r s 2 0 (λ m. m ≡ with_wide (machine_of old r) w (word_in (machine_of old r) from)) made) (sym is) h

pub returns-in-Of80 : goal.returns-in-Of80
returns-in-Of80 c = of_arm c.args.terms.now c.put_pair.new.terms c.args.run.now c.put_pair.new.run c.args.from c.put_pair.result c.in-Of80.is c.put_pair.ensures

pub returns-in-Ax : goal.returns-in-Ax
returns-in-Ax c =
    of_arm c.args.terms.now c.put_halves.new.terms c.args.run.now c.put_halves.new.run c.args.from c.put_halves.result (c.in-Of86.is ∙ ap Wide86 c.in-Ax.is) c.put_halves.ensures

pub returns-in-Cx : goal.returns-in-Cx
returns-in-Cx c =
    of_arm c.args.terms.now c.put_pair-in-Cx.new.terms c.args.run.now c.put_pair-in-Cx.new.run c.args.from c.put_pair-in-Cx.result (c.in-Of86.is ∙ ap Wide86 c.in-Cx.is) c.put_pair-in-Cx.ensures

pub returns-in-Dx : goal.returns-in-Dx
returns-in-Dx c =
    of_arm c.args.terms.now c.put_pair-in-Dx.new.terms c.args.run.now c.put_pair-in-Dx.new.run c.args.from c.put_pair-in-Dx.result (c.in-Of86.is ∙ ap Wide86 c.in-Dx.is) c.put_pair-in-Dx.ensures

pub returns-in-Bx : goal.returns-in-Bx
returns-in-Bx c =
    of_arm c.args.terms.now c.put_pair-in-Bx.new.terms c.args.run.now c.put_pair-in-Bx.new.run c.args.from c.put_pair-in-Bx.result (c.in-Of86.is ∙ ap Wide86 c.in-Bx.is) c.put_pair-in-Bx.ensures

pub returns-in-Sp : goal.returns-in-Sp
returns-in-Sp c =
    of_arm c.args.terms.now c.put_pair-in-Sp.new.terms c.args.run.now c.put_pair-in-Sp.new.run c.args.from c.put_pair-in-Sp.result (c.in-Of86.is ∙ ap Wide86 c.in-Sp.is) c.put_pair-in-Sp.ensures

pub returns-in-Si : goal.returns-in-Si
returns-in-Si c =
    let old = c.args.terms.now in
    let r = c.args.run.now in
    of_arm old old r (record r { si = c.word-run.result }) c.args.from (Some tt) (c.in-Of86.is ∙ ap Wide86 c.in-Si.is) (si_moved old r c.args.from c.word-run.result c.requires c.word-run.ensures)
