-- Each register of a slot, written out, which saves a long search.
use Rattle.std.proofs.Common.{◌≡◌, ◌∙◌, ap, sym}
use Rattle.sym_terms.specs.declared.head.Term.{Term as TermId}
use Rattle.sym_micro.specs.declared.micro.ByteSlot.{ByteSlot}
use Rattle.sym_micro.specs.declared.micro.ByteSlot.TheVariants.{Of80, Of86}
use Rattle.sym_micro.specs.declared.run.Run.{Run}
use Rattle.sym_micro.specs.Stands.{run_with_byte}
use Rattle.sym_micro.proofs.run.Run.set_byte.Goals as goal

at_slot : {slot arm : ByteSlot} (r : Run) (t : TermId) → slot ≡ arm → run_with_byte r arm t ≡ run_with_byte r slot t
at_slot r t is = ap (λ s. run_with_byte r s t) (sym is)

pub returns-in-A : goal.returns-in-A
returns-in-A c = at_slot c.args.self.now c.args.term (c.in-Of80.is ∙ ap Of80 c.in-A.is)

pub returns-in-B : goal.returns-in-B
returns-in-B c = at_slot c.args.self.now c.args.term (c.in-Of80.is ∙ ap Of80 c.in-B.is)

pub returns-in-C : goal.returns-in-C
returns-in-C c = at_slot c.args.self.now c.args.term (c.in-Of80.is ∙ ap Of80 c.in-C.is)

pub returns-in-D : goal.returns-in-D
returns-in-D c = at_slot c.args.self.now c.args.term (c.in-Of80.is ∙ ap Of80 c.in-D.is)

pub returns-in-E : goal.returns-in-E
returns-in-E c = at_slot c.args.self.now c.args.term (c.in-Of80.is ∙ ap Of80 c.in-E.is)

pub returns-in-H : goal.returns-in-H
returns-in-H c = at_slot c.args.self.now c.args.term (c.in-Of80.is ∙ ap Of80 c.in-H.is)

pub returns-in-L : goal.returns-in-L
returns-in-L c = at_slot c.args.self.now c.args.term (c.in-Of80.is ∙ ap Of80 c.in-L.is)

pub returns-in-Al : goal.returns-in-Al
returns-in-Al c = at_slot c.args.self.now c.args.term (c.in-Of86.is ∙ ap Of86 c.in-Al.is)

pub returns-in-Cl : goal.returns-in-Cl
returns-in-Cl c = at_slot c.args.self.now c.args.term (c.in-Of86.is ∙ ap Of86 c.in-Cl.is)

pub returns-in-Dl : goal.returns-in-Dl
returns-in-Dl c = at_slot c.args.self.now c.args.term (c.in-Of86.is ∙ ap Of86 c.in-Dl.is)

pub returns-in-Bl : goal.returns-in-Bl
returns-in-Bl c = at_slot c.args.self.now c.args.term (c.in-Of86.is ∙ ap Of86 c.in-Bl.is)

pub returns-in-Ah : goal.returns-in-Ah
returns-in-Ah c = at_slot c.args.self.now c.args.term (c.in-Of86.is ∙ ap Of86 c.in-Ah.is)

pub returns-in-Ch : goal.returns-in-Ch
returns-in-Ch c = at_slot c.args.self.now c.args.term (c.in-Of86.is ∙ ap Of86 c.in-Ch.is)

pub returns-in-Dh : goal.returns-in-Dh
returns-in-Dh c = at_slot c.args.self.now c.args.term (c.in-Of86.is ∙ ap Of86 c.in-Dh.is)

pub returns-in-Bh : goal.returns-in-Bh
returns-in-Bh c = at_slot c.args.self.now c.args.term (c.in-Of86.is ∙ ap Of86 c.in-Bh.is)

pub returns-in-T : goal.returns-in-T
returns-in-T c = at_slot c.args.self.now c.args.term c.in-T.is

pub returns-in-U : goal.returns-in-U
returns-in-U c = at_slot c.args.self.now c.args.term c.in-U.is
