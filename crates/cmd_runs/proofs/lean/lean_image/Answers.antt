use Rattle.std.proofs.Common.{sym, subst}
use Rattle.std.proofs.lemmas.Result.{IfOk-weaker, IfErr-weaker}
use Rattle.i86.specs.Decode.{HasReader}
use Rattle.asm86_line_types.specs.Image.{Image, Assembles, IsImage}
use Rattle.templates_law.specs.Names.{Same}
use Rattle.templates.specs.declared.translation.Mode.TheVariants.{Lean}
use Rattle.cmd_runs.specs.BothLoads.{HasLean, LeanStops, no_room}
use Rattle.cmd_runs.proofs.lean.lean_image.Goals as goal

pub image_of-requires-clause-assembles : goal.image_of-requires-clause-assembles
image_of-requires-clause-assembles c =
    let l = c.in_ok-lines in
    subst Assembles (sym c.as_slice.ensures.value) (c.own_texts_are_same.ensures.assembles Lean c.args.program.now l.lines.items c.requires l.ensures.text l.ensures.fits)

pub returns-clause-lean : goal.returns-clause-lean
returns-clause-lean c =
    let p = c.args.program.now in
    let l = c.in_ok-lines in
    let law = c.own_texts_are_same.ensures in
    let has : (image : Image) → IsImage c.as_slice.result.now image → HasLean p image = λ image made.
    let is : IsImage l.lines.items image = subst (λ lines. IsImage lines image) c.as_slice.ensures.value made in
    record {
      lines = l.lines.items;
      text = l.ensures.text;
      fits = l.ensures.fits;
      assembled = is;
      reader = subst (λ (i : Image). HasReader i.code) (sym is.is) (law.reader Lean p l.lines.items c.requires l.ensures.text l.ensures.fits);
      same = subst (Same p) (sym is.is) (law.same Lean p l.lines.items c.requires l.ensures.text l.ensures.fits);
    } in
    IfOk-weaker c.image_of.result _ _ has c.image_of.ensures.image

pub returns-clause-stopped : goal.returns-clause-stopped
returns-clause-stopped c = IfErr-weaker c.image_of.result _ _ (λ stop is. subst (LeanStops c.args.program.now) (sym is) no_room) c.image_of.ensures.memory
