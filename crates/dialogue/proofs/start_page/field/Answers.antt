use Rattle.std.proofs.Common.{◌≡◌, ◌∙◌, ◌++◌, take, cond, sym, ap}
use Rattle.std.specs.Prelude.{replicate}
use Rattle.std.specs.List.{before_first, list_any}
use Rattle.dialogue.specs.StartPage.{is}
use Rattle.dialogue.proofs.Pages.{over-filled}
use Rattle.dialogue.proofs.start_page.field.Goals.{then-contains, else-contains}
use Rattle.dialogue.proofs.start_page.field.Goals as goal

pub returns : goal.returns
returns g c =
    let n = g.row.N in
    let part = c.args.part.now in
    let fill : c.if-contains.fill ≡ cond (list_any (is 0x2A) part) 0x3F 0x20 =
    elim c.if-contains.branch [
      | then-contains w ↦ w.fill-is ∙ sym (ap (λ b. cond b 0x3F 0x20) (sym c.contains.ensures.value ∙ w.if-contains.true))
      | else-contains w ↦ w.fill-is ∙ sym (ap (λ b. cond b 0x3F 0x20) (sym c.contains.ensures.value ∙ w.if-contains.false))
    ] in
    over-filled n c.min.result c.if-contains.fill c.split_once.result.0.now c.put.new.cells c.min.ensures c.put.ensures
    ∙ ap (λ xs. take n (xs ++ replicate n c.if-contains.fill)) c.split_once.ensures.before
    ∙ ap (λ x. take n (before_first (is 0x2A) part ++ replicate n x)) fill
