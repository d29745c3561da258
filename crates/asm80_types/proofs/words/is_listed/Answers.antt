use Rattle.std.proofs.Common.{◌≡◌, ◌∙◌, ℕ, List, Option, Bor, Some, sym, ap, refl}
use Rattle.std.specs.Prelude.{option_copied, slice_get}
use Rattle.std.proofs.lemmas.Option.{slice_get_read, slice_get_past}
use Rattle.asm80_types.specs.Words.{is_among}
use Rattle.asm80_types.proofs.Listed.{at_first, by_letter, of_none}
use Rattle.asm80_types.proofs.words.is_listed.Goals as goal

pub returns-in-Some-get : goal.returns-in-Some-get
returns-in-Some-get c = λ words e.
    let found : slice_get c.args.lists.now c.saturating_sub.result ≡ Some c.in-Some-get.words.now = slice_get_read c.args.lists.now _ c.saturating_sub.result c.in-Some-get.words.now refl c.in-Some-get.ensures.lookup.3.0 c.in-Some-get.ensures.lookup.1 in
    c.is_among.ensures ∙ ap (λ (o : Option (Bor (List (Bor (List ℕ))))). is_among o c.args.name.now) (sym found)
    ∙ at_first c.args.lists.now c.args.name.now c.in-Some.letter.now c.saturating_sub.result (sym c.first.ensures.value ∙ ap option_copied c.in-Some.is) c.saturating_sub.ensures
    ∙ by_letter c.args.lists.now words c.args.name.now e

pub returns-in-None : goal.returns-in-None
returns-in-None c = λ words e.
    ap (λ (o : Option (Bor (List (Bor (List ℕ))))). is_among o c.args.name.now) (sym (slice_get_past c.args.lists.now c.saturating_sub.result c.in-None.ensures.lookup.3))
    ∙ at_first c.args.lists.now c.args.name.now c.in-Some.letter.now c.saturating_sub.result (sym c.first.ensures.value ∙ ap option_copied c.in-Some.is) c.saturating_sub.ensures
    ∙ by_letter c.args.lists.now words c.args.name.now e

pub returns-in_default : goal.returns-in_default
returns-in_default c = λ words e.
    of_none c.args.lists.now c.args.name.now (sym c.first.ensures.value ∙ ap option_copied c.in_default.is)
    ∙ by_letter c.args.lists.now words c.args.name.now e
