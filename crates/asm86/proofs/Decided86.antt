-- Each ASM-86 text has an image, or a line of it breaks a rule, or its image does.
use Rattle.std.proofs.Common.{◌≡◌, ℕ, List, Result, Ok, Err, true, refl, sym, ap, ◌∙◌}
use Rattle.asm86_line_types.specs.declared.line.Line86.{Line86}
use Rattle.asm86_line_types.specs.declared.line.TextRule.{TextRule}
use Rattle.asm86_line_types.specs.Image.{Image, statements}
use Rattle.asm86_line_types.specs.Order.{at_start, in_order}
use Rattle.asm86.specs.Stream.{are_in_order, Ending, Open, Ended, Broken, TextLinesGive, none_left, next, ends, breaks, outcome_of_text, TextGives}
use Rattle.asm86.specs.declared.fault.ImageFault.{ImageFault}
use Rattle.asm86.specs.declared.fault.ImageFault.TheVariants.{Line}
use Rattle.asm86.specs.Images.{HasImage, IsNoImage, unread, refused}
use Rattle.asm86.proofs.Texts86.{is_read}
use Rattle.asm86.proofs.HavingImages.{never_neither}

found_in_order : {n : ℕ} {xs found : List Line86} {lines : List (List ℕ)} {e : Ending} → TextLinesGive n xs lines found e → e ≡ Ended → are_in_order found ≡ true
found_in_order none_left e = absurd cc
found_in_order (next a open_yet more) e = found_in_order more e
found_in_order (ends a ended) e = a.in_order
found_in_order (breaks b) e = absurd cc

is_ended : (lines found : List Line86) (e : Ending) → Ok lines ≡ outcome_of_text found e → (e ≡ Ended) × (found ≡ lines)
is_ended lines found Open h = absurd cc
is_ended lines found Ended h = (refl, cc)
is_ended lines found (Broken n rule) h = absurd cc

lines_in_order : (text : List ℕ) (lines : List Line86) → TextGives text (Ok lines) → in_order at_start (statements lines) ≡ true
lines_in_order text lines g =
    let h = is_ended lines g.found g.ending g.is in
    ap are_in_order (sym h.1) ∙ found_in_order g.lines h.0

by_outcome : (text : List ℕ) → ((image : Image) → HasImage text image → ⊥) → ((fault : ImageFault) → IsNoImage text fault → ⊥) → (outcome : Result (List Line86) (ℕ × TextRule)) → TextGives text outcome → ⊥
by_outcome text no_image no_fault (Ok lines) g =
    never_neither lines (lines_in_order text lines g) (λ image a. no_image image (record { lines = lines; reads = g; assembled = a })) (λ fault f. no_fault fault (refused lines g f))
by_outcome text no_image no_fault (Err p) g = no_fault (Line p.0 p.1) (unread g)

pub decided : (text : List ℕ) → ((image : Image) → HasImage text image → ⊥) → ((fault : ImageFault) → IsNoImage text fault → ⊥) → ⊥
decided text no_image no_fault = let r = is_read text in by_outcome text no_image no_fault r.0 r.1
