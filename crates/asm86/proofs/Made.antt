-- The image from its parts.
use Rattle.std.proofs.Common.{◌≡◌, ℕ, ◌<◌, true, List, refl, sym, ap, subst, ◌∙◌, ◌⊎◌, inl, inr, Result, Err, MatchResult, arith}
use Rattle.asm86_line_types.specs.declared.line.Label.{Label}
use Rattle.asm86_line_types.specs.declared.line.Line86.{Line86}
use Rattle.asm86_line_types.specs.Order.{at_start, in_order}
use Rattle.asm86_line_types.specs.Layout.{sizes_of, place_of, code_from}
use Rattle.asm86_line_types.specs.Image.{statements, labels_from, cells_from, by_address, IsDefinedOnce, UsesDefined, AllReach, Assembles, IsImage, image_of}
use Rattle.asm86.specs.Places.{label_place, IsChecked}
use Rattle.asm86.specs.declared.fault.ImageFault.{ImageFault}
use Rattle.asm86.specs.declared.fault.ImageFault.TheVariants.{Memory}
use Rattle.asm86.specs.Refusals.{IsFirstToBreak, ImageRefused}
use Rattle.asm86.proofs.Exclusion.{image_not_refused, same_refusal}
use Rattle.asm86.proofs.Texts.{places, place_within}

-- the places of the labels that were found are those of the text
pub found_places : (lines : List Line86) (labels : List (Label × ℕ)) → labels ≡ labels_from 0 (statements lines) → label_place labels ≡ place_of (statements lines)
found_places lines labels found = ap label_place found ∙ places (statements lines)

pub found_small : (lines : List Line86) (labels : List (Label × ℕ)) → labels ≡ labels_from 0 (statements lines) → sizes_of (statements lines) < 0x10000 → (l : Label) → label_place labels l < 0x10000
found_small lines labels found small l =
    let within = place_within 0 (statements lines) l in
    let e = ap (λ ls. label_place ls l) found in
    omega (arith, within, e, small)

pub found_short : (lines : List Line86) (labels : List (Label × ℕ)) (n : ℕ) → labels ≡ labels_from 0 (statements lines) → IsFirstToBreak (AllReach (label_place labels) 0) lines n → IsFirstToBreak (AllReach (place_of (statements lines)) 0) lines n
found_short lines labels n found h = subst (λ off. IsFirstToBreak (AllReach off 0) lines n) (found_places lines labels found) h

pub labels_checked : (lines : List Line86) (labels : List (Label × ℕ))
    → labels ≡ labels_from 0 (statements lines)
    → IsDefinedOnce (statements lines)
    → UsesDefined (statements lines) (statements lines)
    → sizes_of (statements lines) < 0x10000
    → AllReach (label_place labels) 0 (statements lines)
    → IsChecked lines labels
labels_checked lines labels found once defined small short = record {
  found = found;
  once = once;
  defined = defined;
  small = small;
  short = subst (λ off. AllReach off 0 (statements lines)) (found_places lines labels found) short;
  words = found_small lines labels found small;
}

pub image_made : (lines : List Line86) (code : List ℕ) (cells : List (ℕ × ℕ)) (labels : List (Label × ℕ))
    → in_order at_start (statements lines) ≡ true
    → IsChecked lines labels
    → code ≡ code_from (label_place labels) 0 (statements lines)
    → cells ≡ by_address (cells_from (label_place labels) 0 (statements lines))
    → IsImage lines (record { code = code; cells = cells; labels = labels })
image_made lines code cells labels order checked bytes held =
    let xs = statements lines in
    let off = found_places lines labels checked.found in
    let bytes' = bytes ∙ ap (λ f. code_from f 0 xs) off in
    let held' = held ∙ ap (λ f. by_address (cells_from f 0 xs)) off in
    record {
      assembles = record { order = order; once = checked.once; defined = checked.defined; small = checked.small; short = checked.short };
      is = λ i. record { code = bytes' i; cells = held' i; labels = checked.found i };
    }

-- an answer of a text that assembles, and of one that is refused
assembled_fault : (lines : List Line86) (fault : ImageFault) → (fault ≡ Memory) ⊎ ImageRefused lines fault → Assembles lines → fault ≡ Memory
assembled_fault lines fault (inl e) h = e
assembled_fault lines fault (inr r) h = absurd (image_not_refused lines (image_of lines) fault (record { assembles = h; is = refl }) r)

refused_fault : (lines : List Line86) (fault other : ImageFault) → (fault ≡ Memory) ⊎ ImageRefused lines fault → ImageRefused lines other → (fault ≡ other) ⊎ (fault ≡ Memory)
refused_fault lines fault other (inl e) h = inr e
refused_fault lines fault other (inr r) h = inl (same_refusal lines fault other r h)

pub assembled_answer : {I : Type 0} (lines : List Line86) (P : I → Type 0) (r : Result I ImageFault) (fault : ImageFault) → r ≡ Err fault → (fault ≡ Memory) ⊎ ImageRefused lines fault → Assembles lines → MatchResult r P (λ f. f ≡ Memory)
assembled_answer lines P r fault is h a = subst (λ s. MatchResult s P (λ f. f ≡ Memory)) (sym is) (assembled_fault lines fault h a)

pub refused_answer : {I : Type 0} (lines : List Line86) (r : Result I ImageFault) (fault other : ImageFault) → r ≡ Err fault → (fault ≡ Memory) ⊎ ImageRefused lines fault → ImageRefused lines other → (r ≡ Err other) ⊎ (r ≡ Err Memory)
refused_answer lines r fault other is h o =
    elim (refused_fault lines fault other h o) [ inl e ↦ inl (is ∙ ap Err e) | inr e ↦ inr (is ∙ ap Err e) ]
