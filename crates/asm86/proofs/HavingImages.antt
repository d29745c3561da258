-- Lines in order have an image, or there is a first line that breaks a rule. What an image asks of labels is not decided here:
-- lines that are never refused have it.
use Rattle.std.proofs.Common.{◌≡◌, ℕ, List, [], ◌∷◌, ◌++◌, refl, sym, subst, ◌∙◌, append_assoc, arith, true, inl, inr}
use Rattle.std.proofs.lemmas.Bool.{cases_lt}
use Rattle.std.proofs.lemmas.List.{append-nil}
use Rattle.asm86_line_types.specs.declared.line.Line86.{Line86}
use Rattle.asm86_line_types.specs.declared.line.Stmt86.{Stmt86}
use Rattle.asm86_line_types.specs.declared.line.TextRule.TheVariants.{M3, M4}
use Rattle.asm86_line_types.specs.Layout.{sizes_of, place_of}
use Rattle.asm86_line_types.specs.Image.{Image, statements, IsDefinedOnce, UsesDefined, AllReach, IsImage, image_of}
use Rattle.asm86_line_types.specs.Order.{at_start, in_order}
use Rattle.asm86.specs.declared.fault.ImageFault.{ImageFault}
use Rattle.asm86.specs.declared.fault.ImageFault.TheVariants.{Line, CodeTooLarge, Short}
use Rattle.asm86.specs.Refusals.{IsFirstToBreak, ImageRefused}

-- lines keep a rule that they keep at first, unless there is a first line with which they do not
module _ (Keeps : List Stmt86 → Type 0) (lines : List Line86) (all : Keeps (statements lines) → ⊥) (none_breaks : (n : ℕ) → IsFirstToBreak Keeps lines n → ⊥) where
  goes_on : (before after : List Line86) → lines ≡ before ++ after → Keeps (statements before) → ⊥
  goes_on before [] whole kept = all (subst (λ (xs : List Line86). Keeps (statements xs)) (sym (whole ∙ append-nil before)) kept)
  goes_on before (here ∷ after) whole kept = none_breaks here.line (record {
    before = before;
    here = here;
    after = after;
    split = whole;
    kept = kept;
    broken = λ k. goes_on (before ++ here ∷ []) after (whole ∙ sym (append_assoc before (here ∷ []) after)) k;
    numbered = refl;
  })

kept_or_broken : (Keeps : List Stmt86 → Type 0) (lines : List Line86) → Keeps [] → (Keeps (statements lines) → ⊥) → ((n : ℕ) → IsFirstToBreak Keeps lines n → ⊥) → ⊥
kept_or_broken Keeps lines first all none = goes_on Keeps lines all none [] lines refl first

module _ (lines : List Line86) (order : in_order at_start (statements lines) ≡ true) (no_image : (image : Image) → IsImage lines image → ⊥) (no_refusal : (fault : ImageFault) → ImageRefused lines fault → ⊥) where
  reaching : IsDefinedOnce (statements lines) → UsesDefined (statements lines) (statements lines) → ⊥
  reaching once defined = elim (cases_lt (sizes_of (statements lines)) 0x10000) [
    | inr large ↦ no_refusal (CodeTooLarge (sizes_of (statements lines))) (once, defined, large, refl)
    | inl small ↦
        kept_or_broken (AllReach (place_of (statements lines)) 0) lines tt
        (λ short. no_image (image_of lines) (record { assembles = record { order = order; once = once; defined = defined; small = small; short = short }; is = refl }))
        (λ n b. no_refusal (Short n) (once, defined, small, b))
  ]

  defining : IsDefinedOnce (statements lines) → ⊥
  defining once =
      kept_or_broken (UsesDefined (statements lines)) lines tt (reaching once) (λ n b. no_refusal (Line n M4) (once, b))

  pub never_neither : ⊥
  never_neither = kept_or_broken IsDefinedOnce lines (λ l. omega arith) defining (λ n b. no_refusal (Line n M3) b)
