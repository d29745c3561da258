-- Reading a string, character by character.
use Rattle.std.proofs.Common.{◌≡◌, ◌≢◌, ℕ, List, [], ◌∷◌, ◌++◌, Option, Some, None, refl, sym, ap, ◌∙◌, append_assoc}
use Rattle.std.proofs.lemmas.Bool.{ne_eqb}
use Rattle.std.proofs.lemmas.List.{append-nil}
use Rattle.asm80_text.specs.Strings.{with_char, quoted}

-- what was read before, and what is still read
abbrev pub with_text : List ℕ → Option (List ℕ × List ℕ) → Option (List ℕ × List ℕ)
with_text front None = None
with_text front (Some p) = Some (front ++ p.0, p.1)

regroup : (front : List ℕ) (b : ℕ) (r : Option (List ℕ × List ℕ)) → with_text front (with_char b r) ≡ with_text (front ++ b ∷ []) r
regroup front b None = refl
regroup front b (Some p) = ap (λ (t : List ℕ). Some (t, p.1)) (simp append_assoc)

plain : (b : ℕ) (after : List ℕ) → b ≢ 39 → quoted (b ∷ after) ≡ with_char b (quoted after)
unfolding quoted
plain b [] ne = rw (ne_eqb b 39 ne) refl
plain b (c ∷ after) ne = rw (ne_eqb b 39 ne) refl

pub goes_on : (front rest after : List ℕ) (b : ℕ) (all : Option (List ℕ × List ℕ)) → rest ≡ b ∷ after → b ≢ 39 → with_text front (quoted rest) ≡ all → with_text (front ++ b ∷ []) (quoted after) ≡ all
goes_on front rest after b all e ne h = sym (regroup front b (quoted after)) ∙ ap (with_text front) (sym (ap quoted e ∙ plain b after ne)) ∙ h

pub doubled : (front rest after more : List ℕ) (all : Option (List ℕ × List ℕ)) → rest ≡ 39 ∷ after → after ≡ 39 ∷ more → with_text front (quoted rest) ≡ all → with_text (front ++ 39 ∷ []) (quoted more) ≡ all
unfolding quoted
doubled front rest after more all e f h =
    let whole : quoted rest ≡ with_char 39 (quoted more) = ap quoted (e ∙ ap (λ (t : List ℕ). 39 ∷ t) f) in
    sym (regroup front 39 (quoted more)) ∙ ap (with_text front) (sym whole) ∙ h

closed_at : (after : List ℕ) → ((more : List ℕ) → after ≢ 39 ∷ more) → quoted (39 ∷ after) ≡ Some ([], after)
unfolding quoted
closed_at [] ne = refl
closed_at (c ∷ after) ne = rw (ne_eqb c 39 (λ e. ne after (ap (λ x. x ∷ after) e))) refl

pub closes : (front rest after : List ℕ) (all : Option (List ℕ × List ℕ)) → rest ≡ 39 ∷ after → ((more : List ℕ) → after ≢ 39 ∷ more) → with_text front (quoted rest) ≡ all → all ≡ Some (front, after)
closes front rest after all e ne h = sym h ∙ ap (with_text front) (ap quoted e ∙ closed_at after ne) ∙ ap (λ (t : List ℕ). Some (t, after)) (append-nil front)

pub open_ended : (front rest : List ℕ) (all : Option (List ℕ × List ℕ)) → rest ≡ [] → with_text front (quoted rest) ≡ all → all ≡ None
unfolding quoted
open_ended front rest all e h = sym h ∙ ap (λ r. with_text front (quoted r)) e
