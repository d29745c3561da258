-- Bytes that stand at the first place of a code are a prefix of it.
use Rattle.std.proofs.Common.{◌≡◌, ℕ, ◌+◌, List, [], ◌∷◌, ◌++◌, Option, Some, None, slice_get, refl, sym, ap, ◌∙◌, subst, add-one}
use Rattle.i86.specs.declared.Instr86.{Instr86}
use Rattle.i86.specs.Enc86.{enc86}
use Rattle.i86.specs.Code.{HasBytes}
use Rattle.i86.specs.Decode.{IsPrefix, IsPrefixFree, IsDecoded, IsDecodedAt}
use Rattle.i86.proofs.Readers.{complete}

-- one place on, behind one more byte
behind : (x : ℕ) (code : List ℕ) (at : ℕ) (bytes : List ℕ) → HasBytes code at bytes → HasBytes (x ∷ code) (at + 1) bytes
behind x code at [] h = tt
behind x code at (b ∷ bytes) h = (ap (slice_get (x ∷ code)) (add-one at) ∙ h.0, behind x code (at + 1) bytes h.1)

before : (x : ℕ) (code : List ℕ) (at : ℕ) (bytes : List ℕ) → HasBytes (x ∷ code) (at + 1) bytes → HasBytes code at bytes
before x code at [] h = tt
before x code at (b ∷ bytes) h = (sym (ap (slice_get (x ∷ code)) (add-one at)) ∙ h.0, before x code (at + 1) bytes h.1)

has_front : (front rest : List ℕ) → HasBytes (front ++ rest) 0 front
has_front [] rest = tt
has_front (b ∷ front) rest = (refl, behind b (front ++ rest) 0 front (has_front front rest))

pub has_itself : (bytes : List ℕ) → HasBytes bytes 0 bytes
has_itself [] = tt
has_itself (b ∷ bytes) = (refl, behind b bytes 0 bytes (has_itself bytes))

pub prefix_stands : (front code : List ℕ) → IsPrefix front code → HasBytes code 0 front
prefix_stands front code h = subst (λ c. HasBytes c 0 front) (sym h.1) (has_front front h.0)

pub standing_is_prefix : (front code : List ℕ) → HasBytes code 0 front → IsPrefix front code
standing_is_prefix [] code h = (code, refl)
standing_is_prefix (b ∷ front) [] h = absurd (cc)
standing_is_prefix (b ∷ front) (x ∷ code) h =
    let rest = standing_is_prefix front code (before x code 0 front h.1) in
    let first : x ≡ b = cc in
    (rest.0, ap (λ y. y ∷ code) first ∙ ap (λ c. b ∷ c) rest.1)

-- one instruction at most stands at a place
pub one_stands : (code : List ℕ) (at : ℕ) (i j : Instr86) → HasBytes code at (enc86 i) → HasBytes code at (enc86 j) → i ≡ j
one_stands code at i j h g =
    let e : Some i ≡ Some j = sym (complete code at i h) ∙ complete code at j g in
    cc

pub prefix_free : IsPrefixFree
prefix_free i j h = one_stands (enc86 j) 0 i j (prefix_stands (enc86 i) (enc86 j) h) (has_itself (enc86 j))

-- what stands at the first place is what the bytes begin with
pub decoded_first : (bytes : List ℕ) (answer : Option (Instr86 × ℕ)) → IsDecodedAt bytes 0 answer → IsDecoded bytes answer
decoded_first bytes None h = λ i p. h i (prefix_stands (enc86 i) bytes p)
decoded_first bytes (Some d) h = (standing_is_prefix (enc86 d.0) bytes h.0, h.1, λ i p. h.2 i (prefix_stands (enc86 i) bytes p))
