-- A set of lists of bytes by what its members begin with.
use Rattle.std.proofs.Common.{◌≡◌, ℕ, ◌+◌, ◌<◌, ◌≤◌, List, ◌++◌, length, take, drop, sym, ap, ◌∙◌, inl, inr, arith, append_assoc}
use Rattle.std.proofs.lemmas.Bool.{cases_lt, cases_order}
use Rattle.std.proofs.lemmas.List.{take-append-drop, take-take}
use Rattle.base.specs.Prefixes.{IsPrefixOf, CannotGoOn}

-- these are the lists that members of the set begin with
pub record AreFronts (IsIn IsFront : List ℕ → Type 0) : Type 0 where
  pub goes_on : (front : List ℕ) → IsFront front → (whole : List ℕ) × IsIn whole × IsPrefixOf front whole
  pub begins : (front whole : List ℕ) → IsIn whole → IsPrefixOf front whole → IsFront front

-- so bytes cannot go on where their first bytes are such a list, and are none with one byte more
pub stops_at : {IsIn IsFront : List ℕ → Type 0} → AreFronts IsIn IsFront → (bytes : List ℕ) (k : ℕ) → k ≤ length bytes → IsFront (take k bytes) → (k < length bytes → IsFront (take (k + 1) bytes) → ⊥) → (k ≡ length bytes → IsIn bytes → ⊥) → CannotGoOn IsIn bytes k
stops_at fronts bytes k within here further early = record {
  within = within;
  so_far = fronts.goes_on (take k bytes) here;
  no_further = λ lt whole is begins. further lt (fronts.begins (take (k + 1) bytes) whole is begins);
  early = early;
}

-- a member goes on to its end
pub member_goes_on : {IsIn : List ℕ → Type 0} → (bytes : List ℕ) (k : ℕ) → IsIn bytes → CannotGoOn IsIn bytes k → ⊥
member_goes_on bytes k is stops =
    let within : k ≤ length bytes = stops.within in
    elim (cases_lt k (length bytes)) [
      | inl lt ↦ stops.no_further lt bytes is (drop (k + 1) bytes, sym (take-append-drop (k + 1) bytes))
      | inr le ↦ stops.early (omega (arith, within, le)) is
    ]

-- a list that begins with more bytes begins with fewer of them
shorter : (bytes whole : List ℕ) (j k : ℕ) → j ≤ k → IsPrefixOf (take k bytes) whole → IsPrefixOf (take j bytes) whole
shorter bytes whole j k le begins =
    let front = take k bytes in
    let parts : front ≡ take j bytes ++ drop j front = sym (take-append-drop j front) ∙ ap (λ l. l ++ drop j front) (take-take j k bytes le) in
    (drop j front ++ begins.0, begins.1 ∙ ap (λ l. l ++ begins.0) parts ∙ append_assoc (take j bytes) (drop j front) begins.0)

not_earlier : {IsIn : List ℕ → Type 0} → (bytes : List ℕ) (j k : ℕ) → CannotGoOn IsIn bytes j → CannotGoOn IsIn bytes k → j < k → ⊥
not_earlier bytes j k earlier later lt =
    let within = later.within in
    let far = later.so_far in
    earlier.no_further (omega (arith, lt, within)) far.0 far.1 (shorter bytes far.0 (j + 1) k (omega (arith, lt)) far.2)

-- bytes cannot go on at one place
pub one_place : {IsIn : List ℕ → Type 0} → (bytes : List ℕ) (j k : ℕ) → CannotGoOn IsIn bytes j → CannotGoOn IsIn bytes k → j ≡ k
one_place bytes j k a b = elim (cases_order j k) [
  | inl same ↦ same
  | inr (inl lt) ↦ absurd (not_earlier bytes j k a b lt)
  | inr (inr lt) ↦ absurd (not_earlier bytes k j b a lt)
]
