-- A reader of a longer code, and the reader of its front that it gives.
use Rattle.std.proofs.Common.{◌≡◌, ℕ, zero, suc, ◌+◌, ◌<◌, ◌≤◌, nat_le, Bool, true, false, cond, List, [], ◌∷◌, ◌++◌, length, max, Option, Some, None, slice_get, refl, sym, ap, ◌∙◌, subst, arith}
use Rattle.std.proofs.lemmas.Bool.{leb-true, le-leb}
use Rattle.std.proofs.lemmas.Option.{same_Some}
use Rattle.i86.specs.declared.Instr86.{Instr86}
use Rattle.i86.specs.Enc86.{enc86}
use Rattle.i86.specs.Code.{HasBytes, ReadsCode}

byte-append : (code more : List ℕ) (ip : ℕ) → ip < length code → slice_get (code ++ more) ip ≡ slice_get code ip
byte-append [] more ip lt = absurd (omega (arith, lt))
byte-append (x ∷ code) more zero lt = refl
byte-append (x ∷ code) more (suc ip) lt = byte-append code more ip (omega (arith, lt))

byte_within : (code : List ℕ) (ip b : ℕ) → slice_get code ip ≡ Some b → ip < length code
byte_within [] ip b h = absurd (cc)
byte_within (x ∷ code) zero b h = omega arith
byte_within (x ∷ code) (suc ip) b h = let lt = byte_within code ip b h in omega (arith, lt)

-- bytes that stand in a code stand in a longer one
bytes_longer : (code more : List ℕ) (ip : ℕ) (bytes : List ℕ) → HasBytes code ip bytes → HasBytes (code ++ more) ip bytes
bytes_longer code more ip [] h = tt
bytes_longer code more ip (b ∷ bytes) h = (byte-append code more ip (byte_within code ip b h.0) ∙ h.0, bytes_longer code more (ip + 1) bytes h.1)

-- and end within it, if there are any
bytes_within : (code : List ℕ) (ip : ℕ) (bytes : List ℕ) → HasBytes code ip bytes → ip + length bytes ≤ max ip (length code)
bytes_within code ip [] h = omega arith
bytes_within code ip (b ∷ bytes) h =
    let here = byte_within code ip b h.0 in
    let rest = bytes_within code (ip + 1) bytes h.1 in
    omega (arith, here, rest)

-- bytes that end within the front of a code stand in the front
bytes_in_front : (code more : List ℕ) (ip : ℕ) (bytes : List ℕ) → ip + length bytes ≤ max ip (length code) → HasBytes (code ++ more) ip bytes → HasBytes code ip bytes
bytes_in_front code more ip [] le h = tt
bytes_in_front code more ip (b ∷ bytes) le h =
    (sym (byte-append code more ip (omega (arith, le))) ∙ h.0, bytes_in_front code more (ip + 1) bytes (omega (arith, le)) h.1)

-- the instruction, if it ends within the code
abbrev ends_within : List ℕ → ℕ → Instr86 → Bool
ends_within code ip i = nat_le (ip + length (enc86 i)) (max ip (length code))

abbrev whole_in : List ℕ → ℕ → Option Instr86 → Option Instr86
whole_in code ip None = None
whole_in code ip (Some i) = cond (ends_within code ip i) (Some i) None

-- what a reader of a longer code gives for its front
abbrev pub front_reader : List ℕ → (ℕ → Option Instr86) → ℕ → Option Instr86
front_reader code fetch ip = whole_in code ip (fetch ip)

whole_is : (code : List ℕ) (ip : ℕ) (o : Option Instr86) (i : Instr86) → whole_in code ip o ≡ Some i → (o ≡ Some i) × (ends_within code ip i ≡ true)
whole_is code ip None i e = absurd (cc)
whole_is code ip (Some j) i e = by_end (ends_within code ip j) refl e
  where
    by_end : (b : Bool) → ends_within code ip j ≡ b → cond b (Some j) None ≡ Some i → (Some j ≡ Some i) × (ends_within code ip i ≡ true)
    by_end true h g = (g, subst (λ k. ends_within code ip k ≡ true) (same_Some j i g) h)
    by_end false h g = absurd (cc)

-- what it gives, the longer code's reader gives too
pub front_gives : (code : List ℕ) (fetch : ℕ → Option Instr86) (ip : ℕ) (i : Instr86) → front_reader code fetch ip ≡ Some i → fetch ip ≡ Some i
front_gives code fetch ip i e = (whole_is code ip (fetch ip) i e).0

pub front_reads : (code more : List ℕ) (fetch : ℕ → Option Instr86) → ReadsCode (code ++ more) fetch → ReadsCode code (front_reader code fetch)
front_reads code more fetch reads ip i = (
  λ e.
      let is = whole_is code ip (fetch ip) i e in
      bytes_in_front code more ip (enc86 i) (leb-true _ _ is.1) ((reads ip i).0 is.0),
  λ h.
      ap (whole_in code ip) ((reads ip i).1 (bytes_longer code more ip (enc86 i) h))
      ∙ ap (λ b. cond b (Some i) None) (le-leb _ _ (bytes_within code ip (enc86 i) h)),
)
