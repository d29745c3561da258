-- A line has one list of tokens.
use Rattle.std.proofs.Common.{◌≡◌, ℕ, List, ◌∷◌, Option, refl, sym, ap, ◌∙◌}
use Rattle.asm80_types.specs.declared.fault.LineRule.{LineRule}
use Rattle.asm80_text.specs.declared.token.Token.{Token}
use Rattle.asm80_text.specs.Spelling.{Spelling}
use Rattle.asm80_text.specs.Tokens.{Got, Lexes, ends, blank, comment, token, faulty}

got_same : (a b : Token) (r s : List ℕ) → Got a r ≡ Got b s → (a ≡ b) × (r ≡ s)
got_same a b r s e = (cc, cc)

pub one_reading : {s : Spelling} {bytes : List ℕ} {ts us : List Token} {f g : Option LineRule} → Lexes s bytes ts f → Lexes s bytes us g → (ts ≡ us) × (f ≡ g)
one_reading ends ends = (refl, refl)
one_reading (blank e x) (blank e' y) = one_reading x y
one_reading (blank e x) (comment y) = absurd cc
one_reading (blank e x) (token ne n t y) = absurd cc
one_reading (blank e x) (faulty ne n t) = absurd cc
one_reading (comment x) (comment y) = one_reading x y
one_reading (comment x) (blank e y) = absurd cc
one_reading (comment x) (token ne n t y) = absurd (n refl)
one_reading (comment x) (faulty ne n t) = absurd (n refl)
one_reading {f = f} {g = g} (token {rest = rest} {t = a} {ts = ts} ne n t x) (token {rest = rest'} {t = b} {ts = us} ne' n' t' y) =
    let same = got_same a b rest rest' (sym t ∙ t') in
    let r = one_reading (rw same.1 at x) y in
    (ap (λ k. k ∷ ts) same.0 ∙ ap (λ k. b ∷ k) r.0, r.1)
one_reading (token ne n t x) (faulty ne' n' t') = absurd cc
one_reading (token ne n t x) (blank e y) = absurd cc
one_reading (token ne n t x) (comment y) = absurd (n refl)
one_reading (faulty ne n t) (faulty ne' n' t') = (refl, cc)
one_reading (faulty ne n t) (token ne' n' t' y) = absurd cc
one_reading (faulty ne n t) (blank e y) = absurd cc
one_reading (faulty ne n t) (comment y) = absurd (n refl)
