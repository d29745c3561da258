-- A line gives one thing.
use Rattle.std.proofs.Common.{◌≡◌, ℕ, List, ◌∷◌, Bool, true, false, Option, Some, None, Result, Ok, Err, refl, sym, ap, ◌∙◌, arith}
use Rattle.std.proofs.Common.{◌<◌, ◌≤◌, length, map, inl, inr, ◌⊎◌}
use Rattle.std.specs.List.{list_all}
use Rattle.std.specs.Global.{Vec}
use Rattle.asm86_line_types.specs.declared.line.TextRule.TheVariants.{M1}
use Rattle.asm86_line_reader.specs.declared.fault.LineFault.{LineFault}
use Rattle.asm86_line_reader.specs.declared.fault.LineFault.TheVariants.{Rule, Memory}
use Rattle.asm86_line_reader.specs.Letters.{upper}
use Rattle.asm86_line_reader.specs.Forms.{statements_of, is_small}
use Rattle.asm86_line_reader.specs.Results.{AnswersLine, all_checked}
use Rattle.asm86_line_reader.proofs.Checked.{marked_fails}
use Rattle.asm86_line_types.specs.declared.line.Label.{Label}
use Rattle.asm86_line_reader.specs.declared.token.Token.TheVariants as tokens
use Rattle.std.proofs.Common.{◌≢◌}
use Rattle.asm86_line_reader.specs.Forms.{body_of}
use Rattle.asm86_line_types.specs.declared.line.Stmt86.{Stmt86}
use Rattle.asm86_line_types.specs.declared.line.TextRule.{TextRule}
use Rattle.asm86_line_reader.specs.declared.token.Token.{Token}
use Rattle.asm86_line_reader.specs.Tokens.{Lexes, ends, comment, blank, token, faulty}
use Rattle.asm86_line_reader.specs.Line.{TextLineGives, long, large, senseless, sensible}
use Rattle.asm86_line_reader.specs.Line as line
use Rattle.std.proofs.lemmas.Bool.{cases_Bool}

found_same : (a b : Token) (r s : List ℕ) → ◌≡◌ {A = Option (Token × List ℕ)} (Some (a, r)) (Some (b, s)) → (a ≡ b) × (r ≡ s)
found_same a b r s e = let p : ◌≡◌ {A = Token × List ℕ} (a, r) (b, s) = cc in (ap (λ (q : Token × List ℕ). q.0) p, ap (λ (q : Token × List ℕ). q.1) p)

one_lexing : {bytes : List ℕ} {ts us : List Token} {f g : Bool} → Lexes bytes ts f → Lexes bytes us g → (ts ≡ us) × (f ≡ g)
one_lexing ends ends = (refl, refl)
one_lexing (blank e x) (blank e' y) = one_lexing x y
one_lexing (blank e x) comment = absurd cc
one_lexing (blank e x) (token ne n t y) = absurd cc
one_lexing (blank e x) (faulty ne n t) = absurd cc
one_lexing comment comment = (refl, refl)
one_lexing comment (blank e y) = absurd cc
one_lexing comment (token ne n t y) = absurd (n refl)
one_lexing comment (faulty ne n t) = absurd (n refl)
one_lexing {f = f} {g = g} (token {rest = rest} {t = a} {ts = ts} ne n t x) (token {rest = rest'} {t = b} {ts = us} ne' n' t' y) =
    let same = found_same a b rest rest' (sym t ∙ t') in
    let r = one_lexing (rw same.1 at x) y in
    (ap (λ k. k ∷ ts) same.0 ∙ ap (λ k. b ∷ k) r.0, r.1)
one_lexing (token ne n t x) (faulty ne' n' t') = absurd cc
one_lexing (token ne n t x) (blank e y) = absurd cc
one_lexing (token ne n t x) comment = absurd (n refl)
one_lexing (faulty ne n t) (faulty ne' n' t') = (refl, refl)
one_lexing (faulty ne n t) (token ne' n' t' y) = absurd cc
one_lexing (faulty ne n t) (blank e y) = absurd cc
one_lexing (faulty ne n t) comment = absurd (n refl)

-- what tokens give
verdict : Bool → List Token → Result (List Stmt86) TextRule
verdict false ts = Err M1
verdict true ts = all_checked (statements_of ts)

-- what stands behind what a line gives
record Told (line : List ℕ) (r : Result (List Stmt86) TextRule) : Type 0 where
  ts : List Token
  sound : Bool
  lexes : Lexes (map upper line) ts sound
  gives : r ≡ verdict sound ts

told_of : {line : List ℕ} {r : Result (List Stmt86) TextRule} → TextLineGives line r → ((255 < length line) × (r ≡ Err M1)) ⊎ ((length line ≤ 255) × Told line r)
unfolding verdict
told_of (long l) = inl (l, refl)
told_of (line.faulty {ts = ts} l x) = inr (l, record { ts = ts; sound = false; lexes = x; gives = refl })
told_of (large {ts = ts} l x e h) = inr (l, record { ts = ts; sound = true; lexes = x; gives = rw (e, h) refl })
told_of (senseless {ts = ts} l x e) = inr (l, record { ts = ts; sound = true; lexes = x; gives = rw e refl })
told_of (sensible {ts = ts} l x e h) = inr (l, record { ts = ts; sound = true; lexes = x; gives = rw (e, h) refl })

same_told : {line : List ℕ} {r s : Result (List Stmt86) TextRule} → Told line r → Told line s → r ≡ s
same_told a b = let h = one_lexing a.lexes b.lexes in let e : verdict a.sound a.ts ≡ verdict b.sound b.ts = rw (h.0, h.1) refl in a.gives ∙ e ∙ sym b.gives

pub one_reading : {line : List ℕ} {r s : Result (List Stmt86) TextRule} → TextLineGives line r → TextLineGives line s → r ≡ s
one_reading x y = elim (told_of x) [
  | inl a ↦ elim (told_of y) [
    | inl b ↦ a.1 ∙ sym b.1
    | inr b ↦ absurd (omega arith)
  ]
  | inr a ↦ elim (told_of y) [
    | inl b ↦ absurd (omega arith)
    | inr b ↦ same_told a.1 b.1
  ]
]

given_by : (line : List ℕ) (ts : List Token) (x : Option (List Stmt86)) (r : Result (List Stmt86) TextRule) → length line ≤ 255 → Lexes (map upper line) ts true → statements_of ts ≡ x → r ≡ all_checked x → TextLineGives line r
given_by line ts None r l x e h = rw h (senseless l x e)
given_by line ts (Some ss) r l x e h = elim (cases_Bool (list_all is_small ss)) [
  | inl k ↦ let same : r ≡ Ok ss = rw k at h in rw same (sensible l x e k)
  | inr k ↦ let same : r ≡ Err M1 = rw k at h in rw same (large l x e k)
]

-- what was read of the tokens of a line is what the line gives
pub read : (line : List ℕ) (ts : List Token) (result : Result (Vec Stmt86) LineFault) → length line ≤ 255 → Lexes (map upper line) ts true → AnswersLine (λ r. r ≡ all_checked (statements_of ts)) result → AnswersLine (TextLineGives line) result
read line ts (Ok v) l x h = given_by line ts (statements_of ts) (Ok v.items) l x refl h
read line ts (Err Memory) l x h = tt
read line ts (Err (Rule rule)) l x h = given_by line ts (statements_of ts) (Err rule) l x refl h

-- ---- labels

pub marked_fault : (ts rest : List Token) (l : Label) (fault : LineFault) → ts ≡ tokens.Label l ∷ (tokens.Colon ∷ rest) → AnswersLine (λ r. r ≡ all_checked (body_of rest)) (Err fault) → AnswersLine (λ r. r ≡ all_checked (statements_of ts)) (Err fault)
marked_fault ts rest l Memory e h = tt
marked_fault ts rest l (Rule rule) e h = rw e (marked_fails l (body_of rest) rule h)

pub unmarked : (ts : List Token) → ((l : Label) (rest : List Token) → ts ≢ tokens.Label l ∷ (tokens.Colon ∷ rest)) → statements_of ts ≡ body_of ts
unmarked (tokens.Label l ∷ tokens.Colon ∷ ts) n = absurd (n l ts refl)
unmarked _ n = refl
