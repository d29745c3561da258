-- The first line of bytes, and the lines after it.
use Rattle.std.proofs.Common.{◌≡◌, ℕ, suc, ◌+◌, List, [], ◌∷◌, ◌++◌, length, take, drop, cond, Bool, true, false, refl, sym, ap, ◌∙◌, inl, inr, arith}
use Rattle.std.specs.Prelude.{◌==◌}
use Rattle.std.proofs.lemmas.Bool.{cases_Bool}
use Rattle.std.proofs.lemmas.List.{take-append-drop, append-nil}
use Rattle.base.specs.Cut.{without_cr, last_line}
use Rattle.commented_text.specs.Lines.{line_len, with_byte, parts_of, lines_of_parts, lines_of}

pub one_more : (n : ℕ) → 1 + n ≡ suc n
one_more n = omega arith

-- a first line, and the parts of what is after its LF, where there is one
abbrev parts_after : List ℕ → List ℕ → List (List ℕ)
parts_after line [] = line ∷ []
parts_after line (lf ∷ later) = line ∷ parts_of later

with_first : (b : ℕ) (line rest : List ℕ) → with_byte b (parts_after line rest) ≡ parts_after (b ∷ line) rest
with_first b line [] = refl
with_first b line (lf ∷ later) = refl

first_part : (bytes : List ℕ) → parts_of bytes ≡ parts_after (take (line_len bytes) bytes) (drop (line_len bytes) bytes)
first_part [] = refl
first_part (b ∷ bytes) = elim (cases_Bool (b == 10)) [
  | inl e ↦ rw e refl
  | inr e ↦ rw (e, one_more (line_len bytes)) (ap (with_byte b) (first_part bytes) ∙ with_first b (take (line_len bytes) bytes) (drop (line_len bytes) bytes))
]

byte_in : (b : ℕ) (parts : List (List ℕ)) → with_byte b parts ≡ [] → ⊥
byte_in b [] e = cc
byte_in b (part ∷ parts) e = cc

some_part : (t : Bool) (b : ℕ) (parts : List (List ℕ)) → cond t ([] ∷ parts) (with_byte b parts) ≡ [] → ⊥
some_part true b parts e = cc
some_part false b parts e = byte_in b parts e

pub some_parts : (bytes : List ℕ) → parts_of bytes ≡ [] → ⊥
some_parts [] e = cc
some_parts (b ∷ bytes) e = some_part (b == 10) b (parts_of bytes) e

line_before : (line : List ℕ) (parts : List (List ℕ)) → (parts ≡ [] → ⊥) → lines_of_parts (line ∷ parts) ≡ without_cr line ∷ lines_of_parts parts
line_before line [] some = absurd (some refl)
line_before line (part ∷ parts) some = refl

pub line_ended : (bytes line rest : List ℕ) (lf : ℕ) (later : List ℕ) → line ≡ take (line_len bytes) bytes → rest ≡ drop (line_len bytes) bytes → rest ≡ lf ∷ later → lines_of bytes ≡ without_cr line ∷ lines_of later
line_ended bytes line rest lf later p q e =
    ap lines_of_parts (first_part bytes ∙ ap (λ (t : List ℕ). parts_after t (drop (line_len bytes) bytes)) (sym p) ∙ ap (parts_after line) (sym q ∙ e))
    ∙ line_before line (parts_of later) (some_parts later)

last_is : (bytes : List ℕ) → (bytes ≡ [] → ⊥) → last_line bytes ≡ bytes ∷ []
last_is [] some = absurd (some refl)
last_is (b ∷ bytes) some = refl

pub line_last : (bytes line rest : List ℕ) → line ≡ take (line_len bytes) bytes → rest ≡ drop (line_len bytes) bytes → rest ≡ [] → (bytes ≡ [] → ⊥) → lines_of bytes ≡ line ∷ lines_of rest
line_last bytes line rest p q e some =
    let is : line ≡ bytes = sym (append-nil line) ∙ ap (λ (t : List ℕ). line ++ t) (sym e) ∙ ap (λ (t : List ℕ). t ++ rest) p ∙ ap (λ (t : List ℕ). take (line_len bytes) bytes ++ t) q ∙ take-append-drop (line_len bytes) bytes in
    ap lines_of_parts (first_part bytes ∙ ap (λ (t : List ℕ). parts_after t (drop (line_len bytes) bytes)) (sym p) ∙ ap (parts_after line) (sym q ∙ e))
    ∙ ap last_line is ∙ last_is bytes some ∙ ap (λ (t : List ℕ). t ∷ []) (sym is) ∙ ap (λ (t : List ℕ). line ∷ lines_of t) (sym e)

-- bytes that were tested for there being none
pub not_empty : (bytes : List ℕ) (b : Bool) → b ≡ (length bytes == 0) → b ≡ false → bytes ≡ [] → ⊥
not_empty [] b e h x = let no : false ≡ true = sym h ∙ e in absurd cc
not_empty (y ∷ bytes) b e h x = cc
