-- One step of a text that is written: what it puts, and what is left after it.
use Rattle.std.proofs.Common.{◌≡◌, ℕ, zero, suc, ◌-◌, ◌<◌, List, [], ◌∷◌, ◌++◌, length, take, drop, min, codes, inl, inr, refl, sym, ap, ◌∙◌, append_assoc, arith}
use Rattle.std.proofs.lemmas.Bool.{cases_lt}
use Rattle.std.proofs.lemmas.List.{take_all}
use Rattle.asm80_types.specs.declared.program.Placed.{Placed}
use Rattle.asm86_line_types.specs.declared.line.Stmt86.{Stmt86}
use Rattle.asm86_line_types.specs.Written.{written_line}
use Rattle.commented_text.specs.Commented.{comment_line, comments, written}
use Rattle.commented_text.specs.Left.{groups_left, text_left}

module _ (stood : ℕ) (ahead : List Placed) where
  -- a line that was due
  pub due_put : (due begun : ℕ) (line : List ℕ) (lines : List (List ℕ)) (xs : List Stmt86) → 0 < due → text_left due begun stood (line ∷ lines) ahead xs ≡ comment_line line ++ text_left (due - 1) begun stood lines ahead xs
  due_put zero begun line lines xs lt = absurd (omega (arith, lt))
  due_put (suc n) begun line lines xs lt =
      let e : suc n - 1 ≡ n = omega arith in
      rw e (append_assoc (comment_line line) (comments (take n lines)) (written (take begun xs) ++ groups_left stood (drop n lines) ahead (drop begun xs)))

  -- a statement of what has begun
  pub begun_put : (begun : ℕ) (lines : List (List ℕ)) (x : Stmt86) (xs : List Stmt86) → 0 < begun → text_left 0 begun stood lines ahead (x ∷ xs) ≡ written_line x ++ text_left 0 (begun - 1) stood lines ahead xs
  begun_put zero lines x xs lt = absurd (omega (arith, lt))
  begun_put (suc n) lines x xs lt =
      let e : suc n - 1 ≡ n = omega arith in
      rw e (append_assoc (written_line x) (written (take n xs)) (groups_left stood lines ahead (drop n xs)))

-- what is put goes over from what is left to what stands
pub moved : (piece put left before after : List ℕ) → after ≡ piece ++ put → before ≡ put ++ left → after ++ left ≡ piece ++ before
moved piece put left before after p q = ap (λ (t : List ℕ). t ++ left) p ∙ append_assoc piece put left ∙ ap (λ (t : List ℕ). piece ++ t) (sym q)

pub last_put : (x : Stmt86) (xs : List Stmt86) (stood : ℕ) → text_left 0 0 stood [] [] (x ∷ xs) ≡ written_line x ++ text_left 0 0 stood [] [] xs
last_put x xs stood = refl

-- a comment that was put in three parts
take_least : (n : ℕ) (xs : List ℕ) → take (min (length xs) n) xs ≡ take n xs
take_least n xs = elim (cases_lt n (length xs)) [
  | inl lt ↦ let e : min (length xs) n ≡ n = omega (arith, lt) in ap (λ k. take k xs) e
  | inr le ↦ let e : min (length xs) n ≡ length xs = omega (arith, le) in ap (λ k. take k xs) e ∙ take_all (length xs) xs (omega arith) ∙ sym (take_all n xs le)
]

pub comment_put : (piece line : List ℕ) → (line ≡ [] → ⊥) → ((piece ++ 0x3B ∷ []) ++ take (min (length line) 254) line) ++ codes "\r\n" ≡ piece ++ comment_line line
comment_put piece [] some = absurd (some refl)
comment_put piece (b ∷ bytes) some =
    rw (take_least 254 (b ∷ bytes)) (append_assoc (piece ++ 0x3B ∷ []) (take 254 (b ∷ bytes)) (codes "\r\n") ∙ append_assoc piece (0x3B ∷ []) (take 254 (b ∷ bytes) ++ codes "\r\n"))
