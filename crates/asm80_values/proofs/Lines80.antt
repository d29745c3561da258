-- No line is without an outcome, and no list of lines. What tokens are no statements is not decided here: where they are not
-- malformed, they are not for want of statements.
use Rattle.std.proofs.Common.{◌≡◌, ℕ, suc, List, [], ◌∷◌, ◌++◌, length, false, Option, Some, None, Result, Ok, Err, inl, inr, ◌⊎◌}
use Rattle.std.specs.List.{list_any}
use Rattle.std.proofs.lemmas.Bool.{cases_Bool, cases_eq, cases_lt}
use Rattle.asm80_types.specs.declared.fault.LineRule.{LineRule}
use Rattle.asm80_types.specs.declared.fault.LineRule.TheVariants as rules
use Rattle.asm80_types.specs.declared.fault.ReadFault.{ReadFault}
use Rattle.asm80_types.specs.declared.fault.ReadFault.TheVariants.{Syntax}
use Rattle.asm80_text.specs.declared.token.Token.{Token}
use Rattle.asm80_types.specs.Tree.{Statement}
use Rattle.asm80_text.specs.Line.{parts_of, has_reserved_label, is_deep, PartsGive, deep, malformed, formed, TextGives, reserved, faulty, sound, IsRemark, LineGives, late, long, remark, told}
use Rattle.asm80_text.specs.Spelling.{Spelling}
use Rattle.asm80_text.specs.Stream.{LinesGive, none_left, next, fails}
use Rattle.asm80_values.proofs.Tokens80.{lexed}

is_remark : (line : List ℕ) → IsRemark line ⊎ (IsRemark line → ⊥)
is_remark [] = inr (λ x. x)
is_remark (b ∷ bytes) = cases_eq b 42

module _ (spelling : Spelling) where
  parts_give : (n : ℕ) (parts : List (List Token)) → ((r : Result (List Statement) LineRule) → PartsGive spelling n parts r → ⊥) → ⊥
  parts_give n parts k = elim (cases_Bool (list_any is_deep parts)) [
    | inl e ↦ k (Err rules.L6) (deep e)
    | inr e ↦ k (Err rules.L5) (malformed e (λ ss a. k (Ok ss) (formed e a)))
  ]

  unreserved : (n : ℕ) (parts : List (List Token)) (f : Option LineRule) → list_any (has_reserved_label spelling) parts ≡ false → ((r : Result (List Statement) LineRule) → TextGives spelling n parts f r → ⊥) → ⊥
  unreserved n parts (Some rule) e k = k (Err rule) (faulty e)
  unreserved n parts None e k = parts_give n parts (λ r p. k r (sound e p))

  text_gives : (n : ℕ) (parts : List (List Token)) (f : Option LineRule) → ((r : Result (List Statement) LineRule) → TextGives spelling n parts f r → ⊥) → ⊥
  text_gives n parts f k = elim (cases_Bool (list_any (has_reserved_label spelling) parts)) [
    | inl e ↦ k (Err rules.L4) (reserved e)
    | inr e ↦ unreserved n parts f e k
  ]

  line_gives : (n : ℕ) (line : List ℕ) → ((r : Result (List Statement) LineRule) → LineGives spelling n line r → ⊥) → ⊥
  line_gives n line k = elim (cases_lt 32768 n) [
    | inl is_late ↦ k (Err rules.L8) (late is_late)
    | inr le ↦ elim (cases_lt 255 (length line)) [
      | inl is_long ↦ k (Err rules.L7) (long le is_long)
      | inr short ↦ elim (is_remark line) [
        | inl star ↦ k (Ok []) (remark le short star)
        | inr none ↦ let l = lexed spelling line in text_gives n (parts_of l.tokens) l.fault (λ r t. k r (told le short none l.lexes t))
      ]
    ]
  ]

  -- a line more, by what it gives
  line_more : (n : ℕ) (line : List ℕ) (lines : List (List ℕ)) → ((ss : List Statement) (f : Option ReadFault) → LinesGive spelling n (line ∷ lines) ss f → ⊥) → (((ss : List Statement) (f : Option ReadFault) → LinesGive spelling (suc n) lines ss f → ⊥) → ⊥) → (r : Result (List Statement) LineRule) → LineGives spelling n line r → ⊥
  line_more n line lines k rest (Ok ss) g = rest (λ others f h. k (ss ++ others) f (next g h))
  line_more n line lines k rest (Err rule) g = k [] (Some (Syntax n rule)) (fails g)

  pub lines_give : (lines : List (List ℕ)) (n : ℕ) → ((ss : List Statement) (f : Option ReadFault) → LinesGive spelling n lines ss f → ⊥) → ⊥
  lines_give [] n k = k [] None none_left
  lines_give (line ∷ lines) n k = line_gives n line (line_more n line lines k (lines_give lines (suc n)))
