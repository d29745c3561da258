-- Each stream is cut into lines, and so none is without an outcome.
use Rattle.std.proofs.Common.{ℕ, List, [], ◌∷◌, ◌++◌, Bool, true, Option, refl, subst, append_assoc, inl, inr}
use Rattle.std.proofs.lemmas.Bool.{cases_eq}
use Rattle.asm80_types.specs.declared.fault.ReadFault.{ReadFault}
use Rattle.asm80_types.specs.Tree.{Statement}
use Rattle.base.specs.Cut.{Cut}
use Rattle.base.proofs.Cuts.{cut_byte, cut_line}
use Rattle.asm80_text.specs.Stream.{IsPlain, IsStream, closed, complete, StreamGives}
use Rattle.asm80_text.specs.Spelling.{Spelling}
use Rattle.asm80_values.proofs.Lines80.{lines_give}

record Lined (stream : List ℕ) : Type 0 where
  raw : List (List ℕ)
  rest : List ℕ
  is_closed : Bool
  cut : IsStream stream raw rest is_closed

-- the bytes that follow a text
lined_behind : (bytes text : List ℕ) (raw : List (List ℕ)) (rest : List ℕ) → Cut IsPlain text raw rest → Lined (text ++ (bytes ++ 26 ∷ []))
lined_behind [] text raw rest c = record { raw = raw; rest = rest; is_closed = true; cut = closed text [] c refl }
lined_behind (b ∷ bytes) text raw rest c = elim (cases_eq b 10) [
  | inl e ↦ rw e (subst Lined (append_assoc text (10 ∷ []) (bytes ++ 26 ∷ [])) (lined_behind bytes (text ++ 10 ∷ []) (raw ++ rest ∷ []) [] (cut_line text raw rest c)))
  | inr ne ↦ elim (cases_eq b 26) [
    | inl e ↦ rw e (record { raw = raw; rest = rest; is_closed = true; cut = closed text (bytes ++ 26 ∷ []) c refl })
    | inr nf ↦ subst Lined (append_assoc text (b ∷ []) (bytes ++ 26 ∷ [])) (lined_behind bytes (text ++ b ∷ []) raw (rest ++ b ∷ []) (cut_byte text raw rest b c (ne, nf)))
  ]
]

pub has_outcome : (spelling : Spelling) (stream : List ℕ) → ((statements : List Statement) (fault : Option ReadFault) → StreamGives spelling stream statements fault → ⊥) → ⊥
has_outcome spelling stream k =
    let s = lined_behind stream [] [] [] (record { whole = refl; each = tt; last = tt }) in
    lines_give spelling (complete s.raw s.rest s.is_closed) 1 (λ ss f l. k ss f (record { raw = s.raw; rest = s.rest; is_closed = s.is_closed; cut = s.cut; lines = l }))
