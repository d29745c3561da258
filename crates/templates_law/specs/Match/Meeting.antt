-- Terms of the 8080 and of the 8086 that stay in step: where a term of the one meets one of the other, the two agree, and so do the
-- terms that an instruction makes of them. Agreeing alone is not enough for that: the halves of a word may agree with a word's
-- halves where the words are made otherwise.
use Rattle.std.specs.Prelude.{◌≡◌, true, false}
use Rattle.cells.specs.declared.Part.{Part}
use Rattle.cells.specs.Parts.{Parts, has}
use Rattle.sym_terms.specs.Term.{Term, Join, Unknown, is_open}
use Rattle.sym_terms.specs.Making.{high, low}
use Rattle.sym_block_def.specs.Outcome.{term_in}
use Rattle.sym_block_def.specs.Block80.{Symbolic80}
use Rattle.sym_block_def.specs.Symbolic86.{Symbolic86}
use Rattle.sym_block_def.specs.Agree.{has_unknown, actions_agree}

-- bytes and flags: the 8080 knows nothing, or both are one term in which nothing is unknown
pub data Meets (s t : Term) : Type 0 where
  lost : s ≡ Unknown → Meets s t
  same : t ≡ s → has_unknown s ≡ false → Meets s t

-- words: likewise, or the 8080 has two halves, of which one is open, and each meets the half of the 8086's word
pub data WordsMeet (s t : Term) : Type 0 where
  no_word : s ≡ Unknown → WordsMeet s t
  one_word : t ≡ s → has_unknown s ≡ false → WordsMeet s t
  halves : (h l : Term) → s ≡ Join h l → is_open s ≡ true → Meets h (high t) → Meets l (low t) → WordsMeet s t

-- the members of a set of parts
abbrev pub Among : Parts → Part → Type 0
Among k q = has k q ≡ true

-- The symbolic states agree on some parts: there the terms meet, those of SP meet, the loads and stores so far agree one by one, and
-- as many loads were made.
pub record Agree (Kept : Part → Type 0) (s : Symbolic80) (t : Symbolic86) : Type 0 where
  pub parts : (q : Part) → Kept q → Meets (term_in s.held q) (term_in t.held q)
  pub sp : WordsMeet s.sp t.sp
  pub actions : actions_agree s.trace.actions t.trace.actions ≡ true
  pub loads : t.trace.loads ≡ s.trace.loads
