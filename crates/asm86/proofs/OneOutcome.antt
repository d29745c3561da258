-- A text has one image at most, one fault at most, and not both.
use Rattle.std.proofs.Common.{◌≡◌, ℕ, List, ap, subst}
use Rattle.std.specs.Prelude.{Result, Ok, Err}
use Rattle.asm86_line_types.specs.declared.line.Line86.{Line86}
use Rattle.asm86_line_types.specs.declared.line.TextRule.{TextRule}
use Rattle.asm86_line_types.specs.Image.{Image, IsImage}
use Rattle.asm86.specs.Stream.{TextGives}
use Rattle.asm86.proofs.Outcomes.{same_lines, same_fault, no_lines}
use Rattle.asm86.specs.declared.fault.ImageFault.{ImageFault}
use Rattle.asm86.specs.declared.fault.ImageFault.TheVariants.{Line}
use Rattle.asm86.specs.Refusals.{ImageRefused, OneImage, OneRefusal, NotBoth}
use Rattle.asm86.specs.Images.{HasImage, IsNoImage, unread, refused}

-- a text is read as one thing
abbrev pub OneReading : Type 0
OneReading = (text : List ℕ) (a b : Result (List Line86) (ℕ × TextRule)) → TextGives text a → TextGives text b → a ≡ b

abbrev line_fault : ℕ × TextRule → ImageFault
line_fault p = Line p.0 p.1

module _ (reading : OneReading) where
  pub one_image : OneImage → (text : List ℕ) (a b : Image) → HasImage text a → HasImage text b → a ≡ b
  one_image image_is text a b x y =
      let lines = same_lines x.lines y.lines (reading text (Ok x.lines) (Ok y.lines) x.reads y.reads) in
      image_is y.lines a b (subst (λ l. IsImage l a) lines x.assembled) y.assembled

  pub never_both : NotBoth → (text : List ℕ) (a : Image) (fault : ImageFault) → HasImage text a → IsNoImage text fault → ⊥
  never_both apart text a _ x (unread {line = n} {rule = r} y) =
      no_lines x.lines (n, r) (reading text (Ok x.lines) (Err (n, r)) x.reads y)
  never_both apart text a fault x (refused lines y r) =
      let same = same_lines x.lines lines (reading text (Ok x.lines) (Ok lines) x.reads y) in
      apart lines a fault (subst (λ l. IsImage l a) same x.assembled) r

  pub one_fault : OneRefusal → (text : List ℕ) (a b : ImageFault) → IsNoImage text a → IsNoImage text b → a ≡ b
  one_fault refusal_is text _ _ (unread {line = n} {rule = r} x) (unread {line = m} {rule = s} y) =
      ap line_fault (same_fault (n, r) (m, s) (reading text (Err (n, r)) (Err (m, s)) x y))
  one_fault refusal_is text _ b (unread {line = n} {rule = r} x) (refused lines y s) =
      absurd (no_lines lines (n, r) (reading text (Ok lines) (Err (n, r)) y x))
  one_fault refusal_is text a _ (refused lines x s) (unread {line = n} {rule = r} y) =
      absurd (no_lines lines (n, r) (reading text (Ok lines) (Err (n, r)) x y))
  one_fault refusal_is text a b (refused lines x r) (refused others y s) =
      let same = same_lines lines others (reading text (Ok lines) (Ok others) x y) in
      refusal_is others a b (subst (λ l. ImageRefused l a) same r) s
