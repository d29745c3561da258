-- The start page over the fill, as lists.
use Rattle.std.proofs.Common.{◌≡◌, ℕ, ◌+◌, ◌-◌, ◌<◌, ◌≤◌, nat_le, nat_lt, ◌&&◌, Bool, true, false, cond, List, ◌++◌, length, get_or, take, drop, refl, sym, ap, ◌∙◌, arith, length-append, length-drop}
use Rattle.std.proofs.Math.Seq.{take-append_seam}
use mathlib.Core.Path.{fun_ext}
use Rattle.std.proofs.lemmas.Bool.Decides.{nat_tests}
use Rattle.std.proofs.lemmas.List.{get_or-take, get_or-drop, get_or_append_left, get_or-append_right, length-take-le}
use Rattle.cpu86.specs.Start.{start_byte}

module _ (fill page : List ℕ) (f : length fill ≡ 0x10000) (p : length page ≡ 164) where
  front : length (take 92 fill) ≡ 92
  front = length-take-le 92 fill (omega arith)

  below : (a : ℕ) → a < 92 → get_or (take 92 fill ++ (page ++ drop 164 (drop 92 fill))) a 0 ≡ get_or fill a 0
  below a h = get_or_append_left (take 92 fill) (page ++ drop 164 (drop 92 fill)) 0 a (omega (arith, front)) ∙ get_or-take 92 fill a 0 h

  within : (a : ℕ) → 92 ≤ a → a < 256 → get_or (take 92 fill ++ (page ++ drop 164 (drop 92 fill))) a 0 ≡ get_or page (a - 92) 0
  within a h g =
      get_or-append_right (take 92 fill) (page ++ drop 164 (drop 92 fill)) 92 a 0 front h
      ∙ get_or_append_left page (drop 164 (drop 92 fill)) 0 (a - 92) (omega arith)

  above : (a : ℕ) → 256 ≤ a → get_or (take 92 fill ++ (page ++ drop 164 (drop 92 fill))) a 0 ≡ get_or fill a 0
  above a h =
      let e : 92 + (164 + (a - 92 - 164)) ≡ a = omega arith in
      get_or-append_right (take 92 fill) (page ++ drop 164 (drop 92 fill)) 92 a 0 front (omega arith)
      ∙ get_or-append_right page (drop 164 (drop 92 fill)) 164 (a - 92) 0 p (omega arith)
      ∙ get_or-drop 164 (drop 92 fill) (a - 92 - 164) 0
      ∙ get_or-drop 92 fill (164 + (a - 92 - 164)) 0
      ∙ ap (λ i. get_or fill i 0) e

  at : (a : ℕ) (low high : Bool) → nat_le 92 a ≡ low → nat_lt a 256 ≡ high → get_or (take 92 fill ++ (page ++ drop 164 (drop 92 fill))) a 0 ≡ cond (low && high) (get_or page (a - 92) 0) (get_or fill a 0)
  at a false high l h = below a (grind (arith, nat_tests))
  at a true true l h = within a (grind (arith, nat_tests)) (grind (arith, nat_tests))
  at a true false l h = above a (grind (arith, nat_tests))

  whole : length (take 92 fill ++ (page ++ drop 164 (drop 92 fill))) ≡ 0x10000
  whole = simp (length-append, length-drop) (omega (arith, front))

  -- as many bytes as memory has, whatever follows them
  pub overlay : (n : ℕ) (more : List ℕ) → n ≡ 0x10000 → (λ a. get_or (take n ((take 92 fill ++ (page ++ drop 164 (drop 92 fill))) ++ more)) a 0) ≡ start_byte fill page
  overlay n more e =
      let len : n ≡ length (take 92 fill ++ (page ++ drop 164 (drop 92 fill))) = e ∙ sym whole in
      ap (λ (xs : List ℕ). λ (a : ℕ). get_or xs a 0) (ap (λ k. take k ((take 92 fill ++ (page ++ drop 164 (drop 92 fill))) ++ more)) len ∙ take-append_seam (take 92 fill ++ (page ++ drop 164 (drop 92 fill))) more)
      ∙ fun_ext (λ a. at a (nat_le 92 a) (nat_lt a 256) refl refl)
