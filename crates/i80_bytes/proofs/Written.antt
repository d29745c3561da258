-- Memory at the start, which is written in order.
use Rattle.std.proofs.Common.{◌≡◌, ℕ, zero, suc, ◌+◌, ◌-◌, ◌/◌, ◌%◌, ◌<◌, ◌≤◌, ◌==◌, ◌&&◌, nat_le, nat_lt, Bool, true, false, cond, List, [], ◌∷◌, length, refl, sym, ap, ◌∙◌, arith}
use mathlib.Core.Path.{fun_ext}
use Rattle.std.specs.Prelude.{slice_index}
use Rattle.std.proofs.lemmas.Bool.{and_left, and_right, and_from}
use Rattle.std.proofs.lemmas.Bool.Decides.{nat_tests}
use Rattle.dialogue.specs.ByteMemory.{put, put_bytes}
use Rattle.asm80_types.specs.Program.{is_top}
use Rattle.cpu80.specs.State.{next, put_word}
use Rattle.cpu80.specs.Start.{system_byte}

-- bytes from an address up

bytes_past : (m : ℕ → ℕ) (at : ℕ) (bs : List ℕ) (a : ℕ) → at + length bs < 0x10000 → ((k : ℕ) → at ≤ k → k < at + length bs → (a == k) ≡ false) → put_bytes m at bs a ≡ m a
bytes_past m at [] a le h = refl
bytes_past m at (b ∷ bs) a le h =
    let next_is : (at + 1) % 0x10000 ≡ at + 1 = omega (arith, le) in
    ap (λ n. put_bytes (put m at b) n bs a) next_is
    ∙ bytes_past (put m at b) (at + 1) bs a (omega (arith, le)) (λ k low high. h k (omega (arith, low)) (omega (arith, high)))
    ∙ ap (λ t. cond t b (m a)) (h at (omega arith) (omega arith))

bytes_at : (m : ℕ → ℕ) (at : ℕ) (bs : List ℕ) (k : ℕ) → at + length bs < 0x10000 → k < length bs → put_bytes m at bs (at + k) ≡ slice_index bs k
bytes_at m at [] k le lt = absurd (omega (arith, lt))
bytes_at m at (b ∷ bs) zero le lt =
    let next_is : (at + 1) % 0x10000 ≡ at + 1 = omega (arith, le) in
    let here : (at + 0 == at) ≡ true = grind (arith, nat_tests) in
    ap (λ n. put_bytes (put m at b) n bs (at + 0)) next_is
    ∙ bytes_past (put m at b) (at + 1) bs (at + 0) (omega (arith, le)) (λ k low high. grind (arith, nat_tests))
    ∙ ap (λ t. cond t b (m (at + 0))) here
bytes_at m at (b ∷ bs) (suc k) le lt =
    let next_is : (at + 1) % 0x10000 ≡ at + 1 = omega (arith, le) in
    let there : at + suc k ≡ at + 1 + k = omega arith in
    ap (λ n. put_bytes (put m at b) n bs (at + suc k)) next_is
    ∙ ap (put_bytes (put m at b) (at + 1) bs) there
    ∙ bytes_at (put m at b) (at + 1) bs k (omega (arith, le)) (omega (arith, lt))

top_range : (t : ℕ) → is_top t ≡ true → (0x1000 ≤ t) × (t ≤ 0xFF00)
top_range t e = (grind (arith, e), grind (arith, e))

module _ (under : ℕ → ℕ) (page : List ℕ) (size : length page ≡ 164) (top : ℕ) (is : is_top top ≡ true) where
  abbrev paged : ℕ → ℕ
  paged = put_bytes under 0x5C page

  in_page : (a : ℕ) → 0x5C ≤ a → a < 0x100 → paged a ≡ slice_index page (a - 0x5C)
  in_page a low high =
      let e : 0x5C + (a - 0x5C) ≡ a = omega (arith, low) in
      ap paged (sym e) ∙ bytes_at under 0x5C page (a - 0x5C) (omega (arith, size)) (omega (arith, size, low, high))

  page_test : ℕ → Bool
  page_test a = nat_le 0x5C a && nat_lt a 0x100

  below_page : (a : ℕ) → a < 0x5C → paged a ≡ under a
  below_page a lt = bytes_past under 0x5C page a (omega (arith, size)) (λ k low high. grind (arith, nat_tests))

  above_page : (a : ℕ) → 0x100 ≤ a → paged a ≡ under a
  above_page a le = bytes_past under 0x5C page a (omega (arith, size)) (λ k low high. let before : k < 0x100 = omega (arith, high, size) in grind (arith, nat_tests))

  each : (a : ℕ) → put_word (put_word paged 6 (top / 256) (top % 256)) (top - 2) 0 0 a ≡ system_byte top page under a
  each a =
      let range = top_range top is in
      let last : next (top - 2) ≡ top - 1 = omega (arith, range.0, range.1) in
      ap (λ n. cond (a == n) 0 (cond (a == top - 2) 0 (cond (a == 7) (top / 256) (cond (a == 6) (top % 256) (paged a))))) last
      ∙ by_six (a == 6) refl range.0
    where
      Goal : Type 0
      Goal = cond (a == top - 1) 0 (cond (a == top - 2) 0 (cond (a == 7) (top / 256) (cond (a == 6) (top % 256) (paged a)))) ≡ system_byte top page under a

      -- above the page
      by_last : (o w : Bool) → (a == top - 2) ≡ o → (a == top - 1) ≡ w → (a == 6) ≡ false → (a == 7) ≡ false → (nat_le 0x5C a && nat_lt a 0x100) ≡ false → paged a ≡ under a → Goal
      by_last true w o e six seven out h = let w' : (a == top - 1) ≡ false = grind (arith, nat_tests) in rw (w', o, six, seven, out) refl
      by_last false true o w six seven out h = rw (w, o, six, seven, out) refl
      by_last false false o w six seven out h = rw (w, o, six, seven, out) h

      by_page : (low high : Bool) → nat_le 0x5C a ≡ low → nat_lt a 0x100 ≡ high → (a == 6) ≡ false → (a == 7) ≡ false → 0x1000 ≤ top → Goal
      by_page false high l h six seven range =
          by_last (a == top - 2) (a == top - 1) refl refl six seven (and_left (nat_le 0x5C a) (nat_lt a 0x100) l) (below_page a (grind (arith, nat_tests)))
      by_page true false l h six seven range =
          by_last (a == top - 2) (a == top - 1) refl refl six seven (and_right (nat_le 0x5C a) (nat_lt a 0x100) h) (above_page a (grind (arith, nat_tests)))
      by_page true true l h six seven range =
          let o : (a == top - 2) ≡ false = grind (arith, nat_tests) in
          let w : (a == top - 1) ≡ false = grind (arith, nat_tests) in
          let within : (nat_le 0x5C a && nat_lt a 0x100) ≡ true = and_from (nat_le 0x5C a) (nat_lt a 0x100) l h in
          let here : paged a ≡ slice_index page (a - 0x5C) = in_page a (grind (arith, nat_tests)) (grind (arith, nat_tests)) in
          rw (w, o, six, seven, within) here

      by_seven : (b : Bool) → (a == 7) ≡ b → (a == 6) ≡ false → 0x1000 ≤ top → Goal
      by_seven true seven six range =
          let o : (a == top - 2) ≡ false = grind (arith, nat_tests) in
          let w : (a == top - 1) ≡ false = grind (arith, nat_tests) in
          rw (w, o, six, seven) refl
      by_seven false seven six range = by_page (nat_le 0x5C a) (nat_lt a 0x100) refl refl six seven range

      by_six : (b : Bool) → (a == 6) ≡ b → 0x1000 ≤ top → Goal
      by_six true six range =
          let o : (a == top - 2) ≡ false = grind (arith, nat_tests) in
          let w : (a == top - 1) ≡ false = grind (arith, nat_tests) in
          let v : (a == 7) ≡ false = grind (arith, nat_tests) in
          rw (w, o, v, six) refl
      by_six false six range = by_seven (a == 7) refl six range

  pub whole : put_word (put_word paged 6 (top / 256) (top % 256)) (top - 2) 0 0 ≡ system_byte top page under
  whole = fun_ext each
