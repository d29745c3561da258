-- Words of 16 bits, and the cells below a stack pointer.
use Rattle.std.proofs.Common.{◌≡◌, ◌≢◌, ℕ, ◌+◌, ◌-◌, ◌/◌, ◌%◌, ◌≤◌, ◌<◌, List, [], ◌∷◌, length, refl, ap, ◌∙◌, arith, true, false, cond, ◌==◌, nat_lt}
use Rattle.std.proofs.lemmas.Bool.Decides.{nat_tests}
use Rattle.asm86_line_types.specs.Layout.{distance16}
use Rattle.cpu80_tagged.specs.Call.{is_just_below}
use Rattle.dialogue.specs.ByteMemory.{put, put_bytes, word_at}
use Rattle.dialogue.specs.Words.{word, wrap}
use Rattle.cpu86.specs.State.{back, put_word}
use Rattle.cpu86.specs.Call.{chosen_six, spoiled}

pub jump_lands : (from to : ℕ) → from < 0x10000 → to < 0x10000 → wrap (from + distance16 from to) ≡ to
jump_lands from to h g = omega arith

pub back_on : (sp : ℕ) → sp < 0x10000 → wrap (back sp 2 + 2) ≡ sp
back_on sp h = omega arith

pub word_parts : (w : ℕ) → word (w / 256) (w % 256) ≡ w
word_parts w = omega arith

pub eq_true : (a b : ℕ) → a ≡ b → (a == b) ≡ true
eq_true a b h = grind (arith, nat_tests)

pub eq_false : (a b : ℕ) → a ≢ b → (a == b) ≡ false
eq_false a b h = grind (arith, nat_tests)

pub lt_false : (a b : ℕ) → b ≤ a → nat_lt a b ≡ false
lt_false a b h = grind (arith, nat_tests)

pub lt_true : (a b : ℕ) → a < b → nat_lt a b ≡ true
lt_true a b h = grind (arith, nat_tests)

pub at_least : (a b : ℕ) → nat_lt a b ≡ false → b ≤ a
at_least a b h = grind (arith, nat_tests)

-- what a run of bytes does not reach
pub put_bytes_past : (mem : ℕ → ℕ) (at : ℕ) (bs : List ℕ) (a : ℕ) → at < 0x10000 → a < 0x10000 → length bs ≤ (a + (0x10000 - at)) % 0x10000 → put_bytes mem at bs a ≡ mem a
put_bytes_past mem at [] a h g le = refl
put_bytes_past mem at (b ∷ bs) a h g le =
    let ne : a ≢ at = omega (arith, le) in
    put_bytes_past (put mem at b) (wrap (at + 1)) bs a (omega arith) g (omega (arith, le))
    ∙ ap (λ t. cond t b (mem a)) (eq_false a at ne)

-- what the six bytes below SP do not hold
pub spoiled_past : (mem : ℕ → ℕ) (sp c a : ℕ) → sp < 0x10000 → a < 0x10000 → 6 ≤ (a + (0x10000 - back sp 6)) % 0x10000 → spoiled mem sp c a ≡ mem a
unfolding spoiled
spoiled_past mem sp c a h g le = put_bytes_past mem (back sp 6) (chosen_six c) a (omega arith) g le

pub put_word_past : (mem : ℕ → ℕ) (at w a : ℕ) → a ≢ at → a ≢ wrap (at + 1) → put_word mem at w a ≡ mem a
put_word_past mem at w a h g =
    ap (λ t. cond t (w / 256) (put mem at (w % 256) a)) (eq_false a (wrap (at + 1)) g)
    ∙ ap (λ t. cond t (w % 256) (mem a)) (eq_false a at h)

pub put_word_low : (mem : ℕ → ℕ) (at w : ℕ) → at < 0x10000 → put_word mem at w at ≡ w % 256
put_word_low mem at w h =
    let ne : at ≢ wrap (at + 1) = omega arith in
    ap (λ t. cond t (w / 256) (put mem at (w % 256) at)) (eq_false at (wrap (at + 1)) ne)
    ∙ ap (λ t. cond t (w % 256) (mem at)) (eq_true at at refl)

pub put_word_high : (mem : ℕ → ℕ) (at w : ℕ) → put_word mem at w (wrap (at + 1)) ≡ w / 256
put_word_high mem at w = ap (λ t. cond t (w / 256) (put mem at (w % 256) (wrap (at + 1)))) (eq_true (wrap (at + 1)) (wrap (at + 1)) refl)

-- the word that a call pushed is there after the six bytes below it are spoiled
pub pushed_back : (mem : ℕ → ℕ) (sp w c : ℕ) → sp < 0x10000 → word_at (spoiled (put_word mem sp w) sp c) sp ≡ w
pushed_back mem sp w c h =
    let low : spoiled (put_word mem sp w) sp c sp ≡ w % 256 = spoiled_past (put_word mem sp w) sp c sp h h (omega arith) ∙ put_word_low mem sp w h in
    let high : spoiled (put_word mem sp w) sp c (wrap (sp + 1)) ≡ w / 256 = spoiled_past (put_word mem sp w) sp c (wrap (sp + 1)) h (omega arith) (omega arith) ∙ put_word_high mem sp w in
    ap (λ v. word v (spoiled (put_word mem sp w) sp c sp)) high ∙ ap (λ v. word (w / 256) v) low ∙ word_parts w

-- a system call changes no cell but the eight below SP
pub call_keeps : (mem : ℕ → ℕ) (sp w c a : ℕ) → sp < 0x10000 → a < 0x10000 → is_just_below sp a ≡ false → spoiled (put_word mem (back sp 2) w) (back sp 2) c a ≡ mem a
call_keeps mem sp w c a h g b =
    let far : 8 ≤ (sp + (0xFFFF - a)) % 0x10000 = at_least ((sp + (0xFFFF - a)) % 0x10000) 8 b in
    let six : 6 ≤ (a + (0x10000 - back (back sp 2) 6)) % 0x10000 = omega arith in
    let ne : a ≢ back sp 2 = omega arith in
    let ne' : a ≢ wrap (back sp 2 + 1) = omega arith in
    spoiled_past (put_word mem (back sp 2) w) (back sp 2) c a (omega arith) g six ∙ put_word_past mem (back sp 2) w a ne ne'
