-- A range's cells, one after another.
use Rattle.std.proofs.Common.{◌≡◌, refl, sym, ◌∙◌, ap, ℕ, suc, ◌+◌, ◌-◌, ◌<◌, ◌≤◌, Bool, true, false, List, [], ◌∷◌, ◌++◌, arith, append_assoc}
use Rattle.std.specs.Prelude.{Option, Some, None, unwrap_or, ◌==◌, option_map}
use Rattle.dialogue.specs.Shape.{Seen, all_cells, bytes_seen, text_length, text_length_by}

-- a cell more, at any count that is one more
all_cells-suc : (p : ℕ → Bool) (n m at : ℕ) → n ≡ suc m → p at ≡ true → all_cells p n at ≡ all_cells p m (at + 1)
all_cells-suc p n m at e h = rw e (rw h refl)

pub all_cells-next : (p : ℕ → Bool) (len at k : ℕ) → k < len → p (at + k) ≡ true →
    all_cells p (len - (k + 1)) (at + (k + 1)) ≡ all_cells p (len - k) (at + k)
all_cells-next p len at k lt h =
    let e : len - k ≡ suc (len - (k + 1)) = omega arith in
    let f : at + (k + 1) ≡ at + k + 1 = omega arith in
    rw f (sym (all_cells-suc p (len - k) (len - (k + 1)) (at + k) e h))

bytes_in-suc : (seen : Seen) (n m at : ℕ) → n ≡ suc m →
    bytes_seen seen n at ≡ unwrap_or (seen.byte at) 0 ∷ bytes_seen seen m (at + 1)
bytes_in-suc seen n m at e = rw e refl

-- a byte more
pub bytes_in-push : (seen : Seen) (len at k r : ℕ) (items : List ℕ) → k < len → r ≡ unwrap_or (seen.byte (at + k)) 0 →
    (items ++ r ∷ []) ++ bytes_seen seen (len - (k + 1)) (at + (k + 1)) ≡ items ++ bytes_seen seen (len - k) (at + k)
bytes_in-push seen len at k r items lt h =
    let e : len - k ≡ suc (len - (k + 1)) = omega arith in
    let f : at + (k + 1) ≡ at + k + 1 = omega arith in
    rw (append_assoc, f, h) (ap (λ bytes. items ++ bytes) (sym (bytes_in-suc seen (len - k) (len - (k + 1)) (at + k) e)))

text_length_by-on : (b : ℕ) (rest : Option ℕ) → (b == 0x24) ≡ false → text_length_by (Some b) rest ≡ option_map suc rest
text_length_by-on b None d = rw d refl
text_length_by-on b (Some n) d = rw d refl

text_length-suc : (seen : Seen) (n m at : ℕ) → n ≡ suc m → text_length seen n at ≡ text_length_by (seen.byte at) (text_length seen m (at + 1))
text_length-suc seen n m at e = rw e refl

shift_more : (start at : ℕ) (n : Option ℕ) → start ≤ at →
    option_map (λ m. m + (at + 1 - start)) n ≡ option_map (λ m. m + (at - start)) (option_map suc n)
shift_more start at None le = refl
shift_more start at (Some n) le = ap Some (omega arith)

-- the place after a cell that is no `$`
pub text_length-next : (seen : Seen) (start at b : ℕ) → start ≤ at → at < 0x10000 → seen.byte at ≡ Some b → (b == 0x24) ≡ false →
    option_map (λ m. m + (at + 1 - start)) (text_length seen (0x10000 - (at + 1)) (at + 1))
    ≡ option_map (λ m. m + (at - start)) (text_length seen (0x10000 - at) at)
text_length-next seen start at b le lt h d =
    let e : 0x10000 - at ≡ suc (0x10000 - (at + 1)) = omega arith in
    shift_more start at (text_length seen (0x10000 - (at + 1)) (at + 1)) le
    ∙ sym (ap (option_map (λ m. m + (at - start)))
    (text_length-suc seen (0x10000 - at) (0x10000 - (at + 1)) at e ∙ rw h (text_length_by-on b _ d)))
