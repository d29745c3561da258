-- What is decoded of the bytes in memory is the instruction that stands first in them.
use Rattle.std.proofs.Common.{◌≡◌, ℕ, zero, suc, ◌<◌, List, [], ◌∷◌, length, get_or, Option, Some, None, refl, sym, ap, ◌∙◌, arith}
use Rattle.i80.specs.declared.Instr80.{Instr80}
use Rattle.i80_bytes.specs.Decoded.{IsDecoded}
use Rattle.i80_bytes.specs.Decoder.{decoded80}
use Rattle.i80_bytes.specs.Enc80.{enc80}
use Rattle.i80_bytes.proofs.Readers.{complete, sound, is_the_one, none_stands}
use Rattle.cpu80.specs.State.{next}
use Rattle.i80_bytes.specs.InMemory.{bytes_from, StandsAsTold, IsFetchOfBytes}
use Rattle.i80_bytes.specs.Fetch.{fetch_of_bytes}

-- three bytes
small : (x y z : ℕ) → x < 256 → y < 256 → z < 256 → (k : ℕ) → get_or (x ∷ (y ∷ (z ∷ []))) k 0 < 256
small x y z hx hy hz zero = hx
small x y z hx hy hz (suc zero) = hy
small x y z hx hy hz (suc (suc zero)) = hz
small x y z hx hy hz (suc (suc (suc k))) = omega arith

told : (bytes : List ℕ) (i : Instr80) (n : ℕ) → IsDecoded bytes (Some (i, n)) → decoded80 bytes ≡ Some i
told bytes i n h = ap decoded80 h.0.1.1 ∙ complete i h.0.1.0 h.0.0 ∙ ap Some (h.2 i h.0)

nothing : (bytes : List ℕ) → ((k : ℕ) → get_or bytes k 0 < 256) → IsDecoded bytes None → decoded80 bytes ≡ None
nothing bytes fits h = by_found (decoded80 bytes) (λ j e. h j (sound bytes j fits e))
  where
    by_found : (o : Option Instr80) → ((j : Instr80) → o ≡ Some j → ⊥) → o ≡ None
    by_found None g = refl
    by_found (Some j) g = absurd (g j refl)

bytes_are : (m : ℕ → ℕ) (a x y z : ℕ) → x ≡ m a → y ≡ m (next a) → z ≡ m (next (next a)) → x ∷ (y ∷ (z ∷ [])) ≡ bytes_from m a
bytes_are m a x y z hx hy hz = ap (λ n. n ∷ (y ∷ (z ∷ []))) hx ∙ ap (λ n. m a ∷ (n ∷ (z ∷ []))) hy ∙ ap (λ n. m a ∷ (m (next a) ∷ (n ∷ []))) hz

pub fetched : (m : ℕ → ℕ) (a x y z : ℕ) (i : Instr80) (n : ℕ) → x ≡ m a → y ≡ m (next a) → z ≡ m (next (next a)) → IsDecoded (x ∷ (y ∷ (z ∷ []))) (Some (i, n)) → Some i ≡ decoded80 (bytes_from m a)
fetched m a x y z i n hx hy hz h = sym (told (x ∷ (y ∷ (z ∷ []))) i n h) ∙ ap decoded80 (bytes_are m a x y z hx hy hz)

pub none_fetched : (m : ℕ → ℕ) (a x y z : ℕ) → x < 256 → y < 256 → z < 256 → x ≡ m a → y ≡ m (next a) → z ≡ m (next (next a)) → IsDecoded (x ∷ (y ∷ (z ∷ []))) None → None ≡ decoded80 (bytes_from m a)
none_fetched m a x y z sx sy sz hx hy hz h = sym (nothing (x ∷ (y ∷ (z ∷ []))) (small x y z sx sy sz) h) ∙ ap decoded80 (bytes_are m a x y z hx hy hz)

pub is_fetch : IsFetchOfBytes fetch_of_bytes
is_fetch u a bytes lt = by_found (decoded80 (bytes_from u.mem a)) refl
  where
    by_found : (o : Option Instr80) → decoded80 (bytes_from u.mem a) ≡ o → StandsAsTold (bytes_from u.mem a) o
    by_found None e = none_stands (bytes_from u.mem a) e
    by_found (Some i) e =
        let one = is_the_one (bytes_from u.mem a) i (length (enc80 i)) (small (u.mem a) (u.mem (next a)) (u.mem (next (next a))) (bytes a) (bytes (next a)) (bytes (next (next a)))) e refl in
        (one.0, one.2)
