-- Terms that agree: one term, or by their halves and flags.
use Rattle.std.proofs.Common.{◌≡◌, ℕ, ◌/◌, ◌%◌, ◌<◌, Bool, true, false, not, Option, Some, None, refl, sym, subst, arith, ⊎_elim}
use Rattle.std.proofs.lemmas.Bool.{and_parts, or_cases}
use Rattle.cells.specs.declared.Place.{Place}
use Rattle.cells.specs.declared.Cell.{Cell}
use Rattle.cells.specs.declared.Part.TheVariants.{S, Z, Ac, P, Cy}
use Rattle.cells.specs.Bits.{has_bit}
use Rattle.cells.specs.Conditions.{Knows, KnowsBits}
use Rattle.base.specs.Arithmetic.{as_bit}
use Rattle.sym_terms.specs.Term.{Term, Join, FlagByte, Unknown, is_byte, is_word, same_term}
use Rattle.sym_terms.specs.Making.{high, low, bit}
use Rattle.sym_terms.specs.Values80.{Env80, Byte, Word, OneBit, Val80}
use Rattle.sym_terms.specs.Values86.{Env86, Number, Val86}
use Rattle.sym_terms.specs.Laws.{IsMadeAs, MadeTermsKeepValues, MadeTermsHaveSorts}
use Rattle.sym_terms.proofs.Equal.{same_term-true}
use Rattle.sym_block_def.specs.Agree.{has_unknown, same_known, agrees}
use Rattle.sym_block_def.specs.Stands.{Stands}
use Rattle.simulation_law.specs.Linked.{WordStands, EnvsStand, AgreeingTermsStand}
use Rattle.simulation_law.proofs.Same.{IsFor, is_for_stands, may_knows, SameStands, same_stands}

not_is : (b : Bool) → not b ≡ true → b ≡ false
not_is true e = absurd (cc)
not_is false e = refl

module _ (keep : MadeTermsKeepValues) (sorts : MadeTermsHaveSorts) (offset : Place → Option ℕ) (e : Env80) (d : Env86) (envs : EnvsStand offset e d) where
  -- one term
  known_stands : (s t : Term) → same_known s t ≡ true → (s ≡ t) × SameStands offset e d s
  known_stands s t h = let p = and_parts (same_term s t) (not (has_unknown s)) h in (same_term-true s t p.0, same_stands offset e d envs s (not_is (has_unknown s) p.1))

  known_byte : (s t : Term) (c : Cell) (n : ℕ) → same_known s t ≡ true → Val80 e s (Byte c) → Val86 d t (Number n) → IsFor offset c n
  known_byte s t c n h v w = let k = known_stands s t h in k.1.byte c n v (subst (λ x. Val86 d x (Number n)) (sym k.0) w)

  known_word : (s t : Term) (x y : Cell) (n : ℕ) → same_known s t ≡ true → Val80 e s (Word x y) → Val86 d t (Number n) → IsFor offset x (n / 256) × IsFor offset y (n % 256)
  known_word s t x y n h v w = let k = known_stands s t h in k.1.word x y n v (subst (λ z. Val86 d z (Number n)) (sym k.0) w)

  known_flag : (s t : Term) (o : Option Bool) (b : Bool) → same_known s t ≡ true → Val80 e s (OneBit o) → Val86 d t (Number (as_bit b)) → Knows o b
  known_flag s t o b h v w = let k = known_stands s t h in may_knows o b (k.1.bit o (as_bit b) v (subst (λ z. Val86 d z (Number (as_bit b))) (sym k.0) w))

  -- flags
  pub flags_stand : (s t : Term) (o : Option Bool) (b : Bool) → agrees s t ≡ true → Val80 e s (OneBit o) → Val86 d t (Number (as_bit b)) → Knows o b
  flags_stand Unknown t o b h v w = subst (λ x. Knows x b) (sym v) tt
  flags_stand (Join x y) t o b h v w = absurd v
  flags_stand (FlagByte s z ac p cy) t o b h v w = absurd v
  flags_stand s t o b h v w = known_flag s t o b h v w

  -- bytes
  pub bytes_stand : (s t : Term) (c : Cell) (n : ℕ) → IsMadeAs is_byte t → agrees s t ≡ true → Val80 e s (Byte c) → Val86 d t (Number n) → n < 256 → Stands offset c n
  bytes_stand Unknown t c n m h v w lt = let differ : Some v.0 ≡ None = v.1 in absurd (cc)
  bytes_stand (Join x y) t c n m h v w lt = absurd v
  bytes_stand (FlagByte s z ac p cy) t c n m h v w lt =
      ⊎_elim
      (λ k. is_for_stands offset c n lt (known_byte (FlagByte s z ac p cy) t c n k v w))
      (λ k.
      let f = v.0 in
      let law = keep.on_8086 d in
      let a0 = and_parts (agrees s (bit t S)) _ k in
      let a1 = and_parts (agrees z (bit t Z)) _ a0.1 in
      let a2 = and_parts (agrees ac (bit t Ac)) _ a1.1 in
      let a3 = and_parts (agrees p (bit t P)) _ a2.1 in
      let bits : KnowsBits f n = record {
        s = flags_stand s (bit t S) f.s (has_bit n 7) a0.0 v.1 (law.bit t S (Number (as_bit (has_bit n 7))) m refl (n, has_bit n 7, w, refl, refl));
        z = flags_stand z (bit t Z) f.z (has_bit n 6) a1.0 v.2 (law.bit t Z (Number (as_bit (has_bit n 6))) m refl (n, has_bit n 6, w, refl, refl));
        ac = flags_stand ac (bit t Ac) f.ac (has_bit n 4) a2.0 v.3 (law.bit t Ac (Number (as_bit (has_bit n 4))) m refl (n, has_bit n 4, w, refl, refl));
        p = flags_stand p (bit t P) f.p (has_bit n 2) a3.0 v.4 (law.bit t P (Number (as_bit (has_bit n 2))) m refl (n, has_bit n 2, w, refl, refl));
        cy = flags_stand cy (bit t Cy) f.cy (has_bit n 0) a3.1 v.5 (law.bit t Cy (Number (as_bit (has_bit n 0))) m refl (n, has_bit n 0, w, refl, refl));
      } in
      subst (λ x. Stands offset x n) (sym v.6) (lt, bits))
      (or_cases (same_known (FlagByte s z ac p cy) t) _ h)
  bytes_stand s t c n m h v w lt = is_for_stands offset c n lt (known_byte s t c n h v w)

  -- words
  high_small : (n : ℕ) → n < 0x10000 → n / 256 < 256
  high_small n lt = omega (arith, lt)

  low_small : (n : ℕ) → n % 256 < 256
  low_small n = omega arith

  known_word_stands : (s t : Term) (x y : Cell) (n : ℕ) → same_known s t ≡ true → Val80 e s (Word x y) → Val86 d t (Number n) → n < 0x10000 → WordStands offset x y n
  known_word_stands s t x y n h v w lt = let k = known_word s t x y n h v w in (is_for_stands offset x (n / 256) (high_small n lt) k.0, is_for_stands offset y (n % 256) (low_small n) k.1)

  pub words_stand : (s t : Term) (x y : Cell) (n : ℕ) → IsMadeAs is_word t → agrees s t ≡ true → Val80 e s (Word x y) → Val86 d t (Number n) → n < 0x10000 → WordStands offset x y n
  words_stand Unknown t x y n m h v w lt = absurd v
  words_stand (FlagByte s z ac p cy) t x y n m h v w lt = absurd v
  words_stand (Join a b) t x y n m h v w lt =
      ⊎_elim
      (λ k. known_word_stands (Join a b) t x y n k v w lt)
      (λ k.
      let law = keep.on_8086 d in
      let p = and_parts (agrees a (high t)) (agrees b (low t)) k in (
        bytes_stand a (high t) x (n / 256) (sorts.high t m) p.0 v.0 (law.high t (Number (n / 256)) m (n, w, refl)) (high_small n lt),
        bytes_stand b (low t) y (n % 256) (sorts.low t m) p.1 v.1 (law.low t (Number (n % 256)) m (n, w, refl)) (low_small n),
      ))
      (or_cases (same_known (Join a b) t) _ h)
  words_stand s t x y n m h v w lt = known_word_stands s t x y n h v w lt

pub agreeing_stand : MadeTermsKeepValues → MadeTermsHaveSorts → AgreeingTermsStand
agreeing_stand keep sorts = record {
  byte = λ offset e d s t c n envs m h v w lt. bytes_stand keep sorts offset e d envs s t c n m h v w lt;
  word = λ offset e d s t x y n envs m h v w lt. words_stand keep sorts offset e d envs s t x y n m h v w lt;
  flag = λ offset e d s t o b envs h v w. flags_stand keep sorts offset e d envs s t o b h v w;
}
