-- One term, in which nothing is unknown, on both machines.
use Rattle.std.proofs.Common.{◌≡◌, ℕ, zero, suc, ◌+◌, ◌/◌, ◌%◌, ◌<◌, ◌||◌, Bool, true, false, List, [], ◌∷◌, Option, Some, None, refl, sym, ap, subst, ◌∙◌, arith}
use Rattle.std.specs.Prelude.{slice_get}
use Rattle.std.proofs.lemmas.Bool.{or_parts}
use Rattle.cells.specs.declared.Place.{Place}
use Rattle.cells.specs.declared.Flags.{Flags}
use Rattle.cells.specs.declared.Cell.{Cell}
use Rattle.cells.specs.declared.Cell.TheVariants.{Num as NumCell, Lo, Hi, Psw, Junk}
use Rattle.cells.specs.declared.Part.{Part}
use Rattle.cells.specs.declared.Part.TheVariants.{A, B, C, D, E, H, L, S, Z, Ac, P, Cy}
use Rattle.cells.specs.Bits.{has_bit}
use Rattle.cells.specs.Conditions.{flags_of_byte, Knows, KnowsBits}
use Rattle.base.specs.Arithmetic.{as_bit, daa_result, daa_carry, daa_excepted}
use Rattle.base.specs.Operations.{flags_by, result_of, flags_of, flags_in}
use Rattle.base.proofs.Bytes.{bit_small}
use Rattle.sym_terms.specs.Term.{Term, Num, Start, StartSp, Loaded8, Loaded16, Alu, Flag, Sum16, High, Low, Join, FlagByte, Bit, Turn, Turned, Adjust, Code, Unknown}
use Rattle.sym_terms.specs.Values80.{Env80, Load80, LoadedByte, LoadedWord, Byte, Word, OneBit, Result, Val80, flag_in, turn_result, turn_flags}
use Rattle.sym_terms.specs.Values86.{Env86, Load86, LoadedByte as LoadedByte86, LoadedWord as LoadedWord86, Number, Result as Result86, MayBe, Adjusts, Val86}
use Rattle.sym_block_def.specs.Agree.{has_unknown}
use Rattle.sym_block_def.specs.Stands.{IsHalf, Stands}
use Rattle.simulation_law.specs.Linked.{WordStands, LoadsStand, EnvsStand}

-- a cell stands for a number, of which it is not said that it is a byte
abbrev pub IsFor : (Place → Option ℕ) → Cell → ℕ → Type 0
IsFor offset (NumCell n) b = b ≡ n
IsFor offset (Lo q) b = IsHalf (λ n. n % 256) (offset q) b
IsFor offset (Hi q) b = IsHalf (λ n. n / 256) (offset q) b
IsFor offset (Psw f) b = KnowsBits f b
IsFor offset Junk b = Unit {0}

pub stands_is_for : (offset : Place → Option ℕ) (c : Cell) (n : ℕ) → Stands offset c n → IsFor offset c n
stands_is_for offset (NumCell m) n h = h
stands_is_for offset (Lo q) n h = h
stands_is_for offset (Hi q) n h = h
stands_is_for offset (Psw f) n h = h.1
stands_is_for offset Junk n h = tt

pub is_for_stands : (offset : Place → Option ℕ) (c : Cell) (n : ℕ) → n < 256 → IsFor offset c n → Stands offset c n
is_for_stands offset (NumCell m) n lt h = h
is_for_stands offset (Lo q) n lt h = h
is_for_stands offset (Hi q) n lt h = h
is_for_stands offset (Psw f) n lt h = (lt, h)
is_for_stands offset Junk n lt h = lt

bit_is : (b c : Bool) → as_bit b ≡ as_bit c → b ≡ c
bit_is true true e = refl
bit_is false false e = refl
bit_is true false e = absurd (omega arith)
bit_is false true e = absurd (omega arith)

pub knows_may : (o : Option Bool) (b : Bool) → Knows o b → MayBe o (as_bit b)
knows_may None b h = bit_small b
knows_may (Some c) b h = ap as_bit h

pub may_knows : (o : Option Bool) (b : Bool) → MayBe o (as_bit b) → Knows o b
may_knows None b h = tt
may_knows (Some c) b h = bit_is b c h

-- what the two machines have for one term
pub record SameStands (offset : Place → Option ℕ) (e : Env80) (d : Env86) (t : Term) : Type 0 where
  pub byte : (c : Cell) (n : ℕ) → Val80 e t (Byte c) → Val86 d t (Number n) → IsFor offset c n
  pub word : (h l : Cell) (w : ℕ) → Val80 e t (Word h l) → Val86 d t (Number w) → IsFor offset h (w / 256) × IsFor offset l (w % 256)
  pub bit : (o : Option Bool) (i : ℕ) → Val80 e t (OneBit o) → Val86 d t (Number i) → MayBe o i
  pub result : (n m : ℕ) (f g : Flags) → Val80 e t (Result n f) → Val86 d t (Result86 m g) → (m ≡ n) × (g ≡ f)

-- the n-th load
nth_load8 : (offset : Place → Option ℕ) (xs : List Load80) (ys : List Load86) (k : ℕ) (c : Cell) (n : ℕ) → LoadsStand offset xs ys → slice_get xs k ≡ Some (LoadedByte c) → slice_get ys k ≡ Some (LoadedByte86 n) → Stands offset c n
nth_load8 offset [] [] k c n h e f = absurd (cc)
nth_load8 offset (LoadedByte b ∷ xs) (LoadedByte86 m ∷ ys) zero c n h e f = subst (λ x. Stands offset x n) (byte_is b c e) (subst (λ x. Stands offset b x) (number_is m n f) h.0)
  where
    byte_is : (b c : Cell) → ◌≡◌ {A = Option Load80} (Some (LoadedByte b)) (Some (LoadedByte c)) → b ≡ c
    byte_is b c e = cc

    number_is : (m n : ℕ) → ◌≡◌ {A = Option Load86} (Some (LoadedByte86 m)) (Some (LoadedByte86 n)) → m ≡ n
    number_is m n e = cc
nth_load8 offset (LoadedByte b ∷ xs) (LoadedByte86 m ∷ ys) (suc k) c n h e f = nth_load8 offset xs ys k c n h.1 e f
nth_load8 offset (LoadedWord p q ∷ xs) (LoadedWord86 m ∷ ys) zero c n h e f = absurd (cc)
nth_load8 offset (LoadedWord p q ∷ xs) (LoadedWord86 m ∷ ys) (suc k) c n h e f = nth_load8 offset xs ys k c n h.1 e f
nth_load8 offset [] (y ∷ ys) k c n h e f = absurd h
nth_load8 offset (LoadedByte b ∷ xs) [] k c n h e f = absurd h
nth_load8 offset (LoadedWord p q ∷ xs) [] k c n h e f = absurd h
nth_load8 offset (LoadedByte b ∷ xs) (LoadedWord86 m ∷ ys) k c n h e f = absurd h
nth_load8 offset (LoadedWord p q ∷ xs) (LoadedByte86 m ∷ ys) k c n h e f = absurd h

nth_load16 : (offset : Place → Option ℕ) (xs : List Load80) (ys : List Load86) (k : ℕ) (p q : Cell) (w : ℕ) → LoadsStand offset xs ys → slice_get xs k ≡ Some (LoadedWord p q) → slice_get ys k ≡ Some (LoadedWord86 w) → WordStands offset p q w
nth_load16 offset [] [] k p q w h e f = absurd (cc)
nth_load16 offset (LoadedWord x y ∷ xs) (LoadedWord86 m ∷ ys) zero p q w h e f =
    subst (λ z. WordStands offset p q z) (number_is m w f) (subst (λ z. WordStands offset p z m) (low_is x y p q e) (subst (λ z. WordStands offset z y m) (high_is x y p q e) h.0))
  where
    high_is : (x y p q : Cell) → ◌≡◌ {A = Option Load80} (Some (LoadedWord x y)) (Some (LoadedWord p q)) → x ≡ p
    high_is x y p q e = cc

    low_is : (x y p q : Cell) → ◌≡◌ {A = Option Load80} (Some (LoadedWord x y)) (Some (LoadedWord p q)) → y ≡ q
    low_is x y p q e = cc

    number_is : (m n : ℕ) → ◌≡◌ {A = Option Load86} (Some (LoadedWord86 m)) (Some (LoadedWord86 n)) → m ≡ n
    number_is m n e = cc
nth_load16 offset (LoadedWord x y ∷ xs) (LoadedWord86 m ∷ ys) (suc k) p q w h e f = nth_load16 offset xs ys k p q w h.1 e f
nth_load16 offset (LoadedByte b ∷ xs) (LoadedByte86 m ∷ ys) zero p q w h e f = absurd (cc)
nth_load16 offset (LoadedByte b ∷ xs) (LoadedByte86 m ∷ ys) (suc k) p q w h e f = nth_load16 offset xs ys k p q w h.1 e f
nth_load16 offset [] (y ∷ ys) k p q w h e f = absurd h
nth_load16 offset (LoadedByte b ∷ xs) [] k p q w h e f = absurd h
nth_load16 offset (LoadedWord x y ∷ xs) [] k p q w h e f = absurd h
nth_load16 offset (LoadedByte b ∷ xs) (LoadedWord86 m ∷ ys) k p q w h e f = absurd h
nth_load16 offset (LoadedWord x y ∷ xs) (LoadedByte86 m ∷ ys) k p q w h e f = absurd h

-- a half of an offset
half_is : (half : ℕ → ℕ) (o : Option ℕ) (n i : ℕ) → o ≡ Some n → i ≡ half n → IsHalf half o i
half_is half None n i e h = absurd (cc)
half_is half (Some m) n i e h = let same : m ≡ n = some_is m n e in h ∙ ap half (sym same)
  where
    some_is : (m n : ℕ) → ◌≡◌ {A = Option ℕ} (Some m) (Some n) → m ≡ n
    some_is m n e = cc

-- a bit as a byte
bit_byte : (offset : Place → Option ℕ) (b : Bool) (c : Cell) (n : ℕ) → c ≡ NumCell (as_bit b) → MayBe (Some b) n → IsFor offset c n
bit_byte offset b c n e m = subst (λ x. IsFor offset x n) (sym e) m

-- words of equal halves
pub word_is : (m n : ℕ) → n / 256 ≡ m / 256 → n % 256 ≡ m % 256 → n ≡ m
word_is m n h l = omega (arith, h, l)

-- a flag of a byte
known_flag : (f : Flags) (n : ℕ) (part : Part) (k : Bool) → KnowsBits f n → flag_in (flags_of_byte n) part ≡ Some k → MayBe (flag_in f part) (as_bit k)
known_flag f n S k h e = let same : has_bit n 7 ≡ k = some_is e in knows_may f.s k (subst (Knows f.s) same h.s)
  where
    some_is : {a b : Bool} → ◌≡◌ {A = Option Bool} (Some a) (Some b) → a ≡ b
    some_is e = cc
known_flag f n Z k h e = let same : has_bit n 6 ≡ k = some_is e in knows_may f.z k (subst (Knows f.z) same h.z)
  where
    some_is : {a b : Bool} → ◌≡◌ {A = Option Bool} (Some a) (Some b) → a ≡ b
    some_is e = cc
known_flag f n Ac k h e = let same : has_bit n 4 ≡ k = some_is e in knows_may f.ac k (subst (Knows f.ac) same h.ac)
  where
    some_is : {a b : Bool} → ◌≡◌ {A = Option Bool} (Some a) (Some b) → a ≡ b
    some_is e = cc
known_flag f n P k h e = let same : has_bit n 2 ≡ k = some_is e in knows_may f.p k (subst (Knows f.p) same h.p)
  where
    some_is : {a b : Bool} → ◌≡◌ {A = Option Bool} (Some a) (Some b) → a ≡ b
    some_is e = cc
known_flag f n Cy k h e = let same : has_bit n 0 ≡ k = some_is e in knows_may f.cy k (subst (Knows f.cy) same h.cy)
  where
    some_is : {a b : Bool} → ◌≡◌ {A = Option Bool} (Some a) (Some b) → a ≡ b
    some_is e = cc
known_flag f n part k h e = absurd (cc)

none_is : (part : Part) → flag_in (record { s = None; z = None; ac = None; p = None; cy = None }) part ≡ None
none_is S = refl
none_is Z = refl
none_is Ac = refl
none_is P = refl
none_is Cy = refl
none_is part = refl

flag_of_cell : (offset : Place → Option ℕ) (c : Cell) (n : ℕ) (part : Part) (k : Bool) → IsFor offset c n → flag_in (flags_of_byte n) part ≡ Some k → MayBe (flag_in (flags_in c) part) (as_bit k)
flag_of_cell offset (NumCell m) n part k h e =
    let same : flag_in (flags_of_byte m) part ≡ Some k = ap (λ x. flag_in (flags_of_byte x) part) (sym h) ∙ e in
    subst (λ o. MayBe o (as_bit k)) (sym same) refl
flag_of_cell offset (Psw f) n part k h e = known_flag f n part k h e
flag_of_cell offset (Lo q) n part k h e = subst (λ o. MayBe o (as_bit k)) (sym (none_is part)) (bit_small k)
flag_of_cell offset (Hi q) n part k h e = subst (λ o. MayBe o (as_bit k)) (sym (none_is part)) (bit_small k)
flag_of_cell offset Junk n part k h e = subst (λ o. MayBe o (as_bit k)) (sym (none_is part)) (bit_small k)

module _ (offset : Place → Option ℕ) (e : Env80) (d : Env86) (envs : EnvsStand offset e d) where
  -- an operation by its number and flags
  of_result : (t : Term) → ((n m : ℕ) (f g : Flags) → Val80 e t (Result n f) → Val86 d t (Result86 m g) → (m ≡ n) × (g ≡ f)) → ((c : Cell) → Val80 e t (Byte c) → (n : ℕ) × (f : Flags) × Val80 e t (Result n f) × (c ≡ NumCell n)) → ((o : Option Bool) → Val80 e t (OneBit o) → (b : Bool) × (f : Flags) × Val80 e t (Result (as_bit b) f) × (o ≡ Some b)) → ((n : ℕ) → Val86 d t (Number n) → (g : Flags) × Val86 d t (Result86 n g)) → ((h l : Cell) → Val80 e t (Word h l) → ⊥) → SameStands offset e d t
  of_result t same as_byte as_one number no_word = record {
    byte = λ c n v w. let a = as_byte c v in let b = number n w in subst (λ x. IsFor offset x n) (sym a.3) (same a.0 n a.1 b.0 a.2 b.1).0;
    word = λ h l w v u. absurd (no_word h l v);
    bit = λ o i v w. let a = as_one o v in let b = number i w in subst (λ x. MayBe x i) (sym a.3) (same (as_bit a.0) i a.1 b.0 a.2 b.1).0;
    result = same;
  }

  -- a flag or a bit
  of_bit : (t : Term) → ((o : Option Bool) (i : ℕ) → Val80 e t (OneBit o) → Val86 d t (Number i) → MayBe o i) → ((c : Cell) → Val80 e t (Byte c) → (b : Bool) × Val80 e t (OneBit (Some b)) × (c ≡ NumCell (as_bit b))) → ((h l : Cell) → Val80 e t (Word h l) → ⊥) → ((n : ℕ) (f : Flags) → Val80 e t (Result n f) → ⊥) → SameStands offset e d t
  of_bit t same as_byte no_word no_result = record {
    byte = λ c n v w. let a = as_byte c v in bit_byte offset a.0 c n a.2 (same (Some a.0) n a.1 w);
    word = λ h l w v u. absurd (no_word h l v);
    bit = same;
    result = λ n m f g v w. absurd (no_result n f v);
  }

  of_byte : (t : Term) → ((c : Cell) (n : ℕ) → Val80 e t (Byte c) → Val86 d t (Number n) → IsFor offset c n) → ((h l : Cell) → Val80 e t (Word h l) → ⊥) → ((o : Option Bool) → Val80 e t (OneBit o) → ⊥) → ((n : ℕ) (f : Flags) → Val80 e t (Result n f) → ⊥) → SameStands offset e d t
  of_byte t same no_word no_bit no_result = record {
    byte = same;
    word = λ h l w v u. absurd (no_word h l v);
    bit = λ o i v w. absurd (no_bit o v);
    result = λ n m f g v w. absurd (no_result n f v);
  }

  of_word : (t : Term) → ((h l : Cell) (w : ℕ) → Val80 e t (Word h l) → Val86 d t (Number w) → IsFor offset h (w / 256) × IsFor offset l (w % 256)) → ((c : Cell) → Val80 e t (Byte c) → ⊥) → ((o : Option Bool) → Val80 e t (OneBit o) → ⊥) → ((n : ℕ) (f : Flags) → Val80 e t (Result n f) → ⊥) → SameStands offset e d t
  of_word t same no_byte no_bit no_result = record {
    byte = λ c n v w. absurd (no_byte c v);
    word = same;
    bit = λ o i v w. absurd (no_bit o v);
    result = λ n m f g v w. absurd (no_result n f v);
  }

  started : (q : Part) → SameStands offset e d (Start q)
  started A = of_byte (Start A) (λ c n v w. stands_is_for offset c n (subst (λ x. Stands offset x n) (sym v) (subst (λ x. Stands offset e.a x) (sym w) (envs.starts A)))) (λ h l v. v) (λ o v. v) (λ n f v. v)
  started B = of_byte (Start B) (λ c n v w. stands_is_for offset c n (subst (λ x. Stands offset x n) (sym v) (subst (λ x. Stands offset e.b x) (sym w) (envs.starts B)))) (λ h l v. v) (λ o v. v) (λ n f v. v)
  started C = of_byte (Start C) (λ c n v w. stands_is_for offset c n (subst (λ x. Stands offset x n) (sym v) (subst (λ x. Stands offset e.c x) (sym w) (envs.starts C)))) (λ h l v. v) (λ o v. v) (λ n f v. v)
  started D = of_byte (Start D) (λ c n v w. stands_is_for offset c n (subst (λ x. Stands offset x n) (sym v) (subst (λ x. Stands offset e.d x) (sym w) (envs.starts D)))) (λ h l v. v) (λ o v. v) (λ n f v. v)
  started E = of_byte (Start E) (λ c n v w. stands_is_for offset c n (subst (λ x. Stands offset x n) (sym v) (subst (λ x. Stands offset e.e x) (sym w) (envs.starts E)))) (λ h l v. v) (λ o v. v) (λ n f v. v)
  started H = of_byte (Start H) (λ c n v w. stands_is_for offset c n (subst (λ x. Stands offset x n) (sym v) (subst (λ x. Stands offset e.h x) (sym w) (envs.starts H)))) (λ h l v. v) (λ o v. v) (λ n f v. v)
  started L = of_byte (Start L) (λ c n v w. stands_is_for offset c n (subst (λ x. Stands offset x n) (sym v) (subst (λ x. Stands offset e.l x) (sym w) (envs.starts L)))) (λ h l v. v) (λ o v. v) (λ n f v. v)
  started S = of_bit (Start S) (λ o i v w. subst (λ x. MayBe x i) (sym v) (subst (λ x. MayBe e.flags.s x) (sym w) (knows_may e.flags.s d.s (envs.starts S)))) (λ c v. v) (λ h l v. v) (λ n f v. v)
  started Z = of_bit (Start Z) (λ o i v w. subst (λ x. MayBe x i) (sym v) (subst (λ x. MayBe e.flags.z x) (sym w) (knows_may e.flags.z d.z (envs.starts Z)))) (λ c v. v) (λ h l v. v) (λ n f v. v)
  started Ac = of_bit (Start Ac) (λ o i v w. subst (λ x. MayBe x i) (sym v) (subst (λ x. MayBe e.flags.ac x) (sym w) (knows_may e.flags.ac d.ac (envs.starts Ac)))) (λ c v. v) (λ h l v. v) (λ n f v. v)
  started P = of_bit (Start P) (λ o i v w. subst (λ x. MayBe x i) (sym v) (subst (λ x. MayBe e.flags.p x) (sym w) (knows_may e.flags.p d.p (envs.starts P)))) (λ c v. v) (λ h l v. v) (λ n f v. v)
  started Cy = of_bit (Start Cy) (λ o i v w. subst (λ x. MayBe x i) (sym v) (subst (λ x. MayBe e.flags.cy x) (sym w) (knows_may e.flags.cy d.cy (envs.starts Cy)))) (λ c v. v) (λ h l v. v) (λ n f v. v)

  -- operands of an operation
  same_number : (t : Term) → SameStands offset e d t → (x y : ℕ) → Val80 e t (Byte (NumCell x)) → Val86 d t (Number y) → y ≡ x
  same_number t s x y v w = s.byte (NumCell x) y v w

  same_bit : (t : Term) → SameStands offset e d t → (b c : Bool) → Val80 e t (OneBit (Some b)) → Val86 d t (Number (as_bit c)) → c ≡ b
  same_bit t s b c v w = bit_is c b (s.bit (Some b) (as_bit c) v w)

  pub same_stands : (t : Term) → has_unknown t ≡ false → SameStands offset e d t
  same_stands (Num k) u = record {
    byte = λ c n v w. subst (λ x. IsFor offset x n) (sym v.1) w;
    word = λ h l n v w. (subst (λ x. IsFor offset x (n / 256)) (sym v.1) (ap (λ x. x / 256) w), subst (λ x. IsFor offset x (n % 256)) (sym v.2) (ap (λ x. x % 256) w));
    bit = λ o i v w. subst (λ x. MayBe x i) (sym v.2) (w ∙ v.1);
    result = λ n m f g v w. absurd v;
  }
  same_stands (Start q) u = started q
  same_stands StartSp u = of_word StartSp
      (λ h l n v w. let same : n ≡ e.sp = w ∙ envs.sp in (subst (λ x. IsFor offset x (n / 256)) (sym v.0) (ap (λ x. x / 256) same), subst (λ x. IsFor offset x (n % 256)) (sym v.1) (ap (λ x. x % 256) same)))
      (λ c v. v) (λ o v. v) (λ n f v. v)
  same_stands (Loaded8 k) u = of_byte (Loaded8 k) (λ c n v w. stands_is_for offset c n (nth_load8 offset e.loads d.loads k c n envs.loads v w)) (λ h l v. v) (λ o v. v) (λ n f v. v)
  same_stands (Loaded16 k) u = of_word (Loaded16 k)
      (λ h l n v w. let s = nth_load16 offset e.loads d.loads k h l n envs.loads v w in (stands_is_for offset h (n / 256) s.0, stands_is_for offset l (n % 256) s.1))
      (λ c v. v) (λ o v. v) (λ n f v. v)
  same_stands (Alu op a b c) u =
      let ua = or_parts (has_unknown a) (has_unknown b || has_unknown c) u in
      let ub = or_parts (has_unknown b) (has_unknown c) ua.1 in
      let sa = same_stands a ua.0 in
      let sb = same_stands b ub.0 in
      let sc = same_stands c ub.1 in
      of_result (Alu op a b c)
      (λ n m f g v w.
      let x = same_number a sa v.0 w.0 v.3 w.3 in
      let y = same_number b sb v.1 w.1 v.4 w.4 in
      let k = same_bit c sc v.2 w.2 v.5 w.5 in
      let number : result_of op w.0 w.1 (as_bit w.2) ≡ result_of op v.0 v.1 (as_bit v.2) = ap (λ q. result_of op q w.1 (as_bit w.2)) x ∙ ap (λ q. result_of op v.0 q (as_bit w.2)) y ∙ ap (λ q. result_of op v.0 v.1 (as_bit q)) k in
      let flags : flags_of op w.0 w.1 (as_bit w.2) ≡ flags_of op v.0 v.1 (as_bit v.2) = ap (λ q. flags_of op q w.1 (as_bit w.2)) x ∙ ap (λ q. flags_of op v.0 q (as_bit w.2)) y ∙ ap (λ q. flags_of op v.0 v.1 (as_bit q)) k in
      (w.6 ∙ number ∙ sym v.6, w.7 ∙ flags ∙ sym v.7))
      (λ q v. v) (λ o v. v) (λ n w. w) (λ h l v. v)
  same_stands (Flag part r) u =
      let s = same_stands r u in
      of_bit (Flag part r)
      (λ o i v w. let same = s.result v.0 w.0 v.1 w.1 v.2 w.2 in subst (λ x. MayBe x i) (sym v.3) (subst (λ (f : Flags). MayBe (flag_in f part) i) same.1 w.3))
      (λ c v. v) (λ h l v. v) (λ n f v. v)
  same_stands (Sum16 a b) u =
      let ua = or_parts (has_unknown a) (has_unknown b) u in
      let sa = same_stands a ua.0 in
      let sb = same_stands b ua.1 in
      of_word (Sum16 a b)
      (λ h l n v w.
      let pa = sa.word (NumCell (v.0 / 256)) (NumCell (v.0 % 256)) w.0 v.4 w.4 in
      let pb = sb.word (NumCell (v.1 / 256)) (NumCell (v.1 % 256)) w.1 v.5 w.5 in
      let x = word_is v.0 w.0 pa.0 pa.1 in
      let y = word_is v.1 w.1 pb.0 pb.1 in
      let sum : n ≡ (v.0 + v.1) % 0x10000 = w.6 ∙ ap (λ q. (q + w.1) % 0x10000) x ∙ ap (λ q. (v.0 + q) % 0x10000) y in
      (subst (λ c. IsFor offset c (n / 256)) (sym v.6) (ap (λ q. q / 256) sum), subst (λ c. IsFor offset c (n % 256)) (sym v.7) (ap (λ q. q % 256) sum)))
      (λ c v. v) (λ o v. v) (λ n f v. v)
  same_stands (High x) u =
      let s = same_stands x u in
      of_byte (High x) (λ c n v w. subst (λ q. IsFor offset c q) (sym w.2) (s.word c v.0 w.0 v.1 w.1).0) (λ h l v. v) (λ o v. v) (λ n f v. v)
  same_stands (Low x) u =
      let s = same_stands x u in
      of_byte (Low x) (λ c n v w. subst (λ q. IsFor offset c q) (sym w.2) (s.word v.0 c w.0 v.1 w.1).1) (λ h l v. v) (λ o v. v) (λ n f v. v)
  same_stands (Join x y) u =
      let ua = or_parts (has_unknown x) (has_unknown y) u in
      let sx = same_stands x ua.0 in
      let sy = same_stands y ua.1 in
      of_word (Join x y)
      (λ h l n v w.
      let eq = w.6 in
      let lx = w.2 in
      let ly = w.3 in
      let high : w.0 ≡ n / 256 = omega (arith, eq, lx, ly) in
      let low : w.1 ≡ n % 256 = omega (arith, eq, lx, ly) in
      (subst (λ q. IsFor offset h q) high (sx.byte h w.0 v.0 w.4), subst (λ q. IsFor offset l q) low (sy.byte l w.1 v.1 w.5)))
      (λ c v. v) (λ o v. v) (λ n f v. v)
  same_stands (FlagByte s z ac p cy) u =
      let us = or_parts (has_unknown s) (has_unknown z || (has_unknown ac || (has_unknown p || has_unknown cy))) u in
      let uz = or_parts (has_unknown z) (has_unknown ac || (has_unknown p || has_unknown cy)) us.1 in
      let ua = or_parts (has_unknown ac) (has_unknown p || has_unknown cy) uz.1 in
      let up = or_parts (has_unknown p) (has_unknown cy) ua.1 in
      let ss = same_stands s us.0 in
      let sz = same_stands z uz.0 in
      let sa = same_stands ac ua.0 in
      let sp = same_stands p up.0 in
      let sc = same_stands cy up.1 in
      of_byte (FlagByte s z ac p cy)
      (λ c n v w.
      let f = v.0 in
      subst (λ x. IsFor offset x n) (sym v.6)
      (record {
        s = may_knows f.s (has_bit n 7) (ss.bit f.s (as_bit (has_bit n 7)) v.1 w.1);
        z = may_knows f.z (has_bit n 6) (sz.bit f.z (as_bit (has_bit n 6)) v.2 w.2);
        ac = may_knows f.ac (has_bit n 4) (sa.bit f.ac (as_bit (has_bit n 4)) v.3 w.3);
        p = may_knows f.p (has_bit n 2) (sp.bit f.p (as_bit (has_bit n 2)) v.4 w.4);
        cy = may_knows f.cy (has_bit n 0) (sc.bit f.cy (as_bit (has_bit n 0)) v.5 w.5);
      }))
      (λ h l v. v) (λ o v. v) (λ n f v. v)
  same_stands (Bit b part) u =
      let s = same_stands b u in
      of_bit (Bit b part)
      (λ o i v w. subst (λ x. MayBe x i) (sym v.2) (subst (λ x. MayBe (flag_in (flags_in v.0) part) x) (sym w.4) (flag_of_cell offset v.0 w.0 part w.1 (s.byte v.0 w.0 v.1 w.2) w.3)))
      (λ c v. v) (λ h l v. v) (λ n f v. v)
  same_stands (Turn kind a c) u =
      let ua = or_parts (has_unknown a) (has_unknown c) u in
      let sa = same_stands a ua.0 in
      let sc = same_stands c ua.1 in
      of_result (Turn kind a c)
      (λ n m f g v w.
      let x = same_number a sa v.0 w.0 v.2 w.2 in
      let k = same_bit c sc v.1 w.1 v.3 w.3 in
      let number : turn_result kind w.0 w.1 ≡ turn_result kind v.0 v.1 = ap (λ q. turn_result kind q w.1) x ∙ ap (λ q. turn_result kind v.0 q) k in
      let flags : turn_flags kind w.0 ≡ turn_flags kind v.0 = ap (λ q. turn_flags kind q) x in
      (w.4 ∙ number ∙ sym v.4, w.5 ∙ flags ∙ sym v.5))
      (λ q v. v) (λ o v. v) (λ n w. w) (λ h l v. v)
  same_stands (Turned c) u = record {
    byte = λ x n v w. absurd v;
    word = λ h l n v w. absurd v;
    bit = λ o i v w. absurd v;
    result = λ n m f g v w. absurd v;
  }
  same_stands (Adjust a ac cy) u =
      let ua = or_parts (has_unknown a) (has_unknown ac || has_unknown cy) u in
      let uh = or_parts (has_unknown ac) (has_unknown cy) ua.1 in
      let sa = same_stands a ua.0 in
      let sh = same_stands ac uh.0 in
      let sk = same_stands cy uh.1 in
      of_result (Adjust a ac cy)
      (λ n m f g v w.
      let x = same_number a sa v.0 w.0 v.3 w.3 in
      let h = same_bit ac sh v.1 w.1 v.4 w.4 in
      let k = same_bit cy sk v.2 w.2 v.5 w.5 in
      let usual : daa_excepted w.0 w.1 w.2 ≡ false = ap (λ q. daa_excepted q w.1 w.2) x ∙ ap (λ q. daa_excepted v.0 q w.2) h ∙ ap (λ q. daa_excepted v.0 v.1 q) k ∙ v.6 in
      let adjusted : Adjusts false w.0 w.1 w.2 m g = subst (λ b. Adjusts b w.0 w.1 w.2 m g) usual w.6 in
      let number : daa_result w.0 w.1 w.2 ≡ daa_result v.0 v.1 v.2 = ap (λ q. daa_result q w.1 w.2) x ∙ ap (λ q. daa_result v.0 q w.2) h ∙ ap (λ q. daa_result v.0 v.1 q) k in
      let carry : daa_carry w.0 w.1 w.2 ≡ daa_carry v.0 v.1 v.2 = ap (λ q. daa_carry q w.1 w.2) x ∙ ap (λ q. daa_carry v.0 q w.2) h ∙ ap (λ q. daa_carry v.0 v.1 q) k in
      let flags : flags_by (daa_result w.0 w.1 w.2) None (Some (daa_carry w.0 w.1 w.2)) ≡ flags_by (daa_result v.0 v.1 v.2) None (Some (daa_carry v.0 v.1 v.2)) = ap (λ q. flags_by q None (Some (daa_carry w.0 w.1 w.2))) number ∙ ap (λ q. flags_by (daa_result v.0 v.1 v.2) None (Some q)) carry in
      (adjusted.0 ∙ number ∙ sym v.7, adjusted.1 ∙ flags ∙ sym v.8))
      (λ q v. v) (λ o v. v) (λ n w. w) (λ h l v. v)
  same_stands (Code q true) u = of_byte (Code q true) (λ c n v w. subst (λ x. IsFor offset x n) (sym v) (half_is (λ x. x / 256) (offset q) w.0 n (sym (envs.offsets q) ∙ w.1) w.2)) (λ h l v. v) (λ o v. v) (λ n f v. v)
  same_stands (Code q false) u = of_byte (Code q false) (λ c n v w. subst (λ x. IsFor offset x n) (sym v) (half_is (λ x. x % 256) (offset q) w.0 n (sym (envs.offsets q) ∙ w.1) w.2)) (λ h l v. v) (λ o v. v) (λ n f v. v)
  same_stands Unknown u = absurd (cc)
