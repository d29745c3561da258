-- On the 8080's side a term has at most one value of each kind.
use Rattle.std.proofs.Common.{◌≡◌, ℕ, ◌+◌, ◌/◌, ◌%◌, Bool, true, false, Option, Some, None, refl, sym, ap, ap₂, ◌∙◌, arith}
use Rattle.cells.specs.declared.Flags.{Flags}
use Rattle.cells.specs.declared.Cell.{Cell}
use Rattle.cells.specs.declared.Cell.TheVariants.{Num as NumCell, Psw}
use Rattle.cells.specs.declared.Part.{Part}
use Rattle.cells.specs.declared.Part.TheVariants.{A, B, C, D, E, H, L, S, Z, Ac, P, Cy}
use Rattle.i80.specs.declared.Op.{Op}
use Rattle.base.specs.Arithmetic.{as_bit, daa_result, daa_carry, daa_excepted}
use Rattle.base.specs.Operations.{flags_by, result_of, flags_of, flags_in}
use Rattle.sym_terms.specs.Term.{Term, Num, Start, StartSp, Loaded8, Loaded16, Alu, Flag, Sum16, High, Low, Join, FlagByte, Bit, Turn, Turned, Adjust, Code, Unknown}
use Rattle.sym_terms.specs.Values80.{Byte, OneBit, Result, Env80, LoadedByte, LoadedWord, Val80, byte_by, word_by, bit_by, result_by, number80, start80, flag_in, turn_result, turn_flags}
use Rattle.sym_terms.specs.Laws.{OneValue80}

-- one kind of value at a time

one_byte : (Q : Cell → Type 0) → ((x y : Cell) → Q x → Q y → x ≡ y) → OneValue80 (byte_by Q)
one_byte Q same = record {
  byte = same;
  word = λ x y x' y' p q. absurd p;
  one_bit = λ o o' p q. absurd p;
  result = λ n n' f f' p q. absurd p;
}

one_word : (Q : Cell → Cell → Type 0) → ((x y x' y' : Cell) → Q x y → Q x' y' → (x ≡ x') × (y ≡ y')) → OneValue80 (word_by Q)
one_word Q same = record {
  byte = λ x y p q. absurd p;
  word = same;
  one_bit = λ o o' p q. absurd p;
  result = λ n n' f f' p q. absurd p;
}

as_byte : (b b' : Bool) → Some b ≡ Some b' → as_bit b ≡ as_bit b'
as_byte b b' e = let same : b ≡ b' = cc in ap as_bit same

one_flag : (Q : Option Bool → Type 0) → ((o o' : Option Bool) → Q o → Q o' → o ≡ o') → OneValue80 (bit_by Q)
one_flag Q same = record {
  byte = λ x y p q. p.2 ∙ ap NumCell (as_byte p.0 q.0 (same (Some p.0) (Some q.0) p.1 q.1)) ∙ sym q.2;
  word = λ x y x' y' p q. absurd p;
  one_bit = same;
  result = λ n n' f f' p q. absurd p;
}

bit_of : (b b' : Bool) → as_bit b ≡ as_bit b' → Some b ≡ Some b'
bit_of true true e = refl
bit_of false false e = refl
bit_of true false e = absurd (omega arith)
bit_of false true e = absurd (omega arith)

one_result : (Q : ℕ → Flags → Type 0) → ((n n' : ℕ) (f f' : Flags) → Q n f → Q n' f' → (n ≡ n') × (f ≡ f')) → OneValue80 (result_by Q)
one_result Q same = record {
  byte = λ x y p q. p.3 ∙ ap NumCell (same p.0 q.0 p.1 q.1 p.2 q.2).0 ∙ sym q.3;
  word = λ x y x' y' p q. absurd p;
  one_bit = λ o o' p q. p.3 ∙ bit_of p.0 q.0 (same (as_bit p.0) (as_bit q.0) p.1 q.1 p.2 q.2).0 ∙ sym q.3;
  result = same;
}

one_number : (n : ℕ) → OneValue80 (number80 n)
one_number n = record {
  byte = λ x y p q. p.1 ∙ sym q.1;
  word = λ x y x' y' p q. (p.1 ∙ sym q.1, p.2 ∙ sym q.2);
  one_bit = λ o o' p q. p.2 ∙ bit_of p.0 q.0 (sym p.1 ∙ q.1) ∙ sym q.2;
  result = λ m m' f f' p q. absurd p;
}

one_start : (e : Env80) (part : Part) → OneValue80 (start80 e part)
one_start e A = one_byte _ (λ x y p q. p ∙ sym q)
one_start e B = one_byte _ (λ x y p q. p ∙ sym q)
one_start e C = one_byte _ (λ x y p q. p ∙ sym q)
one_start e D = one_byte _ (λ x y p q. p ∙ sym q)
one_start e E = one_byte _ (λ x y p q. p ∙ sym q)
one_start e H = one_byte _ (λ x y p q. p ∙ sym q)
one_start e L = one_byte _ (λ x y p q. p ∙ sym q)
one_start e S = one_flag (λ o. o ≡ e.flags.s) (λ x y p q. p ∙ sym q)
one_start e Z = one_flag (λ o. o ≡ e.flags.z) (λ x y p q. p ∙ sym q)
one_start e Ac = one_flag (λ o. o ≡ e.flags.ac) (λ x y p q. p ∙ sym q)
one_start e P = one_flag (λ o. o ≡ e.flags.p) (λ x y p q. p ∙ sym q)
one_start e Cy = one_flag (λ o. o ≡ e.flags.cy) (λ x y p q. p ∙ sym q)

-- equal cells, words and bits are of equal numbers

cell_number : (m n : ℕ) → NumCell m ≡ NumCell n → m ≡ n
cell_number m n e = cc

known_bit : (b b' : Bool) → Some b ≡ Some b' → b ≡ b'
known_bit b b' e = cc

pub word_number : (m n : ℕ) → NumCell (m / 256) ≡ NumCell (n / 256) → NumCell (m % 256) ≡ NumCell (n % 256) → m ≡ n
word_number m n e f =
    let high : m / 256 ≡ n / 256 = cell_number (m / 256) (n / 256) e in
    let low : m % 256 ≡ n % 256 = cell_number (m % 256) (n % 256) f in
    omega arith

pub alu_same : (op : Op) (x y x' y' : ℕ) (k k' : Bool) (n n' : ℕ) (f f' : Flags) → x ≡ x' → y ≡ y' → k ≡ k' → n ≡ result_of op x y (as_bit k) → n' ≡ result_of op x' y' (as_bit k') → f ≡ flags_of op x y (as_bit k) → f' ≡ flags_of op x' y' (as_bit k') → (n ≡ n') × (f ≡ f')
alu_same op x y x' y' k k' n n' f f' ex ey ek en en' ef ef' =
    let results : result_of op x y (as_bit k) ≡ result_of op x' y' (as_bit k') = λ i. result_of op (ex i) (ey i) (as_bit (ek i)) in
    let flags : flags_of op x y (as_bit k) ≡ flags_of op x' y' (as_bit k') = λ i. flags_of op (ex i) (ey i) (as_bit (ek i)) in
    (en ∙ results ∙ sym en', ef ∙ flags ∙ sym ef')

pub turn_same : (kind x x' : ℕ) (k k' : Bool) (n n' : ℕ) (f f' : Flags) → x ≡ x' → k ≡ k' → n ≡ turn_result kind x k → n' ≡ turn_result kind x' k' → f ≡ turn_flags kind x → f' ≡ turn_flags kind x' → (n ≡ n') × (f ≡ f')
turn_same kind x x' k k' n n' f f' ex ek en en' ef ef' =
    (en ∙ ap₂ (turn_result kind) ex ek ∙ sym en', ef ∙ ap (turn_flags kind) ex ∙ sym ef')

adjust_same : (x x' : ℕ) (h h' k k' : Bool) (n n' : ℕ) (f f' : Flags) → x ≡ x' → h ≡ h' → k ≡ k' → n ≡ daa_result x h k → n' ≡ daa_result x' h' k' → f ≡ flags_by (daa_result x h k) None (Some (daa_carry x h k)) → f' ≡ flags_by (daa_result x' h' k') None (Some (daa_carry x' h' k')) → (n ≡ n') × (f ≡ f')
adjust_same x x' h h' k k' n n' f f' ex eh ek en en' ef ef' =
    let results : daa_result x h k ≡ daa_result x' h' k' = λ i. daa_result (ex i) (eh i) (ek i) in
    let carries : daa_carry x h k ≡ daa_carry x' h' k' = λ i. daa_carry (ex i) (eh i) (ek i) in
    let flags : flags_by (daa_result x h k) None (Some (daa_carry x h k)) ≡ flags_by (daa_result x' h' k') None (Some (daa_carry x' h' k')) = λ i. flags_by (results i) None (Some (carries i)) in
    (en ∙ results ∙ sym en', ef ∙ flags ∙ sym ef')

abbrev flags_are : Option Bool → Option Bool → Option Bool → Option Bool → Option Bool → Flags
flags_are s z ac p cy = record { s = s; z = z; ac = ac; p = p; cy = cy }

psw_same : (f g : Flags) → f.s ≡ g.s → f.z ≡ g.z → f.ac ≡ g.ac → f.p ≡ g.p → f.cy ≡ g.cy → Psw f ≡ Psw g
psw_same f g s z ac p cy =
    ap (λ v. Psw (flags_are v f.z f.ac f.p f.cy)) s
    ∙ ap (λ v. Psw (flags_are g.s v f.ac f.p f.cy)) z
    ∙ ap (λ v. Psw (flags_are g.s g.z v f.p f.cy)) ac
    ∙ ap (λ v. Psw (flags_are g.s g.z g.ac v f.cy)) p
    ∙ ap (λ v. Psw (flags_are g.s g.z g.ac g.p v)) cy

pub one80 : (e : Env80) (t : Term) → OneValue80 (Val80 e t)
one80 e (Num n) = one_number n
one80 e (Start part) = one_start e part
one80 e StartSp = one_word _ (λ x y x' y' p q. (p.0 ∙ sym q.0, p.1 ∙ sym q.1))
one80 e (Loaded8 k) = one_byte _ (λ x y p q. let both : Some (LoadedByte x) ≡ Some (LoadedByte y) = sym p ∙ q in cc)
one80 e (Loaded16 k) = one_word _ (λ x y x' y' p q. let both : Some (LoadedWord x y) ≡ Some (LoadedWord x' y') = sym p ∙ q in (cc, cc))
one80 e (Alu op a b c) =
    one_result
    (λ n f. (x y : ℕ) × (k : Bool) × Val80 e a (Byte (NumCell x)) × Val80 e b (Byte (NumCell y)) × Val80 e c (OneBit (Some k))
    × (n ≡ result_of op x y (as_bit k)) × (f ≡ flags_of op x y (as_bit k)))
    (λ n n' f f' p q.
    alu_same op p.0 p.1 q.0 q.1 p.2 q.2 n n' f f'
    (cell_number p.0 q.0 ((one80 e a).byte (NumCell p.0) (NumCell q.0) p.3 q.3))
    (cell_number p.1 q.1 ((one80 e b).byte (NumCell p.1) (NumCell q.1) p.4 q.4))
    (known_bit p.2 q.2 ((one80 e c).one_bit (Some p.2) (Some q.2) p.5 q.5))
    p.6 q.6 p.7 q.7)
one80 e (Flag part r) =
    one_flag (λ o. (n : ℕ) × (f : Flags) × Val80 e r (Result n f) × (o ≡ flag_in f part))
    (λ o o' p q. p.3 ∙ ap (λ g. flag_in g part) ((one80 e r).result p.0 q.0 p.1 q.1 p.2 q.2).1 ∙ sym q.3)
one80 e (Sum16 a b) =
    one_word _
    (λ x y x' y' p q.
    let first = (one80 e a).word (NumCell (p.0 / 256)) (NumCell (p.0 % 256)) (NumCell (q.0 / 256)) (NumCell (q.0 % 256)) p.4 q.4 in
    let second = (one80 e b).word (NumCell (p.1 / 256)) (NumCell (p.1 % 256)) (NumCell (q.1 / 256)) (NumCell (q.1 % 256)) p.5 q.5 in
    let sum : (p.0 + p.1) % 0x10000 ≡ (q.0 + q.1) % 0x10000 = ap₂ (λ m n. (m + n) % 0x10000) (word_number p.0 q.0 first.0 first.1) (word_number p.1 q.1 second.0 second.1) in
    (p.6 ∙ ap (λ n. NumCell (n / 256)) sum ∙ sym q.6, p.7 ∙ ap (λ n. NumCell (n % 256)) sum ∙ sym q.7))
one80 e (High w) = one_byte _ (λ x y p q. ((one80 e w).word x p.0 y q.0 p.1 q.1).0)
one80 e (Low w) = one_byte _ (λ x y p q. ((one80 e w).word p.0 x q.0 y p.1 q.1).1)
one80 e (Join h l) = one_word _ (λ x y x' y' p q. ((one80 e h).byte x x' p.0 q.0, (one80 e l).byte y y' p.1 q.1))
one80 e (FlagByte s z ac p cy) =
    one_byte _
    (λ x y v w.
    v.6
    ∙ psw_same v.0 w.0
    ((one80 e s).one_bit v.0.s w.0.s v.1 w.1)
    ((one80 e z).one_bit v.0.z w.0.z v.2 w.2)
    ((one80 e ac).one_bit v.0.ac w.0.ac v.3 w.3)
    ((one80 e p).one_bit v.0.p w.0.p v.4 w.4)
    ((one80 e cy).one_bit v.0.cy w.0.cy v.5 w.5)
    ∙ sym w.6)
one80 e (Bit b part) =
    one_flag (λ o. (x : Cell) × Val80 e b (Byte x) × (o ≡ flag_in (flags_in x) part))
    (λ o o' p q. p.2 ∙ ap (λ x. flag_in (flags_in x) part) ((one80 e b).byte p.0 q.0 p.1 q.1) ∙ sym q.2)
one80 e (Turn kind a c) =
    one_result
    (λ n f. (x : ℕ) × (k : Bool) × Val80 e a (Byte (NumCell x)) × Val80 e c (OneBit (Some k)) × (n ≡ turn_result kind x k) × (f ≡ turn_flags kind x))
    (λ n n' f f' p q.
    turn_same kind p.0 q.0 p.1 q.1 n n' f f'
    (cell_number p.0 q.0 ((one80 e a).byte (NumCell p.0) (NumCell q.0) p.2 q.2))
    (known_bit p.1 q.1 ((one80 e c).one_bit (Some p.1) (Some q.1) p.3 q.3))
    p.4 q.4 p.5 q.5)
one80 e (Turned c) = record { byte = λ x y p q. absurd p; word = λ x y x' y' p q. absurd p; one_bit = λ o o' p q. absurd p; result = λ n n' f f' p q. absurd p }
one80 e (Adjust a ac cy) =
    one_result
    (λ n f. (x : ℕ) × (h k : Bool) × Val80 e a (Byte (NumCell x)) × Val80 e ac (OneBit (Some h)) × Val80 e cy (OneBit (Some k)) × (daa_excepted x h k ≡ false)
    × (n ≡ daa_result x h k) × (f ≡ flags_by (daa_result x h k) None (Some (daa_carry x h k))))
    (λ n n' f f' p q.
    adjust_same p.0 q.0 p.1 q.1 p.2 q.2 n n' f f'
    (cell_number p.0 q.0 ((one80 e a).byte (NumCell p.0) (NumCell q.0) p.3 q.3))
    (known_bit p.1 q.1 ((one80 e ac).one_bit (Some p.1) (Some q.1) p.4 q.4))
    (known_bit p.2 q.2 ((one80 e cy).one_bit (Some p.2) (Some q.2) p.5 q.5))
    p.7 q.7 p.8 q.8)
one80 e (Code q high) = one_byte _ (λ x y p q. p ∙ sym q)
one80 e Unknown = one_flag (λ o. o ≡ None) (λ x y p q. p ∙ sym q)
