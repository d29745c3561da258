-- What the makers use of one another.
use Rattle.std.proofs.Common.{◌≡◌, ℕ, ◌<◌, ◌==◌, ◌&&◌, ◌||◌, not, Bool, true, false, cond, List, [], ◌∷◌, Option, Some, None, refl, sym, ap, ap₂, ◌∙◌, inl, inr, ◌⊎◌, arith}
use Rattle.std.proofs.lemmas.Bool.{eqb-true, eq-eqb}
use Rattle.cells.specs.declared.Part.{Part}
use Rattle.xlt_pool.specs.Contents.{Contents}
use Rattle.sym_terms.specs.declared.head.Term.{Term as TermId}
use Rattle.sym_terms.specs.declared.head.Head.{Head}
use Rattle.sym_terms.specs.declared.head.Head.TheVariants.{Num as NumHead, Alu as AluHead, Flag as FlagHead, Sum16 as Sum16Head, High as HighHead, Low as LowHead, Join as JoinHead, FlagByte as FlagByteHead, Bit as BitHead, Turn as TurnHead, Turned as TurnedHead, Adjust as AdjustHead, Unknown as UnknownHead}
use Rattle.sym_terms.specs.Term.{Term, Num, Alu, Flag, Sum16, High, Low, Join, FlagByte, Bit, Turn, Turned, Adjust, Unknown, is_open, is_word, is_adjusted, same_term}
use Rattle.sym_terms.specs.Making.{IsTermMade, regrouped, plus, sum_of, high, low, join, bit, turn, turn_or_turned}
use Rattle.sym_terms.specs.Heads.{operands, number_of_id, term_of}
use Rattle.sym_terms.specs.Trees.{tree_of_head, entries_of, tree_in, StandsFor, IsGiven, AreGiven, PoolGrows, Makes, MakesRest, AreTerms}
use Rattle.sym_terms.proofs.Equal.{same_term-true, same_term_refl}
use Rattle.sym_terms.proofs.Sorts.{gathered_made}
use Rattle.sym_terms.proofs.Interning.{more, still}

-- what is given stays, with its term

pub same_tree : (old new : Contents) (count : ℕ) → PoolGrows old new count → (t : TermId) → IsGiven old t → tree_in old t ≡ tree_in new t
same_tree old new count grows t given = sym (grows.kept t given).1

pub still_given : (old new : Contents) (count : ℕ) → PoolGrows old new count → (ts : List TermId) → AreGiven old ts → AreGiven new ts
still_given old new count grows [] given = tt
still_given old new count grows (t ∷ ts) given = ((grows.kept t given.0).0, still_given old new count grows ts given.1)

pub same_head : (old new : Contents) (count : ℕ) → PoolGrows old new count → (h : Head) → AreGiven old (operands h) → tree_of_head (entries_of old.nodes) h ≡ tree_of_head (entries_of new.nodes) h
same_head old new count grows (AluHead op a b c) given =
    let is_a : tree_in old a ≡ tree_in new a = same_tree old new count grows a given.0 in
    let is_b : tree_in old b ≡ tree_in new b = same_tree old new count grows b given.1.0 in
    let is_c : tree_in old c ≡ tree_in new c = same_tree old new count grows c given.1.1.0 in
    λ i. Alu op (is_a i) (is_b i) (is_c i)
same_head old new count grows (FlagHead part r) given =
    let is_r : tree_in old r ≡ tree_in new r = same_tree old new count grows r given.0 in
    λ i. Flag part (is_r i)
same_head old new count grows (Sum16Head a b) given =
    let is_a : tree_in old a ≡ tree_in new a = same_tree old new count grows a given.0 in
    let is_b : tree_in old b ≡ tree_in new b = same_tree old new count grows b given.1.0 in
    λ i. Sum16 (is_a i) (is_b i)
same_head old new count grows (HighHead w) given =
    let is_w : tree_in old w ≡ tree_in new w = same_tree old new count grows w given.0 in
    λ i. High (is_w i)
same_head old new count grows (LowHead w) given =
    let is_w : tree_in old w ≡ tree_in new w = same_tree old new count grows w given.0 in
    λ i. Low (is_w i)
same_head old new count grows (JoinHead h l) given =
    let is_h : tree_in old h ≡ tree_in new h = same_tree old new count grows h given.0 in
    let is_l : tree_in old l ≡ tree_in new l = same_tree old new count grows l given.1.0 in
    λ i. Join (is_h i) (is_l i)
same_head old new count grows (FlagByteHead s z ac p cy) given =
    let is_s : tree_in old s ≡ tree_in new s = same_tree old new count grows s given.0 in
    let is_z : tree_in old z ≡ tree_in new z = same_tree old new count grows z given.1.0 in
    let is_ac : tree_in old ac ≡ tree_in new ac = same_tree old new count grows ac given.1.1.0 in
    let is_p : tree_in old p ≡ tree_in new p = same_tree old new count grows p given.1.1.1.0 in
    let is_cy : tree_in old cy ≡ tree_in new cy = same_tree old new count grows cy given.1.1.1.1.0 in
    λ i. FlagByte (is_s i) (is_z i) (is_ac i) (is_p i) (is_cy i)
same_head old new count grows (BitHead b part) given =
    let is_b : tree_in old b ≡ tree_in new b = same_tree old new count grows b given.0 in
    λ i. Bit (is_b i) part
same_head old new count grows (TurnHead kind a c) given =
    let is_a : tree_in old a ≡ tree_in new a = same_tree old new count grows a given.0 in
    let is_c : tree_in old c ≡ tree_in new c = same_tree old new count grows c given.1.0 in
    λ i. Turn kind (is_a i) (is_c i)
same_head old new count grows (TurnedHead c) given =
    let is_c : tree_in old c ≡ tree_in new c = same_tree old new count grows c given.0 in
    λ i. Turned (is_c i)
same_head old new count grows (AdjustHead a ac cy) given =
    let is_a : tree_in old a ≡ tree_in new a = same_tree old new count grows a given.0 in
    let is_ac : tree_in old ac ≡ tree_in new ac = same_tree old new count grows ac given.1.0 in
    let is_cy : tree_in old cy ≡ tree_in new cy = same_tree old new count grows cy given.1.1.0 in
    λ i. Adjust (is_a i) (is_ac i) (is_cy i)
same_head old new count grows h given = refl

-- where there is no room for the further node of a FlagByte, there is none for the FlagByte
pub no_flag_byte : (old new : Contents) (s z x y w : Term) → MakesRest old new x y w None → Makes old new 2 (FlagByte s z x y w) None
no_flag_byte old new s z x y w m = record {
  grows = more old new 1 2 (omega arith) m.grows;
  gives = record { full = m.full refl; absent = λ t h. m.absent refl t s z h };
  room = λ h. m.room (omega arith);
  terms = m.terms;
}

-- the halves of one word, and of two

pub join_same : (h l w w' : Term) → h ≡ High w → l ≡ Low w' → w ≡ w' → is_adjusted w ≡ false → join h l ≡ w
join_same h l w w' eh el e a =
    ap₂ join eh el
    ∙ ap (λ x. join (High w) (Low x)) (sym e)
    ∙ ap (λ x. cond (x && not (is_adjusted w)) w (Join (High w) (Low w))) (same_term_refl w)
    ∙ ap (λ x. cond (not x) w (Join (High w) (Low w))) a

pub join_other : (h l w w' : Term) → h ≡ High w → l ≡ Low w' → (w ≡ w' → ⊥) → join h l ≡ Join h l
join_other h l w w' eh el d = ap₂ join eh el ∙ by_test (same_term w w') refl ∙ ap₂ Join (sym eh) (sym el)
  where
    by_test : (x : Bool) → same_term w w' ≡ x → cond (x && not (is_adjusted w)) w (Join (High w) (Low w')) ≡ Join (High w) (Low w')
    by_test true e = absurd (d (same_term-true w w' e))
    by_test false e = refl

pub join_adjusted : (h l w w' : Term) → h ≡ High w → l ≡ Low w' → is_adjusted w ≡ true → join h l ≡ Join h l
join_adjusted h l w w' eh el a =
    ap₂ join eh el
    ∙ ap (λ x. cond (same_term w w' && not x) w (Join (High w) (Low w'))) a
    ∙ either (same_term w w')
    ∙ ap₂ Join (sym eh) (sym el)
  where
    either : (x : Bool) → cond (x && false) w (Join (High w) (Low w')) ≡ Join (High w) (Low w')
    either true = refl
    either false = refl

-- a sum with a number, where neither word is open
pub gathered_is_made : (a b : Term) (n : ℕ) → IsTermMade a → is_word a ≡ true → b ≡ Num n → n < 0x10000 → (is_open a || is_open b) ≡ false → IsTermMade (regrouped a n)
gathered_is_made a b n made sort e below o =
    let o' : (is_open a || false) ≡ false = ap (λ x. is_open a || is_open x) (sym e) ∙ o in
    (gathered_made a n below (made, sort) (ap (λ x. cond x Unknown (regrouped a n)) o')).0

pub makes_given : (held : Contents) (t : TermId) (tree : Term) → AreTerms held → StandsFor held t tree → Makes held held 1 tree (Some t)
makes_given held t tree terms h = record {
  grows = more held held 0 1 (omega arith) (still held);
  gives = h;
  room = λ _. refl;
  terms = terms;
}

-- ids by number

pub same_ids : (s t : TermId) → (number_of_id s == number_of_id t) ≡ true → s ≡ t
same_ids s t e = ap term_of (eqb-true (number_of_id s) (number_of_id t) e)

-- different ids stand for different terms
pub apart : (held : Contents) → AreTerms held → (s t : TermId) → IsGiven held s → IsGiven held t → (number_of_id s == number_of_id t) ≡ false → tree_in held t ≡ tree_in held s → ⊥
apart held terms s t gs gt e same =
    let ids : t ≡ s = terms.shared t s gt gs same in
    let equal : (number_of_id s == number_of_id t) ≡ true = eq-eqb (number_of_id s) (number_of_id t) (ap number_of_id (sym ids)) in
    let differ : true ≡ false = sym equal ∙ e in
    cc

pub not_equal : (k m : ℕ) → (k ≡ m → ⊥) → (k == m) ≡ false
not_equal k m d = by_test (k == m) refl
  where
    by_test : (b : Bool) → (k == m) ≡ b → (k == m) ≡ false
    by_test true e = absurd (d (eqb-true k m e))
    by_test false e = e

or_true : (x y : Bool) → y ≡ true → (x || y) ≡ true
or_true true y e = refl
or_true false y e = e

-- a byte that is rotated with a carry that is open
pub turn_open : (kind : ℕ) (a c : Term) → (kind ≡ 4 → ⊥) → is_open c ≡ true → turn_or_turned kind a c ≡ Unknown
turn_open kind a c d o =
    ap (λ x. cond x (Turned c) (turn kind a c)) (not_equal kind 4 d)
    ∙ ap (λ x. cond x Unknown (Turn kind a c)) (or_true (is_open a) (is_open c) o)

-- a number is added to a word that is no number, and no sum with one

pub gathered_sum : (old : Contents) (x : Term) (h : Head) (n : ℕ) → ((m : ℕ) → h ≡ NumHead m → ⊥) → regrouped (Sum16 x (tree_of_head (entries_of old.nodes) h)) n ≡ plus (Sum16 x (tree_of_head (entries_of old.nodes) h)) n
gathered_sum old x (NumHead m) n d = absurd (d m refl)
gathered_sum old x h n d = refl

pub gathered_plain : (old : Contents) (h : Head) (n : ℕ) → ((m : ℕ) → h ≡ NumHead m → ⊥) → ((a b : TermId) → h ≡ Sum16Head a b → ⊥) → regrouped (tree_of_head (entries_of old.nodes) h) n ≡ plus (tree_of_head (entries_of old.nodes) h) n
gathered_plain old (NumHead m) n d f = absurd (d m refl)
gathered_plain old (Sum16Head a b) n d f = absurd (f a b refl)
gathered_plain old h n d f = refl

-- a half is looked for in a number, in a Join, and where the word is not known

pub high_plain : (held : Contents) (h : Head) → ((m : ℕ) → h ≡ NumHead m → ⊥) → ((a b : TermId) → h ≡ JoinHead a b → ⊥) → ((c : TermId) → h ≡ TurnedHead c → ⊥) → (h ≡ UnknownHead → ⊥) → high (tree_of_head (entries_of held.nodes) h) ≡ High (tree_of_head (entries_of held.nodes) h)
high_plain held (NumHead m) n j t u = absurd (n m refl)
high_plain held (JoinHead a b) n j t u = absurd (j a b refl)
high_plain held (TurnedHead c) n j t u = absurd (t c refl)
high_plain held UnknownHead n j t u = absurd (u refl)
high_plain held h n j t u = refl

pub low_plain : (held : Contents) (h : Head) → ((m : ℕ) → h ≡ NumHead m → ⊥) → ((a b : TermId) → h ≡ JoinHead a b → ⊥) → ((c : TermId) → h ≡ TurnedHead c → ⊥) → (h ≡ UnknownHead → ⊥) → low (tree_of_head (entries_of held.nodes) h) ≡ Low (tree_of_head (entries_of held.nodes) h)
low_plain held (NumHead m) n j t u = absurd (n m refl)
low_plain held (JoinHead a b) n j t u = absurd (j a b refl)
low_plain held (TurnedHead c) n j t u = absurd (t c refl)
low_plain held UnknownHead n j t u = absurd (u refl)
low_plain held h n j t u = refl

-- nor of a Turned or an Unknown, of which nothing is known
pub high_open : (held : Contents) (h : Head) → ((c : TermId) × (h ≡ TurnedHead c)) ⊎ (h ≡ UnknownHead) → high (tree_of_head (entries_of held.nodes) h) ≡ Unknown
high_open held h (inl e) = ap (λ x. high (tree_of_head (entries_of held.nodes) x)) e.1
high_open held h (inr e) = ap (λ x. high (tree_of_head (entries_of held.nodes) x)) e

pub low_open : (held : Contents) (h : Head) → ((c : TermId) × (h ≡ TurnedHead c)) ⊎ (h ≡ UnknownHead) → low (tree_of_head (entries_of held.nodes) h) ≡ Unknown
low_open held h (inl e) = ap (λ x. low (tree_of_head (entries_of held.nodes) x)) e.1
low_open held h (inr e) = ap (λ x. low (tree_of_head (entries_of held.nodes) x)) e

-- a word is added to another that is no number

pub sum_plain : (held : Contents) (a : Term) (h : Head) → ((m : ℕ) → h ≡ NumHead m → ⊥) → sum_of a (tree_of_head (entries_of held.nodes) h) ≡ Sum16 a (tree_of_head (entries_of held.nodes) h)
sum_plain held a (NumHead m) n = absurd (n m refl)
sum_plain held a h n = refl

pub makes_more : (old new : Contents) (tree : Term) (made : Option TermId) → Makes old new 1 tree made → Makes old new 2 tree made
makes_more old new tree made m = record {
  grows = more old new 1 2 (omega arith) m.grows;
  gives = m.gives;
  room = λ h. m.room (omega arith);
  terms = m.terms;
}

-- halves that are no two numbers, and no high and low half
pub join_number : (held : Contents) (n : ℕ) (l : Head) → ((m : ℕ) → l ≡ NumHead m → ⊥) → join (Num n) (tree_of_head (entries_of held.nodes) l) ≡ Join (Num n) (tree_of_head (entries_of held.nodes) l)
join_number held n (NumHead m) h = absurd (h m refl)
join_number held n l h = refl

pub join_high : (held : Contents) (w : Term) (l : Head) → ((a : TermId) → l ≡ LowHead a → ⊥) → join (High w) (tree_of_head (entries_of held.nodes) l) ≡ Join (High w) (tree_of_head (entries_of held.nodes) l)
join_high held w (LowHead a) h = absurd (h a refl)
join_high held w l h = refl

pub join_plain : (held : Contents) (high : Head) (l : Term) → ((m : ℕ) → high ≡ NumHead m → ⊥) → ((a : TermId) → high ≡ HighHead a → ⊥) → join (tree_of_head (entries_of held.nodes) high) l ≡ Join (tree_of_head (entries_of held.nodes) high) l
join_plain held (NumHead m) l n h = absurd (n m refl)
join_plain held (HighHead a) l n h = absurd (h a refl)
join_plain held x l n h = refl

-- a bit is looked for in a FlagByte, and where the byte is not known
pub bit_plain : (held : Contents) (h : Head) (part : Part) → ((s z ac p cy : TermId) → h ≡ FlagByteHead s z ac p cy → ⊥) → (h ≡ UnknownHead → ⊥) → bit (tree_of_head (entries_of held.nodes) h) part ≡ Bit (tree_of_head (entries_of held.nodes) h) part
bit_plain held (FlagByteHead s z ac p cy) part f u = absurd (f s z ac p cy refl)
bit_plain held UnknownHead part f u = absurd (u refl)
bit_plain held h part f u = refl
