-- Names that are read byte by byte.
use Rattle.std.proofs.Common.{◌≡◌, ℕ, zero, suc, ◌+◌, ◌-◌, ◌<◌, ◌≤◌, ◌==◌, ◌&&◌, nat_lt, Bool, true, false, not, cond, List, [], ◌∷◌, ◌++◌, length, take, drop, set, get_or, replicate, refl, sym, ap, ◌∙◌, inl, inr, ◌⊎◌, subst, arith, append_assoc}
use Rattle.std.specs.Prelude.{Option, Some, None}
use Rattle.std.specs.List.{list_all}
use Rattle.std.specs.Ordering.{nat_cmp, is_lt, ordering_then}
use Rattle.std.specs.declared.cmp.Ordering.{Ordering}
use Rattle.std.specs.declared.cmp.Ordering.TheVariants.{Less, Equal, Greater}
use Rattle.std.specs.Str.{bytes_eq}
use Rattle.std.proofs.lemmas.Bool.{both_ways, cases_Bool, not-true, ltb-true, leb-true, and_parts, and_from, eq-eqb, eqb-true, not_from_false, agree_below_at}
use Rattle.std.proofs.lemmas.List.{append-nil, length-append, length-take-le, length-replicate, take-append-drop, take-append-le, take_more, set_at}
use Rattle.std.proofs.lemmas.Slice.Eq.{bytes_eq-Decides}
use Rattle.bdos_small.specs.Names.{is_name_byte, is_file_name, is_before, is_after, top_byte, highest, IsNameBetween}
use Rattle.base.specs.Prefixes.{IsPrefixOf}
use Rattle.bdos_small.specs.Spelled.{BreaksAt}
use Rattle.bdos_small.proofs.Order.{compared, compared-append, compared_itself, same_from_compared, before_trans, before_back, before_itself, before_cases}

-- the lowest and the highest bytes of names
abbrev pub lows : ℕ → List ℕ
lows m = replicate m 0x20

abbrev pub tops : ℕ → List ℕ
tops m = replicate m 0x7E

-- names up to one another
pub upto_then : (a b c : List ℕ) → is_before a b ≡ true → is_before c b ≡ false → is_before a c ≡ true
upto_then a b c e f = by_order (before_cases b c)
  where
    by_order : (is_before b c ≡ true) ⊎ ((b ≡ c) ⊎ (is_before c b ≡ true)) → is_before a c ≡ true
    by_order (inl g) = before_trans a b c e g
    by_order (inr (inl same)) = subst (λ x. is_before a x ≡ true) same e
    by_order (inr (inr g)) = absurd (both_ways (is_before c b) f g)

pub upto_lt : (a b c : List ℕ) → is_before b a ≡ false → is_before b c ≡ true → is_before a c ≡ true
upto_lt a b c e f = by_order (before_cases a b)
  where
    by_order : (is_before a b ≡ true) ⊎ ((a ≡ b) ⊎ (is_before b a ≡ true)) → is_before a c ≡ true
    by_order (inl g) = before_trans a b c g f
    by_order (inr (inl same)) = subst (λ x. is_before x c ≡ true) (sym same) f
    by_order (inr (inr g)) = absurd (both_ways (is_before b a) e g)

pub upto_both : (a b c : List ℕ) → is_before b a ≡ false → is_before c b ≡ false → is_before c a ≡ false
upto_both a b c e f = by_order (before_cases a b)
  where
    by_order : (is_before a b ≡ true) ⊎ ((a ≡ b) ⊎ (is_before b a ≡ true)) → is_before c a ≡ false
    by_order (inl g) = before_back a c (upto_then a b c g f)
    by_order (inr (inl same)) = subst (λ x. is_before c x ≡ false) (sym same) f
    by_order (inr (inr g)) = absurd (both_ways (is_before b a) e g)

pub after_upto : (last : Option (List ℕ)) (a b : List ℕ) → is_after last a ≡ true → is_before b a ≡ false → is_after last b ≡ true
after_upto None a b e f = refl
after_upto (Some l) a b e f = upto_then l a b e f

-- what two lists begin with does not decide
before-append : (p u v : List ℕ) → is_before (p ++ u) (p ++ v) ≡ is_before u v
before-append p u v = ap is_lt (compared-append p p u v refl ∙ ap (λ o. ordering_then o (compared u v)) (compared_itself p))

-- a first byte that is not below
pub first_not_below : (x y : ℕ) (o : Ordering) → y ≤ x → is_lt o ≡ false → is_lt (ordering_then (nat_cmp x y) o) ≡ false
first_not_below x y o le rest = by_tests (nat_lt x y) (x == y) refl
  where
    by_tests : (b c : Bool) → nat_lt x y ≡ b → is_lt (ordering_then (cond b Less (cond c Equal Greater)) o) ≡ false
    by_tests true c e = absurd (let lt = ltb-true x y e in omega arith)
    by_tests false true e = rest
    by_tests false false e = refl

-- the bytes of a name are from the lowest to the highest
pub byte_parts : (b : ℕ) → is_name_byte b ≡ true → (0x20 ≤ b) × (b < 0x7F)
byte_parts b e =
    let low = and_parts _ _ e in
    let high = and_parts _ _ low.1 in
    (leb-true 0x20 b low.0, ltb-true b 0x7F high.0)

lows_least : (u : List ℕ) → list_all is_name_byte u ≡ true → is_before u (lows (length u)) ≡ false
lows_least [] e = refl
lows_least (x ∷ u) e =
    let each = and_parts (is_name_byte x) (list_all is_name_byte u) e in
    let bounds = byte_parts x each.0 in
    first_not_below x 0x20 (compared u (lows (length u))) bounds.0 (lows_least u each.1)

pub tops_most : (u : List ℕ) → list_all is_name_byte u ≡ true → is_before (tops (length u)) u ≡ false
tops_most [] e = refl
tops_most (x ∷ u) e =
    let each = and_parts (is_name_byte x) (list_all is_name_byte u) e in
    let bounds = byte_parts x each.0 in
    first_not_below 0x7E x (compared (tops (length u)) u) (omega (arith, bounds.1)) (tops_most u each.1)

all-append : (p u : List ℕ) → list_all is_name_byte p ≡ true → list_all is_name_byte u ≡ true → list_all is_name_byte (p ++ u) ≡ true
all-append [] u e f = f
all-append (x ∷ p) u e f =
    let each = and_parts (is_name_byte x) (list_all is_name_byte p) e in
    and_from (is_name_byte x) (list_all is_name_byte (p ++ u)) each.0 (all-append p u each.1 f)

pub all_parts : (p u : List ℕ) → list_all is_name_byte (p ++ u) ≡ true → (list_all is_name_byte p ≡ true) × (list_all is_name_byte u ≡ true)
all_parts [] u e = (refl, e)
all_parts (x ∷ p) u e =
    let each = and_parts (is_name_byte x) (list_all is_name_byte (p ++ u)) e in
    let rest = all_parts p u each.1 in
    (and_from (is_name_byte x) (list_all is_name_byte p) each.0 rest.0, rest.1)

all_tops : (m : ℕ) → list_all is_name_byte (tops m) ≡ true
all_tops zero = refl
all_tops (suc m) = all_tops m

-- the highest name is one
pub highest_lawful : (after : ℕ) → after ≤ 63 → is_file_name (highest after) ≡ true
highest_lawful after le =
    let last : is_name_byte (top_byte after) ≡ true = agree_below_at (λ k. is_name_byte (top_byte k)) (λ _. true) 64 after refl (omega arith) in
    ap (λ b. b && true) last

pub name_parts : (n : List ℕ) → is_file_name n ≡ true → (length n ≡ 11) × (list_all is_name_byte n ≡ true)
name_parts n e =
    let each = and_parts (length n == 11) (list_all is_name_byte n) e in
    (eqb-true (length n) 11 each.0, each.1)

name_from : (n : List ℕ) → length n ≡ 11 → list_all is_name_byte n ≡ true → is_file_name n ≡ true
name_from n e f = and_from (length n == 11) (list_all is_name_byte n) (eq-eqb (length n) 11 e) f

-- what is greater stays so, whatever follows
greater_stays : (o a b : Ordering) → (o ≡ Equal → ⊥) → is_lt (ordering_then o a) ≡ false → is_lt (ordering_then o b) ≡ false
greater_stays Less a b differs e = e
greater_stays Equal a b differs e = absurd (differs refl)
greater_stays Greater a b differs e = refl

-- the names from `least` to `most` begin with the first k bytes; some may come after `last` and have room above them
pub record Going (last : Option (List ℕ)) (after : ℕ) (bytes least most : List ℕ) (k : ℕ) : Type 0 where
  pub within : k ≤ length bytes
  pub few : k ≤ 11
  pub lawful : list_all is_name_byte (take k bytes) ≡ true
  pub least_is : least ≡ take k bytes ++ lows (11 - k)
  pub most_is : most ≡ take k bytes ++ tops (11 - k)
  pub room : is_before (highest after) least ≡ false
  pub above : is_after last most ≡ true

module _ (last : Option (List ℕ)) (after : ℕ) (bytes : List ℕ) (le : after ≤ 63) (can : is_after last (highest after) ≡ true) where
  pub going_first : Going last after bytes (lows 11) (tops 11) 0
  going_first =
      let parts = name_parts (highest after) (highest_lawful after le) in
      record {
        within = omega arith;
        few = omega arith;
        lawful = refl;
        least_is = refl;
        most_is = refl;
        room = lows_least (highest after) parts.1;
        above = after_upto last (highest after) (tops 11) can (tops_most (highest after) parts.1);
      }

  module _ (least most : List ℕ) (k : ℕ) (g : Going last after bytes least most k) where
    filled : k + (11 - k) ≡ 11
    filled = let few : k ≤ 11 = g.few in omega arith

    front_len : length (take k bytes) ≡ k
    front_len = length-take-le k bytes g.within

    -- where the highest name begins otherwise, all that begins with the first k bytes is below it
    below_all : (take k (highest after) ≡ take k bytes → ⊥) → is_before (highest after) (take k bytes ++ tops (11 - k)) ≡ false
    below_all differs =
        let start = take k (highest after) in
        let rest = drop k (highest after) in
        let whole : start ++ rest ≡ highest after = take-append-drop k (highest after) in
        let long : length (highest after) ≡ 11 = (name_parts (highest after) (highest_lawful after le)).0 in
        let size : length start ≡ length (take k bytes) = length-take-le k (highest after) (omega (arith, long, g.few)) ∙ sym front_len in
        let split : (u : List ℕ) → compared (highest after) (take k bytes ++ u) ≡ ordering_then (compared start (take k bytes)) (compared rest u) = λ u. ap (λ w. compared w (take k bytes ++ u)) (sym whole) ∙ compared-append start (take k bytes) rest u size in
        let low : is_lt (compared (highest after) (take k bytes ++ lows (11 - k))) ≡ false = subst (λ l. is_before (highest after) l ≡ false) g.least_is g.room in
        ap is_lt (split (tops (11 - k))) ∙ greater_stays (compared start (take k bytes)) (compared rest (lows (11 - k))) (compared rest (tops (11 - k))) (λ e. differs (same_from_compared start (take k bytes) e)) (sym (ap is_lt (split (lows (11 - k)))) ∙ low)

    -- a name that begins with the first k bytes
    pub going_name : (v : List ℕ) × IsNameBetween last after v × IsPrefixOf (take k bytes) v
    going_name =
        elim (cases_Bool (bytes_eq (take k (highest after)) (take k bytes))) [
          | inl e ↦ (highest after, record { lawful = highest_lawful after le; above = can; room = before_itself (highest after) }, (drop k (highest after), sym (take-append-drop k (highest after)) ∙ ap (λ p. p ++ drop k (highest after)) ((bytes_eq-Decides (take k (highest after)) (take k bytes)).0 e)))
          | inr e ↦ (
            take k bytes ++ tops (11 - k),
            record {
              lawful = name_from (take k bytes ++ tops (11 - k)) (length-append (take k bytes) (tops (11 - k)) ∙ ap (λ n. n + length (tops (11 - k))) front_len ∙ ap (λ n. k + n) (length-replicate (11 - k) 0x7E) ∙ filled) (all-append (take k bytes) (tops (11 - k)) g.lawful (all_tops (11 - k)));
              above = subst (λ l. is_after last l ≡ true) g.most_is g.above;
              room = below_all (λ same. both_ways (bytes_eq (take k (highest after)) (take k bytes)) e ((bytes_eq-Decides (take k (highest after)) (take k bytes)).1 same));
            },
            (tops (11 - k), refl),
          )
        ]

    -- no name begins with the bytes where none goes on with the next
    none_by : k < 11 → (k < length bytes → (v : List ℕ) → IsNameBetween last after v → IsPrefixOf (take (k + 1) bytes) v → ⊥) → (v : List ℕ) → IsNameBetween last after v → IsPrefixOf v bytes → ⊥
    none_by lt never v is b =
        let long : length v ≡ 11 = (name_parts v is.lawful).0 in
        let all : length bytes ≡ length v + length b.0 = ap length b.1 ∙ length-append v b.0 in
        let start : take (k + 1) bytes ≡ take (k + 1) v = ap (take (k + 1)) b.1 ∙ take-append-le (k + 1) v b.0 (omega (arith, long)) in
        never (omega (arith, long, all)) v is (drop (k + 1) v, sym (take-append-drop (k + 1) v) ∙ ap (λ p. p ++ drop (k + 1) v) (sym start))

    breaks_by : k < 11 → (k < length bytes → (v : List ℕ) → IsNameBetween last after v → IsPrefixOf (take (k + 1) bytes) v → ⊥) → BreaksAt (IsNameBetween last after) (λ name. name) bytes k
    breaks_by lt never = record { within = g.within; so_far = going_name; none = none_by lt never; no_further = never }

    -- the bytes end
    pub going_short : k < 11 → length bytes ≤ k → BreaksAt (IsNameBetween last after) (λ name. name) bytes k
    going_short lt short = breaks_by lt (λ more v is b. absurd (omega (arith, short, more)))

    -- one more byte
    module _ (byte : ℕ) (lt : k < 11) (more : k < length bytes) (at : byte ≡ get_or bytes k 0) where
      longer : take (k + 1) bytes ≡ take k bytes ++ byte ∷ []
      longer = take_more bytes k 0 more ∙ ap (λ b. take k bytes ++ b ∷ []) (sym at)

      one_less : 11 - k ≡ suc (11 - (k + 1))
      one_less = omega arith

      put : (x : ℕ) (l : List ℕ) → l ≡ take k bytes ++ replicate (11 - k) x → set l k byte ≡ take (k + 1) bytes ++ replicate (11 - (k + 1)) x
      put x l e =
          ap (λ m. set m k byte) (e ∙ ap (λ n. take k bytes ++ replicate n x) one_less)
          ∙ set_at (take k bytes) x (replicate (11 - (k + 1)) x) byte k front_len
          ∙ sym (append_assoc (take k bytes) (byte ∷ []) (replicate (11 - (k + 1)) x))
          ∙ ap (λ p. p ++ replicate (11 - (k + 1)) x) (sym longer)

      least_next : set least k byte ≡ take (k + 1) bytes ++ lows (11 - (k + 1))
      least_next = put 0x20 least g.least_is

      most_next : set most k byte ≡ take (k + 1) bytes ++ tops (11 - (k + 1))
      most_next = put 0x7E most g.most_is

      -- what the test says of the bytes
      abbrev goes : Bool
      goes = is_name_byte byte && (not (is_before (highest after) (set least k byte)) && is_after last (set most k byte))

      pub going_next : goes ≡ true → Going last after bytes (set least k byte) (set most k byte) (k + 1)
      going_next e =
          let each = and_parts (is_name_byte byte) (not (is_before (highest after) (set least k byte)) && is_after last (set most k byte)) e in
          let both = and_parts (not (is_before (highest after) (set least k byte))) (is_after last (set most k byte)) each.1 in
          record {
            within = omega (arith, more);
            few = omega (arith, lt);
            lawful = ap (list_all is_name_byte) longer ∙ all-append (take k bytes) (byte ∷ []) g.lawful (ap (λ b. b && true) each.0);
            least_is = least_next;
            most_is = most_next;
            room = not-true (is_before (highest after) (set least k byte)) both.0;
            above = both.1;
          }

      -- a name that begins with one byte more passes the test
      passes : (v : List ℕ) → IsNameBetween last after v → IsPrefixOf (take (k + 1) bytes) v → goes ≡ true
      passes v is b =
          let p = take (k + 1) bytes in
          let u = b.0 in
          let parts = name_parts v is.lawful in
          let whole : list_all is_name_byte (p ++ u) ≡ true = ap (list_all is_name_byte) (sym b.1) ∙ parts.1 in
          let each = all_parts p u whole in
          let ends = all_parts (take k bytes) (byte ∷ []) (ap (list_all is_name_byte) (sym longer) ∙ each.0) in
          let here = (and_parts (is_name_byte byte) true ends.1).0 in
          let plen : length p ≡ k + 1 = length-take-le (k + 1) bytes (omega (arith, more)) in
          let long : length (p ++ u) ≡ 11 = ap length (sym b.1) ∙ parts.0 in
          let left : 11 - (k + 1) ≡ length u = omega (arith, length-append p u, long, plen) in
          let low : is_before v (set least k byte) ≡ false = ap (λ w. is_before w (set least k byte)) b.1 ∙ ap (is_before (p ++ u)) (least_next ∙ ap (λ n. p ++ lows n) left) ∙ before-append p u (lows (length u)) ∙ lows_least u each.1 in
          let high : is_before (set most k byte) v ≡ false = ap (is_before (set most k byte)) b.1 ∙ ap (λ m. is_before m (p ++ u)) (most_next ∙ ap (λ n. p ++ tops n) left) ∙ before-append p (tops (length u)) u ∙ tops_most u each.1 in
          let room : is_before (highest after) (set least k byte) ≡ false = upto_both (set least k byte) v (highest after) low is.room in
          and_from (is_name_byte byte) (not (is_before (highest after) (set least k byte)) && is_after last (set most k byte)) here
          (and_from (not (is_before (highest after) (set least k byte))) (is_after last (set most k byte)) (not_from_false (is_before (highest after) (set least k byte)) room) (after_upto last v (set most k byte) is.above high))

      pub going_stops : goes ≡ false → BreaksAt (IsNameBetween last after) (λ name. name) bytes k
      going_stops e = breaks_by lt (λ more v is b. both_ways goes e (passes v is b))

  -- all eleven bytes
  pub going_all : (least most : List ℕ) → Going last after bytes least most 11 → IsNameBetween last after least × (take 11 bytes ≡ least)
  going_all least most g =
      let low : least ≡ take 11 bytes = g.least_is ∙ append-nil (take 11 bytes) in
      let high : most ≡ least = g.most_is ∙ append-nil (take 11 bytes) ∙ sym low in
      let long : length least ≡ 11 = ap length low ∙ length-take-le 11 bytes g.within in (
        record {
          lawful = name_from least long (ap (list_all is_name_byte) low ∙ g.lawful);
          above = subst (λ l. is_after last l ≡ true) high g.above;
          room = g.room;
        },
        sym low,
      )
