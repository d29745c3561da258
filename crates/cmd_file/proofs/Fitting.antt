-- Bytes of a header, place by place.
use Rattle.std.proofs.Common.{◌≡◌, ◌≢◌, ℕ, zero, suc, ◌+◌, ◌-◌, ◌%◌, ◌<◌, ◌≤◌, ◌==◌, nat_lt, not, Bool, true, false, List, [], ◌∷◌, ◌++◌, map, length, drop, get_or, refl, sym, ap, ◌∙◌, subst, inl, inr, arith, lit<}
use Rattle.std.specs.Prelude.{if◌then◌else◌}
use Rattle.std.specs.List.{All}
use Rattle.std.proofs.lemmas.Bool.{cases_lt, ltb-true, eqb-true, eq-eqb, le-leb, le-ltb, ne_eqb, agree_below_at}
use Rattle.std.proofs.lemmas.List.{length-append, length-drop, get_or-drop, get_or-map, get_or_append_left, get_or-append_right, get_or_past}
use Rattle.std.proofs.lemmas.List.Elements.{All-append, All-drop, All-from_get_or}
use Rattle.cmd_file.specs.Header.{Rule, Exactly, HighOfLength, AnyByte, allows, header_rules, may_stand, FitsBelow}
use Rattle.cmd_file.proofs.Groups.{Follows}

pub follows_at : (rules : List Rule) (before : ℕ) (bytes : List ℕ) → Follows rules before bytes → (k : ℕ) → k < length bytes → allows (get_or rules k AnyByte) (get_or (before ∷ bytes) k 0) (get_or bytes k 0) ≡ true
follows_at [] before bytes f k lt = refl
follows_at (r ∷ rules) before [] f k lt = absurd (omega (arith, lt))
follows_at (r ∷ rules) before (b ∷ bytes) f zero lt = f.0
follows_at (r ∷ rules) before (b ∷ bytes) f (suc k) lt = follows_at rules b bytes f.1 k (omega (arith, lt))

-- past the descriptors all bytes fit
pub fits_past : (n m : ℕ) (bytes : List ℕ) → 72 ≤ n → FitsBelow n bytes → FitsBelow m bytes
fits_past n m bytes le fits k lt = elim (cases_lt k n) [
  | inl below ↦ fits k below
  | inr past ↦ ap (λ r. allows r (get_or (0 ∷ bytes) k 0) (get_or bytes k 0)) (get_or_past header_rules k AnyByte (omega (arith, past, le)))
]

-- what fits does so whatever follows, and whatever follows is left out
pub fits_front : (n : ℕ) (bytes rest : List ℕ) → n ≤ length bytes → FitsBelow n bytes → FitsBelow n (bytes ++ rest)
fits_front n bytes rest le fits k lt =
    ap (λ before. may_stand k before (get_or (bytes ++ rest) k 0)) (get_or_append_left (0 ∷ bytes) rest 0 k (omega (arith, le, lt)))
    ∙ ap (may_stand k (get_or (0 ∷ bytes) k 0)) (get_or_append_left bytes rest 0 k (omega (arith, le, lt)))
    ∙ fits k lt

pub front_fits : (n : ℕ) (bytes rest : List ℕ) → n ≤ length bytes → FitsBelow n (bytes ++ rest) → FitsBelow n bytes
front_fits n bytes rest le fits k lt =
    sym (ap (λ before. may_stand k before (get_or (bytes ++ rest) k 0)) (get_or_append_left (0 ∷ bytes) rest 0 k (omega (arith, le, lt)))
    ∙ ap (may_stand k (get_or (0 ∷ bytes) k 0)) (get_or_append_left bytes rest 0 k (omega (arith, le, lt))))
    ∙ fits k lt

-- a byte that is always allowed
abbrev default_byte : Rule → ℕ
default_byte (Exactly b) = b
default_byte HighOfLength = 0
default_byte AnyByte = 0

default_allowed : (r : Rule) (before : ℕ) → before < 256 → allows r before (default_byte r) ≡ true
default_allowed (Exactly b) before lt = eq-eqb b b refl
default_allowed HighOfLength before lt = le-leb _ _ (omega (arith, lt))
default_allowed AnyByte before lt = refl

abbrev default_header : List ℕ
default_header = map default_byte header_rules

default_small : All (λ b. b < 256) default_header
default_small = All-from_get_or (λ b. b < 256) default_header 0 (λ k lt. ltb-true (get_or default_header k 0) 256 (agree_below_at (λ n. nat_lt (get_or default_header n 0) 256) (λ _. true) 72 k refl lt))

-- what a front's header lacks, and the front with it
abbrev pub lacks : List ℕ → List ℕ
lacks front = drop (length front) default_header

abbrev pub completed : List ℕ → List ℕ
completed front = front ++ lacks front

pub length-completed : (front : List ℕ) → length (completed front) ≡ length front + (72 - length front)
length-completed front = length-append front (lacks front) ∙ ap (λ n. length front + n) (length-drop (length front) default_header)

pub completed_small : (front : List ℕ) → All (λ b. b < 256) front → All (λ b. b < 256) (completed front)
completed_small front small = All-append (λ b. b < 256) front (drop (length front) default_header) small (All-drop (λ b. b < 256) (length front) default_header default_small)

byte_small : (bytes : List ℕ) → All (λ b. b < 256) bytes → (k : ℕ) → get_or bytes k 0 < 256
byte_small bytes small k = elim (cases_lt k (length bytes)) [
  | inl lt ↦ small k 0 lt
  | inr le ↦ subst (λ b. b < 256) (sym (get_or_past bytes k 0 le)) (lit< tt)
]

before_small : (bytes : List ℕ) → All (λ b. b < 256) bytes → (k : ℕ) → get_or (0 ∷ bytes) k 0 < 256
before_small bytes small zero = lit< tt
before_small bytes small (suc k) = byte_small bytes small k

pub completed_fits : (front : List ℕ) → All (λ b. b < 256) front → FitsBelow (length front) front → FitsBelow 72 (completed front)
completed_fits front small fits k lt = elim (cases_lt k (length front)) [
  | inl below ↦ fits_front (length front) front (drop (length front) default_header) (omega arith) fits k below
  | inr past ↦
      let at : length front + (k - length front) ≡ k = omega (arith, past) in
      let is : get_or (completed front) k 0 ≡ default_byte (get_or header_rules k AnyByte) =
      get_or-append_right front (drop (length front) default_header) (length front) k 0 refl past
      ∙ get_or-drop (length front) default_header (k - length front) 0
      ∙ ap (λ n. get_or default_header n 0) at
      ∙ get_or-map default_byte header_rules k AnyByte 0 lt
      in ap (may_stand k (get_or (0 ∷ completed front) k 0)) is ∙ default_allowed (get_or header_rules k AnyByte) (get_or (0 ∷ completed front) k 0) (before_small (completed front) (completed_small front small) k)
]

-- ---- the test of one byte

is_any : Rule → Bool
is_any (Exactly b) = false
is_any HighOfLength = false
is_any AnyByte = true

any_allowed : (r : Rule) (before byte : ℕ) → is_any r ≡ true → allows r before byte ≡ true
unfolding is_any
any_allowed (Exactly b) before byte e = absurd (cc)
any_allowed HighOfLength before byte e = absurd (cc)
any_allowed AnyByte before byte e = refl

is_zero : Rule → Bool
is_zero (Exactly b) = b == 0
is_zero HighOfLength = false
is_zero AnyByte = false

zero_allowed : (r : Rule) (before byte : ℕ) → is_zero r ≡ true → allows r before byte ≡ (byte == 0)
unfolding is_zero
zero_allowed (Exactly b) before byte e = ap (λ n. byte == n) (eqb-true b 0 e)
zero_allowed HighOfLength before byte e = absurd (cc)
zero_allowed AnyByte before byte e = absurd (cc)

-- at the descriptor of no group
pub form_stands : (place before byte : ℕ) → place < 72 → 18 ≤ place → place % 9 ≡ 0 → (byte == 0) ≡ may_stand place before byte
unfolding is_zero
form_stands place before byte lt le e =
    let table : is_zero (get_or header_rules place AnyByte) ≡ (if nat_lt place 18 then is_zero (get_or header_rules place AnyByte) else place % 9 == 0) =
    agree_below_at (λ k. is_zero (get_or header_rules k AnyByte)) (λ k. if nat_lt k 18 then is_zero (get_or header_rules k AnyByte) else k % 9 == 0) 72 place refl lt
    in
    sym (zero_allowed (get_or header_rules place AnyByte) before byte
    (table ∙ ap (λ t. if t then is_zero (get_or header_rules place AnyByte) else place % 9 == 0) (le-ltb place 18 le) ∙ eq-eqb (place % 9) 0 e))

pub other_stands : (place before byte : ℕ) → place < 72 → 18 ≤ place → place % 9 ≢ 0 → true ≡ may_stand place before byte
unfolding is_any
other_stands place before byte lt le ne =
    let table : is_any (get_or header_rules place AnyByte) ≡ (if nat_lt place 18 then is_any (get_or header_rules place AnyByte) else not (place % 9 == 0)) =
    agree_below_at (λ k. is_any (get_or header_rules k AnyByte)) (λ k. if nat_lt k 18 then is_any (get_or header_rules k AnyByte) else not (k % 9 == 0)) 72 place refl lt
    in
    sym (any_allowed (get_or header_rules place AnyByte) before byte
    (table ∙ ap (λ t. if t then is_any (get_or header_rules place AnyByte) else not (place % 9 == 0)) (le-ltb place 18 le) ∙ ap not (ne_eqb (place % 9) 0 ne)))

-- what was found of a byte and the one before it is so at its place
pub found_at : (bytes : List ℕ) (k before byte : ℕ) (found : Bool) → before ≡ get_or (0 ∷ bytes) k 0 → byte ≡ get_or bytes k 0 → found ≡ may_stand k before byte → may_stand k (get_or (0 ∷ bytes) k 0) (get_or bytes k 0) ≡ found
found_at bytes k before byte found b x f = sym (f ∙ ap (λ n. may_stand k n byte) b ∙ ap (may_stand k (get_or (0 ∷ bytes) k 0)) x)
