-- The names of the second walk: those of SET are set again, one after the other, beside all that stand for good.
use Rattle.std.proofs.Common.{◌≡◌, ℕ, ◌+◌, ◌<◌, nat_lt, Bool, true, false, cond, List, [], ◌∷◌, ◌++◌, length, Option, Some, None, refl, sym, ap, ◌∙◌, arith, true≢false}
use Rattle.std.proofs.lemmas.Bool.Decides.{nat_tests}
use Rattle.std.proofs.lemmas.Slice.Eq.{bytes_eq-Decides}
use Rattle.std.specs.Str.{bytes_eq}
use Rattle.asm80_source_def.specs.Names.{Name, named, most_names, is_settable, renamed, clashes_with, clashes, overflows_by, overflows, defined_by, defined}

-- ---- definitions that are made

-- a name of another text stays
other_appended : (names : List Name) (n : Name) (t : List ℕ) → bytes_eq n.text t ≡ false → named (names ++ n ∷ []) t ≡ named names t
other_appended [] n t h = rw h refl
other_appended (m ∷ names) n t h = ap (λ (o : Option Name). cond (bytes_eq m.text t) (Some m) o) (other_appended names n t h)

other_set : (m n : Name) (t : List ℕ) (x y : Option Name) → bytes_eq n.text t ≡ false → x ≡ y → (b : Bool) → bytes_eq m.text n.text ≡ b → cond (bytes_eq (cond b n m).text t) (Some (cond b n m)) x ≡ cond (bytes_eq m.text t) (Some m) y
other_set m n t x y h rest true same =
    let is : m.text ≡ n.text = (bytes_eq-Decides m.text n.text).0 same in
    let differs : bytes_eq m.text t ≡ false = ap (λ (s : List ℕ). bytes_eq s t) is ∙ h in
    rw (h, differs) rest
other_set m n t x y h rest false differs = ap (λ (o : Option Name). cond (bytes_eq m.text t) (Some m) o) rest

other_renamed : (names : List Name) (n : Name) (t : List ℕ) → bytes_eq n.text t ≡ false → named (renamed names n) t ≡ named names t
other_renamed [] n t h = refl
other_renamed (m ∷ names) n t h = other_set m n t (named (renamed names n) t) (named names t) h (other_renamed names n t h) (bytes_eq m.text n.text) refl

itself : (t : List ℕ) → bytes_eq t t ≡ true
itself t = (bytes_eq-Decides t t).1 refl

none_of : (b : Bool) (m : Name) (o : Option Name) → cond b (Some m) o ≡ None → (b ≡ false) × (o ≡ None)
none_of true m o h = absurd cc
none_of false m o h = (refl, h)

own_appended : (names : List Name) (n : Name) → named names n.text ≡ None → named (names ++ n ∷ []) n.text ≡ Some n
own_appended [] n h = rw (itself n.text) refl
own_appended (m ∷ names) n h =
    let split = none_of (bytes_eq m.text n.text) m (named names n.text) h in
    rw split.0 (own_appended names n split.1)

own_set : (m n old : Name) (x y : Option Name) → (y ≡ Some old → x ≡ Some n) → (b : Bool) → bytes_eq m.text n.text ≡ b → cond b (Some m) y ≡ Some old → cond (bytes_eq (cond b n m).text n.text) (Some (cond b n m)) x ≡ Some n
own_set m n old x y rest true same h = rw (itself n.text) refl
own_set m n old x y rest false differs h = rw differs (rest h)

own_renamed : (names : List Name) (n old : Name) → named names n.text ≡ Some old → named (renamed names n) n.text ≡ Some n
own_renamed [] n old h = absurd cc
own_renamed (m ∷ names) n old h = own_set m n old (named (renamed names n) n.text) (named names n.text) (own_renamed names n old) (bytes_eq m.text n.text) refl h

none_renamed : (names : List Name) (n : Name) → named names n.text ≡ None → renamed names n ≡ names
none_renamed [] n h = refl
none_renamed (m ∷ names) n h =
    let split = none_of (bytes_eq m.text n.text) m (named names n.text) h in
    rw split.0 (ap (λ (xs : List Name). m ∷ xs) (none_renamed names n split.1))

-- how a definition is made: of a new name, for which there is room, or of a name of SET that is set again
pub data Made (names : List Name) (n : Name) : List Name → Type 0 where
  fresh : named names n.text ≡ None → length names < 8192 → Made names n (names ++ n ∷ [])
  again : {old : Name} → named names n.text ≡ Some old → is_settable old.kind ≡ true → is_settable n.kind ≡ true → Made names n (renamed names n)

settable_by : (a b : Bool) → cond a (cond b false true) true ≡ false → (a ≡ true) × (b ≡ true)
settable_by true true h = (refl, refl)
settable_by true false h = absurd cc
settable_by false b h = absurd cc

room_by : (b : Bool) → cond b false true ≡ false → b ≡ true
room_by true h = refl
room_by false h = absurd cc

made_by : (names : List Name) (n : Name) (o : Option Name) → named names n.text ≡ o → clashes_with n o ≡ false → overflows_by names o ≡ false → Made names n (defined_by names n o)
made_by names n None is clear room =
    let some : nat_lt (length names) most_names ≡ true = room_by (nat_lt (length names) most_names) room in
    rw some (fresh is (grind (arith, nat_tests)))
made_by names n (Some old) is clear room =
    let both = settable_by (is_settable old.kind) (is_settable n.kind) clear in
    rw clear (again is both.0 both.1)

pub made : (names : List Name) (n : Name) → clashes names n ≡ false → overflows names n ≡ false → Made names n (defined names n)
made names n clear room = made_by names n (named names n.text) refl clear room

-- what is found after a definition
pub other_made : (names : List Name) (n : Name) (after : List Name) (t : List ℕ) → Made names n after → bytes_eq n.text t ≡ false → named after t ≡ named names t
other_made names n after t (fresh none room) h = other_appended names n t h
other_made names n after t (again is was now) h = other_renamed names n t h

pub own_made : (names : List Name) (n : Name) (after : List Name) → Made names n after → named after n.text ≡ Some n
own_made names n after (fresh none room) = own_appended names n none
own_made names n after (again {old = old} is was now) = own_renamed names n old is

-- ---- each text stands once

abbrev pub Distinct : List Name → Type 0
Distinct [] = Unit {0}
Distinct (n ∷ names) = (named names n.text ≡ None) × Distinct names

turned : (a b : List ℕ) → bytes_eq a b ≡ false → bytes_eq b a ≡ false
turned a b h = by_test (bytes_eq b a) refl
  where
    by_test : (c : Bool) → bytes_eq b a ≡ c → bytes_eq b a ≡ false
    by_test false is = is
    by_test true is = absurd (true≢false (sym (itself b) ∙ ap (λ (x : List ℕ). bytes_eq x b) ((bytes_eq-Decides b a).0 is) ∙ h))

distinct_appended : (names : List Name) (n : Name) → Distinct names → named names n.text ≡ None → Distinct (names ++ n ∷ [])
distinct_appended [] n d h = (refl, tt)
distinct_appended (m ∷ names) n d h =
    let split = none_of (bytes_eq m.text n.text) m (named names n.text) h in
    (other_appended names n m.text (turned m.text n.text split.0) ∙ d.0, distinct_appended names n d.1 split.1)

head_renamed : (names : List Name) (m n : Name) → named names m.text ≡ None → (b : Bool) → bytes_eq m.text n.text ≡ b → named (renamed names n) (cond b n m).text ≡ None
head_renamed names m n h true same =
    let is : m.text ≡ n.text = (bytes_eq-Decides m.text n.text).0 same in
    let none : named names n.text ≡ None = ap (named names) (sym is) ∙ h in
    rw (none_renamed names n none) none
head_renamed names m n h false differs = other_renamed names n m.text (turned m.text n.text differs) ∙ h

distinct_renamed : (names : List Name) (n : Name) → Distinct names → Distinct (renamed names n)
distinct_renamed [] n d = tt
distinct_renamed (m ∷ names) n d = (head_renamed names m n d.0 (bytes_eq m.text n.text) refl, distinct_renamed names n d.1)

pub distinct_made : (names : List Name) (n : Name) (after : List Name) → Made names n after → Distinct names → Distinct after
distinct_made names n after (fresh none room) d = distinct_appended names n d none
distinct_made names n after (again is was now) d = distinct_renamed names n d

-- ---- how many there are

abbrev pub one : Bool → ℕ
one true = 1
one false = 0

abbrev pub set_count : List Name → ℕ
set_count [] = 0
set_count (n ∷ names) = one (is_settable n.kind) + set_count names
