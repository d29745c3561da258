-- The names of the second walk beside those of the first: names that stand for good, and those of SET that are set so far.
use Rattle.std.proofs.Common.{◌≡◌, ℕ, ◌+◌, ◌<◌, ◌≤◌, nat_lt, not, Bool, true, false, cond, List, [], ◌∷◌, ◌++◌, length, filter, Option, Some, None, refl, sym, ap, ◌∙◌, arith, length-append}
use Rattle.std.proofs.lemmas.Bool.Decides.{nat_tests}
use Rattle.std.proofs.lemmas.List.{length-map}
use Rattle.std.proofs.lemmas.Slice.Eq.{bytes_eq-Decides}
use Rattle.std.specs.Str.{bytes_eq}
use Rattle.asm80_source_def.specs.declared.meaning.NameKind.{NameKind}
use Rattle.asm80_source_def.specs.declared.meaning.NameKind.TheVariants.{Label, Equate, Settable}
use Rattle.asm80_source_def.specs.Names.{Name, named, most_names, is_settable, renamed, clashes_with, clashes, overflows_by, overflows, defined}
use Rattle.asm80_values.proofs.SetNames.{Made, fresh, again, made, other_made, own_made, Distinct, one, set_count}

-- ---- how many there are

count_appended : (names : List Name) (n : Name) → set_count (names ++ n ∷ []) ≡ set_count names + one (is_settable n.kind)
count_appended [] n = omega arith
count_appended (m ∷ names) n = omega (arith, count_appended names n)

count_head : (m n : Name) (x y : ℕ) → is_settable n.kind ≡ true → x ≤ y → (b : Bool) → one (is_settable m.kind) + x ≤ one (is_settable (cond b n m).kind) + y
count_head m n x y now rest true = rw now (omega (arith, one-le (is_settable m.kind)))
  where
    one-le : (b : Bool) → one b ≤ 1
    one-le true = omega arith
    one-le false = omega arith
count_head m n x y now rest false = omega arith

count_renamed : (names : List Name) (n : Name) → is_settable n.kind ≡ true → set_count names ≤ set_count (renamed names n)
count_renamed [] n now = omega arith
count_renamed (m ∷ names) n now = count_head m n (set_count names) (set_count (renamed names n)) now (count_renamed names n now) (bytes_eq m.text n.text)

pub count_made : (names : List Name) (n : Name) (after : List Name) → Made names n after → set_count names ≤ set_count after
count_made names n after (fresh none room) = omega (arith, count_appended names n)
count_made names n after (again is was now) = count_renamed names n now

pub room_made : (names : List Name) (n : Name) (after : List Name) → Made names n after → length names ≤ 8192 → length after ≤ 8192
room_made names n after (fresh none room) le = omega (arith, length-append names (n ∷ []))
room_made names n after (again is was now) le = omega (arith, length-map names (λ (old : Name). cond (bytes_eq old.text n.text) n old))

abbrev pub fixed : List Name → List Name
fixed names = filter (λ (n : Name). not (is_settable n.kind)) names

parts_by : (b : Bool) (n : Name) (names : List Name) (x y z : ℕ) → length names ≡ x → z ≡ x + y → 1 + z ≡ length (cond (not b) (n ∷ names) names) + (one b + y)
parts_by true n names x y z a h = omega arith
parts_by false n names x y z a h = omega arith

pub parts : (names : List Name) → length names ≡ length (fixed names) + set_count names
parts [] = refl
parts (n ∷ names) =
    let step = parts_by (is_settable n.kind) n (fixed names) (length (fixed names)) (set_count names) (length names) refl (parts names) in
    omega arith

-- ---- names stay

settable_is : (k : NameKind) → is_settable k ≡ true → k ≡ Settable
settable_is Label h = absurd cc
settable_is Equate h = absurd cc
settable_is Settable h = refl

-- what is defined stays defined, of its kind, and no fewer are set
pub record Stays (before end : List Name) : Type 0 where
  pub kinds : (t : List ℕ) (n : Name) → named before t ≡ Some n → (m : Name) × (named end t ≡ Some m) × (m.kind ≡ n.kind)
  pub sets : set_count before ≤ set_count end

pub stays-refl : (names : List Name) → Stays names names
stays-refl names = record { kinds = λ t n h. (n, h, refl); sets = omega arith }

some_same : (x y : Name) (o : Option Name) → o ≡ Some x → o ≡ Some y → x ≡ y
some_same x y o h g = cc

kind_kept :
    (names : List Name) (n : Name) (after end : List Name) (m : Name) → Made names n after → Stays after end → named names n.text ≡ Some m
    → (k : Name) × (named end n.text ≡ Some k) × (k.kind ≡ m.kind)
kind_kept names n after end m (fresh none room) stays h = absurd (let e : None ≡ Some m = sym none ∙ h in cc)
kind_kept names n after end m (again {old = old} is was now) stays h =
    let own = stays.kinds n.text n (own_made names n after (again is was now)) in
    let same : old ≡ m = some_same old m (named names n.text) is h in
    (own.0, own.1, own.2 ∙ settable_is n.kind now ∙ sym (settable_is old.kind was) ∙ ap (λ (x : Name). x.kind) same)

kinds_by :
    (names : List Name) (n : Name) (after end : List Name) → Made names n after → Stays after end → (t : List ℕ) (m : Name) → named names t ≡ Some m → (b : Bool) → bytes_eq n.text t ≡ b
    → (k : Name) × (named end t ≡ Some k) × (k.kind ≡ m.kind)
kinds_by names n after end h stays t m is false differs = stays.kinds t m (other_made names n after t h differs ∙ is)
kinds_by names n after end h stays t m is true same =
    let here : n.text ≡ t = (bytes_eq-Decides n.text t).0 same in
    let found = kind_kept names n after end m h stays (ap (named names) here ∙ is) in
    (found.0, ap (named end) (sym here) ∙ found.1, found.2)

pub stays_made : (names : List Name) (n : Name) (after end : List Name) → Made names n after → Stays after end → Stays names end
stays_made names n after end h stays = record {
  kinds = λ t m is. kinds_by names n after end h stays t m is (bytes_eq n.text t) refl;
  sets = omega (arith, count_made names n after h, stays.sets);
}

-- ---- the names of the second walk

abbrev pub seen_by : List Name → Option Name → List ℕ → Option Name
seen_by names None t = None
seen_by names (Some n) t = cond (is_settable n.kind) (named names t) (Some n)

pub record Beside (names before end : List Name) : Type 0 where
  pub same : (t : List ℕ) → named names t ≡ seen_by before (named end t) t
  pub room : length names ≤ length (fixed end) + set_count before

-- a name that another definition does not touch
seen_other : (before after : List Name) (t : List ℕ) (o : Option Name) → named after t ≡ named before t → seen_by before o t ≡ seen_by after o t
seen_other before after t None h = refl
seen_other before after t (Some n) h = ap (λ (o : Option Name). cond (is_settable n.kind) o (Some n)) (sym h)

-- of a name that stands for good the names so far do not matter
seen_fixed : (before after : List Name) (t : List ℕ) (o : Option Name) (m : Name) → o ≡ Some m → is_settable m.kind ≡ false → seen_by before o t ≡ seen_by after o t
seen_fixed before after t o m is h = rw (is, h) refl

label_seen :
    (before : List Name) (n : Name) (after end : List Name) → Made before n after → Stays after end → is_settable n.kind ≡ false → (t : List ℕ) → (b : Bool) → bytes_eq n.text t ≡ b
    → seen_by before (named end t) t ≡ seen_by after (named end t) t
label_seen before n after end h stays good t false differs = seen_other before after t (named end t) (other_made before n after t h differs)
label_seen before n after end h stays good t true same =
    let here : n.text ≡ t = (bytes_eq-Decides n.text t).0 same in
    let found = stays.kinds n.text n (own_made before n after h) in
    seen_fixed before after t (named end t) found.0 (ap (named end) (sym here) ∙ found.1) (ap is_settable found.2 ∙ good)

-- a label or an EQU
pub beside_label : (names before : List Name) (n : Name) (after end : List Name) → Made before n after → Stays after end → is_settable n.kind ≡ false → Beside names before end → Beside names after end
beside_label names before n after end h stays good beside = record {
  same = λ t. beside.same t ∙ label_seen before n after end h stays good t (bytes_eq n.text t) refl;
  room = omega (arith, beside.room, count_made before n after h);
}

-- a SET: the name is new to both or set again in both
set_room :
    (names before : List Name) (n : Name) (after again_names end : List Name) → Made before n after → Made names n again_names → Stays after end → is_settable n.kind ≡ true → named names n.text ≡ named before n.text
    → length names ≤ length (fixed end) + set_count before → length again_names ≤ length (fixed end) + set_count after
set_room names before n after again_names end (fresh none room) (fresh none2 room2) stays now alike le =
    let counted : set_count (before ++ n ∷ []) ≡ set_count before + 1 = count_appended before n ∙ ap (λ b. set_count before + one b) now in
    omega (arith, length-append names (n ∷ []))
set_room names before n after again_names end (fresh none room) (again {old = old} is was now2) stays now alike le =
    absurd (let e : Some old ≡ None = sym is ∙ alike ∙ none in cc)
set_room names before n after again_names end (again {old = old} is was now2) (fresh none room) stays now alike le =
    absurd (let e : Some old ≡ None = sym is ∙ sym alike ∙ none in cc)
set_room names before n after again_names end (again {old = old} is was now2) (again {old = old2} is2 was2 now3) stays now alike le =
    omega (arith, count_renamed before n now, length-map names (λ (old : Name). cond (bytes_eq old.text n.text) n old))

-- there is room for it in the second walk too
second_room :
    (names before : List Name) (n : Name) (after end : List Name) → Made before n after → Stays after end → is_settable n.kind ≡ true → length end ≤ 8192
    → length names ≤ length (fixed end) + set_count before → (o : Option Name) → named before n.text ≡ o → overflows_by names o ≡ false
second_room names before n after end (fresh none room) stays now few le None is =
    let counted : set_count (before ++ n ∷ []) ≡ set_count before + 1 = count_appended before n ∙ ap (λ b. set_count before + one b) now in
    let lt : length names < 8192 = omega (arith, parts end, stays.sets) in
    let some : nat_lt (length names) most_names ≡ true = grind (arith, nat_tests) in
    rw some refl
second_room names before n after end (again {old = old} is was now2) stays now few le None h = absurd (let e : Some old ≡ None = sym is ∙ h in cc)
second_room names before n after end h stays now few le (Some m) is = refl

set_seen :
    (names before : List Name) (n : Name) (after again_names end : List Name) → Made before n after → Made names n again_names → Stays after end → is_settable n.kind ≡ true
    → (t : List ℕ) → named names t ≡ seen_by before (named end t) t → (b : Bool) → bytes_eq n.text t ≡ b → named again_names t ≡ seen_by after (named end t) t
set_seen names before n after again_names end h g stays now t same false differs =
    other_made names n again_names t g differs ∙ same ∙ seen_other before after t (named end t) (other_made before n after t h differs)
set_seen names before n after again_names end h g stays now t same true is =
    let here : n.text ≡ t = (bytes_eq-Decides n.text t).0 is in
    let found = stays.kinds n.text n (own_made before n after h) in
    let found_here : named end t ≡ Some found.0 = ap (named end) (sym here) ∙ found.1 in
    let set : is_settable found.0.kind ≡ true = ap is_settable found.2 ∙ now in
    let left : named again_names t ≡ Some n = ap (named again_names) (sym here) ∙ own_made names n again_names g in
    let right : named after t ≡ Some n = ap (named after) (sym here) ∙ own_made before n after h in
    rw (left, found_here, set, right) refl

pub beside_set :
    (names before : List Name) (n : Name) (after end : List Name) → Made before n after → clashes before n ≡ false → Stays after end → is_settable n.kind ≡ true → length end ≤ 8192
    → Beside names before end → Beside (defined names n) after end
beside_set names before n after end h clear stays now few beside =
    let found = stays.kinds n.text n (own_made before n after h) in
    let set : is_settable found.0.kind ≡ true = ap is_settable found.2 ∙ now in
    let alike : named names n.text ≡ named before n.text = beside.same n.text ∙ ap (λ (o : Option Name). seen_by before o n.text) found.1 ∙ ap (λ b. cond b (named before n.text) (Some found.0)) set in
    let free : clashes names n ≡ false = ap (clashes_with n) alike ∙ clear in
    let room : overflows names n ≡ false = ap (overflows_by names) alike ∙ second_room names before n after end h stays now few beside.room (named before n.text) refl in
    let g : Made names n (defined names n) = made names n free room in
    record {
      same = λ t. set_seen names before n after (defined names n) end h g stays now t (beside.same t) (bytes_eq n.text t) refl;
      room = set_room names before n after (defined names n) end h g stays now alike beside.room;
    }

-- ---- at the start of the second walk

keep_by : (keep : Bool) (n : Name) (names : List Name) (t : List ℕ) → bytes_eq n.text t ≡ false → named (cond keep (n ∷ names) names) t ≡ named names t
keep_by true n names t h = rw h refl
keep_by false n names t h = refl

absent_by : (b : Bool) (n : Name) (o : Option Name) → cond b (Some n) o ≡ None → (b ≡ false) × (o ≡ None)
absent_by true n o h = absurd cc
absent_by false n o h = (refl, h)

none_fixed : (names : List Name) (t : List ℕ) → named names t ≡ None → named (fixed names) t ≡ None
none_fixed [] t h = refl
none_fixed (n ∷ names) t h =
    let split = absent_by (bytes_eq n.text t) n (named names t) h in
    keep_by (not (is_settable n.kind)) n (fixed names) t split.0 ∙ none_fixed names t split.1

here_by :
    (s : Bool) (n : Name) (names : List Name) (t : List ℕ) → bytes_eq n.text t ≡ true → named names t ≡ None
    → named (cond (not s) (n ∷ names) names) t ≡ cond s None (Some n)
here_by true n names t same none = none
here_by false n names t same none = rw same refl

start_by :
    (n : Name) (names : List Name) (t : List ℕ) → named names n.text ≡ None → named (fixed names) t ≡ seen_by [] (named names t) t → (b : Bool) → bytes_eq n.text t ≡ b
    → named (fixed (n ∷ names)) t ≡ seen_by [] (cond b (Some n) (named names t)) t
start_by n names t apart rest true same =
    let here : n.text ≡ t = (bytes_eq-Decides n.text t).0 same in
    here_by (is_settable n.kind) n (fixed names) t same (none_fixed names t (ap (named names) (sym here) ∙ apart))
start_by n names t apart rest false differs = keep_by (not (is_settable n.kind)) n (fixed names) t differs ∙ rest

start_same : (names : List Name) (t : List ℕ) → Distinct names → named (fixed names) t ≡ seen_by [] (named names t) t
start_same [] t d = refl
start_same (n ∷ names) t d = start_by n names t d.0 (start_same names t d.1) (bytes_eq n.text t) refl

pub beside_start : (names : List Name) → Distinct names → Beside (fixed names) [] names
beside_start names d = record { same = λ t. start_same names t d; room = omega arith }
