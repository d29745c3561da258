-- What disk files are read as, part by part.
use Rattle.std.proofs.Common.{◌≡◌, ℕ, zero, suc, ◌+◌, ◌-◌, ◌*◌, ◌/◌, ◌%◌, ◌<◌, ◌≤◌, true, false, List, [], ◌∷◌, ◌++◌, length, take, drop, get_or, replicate, refl, sym, ap, ◌∙◌, subst, arith}
use Rattle.std.specs.Prelude.{Some}
use Rattle.std.specs.List.{All}
use Rattle.std.proofs.lemmas.List.{append-nil, length-append, length-take-le, length-drop, length-replicate, take-append-drop, take-append-le, take_all, nil_from_length, get_or-take, get_or_append_left}
use Rattle.std.proofs.lemmas.List.Elements.{All-nil, All-cons, All-head, All-tail}
use Rattle.std.proofs.Math.Seq.{take-add}
use Rattle.std.proofs.lemmas.List.Sums.{sum_by-cons}
use Rattle.std.proofs.lemmas.List.Concat.{flat_map-append}
use Rattle.bdos_small.specs.Names.{is_file_name, is_before, highest}
use Rattle.bdos_small.specs.Spelled.{BreaksAt}
use Rattle.bdos_small.proofs.Going.{highest_lawful, upto_then, upto_lt}
use Rattle.bdos_small.proofs.Highest.{highest_falls, next_highest, below_highest}
use Rattle.bdos_small.specs.Stored.{Stored}
use Rattle.bdos_small.specs.Disks.{AreFilesAfter, records_in}
use Rattle.bdos_small.specs.DiskFile.{disk_mark, word_bytes, all_records}
use Rattle.bdos_small.specs.Reading.{AreFiles}
use Rattle.bdos_small.proofs.Files.{count_of}
use Rattle.bdos_small.proofs.Parts.{same_front}

word_low : (low : ℕ) → low < 256 → word_bytes low ≡ low ∷ (0 ∷ [])
word_low low lt =
    let a : low % 256 ≡ low = omega arith in
    let b : low / 256 ≡ 0 = omega arith in
    ap (λ x. x ∷ (low / 256 ∷ [])) a ∙ ap (λ x. low ∷ (x ∷ [])) b

module _ (most : ℕ) where
  -- no first byte
  pub word_none : BreaksAt (λ n. n ≤ most) word_bytes [] 0
  word_none = record {
    within = omega arith;
    so_far = (0, (omega arith), (word_bytes 0, refl));
    none = λ v is b. let e = ap length b.1 in absurd (omega (arith, e));
    no_further = λ lt. absurd (omega (arith, lt));
  }

  -- a first byte that is too high
  pub word_first : (low : ℕ) (bs : List ℕ) → most < low → BreaksAt (λ n. n ≤ most) word_bytes (low ∷ bs) 0
  word_first low bs high = record {
    within = omega arith;
    so_far = (0, (omega arith), (word_bytes 0, refl));
    none = λ v is b. let e : low ≡ v % 256 = ap (λ l. get_or l 0 0) b.1 in absurd (omega (arith, e, is));
    no_further = λ lt v is b. let e : v % 256 ≡ low = ap (λ l. get_or l 0 0) b.1 in absurd (omega (arith, e, is));
  }

  -- no second byte
  pub word_short : (low : ℕ) → low ≤ most → low < 256 → BreaksAt (λ n. n ≤ most) word_bytes (low ∷ []) 1
  word_short low le lt = record {
    within = omega arith;
    so_far = (low, le, (0 ∷ [], word_low low lt));
    none = λ v is b. let e = ap length b.1 in let f = length-append (word_bytes v) b.0 in absurd (omega (arith, e, f));
    no_further = λ less. absurd (omega (arith, less));
  }

  -- a second byte that is too high
  pub word_second : (low high : ℕ) (bs : List ℕ) → low ≤ most → low < 256 → most < low + 256 * high → BreaksAt (λ n. n ≤ most) word_bytes (low ∷ (high ∷ bs)) 1
  word_second low high bs le lt large = record {
    within = omega arith;
    so_far = (low, le, (0 ∷ [], word_low low lt));
    none = λ v is b.
        let e : low ≡ v % 256 = ap (λ l. get_or l 0 0) b.1 in
        let f : high ≡ v / 256 = ap (λ l. get_or l 1 0) b.1 in
        absurd (omega (arith, e, f, is));
    no_further = λ less v is b.
        let e : v % 256 ≡ low = ap (λ l. get_or l 0 0) b.1 in
        let f : v / 256 ≡ high = ap (λ l. get_or l 1 0) b.1 in
        absurd (omega (arith, e, f, is));
  }

  pub word_only : (a c : ℕ) → (length (word_bytes c) ≡ length (word_bytes a)) × (word_bytes c ≡ word_bytes a → c ≡ a)
  word_only a c = (refl, λ e. let f : c % 256 ≡ a % 256 = ap (λ l. get_or l 0 0) e in let g : c / 256 ≡ a / 256 = ap (λ l. get_or l 1 0) e in omega (arith, f, g))

-- so many records
pub record AreRecords (count : ℕ) (rs : List (List ℕ)) : Type 0 where
  pub count_is : length rs ≡ count
  pub whole : All (λ r. length r ≡ 128) rs

pub length-all_records : (rs : List (List ℕ)) → All (λ r. length r ≡ 128) rs → length (all_records rs) ≡ 128 * length rs
length-all_records [] h = refl
length-all_records (r ∷ rs) h =
    let one = All-head (λ r. length r ≡ 128) r rs h in
    let rest = length-all_records rs (All-tail (λ r. length r ≡ 128) r rs h) in
    omega (arith, length-append r (all_records rs), one, rest)

pub same_records : (rs ts : List (List ℕ)) → All (λ r. length r ≡ 128) rs → All (λ r. length r ≡ 128) ts → length rs ≡ length ts → all_records rs ≡ all_records ts → rs ≡ ts
same_records [] [] h g n e = refl
same_records [] (t ∷ ts) h g n e = absurd (omega (arith, n))
same_records (r ∷ rs) [] h g n e = absurd (omega (arith, n))
same_records (r ∷ rs) (t ∷ ts) h g n e =
    let P : List ℕ → Type 0 = λ r. length r ≡ 128 in
    let apart = same_front r t (all_records rs) (all_records ts) e (All-head P r rs h ∙ sym (All-head P t ts g)) in
    ap (λ x. x ∷ rs) apart.0 ∙ ap (λ l. t ∷ l) (same_records rs ts (All-tail P r rs h) (All-tail P t ts g) (omega (arith, n)) apart.1)

-- bytes cut into records
abbrev cut : ℕ → List ℕ → List (List ℕ)
cut zero bytes = []
cut (suc n) bytes = take 128 bytes ∷ cut n (drop 128 bytes)

cut_whole : (n : ℕ) (bytes : List ℕ) → length bytes ≡ 128 * n → AreRecords n (cut n bytes) × (all_records (cut n bytes) ≡ bytes)
cut_whole zero bytes e = (record { count_is = refl; whole = All-nil _ }, sym (nil_from_length bytes (omega (arith, e))))
cut_whole (suc n) bytes e =
    let rest = cut_whole n (drop 128 bytes) (omega (arith, e, length-drop 128 bytes)) in (
      record {
        count_is = ap suc rest.0.count_is;
        whole = All-cons (λ r. length r ≡ 128) (take 128 bytes) (cut n (drop 128 bytes)) (length-take-le 128 bytes (omega (arith, e))) rest.0.whole;
      },
      ap (λ l. take 128 bytes ++ l) rest.1 ∙ take-append-drop 128 bytes,
    )

-- bytes that are too few
pub records_short : (n : ℕ) (bytes : List ℕ) → length bytes < 128 * n → BreaksAt (AreRecords n) all_records bytes (length bytes)
records_short n bytes lt =
    let more = 128 * n - length bytes in
    let filled : List ℕ = bytes ++ replicate more 0 in
    let long : length filled ≡ 128 * n = omega (arith, length-append bytes (replicate more 0), length-replicate {A = ℕ} more 0) in
    let made = cut_whole n filled long in
    record {
      within = omega arith;
      so_far = (cut n filled, made.0, (replicate more 0, made.1 ∙ ap (λ l. l ++ replicate more 0) (sym (take_all (length bytes) bytes (omega arith)))));
      none = λ v is b.
          let size = length-all_records v is.whole in
          let count : length v ≡ n = is.count_is in
          absurd (omega (arith, ap length b.1, length-append (all_records v) b.0, size));
      no_further = λ less. absurd (omega (arith, less));
    }

pub records_only : (n : ℕ) (rs : List (List ℕ)) → AreRecords n rs → (ts : List (List ℕ)) → AreRecords n ts → (length (all_records ts) ≡ length (all_records rs)) × (all_records ts ≡ all_records rs → ts ≡ rs)
records_only n rs h ts g =
    let a : length rs ≡ n = h.count_is in
    let b : length ts ≡ n = g.count_is in
    (omega (arith, length-all_records rs h.whole, length-all_records ts g.whole), same_records ts rs g.whole h.whole (omega arith))

-- the names of files leave room for those behind them
pub files_leave_room : (n : List ℕ) (fs : List Stored) (count : ℕ) → count ≤ 63 → is_file_name n ≡ true → AreFilesAfter (Some n) fs → length fs ≡ count → is_before (highest count) n ≡ false
files_leave_room n [] zero le name h e = below_highest n name
files_leave_room n [] (suc k) le name h e = absurd (omega (arith, e))
files_leave_room n (f ∷ fs) zero le name h e = absurd (omega (arith, e))
files_leave_room n (f ∷ fs) (suc k) le name h e =
    let rest = files_leave_room f.name fs k (omega (arith, le)) h.0.name h.2 (omega (arith, e)) in
    let one : k + 1 ≡ suc k = omega arith in
    subst (λ m. is_before (highest m) n ≡ false) one (next_highest k n (omega (arith, le)) name (upto_then n f.name (highest k) h.1 rest))

-- the highest files that there may be, without records
abbrev pub top_files : ℕ → List Stored
top_files zero = []
top_files (suc k) = record { name = highest k; records = [] } ∷ top_files k

pub length-top_files : (k : ℕ) → length (top_files k) ≡ k
length-top_files zero = refl
length-top_files (suc k) = ap suc (length-top_files k)

pub none-top_files : (k : ℕ) → records_in (top_files k) ≡ 0
none-top_files zero = refl
none-top_files (suc k) = omega (arith, sum_by-cons count_of (record { name = highest k; records = [] }) (top_files k), none-top_files k)

pub top_files-after : (k : ℕ) → k ≤ 63 → AreFilesAfter (Some (highest k)) (top_files k)
top_files-after zero le = tt
top_files-after (suc k) le =
    let one : k + 1 ≡ suc k = omega arith in (
      record { name = highest_lawful k (omega (arith, le)); records = All-nil _ },
      subst (λ m. is_before (highest m) (highest k) ≡ true) one (highest_falls k (omega (arith, le))),
      top_files-after k (omega (arith, le)),
    )

-- behind a name that leaves room
top_files-room : (name : List ℕ) (k : ℕ) → k ≤ 63 → is_before (highest k) name ≡ false → AreFilesAfter (Some name) (top_files k)
top_files-room name zero le room = tt
top_files-room name (suc k) le room =
    let h = top_files-after (suc k) le in
    (h.0, upto_lt name (highest (suc k)) (highest k) room h.1, h.2)

pub room_for : (name : List ℕ) (k room : ℕ) → k ≤ 63 → is_before (highest k) name ≡ false → AreFiles (Some name) k room (top_files k)
room_for name k room le h = record {
  files = top_files-room name k le h;
  count_is = length-top_files k;
  small = omega (arith, none-top_files k);
}

-- the same of bytes by their places
module _ (most : ℕ) where
  pub word_short_at : (bytes : List ℕ) → length bytes ≡ 1 → get_or bytes 0 0 ≤ most → get_or bytes 0 0 < 256 → BreaksAt (λ n. n ≤ most) word_bytes bytes 1
  word_short_at [] e le lt = absurd (omega (arith, e))
  word_short_at (low ∷ []) e le lt = word_short most low le lt
  word_short_at (low ∷ (high ∷ bs)) e le lt = absurd (omega (arith, e))

  pub word_second_at : (bytes : List ℕ) → 1 < length bytes → get_or bytes 0 0 ≤ most → get_or bytes 0 0 < 256 → most < get_or bytes 0 0 + 256 * get_or bytes 1 0 → BreaksAt (λ n. n ≤ most) word_bytes bytes 1
  word_second_at [] e le lt large = absurd (omega (arith, e))
  word_second_at (low ∷ []) e le lt large = absurd (omega (arith, e))
  word_second_at (low ∷ (high ∷ bs)) e le lt large = word_second most low high bs le lt large

pub mark_breaks : (bytes : List ℕ) (k : ℕ) → k < 8 → k ≤ length bytes → take k bytes ≡ take k disk_mark → (k < length bytes → get_or bytes k 0 ≡ get_or disk_mark k 0 → ⊥) → BreaksAt {V = Unit {0}} (λ _. Unit {0}) (λ _. disk_mark) bytes k
mark_breaks bytes k lt le same differs =
    let further : k < length bytes → (rest : List ℕ) → disk_mark ≡ take (k + 1) bytes ++ rest → ⊥ = λ less rest e.
    let long : length (take (k + 1) bytes) ≡ k + 1 = length-take-le (k + 1) bytes (omega (arith, less)) in
    differs less (sym (get_or-take (k + 1) bytes k 0 (omega arith)) ∙ sym (get_or_append_left (take (k + 1) bytes) rest 0 k (omega (arith, long))) ∙ ap (λ l. get_or l k 0) (sym e)) in
    record {
      within = le;
      so_far = (tt, tt, (drop k disk_mark, sym (take-append-drop k disk_mark) ∙ ap (λ p. p ++ drop k disk_mark) (sym same)));
      none = λ v is b.
          let all = length-append disk_mark b.0 in
          let less : k < length bytes = omega (arith, lt, ap length b.1, all) in
          let start : take (k + 1) bytes ≡ take (k + 1) disk_mark = ap (take (k + 1)) b.1 ∙ take-append-le (k + 1) disk_mark b.0 (omega (arith, lt)) in
          further less (drop (k + 1) disk_mark) (sym (take-append-drop (k + 1) disk_mark) ∙ ap (λ p. p ++ drop (k + 1) disk_mark) (sym start));
      no_further = λ less v is b. further less b.0 b.1;
    }

-- one record more
pub records_more : (records more : List (List ℕ)) (r bytes : List ℕ) (k : ℕ) → all_records records ≡ take (k * 128) bytes → more ≡ records ++ r ∷ [] → r ≡ take 128 (drop (k * 128) bytes) → all_records more ≡ take ((k + 1) * 128) bytes
records_more records more r bytes k so_far added is =
    let all : (k + 1) * 128 ≡ k * 128 + 128 = omega arith in
    ap all_records added
    ∙ flat_map-append (λ (x : List ℕ). x) records (r ∷ [])
    ∙ ap (λ l. all_records records ++ l) (append-nil r)
    ∙ ap (λ l. l ++ r) so_far
    ∙ ap (λ l. take (k * 128) bytes ++ l) is
    ∙ sym (take-add (k * 128) 128 bytes)
    ∙ ap (λ n. take n bytes) (sym all)
