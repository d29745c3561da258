-- Files that are read one after another: where a part breaks the whole does.
use Rattle.std.proofs.Common.{◌≡◌, ℕ, suc, ◌+◌, ◌-◌, ◌*◌, ◌<◌, ◌≤◌, true, List, [], ◌∷◌, ◌++◌, length, take, drop, replicate, refl, sym, ap, ◌∙◌, subst, arith, append_assoc}
use Rattle.std.specs.Prelude.{Option, Some, None}
use Rattle.std.specs.List.{All}
use Rattle.std.proofs.lemmas.List.{append-nil, length-append, length-drop, length-replicate, take-append-drop, drop-drop}
use Rattle.std.proofs.lemmas.List.Elements.{All-nil, All-replicate}
use Rattle.std.proofs.lemmas.List.Sums.{sum_by-cons}
use Rattle.bdos_small.specs.Names.{is_before, is_after, highest, IsNameBetween}
use Rattle.bdos_small.specs.Spelled.{BreaksAt}
use Rattle.std.proofs.lemmas.List.Concat.{flat_map-append}
use Rattle.bdos_small.proofs.Going.{name_parts, upto_lt}
use Rattle.bdos_small.proofs.Highest.{highest_falls}
use Rattle.bdos_small.specs.Stored.{Stored, zero_record}
use Rattle.bdos_small.specs.Disks.{records_in}
use Rattle.bdos_small.specs.DiskFile.{word_bytes, all_records, file_bytes, files_bytes}
use Rattle.bdos_small.specs.Reading.{AreFiles, IsNextFile}
use Rattle.bdos_small.proofs.Files.{count_of}
use Rattle.bdos_small.proofs.Parts.{first_breaks, second_breaks}
use Rattle.bdos_small.proofs.Languages.{AreRecords, word_only, records_only, records_short, files_leave_room, top_files, room_for}

-- what stands behind a name: the records of its file, and the files behind it
pub record IsRest (name : List ℕ) (after room : ℕ) (p : List (List ℕ) × List Stored) : Type 0 where
  pub whole : All (λ r. length r ≡ 128) p.0
  pub small : length p.0 ≤ room
  pub others : AreFiles (Some name) after (room - length p.0) p.1

abbrev pub rest_bytes : List (List ℕ) × List Stored → List ℕ
rest_bytes p = word_bytes (length p.0) ++ (all_records p.0 ++ files_bytes p.1)

-- the same behind the number of records
pub record IsBody (name : List ℕ) (after room count : ℕ) (p : List (List ℕ) × List Stored) : Type 0 where
  pub records : AreRecords count p.0
  pub others : AreFiles (Some name) after (room - count) p.1

abbrev pub body_bytes : List (List ℕ) × List Stored → List ℕ
body_bytes p = all_records p.0 ++ files_bytes p.1

module _ (last : Option (List ℕ)) (after room : ℕ) (le : after ≤ 63) where
  abbrev Named : List ℕ → Type 0
  Named name = IsNameBetween last after name

  abbrev Whole : List Stored → Type 0
  Whole fs = AreFiles last (after + 1) room fs

  abbrev name_bytes : List ℕ → List ℕ
  name_bytes name = name

  -- a name, and what stands behind it
  file_apart : (f : Stored) (fs : List Stored) → files_bytes (f ∷ fs) ≡ f.name ++ rest_bytes (f.records, fs)
  file_apart f fs =
      append_assoc f.name (word_bytes (length f.records) ++ all_records f.records) (files_bytes fs)
      ∙ ap (λ l. f.name ++ l) (append_assoc (word_bytes (length f.records)) (all_records f.records) (files_bytes fs))

  name_parts_of : (v : List Stored) → Whole v → (a : List ℕ) × (b : List (List ℕ) × List Stored) × Named a × IsRest a after room b × (files_bytes v ≡ name_bytes a ++ rest_bytes b)
  name_parts_of [] h = absurd (let e : 0 ≡ after + 1 = h.count_is in omega (arith, e))
  name_parts_of (f ∷ fs) h =
      let count : suc (length fs) ≡ after + 1 = h.count_is in
      let sum : records_in (f ∷ fs) ≡ length f.records + records_in fs = sum_by-cons count_of f fs in
      let small : records_in (f ∷ fs) ≤ room = h.small in (
        f.name,
        (f.records, fs),
        record {
          lawful = h.files.0.name;
          above = h.files.1;
          room = files_leave_room f.name fs after le h.files.0.name h.files.2 (omega arith);
        },
        record {
          whole = h.files.0.records;
          small = omega arith;
          others = record { files = h.files.2; count_is = omega arith; small = omega arith };
        },
        file_apart f fs,
      )

  pub name_join : (a : List ℕ) (b : List (List ℕ) × List Stored) → Named a → IsRest a after room b → (v : List Stored) × Whole v × (files_bytes v ≡ name_bytes a ++ rest_bytes b)
  name_join a b named rest =
      let f : Stored = record { name = a; records = b.0 } in
      let sum : records_in (f ∷ b.1) ≡ length b.0 + records_in b.1 = sum_by-cons count_of f b.1 in
      let small : length b.0 ≤ room = rest.small in
      let others : records_in b.1 ≤ room - length b.0 = rest.others.small in
      let count : length b.1 ≡ after = rest.others.count_is in (
        f ∷ b.1,
        record {
          files = (record { name = named.lawful; records = rest.whole }, named.above, rest.others.files);
          count_is = omega arith;
          small = omega arith;
        },
        file_apart f b.1,
      )

  name_some : (a : List ℕ) → Named a → (b : List (List ℕ) × List Stored) × IsRest a after room b
  name_some a named = (([], top_files after), record { whole = All-nil _; small = omega arith; others = room_for a after (room - 0) le named.room })

  pub name_breaks : (bytes : List ℕ) (k : ℕ) → BreaksAt (IsNameBetween last after) (λ name. name) bytes k → BreaksAt (AreFiles last (after + 1) room) files_bytes bytes k
  name_breaks = first_breaks Named name_bytes (λ a. IsRest a after room) rest_bytes Whole files_bytes name_parts_of name_join name_some

  module _ (name : List ℕ) (named : IsNameBetween last after name) where
    name_only : (c : List ℕ) → Named c → (length c ≡ length name) × (c ≡ name → c ≡ name)
    name_only c h = ((name_parts c h.lawful).0 ∙ sym (name_parts name named.lawful).0, λ e. e)

    behind_name : (bytes rest : List ℕ) → bytes ≡ name ++ rest → (k : ℕ) → BreaksAt (IsRest name after room) rest_bytes rest k → BreaksAt Whole files_bytes bytes (length name + k)
    behind_name = second_breaks Named name_bytes (λ a. IsRest a after room) rest_bytes Whole files_bytes name_parts_of name_join name named name_only

    -- the number of records, and what stands behind it
    count_parts : (v : List (List ℕ) × List Stored) → IsRest name after room v → (a : ℕ) × (b : List (List ℕ) × List Stored) × (a ≤ room) × IsBody name after room a b × (rest_bytes v ≡ word_bytes a ++ body_bytes b)
    count_parts v h = (length v.0, v, h.small, record { records = record { count_is = refl; whole = h.whole }; others = h.others }, refl)

    count_join : (a : ℕ) (b : List (List ℕ) × List Stored) → a ≤ room → IsBody name after room a b → (v : List (List ℕ) × List Stored) × IsRest name after room v × (rest_bytes v ≡ word_bytes a ++ body_bytes b)
    count_join a b small body =
        let same : a ≡ length b.0 = sym body.records.count_is in (
          b,
          record {
            whole = body.records.whole;
            small = subst (λ n. n ≤ room) same small;
            others = subst (λ n. AreFiles (Some name) after (room - n) b.1) same body.others;
          },
          ap (λ n. word_bytes n ++ body_bytes b) (sym same),
        )

    count_some : (a : ℕ) → a ≤ room → (b : List (List ℕ) × List Stored) × IsBody name after room a b
    count_some a small = (
      (replicate a zero_record, top_files after),
      record {
        records = record { count_is = length-replicate a zero_record; whole = All-replicate (λ r. length r ≡ 128) a zero_record (length-replicate {A = ℕ} 128 0) };
        others = room_for name after (room - a) le named.room;
      },
    )

    pub count_breaks : (bytes rest : List ℕ) → bytes ≡ name ++ rest → (k : ℕ) → BreaksAt (λ n. n ≤ room) word_bytes rest k → BreaksAt (AreFiles last (after + 1) room) files_bytes bytes (length name + k)
    count_breaks bytes rest e k h =
        behind_name bytes rest e k (first_breaks (λ n. n ≤ room) word_bytes (λ a. IsBody name after room a) body_bytes (IsRest name after room) rest_bytes count_parts count_join count_some rest k h)

    module _ (count : ℕ) (small : count ≤ room) where
      behind_count : (bytes rest : List ℕ) → bytes ≡ name ++ (word_bytes count ++ rest) → (k : ℕ) → BreaksAt (IsBody name after room count) body_bytes rest k → BreaksAt Whole files_bytes bytes (length name + (2 + k))
      behind_count bytes rest e k h =
          behind_name bytes (word_bytes count ++ rest) e (2 + k) (second_breaks (λ n. n ≤ room) word_bytes (λ a. IsBody name after room a) body_bytes (IsRest name after room) rest_bytes count_parts count_join count small (λ c h. word_only room count c) (word_bytes count ++ rest) rest refl k h)

      -- the records, and the files behind them
      records_parts : (v : List (List ℕ) × List Stored) → IsBody name after room count v → (a : List (List ℕ)) × (b : List Stored) × AreRecords count a × AreFiles (Some name) after (room - count) b × (body_bytes v ≡ all_records a ++ files_bytes b)
      records_parts v h = (v.0, v.1, h.records, h.others, refl)

      records_join : (a : List (List ℕ)) (b : List Stored) → AreRecords count a → AreFiles (Some name) after (room - count) b → (v : List (List ℕ) × List Stored) × IsBody name after room count v × (body_bytes v ≡ all_records a ++ files_bytes b)
      records_join a b records others = ((a, b), record { records = records; others = others }, refl)

      pub records_break : (bytes rest : List ℕ) → bytes ≡ name ++ (word_bytes count ++ rest) → length rest < 128 * count → BreaksAt (AreFiles last (after + 1) room) files_bytes bytes (length bytes)
      records_break bytes rest e lt =
          let short = records_short count rest lt in
          let at : length name + (2 + length rest) ≡ length bytes = omega (arith, ap length e, length-append name (word_bytes count ++ rest), length-append (word_bytes count) rest) in
          subst (λ k. BreaksAt Whole files_bytes bytes k) at
          (behind_count bytes rest e (length rest) (first_breaks (AreRecords count) all_records (λ _. AreFiles (Some name) after (room - count)) files_bytes (IsBody name after room count) body_bytes records_parts records_join (λ a h. (top_files after, room_for name after (room - count) le named.room)) rest (length rest) short))

      pub files_break : (records : List (List ℕ)) → AreRecords count records → (bytes rest : List ℕ) → bytes ≡ name ++ (word_bytes count ++ (all_records records ++ rest)) → (k : ℕ) → BreaksAt (AreFiles (Some name) after (room - count)) files_bytes rest k → BreaksAt (AreFiles last (after + 1) room) files_bytes bytes (length name + (2 + (length (all_records records) + k)))
      files_break records h bytes rest e k breaks =
          behind_count bytes (all_records records ++ rest) e (length (all_records records) + k)
          (second_breaks (AreRecords count) all_records (λ _. AreFiles (Some name) after (room - count)) files_bytes (IsBody name after room count) body_bytes records_parts records_join records h (records_only count records h) (all_records records ++ rest) rest refl k breaks)

  -- behind a file that was read
  pub next_breaks : (bytes : List ℕ) (f : Stored) (used : ℕ) → IsNextFile last after room bytes f used → (k : ℕ) → BreaksAt (AreFiles (Some f.name) after (room - length f.records)) files_bytes (drop used bytes) k → BreaksAt (AreFiles last (after + 1) room) files_bytes bytes (used + k)
  next_breaks bytes f used next k h =
      let rest = drop used bytes in
      let n = length f.records in
      let apart : bytes ≡ f.name ++ (word_bytes n ++ (all_records f.records ++ rest)) = next.bytes_are ∙ append_assoc f.name (word_bytes n ++ all_records f.records) rest ∙ ap (λ l. f.name ++ l) (append_assoc (word_bytes n) (all_records f.records) rest) in
      let sizes = length-append f.name (word_bytes n ++ (all_records f.records ++ rest)) in
      let words = length-append (word_bytes n) (all_records f.records ++ rest) in
      let more = length-append (all_records f.records) rest in
      let left = length-drop used bytes in
      let at : length f.name + (2 + (length (all_records f.records) + k)) ≡ used + k = omega (arith, ap length apart, sizes, words, more, left, next.within) in
      subst (λ j. BreaksAt Whole files_bytes bytes j) at
      (files_break f.name next.name n next.small f.records (record { count_is = refl; whole = next.records }) bytes rest apart k h)

-- a name in front of the bytes
pub named_front : (last : Option (List ℕ)) (after : ℕ) (name bytes : List ℕ) → take 11 bytes ≡ name → bytes ≡ name ++ drop 11 bytes
named_front last after name bytes e = sym (take-append-drop 11 bytes) ∙ ap (λ p. p ++ drop 11 bytes) e

-- the file that was read
pub next_file : (last : Option (List ℕ)) (after room : ℕ) (bytes name : List ℕ) (count used : ℕ) (records : List (List ℕ)) → IsNameBetween last after name → bytes ≡ name ++ drop 11 bytes → 11 ≤ length bytes → count ≤ room → drop 11 bytes ≡ word_bytes count ++ drop 13 bytes → length records ≡ count → All (λ r. length r ≡ 128) records → all_records records ≡ take (count * 128) (drop 13 bytes) → used ≡ 13 + count * 128 → used ≤ length bytes → IsNextFile last after room bytes (record { name = name; records = records }) used
next_file last after room bytes name count used records named front long small counted length_is whole records_are used_is within =
    let rest = drop 13 bytes in
    let left : drop used bytes ≡ drop (count * 128) rest = ap (λ n. drop n bytes) used_is ∙ sym (drop-drop (count * 128) 13 bytes) in
    let behind : rest ≡ all_records records ++ drop used bytes = sym (take-append-drop (count * 128) rest) ∙ ap (λ p. p ++ drop (count * 128) rest) (sym records_are) ∙ ap (λ l. all_records records ++ l) (sym left) in
    let w = word_bytes (length records) in
    record {
      name = named;
      records = whole;
      small = subst (λ n. n ≤ room) (sym length_is) small;
      bytes_are =
          front
          ∙ ap (λ l. name ++ l) (counted ∙ ap (λ n. word_bytes n ++ rest) (sym length_is) ∙ ap (λ l. w ++ l) behind)
          ∙ ap (λ l. name ++ l) (sym (append_assoc w (all_records records) (drop used bytes)))
          ∙ sym (append_assoc name (w ++ all_records records) (drop used bytes));
      within = within;
    }

-- how far the files of a disk were read: those that were read stand in front of the rest, and more files behind them would be
-- files of the disk
pub record StillReading (count : ℕ) (bytes : List ℕ) (files : List Stored) (last : Option (List ℕ)) (room at index : ℕ) : Type 0 where
  pub within : at ≤ length bytes
  pub stands : bytes ≡ files_bytes files ++ drop at bytes
  pub small : room ≤ 8000
  pub can : index < count → is_after last (highest (count - 1 - index)) ≡ true
  pub whole : (fs : List Stored) → AreFiles last (count - index) room fs → AreFiles None count 8000 (files ++ fs)
  pub breaks : (k : ℕ) → BreaksAt (AreFiles last (count - index) room) files_bytes (drop at bytes) k → BreaksAt (AreFiles None count 8000) files_bytes bytes (at + k)

pub none_read : (count : ℕ) (bytes : List ℕ) → StillReading count bytes [] None 8000 0 0
none_read count bytes =
    let all : count - 0 ≡ count = omega arith in
    record {
      within = omega arith;
      stands = refl;
      small = omega arith;
      can = λ _. refl;
      whole = λ fs h. subst (λ n. AreFiles None n 8000 fs) all h;
      breaks = λ k h.
          let same : k ≡ 0 + k = omega arith in
          subst (λ j. BreaksAt (AreFiles None count 8000) files_bytes bytes j) same (subst (λ n. BreaksAt (AreFiles None n 8000) files_bytes bytes k) all h);
    }

pub few_after : (count index : ℕ) → count ≤ 64 → index < count → count - 1 - index ≤ 63
few_after count index few more = omega arith

module _ (count : ℕ) (few : count ≤ 64) (bytes : List ℕ) (files : List Stored) (last : Option (List ℕ)) (room at index : ℕ) (s : StillReading count bytes files last room at index) (more : index < count) where
  left : count - index ≡ count - 1 - index + 1
  left = omega (arith, more)

  pub still_breaks : (k : ℕ) → BreaksAt (AreFiles last (count - 1 - index + 1) room) files_bytes (drop at bytes) k → BreaksAt (AreFiles None count 8000) files_bytes bytes (at + k)
  still_breaks k h = s.breaks k (subst (λ n. BreaksAt (AreFiles last n room) files_bytes (drop at bytes) k) (sym left) h)

  pub still_next : (f : Stored) (used : ℕ) → IsNextFile last (count - 1 - index) room (drop at bytes) f used → StillReading count bytes (files ++ f ∷ []) (Some f.name) (room - length f.records) (at + used) (index + 1)
  unfolding name_join
  still_next f used next =
      let after = count - 1 - index in
      let le : after ≤ 63 = omega (arith, few, more) in
      let behind : drop used (drop at bytes) ≡ drop (at + used) bytes = drop-drop used at bytes in
      let fewer : count - (index + 1) ≡ after = omega (arith, more) in
      record {
        within = omega (arith, next.within, length-drop at bytes, s.within);
        stands =
            s.stands
            ∙ ap (λ l. files_bytes files ++ l) (next.bytes_are ∙ ap (λ l. file_bytes f ++ l) behind)
            ∙ sym (append_assoc (files_bytes files) (file_bytes f) (drop (at + used) bytes))
            ∙ ap (λ l. l ++ drop (at + used) bytes) (ap (λ l. files_bytes files ++ l) (sym (append-nil (file_bytes f))) ∙ sym (flat_map-append file_bytes files (f ∷ [])));
        small = omega (arith, s.small);
        can = λ again.
            let one : count - 1 - (index + 1) + 1 ≡ after = omega (arith, again) in
            let falls = highest_falls (count - 1 - (index + 1)) (omega (arith, few, again)) in
            upto_lt f.name (highest after) (highest (count - 1 - (index + 1))) next.name.room (subst (λ n. is_before (highest n) (highest (count - 1 - (index + 1))) ≡ true) one falls);
        whole = λ fs h.
            let rest : AreFiles (Some f.name) after (room - length f.records) fs = subst (λ n. AreFiles (Some f.name) n (room - length f.records) fs) fewer h in
            let joined = name_join last after room le f.name (f.records, fs) next.name (record { whole = next.records; small = next.small; others = rest }) in
            subst (AreFiles None count 8000) (sym (append_assoc files (f ∷ []) fs)) (s.whole (f ∷ fs) (subst (λ n. AreFiles last n room (f ∷ fs)) (sym left) joined.1));
        breaks = λ k h.
            let here : BreaksAt (AreFiles (Some f.name) after (room - length f.records)) files_bytes (drop used (drop at bytes)) k = subst (λ l. BreaksAt (AreFiles (Some f.name) after (room - length f.records)) files_bytes l k) (sym behind) (subst (λ n. BreaksAt (AreFiles (Some f.name) n (room - length f.records)) files_bytes (drop (at + used) bytes) k) fewer h) in
            let same : at + (used + k) ≡ at + used + k = omega arith in
            subst (λ j. BreaksAt (AreFiles None count 8000) files_bytes bytes j) same (still_breaks (used + k) (next_breaks last after room le (drop at bytes) f used next k here));
      }

-- the whole list is read where no more files are wanted
pub all_read : (count : ℕ) (bytes : List ℕ) (files : List Stored) (last : Option (List ℕ)) (room at index : ℕ) → StillReading count bytes files last room at index → count ≤ index →
    AreFiles None count 8000 files × (bytes ≡ files_bytes files ++ drop at bytes) × (at ≤ length bytes)
all_read count bytes files last room at index s all = (
  subst (AreFiles None count 8000) (append-nil files) (s.whole [] (record { files = tt; count_is = omega arith; small = omega arith })),
  s.stands,
  s.within,
)
