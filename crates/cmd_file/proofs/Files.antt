-- Command files by their bytes: which bytes are one, and what their groups are.
use Rattle.std.proofs.Common.{◌≡◌, ℕ, zero, suc, ◌+◌, ◌*◌, ◌/◌, ◌<◌, ◌≤◌, ◌==◌, List, ◌∷◌, ◌++◌, length, take, drop, get_or, replicate, refl, sym, ap, ◌∙◌, subst, arith, append_assoc}
use Rattle.std.specs.List.{All, flat_map}
use Rattle.std.proofs.lemmas.Bool.{eqb-true, leb-true}
use Rattle.std.proofs.lemmas.List.{length-append, length-take-le, length-drop, take-append-drop, take_at, drop_at, drop-drop, get_or-drop}
use Rattle.std.proofs.lemmas.List.Elements.{All-nil, All-cons, All-drop}
use Rattle.cmd_file.specs.CommandFile.{descriptor, Layout, file_bytes, Describes, IsLayout, CommandFile, IsCommandFile}
use Rattle.cmd_file.specs.Header.{group_rules, no_group_rules, header_rules, may_stand, FitsBelow, word_in, code_size, data_size, groups_end}
use Rattle.cmd_file.proofs.Groups.{group_of, group_back, groups, groups_back, length-groups, length-descriptors, Follows, group_follows, none_follow}
use Rattle.cmd_file.proofs.Fitting.{follows_at}

-- bytes with the header of a command file, as long as it says, and less than a record more
pub record IsSpelt (bytes : List ℕ) : Type 0 where
  pub small : All (λ b. b < 256) bytes
  pub fits : FitsBelow 72 bytes
  pub least : groups_end bytes ≤ length bytes
  pub most : length bytes ≤ groups_end bytes + 127

-- the groups of such bytes
abbrev pub groups_in : List ℕ → CommandFile
groups_in bytes = record { code = take (code_size bytes) (drop 128 bytes); «data» = take (data_size bytes) (drop (128 + code_size bytes) bytes) }

-- ---- from the bytes to the file

fixed : (bytes : List ℕ) → FitsBelow 72 bytes → (k b : ℕ) → k < 72 → may_stand k (get_or (0 ∷ bytes) k 0) (get_or bytes k 0) ≡ (get_or bytes k 0 == b) → get_or bytes k 0 ≡ b
fixed bytes fits k b lt is = eqb-true (get_or bytes k 0) b (sym is ∙ fits k lt)

pub code_length_small : (bytes : List ℕ) → FitsBelow 72 bytes → word_in bytes 1 ≤ 0x1000
code_length_small bytes fits = leb-true (word_in bytes 1) 0x1000 (fits 2 (omega arith))

pub data_length_small : (bytes : List ℕ) → FitsBelow 72 bytes → word_in bytes 10 ≤ 0x1000
data_length_small bytes fits = leb-true (word_in bytes 10) 0x1000 (fits 11 (omega arith))

abbrev layout_of : List ℕ → Layout
layout_of bytes = record {
  code_group = group_of bytes;
  data_group = group_of (drop 9 bytes);
  other_groups = groups 6 (drop 18 bytes);
  reserved = take 56 (drop 72 bytes);
  code = (groups_in bytes).code;
  «data» = (groups_in bytes).data;
  padding = drop (groups_end bytes) bytes;
}

forms_of : (n : ℕ) (bytes : List ℕ) → ((k : ℕ) → k < n → get_or bytes (9 * k) 0 ≡ 0) → All (λ g. g.form ≡ 0) (groups n bytes)
forms_of zero bytes h = All-nil (λ g. g.form ≡ 0)
forms_of (suc n) bytes h =
    All-cons (λ g. g.form ≡ 0) (group_of bytes) (groups n (drop 9 bytes)) (h 0 (omega arith))
    (forms_of n (drop 9 bytes) (λ k lt.
    let next : 9 + 9 * k ≡ 9 * suc k = omega arith in
    get_or-drop 9 bytes (9 * k) 0 ∙ ap (λ i. get_or bytes i 0) next ∙ h (suc k) (omega (arith, lt))))

module _ (bytes : List ℕ) (h : IsSpelt bytes) where
  long : 128 ≤ length bytes
  long = let least = h.least in omega arith

  small_from : (n : ℕ) → All (λ b. b < 256) (drop n bytes)
  small_from n = All-drop (λ b. b < 256) n bytes h.small

  cut_first : (n m : ℕ) → take n (drop m bytes) ++ drop (m + n) bytes ≡ drop m bytes
  cut_first n m = ap (λ l. take n (drop m bytes) ++ l) (sym (drop-drop n m bytes)) ∙ take-append-drop n (drop m bytes)

  second_group : drop 9 bytes ≡ descriptor (group_of (drop 9 bytes)) ++ drop 18 bytes
  second_group =
      group_back (drop 9 bytes) (omega (arith, long, length-drop 9 bytes)) (small_from 9)
      ∙ ap (λ l. descriptor (group_of (drop 9 bytes)) ++ l) (drop-drop 9 9 bytes)

  other_groups : drop 18 bytes ≡ flat_map descriptor (groups 6 (drop 18 bytes)) ++ drop 72 bytes
  other_groups =
      groups_back 6 (drop 18 bytes) (omega (arith, long, length-drop 18 bytes)) (small_from 18)
      ∙ ap (λ l. flat_map descriptor (groups 6 (drop 18 bytes)) ++ l) (drop-drop 54 18 bytes)

  spelling : bytes ≡ file_bytes (layout_of bytes)
  spelling =
      let padding : drop (128 + code_size bytes + data_size bytes) bytes ≡ drop (groups_end bytes) bytes = ap (λ n. drop n bytes) (omega arith) in
      let after_code = ap (λ l. (groups_in bytes).data ++ l) (sym padding) ∙ cut_first (data_size bytes) (128 + code_size bytes) in
      let after_header = ap (λ l. (groups_in bytes).code ++ l) after_code ∙ cut_first (code_size bytes) 128 in
      let after_groups = ap (λ l. take 56 (drop 72 bytes) ++ l) after_header ∙ cut_first 56 72 in
      group_back bytes (omega (arith, long)) h.small
      ∙ ap (λ l. descriptor (group_of bytes) ++ l) (second_group
      ∙ ap (λ l. descriptor (group_of (drop 9 bytes)) ++ l) (other_groups
      ∙ ap (λ l. flat_map descriptor (groups 6 (drop 18 bytes)) ++ l) (sym after_groups)))

  byte_at : (n k b : ℕ) → n + k < 72 → may_stand (n + k) (get_or (0 ∷ bytes) (n + k) 0) (get_or bytes (n + k) 0) ≡ (get_or bytes (n + k) 0 == b) → get_or (drop n bytes) k 0 ≡ b
  byte_at n k b lt is = get_or-drop n bytes k 0 ∙ fixed bytes h.fits (n + k) b lt is

  form_at : (k : ℕ) → k < 6 → get_or (drop 18 bytes) (9 * k) 0 ≡ 0
  form_at zero lt = byte_at 18 0 0 (omega arith) refl
  form_at (suc zero) lt = byte_at 18 9 0 (omega arith) refl
  form_at (suc (suc zero)) lt = byte_at 18 18 0 (omega arith) refl
  form_at (suc (suc (suc zero))) lt = byte_at 18 27 0 (omega arith) refl
  form_at (suc (suc (suc (suc zero)))) lt = byte_at 18 36 0 (omega arith) refl
  form_at (suc (suc (suc (suc (suc zero))))) lt = byte_at 18 45 0 (omega arith) refl
  form_at (suc (suc (suc (suc (suc (suc k)))))) lt = absurd (omega (arith, lt))

  code_described : Describes 1 (groups_in bytes).code (group_of bytes)
  code_described =
      let base_low = fixed bytes h.fits 3 0 (omega arith) refl in
      let base_high = fixed bytes h.fits 4 0 (omega arith) refl in
      record {
        form_is = fixed bytes h.fits 0 1 (omega arith) refl;
        size = length-take-le (code_size bytes) (drop 128 bytes) (omega (arith, h.least, length-drop 128 bytes));
        most = code_length_small bytes h.fits;
        base_is = omega (arith, base_low, base_high);
      }

  data_described : Describes 2 (groups_in bytes).data (group_of (drop 9 bytes))
  data_described =
      let base_low = byte_at 9 3 0 (omega arith) refl in
      let base_high = byte_at 9 4 0 (omega arith) refl in
      let low = get_or-drop 9 bytes 1 0 in
      let high = get_or-drop 9 bytes 2 0 in
      let size = length-take-le (data_size bytes) (drop (128 + code_size bytes) bytes) (omega (arith, h.least, length-drop (128 + code_size bytes) bytes)) in
      let most = data_length_small bytes h.fits in
      record {
        form_is = byte_at 9 0 2 (omega arith) refl;
        size = omega (arith, size, low, high);
        most = omega (arith, most, low, high);
        base_is = omega (arith, base_low, base_high);
      }

  pub spelt_is_file : IsCommandFile bytes (groups_in bytes)
  spelt_is_file = record {
    layout = layout_of bytes;
    lawful = record {
      code_described = code_described;
      data_described = data_described;
      no_others = forms_of 6 (drop 18 bytes) form_at;
      six = length-groups 6 (drop 18 bytes);
      header = length-take-le 56 (drop 72 bytes) (omega (arith, long, length-drop 72 bytes));
      last = omega (arith, h.most, length-drop (groups_end bytes) bytes);
      bytes = subst (All (λ b. b < 256)) spelling h.small;
    };
    spelt = spelling;
    groups = refl;
  }

-- ---- from the file to the bytes

module _ (l : Layout) (is : IsLayout l) where
  abbrev header : List ℕ
  header = descriptor l.code_group ++ (descriptor l.data_group ++ (flat_map descriptor l.other_groups ++ l.reserved))

  abbrev after_descriptors : List ℕ
  after_descriptors = l.reserved ++ (l.code ++ (l.data ++ l.padding))

  file_follows : Follows header_rules 0 (file_bytes l)
  file_follows =
      let rules = flat_map (λ rs. rs) (replicate 6 no_group_rules) in
      let rest = flat_map descriptor l.other_groups ++ after_descriptors in
      let before = l.data_group.greatest / 256 in
      let others = subst (λ n. Follows (flat_map (λ rs. rs) (replicate n no_group_rules)) before rest) is.six (none_follow l.other_groups is.no_others before after_descriptors) in
      group_follows 1 l.code l.code_group is.code_described (group_rules 2 ++ rules) 0 (descriptor l.data_group ++ rest)
      (group_follows 2 l.data l.data_group is.data_described rules (l.code_group.greatest / 256) rest others)

  header_first : file_bytes l ≡ header ++ (l.code ++ (l.data ++ l.padding))
  header_first = ap (λ r. descriptor l.code_group ++ (descriptor l.data_group ++ r)) (sym (append_assoc (flat_map descriptor l.other_groups) l.reserved (l.code ++ (l.data ++ l.padding))))

  length-header : length header ≡ 128
  length-header =
      let six = is.six in
      let reserved = is.header in
      omega (arith, six, reserved, length-append (flat_map descriptor l.other_groups) l.reserved, length-descriptors l.other_groups)

  code_size_is : code_size (file_bytes l) ≡ length l.code
  code_size_is = let size = is.code_described.size in omega (arith, size)

  data_size_is : data_size (file_bytes l) ≡ length l.data
  data_size_is = let size = is.data_described.size in omega (arith, size)

  length-file : length (file_bytes l) ≡ groups_end (file_bytes l) + length l.padding
  length-file =
      ap length header_first
      ∙ omega (arith, length-append header (l.code ++ (l.data ++ l.padding)), length-append l.code (l.data ++ l.padding), length-append l.data l.padding, length-header, code_size_is, data_size_is)

  pub layout_is_spelt : IsSpelt (file_bytes l)
  layout_is_spelt =
      let last = is.last in
      record {
        small = is.bytes;
        fits = λ k lt. follows_at header_rules 0 (file_bytes l) file_follows k (omega (arith, lt, length-file));
        least = omega (arith, length-file);
        most = omega (arith, length-file, last);
      }

  code_is : l.code ≡ (groups_in (file_bytes l)).code
  code_is = sym (
      ap (λ n. take n (drop 128 (file_bytes l))) code_size_is
      ∙ ap (λ b. take (length l.code) (drop 128 b)) header_first
      ∙ ap (take (length l.code)) (drop_at header (l.code ++ (l.data ++ l.padding)) 128 length-header)
      ∙ take_at l.code (l.data ++ l.padding) (length l.code) refl
      )

  data_is : l.data ≡ (groups_in (file_bytes l)).data
  data_is =
      let front = header ++ l.code in
      let size : length front ≡ 128 + length l.code = length-append header l.code ∙ ap (λ n. n + length l.code) length-header in
      sym (
      ap (λ n. take n (drop (128 + code_size (file_bytes l)) (file_bytes l))) data_size_is
      ∙ ap (λ n. take (length l.data) (drop (128 + n) (file_bytes l))) code_size_is
      ∙ ap (λ b. take (length l.data) (drop (128 + length l.code) b)) (header_first ∙ sym (append_assoc header l.code (l.data ++ l.padding)))
      ∙ ap (take (length l.data)) (drop_at front (l.data ++ l.padding) (128 + length l.code) size)
      ∙ take_at l.data l.padding (length l.data) refl
      )

  groups_are : groups_in (file_bytes l) ≡ record { code = l.code; «data» = l.data }
  groups_are = λ i. record { code = sym code_is i; «data» = sym data_is i }

pub file_is_spelt : (bytes : List ℕ) (file : CommandFile) → IsCommandFile bytes file → IsSpelt bytes × (file ≡ groups_in bytes)
file_is_spelt bytes file h = (
  subst IsSpelt (sym h.spelt) (layout_is_spelt h.layout h.lawful),
  h.groups ∙ sym (groups_are h.layout h.lawful) ∙ ap groups_in (sym h.spelt),
)

pub one_reading : (bytes : List ℕ) (file other : CommandFile) → IsCommandFile bytes file → IsCommandFile bytes other → file ≡ other
one_reading bytes file other h g = (file_is_spelt bytes file h).1 ∙ sym (file_is_spelt bytes other g).1
