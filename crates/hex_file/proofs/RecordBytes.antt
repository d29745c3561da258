-- Records by their bytes: which record has some bytes, and that it is one.
use Rattle.std.proofs.Common.{◌≡◌, ℕ, ◌+◌, ◌*◌, ◌/◌, ◌%◌, ◌<◌, ◌≤◌, List, [], ◌∷◌, ◌++◌, length, take, drop, get_or, refl, sym, ap, ◌∙◌, subst, arith, append_assoc}
use Rattle.std.specs.Prelude.{true, Result, Ok, Err, MatchResult, is_ok}
use Rattle.std.specs.List.{sum}
use Rattle.std.proofs.lemmas.List.{length-append, length-take-le, take-append-drop, take_at, take_all, take_more, get_or-drop}
use Rattle.std.proofs.Math.Seq.{get_or-append_seam}
use Rattle.hex.specs.declared.error.FromHexError.{FromHexError}
use Rattle.hex.specs.Hex.{decode_of, decode_sized}
use Rattle.hex.proofs.HexLemmas.{decode_of-ok, decode_of-same, decode_sized-ok, decode_sized-twice}
use Rattle.hex_file.specs.Records.{Record, record_bytes, AreOfRecord, HasRecord}

-- the record of bytes, by their places
abbrev pub record_in : List ℕ → Record
record_in bytes = record {
  address = get_or bytes 1 0 * 256 + get_or bytes 2 0;
  kind = get_or bytes 3 0;
  «data» = take (get_or bytes 0 0) (drop 4 bytes);
  check = get_or bytes (get_or bytes 0 0 + 4) 0;
}

-- ---- the record of its own bytes

address_back : (a : ℕ) → a / 256 * 256 + a % 256 ≡ a
address_back a = omega arith

check_back : (r : Record) (rest : List ℕ) → get_or (record_bytes r ++ rest) (length r.data + 4) 0 ≡ r.check
check_back r rest =
    let at : length r.data + 4 ≡ 4 + length r.data = omega arith in
    ap (λ k. get_or (record_bytes r ++ rest) k 0) at
    ∙ sym (get_or-drop 4 (record_bytes r ++ rest) (length r.data) 0)
    ∙ ap (λ l. get_or l (length r.data) 0) (append_assoc r.data (r.check ∷ []) rest)
    ∙ get_or-append_seam r.data r.check rest 0

pub record_back : (r : Record) (rest : List ℕ) → record_in (record_bytes r ++ rest) ≡ r
record_back r rest =
    let bytes = ap (take (length r.data)) (append_assoc r.data (r.check ∷ []) rest) ∙ take_at r.data (r.check ∷ rest) (length r.data) refl in
    λ i. record { address = address_back r.address i; kind = r.kind; «data» = bytes i; check = check_back r rest i }

-- so bytes are those of one record
pub one_record : (r s : Record) → record_bytes r ≡ record_bytes s → r ≡ s
one_record r s same = sym (record_back r []) ∙ ap (λ bytes. record_in (bytes ++ [])) same ∙ record_back s []

pub record_at_front : (bytes : List ℕ) (n : ℕ) (r : Record) → take n bytes ≡ record_bytes r → record_in bytes ≡ r
record_at_front bytes n r is = ap record_in (sym (take-append-drop n bytes) ∙ ap (λ front. front ++ drop n bytes) is) ∙ record_back r (drop n bytes)

-- ---- the bytes of a record that is found

pub bytes_back : (bytes : List ℕ) (n : ℕ) → length bytes ≡ 4 + n + 1 → n ≡ get_or bytes 0 0 → ((i : ℕ) → get_or bytes i 0 < 256) → bytes ≡ record_bytes (record_in bytes)
bytes_back [] n long first small = absurd (omega (arith, long))
bytes_back (a ∷ []) n long first small = absurd (omega (arith, long))
bytes_back (a ∷ b ∷ []) n long first small = absurd (omega (arith, long))
bytes_back (a ∷ b ∷ c ∷ []) n long first small = absurd (omega (arith, long))
bytes_back (a ∷ b ∷ c ∷ d ∷ rest) n long first small =
    let low : c < 256 = small 2 in
    let size : length rest ≡ a + 1 = omega (arith, long, first) in
    let count : length (take a rest) ≡ a = length-take-le a rest (omega (arith, size)) in
    let high : (b * 256 + c) / 256 ≡ b = omega (arith, low) in
    let left : (b * 256 + c) % 256 ≡ c = omega (arith, low) in
    let at : a + 4 ≡ 4 + a = omega arith in
    let check : get_or (a ∷ b ∷ c ∷ d ∷ rest) (a + 4) 0 ≡ get_or rest a 0 = ap (λ k. get_or (a ∷ b ∷ c ∷ d ∷ rest) k 0) at ∙ sym (get_or-drop 4 (a ∷ b ∷ c ∷ d ∷ rest) a 0) in
    let whole : rest ≡ take a rest ++ get_or rest a 0 ∷ [] = sym (take_all (a + 1) rest (omega (arith, size))) ∙ take_more rest a 0 (omega (arith, size)) in
    spell a b c d rest (take a rest) (length (take a rest)) ((b * 256 + c) / 256) ((b * 256 + c) % 256) (get_or (a ∷ b ∷ c ∷ d ∷ rest) (a + 4) 0) count high left (whole ∙ ap (λ k. take a rest ++ k ∷ []) (sym check))
  where
    spell : (a b c d : ℕ) (rest middle : List ℕ) (n h l k : ℕ) → n ≡ a → h ≡ b → l ≡ c → rest ≡ middle ++ k ∷ [] → a ∷ b ∷ c ∷ d ∷ rest ≡ n ∷ h ∷ l ∷ d ∷ (middle ++ k ∷ [])
    spell a b c d rest middle n h l k e f g i = cc

pub are_of_record : (bytes : List ℕ) (n : ℕ) → length bytes ≡ 4 + n + 1 → n ≡ get_or bytes 0 0 → ((i : ℕ) → get_or bytes i 0 < 256) → sum bytes % 256 ≡ 0 → AreOfRecord bytes
are_of_record bytes n long first small zero_sum = (record_in bytes, bytes_back bytes n long first small, zero_sum)

-- ---- digits

of_sized : (d : Result (List ℕ) FromHexError) (r : Result (Unit {0}) FromHexError) (out : List ℕ) → MatchResult d (λ bytes. (r ≡ Ok tt) × (out ≡ bytes)) (λ e. r ≡ Err e) → true ≡ is_ok r → d ≡ Ok out
of_sized (Ok bytes) r out h ok = ap Ok (sym h.1)
of_sized (Err e) r out h ok = cc (rw h at ok)

-- what was decoded stands at the front
pub decoded : (digits : List ℕ) (r : Result (Unit {0}) FromHexError) (out rest : List ℕ) (n : ℕ) → MatchResult (decode_sized digits n) (λ bytes. (r ≡ Ok tt) × (out ≡ bytes)) (λ e. r ≡ Err e) → true ≡ is_ok r → n ≡ length digits / 2 → decode_of digits ≡ Ok (take (length digits / 2) (out ++ rest))
decoded digits r out rest n h ok half =
    let sized = of_sized (decode_sized digits n) r out h ok in
    let found = sym (decode_sized-twice digits n (decode_sized-ok digits n out sized)) ∙ sized in
    let size = (decode_of-ok digits out found).2 in
    found ∙ ap Ok (sym (take_at out rest (length digits / 2) (omega (arith, size))))

pub too_long : (digits all : List ℕ) → 260 < length digits / 2 → length all ≤ 260 → decode_of digits ≡ Ok all → ⊥
too_long digits all long short e = let size = (decode_of-ok digits all e).2 in absurd (omega (arith, long, short, size))

-- a record has at most 260 bytes
pub length-record : (digits : List ℕ) (r : Record) → decode_of digits ≡ Ok (record_bytes r) → length (record_bytes r) ≤ 260
length-record digits r e =
    let count : length r.data < 256 = (decode_of-ok digits (record_bytes r) e).3 0 in
    omega (arith, count, length-append r.data (r.check ∷ []))

-- ---- the record of a line

pub count_small : (digits bytes : List ℕ) (n : ℕ) (r : Record) → decode_of digits ≡ Ok (take n bytes) → take n bytes ≡ record_bytes r → get_or bytes 0 0 < 256
count_small digits bytes n r e is =
    let first : get_or bytes 0 0 ≡ length r.data = ap (λ l. get_or l 0 0) (sym (take-append-drop n bytes) ∙ ap (λ front. front ++ drop n bytes) is) in
    let small : get_or (record_bytes r) 0 0 < 256 = (decode_of-ok digits (record_bytes r) (e ∙ ap Ok is)).3 0 in
    omega (arith, first, small)

pub found : (line digits bytes : List ℕ) (n address count : ℕ) (r : Record) → line ≡ 0x3A ∷ digits → decode_of digits ≡ Ok (take n bytes) → take n bytes ≡ record_bytes r → sum (take n bytes) % 256 ≡ 0 → address ≡ get_or bytes 1 0 * 256 + get_or bytes 2 0 → count ≡ get_or bytes 0 0
    → HasRecord line (record { address = address; kind = get_or bytes 3 0; «data» = take count (drop 4 bytes); check = get_or bytes (count + 4) 0 })
found line digits bytes n address count r marked e is zero_sum a k =
    let same : record_in bytes ≡ r = record_at_front bytes n r is in
    let view : record_in bytes ≡ record { address = address; kind = get_or bytes 3 0; «data» = take count (drop 4 bytes); check = get_or bytes (count + 4) 0 } =
    (λ i. record { address = sym a i; kind = get_or bytes 3 0; «data» = take (sym k i) (drop 4 bytes); check = get_or bytes (sym k i + 4) 0 }) in
    subst (HasRecord line) (sym same ∙ view) (record { digits = digits; marked = marked; decoded = e ∙ ap Ok is; sums_to_zero = ap (λ l. sum l % 256) (sym is) ∙ zero_sum })

same_digits : (line digits : List ℕ) (mark : ℕ) (r : Record) → line ≡ mark ∷ digits → (h : HasRecord line r) → digits ≡ h.digits
same_digits line digits mark r e h = let f = h.marked in cc

pub not_found : (line digits : List ℕ) (mark : ℕ) → line ≡ mark ∷ digits → ((all : List ℕ) → length all ≤ 260 → decode_of digits ≡ Ok all → ⊥) → (r : Record) → HasRecord line r → ⊥
not_found line digits mark e none r h = none (record_bytes r) (length-record h.digits r h.decoded) (ap decode_of (same_digits line digits mark r e h) ∙ h.decoded)

-- a line spells one record
pub one_spelt : (line : List ℕ) (r s : Record) → HasRecord line r → HasRecord line s → r ≡ s
one_spelt line r s h k =
    one_record r s (decode_of-same h.digits (record_bytes r) (record_bytes s) h.decoded (ap decode_of (same_digits line h.digits 0x3A s h.marked k) ∙ k.decoded))
