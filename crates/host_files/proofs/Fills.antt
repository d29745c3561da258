-- A piece that was filled with the first of more bytes.
use Rattle.std.proofs.Common.{◌≡◌, ℕ, ◌+◌, ◌-◌, ◌<◌, ◌≢◌, min, List, ◌++◌, length, length-append, take, drop, ap, ◌∙◌, sym, append_assoc, arith, Result, Ok, Err, OnErr}
use Rattle.std.specs.Prelude.{OnOk, IsErr}
use Rattle.std.proofs.Math.Seq.{take-append_seam, drop-append_seam}
use Rattle.std.proofs.lemmas.List.{take-append-drop, take-append-le, take_all, length-take}
use Rattle.host.specs.Host.{FileTold}
use Rattle.host_files.specs.Transfer.{extended}

-- what fills the piece, and the bytes that do not go in
whole : (old more piece : List ℕ) (taken : ℕ) → piece ≡ old ++ take taken more → old ++ more ≡ piece ++ drop taken more
whole old more piece taken e =
    ap (λ x. old ++ x) (sym (take-append-drop taken more)) ∙ sym (append_assoc old (take taken more) (drop taken more)) ∙ ap (λ x. x ++ drop taken more) (sym e)

-- the piece comes first
pub fills-take : (old more piece : List ℕ) (taken : ℕ) → piece ≡ old ++ take taken more → take (length piece) (old ++ more) ≡ piece
fills-take old more piece taken e =
    ap (take (length piece)) (whole old more piece taken e) ∙ take-append_seam piece (drop taken more)

-- the rest comes after it
pub fills-drop : (old more piece : List ℕ) (taken : ℕ) → piece ≡ old ++ take taken more → drop (length piece) (old ++ more) ≡ drop taken more
fills-drop old more piece taken e =
    ap (drop (length piece)) (whole old more piece taken e) ∙ drop-append_seam piece (drop taken more)

-- first bytes of the piece, but not all, are such of the whole
pub fills-part : (old more piece : List ℕ) (taken : ℕ) (was now : FileTold) → piece ≡ old ++ take taken more → (k : ℕ) × (k < length piece) × (now ≡ extended was (take k piece)) → (k : ℕ) × (k < length (old ++ more)) × (now ≡ extended was (take k (old ++ more)))
fills-part old more piece taken was now e added =
    let k = added.0 in
    let few = added.1 in
    let longer : length (old ++ more) ≡ length piece + length (drop taken more) = ap length (whole old more piece taken e) ∙ length-append piece (drop taken more) in
    let same : take k piece ≡ take k (old ++ more) = sym (ap (take k) (whole old more piece taken e) ∙ take-append-le k piece (drop taken more) (omega (arith, few))) in
    (k, omega (arith, few, longer), added.2 ∙ ap (extended was) same)

-- what holds in any case holds after a fault
pub on_err : {T E P : Type 0} (r : Result T E) → P → OnErr r P
on_err (Ok x) p = tt
on_err (Err e) p = p

-- after a fault nothing is owed of an answer
pub on_ok : {T E : Type 0} (P : Type 0) (r : Result T E) → IsErr r → OnOk r P
on_ok P (Ok x) e = absurd cc
on_ok P (Err f) e = tt

-- all bytes went into a piece that is not full
pub fills-all : (old more piece : List ℕ) (taken : ℕ) → length old < 4096 → taken ≡ min (length more) (4096 - length old) → piece ≡ old ++ take taken more → length piece ≢ 4096 → piece ≡ old ++ more
fills-all old more piece taken room count e not_full =
    let size : length piece ≡ length old + length (take taken more) = ap length e ∙ length-append old (take taken more) in
    e ∙ ap (λ x. old ++ x) (take_all taken more (omega (arith, size, count, room, not_full, length-take taken more)))

-- the piece has room still
pub fills-room : (old more piece : List ℕ) (taken : ℕ) → length old < 4096 → taken ≡ min (length more) (4096 - length old) → piece ≡ old ++ take taken more → length piece ≢ 4096 → length piece < 4096
fills-room old more piece taken room count e not_full =
    let size : length piece ≡ length old + length (take taken more) = ap length e ∙ length-append old (take taken more) in
    omega (arith, size, count, room, not_full, length-take taken more)
