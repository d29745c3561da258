-- A padded name gives its bytes back.
use Rattle.std.specs.Prelude.{◌≡◌, ℕ, ◌-◌, ◌≤◌, List, ◌++◌, length, take, replicate}
use Rattle.std.proofs.Common.{sym, ap, subst, ◌∙◌}
use Rattle.std.proofs.lemmas.List.{take-append-drop, length-take-le}
use Rattle.asm80_types.specs.declared.name.Name80.TheInside.{Inside}
use Rattle.asm80_types.specs.Name.{padded, IsPadded}

inside : List ℕ → ℕ → Inside
inside x n = record { bytes = x; len = n }

name_len : (a : Inside) → IsPadded a → length (take a.len a.bytes) ≡ a.len
name_len a h = length-take-le a.len a.bytes (subst (λ (k : ℕ). a.len ≤ k) (sym h.whole) h.fits)

name_bytes : (a : Inside) → IsPadded a → padded (take a.len a.bytes) ≡ a.bytes
name_bytes a h =
    let t = take a.len a.bytes in
    ap (λ (k : ℕ). t ++ replicate (16 - k) 0) (name_len a h) ∙ ap (λ (u : List ℕ). t ++ u) (sym h.zeros) ∙ take-append-drop a.len a.bytes

pub padded_back : (a : Inside) → IsPadded a → record { bytes = padded (take a.len a.bytes); len = length (take a.len a.bytes) } ≡ a
unfolding inside
padded_back a h = ap (λ (t : List ℕ). inside t (length (take a.len a.bytes))) (name_bytes a h) ∙ ap (inside a.bytes) (name_len a h)
