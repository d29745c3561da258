-- Files to which bytes were added in pieces.
use Rattle.std.proofs.Common.{◌≡◌, ℕ, ◌+◌, ◌<◌, ◌≤◌, List, [], ◌∷◌, ◌++◌, length, take, drop, refl, ap, ◌∙◌, sym, append_assoc, append-nil, arith, length-drop}
use Rattle.std.proofs.Math.Seq.{take-add}
use Rattle.std.proofs.lemmas.List.{length-take}
use Rattle.host.specs.Host.{FileTold, Untold, Missing, Holds, appended, rewritten}
use Rattle.host.proofs.HostLemmas.{appended-rewritten}
use Rattle.host_files.specs.Transfer.{extended}

-- bytes added after a file was rewritten
pub extended-rewritten : (t : FileTold) (xs ys : List ℕ) → extended (rewritten t xs) ys ≡ rewritten t (xs ++ ys)
extended-rewritten t xs [] = ap (rewritten t) (sym (append-nil xs))
extended-rewritten t xs (y ∷ ys) = appended-rewritten t xs (y ∷ ys)

-- one more piece
appended-extended : (t : FileTold) (xs ys : List ℕ) → 0 < length ys → appended (extended t xs) ys ≡ extended t (xs ++ ys)
appended-extended t [] [] h = absurd (omega arith)
appended-extended t [] (y ∷ ys) h = refl
appended-extended Untold (x ∷ xs) ys h = refl
appended-extended Missing (x ∷ xs) ys h = refl
appended-extended (Holds held) (x ∷ xs) ys h = ap Holds (append_assoc held (x ∷ xs) ys)

-- the same, where the pieces are of one list
pub extended-take : (t : FileTold) (bytes : List ℕ) (n k : ℕ) → 0 < k → n + k ≤ length bytes → extended t (take (n + k) bytes) ≡ appended (extended t (take n bytes)) (take k (drop n bytes))
extended-take t bytes n k some within =
    let more : 0 < length (take k (drop n bytes)) = omega (arith, length-take k (drop n bytes), length-drop n bytes) in
    ap (extended t) (take-add n k bytes) ∙ sym (appended-extended t (take n bytes) (take k (drop n bytes)) more)
