-- How many visits can still come, where one vertex changes.
use Rattle.std.proofs.Common.{◌≡◌, ℕ, zero, suc, ◌+◌, ◌-◌, ◌*◌, ◌<◌, ◌≤◌, Bool, true, false, List, [], ◌∷◌, length, sym, ap, arith}
use Rattle.std.specs.List.{sum_by}
use Rattle.std.proofs.Math.ListN.{set}
use Rattle.std.proofs.Math.Nat.{mul-le-mul_left}
use Rattle.std.proofs.lemmas.List.Sums.{sum_by-set, sum_by-cons}
use Rattle.cells.specs.Parts.{weight}
use Rattle.flow.specs.declared.search.Vertex.{Vertex}
use Rattle.flow.specs.Search.{row, vertex, no_vertex, credit, size, visits_left}

pub credit-le : (v : Vertex) → credit v ≤ 13
credit-le v = waiting v.waits
  where
    waiting : (b : Bool) → (12 - size v.need) + weight b 1 ≤ 13
    waiting true = omega arith
    waiting false = omega arith

pub visits_left-set : (ss : List (List ℕ)) (vs : List Vertex) (k : ℕ) (v : Vertex) → k < length vs → visits_left ss (set vs k v) + length (row ss k) * credit (vertex vs k) ≡ visits_left ss vs + length (row ss k) * credit v
visits_left-set [] vs k v lt = omega arith
visits_left-set (s ∷ ss) [] k v lt = absurd (omega arith)
visits_left-set (s ∷ ss) (w ∷ vs) zero v lt = omega arith
visits_left-set (s ∷ ss) (w ∷ vs) (suc k) v lt = omega (arith, visits_left-set ss vs k v (omega arith))

-- they are fewer where one vertex has less credit
pub visits_left-le : (ss : List (List ℕ)) (vs : List Vertex) (k : ℕ) (v : Vertex) → k < length vs → credit v ≤ credit (vertex vs k) → visits_left ss (set vs k v) ≤ visits_left ss vs
visits_left-le ss vs k v lt le = omega (arith, visits_left-set ss vs k v lt, mul-le-mul_left (length (row ss k)) le)

-- and with one less for a vertex, fewer by its edges
pub visits_left-less : (ss : List (List ℕ)) (vs : List Vertex) (k : ℕ) (v : Vertex) → k < length vs → credit v + 1 ≡ credit (vertex vs k) → visits_left ss (set vs k v) + length (row ss k) ≡ visits_left ss vs
visits_left-less ss vs k v lt less =
    let moved = visits_left-set ss vs k v lt in
    let more : length (row ss k) * credit (vertex vs k) ≡ length (row ss k) * (credit v + 1) = ap (λ n. length (row ss k) * n) (sym less) in
    omega (arith, moved, more)

pub credits-set : (vs : List Vertex) (k : ℕ) (v : Vertex) → k < length vs → sum_by credit (set vs k v) + credit (vertex vs k) ≡ sum_by credit vs + credit v
credits-set vs k v lt = sum_by-set credit vs k v no_vertex lt

-- at most 13 for each edge
pub visits_left-all : (ss : List (List ℕ)) (vs : List Vertex) → visits_left ss vs ≤ 13 * sum_by length ss
visits_left-all [] vs = omega arith
visits_left-all (s ∷ ss) [] = omega arith
visits_left-all (s ∷ ss) (v ∷ vs) =
    let first = mul-le-mul_left (length s) (credit-le v) in
    omega (arith, first, visits_left-all ss vs, sum_by-cons length s ss)
