-- The numbers of nodes.
use Rattle.std.proofs.Common.{◌≡◌, ℕ, ◌+◌, ◌<◌, ◌≤◌, List, [], ◌∷◌, length, get_or, map, Result, Ok, Err, MatchOption, MatchResult, sym, ap, ◌∙◌, ⊎_elim, arith}
use Rattle.std.specs.List.{Contains}
use Rattle.std.specs.List.Sorted.{IsBinarySearchResult}
use Rattle.std.specs.Ordering.{nat_cmp}
use Rattle.std.specs.Result.{result_ok}
use Rattle.std.proofs.lemmas.Bool.{cases_lt}
use Rattle.std.proofs.lemmas.List.{length-map, get_or-map, get_or_append_left, get_or_push, length_push}
use Rattle.std.proofs.lemmas.List.Elements.{Contains-push_cases}
use Rattle.std.proofs.lemmas.List.Sorted.{searched}
use Rattle.asm80_types.specs.Program.{Program, IsProgram, starts}
use Rattle.asm80_types.proofs.Lookup.{rising-laid, length-starts}
use Rattle.flow.specs.declared.node.Node.{Node}
use Rattle.flow.specs.declared.node.Node.TheVariants.{Start, Return}
use Rattle.flow.specs.Graph.{nodes}
use Rattle.flow.specs.Search.{node_at}
use Rattle.flow.specs.Wiring.{IsNumber}

abbrev pub start_nodes : List ℕ → List Node
start_nodes xs = map (λ (a : ℕ). Start a) xs

pub length-nodes : (p : Program) → length (nodes p) ≡ length (starts p) + 1
length-nodes p = length_push (start_nodes (starts p)) Return ∙ ap (λ n. n + 1) (length-map (starts p) (λ (a : ℕ). Start a))

-- the nodes by number: the starts, and then Return
pub node_at-start : (p : Program) (k : ℕ) → k < length (starts p) → node_at p k ≡ Start (get_or (starts p) k 0)
node_at-start p k lt =
    get_or_append_left (start_nodes (starts p)) (Return ∷ []) Return k (omega (arith, length-map (starts p) (λ (a : ℕ). Start a)))
    ∙ get_or-map (λ (a : ℕ). Start a) (starts p) k 0 Return lt

pub node_at-return : (p : Program) → node_at p (length (starts p)) ≡ Return
node_at-return p = get_or_push (start_nodes (starts p)) Return Return (length (starts p)) (length-map (starts p) (λ (a : ℕ). Start a))

same_start : (a b : ℕ) → Start a ≡ Start b → a ≡ b
same_start a b e = cc

not_return : (a : ℕ) → Return ≡ Start a → ⊥
not_return a e = cc

-- a start that is a node is among the starts
start_among : (xs : List ℕ) (a : ℕ) → Contains (start_nodes xs) (Start a) → (k : ℕ) × (k < length xs) × (get_or xs k 0 ≡ a)
start_among xs a h =
    let within : h.0 < length xs = omega (arith, h.1, length-map xs (λ (b : ℕ). Start b)) in
    (h.0, within, same_start (get_or xs h.0 0) a (sym (get_or-map (λ (b : ℕ). Start b) xs h.0 0 (Start a) within) ∙ h.2))

pub start_is_node : (p : Program) (a : ℕ) → Contains (nodes p) (Start a) → (k : ℕ) × (k < length (starts p)) × (get_or (starts p) k 0 ≡ a)
start_is_node p a h = ⊎_elim (λ among. start_among (starts p) a among) (λ last. absurd (not_return a last)) (Contains-push_cases (start_nodes (starts p)) Return (Start a) h)

pub number_of_start : (p : Program) (k a : ℕ) → k < length (starts p) → get_or (starts p) k 0 ≡ a → IsNumber p k (Start a)
number_of_start p k a lt at = record { within = omega (arith, lt, length-nodes p); stands = node_at-start p k lt ∙ ap (λ (b : ℕ). Start b) at }

pub number_of_return : (p : Program) → IsNumber p (length (starts p)) Return
number_of_return p = record { within = omega (arith, length-nodes p); stands = node_at-return p }

pub number_searched : (p : Program) → IsProgram p → (a : ℕ) (r : Result ℕ ℕ) → IsBinarySearchResult (λ y. nat_cmp y a) (starts p) r → MatchOption (result_ok r) (Contains (nodes p) (Start a) → ⊥) (λ k. IsNumber p k (Start a))
number_searched p is a r found = by_result r (searched (starts p) a r found rises)
  where
    rises : (i j : ℕ) → i ≤ j → j < length (starts p) → get_or (starts p) i 0 ≤ get_or (starts p) j 0
    rises i j le lt = rising-laid p.instrs 0x100 _ i j is.instrs le (omega (arith, lt, length-starts p.instrs))

    by_result : (r : Result ℕ ℕ) → MatchResult r (λ i. (i < length (starts p)) × (get_or (starts p) i 0 ≡ a)) (λ i. (i ≤ length (starts p)) × ((k : ℕ) → k < i → get_or (starts p) k 0 < a) × ((k : ℕ) → i ≤ k → k < length (starts p) → a < get_or (starts p) k 0)) → MatchOption (result_ok r) (Contains (nodes p) (Start a) → ⊥) (λ k. IsNumber p k (Start a))
    by_result (Ok k) h = number_of_start p k a h.0 h.1
    by_result (Err i) h = λ node.
        let at = start_is_node p a node in
        ⊎_elim
        (λ lt. let below : get_or (starts p) at.0 0 < a = h.1 at.0 lt in omega (arith, below, at.2))
        (λ ge. let past : a < get_or (starts p) at.0 0 = h.2 at.0 ge at.1 in omega (arith, past, at.2))
        (cases_lt at.0 i)
