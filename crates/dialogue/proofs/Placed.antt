-- The ranges of extents, in places, one after another.
use Rattle.std.proofs.Common.{◌≡◌, refl, sym, ◌∙◌, ap, subst, ℕ, ◌+◌, ◌<◌, ◌≤◌, List, [], ◌∷◌, ◌++◌, length, take, drop, get_or, append-nil, append_assoc}
use Rattle.std.proofs.lemmas.List.{at_drop_more, at_drop_all, take_more_set, take_all}
use Rattle.std.proofs.Math.ListN.{set}
use Rattle.std.specs.Prelude.{Option, None, Result, Ok, Err}
use Rattle.cells.specs.declared.Rule.{Rule}
use Rattle.dialogue.specs.declared.request.Range.{Range}
use Rattle.dialogue.specs.declared.shape.Access.{Access}
use Rattle.dialogue.specs.Tried.{try_then}
use Rattle.dialogue.specs.Table.{Extent}
use Rattle.dialogue.specs.Shape.{Seen}
use Rattle.dialogue.specs.Places.{place_within, places_within}

-- the first k places hold the ranges of the first k extents, none of which is refused
abbrev pub ArePlaced : Access → Seen → ℕ → ℕ → List (Option Extent) → ℕ → List (Option Range) → Type 0
ArePlaced access seen de dma xs k places =
    try_then (places_within access seen de dma (drop k xs)) (λ rs. Ok (take k places ++ rs)) ≡ places_within access seen de dma xs

one_more : (rest : Result (List (Option Range)) Rule) (front : List (Option Range)) (r : Option Range) →
    try_then {Y = List (Option Range)} rest (λ rs. Ok ((front ++ r ∷ []) ++ rs))
    ≡ try_then (try_then {Y = List (Option Range)} rest (λ rs. Ok (r ∷ rs))) (λ rs. Ok (front ++ rs))
one_more (Err e) front r = refl
one_more (Ok rs) front r = ap Ok (append_assoc front (r ∷ []) rs)

-- what is left of the extents, by the next of them
next_place : (access : Access) (seen : Seen) (de dma k : ℕ) (xs : List (Option Extent)) (r : Result (Option Range) Rule) → k < length xs →
    r ≡ place_within access seen de dma (get_or xs k None) →
    places_within access seen de dma (drop k xs)
    ≡ try_then r (λ r. try_then (places_within access seen de dma (drop (k + 1) xs)) (λ rs. Ok (r ∷ rs)))
next_place access seen de dma k xs r lt is =
    at_drop_more (places_within access seen de dma) xs k None lt
    ∙ ap (λ r. try_then r (λ r. try_then (places_within access seen de dma (drop (k + 1) xs)) (λ rs. Ok (r ∷ rs)))) (sym is)

pub ArePlaced-next : (access : Access) (seen : Seen) (de dma k : ℕ) (xs : List (Option Extent)) (places : List (Option Range)) (r : Option Range) →
    k < length xs → length places ≡ length xs → Ok r ≡ place_within access seen de dma (get_or xs k None) →
    ArePlaced access seen de dma xs k places → ArePlaced access seen de dma xs (k + 1) (set places k r)
ArePlaced-next access seen de dma k xs places r lt size is placed =
    let rest = places_within access seen de dma (drop (k + 1) xs) in
    ap (λ front. try_then {Y = List (Option Range)} rest (λ rs. Ok (front ++ rs))) (take_more_set places k r (subst (λ n. k < n) (sym size) lt))
    ∙ one_more rest (take k places) r
    ∙ ap (λ rs. try_then {Y = List (Option Range)} rs (λ rs. Ok (take k places ++ rs))) (sym (next_place access seen de dma k xs (Ok r) lt is))
    ∙ placed

pub ArePlaced-refused : (access : Access) (seen : Seen) (de dma k : ℕ) (xs : List (Option Extent)) (places : List (Option Range)) (e : Rule) →
    k < length xs → Err e ≡ place_within access seen de dma (get_or xs k None) →
    ArePlaced access seen de dma xs k places → Err e ≡ places_within access seen de dma xs
ArePlaced-refused access seen de dma k xs places e lt is placed =
    ap (λ rs. try_then {Y = List (Option Range)} rs (λ rs. Ok (take k places ++ rs))) (sym (next_place access seen de dma k xs (Err e) lt is)) ∙ placed

pub ArePlaced-all : (access : Access) (seen : Seen) (de dma k : ℕ) (xs : List (Option Extent)) (places : List (Option Range)) →
    length xs ≤ k → length places ≡ length xs → ArePlaced access seen de dma xs k places → Ok places ≡ places_within access seen de dma xs
ArePlaced-all access seen de dma k xs places le size placed =
    let whole : take k places ++ [] ≡ places = append-nil (take k places) ∙ take_all k places (subst (λ n. n ≤ k) (sym size) le) in
    ap Ok (sym whole) ∙ sym (at_drop_all (λ ys. try_then (places_within access seen de dma ys) (λ rs. Ok (take k places ++ rs))) xs k le) ∙ placed
