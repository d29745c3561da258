-- A list of micro-operations that is performed, as far as it has come: what performing those that are left does, is what all do.
use Rattle.std.proofs.Common.{◌≡◌, ◌∙◌, ℕ, ◌+◌, ◌≤◌, ◌<◌, List, [], ◌∷◌, length, get_or, drop, Option, Some, None, ap, subst, arith, add-one, drop-cons, drop_of_length-le}
use Rattle.xlt_pool.specs.Contents.{Contents}
use Rattle.sym_micro.specs.declared.run.Run.{Run}
use Rattle.sym_micro.specs.declared.micro.Micro.{Micro}
use Rattle.sym_micro.specs.Machine.{Machine, micro, micros, weight, weights, moves, all_moves}
use Rattle.sym_micro.specs.Stands.{machine_of, IsReady, GoesOn}
use Rattle.sym_micro.proofs.Ready.{then_goes_on, fails_first, stays}

pub record Performing (start now : Contents) (first run : Run) (steps left : List Micro) : Type 0 where
  pub ready : IsReady now run
  pub room : length run.actions.items + all_moves left ≤ 512
  pub rest : (new : Contents) (s : Run) (made : Option (Unit {0})) → GoesOn now new run s (weights left) (all_moves left) (λ m. m ≡ micros (machine_of now run) left) made → GoesOn start new first s (weights steps) (all_moves steps) (λ m. m ≡ micros (machine_of start first) steps) made

pub goes_on : (start now new : Contents) (first run s : Run) (steps left : List Micro) (x : Micro) → Performing start now first run steps (x ∷ left) → GoesOn now new run s (weight x) (moves x) (λ m. m ≡ micro (machine_of now run) x) (Some tt) → Performing start new first s steps left
goes_on start now new first run s steps left x d g = record {
  ready = g.ready;
  room =
      let few : length s.actions.items ≤ length run.actions.items + moves x = g.few in
      let room : length run.actions.items + (moves x + all_moves left) ≤ 512 = d.room in
      omega arith;
  rest = λ last t made h.
      d.rest last t made
      (then_goes_on now new last run s t (weight x) (weights left) (moves x) (all_moves left)
      (λ m. m ≡ micro (machine_of now run) x)
      (λ m. m ≡ micros (machine_of new s) left)
      (λ m. m ≡ micros (micro (machine_of now run) x) left)
      made g h
      (λ m e. e ∙ ap (λ (k : Machine). micros k left) g.gives));
}

pub fails : (start now new : Contents) (first run s : Run) (steps left : List Micro) (x : Micro) → Performing start now first run steps (x ∷ left) → GoesOn now new run s (weight x) (moves x) (λ m. m ≡ micro (machine_of now run) x) None → GoesOn start new first s (weights steps) (all_moves steps) (λ m. m ≡ micros (machine_of start first) steps) None
fails start now new first run s steps left x d g =
    d.rest new s None
    (fails_first now new run s (weight x) (weight x + weights left) (moves x) (moves x + all_moves left)
    (λ m. m ≡ micro (machine_of now run) x)
    (λ m. m ≡ micros (micro (machine_of now run) x) left)
    (omega arith) (omega arith) g)

pub ends : (start now : Contents) (first run : Run) (steps : List Micro) → Performing start now first run steps [] → GoesOn start now first run (weights steps) (all_moves steps) (λ m. m ≡ micros (machine_of start first) steps) (Some tt)
ends start now first run steps d = d.rest now run (Some tt) (stays now run d.ready)

module _ (start now new : Contents) (first run s : Run) (steps : List Micro) (i : ℕ) (other : Micro) (below : i < length steps) (d : Performing start now first run steps (drop i steps)) where
  here : drop i steps ≡ get_or steps i other ∷ drop (i + 1) steps
  here = rw add-one (drop-cons steps i other below)

  left : Performing start now first run steps (get_or steps i other ∷ drop (i + 1) steps)
  left = subst (Performing start now first run steps) here d

  -- there is room for the next one
  pub room_at : length run.actions.items + moves (get_or steps i other) ≤ 512
  room_at =
      let room : length run.actions.items + (moves (get_or steps i other) + all_moves (drop (i + 1) steps)) ≤ 512 = left.room in
      omega arith

  pub goes_on_at : GoesOn now new run s (weight (get_or steps i other)) (moves (get_or steps i other)) (λ m. m ≡ micro (machine_of now run) (get_or steps i other)) (Some tt) → Performing start new first s steps (drop (i + 1) steps)
  goes_on_at g = goes_on start now new first run s steps (drop (i + 1) steps) (get_or steps i other) left g

  pub fails_at : GoesOn now new run s (weight (get_or steps i other)) (moves (get_or steps i other)) (λ m. m ≡ micro (machine_of now run) (get_or steps i other)) None → GoesOn start new first s (weights steps) (all_moves steps) (λ m. m ≡ micros (machine_of start first) steps) None
  fails_at g = fails start now new first run s steps (drop (i + 1) steps) (get_or steps i other) left g

pub ends_at : (start now : Contents) (first run : Run) (steps : List Micro) (i : ℕ) → length steps ≤ i → Performing start now first run steps (drop i steps) → GoesOn start now first run (weights steps) (all_moves steps) (λ m. m ≡ micros (machine_of start first) steps) (Some tt)
ends_at start now first run steps i past d = ends start now first run steps (subst (Performing start now first run steps) (drop_of_length-le steps past) d)
