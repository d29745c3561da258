-- Steps of a machine that only run on.
use Rattle.std.specs.Prelude.{◌≡◌, ℕ, zero, suc, List}
use Rattle.dialogue.specs.Run.{Machine, Ran, choice_at}

-- so many steps, each of which runs on; so many choices were taken before them
abbrev pub RunsOn : {S X : Type 0} → Machine S X → List ℕ → ℕ → ℕ → S → S → Type 0
RunsOn m choices zero used s t = t ≡ s
RunsOn {S} m choices (suc n) used s t =
    (u : S) × (m.step s (choice_at choices used) ≡ Ran u) × RunsOn m choices n (suc used) u t
