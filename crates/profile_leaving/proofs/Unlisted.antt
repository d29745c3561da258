-- The call table has bytes alone.
use Rattle.std.proofs.Common.{◌≡◌, ◌∙◌, ℕ, ◌≤◌, ◌==◌, true, false, cond, List, [], ◌∷◌, Some, None, refl, ap, arith}
use Rattle.std.specs.Prelude.{nat_lt}
use Rattle.std.specs.List.{list_all}
use Rattle.std.proofs.lemmas.Bool.{and_parts}
use Rattle.dialogue.specs.Table.{Row, call_table, entry_at, row_of}

no_entry : (table : List (ℕ × Row)) (n : ℕ) → 256 ≤ n → list_all (λ (e : ℕ × Row). nat_lt e.0 256) table ≡ true → entry_at table n ≡ None
no_entry [] n le all = refl
no_entry (e ∷ es) n le all =
    let parts = and_parts (nat_lt e.0 256) (list_all (λ (e : ℕ × Row). nat_lt e.0 256) es) all in
    let small = parts.0 in
    let other : (n == e.0) ≡ false = grind (arith, le, small) in
    ap (λ b. cond b (Some e.1) (entry_at es n)) other ∙ no_entry es n le parts.1

pub past_table : (n : ℕ) → 256 ≤ n → row_of n ≡ None
unfolding row_of
past_table n le = no_entry call_table n le refl
