-- The slots of a table: writes, those that are empty, and those that are counted round its end.
use Rattle.std.proofs.Common.{◌≡◌, ◌≢◌, ℕ, zero, suc, ◌+◌, ◌-◌, ◌%◌, ◌<◌, ◌≤◌, List, [], ◌∷◌, length, Option, None, cond, get_or, refl, sym, ap, subst, ◌∙◌, arith, inl, inr, ◌⊎◌, ⊎_elim, get_or-set_same, get_or-set_other}
use Rattle.std.specs.Prelude.{is_none, count_by}
use Rattle.std.proofs.Math.ListN.{set}
use Rattle.std.proofs.Math.Nat.{add-mod_right, mod-add-mod, mod-eq_of_lt, mod-lt}
use Rattle.std.proofs.lemmas.Bool.{cases_eq, cases_lt}
use Rattle.std.proofs.lemmas.List.Sums.{sum_by-cons}
use Rattle.xlt_pool.specs.Table.{HasId, IsReached}

-- what stands in a slot after a write: what was written, or what stood there
pub slot_after_write : (slots : List (Option ℕ)) (at k : ℕ) (v w : Option ℕ) → at < length slots → get_or (set slots at v) k None ≡ w → ((k ≡ at) × (v ≡ w)) ⊎ ((k ≢ at) × (get_or slots k None ≡ w))
slot_after_write slots at k v w h e =
    ⊎_elim
    (λ same. inl (same, sym (get_or-set_same slots at v None h) ∙ ap (λ j. get_or (set slots at v) j None) (sym same) ∙ e))
    (λ other. inr (other, sym (get_or-set_other slots at k v None other) ∙ e))
    (cases_eq k at)

-- a slot that has something lies in the table
pub slot_within : (slots : List (Option ℕ)) (k id : ℕ) → HasId slots k id → k < length slots
slot_within [] k id h = absurd (cc)
slot_within (s ∷ slots) zero id h = omega arith
slot_within (s ∷ slots) (suc k) id h = let lower : k < length slots = slot_within slots k id h in omega arith

-- an id that does not stand in the slot that is written stays where it is
pub other_slot : (slots : List (Option ℕ)) (at k id : ℕ) (v : Option ℕ) → (HasId slots at id → ⊥) → HasId slots k id → HasId (set slots at v) k id
other_slot slots at k id v h e =
    ⊎_elim
    (λ same. absurd (h (subst (λ j. HasId slots j id) same e)))
    (λ other. get_or-set_other slots at k v None other ∙ e)
    (cases_eq k at)

-- an id is reached as before where the slot that is written has neither it nor an earlier one
pub still_reached : (slots : List (Option ℕ)) (size home id at : ℕ) (v : Option ℕ) → IsReached slots size home id → ((j : ℕ) → j ≤ id → HasId slots at j → ⊥) → IsReached (set slots at v) size home id
still_reached slots size home id at v r h = record {
  distance = r.distance;
  stands = other_slot slots at ((home + r.distance) % size) id v (h id (omega arith)) r.stands;
  before = λ k below.
      let b = r.before k below in
      let earlier : b.0 < id = b.2 in
      let within : b.0 ≤ id = omega arith in
      (b.0, other_slot slots at ((home + k) % size) b.0 v (h b.0 within) b.1, b.2);
}

-- what a slot adds to the number of empty ones
abbrev pub if_empty : Option ℕ → ℕ
if_empty slot = cond (is_none slot) 1 0

-- where each slot has an id, none is empty
pub none_is_empty : (slots : List (Option ℕ)) → ((k : ℕ) → k < length slots → (id : ℕ) × HasId slots k id) → count_by is_none slots ≡ 0
none_is_empty [] full = refl
none_is_empty (s ∷ slots) full =
    let positive : 0 < length (s ∷ slots) = omega arith in
    let first = full zero positive in
    let rest : count_by is_none slots ≡ 0 = none_is_empty slots (λ k h. let h' : suc k < length (s ∷ slots) = omega arith in full (suc k) h') in
    let nothing : if_empty s ≡ 0 = ap if_empty first.1 in
    let joined : count_by is_none (s ∷ slots) ≡ if_empty s + count_by is_none slots = sum_by-cons if_empty s slots in
    let zeros : if_empty s + count_by is_none slots ≡ 0 = omega arith in
    joined ∙ zeros

-- each slot is met on the way round
pub slot_is_met : (home j size : ℕ) → j < size → (k : ℕ) × (k < size) × ((home + k) % size ≡ j)
slot_is_met home j size h =
    let positive : 0 < size = omega arith in
    let start : home % size < size = mod-lt home positive in
    ⊎_elim
    (λ before.
    let k : ℕ = j + size - home % size in
    let below : j + size - home % size < size = omega arith in
    let sum : home % size + (j + size - home % size) ≡ j + size = omega arith in
    (j + size - home % size, below, sym (mod-add-mod home size (j + size - home % size)) ∙ ap (λ n. n % size) sum ∙ add-mod_right j size ∙ mod-eq_of_lt h))
    (λ after.
    let below : j - home % size < size = omega arith in
    let sum : home % size + (j - home % size) ≡ j = omega arith in
    (j - home % size, below, sym (mod-add-mod home size (j - home % size)) ∙ ap (λ n. n % size) sum ∙ mod-eq_of_lt h))
    (cases_lt j (home % size))
