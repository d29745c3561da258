-- Visits of the edges to one node, one after the other.
use Rattle.std.proofs.Common.{rules, ◌≡◌, ◌≢◌, ℕ, ◌+◌, ◌<◌, true, List, [], ◌∷◌, ◌++◌, length, take, get_or, refl, le_refl, sym, ap, subst, ◌∙◌, inl, inr, ◌⊎◌, ⊎_elim, arith}
use Rattle.std.specs.List.{Contains}
use Rattle.std.proofs.lemmas.Bool.{or_left, or_right, or_cases, cases_eq}
use Rattle.std.proofs.lemmas.List.{take_more}
use Rattle.std.proofs.lemmas.List.Elements.{Contains-append_left, Contains-push, Contains-push_cases}
use Rattle.cells.specs.declared.Part.{Part}
use Rattle.cells.specs.Parts.{Parts, has}
use Rattle.flow.specs.declared.search.Vertex.{Vertex}
use Rattle.flow.specs.Search.{vertex, is_left, IsVisited, IsSpread}

-- a fact on the vertex of a number, from the one visited and the others
by_number : (P : ℕ → Type 0) (from k : ℕ) → P from → (k ≢ from → P k) → P k
by_number P from k here other = ⊎_elim (λ same. subst P (sym same) here) other (cases_eq k from)

module _ (sources : List ℕ) (passed : Parts) (old mid new : List Vertex) (from : ℕ) (s : IsSpread sources passed old mid) (v : IsVisited mid from passed new) where
  defines_kept : (k : ℕ) → (vertex new k).defines ≡ (vertex mid k).defines
  defines_kept k = by_number (λ j. (vertex new j).defines ≡ (vertex mid j).defines) from k v.defines (λ other. ap (λ (w : Vertex). w.defines) (v.others k other))

  need_kept : (k : ℕ) (x : Part) → has (vertex mid k).need x ≡ true → has (vertex new k).need x ≡ true
  need_kept k x =
      by_number (λ j. has (vertex mid j).need x ≡ true → has (vertex new j).need x ≡ true) from k
      (λ h. v.need x ∙ or_left (has (vertex mid from).need x) (is_left passed (vertex mid from).defines x) h)
      (λ other h. ap (λ (w : Vertex). has w.need x) (v.others k other) ∙ h)

  left_then : (k : ℕ) (x : Part) → is_left passed (vertex mid k).defines x ≡ is_left passed (vertex old k).defines x
  left_then k x = ap (λ m. is_left passed m x) (s.defines k)

  passed_here : (x : Part) → is_left passed (vertex old from).defines x ≡ true → has (vertex new from).need x ≡ true
  passed_here x h = v.need x ∙ or_right (has (vertex mid from).need x) (is_left passed (vertex mid from).defines x) (left_then from x ∙ h)

  only_by : (k : ℕ) (x : Part) → has (vertex new k).need x ≡ true → (has (vertex mid k).need x ≡ true) ⊎ ((k ≡ from) × (is_left passed (vertex mid k).defines x ≡ true))
  only_by k x =
      by_number (λ j. has (vertex new j).need x ≡ true → (has (vertex mid j).need x ≡ true) ⊎ ((j ≡ from) × (is_left passed (vertex mid j).defines x ≡ true))) from k
      (λ h. ⊎_elim (λ before. inl before) (λ now. inr (refl, now)) (or_cases (has (vertex mid from).need x) (is_left passed (vertex mid from).defines x) (sym (v.need x) ∙ h)))
      (λ other h. inl (sym (ap (λ (w : Vertex). has w.need x) (v.others k other)) ∙ h))

  woken_by : (k : ℕ) → (vertex new k ≡ vertex mid k) ⊎ ((vertex new k).waits ≡ true)
  woken_by k = by_number (λ j. (vertex new j ≡ vertex mid j) ⊎ ((vertex new j).waits ≡ true)) from k v.woken (λ other. inl (v.others k other))

  pub spread_push : IsSpread (sources ++ from ∷ []) passed old new
  spread_push = record {
    same_length = v.same_length ∙ s.same_length;
    defines = λ k. defines_kept k ∙ s.defines k;
    grows = λ k x h. need_kept k x (s.grows k x h);
    passes = λ k x among h. ⊎_elim
        (λ before. need_kept k x (s.passes k x before h))
        (λ now. subst (λ j. is_left passed (vertex old j).defines x ≡ true → has (vertex new j).need x ≡ true) now (passed_here x) h)
        (Contains-push_cases sources from k among);
    only = λ k x h. ⊎_elim
        (λ before. ⊎_elim (λ old'. inl old') (λ by. inr (Contains-append_left sources (from ∷ []) k by.0, by.1)) (s.only k x before))
        (λ now. inr (subst (Contains (sources ++ from ∷ [])) (sym now.0) (Contains-push sources from), sym (left_then k x) ∙ now.1))
        (only_by k x h);
    woken = λ k. ⊎_elim
        (λ same. ⊎_elim (λ before. inl (same ∙ before)) (λ waits. inr (ap (λ (w : Vertex). w.waits) same ∙ waits)) (s.woken k))
        (λ waits. inr waits)
        (woken_by k);
    fewer = omega (arith, v.fewer, s.fewer);
    cheaper = λ ss. omega (arith, v.cheaper ss, s.cheaper ss);
  }

pub spread_more : (sources : List ℕ) (i d : ℕ) (passed : Parts) (old mid new : List Vertex) → i < length sources → IsSpread (take i sources) passed old mid → IsVisited mid (get_or sources i d) passed new → IsSpread (take (i + 1) sources) passed old new
spread_more sources i d passed old mid new lt s v = subst (λ xs. IsSpread xs passed old new) (sym (take_more sources i d lt)) (spread_push (take i sources) passed old mid new (get_or sources i d) s v)

-- before the first, nothing has changed
pub spread_none : (passed : Parts) (vs : List Vertex) → IsSpread [] passed vs vs
spread_none passed vs = record {
  same_length = refl;
  defines = λ k. refl;
  grows = λ k x h. h;
  passes = λ k x among. absurd (none k among);
  only = λ k x h. inl h;
  woken = λ k. inl refl;
  fewer = le_refl _;
  cheaper = λ ss. le_refl _;
}
  where
    none : (k : ℕ) → Contains [] k → ⊥
    none k among = search rules
