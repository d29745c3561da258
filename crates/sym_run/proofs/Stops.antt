-- A walk that stops at a conditional jump.
use Rattle.std.proofs.Common.{◌≡◌, ◌∙◌, ℕ, zero, suc, ◌+◌, ◌-◌, ◌<◌, ◌≤◌, Bool, cond, true, false, List, [], ◌∷◌, length, nat_lt, take, drop, Option, Some, None, refl, sym, ap, subst, arith}
use Rattle.std.specs.List.{slice_get}
use Rattle.std.proofs.Math.Seq.{drop-drop}
use Rattle.std.proofs.lemmas.List.{length-drop}
use Rattle.asm86_line_types.specs.declared.line.Label.{Label}
use Rattle.asm86_line_types.specs.declared.line.Stmt86.{Stmt86}
use Rattle.asm86_line_types.specs.declared.line.Stmt86.TheVariants.{Mark}
use Rattle.asm86_line_types.specs.Layout.{marks}
use Rattle.sym_block_def.specs.Walk86.{Surroundings, after_label}
use Rattle.sym_run.specs.Places.{IsPlace}
use Rattle.sym_run.specs.Stop.{Stop, stop, or_stop, pass, next_after, stop_from, way_stop, ends_by, is_way_end, two_ways_stop, jump_label, jump_stop, walk_stop, StopsAt}

first_of : (n : ℕ) (xs : List Stmt86) (x : Stmt86) → slice_get (take n xs) 0 ≡ Some x → xs ≡ x ∷ drop 1 xs
first_of zero xs x e = absurd (cc)
first_of (suc n) [] x e = absurd (cc)
first_of (suc n) (y ∷ xs) x e = let same : y ≡ x = cc in ap (λ z. z ∷ xs) same

-- the statement at a place, and what stands after it
pub first_at : (xs : List Stmt86) (at n : ℕ) (x : Stmt86) → slice_get (take n (drop at xs)) 0 ≡ Some x → drop at xs ≡ x ∷ drop (at + 1) xs
first_at xs at n x e = first_of n (drop at xs) x e ∙ ap (λ ys. x ∷ ys) (drop-drop 1 at xs)

none_of : (n : ℕ) (xs : List Stmt86) → n ≡ length xs → slice_get (take n xs) 0 ≡ None → xs ≡ []
none_of n [] h e = refl
none_of zero (y ∷ xs) h e = absurd (omega arith)
none_of (suc n) (y ∷ xs) h e = absurd (cc)

-- no statement stands at a place
pub none_at : (xs : List Stmt86) (at : ℕ) → slice_get (take (length xs - at) (drop at xs)) 0 ≡ None → drop at xs ≡ []
none_at xs at e = none_of (length xs - at) (drop at xs) (sym (length-drop at xs)) e

pub mark_ends : (room : ℕ) (l : Label) (xs rest : List Stmt86) → xs ≡ Mark l ∷ rest → is_way_end room xs ≡ true
mark_ends zero l xs rest e = ap (is_way_end zero) e
mark_ends (suc n) l xs rest e = ap (is_way_end (suc n)) e

pub statement_ends : (room : ℕ) (x : Stmt86) (xs rest : List Stmt86) → xs ≡ x ∷ rest → ((l : Label) → x ≡ Mark l → ⊥) → 0 < room → is_way_end room xs ≡ ends_by x
statement_ends zero x xs rest e n h = absurd (omega arith)
statement_ends (suc k) (Mark l) xs rest e n h = absurd (n l refl)
statement_ends (suc k) x xs rest e n h = ap (is_way_end (suc k)) e

pub no_room_ends : (room : ℕ) (x : Stmt86) (xs rest : List Stmt86) → xs ≡ x ∷ rest → ((l : Label) → x ≡ Mark l → ⊥) → room ≤ 0 → nat_lt 0 room ≡ is_way_end room xs
no_room_ends zero (Mark l) xs rest e n h = absurd (n l refl)
no_room_ends zero x xs rest e n h = sym (ap (is_way_end zero) e)
no_room_ends (suc k) x xs rest e n h = absurd (omega arith)

pub nothing_ends : (room : ℕ) (xs : List Stmt86) → xs ≡ [] → is_way_end room xs ≡ false
nothing_ends zero xs e = ap (is_way_end zero) e
nothing_ends (suc n) xs e = ap (is_way_end (suc n)) e

-- the place behind a label, with a statement more before it
pub place_more : (text : List Stmt86) (k : ℕ) (q : Label) (x : Stmt86) (o new : Option ℕ) → k < length text → drop k text ≡ x ∷ drop (k + 1) text → new ≡ cond (marks q x) (Some (k + 1)) o → IsPlace text o (after_label (drop (k + 1) text) q) → IsPlace text new (after_label (drop k text) q)
place_more text k q x o new lt here e h =
    subst (λ xs. IsPlace text new (after_label xs q)) (sym here)
    (subst (λ n. IsPlace text n (cond (marks q x) (Some (drop (k + 1) text)) (after_label (drop (k + 1) text) q))) (sym e) (by_mark (marks q x)))
  where
    by_mark : (b : Bool) → IsPlace text (cond b (Some (k + 1)) o) (cond b (Some (drop (k + 1) text)) (after_label (drop (k + 1) text) q))
    by_mark true = (omega arith, refl)
    by_mark false = h

-- a walk stops at a place
pub stops_at : (text : List Stmt86) (room at : ℕ) (s : Stop) → at ≤ length text → stop room (drop at text) ≡ s → StopsAt text (record { room = room; at = at }) s
stops_at text room at s h e = subst (StopsAt text (record { room = room; at = at })) e (record { room = refl; at = record { within = h; is = refl } })

module _ (w : Surroundings) where
  pub none_left : (jumped : Bool) (room : ℕ) (xs : List Stmt86) → room ≤ 0 → stop_from jumped w room xs ≡ stop room xs
  none_left jumped zero [] h = refl
  none_left jumped zero (x ∷ xs) h = refl
  none_left jumped (suc n) xs h = absurd (omega arith)

  pub text_ends : (jumped : Bool) (room : ℕ) (xs : List Stmt86) → length xs ≤ 0 → stop_from jumped w room xs ≡ stop room xs
  text_ends jumped zero [] h = refl
  text_ends jumped (suc n) [] h = refl
  text_ends jumped room (x ∷ xs) h = absurd (omega arith)

  -- a walk stops at a statement after which it does not go on, and goes on after any other
  pub stops_here : (jumped : Bool) (room : ℕ) (x : Stmt86) (rest : List Stmt86) → next_after jumped w x rest ≡ None → stop_from jumped w room (x ∷ rest) ≡ stop room (x ∷ rest)
  stops_here jumped zero x rest e = refl
  stops_here jumped (suc n) x rest e = ap (λ o. or_stop o (λ xs. stop_from jumped w n (pass w xs)) (stop (suc n) (x ∷ rest))) e

  pub goes_on : (jumped : Bool) (room : ℕ) (x : Stmt86) (rest xs : List Stmt86) → 0 < room → next_after jumped w x rest ≡ Some xs → stop_from jumped w room (x ∷ rest) ≡ stop_from jumped w (room - 1) (pass w xs)
  goes_on jumped zero x rest xs h e = absurd (omega arith)
  goes_on jumped (suc n) x rest xs h e =
      let one_less : n ≡ suc n - 1 = omega arith in
      ap (λ o. or_stop o (λ ys. stop_from jumped w n (pass w ys)) (stop (suc n) (x ∷ rest))) e
      ∙ ap (λ m. stop_from jumped w m (pass w xs)) one_less

  -- where a walk stops for good that stops at no conditional jump
  pub ends_nowhere : (s : Stop) → s.at ≡ [] → (walk_stop w s.room s.at).at ≡ s.at
  ends_nowhere s e = by_room s.room s.at e
    where
      by_room : (room : ℕ) (xs : List Stmt86) → xs ≡ [] → (walk_stop w room xs).at ≡ xs
      by_room zero [] e = refl
      by_room (suc n) [] e = refl
      by_room room (x ∷ xs) e = absurd (cc)

  pub ends_with_none_left : (s : Stop) → s.room ≡ 0 → (walk_stop w s.room s.at).at ≡ s.at
  ends_with_none_left s e = by_room s.room s.at e
    where
      by_room : (room : ℕ) (xs : List Stmt86) → room ≡ 0 → (walk_stop w room xs).at ≡ xs
      by_room zero [] e = refl
      by_room zero (x ∷ xs) e = refl
      by_room (suc n) xs e = absurd (omega arith)

  pub ends_at_no_jump : (s : Stop) (x : Stmt86) (rest : List Stmt86) → s.at ≡ x ∷ rest → jump_label x ≡ None → (walk_stop w s.room s.at).at ≡ s.at
  ends_at_no_jump s x rest e f = ap (λ xs. (walk_stop w s.room xs).at) e ∙ (by_room s.room ∙ sym e)
    where
      by_room : (room : ℕ) → (walk_stop w room (x ∷ rest)).at ≡ x ∷ rest
      by_room zero = refl
      by_room (suc n) = ap (λ o. (jump_stop w n o (way_stop w n rest) (stop (suc n) (x ∷ rest))).at) f

  at_jump : (room : ℕ) (x : Stmt86) (rest : List Stmt86) (l : Label) → 0 < room → jump_label x ≡ Some l → walk_stop w room (x ∷ rest) ≡ two_ways_stop w (room - 1) l (way_stop w (room - 1) rest) (stop room (x ∷ rest))
  at_jump zero x rest l lt e = absurd (omega arith)
  at_jump (suc room) x rest l lt e =
      let one_less : room ≡ suc room - 1 = omega arith in
      ap (λ o. jump_stop w room o (way_stop w room rest) (stop (suc room) (x ∷ rest))) e
      ∙ ap (λ n. two_ways_stop w n l (way_stop w n rest) (stop (suc room) (x ∷ rest))) one_less

  -- at a conditional jump, with an instruction left for it
  pub jump_at : (text : List Stmt86) (s : Stop) (room at : ℕ) (x : Stmt86) (l : Label) → room ≡ s.room → drop at text ≡ s.at → drop at text ≡ x ∷ drop (at + 1) text → 0 < room → jump_label x ≡ Some l → walk_stop w s.room s.at ≡ two_ways_stop w (room - 1) l (way_stop w (room - 1) (drop (at + 1) text)) (stop room (drop at text))
  jump_at text s room at x l e f g lt h =
      sym (λ i. walk_stop w (e i) (f i))
      ∙ (ap (walk_stop w room) g
      ∙ (at_jump room x (drop (at + 1) text) l lt h
      ∙ ap (λ xs. two_ways_stop w (room - 1) l (way_stop w (room - 1) (drop (at + 1) text)) (stop room xs)) (sym g)))
