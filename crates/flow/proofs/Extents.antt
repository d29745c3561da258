-- The blocks of a program, by their leaders and counts.
use Rattle.std.proofs.Common.{◌≡◌, ℕ, zero, suc, ◌+◌, ◌-◌, ◌<◌, Bool, true, false, ◌||◌, eqb, List, [], ◌∷◌, length, get_or, Some, refl, sym, ap, subst, ◌∙◌, inl, inr, ◌⊎◌, ⊎_elim, add-zero, arith}
use Rattle.std.specs.Prelude.{◌==◌, not}
use Rattle.std.specs.List.{Contains}
use Rattle.std.proofs.lemmas.Bool.{both_ways, cases_eq, cases_lt, or_cases, not-true, eq-eqb, eqb-true}
use Rattle.std.proofs.lemmas.List.{length-map, get_or-map}
use Rattle.std.proofs.lemmas.List.Elements.{All-contains}
use Rattle.base.specs.Addresses.{is_among}
use Rattle.i80.specs.declared.Instr80.{Instr80}
use Rattle.i80.specs.declared.Instr80.TheVariants.{Nop}
use Rattle.i80.specs.Columns.{length80, ends80}
use Rattle.asm80_types.specs.declared.program.Placed.{Placed}
use Rattle.asm80_types.specs.Program.{Program, IsProgram, instr_at, is_start}
use Rattle.asm80_types.specs.Taken.{taken_places}
use Rattle.asm80_types.proofs.Lookup.{above-laid, rising-laid, length80-positive}
use Rattle.flow.specs.Blocks.{is_cut, is_entered, cut_from, extent, blocks, leader_of, count_in, block_at, end_of, target_of, targets, place_after, IsBlockOf, IsLeader, IsStraight, IsBehindNone, BlocksCut, Cause, First, Target, Taken, BehindEnd, BehindNone, BehindSixteen}
use Rattle.flow.proofs.Cuts.{flat-cut, offset, block, within_flat, at_flat, Located, locate, one_location, joined_block, uncut_inside, sized_block, leader-first, next_block, ended_block, offset-zero}
use Rattle.flow.proofs.Entries.{target_named, entered_target, entered_taken, cut_entered, cut_ended, cut_apart, target_among, contained}
use Rattle.flow.proofs.Laid.{strictly, behind_each, one_place, next_place, found_start, at_place}
use Rattle.flow.proofs.Straight.{straight, after_some, after_end}
use Rattle.flow.proofs.Wires.{placed_at, named_start, instr_among, taken_are}

abbrev pub no_placed : Placed
no_placed = record { at = 0; line = 0; instr = Nop }

-- the blocks as lists of instructions
abbrev pub cut : Program → List (List Placed)
cut p = cut_from p 0 p.instrs

abbrev pub placed : Program → ℕ → Placed
placed p g = get_or p.instrs g no_placed

-- the number of a block
pub record Numbered (p : Program) (a n : ℕ) : Type 0 where
  pub number : ℕ
  pub within : number < length (cut p)
  pub leader : leader_of (block (cut p) number) ≡ a
  pub count : length (block (cut p) number) ≡ n

pub numbered : (p : Program) (a n : ℕ) → IsBlockOf p a n → Numbered p a n
numbered p a n h =
    let lt : h.0 < length (cut p) = omega (arith, h.1, length-map (cut p) extent) in
    let is = sym (get_or-map extent (cut p) h.0 [] (a, n) lt) ∙ h.2 in
    record { number = h.0; within = lt; leader = ap (λ (e : ℕ × ℕ). e.0) is; count = ap (λ (e : ℕ × ℕ). e.1) is }

pub is_block : (p : Program) (i : ℕ) → i < length (cut p) → IsBlockOf p (leader_of (block (cut p) i)) (length (block (cut p) i))
is_block p i lt = (i, omega (arith, lt, length-map (cut p) extent), get_or-map extent (cut p) i [] (extent (block (cut p) i)) lt)

pub is_leader : (p : Program) (i : ℕ) → i < length (cut p) → IsLeader p (leader_of (block (cut p) i))
is_leader p i lt =
    let in_blocks : i < length (blocks p) = omega (arith, lt, length-map (cut p) extent) in (
      i,
      omega (arith, in_blocks, length-map (blocks p) (λ (b : ℕ × ℕ). b.0)),
      get_or-map (λ (b : ℕ × ℕ). b.0) (blocks p) i (0, 0) (leader_of (block (cut p) i)) in_blocks
          ∙ ap (λ (e : ℕ × ℕ). e.0) (get_or-map extent (cut p) i [] (0, 0) lt),
    )

leads : (p : Program) (a : ℕ) → IsLeader p a → (i : ℕ) × (i < length (cut p)) × (leader_of (block (cut p) i) ≡ a)
leads p a h =
    let in_blocks : h.0 < length (blocks p) = omega (arith, h.1, length-map (blocks p) (λ (b : ℕ × ℕ). b.0)) in
    let lt : h.0 < length (cut p) = omega (arith, in_blocks, length-map (cut p) extent) in (
      h.0,
      lt,
      sym (get_or-map (λ (b : ℕ × ℕ). b.0) (blocks p) h.0 (0, 0) a in_blocks
          ∙ ap (λ (e : ℕ × ℕ). e.0) (get_or-map extent (cut p) h.0 [] (0, 0) lt)) ∙ h.2,
    )

-- a block that is looked up by its leader is one
count_step : (b : ℕ × ℕ) (bs : List (ℕ × ℕ)) (a : ℕ) (t : Bool) → eqb b.0 a ≡ t → (m : ℕ) × Contains bs (a, m) × (count_in bs a ≡ Some m) → (m : ℕ) × Contains (b ∷ bs) (a, m) × (count_in (b ∷ bs) a ≡ Some m)
count_step b bs a true e rest = (b.1, (0, omega arith, ap (λ c. (c, b.1)) (eqb-true b.0 a e)), rw e)
count_step b bs a false e rest = (rest.0, (suc rest.1.0, omega (arith, rest.1.1), rest.1.2), rw e rest.2)

count_here : (b : ℕ × ℕ) (bs : List (ℕ × ℕ)) (a n : ℕ) → b ≡ (a, n) → (m : ℕ) × Contains (b ∷ bs) (a, m) × (count_in (b ∷ bs) a ≡ Some m)
count_here b bs a n is =
    let same : b.0 ≡ a = ap (λ (c : ℕ × ℕ). c.0) is in
    (b.1, (0, omega arith, ap (λ c. (c, b.1)) same), (let t : eqb b.0 a ≡ true = eq-eqb b.0 a same in rw t))

count_found : (bs : List (ℕ × ℕ)) (i a n : ℕ) → i < length bs → get_or bs i (a, n) ≡ (a, n) → (m : ℕ) × Contains bs (a, m) × (count_in bs a ≡ Some m)
count_found [] i a n lt is = absurd (omega arith)
count_found (b ∷ bs) zero a n lt is = count_here b bs a n is
count_found (b ∷ bs) (suc i) a n lt is = count_step b bs a (eqb b.0 a) refl (count_found bs i a n (omega arith) is)

module _ (p : Program) (is : IsProgram p) where
  in_instrs : (i k : ℕ) → i < length (cut p) → k < length (block (cut p) i) → offset (cut p) i + k < length p.instrs
  in_instrs i k lti ltk = subst (λ xs. offset (cut p) i + k < length xs) (flat-cut p 0 p.instrs) (within_flat (cut p) i k lti ltk)

  in_block : (i k : ℕ) (d : Placed) → i < length (cut p) → k < length (block (cut p) i) → get_or p.instrs (offset (cut p) i + k) d ≡ get_or (block (cut p) i) k d
  in_block i k d lti ltk = subst (λ xs. get_or xs (offset (cut p) i + k) d ≡ get_or (block (cut p) i) k d) (flat-cut p 0 p.instrs) (at_flat (cut p) i k d lti ltk)

  located : (g : ℕ) → g < length p.instrs → Located (cut p) g
  located g lt = locate (cut p) g (subst (λ xs. g < length xs) (sym (flat-cut p 0 p.instrs)) lt)

  known : (i k : ℕ) (d : Placed) → i < length (cut p) → k < length (block (cut p) i) → instr_at p (get_or (block (cut p) i) k d).at ≡ Some (get_or (block (cut p) i) k d).instr
  known i k d lti ltk = subst (λ (x : Placed). instr_at p x.at ≡ Some x.instr) (in_block i k d lti ltk) (placed_at p (offset (cut p) i + k) d is (in_instrs i k lti ltk))

  pub block_straight : (i : ℕ) → i < length (cut p) → IsStraight p (leader_of (block (cut p) i)) (length (block (cut p) i))
  block_straight i lti = straight p (block (cut p) i) (joined_block p 0 p.instrs i) (λ k d ltk. known i k d lti ltk)

  -- the address of an instruction of a block
  address : (i k : ℕ) → i < length (cut p) → k < length (block (cut p) i) → place_after p (leader_of (block (cut p) i)) k ≡ (placed p (offset (cut p) i + k)).at
  address i k lti ltk =
      after_some p (block (cut p) i) k no_placed (joined_block p 0 p.instrs i) (λ m d lt. known i m d lti lt) ltk
      ∙ sym (ap (λ (x : Placed). x.at) (in_block i k no_placed lti ltk))

  address_behind : (i k : ℕ) → i < length (cut p) → k < length (block (cut p) i) → place_after p (leader_of (block (cut p) i)) (suc k) ≡ end_of (placed p (offset (cut p) i + k))
  address_behind i k lti ltk =
      after_end p (block (cut p) i) k no_placed (joined_block p 0 p.instrs i) (λ m d lt. known i m d lti lt) ltk
      ∙ sym (ap end_of (in_block i k no_placed lti ltk))

  one_address : (g h : ℕ) → g < length p.instrs → h < length p.instrs → (placed p g).at ≡ (placed p h).at → g ≡ h
  one_address g h ltg lth same = one_place p.instrs 0x100 (p.top - 2) g h no_placed is.instrs ltg lth (at_place p.instrs g no_placed ltg ∙ same ∙ sym (at_place p.instrs h no_placed lth))

  same_block : (i k j m : ℕ) → i < length (cut p) → k < length (block (cut p) i) → j < length (cut p) → m < length (block (cut p) j) → place_after p (leader_of (block (cut p) i)) k ≡ place_after p (leader_of (block (cut p) j)) m → (i ≡ j) × (k ≡ m)
  same_block i k j m lti ltk ltj ltm same =
      one_location (cut p) i k j m lti ltk ltj ltm
      (one_address (offset (cut p) i + k) (offset (cut p) j + m) (in_instrs i k lti ltk) (in_instrs j m ltj ltm) (sym (address i k lti ltk) ∙ same ∙ address j m ltj ltm))

  once : (a n k b m j : ℕ) → Numbered p a n → k < n → Numbered p b m → j < m → place_after p a k ≡ place_after p b j → (a ≡ b) × (n ≡ m) × (k ≡ j)
  once a n k b m j x ltk y ltj same =
      let found = same_block x.number k y.number j x.within (omega (arith, ltk, x.count)) y.within (omega (arith, ltj, y.count)) (ap (λ c. place_after p c k) x.leader ∙ same ∙ ap (λ c. place_after p c j) (sym y.leader)) in
      (sym x.leader ∙ ap (λ i. leader_of (block (cut p) i)) found.0 ∙ y.leader, sym x.count ∙ ap (λ i. length (block (cut p) i)) found.0 ∙ y.count, found.1)

  -- the first of a block is its leader
  at_first : (l : ℕ) (i : ℕ) → i < length (cut p) → 0 < length (block (cut p) i) → offset (cut p) i ≡ l → IsLeader p (placed p l).at
  at_first l i lti some at =
      subst (λ g. IsLeader p (placed p g).at) at
      (subst (IsLeader p) (leader-first (block (cut p) i) no_placed some ∙ sym (ap (λ (x : Placed). x.at) (in_block i 0 no_placed lti some)) ∙ ap (λ g. (placed p g).at) (add-zero (offset (cut p) i))) (is_leader p i lti))

  -- an instruction that another one of its block stands before
  not_first : (i k h : ℕ) → i < length (cut p) → suc k < length (block (cut p) i) → offset (cut p) i + suc k ≡ suc h → is_cut p (placed p h) (placed p (suc h)) ≡ false
  not_first i k h lti ltk at =
      let before : offset (cut p) i + k ≡ h = omega (arith, at) in
      let x = sym (in_block i k no_placed lti (omega (arith, ltk))) ∙ ap (placed p) before in
      let y = sym (in_block i (suc k) no_placed lti ltk) ∙ ap (placed p) at in
      subst (λ (v : Placed). is_cut p v (placed p (suc h)) ≡ false) x (subst (λ (w : Placed). is_cut p (get_or (block (cut p) i) k no_placed) w ≡ false) y (uncut_inside p (block (cut p) i) k no_placed (joined_block p 0 p.instrs i) ltk))

  leader_by : (l : ℕ) (i k : ℕ) → i < length (cut p) → k < length (block (cut p) i) → offset (cut p) i + k ≡ l → (l ≡ 0) ⊎ ((h : ℕ) × (l ≡ suc h) × (is_cut p (placed p h) (placed p (suc h)) ≡ true)) → IsLeader p (placed p l).at
  leader_by l i zero lti ltk at why = at_first l i lti ltk (omega (arith, at))
  leader_by l i (suc k) lti ltk at why =
      ⊎_elim
      (λ none. absurd (omega (arith, at, none)))
      (λ after. absurd (both_ways (is_cut p (placed p after.0) (placed p (suc after.0))) (not_first i k after.0 lti ltk (at ∙ after.1)) after.2))
      why

  -- the first instruction, and each that a cut stands before
  leader_if : (l : ℕ) → l < length p.instrs → (l ≡ 0) ⊎ ((h : ℕ) × (l ≡ suc h) × (is_cut p (placed p h) (placed p (suc h)) ≡ true)) → IsLeader p (placed p l).at
  leader_if l lt why = let at = located l lt in leader_by l at.at at.place at.within at.inside at.sum why

  leader_cut : (l : ℕ) → l < length p.instrs → ((h : ℕ) → l ≡ suc h → is_cut p (placed p h) (placed p (suc h)) ≡ true) → IsLeader p (placed p l).at
  leader_cut zero lt each = leader_if zero lt (inl refl)
  leader_cut (suc h) lt each = leader_if (suc h) lt (inr (h, refl, each h refl))

  -- a start that control comes to from elsewhere, or that no instruction stands right before
  start_cut : (a : ℕ) → is_start p a ≡ true → ((h : ℕ) → suc h < length p.instrs → (placed p (suc h)).at ≡ a → is_cut p (placed p h) (placed p (suc h)) ≡ true) → IsLeader p a
  start_cut a start each =
      let at = found_start p.instrs a start in
      let here = sym (at_place p.instrs at.0 no_placed at.1) ∙ at.2 in
      subst (IsLeader p) here (leader_cut at.0 at.1 (λ h same. each h (subst (λ l. l < length p.instrs) same at.1) (subst (λ l. (placed p l).at ≡ a) same here)))

  covers : (a : ℕ) → is_start p a ≡ true → (b : ℕ) × (n : ℕ) × (k : ℕ) × IsBlockOf p b n × (k < n) × (place_after p b k ≡ a)
  covers a start =
      let at = found_start p.instrs a start in
      let l = located at.0 at.1 in (
        leader_of (block (cut p) l.at),
        length (block (cut p) l.at),
        l.place,
        is_block p l.at l.within,
        l.inside,
        address l.at l.place l.within l.inside ∙ ap (λ g. (placed p g).at) l.sum ∙ sym (at_place p.instrs at.0 no_placed at.1) ∙ at.2,
      )

  first_at : (0 < length p.instrs) × ((placed p 0).at ≡ 0x100)
  first_at =
      let at = found_start p.instrs 0x100 is.first in
      let some : 0 < length p.instrs = omega (arith, at.1) in
      let low = above-laid p.instrs 0x100 (p.top - 2) 0 is.instrs some in
      let high = rising-laid p.instrs 0x100 (p.top - 2) 0 at.0 is.instrs (omega arith) at.1 in
      (some, omega (arith, low, high, at.2, at_place p.instrs 0 no_placed some))

  first : IsLeader p 0x100
  first = subst (IsLeader p) first_at.1 (leader_if 0 first_at.0 (inl refl))

  target : (a t : ℕ) (i : Instr80) → instr_at p a ≡ Some i → target_of i ≡ Some t → IsLeader p t
  target a t i here goes =
      let at = instr_among p.instrs a i here in
      let entered = entered_target p at.0 t no_placed at.1 (ap target_of (at.2 no_placed) ∙ goes) in
      start_cut t (named_start p a t i is here (target_named i t goes)) (λ h lt same. cut_entered p (placed p h) (placed p (suc h)) (ap (λ b. is_entered p b) same ∙ entered))

  is_taken : (a : ℕ) → Contains (taken_places p) a → IsLeader p a
  is_taken a among =
      let start = All-contains (λ b. is_start p b ≡ true) (taken_places p) a (taken_are p) among in
      start_cut a start (λ h lt same. cut_entered p (placed p h) (placed p (suc h)) (ap (λ b. is_entered p b) same ∙ entered_taken p a among))

  behind_gap : (a : ℕ) → is_start p a ≡ true → IsBehindNone p a → IsLeader p a
  behind_gap a start none =
      start_cut a start (λ h lt same. cut_apart p (placed p h) (placed p (suc h)) (λ ends. none (placed p h).at (placed p h).instr (placed_at p h no_placed is (omega (arith, lt))) (ends ∙ same)))

  -- the one that stands right behind another
  behind_placed : (g : ℕ) → g < length p.instrs → is_start p (end_of (placed p g)) ≡ true → (suc g < length p.instrs) × ((placed p (suc g)).at ≡ end_of (placed p g))
  behind_placed g lt start =
      let next = next_place p.instrs 0x100 (p.top - 2) g no_placed is.instrs lt start in
      (next.0, sym (at_place p.instrs (suc g) no_placed next.0) ∙ next.1)

  behind_end : (a : ℕ) (i : Instr80) → instr_at p a ≡ Some i → ends80 i ≡ true → is_start p (a + length80 i) ≡ true → IsLeader p (a + length80 i)
  behind_end a i here ends start =
      let at = instr_among p.instrs a i here in
      let place : end_of (placed p at.0) ≡ a + length80 i = ap (λ n. n + length80 (placed p at.0).instr) (at.3 no_placed) ∙ ap (λ j. a + length80 j) (at.2 no_placed) in
      let next = behind_placed at.0 at.1 (ap (is_start p) place ∙ start) in
      subst (IsLeader p) (next.1 ∙ place) (leader_if (suc at.0) next.0 (inr (at.0, refl, cut_ended p (placed p at.0) (placed p (suc at.0)) (ap ends80 (at.2 no_placed) ∙ ends))))

  -- behind the last of a block another block begins
  behind_last : (i n : ℕ) → i < length (cut p) → length (block (cut p) i) ≡ suc n → suc (offset (cut p) i + n) < length p.instrs → IsLeader p (placed p (suc (offset (cut p) i + n))).at
  behind_last i n lti size lt = by_place at.place at.inside at.sum
    where
      at : Located (cut p) (suc (offset (cut p) i + n))
      at = located (suc (offset (cut p) i + n)) lt

      by_place : (k : ℕ) → k < length (block (cut p) at.at) → offset (cut p) at.at + k ≡ suc (offset (cut p) i + n) → IsLeader p (placed p (suc (offset (cut p) i + n))).at
      by_place zero inside sum = at_first (suc (offset (cut p) i + n)) at.at at.within inside (omega (arith, sum))
      by_place (suc k) inside sum =
          let same = one_location (cut p) at.at k i n at.within (omega (arith, inside)) lti (omega (arith, size)) (omega (arith, sum)) in
          let long : length (block (cut p) at.at) ≡ suc n = ap (λ j. length (block (cut p) j)) same.0 ∙ size in
          absurd (omega (arith, inside, long, same.1))

  behind_block : (a n : ℕ) → Numbered p a n → is_start p (place_after p a n) ≡ true → IsLeader p (place_after p a n)
  behind_block a n x start = by_count (length (block (cut p) x.number)) refl
    where
      by_count : (m : ℕ) → length (block (cut p) x.number) ≡ m → IsLeader p (place_after p a n)
      by_count zero size = absurd (omega (arith, size, (sized_block p p.instrs x.number x.within).0))
      by_count (suc m) size =
          let n_is : n ≡ suc m = sym x.count ∙ size in
          let place : place_after p a n ≡ end_of (placed p (offset (cut p) x.number + m)) = ap (place_after p a) n_is ∙ ap (λ b. place_after p b (suc m)) (sym x.leader) ∙ address_behind x.number m x.within (omega (arith, size)) in
          let next = behind_placed (offset (cut p) x.number + m) (in_instrs x.number m x.within (omega (arith, size))) (ap (is_start p) (sym place) ∙ start) in
          subst (IsLeader p) (next.1 ∙ sym place) (behind_last x.number m x.within size next.0)

  -- the count that is looked up for a leader
  found : (a n : ℕ) → IsBlockOf p a n → block_at p a ≡ Some n
  found a n h =
      let looked = count_found (blocks p) h.0 a n h.1 h.2 in
      let x = numbered p a n h in
      let y = numbered p a looked.0 looked.1 in
      let some = (sized_block p p.instrs x.number x.within).0 in
      let some' = (sized_block p p.instrs y.number y.within).0 in
      let same = once a n 0 a looked.0 0 x (omega (arith, some, x.count)) y (omega (arith, some', y.count)) refl in
      looked.2 ∙ ap Some (sym same.1)

  pub block_found : (i : ℕ) → i < length (cut p) → block_at p (leader_of (block (cut p) i)) ≡ Some (length (block (cut p) i))
  block_found i lti = found (leader_of (block (cut p) i)) (length (block (cut p) i)) (is_block p i lti)

  -- the leader of a block is the address of the instruction behind those of the blocks before
  pub leader_placed : (i : ℕ) → i < length (cut p) → (offset (cut p) i < length p.instrs) × (leader_of (block (cut p) i) ≡ (placed p (offset (cut p) i)).at)
  leader_placed i lti =
      let some = (sized_block p p.instrs i lti).0 in
      let sum = add-zero (offset (cut p) i) in
      (subst (λ g. g < length p.instrs) sum (in_instrs i 0 lti some), address i 0 lti some ∙ ap (λ g. (placed p g).at) sum)

  -- no instruction ends where one starts that does not stand right behind the one before it
  behind_none : (h : ℕ) → suc h < length p.instrs → (end_of (placed p h) ≡ (placed p (suc h)).at → ⊥) → IsBehindNone p (placed p (suc h)).at
  behind_none h lt apart b i here ends =
      let at = instr_among p.instrs b i here in
      let place : end_of (placed p at.0) ≡ (placed p (suc h)).at = ap (λ n. n + length80 (placed p at.0).instr) (at.3 no_placed) ∙ ap (λ j. b + length80 j) (at.2 no_placed) ∙ ends in
      let longer = length80-positive (placed p at.0).instr in
      let start = at_place p.instrs (suc h) no_placed lt in
      let here' = at_place p.instrs at.0 no_placed at.1 in
      ⊎_elim
      (λ before.
      let next = behind_each p.instrs 0x100 (p.top - 2) at.0 no_placed is.instrs (omega (arith, before, lt)) in
      let later = strictly p.instrs 0x100 (p.top - 2) h (suc h) no_placed is.instrs (omega arith) lt in
      let between = rising-laid p.instrs 0x100 (p.top - 2) (suc at.0) h is.instrs before (omega (arith, lt)) in
      omega (arith, next, later, between, place, start))
      (λ ge. ⊎_elim
      (λ past. omega (arith, strictly p.instrs 0x100 (p.top - 2) h at.0 no_placed is.instrs past at.1, rising-laid p.instrs 0x100 (p.top - 2) (suc h) at.0 is.instrs past at.1, place, start, here', longer))
      (λ le. let same : at.0 ≡ h = omega (arith, ge, le) in apart (ap (λ g. end_of (placed p g)) (sym same) ∙ place))
      (cases_lt h at.0))
      (cases_lt at.0 h)

  -- why a block begins at an instruction that another one stands before
  cause_of_cut : (h : ℕ) → h < length p.instrs → end_of (placed p h) ≡ (placed p (suc h)).at → is_cut p (placed p h) (placed p (suc h)) ≡ true → Cause p (placed p (suc h)).at
  cause_of_cut h lt follows t =
      ⊎_elim
      (λ ends. BehindEnd (placed p h).at (placed p h).instr (placed_at p h no_placed is lt) ends follows)
      (λ other. ⊎_elim
      (λ apart. absurd (both_ways (end_of (placed p h) == (placed p (suc h)).at) (not-true (end_of (placed p h) == (placed p (suc h)).at) apart) (eq-eqb (end_of (placed p h)) (placed p (suc h)).at follows)))
      (λ entered. ⊎_elim
      (λ goes. let at = target_among p.instrs (placed p (suc h)).at no_placed goes in Target (placed p at.0).at (placed p at.0).instr (placed_at p at.0 no_placed is at.1) at.2)
      (λ taken'. Taken (contained (taken_places p) (placed p (suc h)).at taken'))
      (or_cases (is_among (targets p) (placed p (suc h)).at) (is_among (taken_places p) (placed p (suc h)).at) entered))
      (or_cases (not (end_of (placed p h) == (placed p (suc h)).at)) (is_entered p (placed p (suc h)).at) other))
      (or_cases (ends80 (placed p h).instr) (not (end_of (placed p h) == (placed p (suc h)).at) || is_entered p (placed p (suc h)).at) t)

  cause_behind : (i m : ℕ) → suc i < length (cut p) → length (block (cut p) i) ≡ suc m → Cause p (leader_of (block (cut p) (suc i)))
  cause_behind i m lt size = subst (Cause p) here (⊎_elim by_end (λ apart. BehindNone (behind_none h within apart)) (cases_eq (end_of (placed p h)) (placed p (suc h)).at))
    where
      h : ℕ
      h = offset (cut p) i + m

      lti : i < length (cut p)
      lti = omega (arith, lt)

      last : m < length (block (cut p) i)
      last = omega (arith, size)

      next : offset (cut p) (suc i) ≡ suc (offset (cut p) i + m)
      next = omega (arith, next_block (cut p) i lti, size)

      within : suc (offset (cut p) i + m) < length p.instrs
      within = omega (arith, (leader_placed (suc i) lt).0, next)

      here : (placed p (suc (offset (cut p) i + m))).at ≡ leader_of (block (cut p) (suc i))
      here = ap (λ g. (placed p g).at) (sym next) ∙ sym (leader_placed (suc i) lt).1

      last_is : get_or (block (cut p) i) (length (block (cut p) i) - 1) no_placed ≡ placed p (offset (cut p) i + m)
      last_is = ap (λ k. get_or (block (cut p) i) k no_placed) (let one : length (block (cut p) i) - 1 ≡ m = omega (arith, size) in one) ∙ sym (in_block i m no_placed lti last)

      some : 0 < length (block (cut p) (suc i))
      some = (sized_block p p.instrs (suc i) lt).0

      first_is : get_or (block (cut p) (suc i)) 0 no_placed ≡ placed p (suc (offset (cut p) i + m))
      first_is = sym (in_block (suc i) 0 no_placed lt some) ∙ ap (placed p) (add-zero (offset (cut p) (suc i)) ∙ next)

      by_end : end_of (placed p (offset (cut p) i + m)) ≡ (placed p (suc (offset (cut p) i + m))).at → Cause p (placed p (suc (offset (cut p) i + m))).at
      by_end follows =
          ⊎_elim
          (λ t. cause_of_cut (offset (cut p) i + m) (omega (arith, within)) follows (subst (λ (v : Placed). is_cut p v (placed p (suc (offset (cut p) i + m))) ≡ true) last_is (subst (λ (w : Placed). is_cut p (get_or (block (cut p) i) (length (block (cut p) i) - 1) no_placed) w ≡ true) first_is t)))
          (λ full.
          let count : suc m ≡ 16 = sym size ∙ full in
          BehindSixteen (leader_of (block (cut p) i)) (subst (λ n. IsBlockOf p (leader_of (block (cut p) i)) n) full (is_block p i lti))
          (ap (place_after p (leader_of (block (cut p) i))) (sym count) ∙ address_behind i m lti last ∙ follows))
          (ended_block p no_placed p.instrs i lt)

  cause_at : (i : ℕ) → i < length (cut p) → Cause p (leader_of (block (cut p) i))
  cause_at zero lt = First ((leader_placed 0 lt).1 ∙ ap (λ g. (placed p g).at) (offset-zero (cut p)) ∙ first_at.1)
  cause_at (suc i) lt = by_count (length (block (cut p) i)) refl
    where
      by_count : (n : ℕ) → length (block (cut p) i) ≡ n → Cause p (leader_of (block (cut p) (suc i)))
      by_count zero size = absurd (omega (arith, size, (sized_block p p.instrs i (omega (arith, lt))).0))
      by_count (suc m) size = cause_behind i m lt size

  pub blocks_cut : BlocksCut p
  blocks_cut = record {
    sizes = λ a n h. let x = numbered p a n h in let s = sized_block p p.instrs x.number x.within in (omega (arith, s.0, x.count), omega (arith, s.1, x.count));
    straight = λ a n h. let x = numbered p a n h in subst (λ m. IsStraight p a m) x.count (subst (λ b. IsStraight p b (length (block (cut p) x.number))) x.leader (block_straight x.number x.within));
    has_leader = λ a n h. let x = numbered p a n h in subst (IsLeader p) x.leader (is_leader p x.number x.within);
    has_block = λ a h. let x = leads p a h in (length (block (cut p) x.0), subst (λ b. IsBlockOf p b (length (block (cut p) x.0))) x.2 (is_block p x.0 x.1));
    found = found;
    covers = covers;
    once = λ a n k b m j h ltk h' ltj same. once a n k b m j (numbered p a n h) ltk (numbered p b m h') ltj same;
    first = first;
    target = target;
    is_taken = is_taken;
    behind_end = behind_end;
    behind_gap = behind_gap;
    behind_block = λ a n h start. behind_block a n (numbered p a n h) start;
    cause = λ a h. let x = leads p a h in subst (Cause p) x.2 (cause_at x.0 x.1);
  }
