-- Instructions that are cut into blocks, by their places in the lists.
use Rattle.std.proofs.Common.{◌≡◌, ℕ, zero, suc, ◌+◌, ◌-◌, ◌<◌, ◌≤◌, Bool, true, false, cond, ◌||◌, List, [], ◌∷◌, ◌++◌, length, get_or, refl, sym, ap, subst, ◌∙◌, inl, inr, ◌⊎◌, ⊎_elim, arith, length-append, zero-add, add_assoc}
use Rattle.std.specs.Prelude.{◌==◌}
use Rattle.std.proofs.lemmas.Bool.{cases_lt, or_parts, or_cases, eqb-false, eqb-true}
use Rattle.std.proofs.lemmas.List.{get_or_append_left, get_or-append-add}
use Rattle.asm80_types.specs.declared.program.Placed.{Placed}
use Rattle.asm80_types.specs.Program.{Program}
use Rattle.flow.specs.Blocks.{is_cut, onto, cut_from, leader_of}

-- the blocks one after the other
abbrev pub flat : List (List Placed) → List Placed
flat [] = []
flat (b ∷ bs) = b ++ flat bs

flat-onto : (x : Placed) (bs : List (List Placed)) → flat (onto x bs) ≡ x ∷ flat bs
flat-onto x [] = refl
flat-onto x (b ∷ bs) = refl

flat_step : (t : Bool) (x : Placed) (xs : List Placed) (bs cs : List (List Placed)) → flat bs ≡ xs → flat cs ≡ xs → flat (cond t ((x ∷ []) ∷ bs) (onto x cs)) ≡ x ∷ xs
flat_step true x xs bs cs p q = ap (λ ys. x ∷ ys) p
flat_step false x xs bs cs p q = flat-onto x cs ∙ ap (λ ys. x ∷ ys) q

-- they are the instructions
pub flat-cut : (p : Program) (before : ℕ) (xs : List Placed) → flat (cut_from p before xs) ≡ xs
flat-cut p before [] = refl
flat-cut p before (x ∷ []) = refl
flat-cut p before (x ∷ (y ∷ ys)) =
    flat_step (is_cut p x y || (suc before == 16)) x (y ∷ ys) (cut_from p 0 (y ∷ ys)) (cut_from p (suc before) (y ∷ ys)) (flat-cut p 0 (y ∷ ys)) (flat-cut p (suc before) (y ∷ ys))

-- the number of instructions in the blocks before one
abbrev pub offset : List (List Placed) → ℕ → ℕ
offset [] i = 0
offset (b ∷ bs) zero = 0
offset (b ∷ bs) (suc i) = length b + offset bs i

abbrev pub block : List (List Placed) → ℕ → List Placed
block bs i = get_or bs i []

pub within_flat : (bs : List (List Placed)) (i k : ℕ) → i < length bs → k < length (block bs i) → offset bs i + k < length (flat bs)
within_flat [] i k lti ltk = absurd (omega arith)
within_flat (b ∷ bs) zero k lti ltk = omega (arith, ltk, length-append b (flat bs))
within_flat (b ∷ bs) (suc i) k lti ltk = omega (arith, within_flat bs i k (omega arith) ltk, length-append b (flat bs))

pub at_flat : (bs : List (List Placed)) (i k : ℕ) (d : Placed) → i < length bs → k < length (block bs i) → get_or (flat bs) (offset bs i + k) d ≡ get_or (block bs i) k d
at_flat [] i k d lti ltk = absurd (omega arith)
at_flat (b ∷ bs) zero k d lti ltk = ap (λ n. get_or (b ++ flat bs) n d) (zero-add k) ∙ get_or_append_left b (flat bs) d k ltk
at_flat (b ∷ bs) (suc i) k d lti ltk =
    ap (λ n. get_or (b ++ flat bs) n d) (add_assoc (length b) (offset bs i) k)
    ∙ get_or-append-add b (flat bs) (offset bs i + k) d
    ∙ at_flat bs i k d (omega arith) ltk

-- each place among the instructions is one of one block
pub record Located (bs : List (List Placed)) (g : ℕ) : Type 0 where
  pub at : ℕ
  pub place : ℕ
  pub within : at < length bs
  pub inside : place < length (block bs at)
  pub sum : offset bs at + place ≡ g

pub locate : (bs : List (List Placed)) (g : ℕ) → g < length (flat bs) → Located bs g
locate [] g lt = absurd (omega arith)
locate (b ∷ bs) g lt =
    ⊎_elim
    (λ here. record { at = 0; place = g; within = omega arith; inside = here; sum = zero-add g })
    (λ past.
    let later = locate bs (g - length b) (omega (arith, lt, past, length-append b (flat bs))) in
    record { at = suc later.at; place = later.place; within = omega (arith, later.within); inside = later.inside; sum = omega (arith, later.sum, past) })
    (cases_lt g (length b))

pub one_location : (bs : List (List Placed)) (i k j m : ℕ) → i < length bs → k < length (block bs i) → j < length bs → m < length (block bs j) → offset bs i + k ≡ offset bs j + m → (i ≡ j) × (k ≡ m)
one_location [] i k j m lti ltk ltj ltm same = absurd (omega arith)
one_location (b ∷ bs) zero k zero m lti ltk ltj ltm same = (refl, omega arith)
one_location (b ∷ bs) zero k (suc j) m lti ltk ltj ltm same = absurd (omega (arith, ltk, same))
one_location (b ∷ bs) (suc i) k zero m lti ltk ltj ltm same = absurd (omega (arith, ltm, same))
one_location (b ∷ bs) (suc i) k (suc j) m lti ltk ltj ltm same =
    let rest = one_location bs i k j m (omega arith) ltk (omega arith) ltm (omega (arith, same)) in
    (ap suc rest.0, rest.1)

pub offset-rises : (bs : List (List Placed)) (i j : ℕ) → i ≤ j → offset bs i ≤ offset bs j
offset-rises [] i j le = omega arith
offset-rises (b ∷ bs) zero j le = omega arith
offset-rises (b ∷ bs) (suc i) zero le = absurd (omega arith)
offset-rises (b ∷ bs) (suc i) (suc j) le = omega (arith, offset-rises bs i j (omega arith))

-- the block behind another begins where that one ends, if instructions are left
pub next_block : (bs : List (List Placed)) (i : ℕ) → i < length bs → offset bs (suc i) ≡ offset bs i + length (block bs i)
next_block [] i lt = absurd (omega arith)
next_block (b ∷ []) zero lt = omega arith
next_block (b ∷ (c ∷ cs)) zero lt = omega arith
next_block (b ∷ bs) (suc i) lt = omega (arith, next_block bs i (omega arith))

-- within a block no cut stands between two
abbrev pub Joined : Program → List Placed → Type 0
Joined p [] = Unit {0}
Joined p (x ∷ []) = Unit {0}
Joined p (x ∷ (y ∷ ys)) = (is_cut p x y ≡ false) × Joined p (y ∷ ys)

-- the first of the first block, where so many stand before it in the block
abbrev BeginsWith : Placed → List (List Placed) → Type 0
BeginsWith y [] = ⊥
BeginsWith y ([] ∷ bs) = ⊥
BeginsWith y ((x ∷ xs) ∷ bs) = y ≡ x

begins-onto : (x : Placed) (bs : List (List Placed)) → BeginsWith x (onto x bs)
begins-onto x [] = refl
begins-onto x (b ∷ bs) = refl

begins_step : (t : Bool) (x : Placed) (bs cs : List (List Placed)) → BeginsWith x (cond t ((x ∷ []) ∷ bs) (onto x cs))
begins_step true x bs cs = refl
begins_step false x bs cs = begins-onto x cs

begins_cut : (p : Program) (before : ℕ) (x : Placed) (xs : List Placed) → BeginsWith x (cut_from p before (x ∷ xs))
begins_cut p before x [] = refl
begins_cut p before x (y ∷ ys) = begins_step (is_cut p x y || (suc before == 16)) x (cut_from p 0 (y ∷ ys)) (cut_from p (suc before) (y ∷ ys))

abbrev AllJoined : Program → List (List Placed) → Type 0
AllJoined p [] = Unit {0}
AllJoined p (b ∷ bs) = Joined p b × AllJoined p bs

joined-onto : (p : Program) (x y : Placed) (bs : List (List Placed)) → is_cut p x y ≡ false → BeginsWith y bs → AllJoined p bs → AllJoined p (onto x bs)
joined-onto p x y [] uncut begins all = (tt, tt)
joined-onto p x y ([] ∷ bs) uncut begins all = absurd begins
joined-onto p x y ((z ∷ zs) ∷ bs) uncut begins all = ((subst (λ w. is_cut p x w ≡ false) begins uncut, all.0), all.1)

joined_step : (p : Program) (t : Bool) (x y : Placed) (bs cs : List (List Placed)) → (t ≡ false → is_cut p x y ≡ false) → BeginsWith y cs → AllJoined p bs → AllJoined p cs → AllJoined p (cond t ((x ∷ []) ∷ bs) (onto x cs))
joined_step p true x y bs cs uncut begins all all' = (tt, all)
joined_step p false x y bs cs uncut begins all all' = joined-onto p x y cs (uncut refl) begins all'

joined_cut : (p : Program) (before : ℕ) (xs : List Placed) → AllJoined p (cut_from p before xs)
joined_cut p before [] = tt
joined_cut p before (x ∷ []) = (tt, tt)
joined_cut p before (x ∷ (y ∷ ys)) =
    joined_step p (is_cut p x y || (suc before == 16)) x y (cut_from p 0 (y ∷ ys)) (cut_from p (suc before) (y ∷ ys))
    (λ e. (or_parts (is_cut p x y) (suc before == 16) e).0) (begins_cut p (suc before) y ys) (joined_cut p 0 (y ∷ ys)) (joined_cut p (suc before) (y ∷ ys))

joined_at : (p : Program) (bs : List (List Placed)) (i : ℕ) → AllJoined p bs → Joined p (block bs i)
joined_at p [] i all = tt
joined_at p (b ∷ bs) zero all = all.0
joined_at p (b ∷ bs) (suc i) all = joined_at p bs i all.1

pub joined_block : (p : Program) (before : ℕ) (xs : List Placed) (i : ℕ) → Joined p (block (cut_from p before xs) i)
joined_block p before xs i = joined_at p (cut_from p before xs) i (joined_cut p before xs)

pub uncut_inside : (p : Program) (b : List Placed) (k : ℕ) (d : Placed) → Joined p b → suc k < length b → is_cut p (get_or b k d) (get_or b (suc k) d) ≡ false
uncut_inside p [] k d j lt = absurd (omega arith)
uncut_inside p (x ∷ []) k d j lt = absurd (omega arith)
uncut_inside p (x ∷ (y ∷ ys)) zero d j lt = j.0
uncut_inside p (x ∷ (y ∷ ys)) (suc k) d j lt = uncut_inside p (y ∷ ys) k d j.1 (omega arith)

-- blocks have 1 to 16 instructions, those that stand before the first one counted
abbrev Sized : ℕ → List (List Placed) → Type 0
Sized before [] = Unit {0}
Sized before (b ∷ bs) = (1 ≤ length b) × (before + length b ≤ 16) × Sized 0 bs

sized-onto : (before : ℕ) (x : Placed) (bs : List (List Placed)) → suc before ≤ 16 → Sized (suc before) bs → Sized before (onto x bs)
sized-onto before x [] lt s = (omega arith, omega arith, tt)
sized-onto before x (b ∷ bs) lt s = (omega arith, omega (arith, s.1), s.2)

sized_step : (t : Bool) (before : ℕ) (x : Placed) (bs cs : List (List Placed)) → before < 16 → Sized 0 bs → (t ≡ false → Sized (suc before) cs) → Sized before (cond t ((x ∷ []) ∷ bs) (onto x cs))
sized_step true before x bs cs lt s s' = (omega arith, omega arith, s)
sized_step false before x bs cs lt s s' = sized-onto before x cs (omega arith) (s' refl)

sized_cut : (p : Program) (before : ℕ) (xs : List Placed) → before < 16 → Sized before (cut_from p before xs)
sized_cut p before [] lt = tt
sized_cut p before (x ∷ []) lt = (omega arith, omega arith, tt)
sized_cut p before (x ∷ (y ∷ ys)) lt =
    sized_step (is_cut p x y || (suc before == 16)) before x (cut_from p 0 (y ∷ ys)) (cut_from p (suc before) (y ∷ ys)) lt (sized_cut p 0 (y ∷ ys) (omega arith))
    (λ e.
    let other = eqb-false (suc before) 16 (or_parts (is_cut p x y) (suc before == 16) e).1 in
    let below : suc before < 16 = ⊎_elim (λ h. h) (λ ge. absurd (other (omega (arith, ge, lt)))) (cases_lt (suc before) 16) in
    sized_cut p (suc before) (y ∷ ys) below)

sized_at : (before : ℕ) (bs : List (List Placed)) (i : ℕ) → Sized before bs → i < length bs → (1 ≤ length (block bs i)) × (length (block bs i) ≤ 16)
sized_at before [] i s lt = absurd (omega arith)
sized_at before (b ∷ bs) zero s lt = (s.0, omega (arith, s.1))
sized_at before (b ∷ bs) (suc i) s lt = sized_at 0 bs i s.2 (omega arith)

pub sized_block : (p : Program) (xs : List Placed) (i : ℕ) → i < length (cut_from p 0 xs) → (1 ≤ length (block (cut_from p 0 xs) i)) × (length (block (cut_from p 0 xs) i) ≤ 16)
sized_block p xs i lt = sized_at 0 (cut_from p 0 xs) i (sized_cut p 0 xs (omega arith)) lt

pub leader-first : (b : List Placed) (d : Placed) → 1 ≤ length b → leader_of b ≡ (get_or b 0 d).at
leader-first [] d lt = absurd (omega arith)
leader-first (x ∷ xs) d lt = refl

-- between two blocks a cut stands, or the first has sixteen instructions, those before its first one counted
abbrev pub CutBetween : Program → Placed → List Placed → List Placed → Type 0
CutBetween p d b c = is_cut p (get_or b (length b - 1) d) (get_or c 0 d) ≡ true

abbrev Ended : Program → Placed → ℕ → List (List Placed) → Type 0
Ended p d before [] = Unit {0}
Ended p d before (b ∷ []) = Unit {0}
Ended p d before (b ∷ (c ∷ cs)) = (CutBetween p d b c ⊎ (before + length b ≡ 16)) × Ended p d 0 (c ∷ cs)

last-cons : (x z d : Placed) (zs : List Placed) → get_or (x ∷ (z ∷ zs)) (length (x ∷ (z ∷ zs)) - 1) d ≡ get_or (z ∷ zs) (length (z ∷ zs) - 1) d
last-cons x z d zs = ap (λ n. get_or (x ∷ (z ∷ zs)) n d) (let place : length (x ∷ (z ∷ zs)) - 1 ≡ suc (length (z ∷ zs) - 1) = omega arith in place)

ended-onto : (p : Program) (d : Placed) (before : ℕ) (x y : Placed) (bs : List (List Placed)) → BeginsWith y bs → Ended p d (suc before) bs → Ended p d before (onto x bs)
ended-onto p d before x y [] begins e = absurd begins
ended-onto p d before x y (b ∷ []) begins e = tt
ended-onto p d before x y ([] ∷ (c ∷ cs)) begins e = absurd begins
ended-onto p d before x y ((z ∷ zs) ∷ (c ∷ cs)) begins e = (⊎_elim (λ cut. inl (subst (λ (w : Placed). is_cut p w (get_or c 0 d) ≡ true) (sym (last-cons x z d zs)) cut)) (λ full. inr (omega (arith, full))) e.0, e.1)

ended_alone : (p : Program) (d : Placed) (before : ℕ) (x y : Placed) (bs : List (List Placed)) → (is_cut p x y || (suc before == 16)) ≡ true → BeginsWith y bs → Ended p d 0 bs → Ended p d before ((x ∷ []) ∷ bs)
ended_alone p d before x y [] t begins e = tt
ended_alone p d before x y ([] ∷ bs) t begins e = absurd begins
ended_alone p d before x y ((z ∷ zs) ∷ bs) t begins e =
    (⊎_elim (λ cut. inl (subst (λ w. is_cut p x w ≡ true) begins cut)) (λ full. inr (omega (arith, eqb-true (suc before) 16 full))) (or_cases (is_cut p x y) (suc before == 16) t), e)

ended_step : (p : Program) (d : Placed) (t : Bool) (before : ℕ) (x y : Placed) (bs cs : List (List Placed)) → (is_cut p x y || (suc before == 16)) ≡ t → BeginsWith y bs → BeginsWith y cs → Ended p d 0 bs → Ended p d (suc before) cs → Ended p d before (cond t ((x ∷ []) ∷ bs) (onto x cs))
ended_step p d true before x y bs cs t begins begins' e e' = ended_alone p d before x y bs t begins e
ended_step p d false before x y bs cs t begins begins' e e' = ended-onto p d before x y cs begins' e'

ended_cut : (p : Program) (d : Placed) (before : ℕ) (xs : List Placed) → Ended p d before (cut_from p before xs)
ended_cut p d before [] = tt
ended_cut p d before (x ∷ []) = tt
ended_cut p d before (x ∷ (y ∷ ys)) =
    ended_step p d (is_cut p x y || (suc before == 16)) before x y (cut_from p 0 (y ∷ ys)) (cut_from p (suc before) (y ∷ ys)) refl
    (begins_cut p 0 y ys) (begins_cut p (suc before) y ys) (ended_cut p d 0 (y ∷ ys)) (ended_cut p d (suc before) (y ∷ ys))

ended_at : (p : Program) (d : Placed) (bs : List (List Placed)) (i : ℕ) → Ended p d 0 bs → suc i < length bs → CutBetween p d (block bs i) (block bs (suc i)) ⊎ (length (block bs i) ≡ 16)
ended_at p d [] i e lt = absurd (omega arith)
ended_at p d (b ∷ []) i e lt = absurd (omega arith)
ended_at p d (b ∷ (c ∷ cs)) zero e lt = ⊎_elim (λ cut. inl cut) (λ full. inr (omega (arith, full))) e.0
ended_at p d (b ∷ (c ∷ cs)) (suc i) e lt = ended_at p d (c ∷ cs) i e.1 (omega arith)

pub ended_block : (p : Program) (d : Placed) (xs : List Placed) (i : ℕ) → suc i < length (cut_from p 0 xs) → CutBetween p d (block (cut_from p 0 xs) i) (block (cut_from p 0 xs) (suc i)) ⊎ (length (block (cut_from p 0 xs) i) ≡ 16)
ended_block p d xs i lt = ended_at p d (cut_from p 0 xs) i (ended_cut p d 0 xs) lt

pub offset-zero : (bs : List (List Placed)) → offset bs 0 ≡ 0
offset-zero [] = refl
offset-zero (b ∷ bs) = refl
