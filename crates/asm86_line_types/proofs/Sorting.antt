-- Cells put to their places one after the other.
use Rattle.std.proofs.Common.{◌≡◌, ℕ, ◌+◌, ◌<◌, ◌==◌, nat_lt, nat_le, ◌&&◌, ◌||◌, Bool, true, false, not, ◌%◌, ◌/◌, List, [], ◌∷◌, ◌++◌, refl, sym, ap, subst, ◌∙◌, append_assoc, true≢false, arith}
use Rattle.std.specs.List.{fold, list_any, AllByRecursion}
use Rattle.std.specs.List.Sorted.{IsStrictlySortedBy, IsPermutation}
use Rattle.std.specs.Map.{keys_of}
use Rattle.std.specs.Ordering.{nat_cmp, MatchOrdering, match_ordering}
use Rattle.std.specs.declared.cmp.Ordering.{Ordering}
use Rattle.std.specs.declared.cmp.Ordering.TheVariants.{Less, Equal, Greater}
use Rattle.std.proofs.lemmas.Bool.{eq-eqb, and_parts, or_parts, not-true}
use Rattle.std.proofs.lemmas.Bool.Decides.{nat_tests}
use Rattle.std.proofs.lemmas.Cmp.{ranked}
use Rattle.std.proofs.lemmas.List.Sorted.{IsPermutation-refl, IsPermutation-sym, IsPermutation-trans, IsPermutation-cons, IsPermutation-middle, IsPermutation-append_right, list_any-IsPermutation}
use Rattle.std.proofs.lemmas.Map.Keys.{sorted_head, sorted_tail, sorted_from_strictly_increasing, IsStrictlyIncreasing-from_sorted}
use Rattle.asm86_line_types.specs.declared.line.Label.{Label}
use Rattle.asm86_line_types.specs.declared.line.Value16.TheVariants.{Num, Offset}
use Rattle.asm86_line_types.specs.declared.line.Stmt86.{Stmt86}
use Rattle.asm86_line_types.specs.declared.line.Stmt86.TheVariants.{Cseg, Dseg, Org, Rb, Db, Dw, Mark, Run, MovOffset, Jmp, Jmps, Jcc, Call, EndText}
use Rattle.asm86_line_types.specs.Order.{Reading, at_start, in_data, is_free_cell, may_stand, reading_after, ends_text, has_no_statement, in_order}
use Rattle.asm86_line_types.specs.Image.{put_cell, by_address, cells_from}
use Rattle.asm86_line_types.specs.Cells.{CellsAreSorted, AscendingStay}

-- each address is above this one, and each is below those behind it
abbrev Above : ℕ → List (ℕ × ℕ) → Type 0
Above k [] = Unit {0}
Above k (c ∷ cs) = (k < c.0) × Above k cs

abbrev Rising : List (ℕ × ℕ) → Type 0
Rising [] = Unit {0}
Rising (c ∷ cs) = Above c.0 cs × Rising cs

above_more : (j k : ℕ) (cs : List (ℕ × ℕ)) → j < k → Above k cs → Above j cs
above_more j k [] lt h = tt
above_more j k (c ∷ cs) lt h = let first = h.0 in (omega (arith, first), above_more j k cs lt h.1)

above_step : (k : ℕ) (c e : ℕ × ℕ) (es put : List (ℕ × ℕ)) (r : Ordering) → k < c.0 → k < e.0 → Above k es → Above k put → Above k (match_ordering r (c ∷ (e ∷ es)) ((e.0, c.1) ∷ es) (e ∷ put))
above_step k c e es put Less a b h p = (a, (b, h))
above_step k c e es put Equal a b h p = (b, h)
above_step k c e es put Greater a b h p = (b, p)

above_put : (k : ℕ) (es : List (ℕ × ℕ)) (c : ℕ × ℕ) → k < c.0 → Above k es → Above k (put_cell es c)
above_put k [] c a h = (a, tt)
above_put k (e ∷ es) c a h = above_step k c e es (put_cell es c) (nat_cmp c.0 e.0) a h.0 h.1 (above_put k es c a h.1)

rising_step : (c e : ℕ × ℕ) (es put : List (ℕ × ℕ)) (r : Ordering) → MatchOrdering r (c.0 < e.0) (c.0 ≡ e.0) (e.0 < c.0) → Above e.0 es → Rising es → (e.0 < c.0 → Above e.0 put) → Rising put → Rising (match_ordering r (c ∷ (e ∷ es)) ((e.0, c.1) ∷ es) (e ∷ put))
rising_step c e es put Less m a h b p = ((m, above_more c.0 e.0 es m a), (a, h))
rising_step c e es put Equal m a h b p = (a, h)
rising_step c e es put Greater m a h b p = (b m, p)

rising_put : (es : List (ℕ × ℕ)) (c : ℕ × ℕ) → Rising es → Rising (put_cell es c)
rising_put [] c h = (tt, tt)
rising_put (e ∷ es) c h =
    rising_step c e es (put_cell es c) (nat_cmp c.0 e.0) (ranked c.0 e.0 (nat_cmp c.0 e.0) refl) h.0 h.1 (λ lt. above_put e.0 es c lt h.0) (rising_put es c h.1)

rising_fold : (done cs : List (ℕ × ℕ)) → Rising done → Rising (fold put_cell done cs)
rising_fold done [] h = h
rising_fold done (c ∷ cs) h = rising_fold (put_cell done c) cs (rising_put done c h)

-- in the words of the library
is_less : (a b : ℕ) → a < b → nat_cmp a b ≡ Less
is_less a b lt = grind (arith, nat_tests)

is_greater : (a b : ℕ) → b < a → nat_cmp a b ≡ Greater
is_greater a b lt = grind (arith, nat_tests)

above_less : (k : ℕ) (cs : List (ℕ × ℕ)) → Above k cs → AllByRecursion (λ y. nat_cmp k y ≡ Less) (keys_of cs)
above_less k [] h = tt
above_less k (c ∷ cs) h = (is_less k c.0 h.0, above_less k cs h.1)

rising_sorted : (cs : List (ℕ × ℕ)) → Rising cs → IsStrictlySortedBy nat_cmp (keys_of cs)
unfolding IsStrictlySortedBy
rising_sorted [] h = tt
rising_sorted (c ∷ cs) h = (above_less c.0 cs h.0, rising_sorted cs h.1)

less_below : (a b : ℕ) → nat_cmp a b ≡ Less → a < b
less_below a b e = let m = ranked a b Less (sym e) in m

less_above : (k : ℕ) (cs : List (ℕ × ℕ)) → AllByRecursion (λ y. nat_cmp k y ≡ Less) (keys_of cs) → Above k cs
less_above k [] h = tt
less_above k (c ∷ cs) h = (less_below k c.0 h.0, less_above k cs h.1)

sorted_rising : (cs : List (ℕ × ℕ)) → IsStrictlySortedBy nat_cmp (keys_of cs) → Rising cs
sorted_rising [] h = tt
sorted_rising (c ∷ cs) h = (less_above c.0 cs (sorted_head nat_cmp c.0 (keys_of cs) h), sorted_rising cs (sorted_tail nat_cmp c.0 (keys_of cs) h))

-- cells that ascend stay
above_at : (k : ℕ) (es : List (ℕ × ℕ)) (c : ℕ × ℕ) (rest : List (ℕ × ℕ)) → Above k (es ++ (c ∷ rest)) → k < c.0
above_at k [] c rest h = h.0
above_at k (e ∷ es) c rest h = above_at k es c rest h.1

put_last : (done : List (ℕ × ℕ)) (c : ℕ × ℕ) (rest : List (ℕ × ℕ)) → Rising (done ++ (c ∷ rest)) → put_cell done c ≡ done ++ c ∷ []
put_last [] c rest h = refl
put_last (e ∷ es) c rest h =
    ap (λ r. match_ordering r (c ∷ (e ∷ es)) ((e.0, c.1) ∷ es) (e ∷ put_cell es c)) (is_greater c.0 e.0 (above_at e.0 es c rest h.0))
    ∙ ap (λ cs. e ∷ cs) (put_last es c rest h.1)

stay_from : (done cs : List (ℕ × ℕ)) → Rising (done ++ cs) → fold put_cell done cs ≡ done ++ cs
stay_from done [] h = append_nothing done
  where
    append_nothing : (xs : List (ℕ × ℕ)) → xs ≡ xs ++ []
    append_nothing [] = refl
    append_nothing (y ∷ ys) = ap (λ zs. y ∷ zs) (append_nothing ys)
stay_from done (c ∷ cs) h =
    let e = append_assoc done (c ∷ []) cs in
    ap (λ ds. fold put_cell ds cs) (put_last done c cs h)
    ∙ stay_from (done ++ c ∷ []) cs (subst Rising (sym e) h)
    ∙ e

pub ascending_stay : AscendingStay
ascending_stay cells h = stay_from [] cells (sorted_rising cells (sorted_from_strictly_increasing (keys_of cells) h))

-- a cell at an address that is not there is one more
abbrev has : List (ℕ × ℕ) → ℕ → Bool
has cells a = list_any (λ c. c.0 == a) cells

one_more_step : (c e : ℕ × ℕ) (es put : List (ℕ × ℕ)) (r : Ordering) → MatchOrdering r (c.0 < e.0) (c.0 ≡ e.0) (e.0 < c.0) → (e.0 == c.0) ≡ false → IsPermutation (c ∷ es) put → IsPermutation (c ∷ (e ∷ es)) (match_ordering r (c ∷ (e ∷ es)) ((e.0, c.1) ∷ es) (e ∷ put))
one_more_step c e es put Less m n p = IsPermutation-refl (c ∷ (e ∷ es))
one_more_step c e es put Equal m n p = absurd (true≢false (sym (eq-eqb e.0 c.0 (sym m)) ∙ n))
one_more_step c e es put Greater m n p =
    IsPermutation-trans (c ∷ (e ∷ es)) (e ∷ (c ∷ es)) (e ∷ put)
    (IsPermutation-sym (e ∷ (c ∷ es)) (c ∷ (e ∷ es)) (IsPermutation-middle (e ∷ []) c es))
    (IsPermutation-cons e (c ∷ es) put p)

one_more : (es : List (ℕ × ℕ)) (c : ℕ × ℕ) → has es c.0 ≡ false → IsPermutation (c ∷ es) (put_cell es c)
one_more [] c h = IsPermutation-refl (c ∷ [])
one_more (e ∷ es) c h =
    let apart = or_parts (e.0 == c.0) (has es c.0) h in
    one_more_step c e es (put_cell es c) (nat_cmp c.0 e.0) (ranked c.0 e.0 (nat_cmp c.0 e.0) refl) apart.0 (one_more es c apart.1)

has_put : (es : List (ℕ × ℕ)) (c : ℕ × ℕ) (a : ℕ) → has es c.0 ≡ false → has (put_cell es c) a ≡ ((c.0 == a) || has es a)
has_put es c a h = sym (list_any-IsPermutation (λ (d : ℕ × ℕ). d.0 == a) (c ∷ es) (put_cell es c) (one_more es c h))

-- each cell comes to an address that is not there
abbrev Fresh : List (ℕ × ℕ) → List (ℕ × ℕ) → Type 0
Fresh done [] = Unit {0}
Fresh done (c ∷ cs) = (has done c.0 ≡ false) × Fresh (put_cell done c) cs

same_cells : (done cs : List (ℕ × ℕ)) → Fresh done cs → IsPermutation (cs ++ done) (fold put_cell done cs)
same_cells done [] h = IsPermutation-refl done
same_cells done (c ∷ cs) h =
    IsPermutation-trans (c ∷ (cs ++ done)) (cs ++ (c ∷ done)) (fold put_cell (put_cell done c) cs)
    (IsPermutation-sym (cs ++ (c ∷ done)) (c ∷ (cs ++ done)) (IsPermutation-middle cs c done))
    (IsPermutation-trans (cs ++ (c ∷ done)) (cs ++ put_cell done c) (fold put_cell (put_cell done c) cs)
    (IsPermutation-append_right cs (c ∷ done) (put_cell done c) (one_more done c h.0))
    (same_cells (put_cell done c) cs h.1))

-- the cells that are there are those that the reading counts as filled
abbrev Counts : Reading → List (ℕ × ℕ) → Type 0
Counts r done = (a : ℕ) → has done a ≡ list_any (λ b. b == a) r.filled

free : (r : Reading) (a : ℕ) (done : List (ℕ × ℕ)) → Counts r done → is_free_cell r a ≡ true → has done a ≡ false
free r a done counts h =
    let inner = and_parts (nat_le 0x100 a) (nat_lt a 0x10000 && not (list_any (λ b. b == a) r.filled)) h in
    let last = and_parts (nat_lt a 0x10000) (not (list_any (λ b. b == a) r.filled)) inner.1 in
    counts a ∙ not-true (list_any (λ b. b == a) r.filled) last.1

pub rest_stands : (r : Reading) (x : Stmt86) (xs : List Stmt86) → in_order r (x ∷ xs) ≡ true → (may_stand r x ≡ true) × (in_order (reading_after r x) xs ≡ true)
rest_stands r x xs h =
    let first = and_parts (may_stand r x) ((not (ends_text x) || has_no_statement xs) && in_order (reading_after r x) xs) h in
    (first.0, (and_parts (not (ends_text x) || has_no_statement xs) (in_order (reading_after r x) xs) first.1).1)

pub or_swap : (a b c : Bool) → (a || (b || c)) ≡ (b || (a || c))
or_swap true true c = refl
or_swap true false c = refl
or_swap false true c = refl
or_swap false false c = refl

next_differs : (a : ℕ) → (a == a + 1) ≡ false
next_differs a = grind (arith, nat_tests)

-- two cells, one behind the other
two_fresh : (r : Reading) (done : List (ℕ × ℕ)) (low high : ℕ) (rest : List (ℕ × ℕ)) → Counts r done → is_free_cell r r.at ≡ true → is_free_cell r (r.at + 1) ≡ true
    → (((a : ℕ) → has (put_cell (put_cell done (r.at, low)) (r.at + 1, high)) a ≡ ((r.at == a) || ((r.at + 1 == a) || list_any (λ b. b == a) r.filled))) → Fresh (put_cell (put_cell done (r.at, low)) (r.at + 1, high)) rest)
    → Fresh done ((r.at, low) ∷ ((r.at + 1, high) ∷ rest))
two_fresh r done low high rest counts here there more =
    let first : has done r.at ≡ false = free r r.at done counts here in
    let second : has (put_cell done (r.at, low)) (r.at + 1) ≡ false =
    has_put done (r.at, low) (r.at + 1) first
    ∙ ap (λ b. b || has done (r.at + 1)) (next_differs r.at)
    ∙ free r (r.at + 1) done counts there
    in (
      first,
      (
        second,
        more (λ a.
            has_put (put_cell done (r.at, low)) (r.at + 1, high) a second
            ∙ ap (λ b. (r.at + 1 == a) || b) (has_put done (r.at, low) a first ∙ ap (λ b. (r.at == a) || b) (counts a))
            ∙ or_swap (r.at + 1 == a) (r.at == a) (list_any (λ b. b == a) r.filled)),
      ),
    )

fresh_cells : (off : Label → ℕ) (r : Reading) (done : List (ℕ × ℕ)) (xs : List Stmt86) → Counts r done → in_order r xs ≡ true → Fresh done (cells_from off r.at xs)
fresh_cells off r done [] counts h = tt
fresh_cells off r done (Cseg ∷ xs) counts h = fresh_cells off (reading_after r Cseg) done xs counts (rest_stands r Cseg xs h).1
fresh_cells off r done (Dseg ∷ xs) counts h = fresh_cells off (reading_after r Dseg) done xs counts (rest_stands r Dseg xs h).1
fresh_cells off r done (Org w ∷ xs) counts h = fresh_cells off (reading_after r (Org w)) done xs counts (rest_stands r (Org w) xs h).1
fresh_cells off r done (Rb w ∷ xs) counts h = fresh_cells off (reading_after r (Rb w)) done xs counts (rest_stands r (Rb w) xs h).1
fresh_cells off r done (Db n ∷ xs) counts h =
    let s = rest_stands r (Db n) xs h in
    let first = free r r.at done counts (and_parts (in_data r.group) (is_free_cell r r.at) s.0).1 in
    (first, fresh_cells off (reading_after r (Db n)) (put_cell done (r.at, n)) xs (λ a. has_put done (r.at, n) a first ∙ ap (λ b. (r.at == a) || b) (counts a)) s.1)
fresh_cells off r done (Dw (Num w) ∷ xs) counts h =
    let s = rest_stands r (Dw (Num w)) xs h in
    let f = and_parts (is_free_cell r r.at) (is_free_cell r (r.at + 1)) (and_parts (in_data r.group) (is_free_cell r r.at && is_free_cell r (r.at + 1)) s.0).1 in
    two_fresh r done (w % 256) (w / 256) (cells_from off (r.at + 2) xs) counts f.0 f.1 (λ more. fresh_cells off (reading_after r (Dw (Num w))) (put_cell (put_cell done (r.at, w % 256)) (r.at + 1, w / 256)) xs more s.1)
fresh_cells off r done (Dw (Offset l) ∷ xs) counts h =
    let s = rest_stands r (Dw (Offset l)) xs h in
    let f = and_parts (is_free_cell r r.at) (is_free_cell r (r.at + 1)) (and_parts (in_data r.group) (is_free_cell r r.at && is_free_cell r (r.at + 1)) s.0).1 in
    two_fresh r done (off l % 256) (off l / 256) (cells_from off (r.at + 2) xs) counts f.0 f.1 (λ more. fresh_cells off (reading_after r (Dw (Offset l))) (put_cell (put_cell done (r.at, off l % 256)) (r.at + 1, off l / 256)) xs more s.1)
fresh_cells off r done (Mark l ∷ xs) counts h = fresh_cells off r done xs counts (rest_stands r (Mark l) xs h).1
fresh_cells off r done (Run i ∷ xs) counts h = fresh_cells off r done xs counts (rest_stands r (Run i) xs h).1
fresh_cells off r done (MovOffset q l ∷ xs) counts h = fresh_cells off r done xs counts (rest_stands r (MovOffset q l) xs h).1
fresh_cells off r done (Jmp l ∷ xs) counts h = fresh_cells off r done xs counts (rest_stands r (Jmp l) xs h).1
fresh_cells off r done (Jmps l ∷ xs) counts h = fresh_cells off r done xs counts (rest_stands r (Jmps l) xs h).1
fresh_cells off r done (Jcc j l ∷ xs) counts h = fresh_cells off r done xs counts (rest_stands r (Jcc j l) xs h).1
fresh_cells off r done (Call l ∷ xs) counts h = fresh_cells off r done xs counts (rest_stands r (Call l) xs h).1
fresh_cells off r done (EndText ∷ xs) counts h = fresh_cells off r done xs counts (rest_stands r EndText xs h).1

pub cells_are_sorted : CellsAreSorted
cells_are_sorted off xs h =
    let cells = cells_from off 0 xs in
    let rising = rising_fold [] cells tt in
    let same = same_cells [] cells (fresh_cells off at_start [] xs (λ a. refl) h) in (
      IsStrictlyIncreasing-from_sorted (keys_of (by_address cells)) (rising_sorted (by_address cells) rising),
      subst (λ zs. IsPermutation zs (by_address cells)) (append_nothing cells) same,
    )
  where
    append_nothing : (zs : List (ℕ × ℕ)) → zs ++ [] ≡ zs
    append_nothing [] = refl
    append_nothing (y ∷ ys) = ap (λ ws. y ∷ ws) (append_nothing ys)
