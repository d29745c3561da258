-- Two texts of which the one has some conditional jumps short that the other has long: between two places the one has at most the
-- bytes of the other.
use Rattle.std.proofs.Common.{◌≡◌, ℕ, ◌+◌, ◌≤◌, List, [], ◌∷◌, ◌++◌, Option, Some, None, refl, sym, ap, ◌∙◌, subst, arith, append_assoc, Bool, true, false, cond}
use Rattle.std.specs.Prelude.{is_some, unwrap_or}
use Rattle.std.proofs.lemmas.Bool.Decides.{nat_tests}
use Rattle.std.proofs.lemmas.Bool.{eq-eqb, false≢true}
use Rattle.i80.specs.declared.Goal.{Goal}
use Rattle.i80.specs.declared.Goal.TheVariants.{At, Boot, Bdos}
use Rattle.i86.specs.declared.Jump.{Jump}
use Rattle.asm86_line_types.specs.declared.line.Label.{Label}
use Rattle.asm86_line_types.specs.declared.line.Label.TheVariants.{Skip}
use Rattle.asm86_line_types.specs.declared.line.Stmt86.{Stmt86}
use Rattle.asm86_line_types.specs.declared.line.Stmt86.TheVariants.{Mark, Jmp, Jcc}
use Rattle.asm86_line_types.specs.Layout.{size_of, sizes_of, marks, same_label, offset_from, offset_of, place_of}
use Rattle.asm86_line_types.specs.Image.{count_marks, IsDefinedOnce, jump_reaches as reaches_86}
use Rattle.asm86_line_types.proofs.Sizes.{sizes_of-append, count_marks-append}
use Rattle.asm86_line_types.proofs.Statements.{Each, MarksNot, offset_past, uncounted}
use Rattle.templates.specs.Template.{label_of_goal}
use Rattle.templates.specs.Lean.{may_be_short}
use Rattle.templates_law.specs.Text.Reach.{ShortenedReach}
use Rattle.asm86.proofs.Texts.{absent}
use Rattle.templates_law.proofs.Text.Jumps.{IsLong, not_shortened}

-- statements of a kind that both have, and jumps that are long in the first and short in the second
pub data Pairs (P : Stmt86 → Type 0) (R : ℕ → Goal → Type 0) : List Stmt86 → List Stmt86 → Type 0 where
  none : Pairs P R [] []
  same : (x : Stmt86) (xs ys : List Stmt86) → P x → Pairs P R xs ys → Pairs P R (x ∷ xs) (x ∷ ys)
  nearer : (at : ℕ) (j k : Jump) (g : Goal) (xs ys : List Stmt86) → R at g → Pairs P R xs ys → Pairs P R (Jcc j (Skip at) ∷ (Jmp (label_of_goal g) ∷ (Mark (Skip at) ∷ xs))) (Jcc k (label_of_goal g) ∷ ys)

pub pairs-append : (P : Stmt86 → Type 0) (R : ℕ → Goal → Type 0) (xs ys vs ws : List Stmt86) → Pairs P R xs ys → Pairs P R vs ws → Pairs P R (xs ++ vs) (ys ++ ws)
pairs-append P R _ _ vs ws none h = h
pairs-append P R _ _ vs ws (same x xs ys p g) h = same x _ _ p (pairs-append P R xs ys vs ws g h)
pairs-append P R _ _ vs ws (nearer at j k l xs ys r g) h = nearer at j k l _ _ r (pairs-append P R xs ys vs ws g h)

pub pairs-same : (P : Stmt86 → Type 0) (R : ℕ → Goal → Type 0) (xs : List Stmt86) → Each P xs → Pairs P R xs xs
pairs-same P R [] h = none
pairs-same P R (x ∷ xs) h = same x xs xs h.0 (pairs-same P R xs h.1)

-- of any kind
abbrev pub AnyPairs : List Stmt86 → List Stmt86 → Type 0
AnyPairs xs ys = Pairs (λ x. Unit {0}) (λ at g. Unit {0}) xs ys

any_pairs : (P : Stmt86 → Type 0) (R : ℕ → Goal → Type 0) (xs ys : List Stmt86) → Pairs P R xs ys → AnyPairs xs ys
any_pairs P R _ _ none = none
any_pairs P R _ _ (same x xs ys p g) = same x xs ys tt (any_pairs P R xs ys g)
any_pairs P R _ _ (nearer at j k l xs ys r g) = nearer at j k l xs ys tt (any_pairs P R xs ys g)

pub same_any : (xs : List Stmt86) → AnyPairs xs xs
same_any [] = none
same_any (x ∷ xs) = same x xs xs tt (same_any xs)

sizes_less : (xs ys : List Stmt86) → AnyPairs xs ys → sizes_of ys ≤ sizes_of xs
sizes_less _ _ none = omega arith
sizes_less _ _ (same x xs ys p g) = let le = sizes_less xs ys g in omega (arith, le)
sizes_less _ _ (nearer at j k l xs ys r g) = let le = sizes_less xs ys g in omega (arith, le)

-- ---- the places of a label

-- a label stands in neither text, or in both: in the second at most as far behind the beginning, and at most as far before the end
data Moves (from from' end end' : ℕ) : Option ℕ → Option ℕ → Type 0 where
  neither : Moves from from' end end' None None
  both : (a b : ℕ) → from ≤ a → from' ≤ b → a ≤ end → b ≤ end' → b + from ≤ a + from' → end' + a ≤ end + b → Moves from from' end end' (Some a) (Some b)

moves_more : (from from' next next' end end' : ℕ) (o o' : Option ℕ) → from ≤ next → from' ≤ next' → next' + from ≤ next + from' → Moves next next' end end' o o' → Moves from from' end end' o o'
moves_more from from' next next' end end' _ _ le le' near neither = neither
moves_more from from' next next' end end' _ _ le le' near (both a b h1 h2 h3 h4 h5 h6) =
    both a b (omega (arith, le, h1)) (omega (arith, le', h2)) h3 h4 (omega (arith, near, h5)) h6

-- a label that is none past a condition
abbrev IsPlace : Label → Type 0
IsPlace l = (a : ℕ) → same_label (Skip a) l ≡ false

moves_end : (from from' end end' e e' : ℕ) (o o' : Option ℕ) → end ≡ e → end' ≡ e' → Moves from from' end end' o o' → Moves from from' e e' o o'
moves_end from from' end end' e e' o o' h h' m = subst (λ n. Moves from from' n e' o o') h (subst (λ n. Moves from from' end n o o') h' m)

moved : (l : Label) → IsPlace l → (xs ys : List Stmt86) → AnyPairs xs ys → (from from' : ℕ) → Moves from from' (from + sizes_of xs) (from' + sizes_of ys) (offset_from from xs l) (offset_from from' ys l)
moved l place _ _ none from from' = neither
moved l place _ _ (same x xs ys p g) from from' = by_mark (marks l x) (moved l place xs ys g (from + size_of x) (from' + size_of x))
  where
    by_mark : (t : Bool) → Moves (from + size_of x) (from' + size_of x) (from + size_of x + sizes_of xs) (from' + size_of x + sizes_of ys) (offset_from (from + size_of x) xs l) (offset_from (from' + size_of x) ys l)
        → Moves from from' (from + (size_of x + sizes_of xs)) (from' + (size_of x + sizes_of ys)) (cond t (Some from) (offset_from (from + size_of x) xs l)) (cond t (Some from') (offset_from (from' + size_of x) ys l))
    by_mark true m = let le = sizes_less xs ys g in both from from' (omega arith) (omega arith) (omega arith) (omega arith) (omega arith) (omega (arith, le))
    by_mark false m =
        moves_end from from' _ _ _ _ _ _ (omega arith) (omega arith)
        (moves_more from from' (from + size_of x) (from' + size_of x) _ _ _ _ (omega arith) (omega arith) (omega arith) m)
moved l place _ _ (nearer at j k g xs ys r h) from from' =
    moves_end from from' _ _ _ _ _ _ (omega arith) (omega arith)
    (moves_more from from' (from + 2 + 3 + 0) (from' + 2) _ _ _ _ (omega arith) (omega arith) (omega arith)
    (subst (λ t. Moves (from + 2 + 3 + 0) (from' + 2) (from + 2 + 3 + 0 + sizes_of xs) (from' + 2 + sizes_of ys) (cond t (Some (from + 2 + 3)) (offset_from (from + 2 + 3 + 0) xs l)) (offset_from (from' + 2) ys l)) (sym (place at))
    (moved l place xs ys h (from + 2 + 3 + 0) (from' + 2))))

-- ---- a label before or behind a place

found_front : (from a : ℕ) (l : Label) (xs ys : List Stmt86) → offset_from from xs l ≡ Some a → offset_from from (xs ++ ys) l ≡ Some a
found_front from a l [] ys h = absurd (false≢true (ap is_some h))
found_front from a l (x ∷ xs) ys h = by_mark (marks l x) h (found_front (from + size_of x) a l xs ys)
  where
    by_mark : (t : Bool) → cond t (Some from) (offset_from (from + size_of x) xs l) ≡ Some a → (offset_from (from + size_of x) xs l ≡ Some a → offset_from (from + size_of x) (xs ++ ys) l ≡ Some a) → cond t (Some from) (offset_from (from + size_of x) (xs ++ ys) l) ≡ Some a
    by_mark true g rest = g
    by_mark false g rest = rest g

marks_none : (from : ℕ) (l : Label) (xs : List Stmt86) → offset_from from xs l ≡ None → MarksNot l xs
marks_none from l xs h = uncounted l xs (absent from xs l h)

-- ---- the jump rule

-- of a jump at a place, to a label before it; the second text has it at a place of its own
reaches_back : (k k' a b : ℕ) → a ≤ k → b ≤ k' → k' + a ≤ k + b → may_be_short (k + 5) a ≡ true → reaches_86 (k' + 2) b ≡ true
reaches_back k k' a b h1 h2 near r = grind (arith, nat_tests)

reaches_on : (k k' a b : ℕ) → k + 5 ≤ a → k' + 2 ≤ b → b + (k + 5) ≤ a + (k' + 2) → may_be_short (k + 5) a ≡ true → reaches_86 (k' + 2) b ≡ true
reaches_on k k' a b h1 h2 near r = grind (arith, nat_tests)

goal_place : (g : Goal) → IsPlace (label_of_goal g)
goal_place (At a) b = refl
goal_place Boot b = refl
goal_place Bdos b = refl

-- the jump rule holds of the jump of an address to a place that stands in the text
abbrev pub ByRule : List Stmt86 → ℕ → Goal → Type 0
ByRule long at g = (may_be_short (place_of long (Skip at)) (place_of long (label_of_goal g)) ≡ true) × (is_some (offset_of long (label_of_goal g)) ≡ true)

place_from : (xs : List Stmt86) (l : Label) (a : ℕ) → offset_of xs l ≡ Some a → place_of xs l ≡ a
place_from xs l a h = ap (λ o. unwrap_or o 0) h

module _ (long lean : List Stmt86) (once : IsDefinedOnce long) where
  -- a long jump's own label stands at its end
  skip_place : (before xs : List Stmt86) (at : ℕ) (j : Jump) (l : Label) → long ≡ before ++ (Jcc j (Skip at) ∷ (Jmp l ∷ (Mark (Skip at) ∷ xs))) → place_of long (Skip at) ≡ sizes_of before + 5
  skip_place before xs at j l is =
      let same : same_label (Skip at) (Skip at) ≡ true = eq-eqb at at refl in
      let here : ◌≡◌ {A = ℕ} (cond (same_label (Skip at) (Skip at)) 1 0) 1 = ap (λ t. cond {A = ℕ} t 1 0) same in
      let most = once (Skip at) in
      let parts = ap (count_marks (Skip at)) is ∙ count_marks-append (Skip at) before (Jcc j (Skip at) ∷ (Jmp l ∷ (Mark (Skip at) ∷ xs))) in
      let none = uncounted (Skip at) before (omega (arith, here, most, parts)) in
      let e : 0 + sizes_of before + 2 + 3 ≡ sizes_of before + 5 = omega arith in
      place_from long (Skip at) (0 + sizes_of before + 2 + 3)
      (ap (λ ys. offset_from 0 ys (Skip at)) is
      ∙ offset_past 0 (Skip at) before (Jcc j (Skip at) ∷ (Jmp l ∷ (Mark (Skip at) ∷ xs))) none
      ∙ ap (λ t. cond t (Some (0 + sizes_of before + 2 + 3)) (offset_from (0 + sizes_of before + 2 + 3 + 0) xs (Skip at))) same)
      ∙ e

  jump_reaches : (before before' xs ys : List Stmt86) (at : ℕ) (j k : Jump) (g : Goal) → AnyPairs before before' → AnyPairs xs ys
      → long ≡ before ++ (Jcc j (Skip at) ∷ (Jmp (label_of_goal g) ∷ (Mark (Skip at) ∷ xs))) → lean ≡ before' ++ (Jcc k (label_of_goal g) ∷ ys) → ByRule long at g
      → reaches_86 (sizes_of before' + 2) (place_of lean (label_of_goal g)) ≡ true
  jump_reaches before before' xs ys at j k g pairs rest is is' rule = by_before _ _ refl refl (moved (label_of_goal g) (goal_place g) before before' pairs 0 0)
    where
      -- by the places of the label in both texts
      rule_at : (a : ℕ) → offset_of long (label_of_goal g) ≡ Some a → may_be_short (sizes_of before + 5) a ≡ true
      rule_at a h = ap (λ n. may_be_short n a) (sym (skip_place before xs at j (label_of_goal g) is)) ∙ ap (λ n. may_be_short (place_of long (Skip at)) n) (sym (place_from long (label_of_goal g) a h)) ∙ rule.0

      answer : (b : ℕ) → offset_of lean (label_of_goal g) ≡ Some b → reaches_86 (sizes_of before' + 2) b ≡ true → reaches_86 (sizes_of before' + 2) (place_of lean (label_of_goal g)) ≡ true
      answer b h r = ap (reaches_86 (sizes_of before' + 2)) (place_from lean (label_of_goal g) b h) ∙ r

      by_behind : (o o' : Option ℕ) → offset_of long (label_of_goal g) ≡ o → offset_of lean (label_of_goal g) ≡ o'
          → Moves (0 + sizes_of before + 2 + 3 + 0) (0 + sizes_of before' + 2) (0 + sizes_of before + 2 + 3 + 0 + sizes_of xs) (0 + sizes_of before' + 2 + sizes_of ys) o o'
          → reaches_86 (sizes_of before' + 2) (place_of lean (label_of_goal g)) ≡ true
      by_behind _ _ h h' neither = absurd (false≢true (sym (ap is_some h) ∙ rule.1))
      by_behind _ _ h h' (both a b h1 h2 h3 h4 h5 h6) = answer b h' (reaches_on (sizes_of before) (sizes_of before') a b (omega (arith, h1)) (omega (arith, h2)) (omega (arith, h5)) (rule_at a h))

      by_before : (o o' : Option ℕ) → offset_from 0 before (label_of_goal g) ≡ o → offset_from 0 before' (label_of_goal g) ≡ o'
          → Moves 0 0 (0 + sizes_of before) (0 + sizes_of before') o o' → reaches_86 (sizes_of before' + 2) (place_of lean (label_of_goal g)) ≡ true
      by_before _ _ h h' neither =
          by_behind _ _
          (ap (λ zs. offset_from 0 zs (label_of_goal g)) is
          ∙ offset_past 0 (label_of_goal g) before (Jcc j (Skip at) ∷ (Jmp (label_of_goal g) ∷ (Mark (Skip at) ∷ xs))) (marks_none 0 (label_of_goal g) before h)
          ∙ ap (λ t. cond t (Some (0 + sizes_of before + 2 + 3)) (offset_from (0 + sizes_of before + 2 + 3 + 0) xs (label_of_goal g))) (goal_place g at))
          (ap (λ zs. offset_from 0 zs (label_of_goal g)) is' ∙ offset_past 0 (label_of_goal g) before' (Jcc k (label_of_goal g) ∷ ys) (marks_none 0 (label_of_goal g) before' h'))
          (moved (label_of_goal g) (goal_place g) xs ys rest (0 + sizes_of before + 2 + 3 + 0) (0 + sizes_of before' + 2))
      by_before _ _ h h' (both a b h1 h2 h3 h4 h5 h6) =
          answer b (ap (λ zs. offset_from 0 zs (label_of_goal g)) is' ∙ found_front 0 b (label_of_goal g) before' (Jcc k (label_of_goal g) ∷ ys) h')
          (reaches_back (sizes_of before) (sizes_of before') a b (omega (arith, h3)) (omega (arith, h4)) (omega (arith, h6))
          (rule_at a (ap (λ zs. offset_from 0 zs (label_of_goal g)) is ∙ found_front 0 a (label_of_goal g) before (Jcc j (Skip at) ∷ (Jmp (label_of_goal g) ∷ (Mark (Skip at) ∷ xs))) h)))

  -- from a place on, each short jump reaches where it is so by the jump rule
  pub nearer_reach : (xs ys : List Stmt86) → Pairs IsLong (ByRule long) xs ys → (before before' rest : List Stmt86) → AnyPairs before before' → long ≡ before ++ (xs ++ rest) → lean ≡ before' ++ (ys ++ rest) → ShortenedReach (place_of lean) (sizes_of before') ys
  nearer_reach _ _ none before before' rest pairs is is' = tt
  nearer_reach _ _ (same x xs ys p h) before before' rest pairs is is' =
      let e : sizes_of (before' ++ x ∷ []) ≡ sizes_of before' + size_of x = (let f = sizes_of-append before' (x ∷ []) in omega (arith, f)) in (
        not_shortened x _ p,
        subst (λ k. ShortenedReach (place_of lean) k ys) e
            (nearer_reach xs ys h (before ++ x ∷ []) (before' ++ x ∷ []) rest
            (pairs-append (λ z. Unit {0}) (λ a g. Unit {0}) before before' (x ∷ []) (x ∷ []) pairs (same_any (x ∷ [])))
            (is ∙ sym (append_assoc before (x ∷ []) (xs ++ rest)))
            (is' ∙ sym (append_assoc before' (x ∷ []) (ys ++ rest)))),
      )
  nearer_reach _ _ (nearer at j k g xs ys rule h) before before' rest pairs is is' =
      let e : sizes_of (before' ++ Jcc k (label_of_goal g) ∷ []) ≡ sizes_of before' + 2 = (let f = sizes_of-append before' (Jcc k (label_of_goal g) ∷ []) in omega (arith, f)) in
      let there = pairs-append (λ z. Unit {0}) (λ a g. Unit {0}) xs ys rest rest (any_pairs IsLong (ByRule long) xs ys h) (same_any rest) in (
        λ is_short. jump_reaches before before' (xs ++ rest) (ys ++ rest) at j k g pairs there is is' rule,
        subst (λ n. ShortenedReach (place_of lean) n ys) e
            (nearer_reach xs ys h (before ++ Jcc j (Skip at) ∷ (Jmp (label_of_goal g) ∷ (Mark (Skip at) ∷ []))) (before' ++ Jcc k (label_of_goal g) ∷ []) rest
            (pairs-append (λ z. Unit {0}) (λ a g. Unit {0}) before before' (Jcc j (Skip at) ∷ (Jmp (label_of_goal g) ∷ (Mark (Skip at) ∷ []))) (Jcc k (label_of_goal g) ∷ []) pairs (nearer at j k g [] [] tt none))
            (is ∙ sym (append_assoc before (Jcc j (Skip at) ∷ (Jmp (label_of_goal g) ∷ (Mark (Skip at) ∷ []))) (xs ++ rest)))
            (is' ∙ sym (append_assoc before' (Jcc k (label_of_goal g) ∷ []) (ys ++ rest)))),
      )
