-- Where one block alone can come to an instruction, all others are shown without it as they were with it.
use Rattle.std.proofs.Common.{◌≡◌, ℕ, zero, suc, ◌+◌, ◌*◌, ◌<◌, ◌==◌, Bool, true, false, cond, not, ◌&&◌, ◌||◌, List, [], ◌∷◌, ◌++◌, Option, None, Some, refl, sym, ap, ◌∙◌, subst, drop, arith}
use Rattle.std.specs.Prelude.{is_some}
use Rattle.std.specs.List.{list_any, list_all, Contains}
use Rattle.std.proofs.lemmas.Bool.{and_parts, eqb-true}
use Rattle.std.proofs.lemmas.List.Elements.{Contains-append_right}
use Rattle.std.proofs.lemmas.Option.{same_Some}
use Rattle.cells.specs.Parts.{Parts}
use Rattle.i80.specs.declared.Instr80.{Instr80}
use Rattle.i80.specs.Columns.{length80}
use Rattle.i86.specs.declared.Instr86.{Instr86}
use Rattle.asm86_line_types.specs.declared.line.Label.{Label}
use Rattle.asm86_line_types.specs.declared.line.Label.TheVariants.{At, Skip, User}
use Rattle.asm86_line_types.specs.declared.line.Stmt86.{Stmt86}
use Rattle.asm86_line_types.specs.declared.line.Stmt86.TheVariants.{Mark, Run}
use Rattle.asm86_line_types.specs.Layout.{same_label, marks}
use Rattle.asm80_types.specs.Program.{Program, instr_at}
use Rattle.flow.specs.Blocks.{blocks, block_at, place_after, address_after_instruction, IsBlockOf, BlocksCut}
use Rattle.sym_block_def.specs.Block80.{block80, before_more, instrs_from, addresses_from}
use Rattle.sym_block_def.specs.Symbolic86.{start86}
use Rattle.sym_block_def.specs.Walk86.{after_label, way_to, follows, surroundings, walk86}
use Rattle.sym_block_def.specs.BlockMatch.{Keeps, walked_reason, block_reason}
use Rattle.simulation_def.specs.Matches.{or_next, blocks_reason}
use Rattle.shrink.specs.Apart.{is_inner, is_label, begins_with_label}
use Rattle.shrink.proofs.Matched.{is_leader}
use Rattle.shrink.proofs.Walks.{SamePlace, none, some, alike, over, walks_as}
use Rattle.simulation_def.proofs.Reasons.{no_reason}

-- ---- a leader is no later address of another block

module _ (p : Program) (a : ℕ) where
  -- an address among those of so many instructions
  data Among (b n : ℕ) : Type 0 where
    among : (k : ℕ) → k < n → place_after p b k ≡ a → Among b n

  further : (b n : ℕ) (i : Instr80) → instr_at p b ≡ Some i → Among (b + length80 i) n → Among b (suc n)
  further b n i e (among k lt is) = among (suc k) (omega (arith, lt)) (subst (λ o. place_after p (address_after_instruction b o) k ≡ a) (sym e) is)

  is_among : (n b : ℕ) → list_any (λ c. c == a) (addresses_from b (instrs_from p b n)) ≡ true → Among b n
  is_among zero b h = absurd (cc)
  is_among (suc n) b h = by_instr (instr_at p b) refl h (is_among n)
    where
      by_first : (t : Bool) (i : Instr80) → (b == a) ≡ t → instr_at p b ≡ Some i → (t || list_any (λ c. c == a) (addresses_from (b + length80 i) (instrs_from p (b + length80 i) n))) ≡ true → ((c : ℕ) → list_any (λ d. d == a) (addresses_from c (instrs_from p c n)) ≡ true → Among c n) → Among b (suc n)
      by_first true i is e g rest = among 0 (omega arith) (eqb-true b a is)
      by_first false i is e g rest = further b n i e (rest (b + length80 i) g)

      by_instr : (o : Option Instr80) → instr_at p b ≡ o → list_any (λ c. c == a) (addresses_from b (before_more o (λ i. i ∷ instrs_from p (b + length80 i) n))) ≡ true → ((c : ℕ) → list_any (λ d. d == a) (addresses_from c (instrs_from p c n)) ≡ true → Among c n) → Among b (suc n)
      by_instr None e g rest = absurd (cc)
      by_instr (Some i) e g rest = by_first (b == a) i refl e g rest

  -- one that is not the first of them
  data AmongLater (b n : ℕ) : Type 0 where
    later : (k : ℕ) → suc k < n → place_after p b (suc k) ≡ a → AmongLater b n

  is_later : (n b : ℕ) → list_any (λ c. c == a) (drop 1 (addresses_from b (instrs_from p b n))) ≡ true → AmongLater b n
  is_later zero b h = absurd (cc)
  is_later (suc n) b h = by_instr (instr_at p b) refl h
    where
      one_on : (i : Instr80) → instr_at p b ≡ Some i → Among (b + length80 i) n → AmongLater b (suc n)
      one_on i e (among k lt is) = later k (omega (arith, lt)) (subst (λ o. place_after p (address_after_instruction b o) k ≡ a) (sym e) is)

      by_instr : (o : Option Instr80) → instr_at p b ≡ o → list_any (λ c. c == a) (drop 1 (addresses_from b (before_more o (λ i. i ∷ instrs_from p (b + length80 i) n)))) ≡ true → AmongLater b (suc n)
      by_instr None e g = absurd (cc)
      by_instr (Some i) e g = one_on i e (is_among n (b + length80 i) g)

  module _ (cut : BlocksCut p) (count : ℕ) (block : block_at p a ≡ Some count) (b n : ℕ) (of : IsBlockOf p b n) where
    no_later : AmongLater b n → ⊥
    no_later (later k lt is) =
        let mine = cut.has_block a (is_leader p a count block) in
        let size = cut.sizes a mine.0 mine.1 in
        let same = cut.once a mine.0 0 b n (suc k) mine.1 (omega (arith, size.0)) of lt (sym is) in
        let first = same.2 in
        absurd (omega (arith, first))

    pub not_passed : list_any (λ c. c == a) (drop 1 (addresses_from b (instrs_from p b n))) ≡ false
    not_passed = by_test (list_any (λ c. c == a) (drop 1 (addresses_from b (instrs_from p b n)))) refl
      where
        by_test : (t : Bool) → list_any (λ c. c == a) (drop 1 (addresses_from b (instrs_from p b n))) ≡ t → t ≡ false
        by_test true h = absurd (no_later (is_later n b h))
        by_test false h = refl

-- ---- inner statements are not labels that are looked for

both_false : (s t : Bool) → s ≡ false → t ≡ false → (s || t) ≡ false
both_false false t e f = f
both_false true t e f = absurd (cc)

module _ (p : Program) where
  unmarked : (l : Label) → ((y : Stmt86) → is_inner p y ≡ true → marks l y ≡ false) → (ys : List Stmt86) → list_all (is_inner p) ys ≡ true → list_any (marks l) ys ≡ false
  unmarked l h [] are = refl
  unmarked l h (y ∷ ys) are =
      let parts = and_parts (is_inner p y) (list_all (is_inner p) ys) are in
      both_false (marks l y) (list_any (marks l) ys) (h y parts.0) (unmarked l h ys parts.1)

  skip_inner : (c : ℕ) (y : Stmt86) → is_inner p y ≡ true → marks (Skip c) y ≡ false
  skip_inner c (Mark (Skip b)) is = absurd (cc)
  skip_inner c y is = refl

  user_inner : (c : ℕ) (y : Stmt86) → is_inner p y ≡ true → marks (User c) y ≡ false
  user_inner c (Mark (User b)) is = absurd (cc)
  user_inner c y is = refl

  has_none : (o : Option ℕ) (n : ℕ) → not (is_some o) ≡ true → o ≡ Some n → ⊥
  has_none None n h e = cc
  has_none (Some m) n h e = cc

  block_inner : (b n : ℕ) → block_at p b ≡ Some n → (y : Stmt86) → is_inner p y ≡ true → marks (At b) y ≡ false
  block_inner b n e (Mark (At c)) is = by_test (c == b) refl
    where
      by_test : (t : Bool) → (c == b) ≡ t → t ≡ false
      by_test true s = absurd (has_none (block_at p c) n is (subst (λ d. block_at p d ≡ Some n) (sym (eqb-true c b s)) e))
      by_test false s = refl
  block_inner b n e y is = refl

-- ---- an instruction after a label, with inner statements between

module _ (before inner after : List Stmt86) (a : ℕ) (i : Instr86) where
  abbrev long : List Stmt86
  long = inner ++ Run i ∷ after

  abbrev short : List Stmt86
  short = inner ++ after

  follows_in : (l : Label) (ys : List Stmt86) → (list_all is_label ys && begins_with_label after) ≡ false → follows l (ys ++ Run i ∷ after) ≡ follows l (ys ++ after)
  follows_in l [] h = by_next after h
    where
      by_next : (xs : List Stmt86) → begins_with_label xs ≡ false → false ≡ follows l xs
      by_next [] g = refl
      by_next (Mark k ∷ xs) g = absurd (cc)
      by_next (x ∷ xs) g = refl
  follows_in l (Mark k ∷ ys) h = ap (λ b. same_label k l || b) (follows_in l ys h)
  follows_in l (y ∷ ys) h = refl

  module _ (l : Label) (other : marks l (Mark (At a)) ≡ false) (unmarks : list_any (marks l) inner ≡ false) where
    found_in : (ys : List Stmt86) → list_any (marks l) ys ≡ false → after_label (ys ++ Run i ∷ after) l ≡ after_label (ys ++ after) l
    found_in [] h = refl
    found_in (y ∷ ys) h = by_mark (marks l y) h (found_in ys)
      where
        by_mark : (t : Bool) → (t || list_any (marks l) ys) ≡ false → (list_any (marks l) ys ≡ false → after_label (ys ++ Run i ∷ after) l ≡ after_label (ys ++ after) l) → cond t (Some (ys ++ Run i ∷ after)) (after_label (ys ++ Run i ∷ after) l) ≡ cond t (Some (ys ++ after)) (after_label (ys ++ after) l)
        by_mark true g rest = absurd (cc)
        by_mark false g rest = rest g

    equal_place : (o : Option (List Stmt86)) → SamePlace a long short o o
    equal_place None = none
    equal_place (Some xs) = some xs xs (alike xs)

    places : (q : List Stmt86) → SamePlace a long short (after_label (q ++ Mark (At a) ∷ long) l) (after_label (q ++ Mark (At a) ∷ short) l)
    places [] =
        subst (λ t. SamePlace a long short (cond t (Some long) (after_label long l)) (cond t (Some short) (after_label short l))) (sym other)
        (subst (SamePlace a long short (after_label long l)) (found_in inner unmarks) (equal_place (after_label long l)))
    places (y ∷ q) = by_mark (marks l y) (places q)
      where
        by_mark : (t : Bool) → SamePlace a long short (after_label (q ++ Mark (At a) ∷ long) l) (after_label (q ++ Mark (At a) ∷ short) l)
            → SamePlace a long short (cond t (Some (q ++ Mark (At a) ∷ long)) (after_label (q ++ Mark (At a) ∷ long) l)) (cond t (Some (q ++ Mark (At a) ∷ short)) (after_label (q ++ Mark (At a) ∷ short) l))
        by_mark true r = some (q ++ Mark (At a) ∷ long) (q ++ Mark (At a) ∷ short) (over q)
        by_mark false r = r

  module _ (p : Program) (cut : BlocksCut p) (count : ℕ) (block : block_at p a ≡ Some count) (are_inner : list_all (is_inner p) inner ≡ true) (parted : (list_all is_label inner && begins_with_label after) ≡ false) where
    abbrev whole : List Stmt86
    whole = before ++ Mark (At a) ∷ long

    abbrev less : List Stmt86
    less = before ++ Mark (At a) ∷ short

    walk_same : (keep : Parts) (b n : ℕ) → IsBlockOf p b n → (a == b) ≡ false → walk86 p whole keep b n ≡ walk86 p less keep b n
    walk_same keep b n of other =
        walks_as a long short (λ l. follows_in l inner parted) (surroundings p whole b (instrs_from p b n)) less (not_passed p a cut count block b n of) behind
        (10 * n) (start86 keep) (after_label whole (At b)) (after_label less (At b))
        (places (At b) other (unmarked p (At b) (block_inner p b n (cut.found b n of)) inner are_inner) before)
      where
        behind : (l : Label) → way_to l ≡ None → SamePlace a long short (after_label whole l) (after_label less l)
        behind (Skip c) e = places (Skip c) refl (unmarked p (Skip c) (skip_inner p c) inner are_inner) before
        behind (User c) e = places (User c) refl (unmarked p (User c) (user_inner p c) inner are_inner) before
        behind l e = absurd (cc)

    module _ (keeps : Keeps) (here : block_reason p less keeps a count ≡ None) where
      one_none : (b n : ℕ) → IsBlockOf p b n → block_reason p whole keeps b n ≡ None → block_reason p less keeps b n ≡ None
      one_none b n of h = by_test (a == b) refl
        where
          by_test : (t : Bool) → (a == b) ≡ t → block_reason p less keeps b n ≡ None
          by_test true e =
              let same = eqb-true a b e in
              let number = same_Some count n (sym block ∙ ap (block_at p) same ∙ cut.found b n of) in
              subst (λ m. block_reason p less keeps b m ≡ None) number (subst (λ c. block_reason p less keeps c count ≡ None) same here)
          by_test false e = sym (ap (walked_reason keeps (block80 p b n)) (walk_same (keeps.at b) b n of e)) ∙ h

      all_none : (bs : List (ℕ × ℕ)) → ((b n : ℕ) → Contains bs (b, n) → IsBlockOf p b n) → blocks_reason p whole keeps bs ≡ None → blocks_reason p less keeps bs ≡ None
      all_none [] are h = refl
      all_none (b ∷ bs) are h =
          let parts = no_reason b.0 (block_reason p whole keeps b.0 b.1) (blocks_reason p whole keeps bs) h in
          ap (λ o. or_next b.0 o (blocks_reason p less keeps bs)) (one_none b.0 b.1 (are b.0 b.1 (0, omega arith, refl)) parts.0)
          ∙ all_none bs (λ c n at. are c n (Contains-append_right (b ∷ []) bs (c, n) at)) parts.1

      pub others_stay : blocks_reason p whole keeps (blocks p) ≡ None → blocks_reason p less keeps (blocks p) ≡ None
      others_stay h = all_none (blocks p) (λ b n of. of) h
