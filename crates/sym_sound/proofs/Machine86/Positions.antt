-- Where a walk is in a text: what stands behind a position, and at which offset.
use Rattle.std.proofs.Common.{◌≡◌, ℕ, ◌+◌, ◌<◌, ◌≤◌, Bool, true, false, cond, List, [], ◌∷◌, ◌++◌, Option, Some, None, refl, sym, ap, subst, ◌∙◌, arith, append_assoc}
use Rattle.std.specs.Prelude.{◌||◌, is_some, unwrap_or}
use Rattle.std.proofs.lemmas.Option.{same_Some}
use Rattle.i86.specs.Code.{HasBytes}
use Rattle.asm86_line_types.specs.declared.line.Label.{Label}
use Rattle.asm86_line_types.specs.declared.line.Stmt86.{Stmt86}
use Rattle.asm86_line_types.specs.declared.line.Stmt86.TheVariants.{Cseg, Dseg, Org, Rb, Db, Dw, Mark, Run, MovOffset, Jmp, Jmps, Jcc as JccTo, Call as CallTo, EndText}
use Rattle.asm86_line_types.specs.declared.line.Line86.{Line86}
use Rattle.asm86_line_types.specs.Layout.{same_label, size_of, sizes_of, marked, is_label, marks, offset_from, offset_of, place_of, bytes_at, code_of}
use Rattle.asm86_line_types.specs.Image.{statements, offset_in, labels_before, labels_from, count_marks, IsDefinedOnce, AllDefined, UsesDefined, used_in, short_reaches, AllReach}
use Rattle.asm86_line_types.proofs.Labels.{same_label_is, same_label_self}
use Rattle.asm86_line_types.proofs.Sizes.{sizes_of-append, count_marks-append}
use Rattle.asm86_line_types.proofs.Statements.{uncounted, offset_past}
use Rattle.sym_block_def.specs.Walk86.{Surroundings, after_label, is_passed, Met, EndsAt, Instruction, Nothing, met_label, met, follows}
use Rattle.sym_block_def.specs.Sorts.{StatementIsCoded, StatementsAreCoded}
use Rattle.simulation_def.specs.Runs86.{offsets_of}
use Rattle.sym_sound.proofs.Machine86.Standing.{StandAll, bytes_all, stand_all, stand_back, offset_here}

-- these statements stand behind a position of a text, at an offset
pub record Position (text xs : List Stmt86) (at : ℕ) : Type 0 where
  pub before : List Stmt86
  pub is : text ≡ before ++ xs
  pub at_is : at ≡ sizes_of before

pub position_next : (text : List Stmt86) (x : Stmt86) (xs : List Stmt86) (at : ℕ) → Position text (x ∷ xs) at → Position text xs (at + size_of x)
position_next text x xs at p =
    let is = p.at_is in
    let one : sizes_of (x ∷ []) ≡ size_of x = omega arith in
    record {
      before = p.before ++ x ∷ [];
      is = p.is ∙ sym (append_assoc p.before (x ∷ []) xs);
      at_is = omega (arith, is, sizes_of-append p.before (x ∷ []), one);
    }

pub position_moved : (text xs : List Stmt86) (at to : ℕ) → at ≡ to → Position text xs at → Position text xs to
position_moved text xs at to e p = subst (Position text xs) e p

-- the labels of an image
offsets_from : (at : ℕ) (xs : List Stmt86) (l : Label) → offset_in (labels_from at xs) l ≡ offset_from at xs l
offsets_from at [] l = refl
offsets_from at (x ∷ xs) l = by_label (marked x) (offsets_from (at + size_of x) xs l)
  where
    by_label : (o : Option Label) → offset_in (labels_from (at + size_of x) xs) l ≡ offset_from (at + size_of x) xs l → offset_in (labels_before o at (labels_from (at + size_of x) xs)) l ≡ cond (is_label l o) (Some at) (offset_from (at + size_of x) xs l)
    by_label None e = e
    by_label (Some k) e = ap (cond (same_label k l) (Some at)) e

pub offsets_are : (lines : List Line86) (l : Label) → offsets_of lines l ≡ offset_of (statements lines) l
offsets_are lines l = offsets_from 0 (statements lines) l

-- how often a statement counts
abbrev once_if : Bool → ℕ
once_if b = cond b 1 0

once_is : (b c : Bool) → b ≡ c → once_if b ≡ once_if c
once_is b c e = ap once_if e

-- a label that stands at a position has its offset
pub label_here : (text xs : List Stmt86) (l : Label) (at : ℕ) → IsDefinedOnce text → Position text (Mark l ∷ xs) at → offset_of text l ≡ Some at
label_here text xs l at once p =
    let here : marks l (Mark l) ≡ true = same_label_self l in
    let counted : count_marks l text ≡ count_marks l p.before + count_marks l (Mark l ∷ xs) = ap (count_marks l) p.is ∙ count_marks-append l p.before (Mark l ∷ xs) in
    let one = once_is (marks l (Mark l)) true here in
    let most = once l in
    let none : count_marks l p.before ≡ 0 = omega (arith, counted, one, most) in
    let zero_more : 0 + sizes_of p.before ≡ at = let is = p.at_is in omega (arith, is) in
    ap (λ t. offset_of t l) p.is ∙ offset_past 0 l p.before (Mark l ∷ xs) (uncounted l p.before none) ∙ offset_here (0 + sizes_of p.before) l (Mark l) xs here ∙ ap Some zero_more

-- what stands behind a label, at its offset
behind_from : (at : ℕ) (xs : List Stmt86) (l : Label) (ys : List Stmt86) → after_label xs l ≡ Some ys → (before : List Stmt86) × (xs ≡ before ++ ys) × (offset_from at xs l ≡ Some (at + sizes_of before))
behind_from at [] l ys e = absurd (cc)
behind_from at (x ∷ xs) l ys e = by_mark (marks l x) refl e (behind_from (at + size_of x) xs l ys)
  where
    by_mark : (b : Bool) → marks l x ≡ b → cond b (Some xs) (after_label xs l) ≡ Some ys → (after_label xs l ≡ Some ys → (before : List Stmt86) × (xs ≡ before ++ ys) × (offset_from (at + size_of x) xs l ≡ Some (at + size_of x + sizes_of before))) → (before : List Stmt86) × (x ∷ xs ≡ before ++ ys) × (offset_from at (x ∷ xs) l ≡ Some (at + sizes_of before))
    by_mark true h f later =
        let same : xs ≡ ys = same_Some xs ys f in
        let none : size_of x ≡ 0 = mark_size x h in
        let sum : at ≡ at + sizes_of (x ∷ []) = omega (arith, none) in
        (x ∷ [], ap (λ zs. x ∷ zs) same, offset_here at l x xs h ∙ ap Some sum)
      where
        mark_size : (x : Stmt86) → marks l x ≡ true → size_of x ≡ 0
        mark_size (Mark k) e = refl
        mark_size x e = absurd (cc)
    by_mark false h f later =
        let r = later f in
        let sum : at + size_of x + sizes_of r.0 ≡ at + sizes_of (x ∷ r.0) = omega arith in
        (x ∷ r.0, ap (λ zs. x ∷ zs) r.1, ap (λ b. cond b (Some at) (offset_from (at + size_of x) xs l)) h ∙ r.2 ∙ ap Some sum)

pub behind_is : (text ys : List Stmt86) (l : Label) → after_label text l ≡ Some ys → (at : ℕ) × (offset_of text l ≡ Some at) × Position text ys at
behind_is text ys l e =
    let b = behind_from 0 text l ys e in
    (0 + sizes_of b.0, b.2, record { before = b.0; is = b.1; at_is = omega arith })

-- a label that follows with only labels between has the offset of the position
pub follows_is : (text xs : List Stmt86) (l : Label) (at : ℕ) → IsDefinedOnce text → Position text xs at → follows l xs ≡ true → offset_of text l ≡ Some at
follows_is text [] l at once p e = absurd (cc)
follows_is text (Mark k ∷ xs) l at once p e = by_label (same_label k l) refl e (follows_is text xs l at once (position_moved text xs (at + 0) at (omega arith) (position_next text (Mark k) xs at p)))
  where
    by_label : (b : Bool) → same_label k l ≡ b → (b || follows l xs) ≡ true → (follows l xs ≡ true → offset_of text l ≡ Some at) → offset_of text l ≡ Some at
    by_label true h f later = subst (λ m. offset_of text m ≡ Some at) (same_label_is k l h) (label_here text xs k at once p)
    by_label false h f later = later f
follows_is text (x ∷ xs) l at once p e = absurd (cc)

-- what a walk meets is at the position's offset
abbrev pub MetAt : List Stmt86 → ℕ → Met → Type 0
MetAt text at (EndsAt l) = offset_of text l ≡ Some at
MetAt text at (Instruction x rest) = Position text (x ∷ rest) at
MetAt text at Nothing = Unit {0}

pub met_at : (w : Surroundings) (text xs : List Stmt86) (at : ℕ) → IsDefinedOnce text → Position text xs at → MetAt text at (met w xs)
met_at w text [] at once p = tt
met_at w text (Mark l ∷ xs) at once p = by_passed (is_passed w l) (met_at w text xs at once (position_moved text xs (at + 0) at (omega arith) (position_next text (Mark l) xs at p)))
  where
    by_passed : (b : Bool) → MetAt text at (met w xs) → MetAt text at (met_label b l (met w xs))
    by_passed true later = later
    by_passed false later = label_here text xs l at once p
met_at w text (Run i ∷ xs) at once p = p
met_at w text (MovOffset r l ∷ xs) at once p = p
met_at w text (Jmp l ∷ xs) at once p = p
met_at w text (Jmps l ∷ xs) at once p = p
met_at w text (JccTo j l ∷ xs) at once p = p
met_at w text (CallTo l ∷ xs) at once p = p
met_at w text (Cseg ∷ xs) at once p = tt
met_at w text (Dseg ∷ xs) at once p = tt
met_at w text (Org a ∷ xs) at once p = tt
met_at w text (Rb n ∷ xs) at once p = tt
met_at w text (Db n ∷ xs) at once p = tt
met_at w text (Dw v ∷ xs) at once p = tt
met_at w text (EndText ∷ xs) at once p = tt

-- the code has a position's statement, and it ends within the code
pub stands_here : (text : List Stmt86) (x : Stmt86) (rest : List Stmt86) (at : ℕ) → Position text (x ∷ rest) at → HasBytes (code_of text) at (bytes_at (place_of text) at x)
stands_here text x rest at p =
    let off = place_of text in
    let whole : StandAll (code_of text) off 0 text = stand_all (code_of text) off 0 text (bytes_all (code_of text) []) in
    let parts : StandAll (code_of text) off 0 (p.before ++ x ∷ rest) = subst (StandAll (code_of text) off 0) p.is whole in
    let back = stand_back (code_of text) off 0 p.before (x ∷ rest) parts in
    let same : 0 + sizes_of p.before ≡ at = let is = p.at_is in omega (arith, is) in
    subst (λ n. HasBytes (code_of text) n (bytes_at off n x)) same back.0

pub ends_within : (text : List Stmt86) (x : Stmt86) (rest : List Stmt86) (at : ℕ) → Position text (x ∷ rest) at → sizes_of text < 0x10000 → at + size_of x < 0x10000
ends_within text x rest at p lt =
    let sizes : sizes_of text ≡ sizes_of p.before + sizes_of (x ∷ rest) = ap sizes_of p.is ∙ sizes_of-append p.before (x ∷ rest) in
    let is = p.at_is in
    omega (arith, sizes, lt, is)

-- what holds of all statements of a text, at a position
pub coded_here : (xs : List Stmt86) (x : Stmt86) (rest : List Stmt86) → StatementsAreCoded (xs ++ x ∷ rest) → StatementIsCoded x
coded_here [] x rest h = h.0
coded_here (y ∷ ys) x rest h = coded_here ys x rest h.1

pub defined_here : (text xs : List Stmt86) (x : Stmt86) (rest : List Stmt86) → UsesDefined text (xs ++ x ∷ rest) → AllDefined text (used_in x)
defined_here text [] x rest h = h.0
defined_here text (y ∷ ys) x rest h = defined_here text ys x rest h.1

pub reaches_here : (off : Label → ℕ) (at : ℕ) (xs : List Stmt86) (x : Stmt86) (rest : List Stmt86) → AllReach off at (xs ++ x ∷ rest) → short_reaches off (at + sizes_of xs) x ≡ true
reaches_here off at [] x rest h = let e : at ≡ at + 0 = omega arith in subst (λ n. short_reaches off n x ≡ true) e h.0
reaches_here off at (y ∷ ys) x rest h =
    let e : at + size_of y + sizes_of ys ≡ at + sizes_of (y ∷ ys) = omega arith in
    subst (λ n. short_reaches off n x ≡ true) e (reaches_here off (at + size_of y) ys x rest h.1)

-- a label that is defined has its place as offset, which is within the code
pub place_is : (text : List Stmt86) (l : Label) → is_some (offset_of text l) ≡ true → offset_of text l ≡ Some (place_of text l)
place_is text l e = by_offset (offset_of text l) refl e
  where
    by_offset : (o : Option ℕ) → offset_of text l ≡ o → is_some o ≡ true → offset_of text l ≡ Some (place_of text l)
    by_offset None h f = absurd (cc)
    by_offset (Some n) h f = h ∙ ap Some (sym (ap (λ o. unwrap_or o 0) h))

offset_small : (at : ℕ) (xs : List Stmt86) (l : Label) (n : ℕ) → offset_from at xs l ≡ Some n → n ≤ at + sizes_of xs
offset_small at [] l n e = absurd (cc)
offset_small at (x ∷ xs) l n e = by_mark (marks l x) e (offset_small (at + size_of x) xs l n)
  where
    by_mark : (b : Bool) → cond b (Some at) (offset_from (at + size_of x) xs l) ≡ Some n → (offset_from (at + size_of x) xs l ≡ Some n → n ≤ at + size_of x + sizes_of xs) → n ≤ at + sizes_of (x ∷ xs)
    by_mark true f later = let same : at ≡ n = same_Some at n f in omega (arith, same)
    by_mark false f later = let le = later f in omega (arith, le)

pub offset_within : (text : List Stmt86) (l : Label) (n : ℕ) → sizes_of text < 0x10000 → offset_of text l ≡ Some n → n < 0x10000
offset_within text l n lt e = let le = offset_small 0 text l n e in omega (arith, le, lt)
