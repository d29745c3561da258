-- The statements of a program's instructions keep each rule but the size of the code: what stands where, which labels they use, and
-- which short jumps reach.
use Rattle.std.proofs.Common.{◌≡◌, ◌≢◌, ℕ, ◌+◌, ◌≤◌, List, [], ◌∷◌, ◌++◌, Some, refl, ap, ◌∙◌, subst, arith, append_assoc, true, false, cond}
use Rattle.std.specs.Prelude.{is_some, unwrap_or}
use Rattle.std.proofs.lemmas.Bool.Decides.{nat_tests}
use Rattle.std.proofs.lemmas.Bool.{eq-eqb, ne_eqb}
use Rattle.i80.specs.declared.Goal.{Goal}
use Rattle.i80.specs.declared.Goal.TheVariants.{At, Boot, Bdos}
use Rattle.i80.specs.Columns.{length80}
use Rattle.i86.specs.declared.Jump.{Jump}
use Rattle.asm86_line_types.specs.declared.line.Label.{Label}
use Rattle.asm86_line_types.specs.declared.line.Label.TheVariants.{At as Line, Skip}
use Rattle.asm86_line_types.specs.declared.line.Stmt86.{Stmt86}
use Rattle.asm86_line_types.specs.declared.line.Stmt86.TheVariants.{Mark, Jcc}
use Rattle.asm86_line_types.specs.Layout.{size_of, sizes_of, offset_from, offset_of}
use Rattle.asm86_line_types.specs.Order.{Reading, CodeGroup, in_order}
use Rattle.asm86_line_types.specs.Image.{cells_from, used_in, AllDefined, UsesDefined, jump_reaches, short_reaches, AllReach}
use Rattle.asm86_line_types.proofs.Statements.{Each, offset_past}
use Rattle.asm86_line_reader.specs.ReadBack.{label_fits, has_line}
use Rattle.asm80_types.specs.declared.program.Placed.{Placed}
use Rattle.asm80_types.specs.Program.{AreLaid}
use Rattle.asm80_types.proofs.Lookup.{length80-positive}
use Rattle.templates.specs.Template.{label_of_goal}
use Rattle.templates_law.specs.Text.Reach.{ShortenedReach}
use Rattle.templates_law.proofs.Text.Statements.{each-append, each-map, HaveLines, stands_behind}
use Rattle.templates_law.proofs.Text.Shapes.{IsStep, runs, loads, jumps, calls, AreSteps, HasShape, straight, past, short, step_marks_not, word_fits}
use Rattle.templates_law.proofs.Text.Body.{IsGroup, marked, bare, IsBody, none, more}
use Rattle.templates_law.proofs.Text.Placing.{group_marks_not}

-- in the code, where no data has come
abbrev pub in_code : Reading
in_code = record { group = CodeGroup; code_came = true; data_came = false; at = 0; filled = [] }

-- ---- statements one after the other

pub reach-append : (off : Label → ℕ) (k : ℕ) (xs ys : List Stmt86) → AllReach off k xs → AllReach off (k + sizes_of xs) ys → AllReach off k (xs ++ ys)
reach-append off k [] ys h g = let e : k + 0 ≡ k = omega arith in subst (λ n. AllReach off n ys) e g
reach-append off k (x ∷ xs) ys h g =
    let e : k + (size_of x + sizes_of xs) ≡ k + size_of x + sizes_of xs = omega arith in
    (h.0, reach-append off (k + size_of x) xs ys h.1 (subst (λ n. AllReach off n ys) e g))

pub shortened-parts : (off : Label → ℕ) (k : ℕ) (xs ys : List Stmt86) → ShortenedReach off k (xs ++ ys) → ShortenedReach off k xs × ShortenedReach off (k + sizes_of xs) ys
shortened-parts off k [] ys h = let e : k ≡ k + 0 = omega arith in (tt, subst (λ n. ShortenedReach off n ys) e h)
shortened-parts off k (x ∷ xs) ys h =
    let e : k + size_of x + sizes_of xs ≡ k + (size_of x + sizes_of xs) = omega arith in
    let r = shortened-parts off (k + size_of x) xs ys h.1 in
    ((h.0, r.0), subst (λ n. ShortenedReach off n ys) e r.1)

module _ (G : Goal → Type 0) where
  -- ---- order, and cells

  step_order : (x : Stmt86) → IsStep G x → (ys : List Stmt86) → in_order in_code (x ∷ ys) ≡ in_order in_code ys
  step_order _ (runs i h) ys = refl
  step_order _ (loads r a h) ys = refl
  step_order _ (jumps g h) ys = refl
  step_order _ (calls g h) ys = refl

  steps_order : (xs : List Stmt86) → AreSteps G xs → (ys : List Stmt86) → in_order in_code (xs ++ ys) ≡ in_order in_code ys
  steps_order [] s ys = refl
  steps_order (x ∷ xs) s ys = step_order x s.0 (xs ++ ys) ∙ steps_order xs s.1 ys

  shape_order : (at : ℕ) (xs : List Stmt86) → HasShape G at xs → (ys : List Stmt86) → in_order in_code (xs ++ ys) ≡ in_order in_code ys
  shape_order at _ (straight xs s) ys = steps_order xs s ys
  shape_order at _ (past j x s le) ys = step_order x s (Mark (Skip at) ∷ ys)
  shape_order at _ (short j g s) ys = refl

  group_order : (at : ℕ) (xs : List Stmt86) → IsGroup G at xs → (ys : List Stmt86) → in_order in_code (xs ++ ys) ≡ in_order in_code ys
  group_order at _ (marked xs h) ys = shape_order at xs h ys
  group_order at _ (bare xs h) ys = shape_order at xs h ys

  pub body_order : (xs : List Placed) (ys : List Stmt86) → IsBody G xs ys → (rest : List Stmt86) → in_order in_code (ys ++ rest) ≡ in_order in_code rest
  body_order _ _ none rest = refl
  body_order _ _ (more x xs ys zs g h) rest = ap (in_order in_code) (append_assoc ys zs rest) ∙ group_order x.at ys g (zs ++ rest) ∙ body_order xs zs h rest

  step_cells : (off : Label → ℕ) (k : ℕ) (x : Stmt86) → IsStep G x → (ys : List Stmt86) → cells_from off k (x ∷ ys) ≡ cells_from off k ys
  step_cells off k _ (runs i h) ys = refl
  step_cells off k _ (loads r a h) ys = refl
  step_cells off k _ (jumps g h) ys = refl
  step_cells off k _ (calls g h) ys = refl

  steps_cells : (off : Label → ℕ) (k : ℕ) (xs : List Stmt86) → AreSteps G xs → (ys : List Stmt86) → cells_from off k (xs ++ ys) ≡ cells_from off k ys
  steps_cells off k [] s ys = refl
  steps_cells off k (x ∷ xs) s ys = step_cells off k x s.0 (xs ++ ys) ∙ steps_cells off k xs s.1 ys

  shape_cells : (off : Label → ℕ) (k at : ℕ) (xs : List Stmt86) → HasShape G at xs → (ys : List Stmt86) → cells_from off k (xs ++ ys) ≡ cells_from off k ys
  shape_cells off k at _ (straight xs s) ys = steps_cells off k xs s ys
  shape_cells off k at _ (past j x s le) ys = step_cells off k x s (Mark (Skip at) ∷ ys)
  shape_cells off k at _ (short j g s) ys = refl

  group_cells : (off : Label → ℕ) (k at : ℕ) (xs : List Stmt86) → IsGroup G at xs → (ys : List Stmt86) → cells_from off k (xs ++ ys) ≡ cells_from off k ys
  group_cells off k at _ (marked xs h) ys = shape_cells off k at xs h ys
  group_cells off k at _ (bare xs h) ys = shape_cells off k at xs h ys

  -- instructions fill no data cell
  pub body_cells : (off : Label → ℕ) (k : ℕ) (xs : List Placed) (ys : List Stmt86) → IsBody G xs ys → (rest : List Stmt86) → cells_from off k (ys ++ rest) ≡ cells_from off k rest
  body_cells off k _ _ none rest = refl
  body_cells off k _ _ (more x xs ys zs g h) rest = ap (cells_from off k) (append_assoc ys zs rest) ∙ group_cells off k x.at ys g (zs ++ rest) ∙ body_cells off k xs zs h rest

  -- ---- written lines

  module _ (fits : (g : Goal) → G g → label_fits (label_of_goal g) ≡ true) where
    step_line : (x : Stmt86) → IsStep G x → has_line x ≡ true
    step_line _ (runs i h) = h
    step_line _ (loads r a h) = fits (At a) h
    step_line _ (jumps g h) = fits g h
    step_line _ (calls g h) = fits g h

    shape_lines : (at : ℕ) (xs : List Stmt86) → label_fits (Skip at) ≡ true → HasShape G at xs → HaveLines xs
    shape_lines at _ k (straight xs s) = each-map (IsStep G) (λ x. has_line x ≡ true) step_line xs s
    shape_lines at _ k (past j x s le) = (k, (step_line x s, (k, tt)))
    shape_lines at _ k (short j g s) = (fits g s, tt)

    group_lines : (at : ℕ) (xs : List Stmt86) → label_fits (Skip at) ≡ true → IsGroup G at xs → HaveLines xs
    group_lines at _ k (marked xs h) = (k, shape_lines at xs k h)
    group_lines at _ k (bare xs h) = shape_lines at xs k h

    pub body_lines : (xs : List Placed) (ys : List Stmt86) → IsBody G xs ys → (from limit : ℕ) → limit ≤ 0xFFFF → AreLaid from limit xs → HaveLines ys
    body_lines _ _ none from limit le laid = tt
    body_lines _ _ (more x xs ys zs g h) from limit le laid =
        let within = laid.1 in
        each-append (λ x. has_line x ≡ true) ys zs (group_lines x.at ys (word_fits x.at (omega (arith, within, le))) g) (body_lines xs zs h (x.at + length80 x.instr) limit le laid.3)

  -- ---- labels that are used

  module _ (all : List Stmt86) (defined : (g : Goal) → G g → is_some (offset_of all (label_of_goal g)) ≡ true) where
    -- a label that stands in some statements stands in the text
    abbrev Within : List Stmt86 → Type 0
    Within ys = (l : Label) → ((at : ℕ) → is_some (offset_from at ys l) ≡ true) → is_some (offset_of all l) ≡ true

    abbrev Uses : List Stmt86 → Type 0
    Uses xs = Each (λ x. AllDefined all (used_in x)) xs

    step_uses : (x : Stmt86) → IsStep G x → AllDefined all (used_in x)
    step_uses _ (runs i h) = tt
    step_uses _ (loads r a h) = (defined (At a) h, tt)
    step_uses _ (jumps g h) = (defined g h, tt)
    step_uses _ (calls g h) = (defined g h, tt)

    -- the label behind a step that is jumped over
    skip_stands : (at : ℕ) (rest : List Stmt86) (k : ℕ) → is_some (offset_from k (Mark (Skip at) ∷ rest) (Skip at)) ≡ true
    skip_stands at rest k = ap (λ b. is_some (cond b (Some k) (offset_from (k + 0) rest (Skip at)))) (eq-eqb at at refl)

    shape_uses : (at : ℕ) (xs rest : List Stmt86) → HasShape G at xs → Within (xs ++ rest) → Uses xs
    shape_uses at _ rest (straight xs s) w = each-map (IsStep G) (λ x. AllDefined all (used_in x)) step_uses xs s
    shape_uses at _ rest (past j x s le) w = (
      (w (Skip at) (stands_behind (Skip at) (Mark (Skip at) ∷ rest) (skip_stands at rest) (Jcc j (Skip at) ∷ (x ∷ []))), tt),
      (step_uses x s, (tt, tt)),
    )
    shape_uses at _ rest (short j g s) w = ((defined g s, tt), tt)

    group_uses : (at : ℕ) (xs rest : List Stmt86) → IsGroup G at xs → Within (xs ++ rest) → Uses xs
    group_uses at _ rest (marked xs h) w = (tt, shape_uses at xs rest h (λ l stands. w l (λ k. stands_behind l (xs ++ rest) stands (Mark (Line at) ∷ []) k)))
    group_uses at _ rest (bare xs h) w = shape_uses at xs rest h w

    pub body_uses : (xs : List Placed) (ys rest : List Stmt86) → IsBody G xs ys → Within (ys ++ rest) → Uses ys
    body_uses _ _ rest none w = tt
    body_uses _ _ rest (more x xs ys zs g h) w =
        let w' : Within (ys ++ (zs ++ rest)) = subst Within (append_assoc ys zs rest) w in
        each-append (λ x. AllDefined all (used_in x)) ys zs (group_uses x.at ys (zs ++ rest) g w') (body_uses xs zs rest h (λ l stands. w' l (λ k. stands_behind l (zs ++ rest) stands ys k)))

  -- ---- short jumps

  module _ (off : Label → ℕ) where
    reach_steps : (k : ℕ) (xs : List Stmt86) → AreSteps G xs → AllReach off k xs
    reach_steps k [] s = tt
    reach_steps k (x ∷ xs) s = (step_reach k x s.0, reach_steps (k + size_of x) xs s.1)
      where
        step_reach : (k : ℕ) (x : Stmt86) → IsStep G x → short_reaches off k x ≡ true
        step_reach k _ (runs i h) = refl
        step_reach k _ (loads r a h) = refl
        step_reach k _ (jumps g h) = refl
        step_reach k _ (calls g h) = refl

    -- where a label is that stands in statements from a place on
    abbrev Stands : ℕ → List Stmt86 → Label → Type 0
    Stands k ys l = off l ≡ unwrap_or (offset_from k ys l) 0

    skip_at : (k at : ℕ) (j : Jump) (x : Stmt86) (ys : List Stmt86) → IsStep G x → offset_from k (Jcc j (Skip at) ∷ (x ∷ (Mark (Skip at) ∷ ys))) (Skip at) ≡ Some (k + 2 + size_of x)
    skip_at k at j x ys s =
        ap (λ b. cond b (Some (k + 2)) (offset_from (k + 2 + size_of x) (Mark (Skip at) ∷ ys) (Skip at))) (step_marks_not G (Skip at) x s)
        ∙ ap (λ b. cond b (Some (k + 2 + size_of x)) (offset_from (k + 2 + size_of x + 0) ys (Skip at))) (eq-eqb at at refl)

    past_reaches : (k n to : ℕ) → n ≤ 3 → to ≡ k + 2 + n → jump_reaches (k + 2) to ≡ true
    past_reaches k n to h e = grind (arith, nat_tests)

    goal_reaches : (k : ℕ) (j : Jump) (g : Goal) → ShortenedReach off k (Jcc j (label_of_goal g) ∷ []) → AllReach off k (Jcc j (label_of_goal g) ∷ [])
    goal_reaches k j (At a) h = (h.0 refl, tt)
    goal_reaches k j Boot h = (h.0 refl, tt)
    goal_reaches k j Bdos h = (h.0 refl, tt)

    shape_reaches : (k at : ℕ) (xs rest : List Stmt86) → HasShape G at xs → Stands k (xs ++ rest) (Skip at) → ShortenedReach off k xs → AllReach off k xs
    shape_reaches k at _ rest (straight xs s) there h = reach_steps k xs s
    shape_reaches k at _ rest (past j x s le) there h =
        let place : off (Skip at) ≡ k + 2 + size_of x = there ∙ ap (λ o. unwrap_or o 0) (skip_at k at j x rest s) in
        let step = reach_steps (k + 2) (x ∷ []) (s, tt) in
        (past_reaches k (size_of x) (off (Skip at)) le place, (step.0, (refl, tt)))
    shape_reaches k at _ rest (short j g s) there h = goal_reaches k j g h

    group_reaches : (k at : ℕ) (xs rest : List Stmt86) → IsGroup G at xs → Stands k (xs ++ rest) (Skip at) → ShortenedReach off k xs → AllReach off k xs
    group_reaches k at _ rest (marked xs h) there r = (refl, shape_reaches (k + 0) at xs rest h there r.1)
    group_reaches k at _ rest (bare xs h) there r = shape_reaches k at xs rest h there r

    -- the labels past conditions of addresses from one on are those that come from here on
    abbrev Follows : ℕ → ℕ → List Stmt86 → Type 0
    Follows from k ys = (a : ℕ) → from ≤ a → Stands k ys (Skip a)

    pub body_reaches : (xs : List Placed) (ys rest : List Stmt86) → IsBody G xs ys → (k from limit : ℕ) → AreLaid from limit xs → Follows from k (ys ++ rest) → ShortenedReach off k ys → AllReach off k ys
    body_reaches _ _ rest none k from limit laid follows r = tt
    body_reaches _ _ rest (more x xs ys zs g h) k from limit laid follows r =
        let parts = shortened-parts off k ys zs r in
        reach-append off k ys zs (group_reaches k x.at ys (zs ++ rest) g (there x.at laid.0) parts.0)
        (body_reaches xs zs rest h (k + sizes_of ys) (x.at + length80 x.instr) limit laid.3 later parts.1)
      where
        there : (a : ℕ) → from ≤ a → Stands k (ys ++ (zs ++ rest)) (Skip a)
        there a le = follows a le ∙ ap (λ ws. unwrap_or (offset_from k ws (Skip a)) 0) (append_assoc ys zs rest)

        later : Follows (x.at + length80 x.instr) (k + sizes_of ys) (zs ++ rest)
        later a le =
            let up = length80-positive x.instr in
            let above = laid.0 in
            let ne : x.at ≢ a = omega (arith, le, up) in
            there a (omega (arith, le, above)) ∙ ap (λ o. unwrap_or o 0) (offset_past k (Skip a) ys (zs ++ rest) (group_marks_not G (Skip a) x.at refl (ne_eqb x.at a ne) ys g))

-- statements that have no short jump reach, and those that use no label use none that is not defined
pub reach_each : (off : Label → ℕ) (xs : List Stmt86) → Each (λ x. (at : ℕ) → short_reaches off at x ≡ true) xs → (at : ℕ) → AllReach off at xs
reach_each off [] h at = tt
reach_each off (x ∷ xs) h at = (h.0 at, reach_each off xs h.1 (at + size_of x))

pub uses_each : (all xs : List Stmt86) → Each (λ x. AllDefined all (used_in x)) xs → UsesDefined all xs
uses_each all [] h = tt
uses_each all (x ∷ xs) h = (h.0, uses_each all xs h.1)
