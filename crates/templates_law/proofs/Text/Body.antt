-- The statements of a program's instructions, block after block, in any style.
use Rattle.std.proofs.Common.{◌≡◌, ℕ, List, [], ◌∷◌, ◌++◌, subst, append_assoc, Bool, true, false, cond}
use Rattle.std.proofs.lemmas.Bool.{false≢true}
use Rattle.asm86_line_types.specs.declared.line.Label.TheVariants.{At as Line}
use Rattle.asm86_line_types.specs.declared.line.Stmt86.{Stmt86}
use Rattle.asm86_line_types.specs.declared.line.Stmt86.TheVariants.{Mark}
use Rattle.i80.specs.declared.Goal.{Goal}
use Rattle.asm80_types.specs.declared.program.Placed.{Placed}
use Rattle.asm80_types.specs.Program.{IsCoded}
use Rattle.flow.proofs.Cuts.{flat}
use Rattle.templates.proofs.Pairs.{BeginsByLahf, pair_last, pair_next}
use Rattle.templates.specs.Style.{Style, is_pair, knows_function, written_in_style, label_within, block_from, block_in_style, blocks_of}
use Rattle.templates_law.proofs.Text.Shapes.{Names, names_map, HasShape, written_shape}

-- the statements of an instruction, with its label or without
pub data IsGroup (G : Goal → Type 0) (at : ℕ) : List Stmt86 → Type 0 where
  marked : (xs : List Stmt86) → HasShape G at xs → IsGroup G at (Mark (Line at) ∷ xs)
  bare : (xs : List Stmt86) → HasShape G at xs → IsGroup G at xs

-- those of instructions one after the other
pub data IsBody (G : Goal → Type 0) : List Placed → List Stmt86 → Type 0 where
  none : IsBody G [] []
  more : (x : Placed) (xs : List Placed) (ys zs : List Stmt86) → IsGroup G x.at ys → IsBody G xs zs → IsBody G (x ∷ xs) (ys ++ zs)

-- the instructions' numbers are in their ranges, and they name places of a kind
abbrev pub IsKnown : (Goal → Type 0) → Placed → Type 0
IsKnown G x = IsCoded x.instr × Names G x.instr

abbrev pub AreKnown : (Goal → Type 0) → List Placed → Type 0
AreKnown G [] = Unit {0}
AreKnown G (x ∷ xs) = IsKnown G x × AreKnown G xs

pub known_front : (G : Goal → Type 0) (xs ys : List Placed) → AreKnown G (xs ++ ys) → AreKnown G xs × AreKnown G ys
known_front G [] ys h = (tt, h)
known_front G (x ∷ xs) ys h = let r = known_front G xs ys h.1 in ((h.0, r.0), r.1)

pub known_map : (G H : Goal → Type 0) → ((g : Goal) → G g → H g) → (xs : List Placed) → AreKnown G xs → AreKnown H xs
known_map G H f [] h = tt
known_map G H f (x ∷ xs) h = ((h.0.0, names_map G H f x.instr h.0.1), known_map G H f xs h.1)

-- ---- blocks

-- an instruction's label, if it has one
abbrev label_if : Bool → ℕ → List Stmt86
label_if has_label at = cond has_label (Mark (Line at) ∷ []) []

group_of : (G : Goal → Type 0) (has_label : Bool) (at : ℕ) (xs : List Stmt86) → HasShape G at xs → IsGroup G at (label_if has_label at ++ xs)
group_of G true at xs h = marked xs h
group_of G false at xs h = bare xs h

regroup : (a w l b z : List Stmt86) → (a ++ w) ++ (l ++ (b ++ z)) ≡ a ++ ((w ++ (l ++ b)) ++ z)
regroup a w l b z = simp append_assoc

module _ (G : Goal → Type 0) (s : Style) where
  -- an instruction before those that follow in its block
  one_more : (has_label first c : Bool) (x : Placed) (xs ps : List Placed) (zs : List Stmt86) → IsKnown G x → BeginsByLahf s first (x ∷ xs)
      → IsBody G (xs ++ ps) (label_within s xs ++ (block_from s (is_pair s x xs) (knows_function c x.instr) xs ++ zs))
      → IsBody G (x ∷ (xs ++ ps)) (label_if has_label x.at ++ (block_from s first c (x ∷ xs) ++ zs))
  one_more has_label first c x xs ps zs known begins rest =
      subst (IsBody G (x ∷ (xs ++ ps))) (regroup (label_if has_label x.at) (written_in_style s first (is_pair s x xs) c x) (label_within s xs) (block_from s (is_pair s x xs) (knows_function c x.instr) xs) zs)
      (more x (xs ++ ps) _ _ (group_of G has_label x.at _ (written_shape G s first (is_pair s x xs) c x x.instr known.0 known.1 (begins, pair_last s x xs))) rest)

  rest_body : (first c : Bool) (xs ps : List Placed) (zs : List Stmt86) → AreKnown G xs → BeginsByLahf s first xs → IsBody G ps zs → IsBody G (xs ++ ps) (label_within s xs ++ (block_from s first c xs ++ zs))
  rest_body first c [] ps zs known begins h = h
  rest_body first c (x ∷ xs) ps zs known begins h =
      one_more s.all_labels first c x xs ps zs known.0 begins
      (rest_body (is_pair s x xs) (knows_function c x.instr) xs ps zs known.1 (pair_next s x xs) h)

  block_body : (b ps : List Placed) (zs : List Stmt86) → AreKnown G b → IsBody G ps zs → IsBody G (b ++ ps) (block_in_style s b ++ zs)
  block_body [] ps zs known h = h
  block_body (x ∷ xs) ps zs known h =
      one_more true false false x xs ps zs known.0 (λ no. absurd (false≢true no))
      (rest_body (is_pair s x xs) (knows_function false x.instr) xs ps zs known.1 (pair_next s x xs) h)

  pub blocks_body : (bs : List (List Placed)) → AreKnown G (flat bs) → IsBody G (flat bs) (blocks_of s bs)
  blocks_body [] known = none
  blocks_body (b ∷ bs) known =
      let k = known_front G b (flat bs) known in
      block_body b (flat bs) (blocks_of s bs) k.0 (blocks_body bs k.1)
