-- What is found of a text by its parts.
use Rattle.std.proofs.Common.{◌≡◌, ◌∙◌, ℕ, suc, ◌≤◌, Bool, true, false, cond, List, [], ◌∷◌, length, Option, Some, sym, ap, subst, arith}
use Rattle.std.specs.Prelude.{IsTrue}
use Rattle.std.proofs.lemmas.List.{length-map}
use Rattle.asm86_line_types.specs.declared.line.Line86.{Line86}
use Rattle.asm86_line_types.specs.declared.line.Stmt86.{Stmt86}
use Rattle.asm86_line_types.specs.Image.{Image, statements}
use Rattle.asm80_types.specs.declared.program.Placed.{Placed}
use Rattle.asm80_types.specs.Program.{Program}
use Rattle.flow.specs.Blocks.{blocks, leaders, cut_from, onto, extent}
use Rattle.flow.specs.Solving.{Needs, AreAllNeeds, HasNeeds}
use Rattle.sym_block_def.specs.declared.reason.Reason.{Reason}
use Rattle.sym_block_def.specs.BlockMatch.{Keeps}
use Rattle.simulation_def.specs.Runtime.{HasRuntime}
use Rattle.text_check.specs.Parts.{DataStandIn}
use Rattle.simulation_def.specs.Matches.{HasOpening, DataStands, Finds, opening as no_opening, runtime as no_runtime, cells as no_cells, blocks as by_blocks, blocks_reason}
use Rattle.simulation_def.specs.Needed.{needed_by}
use Rattle.text_check.specs.declared.finding.Finding.{Finding}
use Rattle.text_check.specs.declared.finding.Finding.TheVariants.{NotShown}
use Rattle.text_check.specs.Findings.{reason_in, CountsBlocks, IsFinding, AreOfLines, HasFrame, Lacks, opening, runtime, cells}

-- ---- there are not more blocks than instructions

length-onto : (x : Placed) (bs : List (List Placed)) (most : ℕ) → 1 ≤ most → length bs ≤ most → length (onto x bs) ≤ most
length-onto x [] most some h = some
length-onto x (b ∷ bs) most some h = h

length-cut : (p : Program) (before : ℕ) (xs : List Placed) → length (cut_from p before xs) ≤ length xs
length-cut p before [] = omega arith
length-cut p before (x ∷ []) = omega arith
length-cut p before (x ∷ (y ∷ ys)) = by_cut _ (length-cut p 0 (y ∷ ys)) (length-cut p (suc before) (y ∷ ys))
  where
    by_cut : (t : Bool) → length (cut_from p 0 (y ∷ ys)) ≤ length (y ∷ ys) → length (cut_from p (suc before) (y ∷ ys)) ≤ length (y ∷ ys) → length (cond t ((x ∷ []) ∷ cut_from p 0 (y ∷ ys)) (onto x (cut_from p (suc before) (y ∷ ys)))) ≤ length (x ∷ (y ∷ ys))
    by_cut true h g = omega (arith, h)
    by_cut false h g = length-onto x (cut_from p (suc before) (y ∷ ys)) (length (x ∷ (y ∷ ys))) (omega arith) (omega (arith, g))

pub length-blocks : (p : Program) → length (blocks p) ≤ length p.instrs
length-blocks p = let count = length-map (cut_from p 0 p.instrs) extent in let few = length-cut p 0 p.instrs in omega (arith, count, few)

-- ---- findings

module _ (p : Program) (text : List Stmt86) (image : Image) (lines : List Line86) (same : AreOfLines text image lines) (cut : List (ℕ × ℕ)) (keeps : Keeps) where
  opening_of : HasOpening p text → HasOpening p (statements lines)
  opening_of h = subst (HasOpening p) same.stated h

  runtime_of : HasRuntime text → HasRuntime (statements lines)
  runtime_of h = subst HasRuntime same.stated h

  data_of : DataStandIn p image → DataStands p lines
  data_of h = subst (DataStandIn p) same.made.is h

  -- what is lacking is found
  lacking : (r : Reason) → Lacks p text image r → Finds p lines cut keeps (Some (0, r))
  lacking _ (opening none) = no_opening (λ h. none (subst (HasOpening p) (sym same.stated) h))
  lacking _ (runtime has none) = no_runtime (opening_of has) (λ h. none (subst HasRuntime (sym same.stated) h))
  lacking _ (cells has runs none) = no_cells (opening_of has) (runtime_of runs) (λ h. none (subst (DataStandIn p) (sym same.made.is) h))

  -- where nothing is, it is what is found of the blocks
  framed : (o : Option (ℕ × Reason)) → HasFrame p text image → o ≡ blocks_reason p text keeps cut → Finds p lines cut keeps o
  framed o f e =
      subst (Finds p lines cut keeps) (sym (e ∙ ap (λ xs. blocks_reason p xs keeps cut) same.stated))
      (by_blocks (opening_of f.opening) (runtime_of f.runtime) (data_of f.cells))

module _ (p : Program) (text : List Stmt86) (image : Image) (lines : List Line86) (same : AreOfLines text image lines) (has : HasNeeds p) where
  pub is_lacking : (r : Reason) → Lacks p text image r → IsFinding p lines (NotShown 0 r)
  is_lacking r h = record { needs = has.0; are = has.1; finds = lacking p text image lines same (blocks p) (needed_by p has.0) r h; counts = tt }

  pub is_found : (o : Option (ℕ × Reason)) (f : Finding) → HasFrame p text image → ((n : Needs) → AreAllNeeds p n → o ≡ blocks_reason p text (needed_by p n) (blocks p)) → reason_in f ≡ o → CountsBlocks p f → IsFinding p lines f
  is_found o f frame found e counts = record {
    needs = has.0;
    are = has.1;
    finds = framed p text image lines same (blocks p) (needed_by p has.0) (reason_in f) frame (e ∙ found has.0 has.1);
    counts = counts;
  }

pub not_true : (b : Bool) → b ≡ false → IsTrue b → ⊥
not_true b e h = cc

-- the leaders are few
pub few_leaders : (p : Program) (ls : List ℕ) → ls ≡ leaders p → length p.instrs ≤ 65022 → length ls ≤ 65022
few_leaders p ls e few =
    let same = ap length e in
    let count = length-map (blocks p) (λ (b : ℕ × ℕ). b.0) in
    let most = length-blocks p in
    omega (arith, same, count, most, few)
