-- The data cells, one by one.
use Rattle.std.proofs.Common.{◌≡◌, ◌↔◌, ◌∙◌, ℕ, suc, ◌+◌, ◌<◌, List, ◌∷◌, ◌++◌, length, get_or, sym, ap, subst, arith}
use Rattle.std.specs.Prelude.{drop}
use Rattle.std.proofs.Math.Seq.{drop-cons}
use Rattle.cells.specs.declared.Cell.{Cell}
use Rattle.asm86_line_types.specs.Image.{Image}
use Rattle.simulation_def.specs.Matches.{byte_at}
use Rattle.text_check.specs.Parts.{CellStands}
use Rattle.text_check.proofs.Cells.{AllStand}
use Rattle.cmd_explain.specs.Lines.{data_line, found_line}
use Rattle.cmd_explain.specs.Explained.{DataTold, apart, stands}

module _ (image : Image) (cs : List (ℕ × Cell)) where
  -- what is told of the cells from one on is told of all
  abbrev pub GoesOn : ℕ → Type 0
  GoesOn i = (text : List ℕ) → DataTold image (drop i cs) text → DataTold image cs text

  module _ (i a : ℕ) (c : Cell) (is : drop i cs ≡ (a, c) ∷ drop (i + 1) cs) where
    pub cell_on : CellStands image a c → GoesOn i → GoesOn (i + 1)
    cell_on h inv = λ text told. inv text (subst (λ xs. DataTold image xs text) (sym is) (stands h told))

    pub cell_apart : (CellStands image a c → ⊥) → GoesOn i → DataTold image cs (data_line a c ++ found_line (byte_at image.cells a))
    cell_apart h inv = inv (data_line a c ++ found_line (byte_at image.cells a)) (subst (λ xs. DataTold image xs (data_line a c ++ found_line (byte_at image.cells a))) (sym is) (apart h))

-- a cell at its place
pub cell_is : (cs : List (ℕ × Cell)) (i : ℕ) (d : ℕ × Cell) → i < length cs → drop i cs ≡ ((get_or cs i d).0, (get_or cs i d).1) ∷ drop (i + 1) cs
cell_is cs i d lt = drop-cons cs i d lt ∙ ap (λ n. ((get_or cs i d).0, (get_or cs i d).1) ∷ drop n cs) (next i)
  where
    next : (n : ℕ) → suc n ≡ n + 1
    next n = omega arith

-- one cell more stands
pub cells_on : (image : Image) (cs : List (ℕ × Cell)) (i : ℕ) (d : ℕ × Cell) → i < length cs → CellStands image (get_or cs i d).0 (get_or cs i d).1 → AllStand image (drop i cs) ↔ AllStand image cs → AllStand image (drop (i + 1) cs) ↔ AllStand image cs
cells_on image cs i d lt here inv = (
  λ h. inv.0 (subst (AllStand image) (sym (cell_is cs i d lt)) (here, h)),
  λ all. (subst (AllStand image) (cell_is cs i d lt) (inv.1 all)).1,
)
