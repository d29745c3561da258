-- A term without operands has no pairs of them.
use Rattle.std.proofs.Common.{◌≡◌, ◌⊎◌, inl, inr, ℕ, Bool, List, [], refl}
use Rattle.cells.specs.declared.Place.{Place}
use Rattle.cells.specs.declared.Part.{Part}
use Rattle.sym_terms.specs.declared.head.Head.{Head}
use Rattle.sym_terms.specs.declared.head.Head.TheVariants.{Num, Start, StartSp, Loaded8, Loaded16, Code, Unknown}
use Rattle.sym_terms.specs.Term.{Term}
use Rattle.sym_terms.specs.Trees.{Entry, tree_of_head}
use Rattle.block_explain.specs.Smallest.{operand_pairs}

abbrev pub IsLeaf : Head → Type 0
IsLeaf h =
    ((n : ℕ) × (h ≡ Num n)) ⊎ (((part : Part) × (h ≡ Start part)) ⊎ ((h ≡ StartSp) ⊎ (((k : ℕ) × (h ≡ Loaded8 k)) ⊎ (((k : ℕ) × (h ≡ Loaded16 k)) ⊎ (((q : Place) × (high : Bool) × (h ≡ Code q high)) ⊎ (h ≡ Unknown))))))

pub no_pairs : (es : List Entry) (h : Head) (t : Term) → IsLeaf h → operand_pairs (tree_of_head es h) t ≡ []
no_pairs es h t (inl (n, e)) = rw e refl
no_pairs es h t (inr (inl (part, e))) = rw e refl
no_pairs es h t (inr (inr (inl e))) = rw e refl
no_pairs es h t (inr (inr (inr (inl (k, e))))) = rw e refl
no_pairs es h t (inr (inr (inr (inr (inl (k, e)))))) = rw e refl
no_pairs es h t (inr (inr (inr (inr (inr (inl (q, high, e))))))) = rw e refl
no_pairs es h t (inr (inr (inr (inr (inr (inr e)))))) = rw e refl
