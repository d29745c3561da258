-- A term without operands is said alike at any depth.
use Rattle.std.proofs.Common.{◌≡◌, ◌⊎◌, inl, inr, ℕ, suc, Bool, List, refl}
use Rattle.cells.specs.declared.Place.{Place}
use Rattle.cells.specs.declared.Part.{Part}
use Rattle.sym_terms.specs.declared.head.Head.{Head}
use Rattle.sym_terms.specs.declared.head.Head.TheVariants.{Num, Start, StartSp, Loaded8, Loaded16, Code, Unknown}
use Rattle.sym_terms.specs.Trees.{Entry, tree_of_head}
use Rattle.block_explain.specs.Words.{words_to}

abbrev pub IsLeaf : Head → Type 0
IsLeaf h =
    ((n : ℕ) × (h ≡ Num n)) ⊎ (((part : Part) × (h ≡ Start part)) ⊎ ((h ≡ StartSp) ⊎ (((k : ℕ) × (h ≡ Loaded8 k)) ⊎ (((k : ℕ) × (h ≡ Loaded16 k)) ⊎ (((q : Place) × (high : Bool) × (h ≡ Code q high)) ⊎ (h ≡ Unknown))))))

pub leaf_words : (es : List Entry) (depth : ℕ) (h : Head) → IsLeaf h → words_to 0 (tree_of_head es h) ≡ words_to (suc depth) (tree_of_head es h)
leaf_words es depth h (inl (n, e)) = rw e refl
leaf_words es depth h (inr (inl (part, e))) = rw e refl
leaf_words es depth h (inr (inr (inl e))) = rw e refl
leaf_words es depth h (inr (inr (inr (inl (k, e))))) = rw e refl
leaf_words es depth h (inr (inr (inr (inr (inl (k, e)))))) = rw e refl
leaf_words es depth h (inr (inr (inr (inr (inr (inl (q, high, e))))))) = rw e refl
leaf_words es depth h (inr (inr (inr (inr (inr (inr e)))))) = rw e refl
