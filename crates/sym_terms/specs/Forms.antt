-- How the terms are kept: the nodes of a pool are those of heads and of rests of FlagBytes, each after its operands.
use Rattle.std.specs.Prelude.{◌≡◌, ℕ, List, [], ◌∷◌, ◌⊎◌, Some, take, slice_get}
use Rattle.xlt_pool.specs.declared.node.Node.{Node}
use Rattle.xlt_pool.specs.Contents.{NodeStandsAt}
use Rattle.sym_terms.specs.declared.head.Term.{Term as TermId}
use Rattle.sym_terms.specs.declared.head.Head.{Head}
use Rattle.sym_terms.specs.declared.head.Head.TheVariants.{FlagByte as FlagByteHead}
use Rattle.sym_terms.specs.Term.{Term, is_adjusted}
use Rattle.sym_terms.specs.Making.{IsTermMade}
use Rattle.sym_terms.specs.Heads.{operands, node_of, marked_node, rest_node, number_of_id}
use Rattle.sym_terms.specs.Trees.{Entry, Tree, Rest, tree_at, tree_of_head, AreTrees, entries_of}

-- the further node of a FlagByte has its last three flags
abbrev pub HasRest : List Entry → Head → ℕ → Type 0
HasRest es (FlagByteHead s z ac p cy) rest = slice_get es rest ≡ Some (Rest (tree_at es (number_of_id ac)) (tree_at es (number_of_id p)) (tree_at es (number_of_id cy)))
HasRest es h rest = Unit {0}

pub record IsHeadNode (es : List Entry) (node : Node) : Type 0 where
  pub head : Head
  pub further : ℕ
  pub is : node ≡ marked_node (is_adjusted (tree_of_head es head)) (node_of head further)
  pub given : AreTrees es (operands head)
  pub rest : HasRest es head further

pub record IsRestNode (es : List Entry) (node : Node) : Type 0 where
  pub ac : TermId
  pub p : TermId
  pub cy : TermId
  pub is : node ≡ rest_node ac p cy
  pub given : AreTrees es (ac ∷ p ∷ cy ∷ [])

abbrev pub IsFormed : List Entry → Node → Type 0
IsFormed es node = IsHeadNode es node ⊎ IsRestNode es node

pub record IsTermList (nodes : List Node) : Type 0 where
  pub formed : (k : ℕ) (node : Node) → NodeStandsAt nodes k node → IsFormed (take k (entries_of nodes)) node
  pub distinct : (i j : ℕ) (entry : Entry) → slice_get (entries_of nodes) i ≡ Some entry → slice_get (entries_of nodes) j ≡ Some entry → i ≡ j
  pub made : (i : ℕ) (t : Term) → slice_get (entries_of nodes) i ≡ Some (Tree t) → IsTermMade t
