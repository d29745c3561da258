-- Nodes and their marks: a mark tells whether an Adjust stands in the term, and changes nothing else that a node says.
use Rattle.std.proofs.Common.{◌≡◌, ℕ, ◌<◌, Bool, true, false, List, refl, ap, ◌∙◌, arith}
use Rattle.cells.specs.declared.Place.TheVariants.{At, Exit}
use Rattle.xlt_pool.specs.declared.node.Node.{Node}
use Rattle.sym_terms.specs.declared.head.Head.{Head}
use Rattle.sym_terms.specs.declared.head.Head.TheVariants.{Code as CodeHead}
use Rattle.sym_terms.specs.declared.numbers.Kind.{Kind}
use Rattle.sym_terms.specs.declared.numbers.Kind.TheVariants.{FlagByte as FlagByteKind, Rest as RestKind}
use Rattle.sym_terms.specs.Numbers.{kind_of, says_adjusted}
use Rattle.sym_terms.specs.Heads.{node_of, marked_node, head_by}
use Rattle.sym_terms.specs.Trees.{Entry, entry_by, entry_of}

pub op_below : (h : Head) (r : ℕ) → (node_of h r).op < 32
op_below (CodeHead (At a) high) r = omega arith
op_below (CodeHead Exit high) r = omega arith
op_below h r = omega arith

pub a_marked : (m : Bool) (n : Node) → (marked_node m n).a ≡ n.a
a_marked true n = refl
a_marked false n = refl

pub b_marked : (m : Bool) (n : Node) → (marked_node m n).b ≡ n.b
b_marked true n = refl
b_marked false n = refl

pub c_marked : (m : Bool) (n : Node) → (marked_node m n).c ≡ n.c
c_marked true n = refl
c_marked false n = refl

pub kind_marked : (m : Bool) (h : Head) (r : ℕ) → kind_of (marked_node m (node_of h r)).op ≡ kind_of (node_of h r).op
kind_marked false h r = refl
kind_marked true (CodeHead (At a) high) r = refl
kind_marked true (CodeHead Exit high) r = refl
kind_marked true h r = refl

-- the mark is read back
pub mark_back : (m : Bool) (h : Head) (r : ℕ) → says_adjusted (marked_node m (node_of h r)).op ≡ m
mark_back false (CodeHead (At a) high) r = refl
mark_back false (CodeHead Exit high) r = refl
mark_back false h r = refl
mark_back true (CodeHead (At a) high) r = refl
mark_back true (CodeHead Exit high) r = refl
mark_back true h r = refl

by_kind : (m : Bool) (k : Kind) (n : Node) → head_by k (marked_node m n) ≡ head_by k n
by_kind false k n = refl
by_kind true FlagByteKind n = refl
by_kind true k n = refl

pub head_marked : (m : Bool) (h : Head) (r : ℕ) → head_by (kind_of (marked_node m (node_of h r)).op) (marked_node m (node_of h r)) ≡ head_by (kind_of (node_of h r).op) (node_of h r)
head_marked m h r = by_kind m (kind_of (marked_node m (node_of h r)).op) (node_of h r) ∙ ap (λ k. head_by k (node_of h r)) (kind_marked m h r)

entry_by_kind : (es : List Entry) (m : Bool) (k : Kind) (n : Node) → entry_by k es (marked_node m n) ≡ entry_by k es n
entry_by_kind es false k n = refl
entry_by_kind es true FlagByteKind n = refl
entry_by_kind es true RestKind n = refl
entry_by_kind es true k n = refl

pub entry_marked : (es : List Entry) (m : Bool) (h : Head) (r : ℕ) → entry_of es (marked_node m (node_of h r)) ≡ entry_of es (node_of h r)
entry_marked es m h r = entry_by_kind es m (kind_of (marked_node m (node_of h r)).op) (node_of h r) ∙ ap (λ k. entry_by k es (node_of h r)) (kind_marked m h r)
