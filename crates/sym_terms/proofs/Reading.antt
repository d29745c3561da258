-- What a node of the list says of its term.
use Rattle.std.proofs.Common.{◌≡◌, ℕ, ◌<◌, Bool, true, false, List, [], ◌∷◌, length, Some, refl, sym, ap, subst, ◌∙◌, arith, inl, inr}
use Rattle.std.specs.List.{slice_get}
use Rattle.std.proofs.lemmas.Bool.{true≢false, false≢true}
use Rattle.std.proofs.lemmas.Option.{same_Some, slice_get_within}
use Rattle.cells.specs.declared.Place.TheVariants.{At, Exit}
use Rattle.xlt_pool.specs.declared.node.Node.{Node}
use Rattle.xlt_pool.specs.Contents.{NodeStandsAt}
use Rattle.sym_terms.specs.declared.head.Term.{Term as TermId}
use Rattle.sym_terms.specs.declared.head.Head.{Head}
use Rattle.sym_terms.specs.declared.head.Head.TheVariants.{FlagByte as FlagByteHead, Code as CodeHead}
use Rattle.sym_terms.specs.declared.numbers.Kind.{Kind}
use Rattle.sym_terms.specs.declared.numbers.Kind.TheVariants.{FlagByte as FlagByteKind}
use Rattle.sym_terms.specs.Numbers.{kind_of}
use Rattle.sym_terms.specs.Term.{Term, is_adjusted}
use Rattle.sym_terms.specs.Heads.{operands, is_flag_byte_head, node_of, marked_node, head_by, number_of_id, term_of}
use Rattle.sym_terms.specs.Trees.{Entry, Tree, Rest, tree_at, tree_of_head, AreTrees, entry_of, entries_of}
use Rattle.sym_terms.specs.Forms.{HasRest, IsFormed, IsHeadNode, IsTermList}
use Rattle.sym_terms.proofs.Entries.{length-entries_of}
use Rattle.sym_terms.proofs.Heads.{head_back, same_id, ac_in, p_in, cy_in, is_tree}
use Rattle.sym_terms.proofs.Marks.{a_marked, b_marked, c_marked, kind_marked, head_marked}
use Rattle.sym_terms.proofs.Growing.{node_formed, node_entry, head_entry, rest_entry, IsRead}

pub entry_within : (nodes : List Node) (k : ℕ) (entry : Entry) → slice_get (entries_of nodes) k ≡ Some entry → k < length nodes
entry_within nodes k entry h =
    let below : k < length (entries_of nodes) = slice_get_within (entries_of nodes) k entry h in
    omega (arith, length-entries_of nodes)

plain_head : (h : Head) (r : ℕ) → (kind_of (node_of h r).op ≡ FlagByteKind → ⊥) → is_flag_byte_head h ≡ false
plain_head (FlagByteHead s z ac p cy) r f = absurd (f refl)
plain_head h r f = refl

-- the kind that the node of a head says, and the mark that it has
abbrev mark : (es : List Entry) (n : Node) → IsHeadNode es n → Bool
mark es n p = is_adjusted (tree_of_head es p.head)

kind_said : (es : List Entry) (n : Node) (p : IsHeadNode es n) → kind_of n.op ≡ kind_of (node_of p.head p.further).op
kind_said es n p = ap (λ m. kind_of m.op) p.is ∙ kind_marked (mark es n p) p.head p.further

-- a node of another kind than FlagByte gives its head
pub read_plain : (nodes : List Node) (n : Node) (p : IsHeadNode (entries_of nodes) n) → (kind_of n.op ≡ FlagByteKind → ⊥) → head_by (kind_of n.op) n ≡ p.head
read_plain nodes n p f =
    ap (λ m. head_by (kind_of m.op) m) p.is
    ∙ head_marked (mark (entries_of nodes) n p) p.head p.further
    ∙ head_back p.head p.further (plain_head p.head p.further (λ q. f (kind_said (entries_of nodes) n p ∙ q)))

-- the further node of a FlagByte gives its last three flags
rest_is : (nodes : List Node) → IsTermList nodes → (rest : ℕ) (r : Node) (ac p cy : TermId) → NodeStandsAt nodes rest r → slice_get (entries_of nodes) rest ≡ Some (Rest (tree_at (entries_of nodes) (number_of_id ac)) (tree_at (entries_of nodes) (number_of_id p)) (tree_at (entries_of nodes) (number_of_id cy)))
    → AreTrees (entries_of nodes) (ac ∷ p ∷ cy ∷ []) → (term_of r.a ≡ ac) × (term_of r.b ≡ p) × (term_of r.c ≡ cy)
rest_is nodes list rest r ac p cy stands given trees = by_form (node_formed nodes list rest r stands)
  where
    es : List Entry
    es = entries_of nodes

    entry : entry_of es r ≡ Rest (tree_at es (number_of_id ac)) (tree_at es (number_of_id p)) (tree_at es (number_of_id cy))
    entry = same_Some _ _ (sym (node_entry nodes list rest r stands) ∙ given)

    by_form : IsFormed es r → (term_of r.a ≡ ac) × (term_of r.b ≡ p) × (term_of r.c ≡ cy)
    by_form (inl q) =
        let differ : Tree (tree_of_head es q.head) ≡ Rest (tree_at es (number_of_id ac)) (tree_at es (number_of_id p)) (tree_at es (number_of_id cy)) = sym (head_entry es r q) ∙ entry in
        absurd (true≢false (ap is_tree differ))
    by_form (inr q) =
        let same : Rest (tree_at es (number_of_id q.ac)) (tree_at es (number_of_id q.p)) (tree_at es (number_of_id q.cy)) ≡ Rest (tree_at es (number_of_id ac)) (tree_at es (number_of_id p)) (tree_at es (number_of_id cy)) = sym (rest_entry es r q) ∙ entry in (
          ap (λ m. term_of m.a) q.is ∙ same_id es list.distinct q.ac ac q.given.0 trees.0 (ap ac_in same),
          ap (λ m. term_of m.b) q.is ∙ same_id es list.distinct q.p p q.given.1.0 trees.1.0 (ap p_in same),
          ap (λ m. term_of m.c) q.is ∙ same_id es list.distinct q.cy cy q.given.1.1.0 trees.1.1.0 (ap cy_in same),
        )

-- whether a kind is FlagByte
abbrev says_flags : Kind → Bool
says_flags FlagByteKind = true
says_flags kind = false

-- a node of the kind FlagByte, and its further node
pub rest_within : (nodes : List Node) (n : Node) (p : IsHeadNode (entries_of nodes) n) → kind_of n.op ≡ FlagByteKind → n.c < length nodes
rest_within nodes n p f = by_head p.head p.further (mark (entries_of nodes) n p) p.is (sym (kind_said (entries_of nodes) n p) ∙ f) p.rest
  where
    by_head : (h : Head) (r : ℕ) (m : Bool) → n ≡ marked_node m (node_of h r) → kind_of (node_of h r).op ≡ FlagByteKind → HasRest (entries_of nodes) h r → n.c < length nodes
    by_head (FlagByteHead s z ac p cy) r m e f q = subst (λ k. k < length nodes) (sym (ap (λ x. x.c) e ∙ c_marked m (node_of (FlagByteHead s z ac p cy) r))) (entry_within nodes r (Rest (tree_at (entries_of nodes) (number_of_id ac)) (tree_at (entries_of nodes) (number_of_id p)) (tree_at (entries_of nodes) (number_of_id cy))) q)
    by_head (CodeHead (At a) high) r m e f q = absurd (false≢true (ap says_flags f))
    by_head (CodeHead Exit high) r m e f q = absurd (false≢true (ap says_flags f))
    by_head h r m e f q = absurd (false≢true (ap says_flags f))

pub read_flags : (nodes : List Node) → IsTermList nodes → (n r : Node) (p : IsHeadNode (entries_of nodes) n) → kind_of n.op ≡ FlagByteKind → NodeStandsAt nodes n.c r → FlagByteHead (term_of n.a) (term_of n.b) (term_of r.a) (term_of r.b) (term_of r.c) ≡ p.head
read_flags nodes list n r p f stands = by_head p.head p.further (mark (entries_of nodes) n p) p.is (sym (kind_said (entries_of nodes) n p) ∙ f) p.given p.rest
  where
    by_head : (h : Head) (k : ℕ) (m : Bool) → n ≡ marked_node m (node_of h k) → kind_of (node_of h k).op ≡ FlagByteKind → AreTrees (entries_of nodes) (operands h) → HasRest (entries_of nodes) h k
        → FlagByteHead (term_of n.a) (term_of n.b) (term_of r.a) (term_of r.b) (term_of r.c) ≡ h
    by_head (FlagByteHead s z ac p cy) k m e f g q =
        let is_s : term_of n.a ≡ s = ap term_of (ap (λ x. x.a) e ∙ a_marked m (node_of (FlagByteHead s z ac p cy) k)) in
        let is_z : term_of n.b ≡ z = ap term_of (ap (λ x. x.b) e ∙ b_marked m (node_of (FlagByteHead s z ac p cy) k)) in
        let further : n.c ≡ k = ap (λ x. x.c) e ∙ c_marked m (node_of (FlagByteHead s z ac p cy) k) in
        let last = rest_is nodes list k r ac p cy (subst (λ j. NodeStandsAt nodes j r) further stands) q g.1.1 in
        ap (λ x. FlagByteHead x (term_of n.b) (term_of r.a) (term_of r.b) (term_of r.c)) is_s
        ∙ ap (λ x. FlagByteHead s x (term_of r.a) (term_of r.b) (term_of r.c)) is_z
        ∙ ap (λ x. FlagByteHead s z x (term_of r.b) (term_of r.c)) last.0
        ∙ ap (λ x. FlagByteHead s z ac x (term_of r.c)) last.1
        ∙ ap (λ x. FlagByteHead s z ac p x) last.2
    by_head (CodeHead (At a) high) k m e f g q = absurd (false≢true (ap says_flags f))
    by_head (CodeHead Exit high) k m e f g q = absurd (false≢true (ap says_flags f))
    by_head h k m e f g q = absurd (false≢true (ap says_flags f))

-- what is read of a term, by its head
pub tells : (nodes : List Node) (n : Node) (tree : Term) (h : Head) (r : IsRead nodes n tree) → h ≡ r.node.head → (tree ≡ tree_of_head (entries_of nodes) h) × AreTrees (entries_of nodes) (operands h)
tells nodes n tree h r e = (r.is ∙ ap (tree_of_head (entries_of nodes)) (sym e), subst (λ g. AreTrees (entries_of nodes) (operands g)) (sym e) r.node.given)
