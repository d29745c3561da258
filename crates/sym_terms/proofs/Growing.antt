-- The terms of a pool that one node joins, or that is cut.
use Rattle.std.proofs.Common.{◌≡◌, ℕ, ◌<◌, ◌≤◌, List, [], ◌∷◌, ◌++◌, length, take, Some, refl, sym, ap, subst, ◌∙◌, arith, get_or, inl, inr, ⊎_elim}
use Rattle.std.specs.List.{slice_get}
use Rattle.std.proofs.lemmas.Bool.{true≢false, false≢true}
use Rattle.std.proofs.lemmas.List.{take-append-le}
use Rattle.std.proofs.Math.Seq.{take-append_seam}
use Rattle.std.proofs.lemmas.Option.{same_Some, slice_get_within, slice_get-get_or}
use Rattle.xlt_pool.specs.declared.node.Node.{Node}
use Rattle.xlt_pool.specs.Contents.{Contents, NodeStandsAt, IsAbsent}
use Rattle.xlt_pool.proofs.Places.{get_push}
use Rattle.sym_terms.specs.declared.head.Head.{Head}
use Rattle.sym_terms.specs.declared.head.Head.TheVariants.{FlagByte as FlagByteHead}
use Rattle.sym_terms.specs.Term.{Term, is_adjusted}
use Rattle.sym_terms.specs.Making.{IsTermMade}
use Rattle.sym_terms.specs.Heads.{operands, node_of, marked_node, rest_node, number_of_id, term_of}
use Rattle.sym_terms.specs.Trees.{Entry, Tree, Rest, term_of_entry, tree_at, tree_of_head, entry_of, entries_of, AreTrees, tree_in, AreTerms}
use Rattle.sym_terms.specs.Forms.{HasRest, IsHeadNode, IsRestNode, IsFormed, IsTermList}
use Rattle.sym_terms.proofs.Places.{get_from_cut, below_cut, cut_of_cut}
use Rattle.sym_terms.proofs.Entries.{entries_push, length-entries_of, entries_cut, entry_at}
use Rattle.sym_terms.proofs.Heads.{AreApart, entry_back, same_id, same_heads, ac_in, p_in, cy_in, is_tree, lift_tree_at, lift_trees, lift_head}
use Rattle.sym_terms.proofs.Marks.{entry_marked}

same_further : (es : List Entry) → AreApart es → (h : Head) (r r' : ℕ) → HasRest es h r → HasRest es h r' → node_of h r ≡ node_of h r'
same_further es d (FlagByteHead s z ac p cy) r r' q q' = ap (λ x. node_of (FlagByteHead s z ac p cy) x) (d r r' (Rest (tree_at es (number_of_id ac)) (tree_at es (number_of_id p)) (tree_at es (number_of_id cy))) q q')
same_further es d h r r' q q' = refl

-- what a node stands for, by its form

pub head_entry : (es : List Entry) (n : Node) (p : IsHeadNode es n) → entry_of es n ≡ Tree (tree_of_head es p.head)
head_entry es n p = ap (entry_of es) p.is ∙ entry_marked es (is_adjusted (tree_of_head es p.head)) p.head p.further ∙ entry_back es p.head p.further p.rest

pub rest_entry : (es : List Entry) (n : Node) (p : IsRestNode es n) → entry_of es n ≡ Rest (tree_at es (number_of_id p.ac)) (tree_at es (number_of_id p.p)) (tree_at es (number_of_id p.cy))
rest_entry es n p = ap (entry_of es) p.is

-- nodes that stand for one thing are one node
pub same_nodes : (es : List Entry) → AreApart es → (n m : Node) → IsFormed es n → IsFormed es m → entry_of es n ≡ entry_of es m → n ≡ m
same_nodes es d n m (inl p) (inl q) e =
    let trees : Tree (tree_of_head es p.head) ≡ Tree (tree_of_head es q.head) = sym (head_entry es n p) ∙ e ∙ head_entry es m q in
    let heads : p.head ≡ q.head = same_heads es d p.head q.head p.given q.given (ap term_of_entry trees) in
    p.is
    ∙ ap (marked_node (is_adjusted (tree_of_head es p.head))) (same_further es d p.head p.further q.further p.rest (subst (λ h. HasRest es h q.further) (sym heads) q.rest))
    ∙ ap (λ h. marked_node (is_adjusted (tree_of_head es h)) (node_of h q.further)) heads
    ∙ sym q.is
same_nodes es d n m (inl p) (inr q) e =
    let both : Tree (tree_of_head es p.head) ≡ Rest (tree_at es (number_of_id q.ac)) (tree_at es (number_of_id q.p)) (tree_at es (number_of_id q.cy)) = sym (head_entry es n p) ∙ e ∙ rest_entry es m q in
    absurd (true≢false (ap is_tree both))
same_nodes es d n m (inr p) (inl q) e =
    let both : Rest (tree_at es (number_of_id p.ac)) (tree_at es (number_of_id p.p)) (tree_at es (number_of_id p.cy)) ≡ Tree (tree_of_head es q.head) = sym (rest_entry es n p) ∙ e ∙ head_entry es m q in
    absurd (false≢true (ap is_tree both))
same_nodes es d n m (inr p) (inr q) e =
    let both : Rest (tree_at es (number_of_id p.ac)) (tree_at es (number_of_id p.p)) (tree_at es (number_of_id p.cy)) ≡ Rest (tree_at es (number_of_id q.ac)) (tree_at es (number_of_id q.p)) (tree_at es (number_of_id q.cy)) = sym (rest_entry es n p) ∙ e ∙ rest_entry es m q in
    let ac : p.ac ≡ q.ac = same_id es d p.ac q.ac p.given.0 q.given.0 (ap ac_in both) in
    let parity : p.p ≡ q.p = same_id es d p.p q.p p.given.1.0 q.given.1.0 (ap p_in both) in
    let cy : p.cy ≡ q.cy = same_id es d p.cy q.cy p.given.1.1.0 q.given.1.1.0 (ap cy_in both) in
    p.is ∙ ap (λ x. rest_node x p.p p.cy) ac ∙ ap (λ x. rest_node q.ac x p.cy) parity ∙ ap (λ x. rest_node q.ac q.p x) cy ∙ sym q.is

-- forms in the first entries are forms in all

lift_rest : (es : List Entry) (k : ℕ) (h : Head) (r : ℕ) → AreTrees (take k es) (operands h) → HasRest (take k es) h r → HasRest es h r
lift_rest es k (FlagByteHead s z ac p cy) r g q =
    get_from_cut es (Rest (tree_at (take k es) (number_of_id ac)) (tree_at (take k es) (number_of_id p)) (tree_at (take k es) (number_of_id cy))) k r q
    ∙ ap (λ x. Some (Rest x (tree_at (take k es) (number_of_id p)) (tree_at (take k es) (number_of_id cy)))) (lift_tree_at es k ac g.1.1.0)
    ∙ ap (λ x. Some (Rest (tree_at es (number_of_id ac)) x (tree_at (take k es) (number_of_id cy)))) (lift_tree_at es k p g.1.1.1.0)
    ∙ ap (λ x. Some (Rest (tree_at es (number_of_id ac)) (tree_at es (number_of_id p)) x)) (lift_tree_at es k cy g.1.1.1.1.0)
lift_rest es k h r g q = tt

abbrev lift_node : (es : List Entry) (k : ℕ) (n : Node) → IsHeadNode (take k es) n → IsHeadNode es n
lift_node es k n p = record {
  head = p.head;
  further = p.further;
  is = p.is ∙ ap (λ t. marked_node (is_adjusted t) (node_of p.head p.further)) (lift_head es k p.head p.given);
  given = lift_trees es k (operands p.head) p.given;
  rest = lift_rest es k p.head p.further p.given p.rest;
}

lift_formed : (es : List Entry) (k : ℕ) (n : Node) → IsFormed (take k es) n → IsFormed es n
lift_formed es k n (inl p) = inl (lift_node es k n p)
lift_formed es k n (inr p) = inr (record { ac = p.ac; p = p.p; cy = p.cy; is = p.is; given = lift_trees es k (p.ac ∷ p.p ∷ p.cy ∷ []) p.given })

lift_entry : (es : List Entry) (k : ℕ) (n : Node) → IsFormed (take k es) n → entry_of (take k es) n ≡ entry_of es n
lift_entry es k n (inl p) =
    head_entry (take k es) n p
    ∙ ap Tree (lift_head es k p.head p.given)
    ∙ sym (head_entry es n (lift_node es k n p))
lift_entry es k n (inr p) =
    rest_entry (take k es) n p
    ∙ ap (λ x. Rest x (tree_at (take k es) (number_of_id p.p)) (tree_at (take k es) (number_of_id p.cy))) (lift_tree_at es k p.ac p.given.0)
    ∙ ap (λ x. Rest (tree_at es (number_of_id p.ac)) x (tree_at (take k es) (number_of_id p.cy))) (lift_tree_at es k p.p p.given.1.0)
    ∙ ap (λ x. Rest (tree_at es (number_of_id p.ac)) (tree_at es (number_of_id p.p)) x) (lift_tree_at es k p.cy p.given.1.1.0)
    ∙ sym (ap (entry_of es) p.is)

module _ (nodes : List Node) (list : IsTermList nodes) where
  -- a node of the list is formed, and what it stands for is its entry
  pub node_formed : (k : ℕ) (n : Node) → NodeStandsAt nodes k n → IsFormed (entries_of nodes) n
  node_formed k n h = lift_formed (entries_of nodes) k n (list.formed k n h)

  pub node_entry : (k : ℕ) (n : Node) → NodeStandsAt nodes k n → slice_get (entries_of nodes) k ≡ Some (entry_of (entries_of nodes) n)
  node_entry k n h = entry_at nodes k n h ∙ ap Some (lift_entry (entries_of nodes) k n (list.formed k n h))

-- an entry is that of some node
pub has_node : (nodes : List Node) (k : ℕ) (entry : Entry) → slice_get (entries_of nodes) k ≡ Some entry → (n : Node) × NodeStandsAt nodes k n
has_node nodes k entry h =
    let below : k < length (entries_of nodes) = slice_get_within (entries_of nodes) k entry h in
    let same : length (entries_of nodes) ≡ length nodes = length-entries_of nodes in
    let within : k < length nodes = omega arith in
    (get_or nodes k (record { op = 0; num = 0; a = 0; b = 0; c = 0 }), slice_get-get_or nodes k (record { op = 0; num = 0; a = 0; b = 0; c = 0 }) within)

-- the node of a term is that of a head, whose term it is
pub record IsRead (nodes : List Node) (n : Node) (tree : Term) : Type 0 where
  pub node : IsHeadNode (entries_of nodes) n
  pub is : tree ≡ tree_of_head (entries_of nodes) node.head

pub read : (nodes : List Node) → IsTermList nodes → (k : ℕ) (n : Node) (tree : Term) → NodeStandsAt nodes k n → slice_get (entries_of nodes) k ≡ Some (Tree tree) → IsRead nodes n tree
read nodes list k n tree stands given = by_form (node_formed nodes list k n stands)
  where
    entry : entry_of (entries_of nodes) n ≡ Tree tree
    entry = same_Some _ _ (sym (node_entry nodes list k n stands) ∙ given)

    by_form : IsFormed (entries_of nodes) n → IsRead nodes n tree
    by_form (inl p) = record { node = p; is = ap term_of_entry (sym entry ∙ head_entry (entries_of nodes) n p) }
    by_form (inr p) =
        let differ : Rest (tree_at (entries_of nodes) (number_of_id p.ac)) (tree_at (entries_of nodes) (number_of_id p.p)) (tree_at (entries_of nodes) (number_of_id p.cy)) ≡ Tree tree = sym (rest_entry (entries_of nodes) n p) ∙ entry in
        absurd (false≢true (ap is_tree differ))

-- a node that is new stands for what no other does
pub new_entry : (nodes : List Node) → IsTermList nodes → (n : Node) → IsFormed (entries_of nodes) n → IsAbsent nodes n → (i : ℕ) → slice_get (entries_of nodes) i ≡ Some (entry_of (entries_of nodes) n) → ⊥
new_entry nodes list n formed absent i h =
    let other = has_node nodes i (entry_of (entries_of nodes) n) h in
    let entries : entry_of (entries_of nodes) other.0 ≡ entry_of (entries_of nodes) n = same_Some _ _ (sym (node_entry nodes list i other.0 other.1) ∙ h) in
    let same : other.0 ≡ n = same_nodes (entries_of nodes) list.distinct other.0 n (node_formed nodes list i other.0 other.1) formed entries in
    absent i (subst (λ m. NodeStandsAt nodes i m) same other.1)

pub list_with : (nodes : List Node) → IsTermList nodes → (n : Node) → IsFormed (entries_of nodes) n → IsAbsent nodes n → ((t : Term) → entry_of (entries_of nodes) n ≡ Tree t → IsTermMade t) → IsTermList (nodes ++ n ∷ [])
list_with nodes list n formed absent made = record {
  formed = λ k m h.
      ⊎_elim
      (λ old. let below : k < length nodes = slice_get_within nodes k m old in let within : k ≤ length es = omega (arith, length-entries_of nodes) in subst (λ l. IsFormed l m) (sym (ap (take k) pushed ∙ take-append-le k es (entry_of es n ∷ []) within)) (list.formed k m old))
      (λ new. let last : k ≡ length es = new.0 ∙ sym (length-entries_of nodes) in subst (λ l. IsFormed l m) (sym (ap (λ j. take j (entries_of (nodes ++ n ∷ []))) last ∙ ap (take (length es)) pushed ∙ take-append_seam es (entry_of es n ∷ []))) (subst (λ x. IsFormed es x) new.1 formed))
      (get_push nodes m n k h);
  distinct = λ i j entry hi hj.
      ⊎_elim
      (λ old.
      ⊎_elim
      (λ old'. list.distinct i j entry old old')
      (λ new'. absurd (new_entry nodes list n formed absent i (old ∙ ap Some (sym new'.1))))
      (get_push es entry (entry_of es n) j (ap (λ l. slice_get l j) (sym pushed) ∙ hj)))
      (λ new.
      ⊎_elim
      (λ old'. absurd (new_entry nodes list n formed absent j (old' ∙ ap Some (sym new.1))))
      (λ new'. new.0 ∙ sym new'.0)
      (get_push es entry (entry_of es n) j (ap (λ l. slice_get l j) (sym pushed) ∙ hj)))
      (get_push es entry (entry_of es n) i (ap (λ l. slice_get l i) (sym pushed) ∙ hi));
  made = λ i t h.
      ⊎_elim
      (λ old. list.made i t old)
      (λ new. made t new.1)
      (get_push es (Tree t) (entry_of es n) i (ap (λ l. slice_get l i) (sym pushed) ∙ h));
}
  where
    es : List Entry
    es = entries_of nodes

    pushed : entries_of (nodes ++ n ∷ []) ≡ es ++ entry_of es n ∷ []
    pushed = entries_push nodes n

pub list_cut : (nodes : List Node) → IsTermList nodes → (m : ℕ) → IsTermList (take m nodes)
list_cut nodes list m = record {
  formed = λ k n h.
      let below : k < m = below_cut nodes n m k h in
      let within : k ≤ m = omega arith in
      subst (λ l. IsFormed l n) (sym (ap (take k) (entries_cut nodes m) ∙ cut_of_cut (entries_of nodes) m k within)) (list.formed k n (get_from_cut nodes n m k h));
  distinct = λ i j entry hi hj.
      list.distinct i j entry
      (get_from_cut (entries_of nodes) entry m i (ap (λ l. slice_get l i) (sym (entries_cut nodes m)) ∙ hi))
      (get_from_cut (entries_of nodes) entry m j (ap (λ l. slice_get l j) (sym (entries_cut nodes m)) ∙ hj));
  made = λ i t h. list.made i t (get_from_cut (entries_of nodes) (Tree t) m i (ap (λ l. slice_get l i) (sym (entries_cut nodes m)) ∙ h));
}

pub list_empty : IsTermList []
unfolding entries_of
list_empty = record {
  formed = λ k n h. absurd (cc);
  distinct = λ i j entry hi hj. absurd (cc);
  made = λ i t h. absurd (cc);
}

-- what a list of terms promises
pub are_terms : (held : Contents) → IsTermList held.nodes → AreTerms held
are_terms held list = record {
  made = λ t h. list.made (number_of_id t) (tree_in held t) h;
  shared = λ s t p q e. let same : number_of_id s ≡ number_of_id t = list.distinct (number_of_id s) (number_of_id t) (Tree (tree_in held t)) (p ∙ ap (λ x. Some (Tree x)) e) q in ap term_of same;
  heads = λ t h.
      let n = has_node held.nodes (number_of_id t) (Tree (tree_in held t)) h in
      let r = read held.nodes list (number_of_id t) n.0 (tree_in held t) n.1 h in
      record { head = r.node.head; is = r.is; given = r.node.given };
}
