-- Heads and their nodes: each gives the other back, and equal terms have equal heads.
use Rattle.std.proofs.Common.{◌≡◌, ℕ, Bool, true, false, List, [], ◌∷◌, take, Some, refl, sym, ap, subst, ◌∙◌}
use Rattle.std.specs.List.{slice_get}
use Rattle.std.proofs.lemmas.Bool.{true≢false, false≢true}
use Rattle.std.proofs.lemmas.Option.{get_or_from_slice_get}
use Rattle.cells.specs.declared.Place.{Place}
use Rattle.cells.specs.declared.Place.TheVariants.{At, Exit}
use Rattle.cells.specs.declared.Part.{Part}
use Rattle.cells.specs.declared.Part.TheVariants.{A}
use Rattle.i80.specs.declared.Op.{Op}
use Rattle.i80.specs.declared.Op.TheVariants.{Add}
use Rattle.sym_terms.specs.declared.head.Term.{Term as TermId}
use Rattle.sym_terms.specs.declared.head.Head.{Head}
use Rattle.sym_terms.specs.declared.head.Head.TheVariants.{Num as NumHead, Start as StartHead, StartSp as StartSpHead, Loaded8 as Loaded8Head, Loaded16 as Loaded16Head, Alu as AluHead, Flag as FlagHead, Sum16 as Sum16Head, High as HighHead, Low as LowHead, Join as JoinHead, FlagByte as FlagByteHead, Bit as BitHead, Turn as TurnHead, Turned as TurnedHead, Adjust as AdjustHead, Code as CodeHead, Unknown as UnknownHead}
use Rattle.sym_terms.specs.Numbers.{kind_of}
use Rattle.sym_terms.specs.Term.{Term, Num, Start, Loaded8, Loaded16, Alu, Flag, Sum16, High, Low, Join, FlagByte, Bit, Turn, Turned, Adjust, Code, Unknown, same_term}
use Rattle.sym_terms.specs.Heads.{operands, is_flag_byte_head, node_of, head_by, number_of_id, term_of}
use Rattle.sym_terms.specs.Trees.{Entry, Tree, Rest, term_of_entry, tree_at, tree_of_head, flags_with, entry_of, IsTree, AreTrees}
use Rattle.sym_terms.specs.Forms.{HasRest}
use Rattle.sym_terms.proofs.Equal.{same_term_refl}
use Rattle.sym_terms.proofs.Codes.{part_of-part_number, op_of-op_number}
use Rattle.sym_terms.proofs.Places.{get_from_cut}

-- a node stands for the term of its head
pub entry_back : (es : List Entry) (h : Head) (rest : ℕ) → HasRest es h rest → entry_of es (node_of h rest) ≡ Tree (tree_of_head es h)
entry_back es (NumHead n) rest r = refl
entry_back es (StartHead part) rest r = ap (λ part. Tree (Start part)) (part_of-part_number part)
entry_back es StartSpHead rest r = refl
entry_back es (Loaded8Head k) rest r = refl
entry_back es (Loaded16Head k) rest r = refl
entry_back es (AluHead op a b c) rest r = ap (λ op. Tree (Alu op (tree_at es (number_of_id a)) (tree_at es (number_of_id b)) (tree_at es (number_of_id c)))) (op_of-op_number op)
entry_back es (FlagHead part r') rest r = ap (λ part. Tree (Flag part (tree_at es (number_of_id r')))) (part_of-part_number part)
entry_back es (Sum16Head a b) rest r = refl
entry_back es (HighHead w) rest r = refl
entry_back es (LowHead w) rest r = refl
entry_back es (JoinHead h l) rest r = refl
entry_back es (FlagByteHead s z ac p cy) rest r = ap (λ x. Tree (flags_with (tree_at es (number_of_id s)) (tree_at es (number_of_id z)) x)) (get_or_from_slice_get es rest (Rest (tree_at es (number_of_id ac)) (tree_at es (number_of_id p)) (tree_at es (number_of_id cy))) (Tree Unknown) r)
entry_back es (BitHead b part) rest r = ap (λ part. Tree (Bit (tree_at es (number_of_id b)) part)) (part_of-part_number part)
entry_back es (TurnHead kind a c) rest r = refl
entry_back es (TurnedHead c) rest r = refl
entry_back es (AdjustHead a ac cy) rest r = refl
entry_back es (CodeHead (At address) true) rest r = refl
entry_back es (CodeHead (At address) false) rest r = refl
entry_back es (CodeHead Exit true) rest r = refl
entry_back es (CodeHead Exit false) rest r = refl
entry_back es UnknownHead rest r = refl

-- and gives its head back
pub head_back : (h : Head) (rest : ℕ) → is_flag_byte_head h ≡ false → head_by (kind_of (node_of h rest).op) (node_of h rest) ≡ h
head_back (NumHead n) rest f = refl
head_back (StartHead part) rest f = ap StartHead (part_of-part_number part)
head_back StartSpHead rest f = refl
head_back (Loaded8Head k) rest f = refl
head_back (Loaded16Head k) rest f = refl
head_back (AluHead op a b c) rest f = ap (λ o. AluHead o a b c) (op_of-op_number op)
head_back (FlagHead part r) rest f = ap (λ q. FlagHead q r) (part_of-part_number part)
head_back (Sum16Head a b) rest f = refl
head_back (HighHead w) rest f = refl
head_back (LowHead w) rest f = refl
head_back (JoinHead h l) rest f = refl
head_back (FlagByteHead s z ac p cy) rest f = absurd (true≢false f)
head_back (BitHead b part) rest f = ap (λ q. BitHead b q) (part_of-part_number part)
head_back (TurnHead kind a c) rest f = refl
head_back (TurnedHead c) rest f = refl
head_back (AdjustHead a ac cy) rest f = refl
head_back (CodeHead (At address) true) rest f = refl
head_back (CodeHead (At address) false) rest f = refl
head_back (CodeHead Exit true) rest f = refl
head_back (CodeHead Exit false) rest f = refl
head_back UnknownHead rest f = refl

-- no two ids stand for one term
abbrev pub AreApart : List Entry → Type 0
AreApart es = (i j : ℕ) (entry : Entry) → slice_get es i ≡ Some entry → slice_get es j ≡ Some entry → i ≡ j

pub same_id : (es : List Entry) → AreApart es → (s t : TermId) → IsTree es s → IsTree es t → tree_at es (number_of_id s) ≡ tree_at es (number_of_id t) → s ≡ t
same_id es d s t p q e =
    let same : number_of_id s ≡ number_of_id t = d (number_of_id s) (number_of_id t) (Tree (tree_at es (number_of_id t))) (p ∙ ap (λ x. Some (Tree x)) e) q in
    ap term_of same

-- what stands in a term: its operands by place, its operation, part, number, and place with its half
abbrev pub first_in : Term → Term
first_in (Alu op a b c) = a
first_in (Flag part r) = r
first_in (Sum16 a b) = a
first_in (High w) = w
first_in (Low w) = w
first_in (Join h l) = h
first_in (FlagByte s z ac p cy) = s
first_in (Bit b part) = b
first_in (Turn kind a c) = a
first_in (Turned c) = c
first_in (Adjust a ac cy) = a
first_in t = t

abbrev pub second_in : Term → Term
second_in (Alu op a b c) = b
second_in (Sum16 a b) = b
second_in (Join h l) = l
second_in (FlagByte s z ac p cy) = z
second_in (Turn kind a c) = c
second_in (Adjust a ac cy) = ac
second_in t = t

abbrev pub third_in : Term → Term
third_in (Alu op a b c) = c
third_in (FlagByte s z ac p cy) = ac
third_in (Adjust a ac cy) = cy
third_in t = t

abbrev pub fourth_in : Term → Term
fourth_in (FlagByte s z ac p cy) = p
fourth_in t = t

abbrev pub fifth_in : Term → Term
fifth_in (FlagByte s z ac p cy) = cy
fifth_in t = t

abbrev op_in : Term → Op
op_in (Alu op a b c) = op
op_in t = Add

abbrev part_in : Term → Part
part_in (Start part) = part
part_in (Flag part r) = part
part_in (Bit b part) = part
part_in t = A

abbrev number_in : Term → ℕ
number_in (Num n) = n
number_in (Loaded8 k) = k
number_in (Loaded16 k) = k
number_in (Turn kind a c) = kind
number_in t = 0

abbrev place_in : Term → Place
place_in (Code q high) = q
place_in t = Exit

abbrev is_high : Term → Bool
is_high (Code q high) = high
is_high t = false

-- the last three flags in the entry of a further node
abbrev pub ac_in : Entry → Term
ac_in (Rest ac p cy) = ac
ac_in (Tree t) = t

abbrev pub p_in : Entry → Term
p_in (Rest ac p cy) = p
p_in (Tree t) = t

abbrev pub cy_in : Entry → Term
cy_in (Rest ac p cy) = cy
cy_in (Tree t) = t

abbrev pub is_tree : Entry → Bool
is_tree (Tree t) = true
is_tree (Rest ac p cy) = false

pub same_heads : (es : List Entry) → AreApart es → (h g : Head) → AreTrees es (operands h) → AreTrees es (operands g) → tree_of_head es h ≡ tree_of_head es g → h ≡ g
same_heads es d (NumHead n) (NumHead n') g g' e =
    let is_n : n ≡ n' = ap number_in e in
    λ i. NumHead (is_n i)
same_heads es d (StartHead part) (StartHead part') g g' e =
    let is_part : part ≡ part' = ap part_in e in
    λ i. StartHead (is_part i)
same_heads es d StartSpHead StartSpHead g g' e = refl
same_heads es d (Loaded8Head k) (Loaded8Head k') g g' e =
    let is_k : k ≡ k' = ap number_in e in
    λ i. Loaded8Head (is_k i)
same_heads es d (Loaded16Head k) (Loaded16Head k') g g' e =
    let is_k : k ≡ k' = ap number_in e in
    λ i. Loaded16Head (is_k i)
same_heads es d (AluHead op a b c) (AluHead op' a' b' c') g g' e =
    let is_a : a ≡ a' = same_id es d a a' g.0 g'.0 (ap first_in e) in
    let is_b : b ≡ b' = same_id es d b b' g.1.0 g'.1.0 (ap second_in e) in
    let is_c : c ≡ c' = same_id es d c c' g.1.1.0 g'.1.1.0 (ap third_in e) in
    let is_op : op ≡ op' = ap op_in e in
    λ i. AluHead (is_op i) (is_a i) (is_b i) (is_c i)
same_heads es d (FlagHead part r) (FlagHead part' r') g g' e =
    let is_r : r ≡ r' = same_id es d r r' g.0 g'.0 (ap first_in e) in
    let is_part : part ≡ part' = ap part_in e in
    λ i. FlagHead (is_part i) (is_r i)
same_heads es d (Sum16Head a b) (Sum16Head a' b') g g' e =
    let is_a : a ≡ a' = same_id es d a a' g.0 g'.0 (ap first_in e) in
    let is_b : b ≡ b' = same_id es d b b' g.1.0 g'.1.0 (ap second_in e) in
    λ i. Sum16Head (is_a i) (is_b i)
same_heads es d (HighHead w) (HighHead w') g g' e =
    let is_w : w ≡ w' = same_id es d w w' g.0 g'.0 (ap first_in e) in
    λ i. HighHead (is_w i)
same_heads es d (LowHead w) (LowHead w') g g' e =
    let is_w : w ≡ w' = same_id es d w w' g.0 g'.0 (ap first_in e) in
    λ i. LowHead (is_w i)
same_heads es d (JoinHead h l) (JoinHead h' l') g g' e =
    let is_h : h ≡ h' = same_id es d h h' g.0 g'.0 (ap first_in e) in
    let is_l : l ≡ l' = same_id es d l l' g.1.0 g'.1.0 (ap second_in e) in
    λ i. JoinHead (is_h i) (is_l i)
same_heads es d (FlagByteHead s z ac p cy) (FlagByteHead s' z' ac' p' cy') g g' e =
    let is_s : s ≡ s' = same_id es d s s' g.0 g'.0 (ap first_in e) in
    let is_z : z ≡ z' = same_id es d z z' g.1.0 g'.1.0 (ap second_in e) in
    let is_ac : ac ≡ ac' = same_id es d ac ac' g.1.1.0 g'.1.1.0 (ap third_in e) in
    let is_p : p ≡ p' = same_id es d p p' g.1.1.1.0 g'.1.1.1.0 (ap fourth_in e) in
    let is_cy : cy ≡ cy' = same_id es d cy cy' g.1.1.1.1.0 g'.1.1.1.1.0 (ap fifth_in e) in
    λ i. FlagByteHead (is_s i) (is_z i) (is_ac i) (is_p i) (is_cy i)
same_heads es d (BitHead b part) (BitHead b' part') g g' e =
    let is_b : b ≡ b' = same_id es d b b' g.0 g'.0 (ap first_in e) in
    let is_part : part ≡ part' = ap part_in e in
    λ i. BitHead (is_b i) (is_part i)
same_heads es d (TurnHead kind a c) (TurnHead kind' a' c') g g' e =
    let is_a : a ≡ a' = same_id es d a a' g.0 g'.0 (ap first_in e) in
    let is_c : c ≡ c' = same_id es d c c' g.1.0 g'.1.0 (ap second_in e) in
    let is_kind : kind ≡ kind' = ap number_in e in
    λ i. TurnHead (is_kind i) (is_a i) (is_c i)
same_heads es d (TurnedHead c) (TurnedHead c') g g' e =
    let is_c : c ≡ c' = same_id es d c c' g.0 g'.0 (ap first_in e) in
    λ i. TurnedHead (is_c i)
same_heads es d (AdjustHead a ac cy) (AdjustHead a' ac' cy') g g' e =
    let is_a : a ≡ a' = same_id es d a a' g.0 g'.0 (ap first_in e) in
    let is_ac : ac ≡ ac' = same_id es d ac ac' g.1.0 g'.1.0 (ap second_in e) in
    let is_cy : cy ≡ cy' = same_id es d cy cy' g.1.1.0 g'.1.1.0 (ap third_in e) in
    λ i. AdjustHead (is_a i) (is_ac i) (is_cy i)
same_heads es d (CodeHead q high) (CodeHead q' high') g g' e =
    let is_q : q ≡ q' = ap place_in e in
    let is_high : high ≡ high' = ap is_high e in
    λ i. CodeHead (is_q i) (is_high i)
same_heads es d UnknownHead UnknownHead g g' e = refl
same_heads es d h g p q e = absurd (false≢true (subst (λ t. same_term (tree_of_head es h) t ≡ true) e (same_term_refl (tree_of_head es h))))

-- what stands in the first entries stands in all

pub lift_tree_at : (es : List Entry) (k : ℕ) (t : TermId) → IsTree (take k es) t → tree_at (take k es) (number_of_id t) ≡ tree_at es (number_of_id t)
lift_tree_at es k t h = sym (ap term_of_entry (get_or_from_slice_get es (number_of_id t) (Tree (tree_at (take k es) (number_of_id t))) (Tree Unknown) (get_from_cut es (Tree (tree_at (take k es) (number_of_id t))) k (number_of_id t) h)))

lift_tree : (es : List Entry) (k : ℕ) (t : TermId) → IsTree (take k es) t → IsTree es t
lift_tree es k t h = get_from_cut es (Tree (tree_at (take k es) (number_of_id t))) k (number_of_id t) h ∙ ap (λ x. Some (Tree x)) (lift_tree_at es k t h)

pub lift_trees : (es : List Entry) (k : ℕ) (ts : List TermId) → AreTrees (take k es) ts → AreTrees es ts
lift_trees es k [] h = tt
lift_trees es k (t ∷ ts) h = (lift_tree es k t h.0, lift_trees es k ts h.1)

pub lift_head : (es : List Entry) (k : ℕ) (h : Head) → AreTrees (take k es) (operands h) → tree_of_head (take k es) h ≡ tree_of_head es h
lift_head es k (AluHead op a b c) g =
    let is_a : tree_at (take k es) (number_of_id a) ≡ tree_at es (number_of_id a) = lift_tree_at es k a g.0 in
    let is_b : tree_at (take k es) (number_of_id b) ≡ tree_at es (number_of_id b) = lift_tree_at es k b g.1.0 in
    let is_c : tree_at (take k es) (number_of_id c) ≡ tree_at es (number_of_id c) = lift_tree_at es k c g.1.1.0 in
    λ i. Alu op (is_a i) (is_b i) (is_c i)
lift_head es k (FlagHead part r) g =
    let is_r : tree_at (take k es) (number_of_id r) ≡ tree_at es (number_of_id r) = lift_tree_at es k r g.0 in
    λ i. Flag part (is_r i)
lift_head es k (Sum16Head a b) g =
    let is_a : tree_at (take k es) (number_of_id a) ≡ tree_at es (number_of_id a) = lift_tree_at es k a g.0 in
    let is_b : tree_at (take k es) (number_of_id b) ≡ tree_at es (number_of_id b) = lift_tree_at es k b g.1.0 in
    λ i. Sum16 (is_a i) (is_b i)
lift_head es k (HighHead w) g =
    let is_w : tree_at (take k es) (number_of_id w) ≡ tree_at es (number_of_id w) = lift_tree_at es k w g.0 in
    λ i. High (is_w i)
lift_head es k (LowHead w) g =
    let is_w : tree_at (take k es) (number_of_id w) ≡ tree_at es (number_of_id w) = lift_tree_at es k w g.0 in
    λ i. Low (is_w i)
lift_head es k (JoinHead h l) g =
    let is_h : tree_at (take k es) (number_of_id h) ≡ tree_at es (number_of_id h) = lift_tree_at es k h g.0 in
    let is_l : tree_at (take k es) (number_of_id l) ≡ tree_at es (number_of_id l) = lift_tree_at es k l g.1.0 in
    λ i. Join (is_h i) (is_l i)
lift_head es k (FlagByteHead s z ac p cy) g =
    let is_s : tree_at (take k es) (number_of_id s) ≡ tree_at es (number_of_id s) = lift_tree_at es k s g.0 in
    let is_z : tree_at (take k es) (number_of_id z) ≡ tree_at es (number_of_id z) = lift_tree_at es k z g.1.0 in
    let is_ac : tree_at (take k es) (number_of_id ac) ≡ tree_at es (number_of_id ac) = lift_tree_at es k ac g.1.1.0 in
    let is_p : tree_at (take k es) (number_of_id p) ≡ tree_at es (number_of_id p) = lift_tree_at es k p g.1.1.1.0 in
    let is_cy : tree_at (take k es) (number_of_id cy) ≡ tree_at es (number_of_id cy) = lift_tree_at es k cy g.1.1.1.1.0 in
    λ i. FlagByte (is_s i) (is_z i) (is_ac i) (is_p i) (is_cy i)
lift_head es k (BitHead b part) g =
    let is_b : tree_at (take k es) (number_of_id b) ≡ tree_at es (number_of_id b) = lift_tree_at es k b g.0 in
    λ i. Bit (is_b i) part
lift_head es k (TurnHead kind a c) g =
    let is_a : tree_at (take k es) (number_of_id a) ≡ tree_at es (number_of_id a) = lift_tree_at es k a g.0 in
    let is_c : tree_at (take k es) (number_of_id c) ≡ tree_at es (number_of_id c) = lift_tree_at es k c g.1.0 in
    λ i. Turn kind (is_a i) (is_c i)
lift_head es k (TurnedHead c) g =
    let is_c : tree_at (take k es) (number_of_id c) ≡ tree_at es (number_of_id c) = lift_tree_at es k c g.0 in
    λ i. Turned (is_c i)
lift_head es k (AdjustHead a ac cy) g =
    let is_a : tree_at (take k es) (number_of_id a) ≡ tree_at es (number_of_id a) = lift_tree_at es k a g.0 in
    let is_ac : tree_at (take k es) (number_of_id ac) ≡ tree_at es (number_of_id ac) = lift_tree_at es k ac g.1.0 in
    let is_cy : tree_at (take k es) (number_of_id cy) ≡ tree_at es (number_of_id cy) = lift_tree_at es k cy g.1.1.0 in
    λ i. Adjust (is_a i) (is_ac i) (is_cy i)
lift_head es k h g = refl
