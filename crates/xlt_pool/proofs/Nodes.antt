-- The test whether two nodes are equal.
use Rattle.std.proofs.Common.{◌≡◌, ℕ, ◌<◌, ◌==◌, ◌&&◌, Bool, true, false, List, length, get_or, Some, refl, sym, ap, ◌∙◌}
use Rattle.std.proofs.lemmas.Bool.{and_from, and_parts, eqb-true, eq-eqb}
use Rattle.std.proofs.lemmas.Option.{slice_get-get_or, get_or_from_slice_get}
use Rattle.xlt_pool.specs.declared.node.Node.{Node}
use Rattle.xlt_pool.specs.Contents.{NodeStandsAt}

abbrev pub is_same : Node → Node → Bool
is_same x y = (x.op == y.op) && ((x.num == y.num) && ((x.a == y.a) && ((x.b == y.b) && (x.c == y.c))))

abbrev node_of : ℕ → ℕ → ℕ → ℕ → ℕ → Node
node_of op num a b c = record { op = op; num = num; a = a; b = b; c = c }

pub is_same-true : (x y : Node) → is_same x y ≡ true → x ≡ y
is_same-true x y h =
    let at_op = and_parts (x.op == y.op) ((x.num == y.num) && ((x.a == y.a) && ((x.b == y.b) && (x.c == y.c)))) h in
    let at_num = and_parts (x.num == y.num) ((x.a == y.a) && ((x.b == y.b) && (x.c == y.c))) at_op.1 in
    let at_a = and_parts (x.a == y.a) ((x.b == y.b) && (x.c == y.c)) at_num.1 in
    let at_b = and_parts (x.b == y.b) (x.c == y.c) at_a.1 in
    let op : x.op ≡ y.op = eqb-true x.op y.op at_op.0 in
    let num : x.num ≡ y.num = eqb-true x.num y.num at_num.0 in
    let a : x.a ≡ y.a = eqb-true x.a y.a at_a.0 in
    let b : x.b ≡ y.b = eqb-true x.b y.b at_b.0 in
    let c : x.c ≡ y.c = eqb-true x.c y.c at_b.1 in
    ap (λ v. node_of v x.num x.a x.b x.c) op
    ∙ ap (λ v. node_of y.op v x.a x.b x.c) num
    ∙ ap (λ v. node_of y.op y.num v x.b x.c) a
    ∙ ap (λ v. node_of y.op y.num y.a v x.c) b
    ∙ ap (λ v. node_of y.op y.num y.a y.b v) c

is_same_refl : (x : Node) → is_same x x ≡ true
is_same_refl x =
    and_from (x.op == x.op) _ (eq-eqb x.op x.op refl)
    (and_from (x.num == x.num) _ (eq-eqb x.num x.num refl)
    (and_from (x.a == x.a) _ (eq-eqb x.a x.a refl) (and_from (x.b == x.b) (x.c == x.c) (eq-eqb x.b x.b refl) (eq-eqb x.c x.c refl))))

-- a node that is found equal stands at its place
pub stands_at : (nodes : List Node) (place : ℕ) (d node : Node) → place < length nodes → is_same (get_or nodes place d) node ≡ true → NodeStandsAt nodes place node
stands_at nodes place d node h same = slice_get-get_or nodes place d h ∙ ap Some (is_same-true (get_or nodes place d) node same)

-- one that is found different does not
pub stands_not_at : (nodes : List Node) (place : ℕ) (d node : Node) → is_same (get_or nodes place d) node ≡ false → NodeStandsAt nodes place node → ⊥
stands_not_at nodes place d node other stands =
    let is : get_or nodes place d ≡ node = get_or_from_slice_get nodes place node d stands in
    let both : true ≡ false = sym (is_same_refl node) ∙ ap (λ x. is_same x node) (sym is) ∙ other in
    cc
