use Rattle.std.proofs.Common.{◌≡◌, ◌∙◌, ap, subst, sym, Option, Some, None, le_refl, lit≤}
use Rattle.i80.specs.declared.Op.{Op}
use Rattle.sym_terms.specs.declared.head.Term.{Term as TermId}
use Rattle.sym_terms.specs.Term.{is_bit}
use Rattle.sym_terms.specs.Making.{alu}
use Rattle.sym_terms.specs.Trees.{tree_in, Makes}
use Rattle.xlt_pool.specs.Contents.{Contents}
use Rattle.sym_block_def.specs.Block80.{operation, carry_in}
use Rattle.sym_micro.specs.declared.micro.ByteSlot.{ByteSlot}
use Rattle.sym_micro.specs.declared.run.Run.{Run}
use Rattle.sym_micro.specs.Machine.{byte_in}
use Rattle.sym_micro.specs.Stands.{id_of_byte, machine_of, IsReady, GoesOn, Gives}
use Rattle.sym_micro.proofs.Sorted.{byte_sorted, carry_in_sorted, operated_sorted}
use Rattle.sym_micro.proofs.Ready.{gives_of, then_gives, byte_is, byte_later, failed, gave_result}
use Rattle.sym_micro.proofs.performing.operate.Goals as goal

-- the carry is made first, then the result
operated : (old mid new : Contents) (r : Run) (op is_op : Op) (a b : ByteSlot) (x y carry : TermId) (made : Option TermId) → IsReady old r → Makes old mid 1 (carry_in op (tree_in old r.held.cy)) (Some carry) → is_op ≡ operation op → x ≡ id_of_byte r a → y ≡ id_of_byte r b → Makes mid new 1 (alu is_op (tree_in mid x) (tree_in mid y) (tree_in mid carry)) made
    → Gives old new 2 (alu (operation op) (byte_in (machine_of old r) a) (byte_in (machine_of old r) b) (carry_in op (tree_in old r.held.cy))) made
operated old mid new r op is_op a b x y carry made h first same at_a at_b m =
    let is_a : tree_in mid x ≡ byte_in (machine_of old r) a = byte_is old mid 1 r a x first.grows h.given at_a in
    let is_b : tree_in mid y ≡ byte_in (machine_of old r) b = byte_is old mid 1 r b y first.grows h.given at_b in
    let tree = alu (operation op) (byte_in (machine_of old r) a) (byte_in (machine_of old r) b) (carry_in op (tree_in old r.held.cy)) in
    let is : alu is_op (tree_in mid x) (tree_in mid y) (tree_in mid carry) ≡ tree = (λ i. alu (same i) (is_a i) (is_b i) (first.gives.1 i)) in
    then_gives old mid new 1 1 tree made first.grows (subst (λ t. Gives mid new 1 t made) is (gives_of mid new 1 (alu is_op (tree_in mid x) (tree_in mid y) (tree_in mid carry)) made m))

pub alu-requires-clause-a : goal.alu-requires-clause-a
alu-requires-clause-a c = byte_later c.args.terms.now c.carry_term.new.terms 1 c.args.run.now c.args.a c.byte.result c.in_ok-carry.ensures.grows c.requires c.byte.ensures

pub alu-requires-clause-b : goal.alu-requires-clause-b
alu-requires-clause-b c = byte_later c.args.terms.now c.carry_term.new.terms 1 c.args.run.now c.args.b c.byte-2.result c.in_ok-carry.ensures.grows c.requires c.byte-2.ensures

pub alu-requires-clause-carry : goal.alu-requires-clause-carry
alu-requires-clause-carry c = record {
  given = c.in_ok-carry.ensures.gives.0;
  of_sort = ap is_bit c.in_ok-carry.ensures.gives.1 ∙ (carry_in_sorted c.args.op (tree_in c.args.terms.now c.args.run.now.held.cy) c.requires.sorted.held.cy).1;
}

pub returns-in_err-carry : goal.returns-in_err-carry
returns-in_err-carry c =
    let old = c.args.terms.now in
    let new = c.carry_term.new.terms in
    let r = c.args.run.now in
    let carry = carry_in c.args.op (tree_in old r.held.cy) in
    let tree = alu (operation c.args.op) (byte_in (machine_of old r) c.args.a) (byte_in (machine_of old r) c.args.b) carry in
    subst (λ x. GoesOn old new r r 2 0 (λ m. m ≡ record (machine_of old r) { result = tree }) x) (sym c.from_residual.ensures)
    (failed old new r 1 2 0 carry (λ m. m ≡ record (machine_of old r) { result = tree }) (lit≤ tt) c.requires (gives_of old new 1 carry None c.in_err-carry.ensures))

pub returns-in_err-term : goal.returns-in_err-term
returns-in_err-term c =
    let old = c.args.terms.now in
    let new = c.alu.new.self in
    let r = c.args.run.now in
    let tree = alu (operation c.args.op) (byte_in (machine_of old r) c.args.a) (byte_in (machine_of old r) c.args.b) (carry_in c.args.op (tree_in old r.held.cy)) in
    subst (λ x. GoesOn old new r r 2 0 (λ m. m ≡ record (machine_of old r) { result = tree }) x) (sym c.from_residual-in_err-term.ensures)
    (failed old new r 2 2 0 tree (λ m. m ≡ record (machine_of old r) { result = tree }) (le_refl 2) c.requires
    (operated old c.carry_term.new.terms new r c.args.op c.operation.result c.args.a c.args.b c.byte.result c.byte-2.result c.in_ok-carry.carry None c.requires c.in_ok-carry.ensures c.operation.ensures c.byte.ensures c.byte-2.ensures c.in_err-term.ensures))

pub returns : goal.returns
returns c =
    let old = c.args.terms.now in
    let new = c.alu.new.self in
    let r = c.args.run.now in
    let m = machine_of old r in
    let tree = alu (operation c.args.op) (byte_in m c.args.a) (byte_in m c.args.b) (carry_in c.args.op (tree_in old r.held.cy)) in
    let t = c.in_ok-term.term in
    gave_result old new r 2 tree t c.requires
    (operated old c.carry_term.new.terms new r c.args.op c.operation.result c.args.a c.args.b c.byte.result c.byte-2.result c.in_ok-carry.carry (Some t) c.requires c.in_ok-carry.ensures c.operation.ensures c.byte.ensures c.byte-2.ensures c.in_ok-term.ensures)
    (operated_sorted c.made_terms_have_sorts.ensures c.args.op (byte_in m c.args.a) (byte_in m c.args.b) (tree_in old r.held.cy) (byte_sorted m c.args.a c.requires.sorted) (byte_sorted m c.args.b c.requires.sorted) c.requires.sorted.held.cy)
