use Rattle.std.proofs.Common.{◌≡◌, ◌∙◌, ℕ, ap, subst, sym, Option, Some, None, le_refl, lit≤}
use Rattle.i86.specs.declared.Rotate.{Rotate}
use Rattle.sym_terms.specs.declared.head.Term.{Term as TermId}
use Rattle.sym_terms.specs.Term.{is_bit}
use Rattle.sym_terms.specs.Making.{turn, turn_or_turned}
use Rattle.sym_terms.specs.Trees.{tree_in, Makes}
use Rattle.xlt_pool.specs.Contents.{Contents}
use Rattle.sym_block_def.specs.Symbolic86.{turn_kind, turn_carry}
use Rattle.sym_micro.specs.declared.micro.ByteSlot.{ByteSlot}
use Rattle.sym_micro.specs.declared.run.Run.{Run}
use Rattle.sym_micro.specs.Machine.{byte_in}
use Rattle.sym_micro.specs.Stands.{id_of_byte, machine_of, IsReady, GoesOn, Gives}
use Rattle.sym_micro.proofs.Sorted.{byte_sorted, turn_is, turn_carry_sorted, turned_sorted}
use Rattle.sym_micro.proofs.Ready.{gives_of, then_gives, byte_is, byte_later, failed, gave_turned}
use Rattle.sym_micro.proofs.performing.turn.Goals as goal

-- the carry is made first, then the rotated byte
turned : (old mid new : Contents) (r : Run) (kind : Rotate) (number : ℕ) (slot : ByteSlot) (x carry : TermId) (made : Option TermId) → IsReady old r → Makes old mid 1 (turn_carry kind (tree_in old r.held.cy)) (Some carry) → number ≡ turn_kind kind → x ≡ id_of_byte r slot → Makes mid new 1 (turn_or_turned number (tree_in mid x) (tree_in mid carry)) made
    → Gives old new 2 (turn (turn_kind kind) (byte_in (machine_of old r) slot) (turn_carry kind (tree_in old r.held.cy))) made
turned old mid new r kind number slot x carry made h first same at m =
    let is_a : tree_in mid x ≡ byte_in (machine_of old r) slot = byte_is old mid 1 r slot x first.grows h.given at in
    let byte = byte_in (machine_of old r) slot in
    let bit = turn_carry kind (tree_in old r.held.cy) in
    let is : turn_or_turned number (tree_in mid x) (tree_in mid carry) ≡ turn_or_turned (turn_kind kind) byte bit = (λ i. turn_or_turned (same i) (is_a i) (first.gives.1 i)) in
    then_gives old mid new 1 1 (turn (turn_kind kind) byte bit) made first.grows
    (subst (λ t. Gives mid new 1 t made) (is ∙ turn_is kind byte bit) (gives_of mid new 1 (turn_or_turned number (tree_in mid x) (tree_in mid carry)) made m))

pub turn-requires-clause-a : goal.turn-requires-clause-a
turn-requires-clause-a c = λ _. byte_later c.args.terms.now c.turn_carry_term.new.terms 1 c.args.run.now c.args.slot c.byte.result c.in_ok-carry.ensures.grows c.requires c.byte.ensures

pub turn-requires-clause-carry : goal.turn-requires-clause-carry
turn-requires-clause-carry c = record {
  given = c.in_ok-carry.ensures.gives.0;
  of_sort = ap is_bit c.in_ok-carry.ensures.gives.1 ∙ (turn_carry_sorted c.args.kind (tree_in c.args.terms.now c.args.run.now.held.cy) c.requires.sorted.held.cy).1;
}

pub returns-in_err-carry : goal.returns-in_err-carry
returns-in_err-carry c =
    let old = c.args.terms.now in
    let new = c.turn_carry_term.new.terms in
    let r = c.args.run.now in
    let carry = turn_carry c.args.kind (tree_in old r.held.cy) in
    let tree = turn (turn_kind c.args.kind) (byte_in (machine_of old r) c.args.slot) carry in
    subst (λ x. GoesOn old new r r 2 0 (λ m. m ≡ record (machine_of old r) { turned = tree }) x) (sym c.from_residual.ensures)
    (failed old new r 1 2 0 carry (λ m. m ≡ record (machine_of old r) { turned = tree }) (lit≤ tt) c.requires (gives_of old new 1 carry None c.in_err-carry.ensures))

pub returns-in_err-term : goal.returns-in_err-term
returns-in_err-term c =
    let old = c.args.terms.now in
    let new = c.turn.new.self in
    let r = c.args.run.now in
    let tree = turn (turn_kind c.args.kind) (byte_in (machine_of old r) c.args.slot) (turn_carry c.args.kind (tree_in old r.held.cy)) in
    subst (λ x. GoesOn old new r r 2 0 (λ m. m ≡ record (machine_of old r) { turned = tree }) x) (sym c.from_residual-in_err-term.ensures)
    (failed old new r 2 2 0 tree (λ m. m ≡ record (machine_of old r) { turned = tree }) (le_refl 2) c.requires
    (turned old c.turn_carry_term.new.terms new r c.args.kind c.kind_number.result c.args.slot c.byte.result c.in_ok-carry.carry None c.requires c.in_ok-carry.ensures c.kind_number.ensures.number c.byte.ensures c.in_err-term.ensures))

pub returns : goal.returns
returns c =
    let old = c.args.terms.now in
    let new = c.turn.new.self in
    let r = c.args.run.now in
    let m = machine_of old r in
    let tree = turn (turn_kind c.args.kind) (byte_in m c.args.slot) (turn_carry c.args.kind (tree_in old r.held.cy)) in
    let t = c.in_ok-term.term in
    gave_turned old new r 2 tree t c.requires
    (turned old c.turn_carry_term.new.terms new r c.args.kind c.kind_number.result c.args.slot c.byte.result c.in_ok-carry.carry (Some t) c.requires c.in_ok-carry.ensures c.kind_number.ensures.number c.byte.ensures c.in_ok-term.ensures)
    (turned_sorted c.made_terms_have_sorts.ensures c.args.kind (byte_in m c.args.slot) (tree_in old r.held.cy) (byte_sorted m c.args.slot c.requires.sorted) c.requires.sorted.held.cy)
