use Rattle.std.proofs.Common.{◌≡◌, ◌∙◌, ℕ, ◌<◌, ◌≤◌, ◌||◌, false, true, cond, ap, ap₂, refl, subst, sym, arith}
use Rattle.sym_terms.specs.Term.{Term, Turn, Turned, Unknown, is_open}
use Rattle.sym_terms.specs.Making.{turn, turn_or_turned}
use Rattle.sym_terms.specs.Trees.{tree_in, Makes}
use Rattle.sym_terms.proofs.Making.{not_equal, turn_open}
use Rattle.sym_terms.proofs.terms.Terms.turn.Goals as goal

below : (kind : ℕ) → kind ≤ 4 → (kind ≡ 4 → ⊥) → kind < 4
below kind most other = omega arith

turn_kept : (kind : ℕ) (a c : Term) → is_open a ≡ false → is_open c ≡ false → turn kind a c ≡ Turn kind a c
turn_kept kind a c p q = ap₂ (λ x y. cond (x || y) Unknown (Turn kind a c)) p q

byte_kept : (kind : ℕ) (a c : Term) → (kind ≡ 4 → ⊥) → is_open a ≡ false → is_open c ≡ false → turn_or_turned kind a c ≡ Turn kind a c
byte_kept kind a c other p q = ap (λ x. cond x (Turned c) (turn kind a c)) (not_equal kind 4 other) ∙ turn_kept kind a c p q

-- a byte that is itself open
byte_open : (kind : ℕ) (a c : Term) → (kind ≡ 4 → ⊥) → is_open a ≡ true → turn_or_turned kind a c ≡ Unknown
byte_open kind a c other p = ap (λ x. cond x (Turned c) (turn kind a c)) (not_equal kind 4 other) ∙ ap (λ x. cond (x || is_open c) Unknown (Turn kind a c)) p

pub returns-then-carry_open : goal.returns-then-carry_open
returns-then-carry_open c =
    let held = c.args.self.now in
    let carry = tree_in held c.args.carry in
    let unknown = turn_open c.args.kind (tree_in held c.args.a) carry c.if-kind-eq4.false (sym c.is_open-carry_open.ensures.open ∙ c.if-carry_open.true) in
    subst (λ t. Makes held c.unknown.new.self 1 t c.unknown.result) (sym unknown) c.unknown.ensures

pub keep-requires : goal.keep-requires
keep-requires c = record { plain = refl; given = (c.requires.carry.given, tt); made = (c.is_open-carry_open.ensures.made, c.requires.carry.of_sort) }

pub returns-then-kind-eq4 : goal.returns-then-kind-eq4
returns-then-kind-eq4 c =
    let held = c.args.self.now in
    subst (λ k. Makes held c.keep.new.self 1 (turn_or_turned k (tree_in held c.args.a) (tree_in held c.args.carry)) c.keep.result) (sym c.if-kind-eq4.true) c.keep.ensures

pub is_open-requires : goal.is_open-requires
is_open-requires c = (c.requires.a (below c.args.kind c.requires.kind c.if-kind-eq4.false)).given

pub keep-requires-else-is_open : goal.keep-requires-else-is_open
keep-requires-else-is_open c =
    let small = below c.args.kind c.requires.kind c.if-kind-eq4.false in
    let a = c.requires.a small in
    let kept = turn_kept c.from.result _ _ (sym c.is_open.ensures.open ∙ c.if-is_open.false) (sym c.is_open-carry_open.ensures.open ∙ c.if-carry_open.false) in
    record {
      plain = refl;
      given = (a.given, (c.requires.carry.given, tt));
      made = (c.is_open.ensures.made, c.is_open-carry_open.ensures.made, subst (λ k. k < 4) (sym c.from.ensures) small, a.of_sort, c.requires.carry.of_sort, kept);
    }

pub returns-then-is_open : goal.returns-then-is_open
returns-then-is_open c =
    let held = c.args.self.now in
    let unknown = byte_open c.args.kind (tree_in held c.args.a) (tree_in held c.args.carry) c.if-kind-eq4.false (sym c.is_open.ensures.open ∙ c.if-is_open.true) in
    subst (λ t. Makes held c.unknown-then-is_open.new.self 1 t c.unknown-then-is_open.result) (sym unknown) c.unknown-then-is_open.ensures

pub returns-else-is_open : goal.returns-else-is_open
returns-else-is_open c =
    let held = c.args.self.now in
    let a = tree_in held c.args.a in
    let carry = tree_in held c.args.carry in
    let kept = byte_kept c.args.kind a carry c.if-kind-eq4.false (sym c.is_open.ensures.open ∙ c.if-is_open.false) (sym c.is_open-carry_open.ensures.open ∙ c.if-carry_open.false) in
    subst (λ t. Makes held c.keep-else-is_open.new.self 1 t c.keep-else-is_open.result) (ap (λ k. Turn k a carry) c.from.ensures ∙ sym kept) c.keep-else-is_open.ensures
