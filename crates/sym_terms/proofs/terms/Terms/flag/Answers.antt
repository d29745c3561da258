-- What a flag is, by the head of the operation's term. Searches find all of this too, but go long through the heads.
use Rattle.std.proofs.Common.{◌≡◌, ◌∙◌, true, false, cond, List, refl, ap, ap₂, subst, sym}
use Rattle.cells.specs.declared.Part.{Part}
use Rattle.cells.specs.declared.Part.TheVariants.{Ac, Cy}
use Rattle.sym_terms.specs.declared.head.Head.{Head}
use Rattle.sym_terms.specs.declared.head.Head.TheVariants.{Alu as AluHead}
use Rattle.sym_terms.specs.Term.{Term, Num, Flag, Unknown, is_open}
use Rattle.sym_terms.specs.Making.{carry_flag, half_carry_flag, flag_term_of, flag}
use Rattle.sym_terms.specs.Heads.{is_logic_head, is_addition_head}
use Rattle.sym_terms.specs.Trees.{Entry, tree_of_head, entries_of, tree_in, Makes}
use Rattle.sym_terms.proofs.terms.Terms.flag.Goals as goal

no_carry : (es : List Entry) (h : Head) → is_logic_head h ≡ true → carry_flag (tree_of_head es h) ≡ Num 0
no_carry es (AluHead op a b c) e = ap (λ x. cond x (Num 0) (Flag Cy (tree_of_head es (AluHead op a b c)))) e
no_carry es h e = absurd (cc)

carry : (es : List Entry) (h : Head) → is_logic_head h ≡ false → carry_flag (tree_of_head es h) ≡ Flag Cy (tree_of_head es h)
carry es (AluHead op a b c) e = ap (λ x. cond x (Num 0) (Flag Cy (tree_of_head es (AluHead op a b c)))) e
carry es h e = refl

half_carry : (es : List Entry) (h : Head) → is_addition_head h ≡ true → half_carry_flag (tree_of_head es h) ≡ Flag Ac (tree_of_head es h)
half_carry es (AluHead op a b c) e = ap (λ x. cond x (Flag Ac (tree_of_head es (AluHead op a b c))) Unknown) e
half_carry es h e = absurd (cc)

no_half_carry : (es : List Entry) (h : Head) → is_addition_head h ≡ false → half_carry_flag (tree_of_head es h) ≡ Unknown
no_half_carry es (AluHead op a b c) e = ap (λ x. cond x (Flag Ac (tree_of_head es (AluHead op a b c))) Unknown) e
no_half_carry es h e = refl

other : (part : Part) (r : Term) → (part ≡ Cy → ⊥) → (part ≡ Ac → ⊥) → flag_term_of part r ≡ Flag part r
other Cy r p q = absurd (p refl)
other Ac r p q = absurd (q refl)
other part r p q = refl

-- the flag of an operation in which nothing is open
flag_is : (part : Part) (r t : Term) → is_open r ≡ false → flag_term_of part r ≡ t → flag part r ≡ t
flag_is part r t o e = ap (λ x. cond x Unknown (flag_term_of part r)) o ∙ e

pub returns-then-is_open : goal.returns-then-is_open
returns-then-is_open c =
    let held = c.args.self.now in
    let r = tree_in held c.args.of in
    let none : flag c.args.part r ≡ Unknown = ap (λ x. cond x Unknown (flag_term_of c.args.part r)) (sym c.is_open.ensures.open ∙ c.if-is_open.true) in
    subst (λ t. Makes held c.unknown.new.self 1 t c.unknown.result) (sym none) c.unknown.ensures

pub returns-then-is_logic : goal.returns-then-is_logic
returns-then-is_logic c =
    let held = c.args.self.now in
    let r = tree_in held c.args.of in
    let es = entries_of held.nodes in
    let is : flag c.args.part r ≡ Num 0 =
    flag_is c.args.part r (Num 0) (sym c.is_open.ensures.open ∙ c.if-is_open.false)
    (ap₂ flag_term_of c.in-Cy.is c.head.ensures.tree ∙ no_carry es c.head.result (sym c.is_logic.ensures ∙ c.if-is_logic.true))
    in
    subst (λ t. Makes held c.number.new.self 1 t c.number.result) (sym is) c.number.ensures

pub keep-requires-clause-made : goal.keep-requires-clause-made
keep-requires-clause-made c =
    let held = c.args.self.now in
    let r = tree_in held c.args.of in
    let es = entries_of held.nodes in
    let is : flag c.args.part r ≡ Flag c.args.part r =
    flag_is c.args.part r (Flag c.args.part r) (sym c.is_open.ensures.open ∙ c.if-is_open.false)
    (ap₂ flag_term_of c.in-Cy.is c.head.ensures.tree ∙ carry es c.head.result (sym c.is_logic.ensures ∙ c.if-is_logic.false) ∙ sym (ap₂ Flag c.in-Cy.is c.head.ensures.tree))
    in
    (c.is_open.ensures.made, c.requires.of_sort, is)

pub returns-else-is_logic : goal.returns-else-is_logic
returns-else-is_logic c =
    let held = c.args.self.now in
    let r = tree_in held c.args.of in
    let es = entries_of held.nodes in
    let is : flag c.args.part r ≡ Flag c.args.part r =
    flag_is c.args.part r (Flag c.args.part r) (sym c.is_open.ensures.open ∙ c.if-is_open.false)
    (ap₂ flag_term_of c.in-Cy.is c.head.ensures.tree ∙ carry es c.head.result (sym c.is_logic.ensures ∙ c.if-is_logic.false) ∙ sym (ap₂ Flag c.in-Cy.is c.head.ensures.tree))
    in
    subst (λ t. Makes held c.keep.new.self 1 t c.keep.result) (sym is) c.keep.ensures

pub keep-requires-then-is_addition-clause-made : goal.keep-requires-then-is_addition-clause-made
keep-requires-then-is_addition-clause-made c =
    let held = c.args.self.now in
    let r = tree_in held c.args.of in
    let es = entries_of held.nodes in
    let is : flag c.args.part r ≡ Flag c.args.part r =
    flag_is c.args.part r (Flag c.args.part r) (sym c.is_open.ensures.open ∙ c.if-is_open.false)
    (ap₂ flag_term_of c.in-Ac.is c.head-in-Ac.ensures.tree ∙ half_carry es c.head-in-Ac.result (sym c.is_addition.ensures ∙ c.if-is_addition.true) ∙ sym (ap₂ Flag c.in-Ac.is c.head-in-Ac.ensures.tree))
    in
    (c.is_open.ensures.made, c.requires.of_sort, is)

pub returns-then-is_addition : goal.returns-then-is_addition
returns-then-is_addition c =
    let held = c.args.self.now in
    let r = tree_in held c.args.of in
    let es = entries_of held.nodes in
    let is : flag c.args.part r ≡ Flag c.args.part r =
    flag_is c.args.part r (Flag c.args.part r) (sym c.is_open.ensures.open ∙ c.if-is_open.false)
    (ap₂ flag_term_of c.in-Ac.is c.head-in-Ac.ensures.tree ∙ half_carry es c.head-in-Ac.result (sym c.is_addition.ensures ∙ c.if-is_addition.true) ∙ sym (ap₂ Flag c.in-Ac.is c.head-in-Ac.ensures.tree))
    in
    subst (λ t. Makes held c.keep-then-is_addition.new.self 1 t c.keep-then-is_addition.result) (sym is) c.keep-then-is_addition.ensures

pub returns-else-is_addition : goal.returns-else-is_addition
returns-else-is_addition c =
    let held = c.args.self.now in
    let r = tree_in held c.args.of in
    let es = entries_of held.nodes in
    let is : flag c.args.part r ≡ Unknown =
    flag_is c.args.part r Unknown (sym c.is_open.ensures.open ∙ c.if-is_open.false)
    (ap₂ flag_term_of c.in-Ac.is c.head-in-Ac.ensures.tree ∙ no_half_carry es c.head-in-Ac.result (sym c.is_addition.ensures ∙ c.if-is_addition.false))
    in
    subst (λ t. Makes held c.unknown-else-is_addition.new.self 1 t c.unknown-else-is_addition.result) (sym is) c.unknown-else-is_addition.ensures

pub keep-requires-in_default : goal.keep-requires-in_default
keep-requires-in_default c =
    let r = tree_in c.args.self.now c.args.of in
    record {
      plain = refl;
      given = (c.requires.given, tt);
      made = (
        c.is_open.ensures.made,
        c.requires.of_sort,
        flag_is c.args.part r (Flag c.args.part r) (sym c.is_open.ensures.open ∙ c.if-is_open.false) (other c.args.part r c.in_default.not-Cy c.in_default.not-Ac),
      );
    }

pub returns-in_default : goal.returns-in_default
returns-in_default c =
    let held = c.args.self.now in
    let r = tree_in held c.args.of in
    let is : flag c.args.part r ≡ Flag c.args.part r =
    flag_is c.args.part r (Flag c.args.part r) (sym c.is_open.ensures.open ∙ c.if-is_open.false) (other c.args.part r c.in_default.not-Cy c.in_default.not-Ac)
    in
    subst (λ t. Makes held c.keep-in_default.new.self 1 t c.keep-in_default.result) (sym is) c.keep-in_default.ensures
