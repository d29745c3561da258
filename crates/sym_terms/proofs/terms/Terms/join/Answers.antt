use Rattle.std.proofs.Common.{◌≡◌, ◌∙◌, ap, ap₂, subst, sym, refl, Some}
use Rattle.sym_terms.specs.Making.{join}
use Rattle.sym_terms.specs.Term.{Join}
use Rattle.sym_terms.specs.Trees.{tree_in, Makes}
use Rattle.sym_terms.proofs.Making.{join_same, join_other, join_adjusted, join_number, join_high, join_plain, makes_given, same_ids, apart}
use Rattle.sym_terms.proofs.terms.Terms.join.Goals as goal
use Rattle.sym_terms.proofs.terms.Terms.join.Goals.{else-eq-via-then-eq+else-not-is_adjusted, else-eq-via-else-eq}

pub keep-requires-else-eq-clause-made : goal.keep-requires-else-eq-clause-made
keep-requires-else-eq-clause-made c =
    let held = c.args.self.now in
    let terms = c.in-Low.ensures.terms in
    let high = tree_in held c.args.high in
    let low = tree_in held c.args.low in
    let word = tree_in held c.in-High.word in
    let other = tree_in held c.in-Low.other in
    let kept : join high low ≡ Join high low =
    elim c.else-eq.branch [
      | else-eq-via-then-eq+else-not-is_adjusted w ↦ join_adjusted high low word other c.in-High.ensures.tree c.in-Low.ensures.tree (sym w.is_adjusted.ensures ∙ w.if-not-is_adjusted.false)
      | else-eq-via-else-eq w ↦ join_other high low word other c.in-High.ensures.tree c.in-Low.ensures.tree
          (apart held terms c.in-Low.other c.in-High.word c.in-Low.ensures.operands.0 c.in-High.ensures.operands.0 (sym c.eq.ensures ∙ w.if-eq.false))
    ] in (
      terms.made c.args.high c.requires.high.given,
      terms.made c.args.low c.requires.low.given,
      c.requires.high.of_sort,
      c.requires.low.of_sort,
      kept,
    )

pub returns-then-not-is_adjusted : goal.returns-then-not-is_adjusted
returns-then-not-is_adjusted c =
    let held = c.args.self.now in
    let high = tree_in held c.args.high in
    let low = tree_in held c.args.low in
    let word = tree_in held c.in-High.word in
    let same = ap (tree_in held) (sym (same_ids c.in-Low.other c.in-High.word (sym c.eq.ensures ∙ c.if-eq.true))) in
    let plain = sym c.is_adjusted.ensures ∙ c.if-not-is_adjusted.true in
    let joined = join_same high low word (tree_in held c.in-Low.other) c.in-High.ensures.tree c.in-Low.ensures.tree same plain in
    subst (λ t. Makes held held 1 t (Some c.in-High.word)) (sym joined) (makes_given held c.in-High.word word c.in-Low.ensures.terms (c.in-High.ensures.operands.0, refl))

pub returns-else-eq : goal.returns-else-eq
returns-else-eq c =
    let held = c.args.self.now in
    let high = tree_in held c.args.high in
    let low = tree_in held c.args.low in
    let word = tree_in held c.in-High.word in
    let other = tree_in held c.in-Low.other in
    let kept : join high low ≡ Join high low =
    elim c.else-eq.branch [
      | else-eq-via-then-eq+else-not-is_adjusted w ↦ join_adjusted high low word other c.in-High.ensures.tree c.in-Low.ensures.tree (sym w.is_adjusted.ensures ∙ w.if-not-is_adjusted.false)
      | else-eq-via-else-eq w ↦ join_other high low word other c.in-High.ensures.tree c.in-Low.ensures.tree
          (apart held c.in-Low.ensures.terms c.in-Low.other c.in-High.word c.in-Low.ensures.operands.0 c.in-High.ensures.operands.0 (sym c.eq.ensures ∙ w.if-eq.false))
    ] in
    subst (λ t. Makes held c.keep-else-eq.new.self 1 t c.keep-else-eq.result) (sym kept) c.keep-else-eq.ensures

pub keep-requires-clause-made : goal.keep-requires-clause-made
keep-requires-clause-made c =
    let held = c.args.self.now in
    let terms = c.in-Num.ensures.terms in
    let high = tree_in held c.args.high in
    let low = tree_in held c.args.low in
    let kept : join high low ≡ Join high low = ap₂ join c.in-Num.ensures.tree c.head-in-Num.ensures.tree ∙ join_number held c.in-Num.h c.head-in-Num.result c.in_default-head.not-Num ∙ ap₂ Join (sym c.in-Num.ensures.tree) (sym c.head-in-Num.ensures.tree) in
    (terms.made c.args.high c.requires.high.given, terms.made c.args.low c.requires.low.given, c.requires.high.of_sort, c.requires.low.of_sort, kept)

pub returns-in_default-head : goal.returns-in_default-head
returns-in_default-head c =
    let held = c.args.self.now in
    let high = tree_in held c.args.high in
    let low = tree_in held c.args.low in
    let kept : join high low ≡ Join high low = ap₂ join c.in-Num.ensures.tree c.head-in-Num.ensures.tree ∙ join_number held c.in-Num.h c.head-in-Num.result c.in_default-head.not-Num ∙ ap₂ Join (sym c.in-Num.ensures.tree) (sym c.head-in-Num.ensures.tree) in
    subst (λ t. Makes held c.keep.new.self 1 t c.keep.result) (sym kept) c.keep.ensures

pub keep-requires-in_default-head-2-clause-made : goal.keep-requires-in_default-head-2-clause-made
keep-requires-in_default-head-2-clause-made c =
    let held = c.args.self.now in
    let terms = c.in-High.ensures.terms in
    let high = tree_in held c.args.high in
    let low = tree_in held c.args.low in
    let kept : join high low ≡ Join high low = ap₂ join c.in-High.ensures.tree c.head-in-High.ensures.tree ∙ join_high held (tree_in held c.in-High.word) c.head-in-High.result c.in_default-head-2.not-Low ∙ ap₂ Join (sym c.in-High.ensures.tree) (sym c.head-in-High.ensures.tree) in
    (terms.made c.args.high c.requires.high.given, terms.made c.args.low c.requires.low.given, c.requires.high.of_sort, c.requires.low.of_sort, kept)

pub returns-in_default-head-2 : goal.returns-in_default-head-2
returns-in_default-head-2 c =
    let held = c.args.self.now in
    let high = tree_in held c.args.high in
    let low = tree_in held c.args.low in
    let kept : join high low ≡ Join high low = ap₂ join c.in-High.ensures.tree c.head-in-High.ensures.tree ∙ join_high held (tree_in held c.in-High.word) c.head-in-High.result c.in_default-head-2.not-Low ∙ ap₂ Join (sym c.in-High.ensures.tree) (sym c.head-in-High.ensures.tree) in
    subst (λ t. Makes held c.keep-in_default-head-2.new.self 1 t c.keep-in_default-head-2.result) (sym kept) c.keep-in_default-head-2.ensures

pub keep-requires-in_default-clause-made : goal.keep-requires-in_default-clause-made
keep-requires-in_default-clause-made c =
    let held = c.args.self.now in
    let terms = c.head.ensures.terms in
    let high = tree_in held c.args.high in
    let low = tree_in held c.args.low in
    let kept : join high low ≡ Join high low = ap (λ h. join h low) c.head.ensures.tree ∙ join_plain held c.head.result low c.in_default.not-Num c.in_default.not-High ∙ ap (λ h. Join h low) (sym c.head.ensures.tree) in
    (terms.made c.args.high c.requires.high.given, terms.made c.args.low c.requires.low.given, c.requires.high.of_sort, c.requires.low.of_sort, kept)

pub returns-in_default : goal.returns-in_default
returns-in_default c =
    let held = c.args.self.now in
    let high = tree_in held c.args.high in
    let low = tree_in held c.args.low in
    let kept : join high low ≡ Join high low = ap (λ h. join h low) c.head.ensures.tree ∙ join_plain held c.head.result low c.in_default.not-Num c.in_default.not-High ∙ ap (λ h. Join h low) (sym c.head.ensures.tree) in
    subst (λ t. Makes held c.keep-in_default.new.self 1 t c.keep-in_default.result) (sym kept) c.keep-in_default.ensures

pub returns-in-Num-head : goal.returns-in-Num-head
returns-in-Num-head c =
    let held = c.args.self.now in
    subst (λ t. Makes held c.number.new.self 1 t c.number.result) (sym (ap₂ join c.in-Num.ensures.tree c.in-Num-head.ensures.tree)) c.number.ensures
