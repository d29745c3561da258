use Rattle.std.proofs.Common.{◌≡◌, ◌∙◌, ◌&&◌, ◌||◌, not, Bool, true, false, sym, ap}
use Rattle.std.proofs.lemmas.Bool.{or_left}
use Rattle.sym_terms.specs.Term.{Term, Join, same_term}
use Rattle.sym_terms.specs.Making.{high, low}
use Rattle.sym_terms.specs.Trees.{tree_in}
use Rattle.sym_block_def.specs.Agree.{has_unknown, same_known, agrees}
use Rattle.sym_run.proofs.agreement.agree_join.Goals as goal
use Rattle.sym_run.proofs.agreement.agree_join.Goals.{then-knows_byte, else-knows_byte, then-same, else-same}

both_known : (u v k l : Bool) → k ≡ not u → k ≡ true → l ≡ not v → l ≡ not (u || v)
both_known false v k l e h f = f
both_known true v k l e h f = absurd (cc)

none_known : (u v k : Bool) → k ≡ not u → k ≡ false → k ≡ not (u || v)
none_known true v k e h = e
none_known false v k e h = absurd (cc)

and_then : (a b r : Bool) → a ≡ true → r ≡ b → r ≡ (a && b)
and_then true b r e h = h
and_then false b r e h = absurd (cc)

and_else : (a b r : Bool) → a ≡ false → r ≡ a → r ≡ (a && b)
and_else false b r e h = h
and_else true b r e h = absurd (cc)

or_else : (a b r : Bool) → a ≡ false → r ≡ b → r ≡ (a || b)
or_else false b r e h = h
or_else true b r e h = absurd (cc)

-- a word that is not the same and known agrees by its halves
by_halves : (s h l t : Term) (value result : Bool) → value ≡ (same_term s t && not (has_unknown (Join h l))) → value ≡ false → s ≡ Join h l → result ≡ (agrees h (high t) && agrees l (low t)) → result ≡ agrees s t
by_halves s h l t value result one unknown is halves =
    let none = sym (one ∙ ap (λ x. same_term x t && not (has_unknown (Join h l))) is) ∙ unknown in
    or_else (same_known (Join h l) t) (agrees h (high t) && agrees l (low t)) result none halves ∙ sym (ap (λ x. agrees x t) is)

pub returns-then-knows : goal.returns-then-knows
returns-then-knows c =
    let s = tree_in c.args.terms.now c.args.s in
    let t = tree_in c.args.terms.now c.args.t in
    let h = tree_in c.args.terms.now c.args.high in
    let l = tree_in c.args.terms.now c.args.low in
    let known : c.if-knows_byte.knows ≡ not (has_unknown (Join h l)) =
    elim c.if-knows_byte.branch [
      | then-knows_byte w ↦ w.knows-is ∙ both_known (has_unknown h) (has_unknown l) _ _ c.knows_byte.ensures w.if-knows_byte.true w.knows_byte-knows.ensures
      | else-knows_byte w ↦ w.knows-is ∙ none_known (has_unknown h) (has_unknown l) _ c.knows_byte.ensures w.if-knows_byte.false
    ] in
    let value : c.if-same.value ≡ (same_term s t && not (has_unknown (Join h l))) =
    elim c.if-same.branch [
      | then-same w ↦ and_then (same_term s t) _ _ (sym c.same.ensures ∙ w.if-same.true) (w.value-is ∙ known)
      | else-same w ↦ and_else (same_term s t) _ _ (sym c.same.ensures ∙ w.if-same.false) (w.value-is ∙ c.same.ensures)
    ] in
    let one = value ∙ ap (λ x. same_term x t && not (has_unknown (Join h l))) c.requires.join.is in
    let halves = agrees h (high t) && agrees l (low t) in
    c.if-knows.true ∙ sym (or_left (same_known (Join h l) t) halves (sym one ∙ c.if-knows.true)) ∙ sym (ap (λ x. agrees x t) c.requires.join.is)

pub returns-then-first : goal.returns-then-first
returns-then-first c =
    let s = tree_in c.args.terms.now c.args.s in
    let t = tree_in c.args.terms.now c.args.t in
    let h = tree_in c.args.terms.now c.args.high in
    let l = tree_in c.args.terms.now c.args.low in
    let known : c.if-knows_byte.knows ≡ not (has_unknown (Join h l)) =
    elim c.if-knows_byte.branch [
      | then-knows_byte w ↦ w.knows-is ∙ both_known (has_unknown h) (has_unknown l) _ _ c.knows_byte.ensures w.if-knows_byte.true w.knows_byte-knows.ensures
      | else-knows_byte w ↦ w.knows-is ∙ none_known (has_unknown h) (has_unknown l) _ c.knows_byte.ensures w.if-knows_byte.false
    ] in
    let value : c.if-same.value ≡ (same_term s t && not (has_unknown (Join h l))) =
    elim c.if-same.branch [
      | then-same w ↦ and_then (same_term s t) _ _ (sym c.same.ensures ∙ w.if-same.true) (w.value-is ∙ known)
      | else-same w ↦ and_else (same_term s t) _ _ (sym c.same.ensures ∙ w.if-same.false) (w.value-is ∙ c.same.ensures)
    ] in
    let high_half = ap (agrees h) c.half_of.ensures.tree in
    by_halves s h l t c.if-same.value _ value c.if-knows.false c.requires.join.is
    (and_then (agrees h (high t)) (agrees l (low t)) _ (sym (c.if-first.ensures ∙ high_half)) (c.agree_byte-second.ensures ∙ ap (agrees l) c.half_of-2.ensures.tree))

pub returns-else-first : goal.returns-else-first
returns-else-first c =
    let s = tree_in c.args.terms.now c.args.s in
    let t = tree_in c.args.terms.now c.args.t in
    let h = tree_in c.args.terms.now c.args.high in
    let l = tree_in c.args.terms.now c.args.low in
    let known : c.if-knows_byte.knows ≡ not (has_unknown (Join h l)) =
    elim c.if-knows_byte.branch [
      | then-knows_byte w ↦ w.knows-is ∙ both_known (has_unknown h) (has_unknown l) _ _ c.knows_byte.ensures w.if-knows_byte.true w.knows_byte-knows.ensures
      | else-knows_byte w ↦ w.knows-is ∙ none_known (has_unknown h) (has_unknown l) _ c.knows_byte.ensures w.if-knows_byte.false
    ] in
    let value : c.if-same.value ≡ (same_term s t && not (has_unknown (Join h l))) =
    elim c.if-same.branch [
      | then-same w ↦ and_then (same_term s t) _ _ (sym c.same.ensures ∙ w.if-same.true) (w.value-is ∙ known)
      | else-same w ↦ and_else (same_term s t) _ _ (sym c.same.ensures ∙ w.if-same.false) (w.value-is ∙ c.same.ensures)
    ] in
    let high_half = ap (agrees h) c.half_of.ensures.tree in
    by_halves s h l t c.if-same.value _ value c.if-knows.false c.requires.join.is
    (and_else (agrees h (high t)) (agrees l (low t)) _ (sym (c.if-first.ensures ∙ high_half)) (c.agree_byte-first.ensures ∙ high_half))
