use Rattle.std.proofs.Common.{◌≡◌, ℕ, List, ◌∷◌, drop, length, true, false, ap, sym, subst, ◌∙◌, arith, rules}
use Rattle.std.proofs.lemmas.Result.{err_from_is_err_and}
use Rattle.asm80_text.proofs.Chain.{spells_shorter, begins_shorter}
use Rattle.asm80_text.proofs.Cases.{term_read, parens_read, nothing_never, stray_never, parens_never, unclosed_never, signed_never, added, taken_off, tighter_read, tighter_never, unsigned_read, unsigned_never, chain_starts, chain_never, chain_goes_on, chain_breaks, chain_ends, gives_on, fails_on}
use Rattle.asm80_text.proofs.Unambiguous.{term_sure}
use Rattle.asm80_types.specs.Tree.{tree_of}
use Rattle.asm80_text.specs.declared.token.Token.{Token}
use Rattle.asm80_text.specs.Grammar.{Begins, EndsInside}
use Rattle.asm80_text.specs.TreeResults.{Gives}
use Rattle.asm80_text.proofs.Inverted.{row_read, row_fails}
use Rattle.asm80_types.specs.contracts.expr.Two.{the_type}
use denote.Enum.Bare.{same_true}
use Rattle.asm80_text.proofs.parser.+expression.Goals as goal

not_false : false ≡ true → ⊥
not_false e = cc

pub begin_at-returns-in_default : goal.begin_at-returns-in_default
begin_at-returns-in_default t c = gives_on _ _ _ _ c.expression_at.result (λ e r s. tighter_read c.args.level _ r e (omega arith) (omega arith) (omega arith) s) (λ n. tighter_never c.args.level _ (omega arith) (omega arith) (omega arith) n) c.expression_at.ensures

pub expression_at-returns-in_err-left : goal.expression_at-returns-in_err-left
expression_at-returns-in_err-left t c =
    let p = err_from_is_err_and c.from_residual.result c.from_residual.ensures.1 in
    rw (p.1, p.2) (fails_on _ _ _ _ c.in_err-left.field-0.0 (chain_never _ _) c.in_err-left.ensures)

pub expression_at-loop-op-init : goal.expression_at-loop-op-init
expression_at-loop-op-init t c = record { chained = chain_starts _ _ _ _ c.in_ok-left.ensures; shorter = omega (arith, begins_shorter c.in_ok-left.ensures.holds) }

pub expression_at-returns-in_err-right : goal.expression_at-returns-in_err-right
expression_at-returns-in_err-right t c =
    let p = err_from_is_err_and c.from_residual-in_err-right.result c.from_residual-in_err-right.ensures.1 in
    rw (p.1, p.2) (fails_on _ _ _ _ c.in_err-right.field-0.0 (chain_breaks _ _ _ _ _ _ c.loop-op.invariant.chained c.in-Some-operator_of.ensures.0 c.in-Some-operator_of.ensures.1) c.in_err-right.ensures)

pub expression_at-loop-op-smaller : goal.expression_at-loop-op-smaller
expression_at-loop-op-smaller t c = omega (arith, spells_shorter c.in_ok-right.ensures.holds, ap length c.in-Some-operator_of.ensures.0)

pub expression_at-loop-op-preserved : goal.expression_at-loop-op-preserved
expression_at-loop-op-preserved t c = record {
  chained = rw c.in_ok-left-2.ensures (chain_goes_on _ _ _ _ _ _ _ _ c.loop-op.invariant.chained c.in-Some-operator_of.ensures.0 c.in-Some-operator_of.ensures.1 c.in_ok-right.ensures);
  shorter = omega (arith, spells_shorter c.in_ok-right.ensures.holds, ap length c.in-Some-operator_of.ensures.0);
}

pub expression_at-returns : goal.expression_at-returns
expression_at-returns t c = chain_ends _ _ _ _ c.loop-op.invariant.chained c.in_default-operator_of.ensures

pub expression_at-returns-in-Some : goal.expression_at-returns-in-Some
expression_at-returns-in-Some t c = term_sure c.args.level c.args.tokens.now c.in-Some.found.1.now (tree_of c.in-Some.found.0) c.requires c.in-Some.ensures.0 c.in-Some.ensures.1

pub operand_at-returns-in-Some-term_of : goal.operand_at-returns-in-Some-term_of
operand_at-returns-in-Some-term_of t c = term_read c.args.tokens.now c.in-Some.rest.now c.in-Some.token.now (tree_of c.in-Some-term_of.term) c.in-Some.ensures (sym c.in-Some-term_of.ensures)

pub inverted_at-returns-in_err-sum : goal.inverted_at-returns-in_err-sum
inverted_at-returns-in_err-sum t c =
    let p = err_from_is_err_and c.from_residual.result c.from_residual.ensures.1 in
    rw (p.1, p.2) (row_fails _ _ c.in_err-sum.field-0.0 (c.split_at.ensures.back ∙ ap (λ n. drop n c.args.tokens.now) c.nots_len-count.ensures.value) c.in_err-sum.ensures)

pub inverted_at-returns : goal.inverted_at-returns
inverted_at-returns t c =
    rw (c.in_ok-inverted.ensures, c.nots_len-count.ensures.value)
    (row_read _ _ _ (rw (c.split_at.ensures.back, c.nots_len-count.ensures.value) at c.in_ok-sum.ensures))

pub parenthesized-returns : goal.parenthesized-returns
parenthesized-returns t c = parens_read _ _ _ _ c.in-Some.ensures c.in_ok-inside.ensures

pub signed_at-returns-in_default : goal.signed_at-returns-in_default
signed_at-returns-in_default t c = gives_on _ _ _ _ c.expression_at.result (λ e r s. unsigned_read _ r e c.in_default.ensures s) (λ n. unsigned_never _ c.in_default.ensures n) c.expression_at.ensures

pub signed_at-returns-in_err-term : goal.signed_at-returns-in_err-term
signed_at-returns-in_err-term t c =
    let p = err_from_is_err_and c.from_residual.result c.from_residual.ensures.1 in
    rw (p.1, p.2) (fails_on _ _ _ _ c.in_err-term.field-0.0 (signed_never _ _ _ c.in-Some.ensures.0) c.in_err-term.ensures)

pub signed_at-returns-then-eq : goal.signed_at-returns-then-eq
signed_at-returns-then-eq t c = added _ _ _ _ _ (same_true the_type (search rules) _ _ (sym c.if-eq.ensures)) c.in-Some.ensures.0 c.in_ok-term.ensures

pub signed_at-returns : goal.signed_at-returns
signed_at-returns t c = rw c.in_ok-new.ensures.ok (taken_off _ _ _ _ _ c.in-Some.ensures.1 (λ e. let h = c.if-eq.ensures in not_false (rw e at h)) c.in-Some.ensures.0 c.in_ok-term.ensures)

pub begin_at-returns-in-0 : goal.begin_at-returns-in-0
begin_at-returns-in-0 t c =
    let Given : ℕ → Type 0 = λ level. Gives (Begins level c.args.tokens.now) (EndsInside level) c.operand_at.result in
    subst Given (sym c.in-0.is) c.operand_at.ensures

pub begin_at-returns-in-2 : goal.begin_at-returns-in-2
begin_at-returns-in-2 t c =
    let Given : ℕ → Type 0 = λ level. Gives (Begins level c.args.tokens.now) (EndsInside level) c.signed_at.result in
    subst Given (sym c.in-2.is) c.signed_at.ensures

pub begin_at-returns-in-3 : goal.begin_at-returns-in-3
begin_at-returns-in-3 t c =
    let Given : ℕ → Type 0 = λ level. Gives (Begins level c.args.tokens.now) (EndsInside level) c.inverted_at.result in
    subst Given (sym c.in-3.is) c.inverted_at.ensures

pub expression_at-returns-in_err-left-2 : goal.expression_at-returns-in_err-left-2
expression_at-returns-in_err-left-2 t c =
    let p = err_from_is_err_and c.from_residual-in_err-left-2.result c.from_residual-in_err-left-2.ensures.1 in
    rw (p.1, p.2) tt

pub inverted_at-returns-in_err-inverted : goal.inverted_at-returns-in_err-inverted
inverted_at-returns-in_err-inverted t c =
    let p = err_from_is_err_and c.from_residual-in_err-inverted.result c.from_residual-in_err-inverted.ensures.1 in
    rw (p.1, p.2) tt

pub signed_at-returns-in_err-new : goal.signed_at-returns-in_err-new
signed_at-returns-in_err-new t c =
    let p = err_from_is_err_and c.from_residual-in_err-new.result c.from_residual-in_err-new.ensures.1 in
    rw (p.1, p.2) tt

pub operand_at-returns-in_default : goal.operand_at-returns-in_default
operand_at-returns-in_default t c = nothing_never _ c.in_default.ensures

pub operand_at-returns-in-Open : goal.operand_at-returns-in-Open
operand_at-returns-in-Open t c =
    let Given : List Token → Type 0 = λ ts. Gives (Begins 0 ts) (EndsInside 0) c.parenthesized.result in
    subst Given (sym (c.in-Some.ensures ∙ ap (λ (t : Token). t ∷ c.in-Some.rest.now) c.in-Open.is)) c.parenthesized.ensures

pub operand_at-returns-in_default-token : goal.operand_at-returns-in_default-token
operand_at-returns-in_default-token t c = stray_never _ _ c.in-Some.token.now c.in-Some.ensures (sym c.in_default-term_of.ensures) c.in_default-token.not-Open

pub parenthesized-returns-in_err-inside : goal.parenthesized-returns-in_err-inside
parenthesized-returns-in_err-inside t c =
    let p = err_from_is_err_and c.from_residual.result c.from_residual.ensures.1 in
    rw (p.1, p.2) (fails_on _ _ _ _ c.in_err-inside.field-0.0 (parens_never _) c.in_err-inside.ensures)

pub parenthesized-returns-in_default : goal.parenthesized-returns-in_default
parenthesized-returns-in_default t c = unclosed_never _ _ _ c.in_ok-inside.ensures c.in_default.ensures
