use Rattle.std.proofs.Common.{List, ℕ, sym, ap, ◌∙◌, subst}
use Rattle.std.specs.Str.{bytes_eq}
use Rattle.asm80_types.specs.Name.{IsName}
use Rattle.zilog80.specs.Read.{fits_unary, spelt_of}
use Rattle.zilog80.proofs.Among.{every, fails_left, fails_right, found_here, found_later, found_nowhere}
use Rattle.zilog80.proofs.Found.{unary_found, unary_none, unary_name}
use Rattle.zilog80.proofs.table.unary_in.Goals.{else-eq-via-else-eq, else-eq-via-then-eq+else-takes}
use Rattle.zilog80.proofs.table.unary_in.Goals as goal

pub of-requires : goal.of-requires
of-requires c =
    let word = ap (λ (n : List ℕ). bytes_eq n c.args.word.now) (sym c.as_bytes.ensures.value) ∙ sym c.eq.ensures ∙ c.if-eq.true in
    let here = found_here (fits_unary c.args.word.now (spelt_of c.args.operand.now)) c.args.rows.now c.loop-row.row-index _ c.loop-row-test.true c.loop-row.invariant
    (every _ _ word (sym c.takes.ensures ∙ c.if-takes.true)) in
    subst IsName (sym c.as_bytes-then-takes.ensures.value) (unary_name c.args.rows.now c.args.word.now (spelt_of c.args.operand.now) _ c.requires here)

pub returns-then-takes : goal.returns-then-takes
returns-then-takes c = λ entries view.
    let word = ap (λ (n : List ℕ). bytes_eq n c.args.word.now) (sym c.as_bytes.ensures.value) ∙ sym c.eq.ensures ∙ c.if-eq.true in
    let here = found_here (fits_unary c.args.word.now (spelt_of c.args.operand.now)) c.args.rows.now c.loop-row.row-index _ c.loop-row-test.true c.loop-row.invariant
    (every _ _ word (sym c.takes.ensures ∙ c.if-takes.true)) in
    rw (c.of.ensures, c.as_bytes-then-takes.ensures.value) (unary_found entries c.args.rows.now c.args.word.now (spelt_of c.args.operand.now) _ view here)

pub loop-row-preserved : goal.loop-row-preserved
loop-row-preserved c = elim c.else-eq.branch [
  | else-eq-via-else-eq w ↦ found_later (fits_unary c.args.word.now (spelt_of c.args.operand.now)) c.args.rows.now c.loop-row.row-index _ c.loop-row-test.true c.loop-row.invariant (fails_left _ _ (ap (λ (n : List ℕ). bytes_eq n c.args.word.now) (sym c.as_bytes.ensures.value) ∙ sym c.eq.ensures ∙ w.if-eq.false))
  | else-eq-via-then-eq+else-takes w ↦ found_later (fits_unary c.args.word.now (spelt_of c.args.operand.now)) c.args.rows.now c.loop-row.row-index _ c.loop-row-test.true c.loop-row.invariant (fails_right _ _ (sym w.takes.ensures ∙ w.if-takes.false))
]

pub returns : goal.returns
returns c = λ entries view. unary_none entries c.args.rows.now c.args.word.now (spelt_of c.args.operand.now) view (found_nowhere (fits_unary c.args.word.now (spelt_of c.args.operand.now)) c.args.rows.now c.loop-row.row-index c.loop-row-test.false c.loop-row.invariant)
