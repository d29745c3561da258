use Rattle.std.proofs.Common.{List, ℕ, sym, ap, ◌∙◌, subst}
use Rattle.std.specs.Str.{bytes_eq}
use Rattle.asm80_types.specs.Name.{IsName}
use Rattle.zilog80.specs.Read.{fits_binary, spelt_of}
use Rattle.zilog80.proofs.Among.{every, fails_left, fails_right, found_here, found_later, found_nowhere}
use Rattle.zilog80.proofs.Found.{binary_found, binary_none, binary_name}
use Rattle.zilog80.proofs.table.binary_in.Goals.{else-eq-via-else-eq, else-eq-via-then-eq+else-takes, else-eq-via-then-eq+then-takes+else-takes-2}
use Rattle.zilog80.proofs.table.binary_in.Goals as goal

pub of-requires : goal.of-requires
of-requires c =
    let word = ap (λ (n : List ℕ). bytes_eq n c.args.word.now) (sym c.as_bytes.ensures.value) ∙ sym c.eq.ensures ∙ c.if-eq.true in
    let here = found_here (fits_binary c.args.word.now (spelt_of c.args.left.now) (spelt_of c.args.right.now)) c.args.rows.now c.loop-row.row-index _ c.loop-row-test.true c.loop-row.invariant
    (every _ _ word (every _ _ (sym c.takes.ensures ∙ c.if-takes.true) (sym c.takes-then-takes.ensures ∙ c.if-takes-2.true))) in
    subst IsName (sym c.as_bytes-then-takes-2.ensures.value) (binary_name c.args.rows.now c.args.word.now (spelt_of c.args.left.now) (spelt_of c.args.right.now) _ c.requires here)

pub returns-then-takes-2 : goal.returns-then-takes-2
returns-then-takes-2 c = λ entries view.
    let word = ap (λ (n : List ℕ). bytes_eq n c.args.word.now) (sym c.as_bytes.ensures.value) ∙ sym c.eq.ensures ∙ c.if-eq.true in
    let here = found_here (fits_binary c.args.word.now (spelt_of c.args.left.now) (spelt_of c.args.right.now)) c.args.rows.now c.loop-row.row-index _ c.loop-row-test.true c.loop-row.invariant
    (every _ _ word (every _ _ (sym c.takes.ensures ∙ c.if-takes.true) (sym c.takes-then-takes.ensures ∙ c.if-takes-2.true))) in
    rw (c.of.ensures, c.as_bytes-then-takes-2.ensures.value) (binary_found entries c.args.rows.now c.args.word.now (spelt_of c.args.left.now) (spelt_of c.args.right.now) _ view here)

pub loop-row-preserved : goal.loop-row-preserved
loop-row-preserved c = elim c.else-eq.branch [
  | else-eq-via-else-eq w ↦ found_later (fits_binary c.args.word.now (spelt_of c.args.left.now) (spelt_of c.args.right.now)) c.args.rows.now c.loop-row.row-index _ c.loop-row-test.true c.loop-row.invariant (fails_left _ _ (ap (λ (n : List ℕ). bytes_eq n c.args.word.now) (sym c.as_bytes.ensures.value) ∙ sym c.eq.ensures ∙ w.if-eq.false))
  | else-eq-via-then-eq+else-takes w ↦ found_later (fits_binary c.args.word.now (spelt_of c.args.left.now) (spelt_of c.args.right.now)) c.args.rows.now c.loop-row.row-index _ c.loop-row-test.true c.loop-row.invariant (fails_right _ _ (fails_left _ _ (sym w.takes.ensures ∙ w.if-takes.false)))
  | else-eq-via-then-eq+then-takes+else-takes-2 w ↦ found_later (fits_binary c.args.word.now (spelt_of c.args.left.now) (spelt_of c.args.right.now)) c.args.rows.now c.loop-row.row-index _ c.loop-row-test.true c.loop-row.invariant (fails_right _ _ (fails_right _ _ (sym w.takes-then-takes.ensures ∙ w.if-takes-2.false)))
]

pub returns : goal.returns
returns c = λ entries view. binary_none entries c.args.rows.now c.args.word.now (spelt_of c.args.left.now) (spelt_of c.args.right.now) view (found_nowhere (fits_binary c.args.word.now (spelt_of c.args.left.now) (spelt_of c.args.right.now)) c.args.rows.now c.loop-row.row-index c.loop-row-test.false c.loop-row.invariant)
