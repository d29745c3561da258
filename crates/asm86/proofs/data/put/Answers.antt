use Rattle.std.proofs.Common.{◌+◌, ◌∙◌, [], ◌∷◌, ap, sym, arith}
use Rattle.std.proofs.lemmas.Result.{IfOk-from_err, err_from_is_err_and}
use Rattle.std.specs.List.{fold}
use Rattle.asm86_line_types.specs.Image.{put_cell, cells_from}
use Rattle.asm86_line_types.specs.Order.{at_start, reading_after}
use Rattle.asm86.specs.Places.{label_place}
use Rattle.asm86.proofs.Filling.{byte_within, word_within, word_put, stays}
use Rattle.asm86.proofs.data.put.Goals as goal

pub overflow_cast-at : goal.overflow_cast-at
overflow_cast-at c = let r = c.requires.stands in byte_within r.0 c.args.at c.in-Db.byte c.args.stmt r.1 r.2 c.in-Db.is

pub put_word-requires-clause-within : goal.put_word-requires-clause-within
put_word-requires-clause-within c = let r = c.requires.stands in word_within r.0 c.args.at c.in-Dw.value c.args.stmt r.1 r.2 c.in-Dw.is

pub returns-in_ok-put_word-in-Dw-clause-cells : goal.returns-in_ok-put_word-in-Dw-clause-cells
returns-in_ok-put_word-in-Dw-clause-cells c =
    word_put c.args.offsets.now c.args.at c.word_of.result c.in-Dw.value c.args.stmt c.args.cells.now c.put_word.new.cells c.in-Dw.is c.word_of.ensures.word c.in_ok-put_word-in-Dw.ensures

pub returns-in_default-clause-next : goal.returns-in_default-clause-next
returns-in_default-clause-next c = let n = c.in_default in (stays (label_place c.args.offsets.now) c.args.at c.args.stmt n.not-Dseg n.not-Org n.not-Rb n.not-Db n.not-Dw).0

pub returns-in_default-clause-cells : goal.returns-in_default-clause-cells
returns-in_default-clause-cells c =
    let n = c.in_default in
    ap (fold put_cell c.args.cells.now) (sym (stays (label_place c.args.offsets.now) c.args.at c.args.stmt n.not-Dseg n.not-Org n.not-Rb n.not-Db n.not-Dw).1)

pub returns-in_err-put-in-Db : goal.returns-in_err-put-in-Db
returns-in_err-put-in-Db c =
    let r = c.from_residual in
    let e = err_from_is_err_and r.result r.ensures.1 in
    record {
      near = IfOk-from_err r.result _ r.ensures.0;
      next = IfOk-from_err r.result _ r.ensures.0;
      cells = IfOk-from_err r.result _ r.ensures.0;
      memory = rw e.1 e.2;
    }

pub returns-in_err-put_word-in-Dw : goal.returns-in_err-put_word-in-Dw
returns-in_err-put_word-in-Dw c =
    let r = c.from_residual-in_err-put_word-in-Dw in
    let e = err_from_is_err_and r.result r.ensures.1 in
    record {
      near = IfOk-from_err r.result _ r.ensures.0;
      next = IfOk-from_err r.result _ r.ensures.0;
      cells = IfOk-from_err r.result _ r.ensures.0;
      memory = rw e.1 e.2;
    }

pub returns-in-Dseg : goal.returns-in-Dseg
returns-in-Dseg c =
    let at = c.args.at in
    record {
      near = omega arith;
      next = ap (λ s. (reading_after (record at_start { at = at }) s).at) (sym c.in-Dseg.is);
      cells = ap (λ s. fold put_cell c.args.cells.now (cells_from (label_place c.args.offsets.now) at (s ∷ []))) (sym c.in-Dseg.is);
      memory = tt;
    }

pub returns-in-Org : goal.returns-in-Org
returns-in-Org c =
    let at = c.args.at in
    record {
      near = omega arith;
      next = c.from.ensures ∙ ap (λ s. (reading_after (record at_start { at = at }) s).at) (sym c.in-Org.is);
      cells = ap (λ s. fold put_cell c.args.cells.now (cells_from (label_place c.args.offsets.now) at (s ∷ []))) (sym c.in-Org.is);
      memory = tt;
    }

pub returns-in-Rb : goal.returns-in-Rb
returns-in-Rb c =
    let at = c.args.at in
    record {
      near = omega arith;
      next = ap (λ n. at + n) c.from-in-Rb.ensures ∙ ap (λ s. (reading_after (record at_start { at = at }) s).at) (sym c.in-Rb.is);
      cells = ap (λ s. fold put_cell c.args.cells.now (cells_from (label_place c.args.offsets.now) at (s ∷ []))) (sym c.in-Rb.is);
      memory = tt;
    }
