use Rattle.std.proofs.Common.{◌≡◌, ℕ, List, [], ◌∷◌, length, refl, sym, subst, arith}
use Rattle.std.proofs.lemmas.Bool.{eqb-true}
use Rattle.hex_file.specs.Written.{IsRecordOf, IsWritten}
use Rattle.hex_file.proofs.Running.{WritesOn, writes_first, writes_more, writes_end}
use Rattle.hex_file.proofs.writing.write_cells.Goals as goal

pub loop-rest-init : goal.loop-rest-init
loop-rest-init c = writes_first c.args.cells.now c.new-text.result.items c.new-text.ensures.items

pub loop-rest-preserved : goal.loop-rest-preserved
loop-rest-preserved c =
    let h = c.run_length.ensures in
    subst (λ rest. WritesOn c.args.cells.now rest c.push_line.new.text.items) (sym c.split_at.ensures.back)
    (writes_more c.args.cells.now c.loop-rest.rest.now c.run_length.result h.some h.within h.most h.adjacent h.longest c.loop-rest.text.items c.push_line.new.text.items
    (λ r is. c.in_ok-push_line.ensures r (subst (λ l. IsRecordOf l r) (sym c.split_at.ensures.front) is)) c.loop-rest.invariant)

empty_from : (cells : List (ℕ × ℕ)) → length cells ≡ 0 → cells ≡ []
empty_from [] e = refl
empty_from (c ∷ cells) e = absurd (omega (arith, e))

pub returns : goal.returns
returns c =
    subst (IsWritten c.args.cells.now) (sym c.in_ok-extend_from_slice.ensures.items)
    (writes_end c.args.cells.now c.loop-rest.rest.now c.loop-rest.text.items (empty_from c.loop-rest.rest.now (eqb-true (length c.loop-rest.rest.now) 0 (sym c.loop-rest-test.ensures))) c.loop-rest.invariant)
