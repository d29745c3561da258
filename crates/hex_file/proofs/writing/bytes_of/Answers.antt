use Rattle.std.proofs.Common.{◌/◌, ◌%◌, ◌∷◌, [], ◌++◌, length, get_or, sym, ap, ◌∙◌}
use Rattle.std.specs.List.{sum}
use Rattle.std.specs.Map.{values_of}
use Rattle.std.proofs.lemmas.List.{map_more, take_all}
use Rattle.hex_file.specs.Written.{first_address}
use Rattle.hex_file.proofs.Running.{record_is}
use Rattle.hex_file.proofs.writing.bytes_of.Goals as goal

pub loop-byte-preserved : goal.loop-byte-preserved
loop-byte-preserved c =
    let cells = c.args.run.now in
    let first = first_address cells in
    c.in_ok-push.ensures.items
    ∙ ap (λ l. l ++ (get_or cells c.loop-byte.byte-index (0, 0)).1 ∷ []) c.loop-byte.invariant
    ∙ ap (λ l. length cells ∷ (first / 256 ∷ (first % 256 ∷ (0 ∷ l)))) (sym (map_more (λ e. e.1) cells c.loop-byte.byte-index (0, 0) c.loop-byte-test.true))

pub returns : goal.returns
returns c = λ r is.
    let cells = c.args.run.now in
    let first = first_address cells in
    let spelt = c.loop-byte.invariant ∙ ap (λ l. length cells ∷ (first / 256 ∷ (first % 256 ∷ (0 ∷ values_of l)))) (take_all c.loop-byte.byte-index cells c.loop-byte-test.false) in
    c.in_ok-push-2.ensures.items
    ∙ record_is cells c.loop-byte.bytes.items c.wrapping_neg-check.result c.byte_sum.result c.requires.some spelt (c.byte_sum.ensures ∙ ap (λ l. sum l % 256) c.as_slice.ensures.value) c.wrapping_neg-check.ensures c.wrapping_neg-check.type_inv r is
