use Rattle.std.proofs.Common.{◌≡◌, get_or, sym, ◌∙◌, inl, inr, rules}
use Rattle.std.proofs.lemmas.Bool.{cases_eq, eq-eqb, ne_eqb}
use Rattle.hex_file.proofs.RecordBytes.{are_of_record}
use Rattle.hex_file.proofs.record.are_of_record.Goals as goal

pub returns-then-bytes-from : goal.returns-then-bytes-from
returns-then-bytes-from c =
    let bytes = c.args.bytes.now in
    let first : c.in-Some.count.now ≡ get_or bytes 0 0 = search rules in
    elim (cases_eq c.byte_sum.result 0) [
      | inl e ↦ rw (eq-eqb c.byte_sum.result 0 e) (are_of_record bytes c.from.result c.if-bytes-from.true (c.from.ensures ∙ first) (λ i. (c.type_inv.bytes i).fits) (sym c.byte_sum.ensures ∙ e))
      | inr ne ↦ rw (ne_eqb c.byte_sum.result 0 ne) (λ is. ne (c.byte_sum.ensures ∙ is.2))
    ]
