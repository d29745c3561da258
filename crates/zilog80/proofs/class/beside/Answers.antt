use Rattle.std.proofs.Common.{List, ℕ, Some, sym, ap, ◌∙◌, subst}
use Rattle.std.specs.Prelude.{option_map}
use Rattle.std.specs.Str.{bytes_eq}
use Rattle.asm80_types.specs.Name.{IsName}
use Rattle.zilog80.specs.Read.{BareEntry}
use Rattle.zilog80.proofs.Among.{found_here, found_later, found_nowhere}
use Rattle.zilog80.proofs.Found.{is_beside, beside_name}
use Rattle.zilog80.proofs.class.beside.Goals as goal

pub loop-entry-preserved : goal.loop-entry-preserved
loop-entry-preserved c =
    found_later (is_beside c.args.word.now) c.args.table.now c.loop-entry.entry-index _ c.loop-entry-test.true c.loop-entry.invariant
    (ap (λ (n : List ℕ). bytes_eq n c.args.word.now) (sym c.as_bytes.ensures.value) ∙ sym c.eq.ensures ∙ c.if-eq.false)

pub of-requires : goal.of-requires
of-requires c =
    let here = found_here (is_beside c.args.word.now) c.args.table.now c.loop-entry.entry-index _ c.loop-entry-test.true c.loop-entry.invariant
    (ap (λ (n : List ℕ). bytes_eq n c.args.word.now) (sym c.as_bytes.ensures.value) ∙ sym c.eq.ensures ∙ c.if-eq.true) in
    subst IsName (sym c.as_bytes-then-eq.ensures.value) (beside_name c.args.table.now c.args.word.now _ c.requires here)

pub returns-then-eq : goal.returns-then-eq
returns-then-eq c =
    let here = found_here (is_beside c.args.word.now) c.args.table.now c.loop-entry.entry-index _ c.loop-entry-test.true c.loop-entry.invariant
    (ap (λ (n : List ℕ). bytes_eq n c.args.word.now) (sym c.as_bytes.ensures.value) ∙ sym c.eq.ensures ∙ c.if-eq.true) in
    ap Some (c.of.ensures ∙ c.as_bytes-then-eq.ensures.value) ∙ sym (ap (option_map (λ (r : BareEntry). r.1.now)) here)

pub returns : goal.returns
returns c = sym (ap (option_map (λ (r : BareEntry). r.1.now)) (found_nowhere (is_beside c.args.word.now) c.args.table.now c.loop-entry.entry-index c.loop-entry-test.false c.loop-entry.invariant))
