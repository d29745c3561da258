use Rattle.std.proofs.Common.{List, ℕ, Bor, sym, ap, ◌∙◌}
use Rattle.std.specs.Prelude.{option_map}
use Rattle.std.specs.Str.{bytes_eq}
use Rattle.asm80_source_def.specs.declared.operation.Operation.{Operation}
use Rattle.asm80_first_walk.proofs.Lists.{found_here, found_later, found_nowhere}
use Rattle.asm80_first_walk.proofs.operations.operation_among.Goals as goal

pub loop-entry-preserved : goal.loop-entry-preserved
loop-entry-preserved c =
    found_later (λ (x : Bor (List ℕ) × Operation). bytes_eq x.0.now c.args.word.now) c.args.table.now c.loop-entry.entry-index _ c.loop-entry-test.true c.loop-entry.invariant
    (ap (λ (n : List ℕ). bytes_eq n c.args.word.now) (sym c.as_bytes.ensures.value) ∙ sym c.eq.ensures ∙ c.if-eq.false)

pub returns-then-eq : goal.returns-then-eq
returns-then-eq c =
    let here = found_here (λ (x : Bor (List ℕ) × Operation). bytes_eq x.0.now c.args.word.now) c.args.table.now c.loop-entry.entry-index _ c.loop-entry-test.true c.loop-entry.invariant
    (ap (λ (n : List ℕ). bytes_eq n c.args.word.now) (sym c.as_bytes.ensures.value) ∙ sym c.eq.ensures ∙ c.if-eq.true) in
    sym (ap (option_map (λ (x : Bor (List ℕ) × Operation). x.1)) here)

pub returns : goal.returns
returns c = sym (ap (option_map (λ (x : Bor (List ℕ) × Operation). x.1)) (found_nowhere (λ (x : Bor (List ℕ) × Operation). bytes_eq x.0.now c.args.word.now) c.args.table.now c.loop-entry.entry-index c.loop-entry-test.false c.loop-entry.invariant))
