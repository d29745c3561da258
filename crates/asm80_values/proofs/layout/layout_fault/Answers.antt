use Rattle.std.proofs.Common.{◌≡◌, true, sym, ap, ◌∙◌}
use Rattle.std.specs.Option.{option_or}
use Rattle.asm80_source_def.specs.Items.{starts_in, starts_at}
use Rattle.asm80_values.proofs.layout.layout_fault.Goals as goal
use Rattle.asm80_values.proofs.Breaches.{no_start, faults_same}

pub returns-then-not-contains : goal.returns-then-not-contains
returns-then-not-contains c = λ rs end items starts.
    no_start rs end c.args.top (sym (starts 0x100) ∙ sym c.contains.ensures ∙ c.if-not-contains.true)

pub returns : goal.returns
returns c = λ rs end items starts.
    let start : starts_at (starts_in rs) 0x100 ≡ true = sym (starts 0x100) ∙ sym c.contains.ensures ∙ c.if-not-contains.false in
    c.or.ensures ∙ ap (λ o. option_or o c.profile_fault.result) c.in_ok-overlap.ensures ∙ ap (option_or _) c.profile_fault.ensures
    ∙ faults_same rs end c.args.items.now c.args.top c.ranges.top.fits items start
