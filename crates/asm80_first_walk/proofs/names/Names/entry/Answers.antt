use Rattle.std.proofs.Common.{ap, sym, ◌∙◌}
use Rattle.std.specs.Option.{option_map}
use Rattle.asm80_source_def.specs.Names.{named}
use Rattle.asm80_first_walk.specs.Entries.{name_of_entry, entry_in}
use Rattle.asm80_first_walk.proofs.Definitions.{found, answers}
use Rattle.asm80_first_walk.proofs.names.Names.entry.Goals as goal

pub returns : goal.returns
returns c =
    let text = c.args.name.now in
    answers c.args.self.now text c.copied.result
    (ap (λ ns. named ns text) (sym c.self.view_is) ∙ found (entry_in c.self.inside.entries.entries) c.self.inside.order.items c.self.invariant text
    ∙ ap (option_map (λ v. name_of_entry (text, v))) (sym (c.copied.ensures ∙ c.get.ensures.value)))
