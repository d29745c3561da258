use Rattle.std.proofs.Common.{length, not, refl, sym, ap, ◌∙◌, arith}
use Rattle.std.specs.List.{filter}
use Rattle.std.proofs.lemmas.List.Filters.{length-filter_both}
use Rattle.bdos_small.proofs.Files.{before}
use Rattle.bdos_small.proofs.disk.put_file.Goals as goal

pub insert-requires : goal.insert-requires
insert-requires c =
    let name = c.file.inside.name in
    let items = c.args.files.now.items in
    let parts = length-filter_both (before name) (λ f. not (before name f)) (λ _. refl) items in
    let counted = c.count_before-place.ensures ∙ ap (λ l. length (filter (before name) l)) c.deref.ensures.value in
    let long = sym (ap length c.deref.ensures.value) ∙ c.deref.ensures.len in
    omega (arith, parts, counted, long)
