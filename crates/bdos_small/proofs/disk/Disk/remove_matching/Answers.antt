use Rattle.std.proofs.Common.{◌≡◌, not, rules, sym, ap, ◌∙◌, subst}
use Rattle.std.proofs.lemmas.Fn.{filter_same}
use Rattle.bdos_small.specs.Disks.{IsDisk, has_match, without_matching}
use Rattle.bdos_small.proofs.Files.{disk-filter}
use Rattle.bdos_small.proofs.disk.Disk.remove_matching.Goals as goal

kept : (c : goal.After-retain) → c.retain.new.self.items ≡ without_matching c.args.pattern.now c.self.inside.files.items
kept c = filter_same _ _ _ (λ x b f' k. search rules) _ _ c.retain.ensures.filtered

pub returns : goal.returns
returns c = kept c ∙ ap (without_matching c.args.pattern.now) c.self.view_is

pub invariant_of-self : goal.invariant_of-self
invariant_of-self c =
    subst IsDisk (sym (kept c)) (disk-filter (λ f. not (has_match c.args.pattern.now f)) c.self.inside.files.items c.self.invariant)
