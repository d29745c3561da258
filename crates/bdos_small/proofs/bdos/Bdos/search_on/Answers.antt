use Rattle.std.proofs.Common.{ap, ◌∙◌}
use Rattle.dialogue.specs.Fits.{fits}
use Rattle.bdos_small.specs.Files.{Searched}
use Rattle.bdos_small.proofs.FileFits.{next_fits}
use Rattle.bdos_small.proofs.bdos.Bdos.search_on.Goals as goal

pub returns-clause-fits : goal.returns-clause-fits
returns-clause-fits c =
    ap (λ (x : Searched). fits c.args.request.now x.reply) c.in_ok-reply.ensures.answer
    ∙ next_fits c.args.request.now c.requires.lawful c.requires.search c.self.inside.disk c.self.inside.search c.in_ok-reply.ensures.disk
