use Rattle.templates_law.proofs.Match.Ending.{ending, falling, short, direct}
use Rattle.templates_law.proofs.match_laws.exits_agree.Goals as goal

pub returns : goal.returns
returns c = record { ending = ending; falling = falling; short = short; direct = direct }
