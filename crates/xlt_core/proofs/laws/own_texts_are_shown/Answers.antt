use Rattle.xlt_core.proofs.Shown.{only_shown}
use Rattle.xlt_core.proofs.laws.own_texts_are_shown.Goals as goal

pub returns-clause-matches : goal.returns-clause-matches
returns-clause-matches c = c.modes_match.ensures

pub returns-clause-shown : goal.returns-clause-shown
returns-clause-shown c mode p lines others finding is text fits same found =
    only_shown c.findings_are_one.ensures p found.needs lines others finding found.are (c.modes_match.ensures mode p found.needs lines is found.are text fits) same found
