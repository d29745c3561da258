use Rattle.sym_terms.proofs.One80.{one80}
use Rattle.sym_terms.proofs.One86.{one86}
use Rattle.sym_terms.proofs.Keep80.{keep80}
use Rattle.sym_terms.proofs.Keep86.{keep86}
use Rattle.sym_terms.proofs.laws.made_terms_keep_values.Goals as goal

pub returns : goal.returns
returns c = record { on_8080 = keep80; on_8086 = keep86; one_on_8080 = one80; one_on_8086 = one86 }
