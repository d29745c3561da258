use Rattle.std.proofs.Common.{ℕ, ◌<◌}
use Rattle.std.proofs.Math.Facts.{Fits-lt-pow}
use Rattle.std.proofs.lemmas.List.Elements.{All-from_get_or}
use Rattle.cmd_common.proofs.text.bytes_have_one_reader.Goals as goal

pub returns : goal.returns
returns c = c.code_has_one_reader.ensures c.args.code.now (All-from_get_or (λ (b : ℕ). b < 256) c.args.code.now 0 (λ k lt. Fits-lt-pow (c.type_inv.code k)))
