use Rattle.std.proofs.Common.{ap, sym}
use Rattle.asm86.specs.Reader.{TextReader}
use Rattle.asm86.proofs.Listings.{refuses}
use Rattle.asm86.proofs.reader.Text86.refuse_long.Goals as goal

pub returns : goal.returns
returns c = λ line h. refuses line c.self.inside.listing c.refuse_long.result c.args.self.now c.self.inside.held (c.refuse_long.ensures line h) (sym (ap (λ (r : TextReader). r.lines) c.self.view_is)) (sym (ap (λ (r : TextReader). r.number) c.self.view_is))
