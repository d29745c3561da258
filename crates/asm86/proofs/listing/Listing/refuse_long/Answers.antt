use Rattle.asm86.proofs.Listings.{long_fails}
use Rattle.asm86.proofs.listing.Listing.refuse_long.Goals as goal

pub returns-in-Ok : goal.returns-in-Ok
returns-in-Ok c = λ line h. long_fails c.args.self.now c.in-Ok.number line c.in-Ok.ensures h
