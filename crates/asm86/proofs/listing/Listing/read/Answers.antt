use Rattle.asm86.proofs.Listings.{number_fails, read_fails, place_fails}
use Rattle.asm86.proofs.listing.Listing.read.Goals as goal

pub returns-in_err-number : goal.returns-in_err-number
returns-in_err-number c = number_fails c.args.line.now c.args.self.now c.args.self.now _ c.from_residual.result c.in_err-number.ensures c.from_residual.ensures.1

pub returns-in_err-found : goal.returns-in_err-found
returns-in_err-found c = read_fails c.in_ok-number.number c.args.line.now c.args.self.now c.args.self.now _ c.from_residual-in_err-found.result c.in_ok-number.ensures c.in_err-found.ensures c.from_residual-in_err-found.ensures.1

pub returns-in_err-add : goal.returns-in_err-add
returns-in_err-add c =
    place_fails c.in_ok-number.number c.args.line.now c.deref.result.now c.args.self.now c.add.new.self _ c.from_residual-in_err-add.result c.in_ok-number.ensures (rw c.deref.ensures.value c.in_ok-found.ensures) c.in_err-add.ensures c.from_residual-in_err-add.ensures.1
