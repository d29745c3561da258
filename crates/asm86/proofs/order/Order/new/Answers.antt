use Rattle.std.proofs.Common.{refl}
use Rattle.asm86.proofs.Orders.{at_first}
use Rattle.asm86.proofs.order.Order.new.Goals as goal

pub returns : goal.returns
returns c = at_first _ refl refl refl refl refl c.in_ok-new.ensures
