use Rattle.asm80_first_walk.specs.Walked.{IsWalked}
use Rattle.asm80_values.specs.Second.{AreFound, AreItemsOf}
use Rattle.asm80_values.proofs.assembly.assemble.Goals as goal

pub laid_out-requires-clause-found : goal.laid_out-requires-clause-found
laid_out-requires-clause-found c =
    let walked_by : IsWalked c.args.statements.now c.in_ok-walked.walked = c.in_ok-walked.ensures in
    let items : AreItemsOf c.args.statements.now c.in_ok-items.items.items = c.in_ok-items.ensures in
    let found : AreFound c.args.statements.now c.in_ok-items.items.items c.in_ok-starts.starts = record {
      accepted = walked_by.accepted;
      are_items = items;
      are_starts = c.in_ok-starts.ensures c.args.statements.now (rw c.as_slice.ensures.value walked_by.taken);
    } in
    (c.args.statements.now, found)

pub returns : goal.returns
returns c =
    let walked_by : IsWalked c.args.statements.now c.in_ok-walked.walked = c.in_ok-walked.ensures in
    let items : AreItemsOf c.args.statements.now c.in_ok-items.items.items = c.in_ok-items.ensures in
    let found : AreFound c.args.statements.now c.in_ok-items.items.items c.in_ok-starts.starts = record {
      accepted = walked_by.accepted;
      are_items = items;
      are_starts = c.in_ok-starts.ensures c.args.statements.now (rw c.as_slice.ensures.value walked_by.taken);
    } in
    record {
      assembled = c.laid_out.ensures.assembled c.args.statements.now found;
      refused = c.laid_out.ensures.refused c.args.statements.now found;
    }
