use Rattle.std.proofs.Common.{◌≡◌, ℕ, Bool, filter, IfOk, subst}
use Rattle.std.proofs.Math.Path.{fun_ext}
use Rattle.base.specs.Addresses.{has_address}
use Rattle.asm80_types.specs.Taken.{is_taken_place}
use Rattle.asm80_types.proofs.taken.taken_of.Goals as goal
use Rattle.asm80_types.proofs.Marks.{found_all}

pub returns : goal.returns
returns c =
    let value : has_address c.mark_in_cells.new.set ≡ is_taken_place c.args.instrs.now c.args.cells.now = fun_ext (λ a. found_all c.args.instrs.now c.args.cells.now a _ _ _ (c.in_ok-set.ensures a) (c.mark_placed.ensures a) (c.mark_in_cells.ensures a)) in
    let Same : (ℕ → Bool) → Type 0 = λ test. IfOk c.marked.result (λ v. v.items ≡ filter test c.args.starts.now) in
    subst Same value c.marked.ensures
