use Rattle.std.proofs.Common.{◌≡◌, ap, sym}
use Rattle.cpu80_tagged.specs.Draft.{state_of_draft, memory_of, memory_written}
use Rattle.cpu80_tagged.proofs.Sights.{same_seen}
use Rattle.cpu80_tagged.proofs.draft.Draft.shape.Goals as goal

pub returns : goal.returns
returns c =
    let fresh : memory_of c.args.self.now.memory.now ≡ (state_of_draft c.args.self.now).mem = ap (λ w. memory_written w (memory_of c.args.self.now.memory.now)) (sym c.requires) in
    let seen = same_seen c.args.area.now.program.now (state_of_draft c.args.self.now) c.args.area.now.uses.now (memory_of c.args.self.now.memory.now) c.args.is_popped c.args.area.now.agrees fresh in
    cc (seen, c.shape_of.ensures, c.number_in.ensures)
