use Rattle.std.proofs.Common.{◌≡◌, ◌∙◌, subst, arith}
use Rattle.cpu80.specs.Start.{start_byte}
use Rattle.cpu80.proofs.Starts.{Filled, filled, filled_more}
use Rattle.cpu80.proofs.start.start_memory.Goals as goal

pub loop-at-preserved : goal.loop-at-preserved
loop-at-preserved c = record {
  filled =
      filled_more (start_byte c.args.program.now c.args.page.now c.args.fill.now) c.loop-at.bytes.items c.push_reserved.new.self.items c.start_byte.result c.loop-at.at
      c.loop-at.invariant.filled c.push_reserved.ensures.items c.start_byte.ensures;
  room = c.push_reserved.ensures.capacity ∙ c.loop-at.invariant.room;
}

pub returns : goal.returns
returns c =
    let f = start_byte c.args.program.now c.args.page.now c.args.fill.now in
    let whole : c.loop-at.at ≡ 0x10000 = omega arith in
    filled c.args.program.now c.args.page.now c.args.fill.now c.loop-at.bytes.items c.top-top.ensures.program (omega arith) c.requires.fill
    (subst (λ n. Filled f c.loop-at.bytes.items n) whole c.loop-at.invariant.filled)
