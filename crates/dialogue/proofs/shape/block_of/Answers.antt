use Rattle.std.proofs.Common.{◌≡◌, ◌∙◌, ℕ, ◌+◌, ◌-◌, List, ◌++◌, append-nil, sym, ap, subst, arith}
use Rattle.std.specs.Prelude.{unwrap_or}
use Rattle.dialogue.specs.declared.blocks.Block.{Block}
use Rattle.dialogue.specs.Shape.{Seen, seen_by_view, bytes_seen}
use Rattle.dialogue.proofs.Cells.{bytes_in-push}
use Rattle.dialogue.proofs.shape.block_of.Goals as goal

pub loop-k-preserved : goal.loop-k-preserved
loop-k-preserved g c =
    let seen : Seen = seen_by_view (g.V.View.byte_at c.args.view.now) (g.V.View.is_writable c.args.view.now) in
    let byte : c.unwrap_or.result ≡ unwrap_or (seen.byte (c.args.range.at + c.loop-k.k)) 0 = cc in
    rw (c.in_ok-push.ensures.items, bytes_in-push seen c.args.range.len c.args.range.at c.loop-k.k c.unwrap_or.result c.loop-k.bytes.items c.loop-k-test.true byte)
    c.loop-k.invariant

pub returns : goal.returns
returns g c =
    let seen : Seen = seen_by_view (g.V.View.byte_at c.args.view.now) (g.V.View.is_writable c.args.view.now) in
    let len = c.args.range.len in
    let at = c.args.range.at in
    let items = c.loop-k.bytes.items in
    let none_left : len - c.loop-k.k ≡ 0 = omega arith in
    let all = subst (λ n. items ++ bytes_seen seen n (at + c.loop-k.k) ≡ bytes_seen seen len at) none_left c.loop-k.invariant in
    let block : List ℕ → Block = λ bytes. record { at = at; bytes = bytes } in
    ap block (c.from_vec.ensures ∙ sym (append-nil items) ∙ all)
