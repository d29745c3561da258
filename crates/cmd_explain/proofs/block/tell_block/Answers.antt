use Rattle.std.proofs.Common.{◌≡◌, ◌∙◌, ◌≤◌, [], ◌++◌, List, length, Some, None, refl, sym, ap, subst, drop, append-nil}
use Rattle.std.proofs.lemmas.Result.{on_ok_weaker}
use Rattle.std.proofs.lemmas.List.{length-map}
use Rattle.asm86_line_types.specs.declared.line.Label.TheVariants.{At}
use Rattle.asm86_line_types.specs.declared.line.Line86.{Line86}
use Rattle.asm86_line_types.specs.declared.line.Stmt86.{Stmt86}
use Rattle.asm86_line_types.specs.Image.{statements}
use Rattle.sym_block_def.specs.Walk86.{after_label}
use Rattle.cmd_explain.specs.Lines.{block_line, source_lines}
use Rattle.cmd_explain.specs.Explained.{WhyTold, LabelTold, BlockTold}
use Rattle.cmd_explain.proofs.Positions.{after_some}
use Rattle.cmd_explain.proofs.Blocks.{tells_more, block_told}
use Rattle.cmd_explain.proofs.block.tell_block.Goals as goal

pub tell_label-requires-clause-after : goal.tell_label-requires-clause-after
tell_label-requires-clause-after c = after_some c.args.sides.now.text.now (At c.args.leader) c.in-Some.place c.in-Some.ensures.1

pub returns-in-Some : goal.returns-in-Some
returns-in-Some c =
    let p = c.args.sides.now.program.now in
    let lines = c.args.sides.now.lines.now in
    let old = c.args.told.now.items in
    let reason = c.args.said.now.reason in
    let place = c.in-Some.place in
    let rest = drop place (statements lines) in
    let head = c.in_ok-head.ensures in
    let here : after_label (statements lines) (At c.args.leader) ≡ Some rest = subst (λ (xs : List Stmt86). after_label xs (At c.args.leader) ≡ Some (drop place xs)) c.requires.text c.in-Some.ensures.1 in
    on_ok_weaker c.tell_label.result
    (λ told. λ k said.
    tells_more (LabelTold p lines k c.args.leader c.args.count reason rest) (BlockTold p lines k c.args.leader c.args.count reason) old c.extend_from_slice.new.self.items c.tell_label.new.told.items (block_line c.args.leader reason ++ source_lines head.from head.to)
    (c.in_ok-extend_from_slice.ensures.items ∙ ap (λ b. old ++ b) (c.as_bytes.ensures.value ∙ head.is))
    (λ own claim. block_told p lines k c.args.leader c.args.count reason c.place_after-last.result c.place_after-last.ensures head.from head.to head.starts head.ends own (subst (λ o. WhyTold p lines k c.args.leader c.args.count reason o own) (sym here) claim))
    (told k said))
    c.tell_label.ensures

pub tell_label-requires-clause-label : goal.tell_label-requires-clause-label
tell_label-requires-clause-label c = subst (λ (xs : List Stmt86). after_label xs (At c.args.leader) ≡ Some (drop c.in-Some.place xs)) c.requires.text c.in-Some.ensures.1

pub tell_label-requires-clause-within : goal.tell_label-requires-clause-within
tell_label-requires-clause-within c =
    let place = c.in-Some.place in
    subst (λ n. place ≤ n) (length-map c.args.sides.now.lines.now (λ (x : Line86). x.stmt)) (subst (λ (xs : List Stmt86). place ≤ length xs) c.requires.text c.in-Some.ensures.0)

-- there is no label of the block
pub returns : goal.returns
returns c = λ k said.
    let p = c.args.sides.now.program.now in
    let lines = c.args.sides.now.lines.now in
    let reason = c.args.said.now.reason in
    let head = c.in_ok-head.ensures in
    let own = block_line c.args.leader reason ++ source_lines head.from head.to in
    let none : after_label (statements lines) (At c.args.leader) ≡ None = subst (λ (xs : List Stmt86). after_label xs (At c.args.leader) ≡ None) c.requires.text c.in-None.ensures in
    record {
      own = own ++ [];
      is = c.in_ok-extend_from_slice.ensures.items ∙ ap (λ b. c.args.told.now.items ++ b) (c.as_bytes.ensures.value ∙ head.is ∙ sym (append-nil own));
      claim = block_told p lines k c.args.leader c.args.count reason c.place_after-last.result c.place_after-last.ensures head.from head.to head.starts head.ends [] (subst (λ o. WhyTold p lines k c.args.leader c.args.count reason o []) (sym none) refl);
    }
