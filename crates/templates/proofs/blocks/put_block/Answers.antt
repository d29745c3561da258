use Rattle.std.proofs.Common.{◌≡◌, ℕ, ◌+◌, ◌*◌, ◌<◌, ◌≤◌, List, ◌∷◌, [], ◌++◌, length, ap, arith}
use Rattle.std.proofs.lemmas.List.{length_push}
use Rattle.std.proofs.lemmas.Result.{on_ok_weaker, IfOk-from_err}
use Rattle.asm86_line_types.specs.declared.line.Stmt86.{Stmt86}
use Rattle.asm80_types.specs.declared.program.Placed.{Placed}
use Rattle.templates.specs.Jumps.{style_by}
use Rattle.templates.proofs.Joined.{put_label}
use Rattle.templates.proofs.blocks.put_block.Goals as goal

pub returns-in_ok-push-in-Some-clause-value : goal.returns-in_ok-push-in-Some-clause-value
returns-in_ok-push-in-Some-clause-value c = λ n all. on_ok_weaker c.put_instrs.result
    (put_label (style_by n c.args.jumps.now) c.args.text.now c.push.new.self c.put_instrs.new.text c.in-Some.placed.now c.args.block.now c.in-Some.field-0-1.now c.in-Some.ensures.cases.0 c.in_ok-push-in-Some.ensures)
    (c.put_instrs.ensures.value n all)

-- the label has room where the block's statements have it
room : (text pushed : List Stmt86) (s : Stmt86) (x : Placed) (block rest : List Placed) (k : ℕ) → block ≡ x ∷ rest → pushed ≡ text ++ s ∷ [] → length text + 13 * length block < k → length pushed + 12 * length block < k
room text pushed s x block rest k b e h = omega (arith, ap length b, ap length e, length_push text s, h)

most : (new text pushed : List Stmt86) (s : Stmt86) (x : Placed) (block rest : List Placed) → block ≡ x ∷ rest → pushed ≡ text ++ s ∷ [] → length new ≤ length pushed + 12 * length block → length new ≤ length text + 13 * length block
most new text pushed s x block rest b e h = omega (arith, ap length b, ap length e, length_push text s, h)

pub put_instrs-requires-clause-room : goal.put_instrs-requires-clause-room
put_instrs-requires-clause-room c = room c.args.text.now c.push.new.self _ c.in-Some.placed.now c.args.block.now c.in-Some.field-0-1.now _ c.in-Some.ensures.cases.0 c.in_ok-push-in-Some.ensures c.requires.room

pub returns-in_ok-push-in-Some-clause-most : goal.returns-in_ok-push-in-Some-clause-most
returns-in_ok-push-in-Some-clause-most c = on_ok_weaker c.put_instrs.result
    (most c.put_instrs.new.text c.args.text.now c.push.new.self _ c.in-Some.placed.now c.args.block.now c.in-Some.field-0-1.now c.in-Some.ensures.cases.0 c.in_ok-push-in-Some.ensures)
    c.put_instrs.ensures.most

pub returns-in_err-push-in-Some : goal.returns-in_err-push-in-Some
returns-in_err-push-in-Some c =
    let r = c.from_residual in
    record {
      value = λ n all. IfOk-from_err r.result _ r.ensures.0;
      most = IfOk-from_err r.result _ r.ensures.0;
    }
