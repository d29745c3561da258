use Rattle.std.proofs.Common.{◌≡◌, [], ◌++◌, drop, ap, ◌∙◌, ◌+◌, inl, arith}
use Rattle.std.proofs.lemmas.Result.{IfErr-weaker, on_ok_weaker, on_err_weaker}
use Rattle.std.proofs.lemmas.List.{drop_all}
use Rattle.host.specs.Host.{WriteFault, Rewrites, SameFaults}
use Rattle.host.proofs.HostLemmas.{OnlyWrites-trans, SameFaults-refl, SameFaults-trans, fault_after, handed_on}
use Rattle.asm86_line_types.specs.declared.line.Line86.{Line86}
use Rattle.asm86_line_types.specs.declared.line.Stmt86.TheVariants.{Cseg}
use Rattle.asm86_line_types.specs.Written.{written_text}
use Rattle.host_files.specs.Transfer.{IsBeforeOrPart}
use Rattle.host_files.proofs.Fills.{on_ok, on_err}
use Rattle.host_files.proofs.Waits.{Waits, Waits-none, Waits-more, Waits-fault, Waits-line, Waits-done}
use Rattle.host_files.proofs.write.write_out.Goals as goal

-- what an index past the end would give
abbrev any_line : Line86
any_line = record { line = 0; stmt = Cseg }

-- a fault at a line
pub returns-in_err-add : goal.returns-in_err-add
returns-in_err-add g c =
    let lines = c.args.lines.now in
    let i = c.loop-line.line-index in
    let piece = c.loop-line.waiting in
    let line = c.as_slice.result.now in
    let waits = Waits-line piece line lines i any_line c.loop-line-test.true (c.as_slice.ensures.value ∙ c.write_line.ensures.value) c.loop-line.invariant.waits in
    record {
      only = OnlyWrites-trans c.loop-line.invariant.only c.add.ensures.only;
      ok = on_ok (Rewrites (g.H.Host.state c.args.host.now) (g.H.Host.state c.add.new.host) c.args.name.now (written_text c.args.lines.now)) c.from_residual-in_err-add.result c.from_residual-in_err-add.ensures.0;
      counted = on_ok (SameFaults (g.H.Host.state c.args.host.now) (g.H.Host.state c.add.new.host)) c.from_residual-in_err-add.result c.from_residual-in_err-add.ensures.0;
      fault = on_err c.from_residual-in_err-add.result (Waits-fault (g.H.Host.state c.add.new.host) (piece ++ line) (written_text (drop (i + 1) lines)) waits c.in_err-add.ensures.fault);
      failed = handed_on (g.H.Host.state c.args.host.now) (g.H.Host.state c.loop-line.host) (g.H.Host.state c.add.new.host) c.from_residual-in_err-add.result c.in_err-add.field-0.0 c.from_residual-in_err-add.ensures.1 c.loop-line.invariant.counted c.in_err-add.ensures.failed;
    }

-- one more line
pub loop-line-preserved : goal.loop-line-preserved
loop-line-preserved g c =
    let lines = c.args.lines.now in
    let i = c.loop-line.line-index in
    let piece = c.loop-line.waiting in
    let line = c.as_slice.result.now in
    let waits = Waits-line piece line lines i any_line c.loop-line-test.true (c.as_slice.ensures.value ∙ c.write_line.ensures.value) c.loop-line.invariant.waits in
    let added = c.in_ok-add.ensures.ok in
    record {
      room = c.in_ok-add.ensures.room;
      only = OnlyWrites-trans c.loop-line.invariant.only c.add.ensures.only;
      counted = SameFaults-trans c.loop-line.invariant.counted c.in_ok-add.ensures.counted;
      waits = Waits-more (g.H.Host.state c.add.new.host) (piece ++ line) (written_text (drop (i + 1) lines)) c.add.new.piece added.0 waits added.1 added.2;
    }

-- a fault at the last piece
-- the last piece was appended
pub returns : goal.returns
returns g c =
    let rest = written_text (drop c.loop-line.line-index c.args.lines.now) in
    let piece = c.as_slice-2.result.now in
    let waits : Waits (g.H.Host.state c.args.host.now) (g.H.Host.state c.loop-line.host) c.args.name.now (written_text c.args.lines.now) (piece ++ rest) = rw c.as_slice-2.ensures c.loop-line.invariant.waits in
    let ended : rest ≡ [] = ap written_text (drop_all c.loop-line.line-index c.args.lines.now c.loop-line-test.false) in
    let old = g.H.Host.state c.args.host.now in
    let mid = g.H.Host.state c.loop-line.host in
    let new = g.H.Host.state c.append_all.new.host in
    record {
      only = OnlyWrites-trans c.loop-line.invariant.only c.append_all.ensures.only;
      ok = on_ok_weaker c.append_all.result (Waits-done (g.H.Host.state c.append_all.new.host) piece rest waits ended) c.append_all.ensures.ok;
      counted = on_ok_weaker c.append_all.result (SameFaults-trans c.loop-line.invariant.counted) c.append_all.ensures.counted;
      fault = on_err_weaker c.append_all.result (Waits-fault (g.H.Host.state c.append_all.new.host) piece rest waits) c.append_all.ensures.fault;
      failed = IfErr-weaker c.append_all.result (WriteFault mid new) (WriteFault old new) (λ fault h. fault_after old mid new fault c.loop-line.invariant.counted h) c.append_all.ensures.failed;
    }

-- the file could not be made empty
pub returns-in_err-begin : goal.returns-in_err-begin
returns-in_err-begin g c =
    let old = g.H.Host.state c.args.host.now in
    record {
      only = c.begin.ensures.only;
      ok = on_ok (Rewrites (g.H.Host.state c.args.host.now) (g.H.Host.state c.begin.new.self) c.args.name.now (written_text c.args.lines.now)) c.from_residual.result c.from_residual.ensures.0;
      counted = on_ok (SameFaults (g.H.Host.state c.args.host.now) (g.H.Host.state c.begin.new.self)) c.from_residual.result c.from_residual.ensures.0;
      fault = on_err {P = IsBeforeOrPart (g.H.Host.state c.args.host.now) (g.H.Host.state c.begin.new.self) c.args.name.now (written_text c.args.lines.now)} c.from_residual.result (inl (c.in_err-begin.ensures.fault.files c.args.name.now));
      failed = handed_on old old (g.H.Host.state c.begin.new.self) c.from_residual.result c.in_err-begin.field-0.0 c.from_residual.ensures.1 (SameFaults-refl old) c.in_err-begin.ensures.failed;
    }

-- nothing waits yet
pub loop-line-init : goal.loop-line-init
loop-line-init g c = record {
  room = rw c.new-waiting.ensures (omega arith);
  only = c.begin.ensures.only;
  counted = c.in_ok-begin.ensures.counted;
  waits = Waits-none c.in_ok-begin.ensures.empty c.new-waiting.ensures;
}
