use Rattle.std.proofs.Common.{◌≡◌, ℕ, ◌+◌, List, ◌++◌, length, sym, subst, inl, arith}
use Rattle.std.proofs.Math.Seq.{take-length}
use Rattle.std.proofs.lemmas.List.{drop_all}
use Rattle.std.proofs.lemmas.Result.{IfErr-weaker, on_ok_weaker, on_err_weaker}
use Rattle.std.proofs.lemmas.Bool.{leb-true}
use Rattle.host.specs.Host.{HostState, WriteFault, Rewrites, SameFaults}
use Rattle.host.proofs.HostLemmas.{OnlyWrites-trans, SameFaults-refl, SameFaults-trans, fault_after, handed_on}
use Rattle.host_files.specs.Transfer.{extended, IsBeforeOrPart}
use Rattle.host_files.proofs.Fills.{on_ok, on_err}
use Rattle.host_files.proofs.Waits.{Waits, Waits-none, Waits-more, Waits-fault, Waits-done}
use Rattle.host_files.proofs.write.write_from.Goals as goal

-- what waits, as the slice that is appended
in_slice : (old mid : HostState) (name text piece rest left bytes : List ℕ) → piece ++ rest ≡ left → Waits old mid name text left → bytes ≡ piece → Waits old mid name text (bytes ++ rest)
in_slice old mid name text piece rest left bytes is waits same = subst (λ b. Waits old mid name text (b ++ rest)) (sym same) (subst (Waits old mid name text) (sym is) waits)

-- a fault at a full piece
pub returns-in_err-append_all : goal.returns-in_err-append_all
returns-in_err-append_all g c =
    let old = g.H.Host.state c.args.host.now in
    let mid = g.H.Host.state c.loop-waiting.host in
    let text = g.P.Producer.left c.args.producer.now in
    let bytes = c.as_slice.result.now in
    let rest = g.P.Producer.left c.produce.new.self in
    let same = in_slice old mid c.args.name.now text c.produce.new.piece rest (c.loop-waiting.waiting ++ g.P.Producer.left c.loop-waiting.producer) bytes c.produce.ensures.bytes c.loop-waiting.invariant.waits c.as_slice.ensures in
    record {
      only = OnlyWrites-trans c.loop-waiting.invariant.only c.append_all.ensures.only;
      ok = on_ok (Rewrites (g.H.Host.state c.args.host.now) (g.H.Host.state c.append_all.new.host) c.args.name.now (g.P.Producer.left c.args.producer.now)) c.from_residual-in_err-append_all.result c.from_residual-in_err-append_all.ensures.0;
      counted = on_ok (SameFaults (g.H.Host.state c.args.host.now) (g.H.Host.state c.append_all.new.host)) c.from_residual-in_err-append_all.result c.from_residual-in_err-append_all.ensures.0;
      fault = on_err c.from_residual-in_err-append_all.result (Waits-fault (g.H.Host.state c.append_all.new.host) bytes rest same c.in_err-append_all.ensures.fault);
      failed = handed_on (g.H.Host.state c.args.host.now) (g.H.Host.state c.loop-waiting.host) (g.H.Host.state c.append_all.new.host) c.from_residual-in_err-append_all.result c.in_err-append_all.field-0.0 c.from_residual-in_err-append_all.ensures.1 c.loop-waiting.invariant.counted c.in_err-append_all.ensures.failed;
    }

-- a full piece more
pub loop-waiting-preserved-then-not-has_room : goal.loop-waiting-preserved-then-not-has_room
loop-waiting-preserved-then-not-has_room g c =
    let old = g.H.Host.state c.args.host.now in
    let mid = g.H.Host.state c.loop-waiting.host in
    let new = g.H.Host.state c.append_all.new.host in
    let text = g.P.Producer.left c.args.producer.now in
    let bytes = c.as_slice.result.now in
    let rest = g.P.Producer.left c.produce.new.self in
    let same = in_slice old mid c.args.name.now text c.produce.new.piece rest (c.loop-waiting.waiting ++ g.P.Producer.left c.loop-waiting.producer) bytes c.produce.ensures.bytes c.loop-waiting.invariant.waits c.as_slice.ensures in
    let added : new.file c.args.name.now ≡ extended (mid.file c.args.name.now) bytes = c.in_ok-append_all.ensures.ok in
    let empty = c.new-waiting-then-not-has_room.ensures in
    record {
      room = rw empty (omega arith);
      only = OnlyWrites-trans c.loop-waiting.invariant.only c.append_all.ensures.only;
      counted = SameFaults-trans c.loop-waiting.invariant.counted c.in_ok-append_all.ensures.counted;
      waits = Waits-more new bytes rest c.new-waiting-then-not-has_room.result (length bytes) same (rw (take-length bytes) added) (rw empty (sym (drop_all (length bytes) bytes (omega arith))));
    }

-- a fault at the last piece
-- the last piece was appended
pub returns : goal.returns
returns g c =
    let old = g.H.Host.state c.args.host.now in
    let mid = g.H.Host.state c.loop-waiting.host in
    let text = g.P.Producer.left c.args.producer.now in
    let bytes = c.as_slice-2.result.now in
    let rest = g.P.Producer.left c.produce.new.self in
    let same = in_slice old mid c.args.name.now text c.produce.new.piece rest (c.loop-waiting.waiting ++ g.P.Producer.left c.loop-waiting.producer) bytes c.produce.ensures.bytes c.loop-waiting.invariant.waits c.as_slice-2.ensures in
    let new = g.H.Host.state c.append_all-2.new.host in
    record {
      only = OnlyWrites-trans c.loop-waiting.invariant.only c.append_all-2.ensures.only;
      ok = on_ok_weaker c.append_all-2.result (Waits-done (g.H.Host.state c.append_all-2.new.host) bytes rest same (c.produce.ensures.end c.loop-waiting-test.false)) c.append_all-2.ensures.ok;
      counted = on_ok_weaker c.append_all-2.result (SameFaults-trans c.loop-waiting.invariant.counted) c.append_all-2.ensures.counted;
      fault = on_err_weaker c.append_all-2.result (Waits-fault (g.H.Host.state c.append_all-2.new.host) bytes rest same) c.append_all-2.ensures.fault;
      failed = IfErr-weaker c.append_all-2.result (WriteFault mid new) (WriteFault old new) (λ fault h. fault_after old mid new fault c.loop-waiting.invariant.counted h) c.append_all-2.ensures.failed;
    }

-- the file could not be made empty
pub returns-in_err-begin : goal.returns-in_err-begin
returns-in_err-begin g c =
    let old = g.H.Host.state c.args.host.now in
    record {
      only = c.begin.ensures.only;
      ok = on_ok (Rewrites (g.H.Host.state c.args.host.now) (g.H.Host.state c.begin.new.self) c.args.name.now (g.P.Producer.left c.args.producer.now)) c.from_residual.result c.from_residual.ensures.0;
      counted = on_ok (SameFaults (g.H.Host.state c.args.host.now) (g.H.Host.state c.begin.new.self)) c.from_residual.result c.from_residual.ensures.0;
      fault = on_err {P = IsBeforeOrPart (g.H.Host.state c.args.host.now) (g.H.Host.state c.begin.new.self) c.args.name.now (g.P.Producer.left c.args.producer.now)} c.from_residual.result (inl (c.in_err-begin.ensures.fault.files c.args.name.now));
      failed = handed_on old old (g.H.Host.state c.begin.new.self) c.from_residual.result c.in_err-begin.field-0.0 c.from_residual.ensures.1 (SameFaults-refl old) c.in_err-begin.ensures.failed;
    }

-- nothing waits yet
pub loop-waiting-init : goal.loop-waiting-init
loop-waiting-init g c = record {
  room = rw c.new-waiting.ensures (omega arith);
  only = c.begin.ensures.only;
  counted = c.in_ok-begin.ensures.counted;
  waits = Waits-none c.in_ok-begin.ensures.empty c.new-waiting.ensures;
}

-- the piece has room for more
pub loop-waiting-preserved : goal.loop-waiting-preserved
loop-waiting-preserved g c =
    let now = c.loop-waiting.invariant in
    record {
      room = leb-true (length c.produce.new.piece + 512) 4096 (sym c.if-not-has_room.ensures);
      only = now.only;
      counted = now.counted;
      waits = subst (λ t. Waits (g.H.Host.state c.args.host.now) (g.H.Host.state c.loop-waiting.host) c.args.name.now (g.P.Producer.left c.args.producer.now) t) (sym c.produce.ensures.bytes) now.waits;
    }
