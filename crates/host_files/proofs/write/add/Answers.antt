use Rattle.std.proofs.Common.{◌≡◌, ◌≢◌, ◌++◌, length, take, drop, refl, ap, ◌∙◌, sym, arith}
use Rattle.std.proofs.lemmas.Grind.{common_steps}
use Rattle.std.proofs.lemmas.List.{take_all, length-drop}
use Rattle.std.proofs.lemmas.Result.{IfOk-from_err}
use Rattle.std.proofs.lemmas.Bool.{eqb-false}
use Rattle.host.proofs.HostLemmas.{OnlyWrites-refl, SameFaults-refl, handed_on}
use Rattle.host_files.specs.Transfer.{extended}
use Rattle.host_files.proofs.Fills.{fills-take, fills-drop, fills-part, fills-all, fills-room, on_err}
use Rattle.host_files.proofs.write.add.Goals as goal

-- some first bytes of the full piece were appended
pub returns-in_err-append_all : goal.returns-in_err-append_all
returns-in_err-append_all g c =
    let old = c.args.piece.now in
    let more = c.args.more.now in
    let full = c.as_slice.result.now in
    let e : full ≡ old ++ take c.fill-taken.result more = c.as_slice.ensures ∙ c.fill-taken.ensures.bytes in
    let was = g.H.Host.state c.args.host.now in
    let now = g.H.Host.state c.append_all.new.host in
    let r = c.from_residual in
    record {
      only = c.append_all.ensures.only;
      ok = IfOk-from_err r.result _ r.ensures.0;
      room = IfOk-from_err r.result _ r.ensures.0;
      counted = IfOk-from_err r.result _ r.ensures.0;
      fault = on_err r.result (fills-part old more full c.fill-taken.result (was.file c.args.name.now) (now.file c.args.name.now) e c.in_err-append_all.ensures.fault);
      failed = handed_on was was now r.result c.in_err-append_all.field-0.0 r.ensures.1 (SameFaults-refl was) c.in_err-append_all.ensures.failed;
    }

-- the full piece was appended, and the bytes that did not go in wait
pub returns-in_ok-append_all : goal.returns-in_ok-append_all
returns-in_ok-append_all g c =
    let old = c.args.piece.now in
    let more = c.args.more.now in
    let full = c.as_slice.result.now in
    let taken = c.fill-taken.result in
    let e : full ≡ old ++ take taken more = c.as_slice.ensures ∙ c.fill-taken.ensures.bytes in
    let rest : c.fill.new.self ≡ drop taken more = grind (arith, common_steps, take_all) in
    let added = c.in_ok-append_all.ensures in
    record {
      only = c.append_all.ensures.only;
      ok = (length full, added.ok ∙ ap (extended ((g.H.Host.state c.args.host.now).file c.args.name.now)) (sym (fills-take old more full taken e)), rest ∙ sym (fills-drop old more full taken e));
      room = rw rest (omega (arith, length-drop taken more));
      counted = added.counted;
      fault = tt;
      failed = tt;
    }

-- all bytes went in, and the piece waits
pub returns-else-is_full : goal.returns-else-is_full
returns-else-is_full g c =
    let host = g.H.Host.state c.args.host.now in
    let old = c.args.piece.now in
    let more = c.args.more.now in
    let piece = c.fill-taken.new.self in
    let filled = c.fill-taken.ensures in
    let not_full : length piece ≢ 4096 = eqb-false _ _ (sym c.if-is_full.ensures) in
    record {
      only = OnlyWrites-refl host c.args.name.now;
      ok = (0, refl, fills-all old more piece c.fill-taken.result c.requires.room filled.count filled.bytes not_full);
      room = fills-room old more piece c.fill-taken.result c.requires.room filled.count filled.bytes not_full;
      counted = SameFaults-refl host;
      fault = tt;
      failed = tt;
    }
