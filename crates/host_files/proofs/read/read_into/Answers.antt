use Rattle.std.proofs.Common.{◌∙◌, subst}
use Rattle.host.specs.Host.{ReadsFile}
use Rattle.host.specs.declared.HostFault.TheVariants.{Memory}
use Rattle.host.proofs.HostLemmas.{OnlyReads-refl, OnlyReads-trans, SameFaults-refl, SameFaults-trans}
use Rattle.host_files.specs.declared.read.FileFault.TheVariants.{Failed as NoFile, TooLong}
use Rattle.host_files.proofs.Gives.{gives_none, gives_more, gives_longer, gives_whole}
use Rattle.host_files.proofs.Fills.{on_ok}
use Rattle.host_files.proofs.ReadFaults.{no_fault, not_too_long, wanted_memory, only_too_long, read_failed_after}
use Rattle.host_files.proofs.read.read_into.Goals as goal

-- nothing was read yet
pub loop-at-init : goal.loop-at-init
loop-at-init g c = record {
  only = OnlyReads-refl (g.H.Host.state c.args.host.now);
  counted = SameFaults-refl (g.H.Host.state c.args.host.now);
  gives = gives_none g.S.Sink.has ((g.H.Host.state c.args.host.now).file c.args.name.now) c.args.sink.now;
}

-- one more piece was read and given
pub loop-at-preserved : goal.loop-at-preserved
loop-at-preserved g c =
    let told = (g.H.Host.state c.args.host.now).file c.args.name.now in
    let at = c.loop-at.at in
    let k = c.in_ok-count.count in
    let into = c.read.new.into in
    let so_far = c.loop-at.invariant in
    let read = c.in_ok-count.ensures in
    let bytes : ReadsFile told at k into = subst (λ t. ReadsFile t at k into) (so_far.only.files c.args.name.now) read.bytes in
    record {
      only = OnlyReads-trans so_far.only c.read.ensures.only;
      counted = SameFaults-trans so_far.counted read.counted;
      gives = gives_more g.S.Sink.has told at k into c.args.sink.now c.loop-at.sink c.receive.new.self so_far.gives read.bound bytes c.in_ok-receive.ensures;
    }

pub returns-in_err-count : goal.returns-in_err-count
returns-in_err-count g c =
    record {
      only = OnlyReads-trans c.loop-at.invariant.only c.read.ensures.only;
      ok = on_ok _ c.from_residual.result c.from_residual.ensures.0;
      counted = on_ok _ c.from_residual.result c.from_residual.ensures.0;
      too_long = λ is. absurd (not_too_long c.from_residual.result c.in_err-count.field-0.0 c.from_residual.ensures.1 is);
      failed = read_failed_after (g.H.Host.state c.read.new.self) c.from_residual.result c.read.result c.in_err-count.field-0.0 c.args.name.now c.from_residual.ensures.1 c.in_err-count.was c.loop-at.invariant.only c.read.ensures.failed;
      missing = λ none. c.read.ensures.missing (c.loop-at.invariant.only.files c.args.name.now ∙ none) ∙ c.loop-at.invariant.counted.reads;
    }

-- nothing more was read
pub returns-then-count-eq0 : goal.returns-then-count-eq0
returns-then-count-eq0 g c =
    let told = (g.H.Host.state c.args.host.now).file c.args.name.now in
    let at = c.loop-at.at in
    let into = c.read.new.into in
    let read = c.in_ok-count.ensures.bytes in
    record {
      only = OnlyReads-trans c.loop-at.invariant.only c.read.ensures.only;
      ok = gives_whole c.args.limit into c.loop-at.invariant.gives c.loop-at-test.true (subst (λ k. ReadsFile told at k into) c.if-count-eq0.true (subst (λ t. ReadsFile t at c.in_ok-count.count into) (c.loop-at.invariant.only.files c.args.name.now) read));
      counted = SameFaults-trans c.loop-at.invariant.counted c.in_ok-count.ensures.counted;
      too_long = λ is. absurd (no_fault tt TooLong is);
      failed = λ is. absurd (no_fault tt NoFile is);
      missing = λ none. c.read.ensures.missing (c.loop-at.invariant.only.files c.args.name.now ∙ none) ∙ c.loop-at.invariant.counted.reads;
    }

pub returns-in_err-receive : goal.returns-in_err-receive
returns-in_err-receive g c =
    record {
      only = OnlyReads-trans c.loop-at.invariant.only c.read.ensures.only;
      ok = on_ok _ c.from_residual-in_err-receive.result c.from_residual-in_err-receive.ensures.0;
      counted = on_ok _ c.from_residual-in_err-receive.result c.from_residual-in_err-receive.ensures.0;
      too_long = λ is. absurd (not_too_long c.from_residual-in_err-receive.result Memory c.from_residual-in_err-receive.ensures.1 is);
      failed = λ is. absurd (wanted_memory c.from_residual-in_err-receive.result c.from_residual-in_err-receive.ensures.1 is);
      missing = λ none. c.read.ensures.missing (c.loop-at.invariant.only.files c.args.name.now ∙ none) ∙ c.loop-at.invariant.counted.reads;
    }

-- the loop ended past the limit
pub returns : goal.returns
returns g c =
    record {
      only = c.loop-at.invariant.only;
      ok = tt;
      counted = tt;
      too_long = λ _. (gives_longer c.args.limit c.loop-at.invariant.gives c.loop-at-test.false, c.loop-at.invariant.counted);
      failed = λ is. absurd (only_too_long is);
      missing = λ _. c.loop-at.invariant.counted.reads;
    }
