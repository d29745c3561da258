use Rattle.std.proofs.Common.{◌≡◌, ℕ, List, [], sym, ap, ◌∙◌, subst}
use Rattle.std.proofs.lemmas.Result.{IfOk-from_err}
use Rattle.std.specs.Prelude.{IfOk, IfErr}
use Rattle.dialogue.specs.declared.request.Reply.{Reply}
use Rattle.cpu80_tagged.specs.Start.{start80}
use Rattle.cpu80_tagged.specs.Step.{machine80}
use Rattle.cpu80_tagged.specs.ProcessorState.{tagged_state}
use Rattle.host.proofs.HostLemmas.{OnlySays-refl, SameFaults-refl}
use Rattle.emulator_loop.specs.declared.fault.TalkFault.TheVariants.{Memory}
use Rattle.emulator_loop.specs.Talk.{SeenRun, SaysRun, IsCutOff}
use Rattle.emulator_loop.specs.Turns.{no_past}
use Rattle.emulator_loop.proofs.OneRun.{one_run}
use Rattle.emulator_loop.proofs.Exact.{says_none}
use Rattle.emulator_loop.proofs.Said.{on_fault}
use Rattle.emulators.specs.Courses.{why80, course80, course80_from}
use Rattle.emulators.proofs.commands.run_80.Goals as goal

pub returns-in_err-machine : goal.returns-in_err-machine
returns-in_err-machine g c =
    let p = c.args.program.now in
    let page = c.args.page.now in
    let limit = c.args.limit in
    let host = g.H.Host.state c.args.host.now in
    let r = c.from_residual in
    record {
      run = IfOk-from_err r.result _ r.ensures.0;
      cut =
          on_fault r.result (λ h. h ≡ Memory) (IsCutOff (course80 p page) c.args.devices.now limit c.args.prefix.now host host) r.ensures.1
          (λ h is. subst (IsCutOff (course80 p page) c.args.devices.now limit c.args.prefix.now host host) (sym is)
          (says_none (course80 p page) (one_run (machine80 p) [] why80 (start80 p page)) c.args.devices.now limit c.args.prefix.now host, SameFaults-refl host));
      only = OnlySays-refl host;
      within = IfOk-from_err r.result _ r.ensures.0;
      counted = IfOk-from_err r.result _ r.ensures.0;
    }

pub returns : goal.returns
returns g c =
    let m = c.in_ok-machine.machine in
    let p = c.args.program.now in
    let page = c.args.page.now in
    let given = c.args.devices.now in
    let limit = c.args.limit in
    let prefix = c.args.prefix.now in
    let old = g.H.Host.state c.args.host.now in
    let new = g.H.Host.state c.converse.new.host in
    let left = c.converse.new.devices in
    let first : List Reply → ℕ → SeenRun = course80_from m.program.now (tagged_state m.cpu) no_past in
    let is : first ≡ course80 p page = ap (λ q. course80_from q (tagged_state m.cpu) no_past) c.in_ok-machine.ensures.program ∙ ap (λ s. course80_from p s no_past) c.in_ok-machine.ensures.start in
    record {
      run = subst (λ course. IfOk c.converse.result (λ o. SaysRun course given limit prefix o left old new)) is c.converse.ensures.run;
      cut = subst (λ course. IfErr c.converse.result (IsCutOff course given limit prefix old new)) is c.converse.ensures.cut;
      only = c.converse.ensures.only;
      within = c.converse.ensures.within;
      counted = c.converse.ensures.counted;
    }
