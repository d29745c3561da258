use Rattle.std.proofs.Common.{◌≡◌, ℕ, List, [], ◌∷◌, sym, ap, ◌∙◌, subst}
use Rattle.std.proofs.lemmas.Result.{IfOk-from_err}
use Rattle.std.specs.Prelude.{IfOk, IfErr}
use Rattle.dialogue.specs.declared.request.Reply.{Reply}
use Rattle.cpu80.specs.Step.{untagged_machine}
use Rattle.i80_bytes.specs.Start.{start_of_bytes}
use Rattle.i80_bytes.specs.Fetch.{fetch_of_bytes}
use Rattle.i80_bytes.specs.Standing.{byte_standing}
use Rattle.host.proofs.HostLemmas.{OnlySays-refl, SameFaults-refl}
use Rattle.emulator_loop.specs.declared.fault.TalkFault.TheVariants.{Memory}
use Rattle.emulator_loop.specs.Talk.{SeenRun, SaysRun, IsCutOff}
use Rattle.emulator_loop.specs.Turns.{no_past}
use Rattle.emulators.specs.ByteCourses.{why_bytes, course_bytes, course_bytes_from}
use Rattle.emulator_loop.proofs.OneRun.{one_run}
use Rattle.emulator_loop.proofs.Exact.{says_none}
use Rattle.emulator_loop.proofs.Said.{on_fault}
use Rattle.emulators.proofs.commands.run_bytes.Goals as goal

pub returns-in_err-machine : goal.returns-in_err-machine
returns-in_err-machine g c =
    let start = start_of_bytes c.args.hex.now c.args.top c.args.page.now c.args.fill.now in
    let choices : List ℕ = c.args.choice ∷ [] in
    let course : List Reply → ℕ → SeenRun = course_bytes fetch_of_bytes c.args.hex.now c.args.top c.args.page.now c.args.fill.now choices in
    let limit = c.args.limit in
    let host = g.H.Host.state c.args.host.now in
    let r = c.from_residual in
    record {
      run = IfOk-from_err r.result _ r.ensures.0;
      cut =
          on_fault r.result (λ h. h ≡ Memory) (IsCutOff course c.args.devices.now limit c.args.prefix.now host host) r.ensures.1
          (λ h is. subst (IsCutOff course c.args.devices.now limit c.args.prefix.now host host) (sym is)
          (says_none course (one_run (untagged_machine fetch_of_bytes) choices why_bytes start) c.args.devices.now limit c.args.prefix.now host, SameFaults-refl host));
      only = OnlySays-refl host;
      within = IfOk-from_err r.result _ r.ensures.0;
      counted = IfOk-from_err r.result _ r.ensures.0;
    }

pub returns : goal.returns
returns g c =
    let m = c.in_ok-machine.machine in
    let start = start_of_bytes c.args.hex.now c.args.top c.args.page.now c.args.fill.now in
    let choice = c.args.choice in
    let given = c.args.devices.now in
    let limit = c.args.limit in
    let prefix = c.args.prefix.now in
    let old = g.H.Host.state c.args.host.now in
    let new = g.H.Host.state c.converse.new.host in
    let left = c.converse.new.devices in
    let first : List Reply → ℕ → SeenRun = course_bytes_from m.choice (byte_standing m.machine).state no_past in
    let is : first ≡ course_bytes_from choice start no_past = ap (λ k. course_bytes_from k (byte_standing m.machine).state no_past) c.in_ok-machine.ensures.choice ∙ ap (λ u. course_bytes_from choice u no_past) c.in_ok-machine.ensures.state in
    record {
      run = subst (λ course. IfOk c.converse.result (λ o. SaysRun course given limit prefix o left old new)) is c.converse.ensures.run;
      cut = subst (λ course. IfErr c.converse.result (IsCutOff course given limit prefix old new)) is c.converse.ensures.cut;
      only = c.converse.ensures.only;
      within = c.converse.ensures.within;
      counted = c.converse.ensures.counted;
    }
