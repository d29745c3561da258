use Rattle.std.proofs.Common.{◌≡◌, ℕ, List, [], ◌∷◌, Option, sym, ap, ◌∙◌, subst}
use Rattle.std.proofs.lemmas.Result.{IfOk-from_err, IfOk-weaker, IfErr-weaker}
use Rattle.i86.specs.declared.Instr86.{Instr86}
use Rattle.i86.specs.Code.{ReadsCode}
use Rattle.dialogue.specs.declared.request.Reply.{Reply}
use Rattle.cpu86.specs.Start.{start86}
use Rattle.cpu86.specs.Step.{machine86}
use Rattle.cpu86.specs.Standing.{standing, code_kept}
use Rattle.host.proofs.HostLemmas.{OnlySays-refl, SameFaults-refl}
use Rattle.emulator_loop.specs.declared.fault.TalkFault.TheVariants.{Memory}
use Rattle.emulator_loop.specs.Talk.{SeenRun, SaysRun, IsCutOff}
use Rattle.emulator_loop.specs.Turns.{no_past}
use Rattle.emulator_loop.proofs.OneRun.{one_run}
use Rattle.emulator_loop.proofs.Exact.{says_none}
use Rattle.emulator_loop.proofs.Said.{on_fault}
use Rattle.emulators.specs.Courses.{why86, course86, course86_from}
use Rattle.emulators.specs.Starts.{start_by}
use Rattle.emulators.proofs.Machine86.{course86_is}
use Rattle.emulators.proofs.commands.run_86.Goals as goal

pub returns : goal.returns
returns g c =
    let m = c.in_ok-machine.machine in
    let image = c.args.image.now in
    let page = c.args.page.now in
    let fill = c.args.fill.now in
    let choice = c.args.choice in
    let given = c.args.devices.now in
    let limit = c.args.limit in
    let prefix = c.args.prefix.now in
    let old = g.H.Host.state c.args.host.now in
    let new = g.H.Host.state c.converse.new.host in
    let left = c.converse.new.devices in
    let state : (standing m.cpu).state ≡ start86 image page fill (start_by choice) = c.in_ok-machine.ensures.state ∙ ap (start86 image page fill) c.start_by-start.ensures in
    let first : List Reply → ℕ → SeenRun = course86_from (code_kept m.cpu) m.choice (standing m.cpu).state no_past in
    let run : (fetch : ℕ → Option Instr86) → List Reply → ℕ → SeenRun = λ fetch. course86 fetch image page fill (start_by choice) (choice ∷ []) in
    let is : (fetch : ℕ → Option Instr86) → ReadsCode image.code fetch → first ≡ run fetch =
    λ fetch reads. course86_is fetch image page fill (start_by choice) choice m.choice (code_kept m.cpu) (standing m.cpu).state c.in_ok-machine.ensures.choice c.in_ok-machine.ensures.code state c.new.ensures.reader reads in
    record {
      run = IfOk-weaker c.converse.result (λ o. SaysRun first given limit prefix o left old new) (λ o. (fetch : ℕ → Option Instr86) → ReadsCode image.code fetch → SaysRun (run fetch) given limit prefix o left old new)
          (λ o h fetch reads. subst (λ course. SaysRun course given limit prefix o left old new) (is fetch reads) h) c.converse.ensures.run;
      cut = IfErr-weaker c.converse.result (IsCutOff first given limit prefix old new) (λ fault. (fetch : ℕ → Option Instr86) → ReadsCode image.code fetch → IsCutOff (run fetch) given limit prefix old new fault)
          (λ fault h fetch reads. subst (λ course. IsCutOff course given limit prefix old new fault) (is fetch reads) h) c.converse.ensures.cut;
      only = c.converse.ensures.only;
      within = c.converse.ensures.within;
      counted = c.converse.ensures.counted;
    }

pub returns-in_err-machine : goal.returns-in_err-machine
returns-in_err-machine g c =
    let image = c.args.image.now in
    let page = c.args.page.now in
    let fill = c.args.fill.now in
    let choice = c.args.choice in
    let limit = c.args.limit in
    let host = g.H.Host.state c.args.host.now in
    let run : (fetch : ℕ → Option Instr86) → List Reply → ℕ → SeenRun = λ fetch. course86 fetch image page fill (start_by choice) (choice ∷ []) in
    let r = c.from_residual in
    record {
      run = IfOk-from_err r.result _ r.ensures.0;
      cut =
          on_fault r.result (λ h. h ≡ Memory) (λ fault. (fetch : ℕ → Option Instr86) → ReadsCode image.code fetch → IsCutOff (run fetch) c.args.devices.now limit c.args.prefix.now host host fault) r.ensures.1
          (λ h is fetch reads. subst (IsCutOff (run fetch) c.args.devices.now limit c.args.prefix.now host host) (sym is)
          (says_none (run fetch) (one_run (machine86 fetch) (choice ∷ []) why86 (start86 image page fill (start_by choice))) c.args.devices.now limit c.args.prefix.now host, SameFaults-refl host));
      only = OnlySays-refl host;
      within = IfOk-from_err r.result _ r.ensures.0;
      counted = IfOk-from_err r.result _ r.ensures.0;
    }
