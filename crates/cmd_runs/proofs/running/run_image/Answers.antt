use Rattle.std.proofs.Common.{ℕ, List, [], ◌∷◌, Option, sym, subst}
use Rattle.std.proofs.lemmas.Result.{IfOk-weaker, IfErr-weaker}
use Rattle.i86.specs.declared.Instr86.{Instr86}
use Rattle.i86.specs.Code.{ReadsCode}
use Rattle.dialogue.specs.declared.request.Reply.{Reply}
use Rattle.emulator_loop.specs.Talk.{SeenRun, SaysRun, IsCutOff}
use Rattle.emulators.specs.Courses.{course86}
use Rattle.emulators.specs.Starts.{start_by}
use Rattle.cmd_runs.specs.Settings.{IsCourse86, setting86}
use Rattle.cmd_runs.proofs.Settings.{run_came, run_cut}
use Rattle.cmd_runs.proofs.running.run_image.Goals as goal

pub returns-clause-run : goal.returns-clause-run
returns-clause-run g c =
    let old = g.H.Host.state c.args.host.now in
    let new = g.H.Host.state c.run_86.new.host in
    let image = c.args.image.now in
    let page = c.args.page.now in
    let choice = c.args.choice in
    let supply = c.args.devices.now in
    let left = c.run_86.new.devices in
    let limit = c.args.limit in
    let prefix = c.args.prefix.now in
    let r = c.run_86.result in
    let e = c.run_86.ensures in
    run_came (setting86 page choice image limit prefix) supply left old new r
    (IfOk-weaker r (λ end. (fetch : ℕ → Option Instr86) → ReadsCode image.code fetch → SaysRun (course86 fetch image page c.args.fill.now (start_by choice) (choice ∷ [])) supply limit prefix end left old new) (λ end. (course : List Reply → ℕ → SeenRun) → IsCourse86 page choice image course → SaysRun course supply limit prefix end left old new)
    (λ end says course is. subst (λ (x : List Reply → ℕ → SeenRun). SaysRun x supply limit prefix end left old new) (sym is.is)
    (subst (λ fill. SaysRun (course86 is.fetch image page fill (start_by choice) (choice ∷ [])) supply limit prefix end left old new) c.requires.fill (says is.fetch is.reads))) e.run) e.only e.counted

pub returns-clause-cut : goal.returns-clause-cut
returns-clause-cut g c =
    let old = g.H.Host.state c.args.host.now in
    let new = g.H.Host.state c.run_86.new.host in
    let image = c.args.image.now in
    let page = c.args.page.now in
    let choice = c.args.choice in
    let supply = c.args.devices.now in
    let limit = c.args.limit in
    let prefix = c.args.prefix.now in
    let r = c.run_86.result in
    let e = c.run_86.ensures in
    run_cut (setting86 page choice image limit prefix) supply c.run_86.new.devices old new r
    (IfErr-weaker r (λ fault. (fetch : ℕ → Option Instr86) → ReadsCode image.code fetch → IsCutOff (course86 fetch image page c.args.fill.now (start_by choice) (choice ∷ [])) supply limit prefix old new fault) (λ fault. (course : List Reply → ℕ → SeenRun) → IsCourse86 page choice image course → IsCutOff course supply limit prefix old new fault)
    (λ fault cut course is. subst (λ (x : List Reply → ℕ → SeenRun). IsCutOff x supply limit prefix old new fault) (sym is.is)
    (subst (λ fill. IsCutOff (course86 is.fetch image page fill (start_by choice) (choice ∷ [])) supply limit prefix old new fault) c.requires.fill (cut is.fetch is.reads))) e.cut) e.only
