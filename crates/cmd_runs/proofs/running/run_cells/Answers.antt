use Rattle.std.proofs.Common.{ℕ, List, [], ◌∷◌, sym, subst}
use Rattle.std.proofs.lemmas.Result.{IfOk-weaker, IfErr-weaker}
use Rattle.dialogue.specs.declared.request.Reply.{Reply}
use Rattle.i80_bytes.specs.Fetch.{fetch_of_bytes}
use Rattle.emulator_loop.specs.Talk.{SeenRun, SaysRun, IsCutOff}
use Rattle.emulators.specs.ByteCourses.{course_bytes}
use Rattle.cmd_runs.specs.RunsHex.{IsCourseOfBytes, setting_of_bytes}
use Rattle.cmd_runs.proofs.Settings.{run_came, run_cut}
use Rattle.cmd_runs.proofs.running.run_cells.Goals as goal

pub returns-clause-run : goal.returns-clause-run
returns-clause-run g c =
    let old = g.H.Host.state c.args.host.now in
    let new = g.H.Host.state c.run_bytes.new.host in
    let cells = c.args.hex.now in
    let top = c.args.top in
    let page = c.args.page.now in
    let choice = c.args.choice in
    let supply = c.args.devices.now in
    let left = c.run_bytes.new.devices in
    let limit = c.args.limit in
    let prefix = c.args.prefix.now in
    let r = c.run_bytes.result in
    let e = c.run_bytes.ensures in
    let run : List ℕ → List Reply → ℕ → SeenRun = λ fill. course_bytes fetch_of_bytes cells top page fill (choice ∷ []) in
    run_came (setting_of_bytes page top choice cells limit prefix) supply left old new r
    (IfOk-weaker r (λ end. SaysRun (run c.args.fill.now) supply limit prefix end left old new) (λ end. (course : List Reply → ℕ → SeenRun) → IsCourseOfBytes page top choice cells course → SaysRun course supply limit prefix end left old new)
    (λ end says course is. subst (λ (x : List Reply → ℕ → SeenRun). SaysRun x supply limit prefix end left old new) (sym is.is)
    (subst (λ fill. SaysRun (run fill) supply limit prefix end left old new) c.requires.fill says)) e.run) e.only e.counted

pub returns-clause-cut : goal.returns-clause-cut
returns-clause-cut g c =
    let old = g.H.Host.state c.args.host.now in
    let new = g.H.Host.state c.run_bytes.new.host in
    let cells = c.args.hex.now in
    let top = c.args.top in
    let page = c.args.page.now in
    let choice = c.args.choice in
    let supply = c.args.devices.now in
    let limit = c.args.limit in
    let prefix = c.args.prefix.now in
    let r = c.run_bytes.result in
    let e = c.run_bytes.ensures in
    let run : List ℕ → List Reply → ℕ → SeenRun = λ fill. course_bytes fetch_of_bytes cells top page fill (choice ∷ []) in
    run_cut (setting_of_bytes page top choice cells limit prefix) supply c.run_bytes.new.devices old new r
    (IfErr-weaker r (IsCutOff (run c.args.fill.now) supply limit prefix old new) (λ fault. (course : List Reply → ℕ → SeenRun) → IsCourseOfBytes page top choice cells course → IsCutOff course supply limit prefix old new fault)
    (λ fault cut course is. subst (λ (x : List Reply → ℕ → SeenRun). IsCutOff x supply limit prefix old new fault) (sym is.is)
    (subst (λ fill. IsCutOff (run fill) supply limit prefix old new fault) c.requires.fill cut)) e.cut) e.only
