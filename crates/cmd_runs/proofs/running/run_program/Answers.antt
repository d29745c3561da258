use Rattle.std.proofs.Common.{ℕ, List, sym, subst}
use Rattle.std.proofs.lemmas.Result.{IfOk-weaker, IfErr-weaker}
use Rattle.dialogue.specs.declared.request.Reply.{Reply}
use Rattle.emulator_loop.specs.Talk.{SeenRun, SaysRun, IsCutOff}
use Rattle.emulators.specs.Courses.{course80}
use Rattle.cmd_runs.specs.Settings.{IsCourse80, setting80}
use Rattle.cmd_runs.proofs.Settings.{run_came, run_cut}
use Rattle.cmd_runs.proofs.running.run_program.Goals as goal

pub returns-clause-run : goal.returns-clause-run
returns-clause-run g c =
    let old = g.H.Host.state c.args.host.now in
    let new = g.H.Host.state c.run_80.new.host in
    let program = c.args.program.now in
    let page = c.args.page.now in
    let supply = c.args.devices.now in
    let left = c.run_80.new.devices in
    let limit = c.args.limit in
    let prefix = c.args.prefix.now in
    let r = c.run_80.result in
    let e = c.run_80.ensures in
    run_came (setting80 page program limit prefix) supply left old new r
    (IfOk-weaker r (λ end. SaysRun (course80 program page) supply limit prefix end left old new) (λ end. (course : List Reply → ℕ → SeenRun) → IsCourse80 page program course → SaysRun course supply limit prefix end left old new)
    (λ end says course is. subst (λ (x : List Reply → ℕ → SeenRun). SaysRun x supply limit prefix end left old new) (sym is) says) e.run) e.only e.counted

pub returns-clause-cut : goal.returns-clause-cut
returns-clause-cut g c =
    let old = g.H.Host.state c.args.host.now in
    let new = g.H.Host.state c.run_80.new.host in
    let program = c.args.program.now in
    let page = c.args.page.now in
    let supply = c.args.devices.now in
    let limit = c.args.limit in
    let prefix = c.args.prefix.now in
    let r = c.run_80.result in
    let e = c.run_80.ensures in
    run_cut (setting80 page program limit prefix) supply c.run_80.new.devices old new r
    (IfErr-weaker r (IsCutOff (course80 program page) supply limit prefix old new) (λ fault. (course : List Reply → ℕ → SeenRun) → IsCourse80 page program course → IsCutOff course supply limit prefix old new fault)
    (λ fault cut course is. subst (λ (x : List Reply → ℕ → SeenRun). IsCutOff x supply limit prefix old new fault) (sym is) cut) e.cut) e.only
