use Rattle.std.proofs.Common.{◌∙◌, ◌++◌, List, refl, sym, ap, subst}
use Rattle.asm86_line_types.specs.declared.line.Stmt86.{Stmt86}
use Rattle.asm86_line_types.specs.Image.{statements}
use Rattle.flow.specs.Solving.{HasNeeds}
use Rattle.xlt_core.specs.Names.{IsFinding}
use Rattle.text_check.specs.Findings.{HasFrame, Lacks, AreOfLines}
use Rattle.text_check.proofs.Found.{is_lacking, is_found}
use Rattle.cmd_explain.specs.Explained.{Explained, frame, of_blocks}
use Rattle.cmd_explain.proofs.telling.explain_sides.Goals as goal
use Rattle.cmd_explain.proofs.telling.explain_sides.Goals.{in-Some+in_ok-tell_frame-in-Some, in-None+in_ok-first-in-None}

pub returns-clause-finding : goal.returns-clause-finding
returns-clause-finding c =
    let p = c.args.sides.now.program.now in
    let lines = c.args.sides.now.lines.now in
    let image = c.args.image.now in
    let same : AreOfLines (statements lines) image lines = record { stated = refl; made = c.requires.made } in
    let has : HasNeeds p = subst HasNeeds c.requires.program c.needs_are_sets.ensures in
    let stated = c.statements.ensures ∙ c.requires.text in
    elim c.match-lacks.branch [
      | in-Some+in_ok-tell_frame-in-Some w ↦ subst (IsFinding p lines) (sym w.finding-is)
          (is_lacking p (statements lines) image lines same has w.in-Some.reason (subst (λ (xs : List Stmt86). Lacks p xs image w.in-Some.reason) stated w.in-Some.ensures))
      | in-None+in_ok-first-in-None w ↦ subst (IsFinding p lines) (sym w.finding-is)
          (is_found p (statements lines) image lines same has w.in_ok-first-in-None.first w.finding_of-finding.result (subst (λ (xs : List Stmt86). HasFrame p xs image) stated w.in-None.ensures)
          w.in_ok-first-in-None.ensures.reason w.finding_of-finding.ensures.reason w.finding_of-finding.ensures.counts)
    ]

pub returns-clause-explained : goal.returns-clause-explained
returns-clause-explained c =
    let p = c.args.sides.now.program.now in
    let lines = c.args.sides.now.lines.now in
    let image = c.args.image.now in
    let has : HasNeeds p = subst HasNeeds c.requires.program c.needs_are_sets.ensures in
    let stated = c.statements.ensures ∙ c.requires.text in
    elim c.match-lacks.branch [
      | in-Some+in_ok-tell_frame-in-Some w ↦
          let t = w.in_ok-tell_frame-in-Some.ensures in
          subst (Explained p lines image) (sym (ap (λ v. v.items) w.told-is ∙ t.is ∙ ap (λ l. l ++ t.own) c.new-told.ensures.items))
          (frame w.in-Some.reason (subst (λ (xs : List Stmt86). Lacks p xs image w.in-Some.reason) stated w.in-Some.ensures) t.claim)
      | in-None+in_ok-first-in-None w ↦
          let t = w.in_ok-first-in-None.ensures.told has.0 has.1 in
          subst (Explained p lines image) (sym (ap (λ v. v.items) w.told-is ∙ t.is ∙ ap (λ l. l ++ t.own) c.new-told.ensures.items))
          (of_blocks (subst (λ (xs : List Stmt86). HasFrame p xs image) stated w.in-None.ensures) has.0 has.1 t.claim)
    ]
