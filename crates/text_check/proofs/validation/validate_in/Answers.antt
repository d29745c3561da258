use Rattle.std.proofs.Common.{◌≡◌, ℕ, List, Option, Some, None, subst}
use Rattle.std.specs.Prelude.{IfNone}
use Rattle.sym_block_def.specs.declared.reason.Reason.{Reason}
use Rattle.text_check.specs.declared.finding.Finding.{Finding}
use Rattle.text_check.specs.declared.finding.Finding.TheVariants.{Shown, NotShown}
use Rattle.asm86_line_types.specs.declared.line.Stmt86.{Stmt86}
use Rattle.flow.specs.Solving.{HasNeeds}
use Rattle.text_check.specs.Findings.{reason_in, HasFrame, Lacks, HoldsLast, IfShown}
use Rattle.text_check.proofs.Found.{is_lacking, is_found}
use Rattle.text_check.proofs.validation.validate_in.Goals as goal

if_shown : (f : Finding) (found : Option (ℕ × Reason)) (claim : Type 0) → reason_in f ≡ found → IfNone found claim → IfShown f claim
if_shown (Shown count) None claim is h = h
if_shown (Shown count) (Some reason) claim is h = absurd (cc)
if_shown (NotShown at reason) found claim is h = tt

pub returns-in-None-clause-work : goal.returns-in-None-clause-work
returns-in-None-clause-work c =
    if_shown c.finding_of.result c.first_not_shown.result (HoldsLast c.args.program.now c.args.text.now c.first_not_shown.new.work) c.finding_of.ensures.reason c.first_not_shown.ensures.work

pub returns-in-Some-clause-finding : goal.returns-in-Some-clause-finding
returns-in-Some-clause-finding c = λ lines same.
    let p = c.args.program.now in
    is_lacking p c.args.text.now c.args.image.now lines same (subst HasNeeds c.requires.program c.needs_are_sets.ensures) c.in-Some.reason
    (subst (λ (xs : List Stmt86). Lacks p xs c.args.image.now c.in-Some.reason) c.statements.ensures c.in-Some.ensures)

pub returns-in-None-clause-finding : goal.returns-in-None-clause-finding
returns-in-None-clause-finding c = λ lines same.
    let p = c.args.program.now in
    is_found p c.args.text.now c.args.image.now lines same (subst HasNeeds c.requires.program c.needs_are_sets.ensures) c.first_not_shown.result c.finding_of.result
    (subst (λ (xs : List Stmt86). HasFrame p xs c.args.image.now) c.statements.ensures c.in-None.ensures)
    c.first_not_shown.ensures.reason c.finding_of.ensures.reason c.finding_of.ensures.counts
