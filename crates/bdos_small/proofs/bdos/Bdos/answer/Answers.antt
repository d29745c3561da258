use Rattle.std.proofs.Common.{refl, ap, sym, subst, ◌∙◌, arith}
use Rattle.std.proofs.lemmas.Result.{IfOk-weaker, on_err_weaker, IfOk-from_err, MatchResult-from_err}
use Rattle.dialogue.specs.Fits.{fits}
use Rattle.bdos_small.specs.Small.{small_of, replying, with_input, small_answer, ChangesByReply}
use Rattle.bdos_small.proofs.ForConsole.{IsConsoles, first_ones, middle_ones, last_ones, by_file, by_console, by_search, by_record, changes_by_reply}
use Rattle.bdos_small.proofs.FileFits.{set_random_fits}
use Rattle.bdos_small.proofs.bdos.Bdos.answer.Goals as goal
use Rattle.bdos_small.proofs.bdos.Bdos.answer.Goals.{in_default-via-then-request-lt15, in_default-via-else-request-lt15+else-request-lt24+then-request-lt33, in_default-via-else-request-lt15+else-request-lt24+else-request-lt33+else-request-lt36}

pub returns-in-15-to-17 : goal.returns-in-15-to-17
returns-in-15-to-17 c =
    let q = c.args.request.now in
    let of = c.of_file.ensures in
    record {
      answer = IfOk-weaker c.of_file.result _ _ (λ a e. e ∙ sym (by_file c.args.self.now q (λ h. omega arith) (λ h. omega arith) (λ h g. grind arith) (λ h. grind arith))) of.answer;
      fits = of.fits;
      changes = of.changes;
      memory = of.memory;
    }

pub returns-in-18 : goal.returns-in-18
returns-in-18 c =
    let on = c.search_on.ensures in
    record {
      answer = IfOk-weaker c.search_on.result _ _ (λ a e. e ∙ sym (by_search c.args.self.now c.args.request.now c.in-18.is)) on.answer;
      fits = on.fits;
      changes = on.changes;
      memory = on.memory;
    }

pub returns-in_ok-set_random_record-in-36 : goal.returns-in_ok-set_random_record-in-36
returns-in_ok-set_random_record-in-36 c =
    let q = c.args.request.now in
    let set = c.in_ok-set_random_record-in-36.ensures in
    record {
      answer = ap (replying c.args.self.now) set ∙ sym (by_record c.args.self.now q c.in-36.is);
      fits = ap (fits q) set ∙ set_random_fits q c.requires c.in-36.is;
      changes = tt;
      memory = tt;
    }

pub returns-in_err-set_random_record-in-36 : goal.returns-in_err-set_random_record-in-36
returns-in_err-set_random_record-in-36 c =
    let r = c.from_residual in
    record {
      answer = IfOk-from_err r.result _ r.ensures.0;
      fits = IfOk-from_err r.result _ r.ensures.0;
      changes = IfOk-from_err r.result _ r.ensures.0;
      memory = MatchResult-from_err r.result _ _ r.ensures.0 (λ _. refl);
    }

pub returns-in_default : goal.returns-in_default
returns-in_default c =
    let q = c.args.request.now in
    let disk = c.self.inside.disk in
    let search = c.self.inside.search in
    let s = small_of disk c.self.inside.console search in
    let consoles : IsConsoles q.shape.function =
    elim c.in_default.branch [
      | in_default-via-then-request-lt15 w ↦ first_ones q.shape.function (omega arith)
      | in_default-via-else-request-lt15+else-request-lt24+then-request-lt33 w ↦ middle_ones q.shape.function (omega arith) (omega arith)
      | in_default-via-else-request-lt15+else-request-lt24+else-request-lt33+else-request-lt36 w ↦ last_ones q.shape.function (omega arith)
    ] in
    let by = c.answer.ensures in
    record {
      answer = IfOk-weaker c.answer.result _ _ (λ a e. ap (with_input s) e ∙ (sym (by_console s q consoles) ∙ ap (λ t. small_answer t q) c.self.view_is)) by.answer;
      fits = by.fits;
      changes = IfOk-weaker c.answer.result _ _ (λ a h. subst (λ t. ChangesByReply a t (small_of disk c.answer.new.self search)) c.self.view_is (changes_by_reply a disk search c.self.inside.console c.answer.new.self h)) by.takes;
      memory = on_err_weaker c.answer.result (λ e. ap (λ input. small_of disk input search) e ∙ c.self.view_is) by.memory;
    }
