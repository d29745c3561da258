use Rattle.std.proofs.Common.{◌≡◌, ◌∙◌, ◌<◌, ◌≤◌, [], length, refl, ap, sym, subst}
use Rattle.std.proofs.lemmas.Result.{IfOk-from_err, MatchResult-from_err}
use Rattle.bdos_small.specs.Names.{name_in_block}
use Rattle.bdos_small.specs.Disks.{with_file}
use Rattle.bdos_small.specs.Fcb.{drive_in, extent_in, opened_fcb}
use Rattle.bdos_small.specs.Calls.{fcb_of, reply_writing}
use Rattle.bdos_small.specs.Files.{is_free}
use Rattle.bdos_small.proofs.Changes.{free_is, made, not_free, full}
use Rattle.bdos_small.proofs.directory.make_file.Goals as goal
use Rattle.bdos_small.proofs.directory.make_file.Goals.{then-not-is_free-via-then-not-is_free, then-not-is_free-via-else-not-is_free+then-files-ge-MOST_FILES}

pub returns-clause-answer : goal.returns-clause-answer
returns-clause-answer c =
    let q = c.args.request.now in
    let d = c.args.disk.now in
    let fcb = c.block_at-fcb.ensures in
    let name : c.in_block-name.result ≡ name_in_block (fcb_of q) = c.in_block-name.ensures ∙ ap name_in_block fcb in
    let drive : c.byte_at.result ≡ drive_in (fcb_of q) = c.byte_at.ensures ∙ ap drive_in fcb in
    let extent : c.byte_at-2.result ≡ extent_in (fcb_of q) = c.byte_at-2.ensures ∙ ap extent_in fcb in
    let opened : opened_fcb c.byte_at.result c.in_block-name.result c.byte_at-2.result 0 ≡ opened_fcb (drive_in (fcb_of q)) (name_in_block (fcb_of q)) (extent_in (fcb_of q)) 0 = λ i. opened_fcb (drive i) (name i) (extent i) 0 in
    made d q c.in_ok-reply.reply c.add.new.self
    (sym (ap (λ n. is_free n d) name) ∙ sym c.if-not-is_free.ensures)
    (subst (λ xs. length xs < 64) c.files.ensures.value c.if-files-ge-MOST_FILES.false)
    (c.in_ok-reply.ensures ∙ ap (reply_writing q 0) (c.opened_fcb-opened.ensures ∙ opened))
    (c.in_ok-add.ensures.ok ∙ ap (λ n. with_file (record { name = n; records = [] }) d) name)

pub add-requires-clause-free : goal.add-requires-clause-free
add-requires-clause-free c = (free_is c.in_block-name.result c.args.disk.now (sym c.if-not-is_free.ensures)).1

pub add-requires-clause-lawful : goal.add-requires-clause-lawful
add-requires-clause-lawful c = (free_is c.in_block-name.result c.args.disk.now (sym c.if-not-is_free.ensures)).0

pub returns-in_err-reply : goal.returns-in_err-reply
returns-in_err-reply c =
    let r = c.from_residual in
    record {
      answer = IfOk-from_err r.result _ r.ensures.0;
      memory = MatchResult-from_err r.result _ _ r.ensures.0 (λ _. refl);
    }

pub returns-in_err-add : goal.returns-in_err-add
returns-in_err-add c =
    let r = c.from_residual-in_err-add in
    record {
      answer = IfOk-from_err r.result _ r.ensures.0;
      memory = MatchResult-from_err r.result _ _ r.ensures.0 (λ _. c.in_err-add.ensures.err);
    }

pub returns-then-not-is_free : goal.returns-then-not-is_free
returns-then-not-is_free c =
    let q = c.args.request.now in
    let d = c.args.disk.now in
    let name : c.in_block-name.result ≡ name_in_block (fcb_of q) = c.in_block-name.ensures ∙ ap name_in_block c.block_at-fcb.ensures in
    let free : c.is_free.result ≡ is_free (name_in_block (fcb_of q)) d = c.is_free.ensures ∙ ap (λ n. is_free n d) name in
    record {
      answer = elim c.then-not-is_free.branch [
        | then-not-is_free-via-then-not-is_free w ↦ not_free d q c.telling.result (sym free ∙ w.if-not-is_free.true) c.telling.ensures
        | then-not-is_free-via-else-not-is_free+then-files-ge-MOST_FILES w ↦ full d q c.telling.result (sym free ∙ w.if-not-is_free.false) (subst (λ xs. 64 ≤ length xs) w.files.ensures.value w.if-files-ge-MOST_FILES.true) c.telling.ensures
      ];
      memory = tt;
    }
