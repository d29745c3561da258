use Rattle.std.proofs.Common.{◌≡◌, ◌∙◌, ◌<◌, ◌≤◌, nat_le, ap, sym, subst}
use Rattle.std.proofs.lemmas.Bool.{cond-true, cond-false, le-leb, lt-leb}
use Rattle.bdos_small.specs.Calls.{fcb_of}
use Rattle.bdos_small.specs.Fcb.{drive_in}
use Rattle.bdos_small.proofs.bdos.Bdos.of_file.Goals as goal

pub returns-then-byte_at-gt1-clause-answer : goal.returns-then-byte_at-gt1-clause-answer
returns-then-byte_at-gt1-clause-answer c =
    let q = c.args.request.now in
    let drive : c.byte_at.result ≡ drive_in (fcb_of q) = c.byte_at.ensures ∙ ap drive_in c.block_at.ensures in
    sym (cond-false (nat_le (drive_in (fcb_of q)) 1) _ _ (lt-leb (drive_in (fcb_of q)) 1 (subst (λ n. 1 < n) drive c.if-byte_at-gt1.true)))

pub returns-clause-answer : goal.returns-clause-answer
returns-clause-answer c =
    let q = c.args.request.now in
    let drive : c.byte_at.result ≡ drive_in (fcb_of q) = c.byte_at.ensures ∙ ap drive_in c.block_at.ensures in
    c.in_ok-file_reply.ensures.answer ∙ sym (cond-true (nat_le (drive_in (fcb_of q)) 1) _ _ (le-leb (drive_in (fcb_of q)) 1 (subst (λ n. n ≤ 1) drive c.if-byte_at-gt1.false)))
