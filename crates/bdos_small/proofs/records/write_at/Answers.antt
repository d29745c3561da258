use Rattle.std.proofs.Common.{◌≡◌, ◌∙◌, ℕ, ◌+◌, ◌-◌, ◌<◌, ◌≤◌, length, max, refl, ap, sym, subst, arith}
use Rattle.std.specs.Prelude.{IfSome, IsSome}
use Rattle.std.proofs.lemmas.Result.{IfOk-from_err, MatchResult-from_err}
use Rattle.bdos_small.specs.Stored.{Stored}
use Rattle.bdos_small.specs.Names.{name_in_block}
use Rattle.bdos_small.specs.Disks.{file_named, with_records, written_at, records_in, growth}
use Rattle.bdos_small.proofs.Files.{length-written_at}
use Rattle.bdos_small.specs.Fcb.{fields_at}
use Rattle.bdos_small.specs.Calls.{fcb_of, reply_writing}
use Rattle.bdos_small.proofs.Changes.{written, unwritten_file, unwritten}
use Rattle.bdos_small.proofs.records.write_at.Goals as goal

max_is : (m n : ℕ) → max m n ≡ m + (n - m)
max_is m n = omega arith

pub returns-clause-answer : goal.returns-clause-answer
returns-clause-answer c =
    let q = c.args.request.now in
    let d = c.args.disk.now in
    let f : Stored = c.in-Some.file.now in
    let name : c.in_block-name.result ≡ name_in_block (fcb_of q) = c.in_block-name.ensures ∙ ap name_in_block c.block_at.ensures in
    let count = ap length c.records-count.ensures in
    let now_here = c.in_ok-write_record.ensures.ok in
    let records = written_at c.args.position c.args.bytes.now f.records in
    let new = subst (λ o. IfSome o (λ (g : Stored). c.write_record.new.self ≡ with_records c.in_block-name.result (written_at c.args.position c.args.bytes.now g.records) d)) (sym c.in-Some.ensures.value) now_here in
    let room = subst (λ n. n + c.saturating_sub.result ≤ 8000) c.record_count.ensures.count c.if-record_count-saturating_sub-gt-MOST_RECORDS.false in
    let grows : c.saturating_sub.result ≡ growth c.args.position f.records = c.saturating_sub.ensures ∙ ap (λ n. c.args.position + 1 - n) count in
    let many : c.max.result ≡ length records = c.max.ensures ∙ (ap (λ n. max n (c.args.position + 1)) count ∙ (max_is (length f.records) (c.args.position + 1) ∙ sym (length-written_at c.args.position c.args.bytes.now f.records))) in
    written d q c.args.position c.args.after c.args.bytes.now f c.in_ok-reply.reply c.write_record.new.self
    (c.in-Some.ensures.value ∙ ap (λ n. file_named n d) name)
    (subst (λ n. records_in d + n ≤ 8000) grows room)
    (c.in_ok-reply.ensures ∙ ap (reply_writing q 0) (c.fields_at-fields.ensures ∙ ap (fields_at c.args.after) many))
    (new ∙ ap (λ n. with_records n records d) name)

pub returns-in_err-reply : goal.returns-in_err-reply
returns-in_err-reply c =
    let r = c.from_residual in
    record {
      answer = IfOk-from_err r.result _ r.ensures.0;
      memory = MatchResult-from_err r.result _ _ r.ensures.0 (λ _. refl);
    }

pub returns-in_err-write_record : goal.returns-in_err-write_record
returns-in_err-write_record c =
    let r = c.from_residual-in_err-write_record in
    record {
      answer = IfOk-from_err r.result _ r.ensures.0;
      memory = MatchResult-from_err r.result _ _ r.ensures.0 (λ _. c.in_err-write_record.ensures.err);
    }

pub write_record-requires : goal.write_record-requires
write_record-requires c =
    let d = c.args.disk.now in
    let f : Stored = c.in-Some.file.now in
    let grows : c.saturating_sub.result ≡ growth c.args.position f.records = c.saturating_sub.ensures ∙ ap (λ n. c.args.position + 1 - n) (ap length c.records-count.ensures) in
    let room = subst (λ n. n + c.saturating_sub.result ≤ 8000) c.record_count.ensures.count c.if-record_count-saturating_sub-gt-MOST_RECORDS.false in
    record {
      whole = c.requires.whole;
      near = c.requires.near;
      room = subst (λ o. IfSome o (λ (g : Stored). records_in d + growth c.args.position g.records ≤ 8000)) c.in-Some.ensures.value (subst (λ n. records_in d + n ≤ 8000) grows room);
      found = subst (λ o. IsSome o) c.in-Some.ensures.value refl;
    }

pub returns-in_default : goal.returns-in_default
returns-in_default c =
    let q = c.args.request.now in
    let d = c.args.disk.now in
    let name : c.in_block-name.result ≡ name_in_block (fcb_of q) = c.in_block-name.ensures ∙ ap name_in_block c.block_at.ensures in
    record {
      answer = unwritten_file d q c.args.position c.args.after c.args.bytes.now c.telling.result (c.in_default.ensures.value ∙ ap (λ n. file_named n d) name) c.telling.ensures;
      memory = tt;
    }

pub returns-then-record_count-saturating_sub-gt-MOST_RECORDS : goal.returns-then-record_count-saturating_sub-gt-MOST_RECORDS
returns-then-record_count-saturating_sub-gt-MOST_RECORDS c =
    let q = c.args.request.now in
    let d = c.args.disk.now in
    let f : Stored = c.in-Some.file.now in
    let name : c.in_block-name.result ≡ name_in_block (fcb_of q) = c.in_block-name.ensures ∙ ap name_in_block c.block_at.ensures in
    let grows : c.saturating_sub.result ≡ growth c.args.position f.records = c.saturating_sub.ensures ∙ ap (λ n. c.args.position + 1 - n) (ap length c.records-count.ensures) in
    let full = subst (λ n. 8000 < n + c.saturating_sub.result) c.record_count.ensures.count c.if-record_count-saturating_sub-gt-MOST_RECORDS.true in
    record {
      answer = unwritten d q c.args.position c.args.after c.args.bytes.now f c.telling-then-record_count-saturating_sub-gt-MOST_RECORDS.result (c.in-Some.ensures.value ∙ ap (λ n. file_named n d) name) (subst (λ n. 8000 < records_in d + n) grows full) c.telling-then-record_count-saturating_sub-gt-MOST_RECORDS.ensures;
      memory = tt;
    }
