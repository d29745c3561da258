use Rattle.std.proofs.Common.{◌≡◌, ◌∙◌, ℕ, List, length, refl, sym, ap}
use Rattle.std.specs.Prelude.{Some, slice_get}
use Rattle.std.proofs.lemmas.Result.{IfOk-weaker}
use Rattle.std.proofs.lemmas.Option.{slice_get_read, slice_get_past}
use Rattle.bdos_small.specs.Names.{name_in_block}
use Rattle.bdos_small.specs.Stored.{Stored}
use Rattle.bdos_small.specs.Disks.{file_named}
use Rattle.bdos_small.specs.Fcb.{fields_at}
use Rattle.bdos_small.specs.Calls.{writing_both}
use Rattle.bdos_small.specs.Files.{record_read, file_read}
use Rattle.bdos_small.proofs.records.read_at.Goals as goal

pub returns : goal.returns
returns c =
    let q = c.args.request.now in
    let d = c.args.disk.now in
    let f : Stored = c.in-Some.file.now in
    let there : slice_get f.records c.args.position ≡ Some c.in-Some-get.record.now = ap (λ rs. slice_get rs c.args.position) (sym c.records-records.ensures) ∙ slice_get_read c.records-records.result.now _ c.args.position c.in-Some-get.record.now refl c.in-Some-get.ensures.lookup.3.0 c.in-Some-get.ensures.lookup.1 in
    record {
      answer = IfOk-weaker c.writing_both.result _ _ (λ y e. e ∙ ap (λ fs. writing_both q 0 fs c.bytes.result.now) (c.fields_at-fields.ensures ∙ ap (λ (rs : List (List ℕ)). fields_at c.args.after (length rs)) c.records-records.ensures) ∙ ap (record_read q _ c.args.after) (ap Some c.bytes.ensures.value ∙ sym there) ∙ ap (file_read q c.args.position c.args.after) (c.in-Some.ensures.value ∙ ap (λ n. file_named n d) (c.in_block-name.ensures ∙ ap name_in_block c.block_at.ensures))) c.writing_both.ensures;
      disk = c.in-Some.ensures.disk;
    }

pub returns-in_default : goal.returns-in_default
returns-in_default c =
    let q = c.args.request.now in
    let d = c.args.disk.now in
    record {
      answer = c.telling.ensures ∙ ap (file_read q c.args.position c.args.after) (c.in_default.ensures.value ∙ ap (λ n. file_named n d) (c.in_block-name.ensures ∙ ap name_in_block c.block_at.ensures));
      disk = c.in_default.ensures.disk;
    }

pub returns-in_default-get : goal.returns-in_default-get
returns-in_default-get c =
    let q = c.args.request.now in
    let d = c.args.disk.now in
    let past = slice_get_past c.records-records.result.now c.args.position c.in_default-get.ensures.lookup.3 in
    record {
      answer = c.telling-in_default-get.ensures ∙ ap (record_read q _ c.args.after) (sym past ∙ ap (λ rs. slice_get rs c.args.position) c.records-records.ensures) ∙ ap (file_read q c.args.position c.args.after) (c.in-Some.ensures.value ∙ ap (λ n. file_named n d) (c.in_block-name.ensures ∙ ap name_in_block c.block_at.ensures));
      disk = c.in-Some.ensures.disk;
    }
