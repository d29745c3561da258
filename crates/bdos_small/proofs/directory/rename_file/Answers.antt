use Rattle.std.proofs.Common.{◌≡◌, ◌∙◌, sym, ap, subst}
use Rattle.std.specs.Prelude.{IsSome}
use Rattle.std.proofs.lemmas.Result.{IfOk-from_err, MatchResult-from_err}
use Rattle.bdos_small.specs.Names.{name_in_block}
use Rattle.bdos_small.specs.Disks.{file_named}
use Rattle.bdos_small.specs.Calls.{block_read, fcb_of}
use Rattle.bdos_small.specs.Files.{is_free, renamed, rename_file}
use Rattle.bdos_small.proofs.Changes.{free_is, renamed_by, some_copied, none_copied, no_first, no_second}
use Rattle.bdos_small.proofs.directory.rename_file.Goals as goal
use Rattle.bdos_small.proofs.directory.rename_file.Goals.{then-is_none-via-then-is_none, then-is_none-via-else-is_none+then-not-is_free}

pub returns-in_err-rename : goal.returns-in_err-rename
returns-in_err-rename c =
    let r = c.from_residual in
    record {
      answer = IfOk-from_err r.result _ r.ensures.0;
      memory = MatchResult-from_err r.result _ _ r.ensures.0 (λ _. c.in_err-rename.ensures.err);
    }

pub returns-then-is_none : goal.returns-then-is_none
returns-then-is_none c =
    let q = c.args.request.now in
    let d = c.args.disk.now in
    let from : c.in_block-from.result ≡ name_in_block (fcb_of q) = c.in_block-from.ensures ∙ ap name_in_block c.block_at.ensures in
    let to : c.in_block-to.result ≡ name_in_block (block_read 1 q) = c.in_block-to.ensures ∙ ap name_in_block c.block_at-2.ensures in
    record {
      answer = elim c.then-is_none.branch [
        | then-is_none-via-then-is_none w ↦ no_first d q c.telling.result (ap (λ n. file_named n d) (sym from) ∙ sym c.file_named.ensures.value ∙ none_copied c.file_named.result w.if-is_none.ensures) c.telling.ensures
        | then-is_none-via-else-is_none+then-not-is_free w ↦ no_second d q c.telling.result (ap (λ n. is_free n d) (sym to) ∙ sym w.is_free.ensures ∙ w.if-not-is_free.true) c.telling.ensures
      ];
      memory = tt;
    }

pub rename-requires : goal.rename-requires
rename-requires c =
    let free = free_is c.in_block-to.result c.args.disk.now (sym c.is_free.ensures ∙ c.if-not-is_free.false) in
    record {
      lawful = free.0;
      free = free.1;
      found = subst (λ o. IsSome o) c.file_named.ensures.value (some_copied c.file_named.result c.if-is_none.ensures);
    }

pub returns : goal.returns
returns c =
    let q = c.args.request.now in
    let d = c.args.disk.now in
    let from : c.in_block-from.result ≡ name_in_block (fcb_of q) = c.in_block-from.ensures ∙ ap name_in_block c.block_at.ensures in
    let to : c.in_block-to.result ≡ name_in_block (block_read 1 q) = c.in_block-to.ensures ∙ ap name_in_block c.block_at-2.ensures in
    let here : renamed d c.in_block-from.result c.in_block-to.result (file_named c.in_block-from.result d) ≡ rename_file d q = λ i. renamed d (from i) (to i) (file_named (from i) d) in
    record {
      answer =
          renamed_by d c.in_block-from.result c.in_block-to.result (file_named c.in_block-from.result d) c.telling-2.result c.rename.new.self
          (subst (λ o. IsSome o) c.file_named.ensures.value (some_copied c.file_named.result c.if-is_none.ensures))
          (sym c.is_free.ensures ∙ c.if-not-is_free.false) c.telling-2.ensures c.in_ok-rename.ensures.ok
          ∙ here;
      memory = tt;
    }
