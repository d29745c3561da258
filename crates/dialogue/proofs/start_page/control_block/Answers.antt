use Rattle.std.proofs.Common.{◌≡◌, ◌∙◌, ap, ℕ, length, List, ◌∷◌, ◌++◌}
use Rattle.std.specs.Prelude.{replicate}
use Rattle.std.specs.List.{before_first, after_first}
use Rattle.dialogue.specs.StartPage.{is, name_in_tail, type_of, field}
use Rattle.dialogue.proofs.Pages.{block-is, length-field}
use Rattle.dialogue.proofs.start_page.control_block.Goals as goal

same_block : (d e : ℕ) (n m k l : List ℕ) → d ≡ e → n ≡ m → k ≡ l → d ∷ (n ++ (k ++ replicate 4 0)) ≡ e ∷ (m ++ (l ++ replicate 4 0))
same_block d e n m k l a b c = cc

pub returns : goal.returns
returns c =
    let word = c.args.word.now in
    let file = c.split_drive-drive.ensures.file in
    let name : c.field.result ≡ field 8 (name_in_tail word) =
    c.field.ensures ∙ ap (field 8) (c.split_once.ensures.before ∙ ap (before_first (is 0x2E)) file) in
    let kind : c.field-2.result ≡ field 3 (type_of word) =
    c.field-2.ensures ∙ ap (field 3) (c.split_once.ensures.after ∙ ap (after_first (is 0x2E)) file) in
    let size = ap length name ∙ length-field 8 (name_in_tail word) in
    let type_size = ap length kind ∙ length-field 3 (type_of word) in
    block-is c.split_drive-drive.result.0 c.field.result c.field-2.result _ _ _ _ size type_size c.zeros-block.ensures c.put.ensures c.put-2.ensures c.put-3.ensures
    ∙ same_block _ _ _ _ _ _ c.split_drive-drive.ensures.drive name kind
