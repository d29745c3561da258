use Rattle.std.proofs.Common.{◌≡◌, ◌∙◌, sym, ap, ℕ, length, List, true}
use Rattle.std.specs.Prelude.{map}
use Rattle.std.specs.Char.{to_ascii_uppercase}
use Rattle.dialogue.specs.StartPage.{is_tail, first_word, after_word, control_block, tail_area}
use Rattle.dialogue.proofs.Pages.{page-is, page_of_tail-is, same_page, length-control_block, length-tail_area}
use Rattle.dialogue.proofs.start_page.Page.of_tail.Goals as goal

pub returns : goal.returns
returns c =
    let tail = c.args.tail.now in
    let text : List ℕ = map to_ascii_uppercase tail in
    let upper = c.in_upper_case-upper.ensures in
    let first : c.control_block.result ≡ control_block (first_word text) =
    c.control_block.ensures ∙ ap control_block (c.next_word.ensures.word ∙ ap first_word upper) in
    let second : c.control_block-2.result ≡ control_block (first_word (after_word text)) =
    c.control_block-2.ensures ∙ ap control_block (c.next_word-2.ensures.word ∙ ap first_word (c.next_word.ensures.rest ∙ ap after_word upper)) in
    let area : c.tail_area.result ≡ tail_area text = c.tail_area.ensures ∙ ap tail_area upper in
    let good : is_tail tail ≡ true = sym c.is_tail.ensures ∙ c.if-not-is_tail.false in
    page_of_tail-is tail c.put-3.new.cells good
    (page-is c.control_block.result c.control_block-2.result c.tail_area.result c.zeros-cells.result c.put.new.cells c.put-2.new.cells c.put-3.new.cells
    (ap length first ∙ length-control_block (first_word text))
    (ap length second ∙ length-control_block (first_word (after_word text)))
    (ap length area ∙ length-tail_area text)
    c.zeros-cells.ensures c.put.ensures c.put-2.ensures c.put-3.ensures
    ∙ same_page _ _ _ _ _ _ first second area)
