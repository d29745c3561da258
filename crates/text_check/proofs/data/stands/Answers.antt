use Rattle.std.proofs.Common.{◌≡◌, ◌∙◌, ℕ, ◌%◌, ◌/◌, ◌==◌, ◌↔◌, Option, Some, None, false, IsTrue, ap, subst, sym, rules, tests}
use Rattle.asm86_line_types.specs.Image.{offset_in}
use Rattle.cells.specs.declared.Cell.{Cell}
use Rattle.sym_block_def.specs.Stands.{IsHalf, Stands}
use Rattle.simulation_def.specs.Linked.{places}
use Rattle.text_check.proofs.data.stands.Goals as goal

half_found : (half : ℕ → ℕ) (found : Option ℕ) (offset byte : ℕ) → found ≡ Some offset → IsTrue (byte == half offset) ↔ IsHalf half found byte
half_found half found offset byte is = rw is (search (rules, tests))

none_found : (half : ℕ → ℕ) (found : Option ℕ) (byte : ℕ) → found ≡ None → IsTrue false ↔ IsHalf half found byte
none_found half found byte is = rw is (search (rules, tests))

pub returns-in-Some : goal.returns-in-Some
returns-in-Some c =
    let labels = c.args.image.now.labels in
    let byte = c.args.byte in
    let found = sym (c.offset.ensures ∙ ap (offset_in labels) c.label_of.ensures) ∙ c.in-Some.is in
    subst (λ (cell : Cell). IsTrue (byte == c.in-Some.offset % 256) ↔ Stands (places (offset_in labels)) cell byte) (sym c.in-Lo.is) (half_found (λ n. n % 256) _ c.in-Some.offset byte found)

pub returns-in-None : goal.returns-in-None
returns-in-None c =
    let labels = c.args.image.now.labels in
    let found = sym (c.offset.ensures ∙ ap (offset_in labels) c.label_of.ensures) ∙ c.in-None.is in
    subst (λ (cell : Cell). IsTrue false ↔ Stands (places (offset_in labels)) cell c.args.byte) (sym c.in-Lo.is) (none_found (λ n. n % 256) _ c.args.byte found)

pub returns-in-Some-offset : goal.returns-in-Some-offset
returns-in-Some-offset c =
    let labels = c.args.image.now.labels in
    let byte = c.args.byte in
    let found = sym (c.offset-in-Hi.ensures ∙ ap (offset_in labels) c.label_of-in-Hi.ensures) ∙ c.in-Some-offset.is in
    subst (λ (cell : Cell). IsTrue (byte == c.in-Some-offset.offset / 256) ↔ Stands (places (offset_in labels)) cell byte) (sym c.in-Hi.is) (half_found (λ n. n / 256) _ c.in-Some-offset.offset byte found)

pub returns-in-None-offset : goal.returns-in-None-offset
returns-in-None-offset c =
    let labels = c.args.image.now.labels in
    let found = sym (c.offset-in-Hi.ensures ∙ ap (offset_in labels) c.label_of-in-Hi.ensures) ∙ c.in-None-offset.is in
    subst (λ (cell : Cell). IsTrue false ↔ Stands (places (offset_in labels)) cell c.args.byte) (sym c.in-Hi.is) (none_found (λ n. n / 256) _ c.args.byte found)
