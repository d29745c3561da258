use Rattle.std.proofs.Common.{◌≡◌, sym, ◌∙◌, refl, length, eqb, false, [], ◌∷◌}
use Rattle.std.specs.List.{slice_split}
use Rattle.asm86_line_types.specs.declared.line.TextRule.TheVariants.{M2}
use Rattle.asm86_line_reader.specs.Operands.{is_comma}
use Rattle.asm86_line_reader.proofs.Cut.{in_none, one_fails, one_taken, first_of_two_fails, second_fails, two_taken, more_than_two, just_two, fails_with_m2, of_operands}
use Rattle.asm86_line_reader.proofs.items.one.Goals as goal

pub returns-then-is_empty : goal.returns-then-is_empty
returns-then-is_empty c = c.bare.ensures ∙ of_operands c.args.operation c.args.tokens.now [] (in_none c.args.tokens.now (sym c.is_empty.ensures ∙ c.if-is_empty.true))

pub returns-in-Some-operand_of : goal.returns-in-Some-operand_of
returns-in-Some-operand_of c =
    let some : eqb (length c.args.tokens.now) 0 ≡ false = sym c.is_empty.ensures ∙ c.if-is_empty.false in
    c.with_one.ensures
    ∙ of_operands c.args.operation c.args.tokens.now _ (one_taken c.args.tokens.now _ some c.in_default.ensures (sym c.operand_of.ensures ∙ c.in-Some-operand_of.is))

pub returns-in-None : goal.returns-in-None
returns-in-None c =
    let some : eqb (length c.args.tokens.now) 0 ≡ false = sym c.is_empty.ensures ∙ c.if-is_empty.false in
    fails_with_m2 c.args.operation c.args.tokens.now M2 (one_fails c.args.tokens.now some c.in_default.ensures (sym c.operand_of.ensures ∙ c.in-None.is)) refl

pub returns-then-is_some : goal.returns-then-is_some
returns-then-is_some c =
    let some : eqb (length c.args.tokens.now) 0 ≡ false = sym c.is_empty.ensures ∙ c.if-is_empty.false in
    more_than_two c.args.operation c.args.tokens.now c.in-Some.first.now c.in-Some.rest.now c.cut-2.result some c.in-Some.ensures c.cut-2.ensures (sym c.is_some.ensures ∙ c.if-is_some.true)

pub returns-in-Some-Some : goal.returns-in-Some-Some
returns-in-Some-Some c =
    let some : eqb (length c.args.tokens.now) 0 ≡ false = sym c.is_empty.ensures ∙ c.if-is_empty.false in
    let last : slice_split is_comma c.in-Some.rest.now ≡ c.in-Some.rest.now ∷ [] = just_two c.in-Some.rest.now c.cut-2.result c.cut-2.ensures (sym c.is_some.ensures ∙ c.if-is_some.false) in
    c.with_two.ensures
    ∙ of_operands c.args.operation c.args.tokens.now _ (two_taken c.args.tokens.now c.in-Some.first.now c.in-Some.rest.now _ _ some c.in-Some.ensures last (sym c.operand_of-2.ensures ∙ c.in-Some-Some.is-0) (sym c.operand_of-3.ensures ∙ c.in-Some-Some.is-1))

-- the second operand is none
pub returns-in_default-2 : goal.returns-in_default-2
returns-in_default-2 c =
    let some : eqb (length c.args.tokens.now) 0 ≡ false = sym c.is_empty.ensures ∙ c.if-is_empty.false in
    let last : slice_split is_comma c.in-Some.rest.now ≡ c.in-Some.rest.now ∷ [] = just_two c.in-Some.rest.now c.cut-2.result c.cut-2.ensures (sym c.is_some.ensures ∙ c.if-is_some.false) in
    fails_with_m2 c.args.operation c.args.tokens.now M2 (second_fails c.args.tokens.now c.in-Some.first.now c.in-Some.rest.now _ some c.in-Some.ensures last (sym c.operand_of-2.ensures ∙ c.in_default-2.is-0) (sym c.operand_of-3.ensures ∙ c.in_default-2.is-1)) refl

-- the first operand is none
pub returns-in_default-2-2 : goal.returns-in_default-2-2
returns-in_default-2-2 c =
    let some : eqb (length c.args.tokens.now) 0 ≡ false = sym c.is_empty.ensures ∙ c.if-is_empty.false in
    fails_with_m2 c.args.operation c.args.tokens.now M2 (first_of_two_fails c.args.tokens.now c.in-Some.first.now c.in-Some.rest.now some c.in-Some.ensures (sym c.operand_of-2.ensures ∙ c.in_default-2.is-0)) refl
