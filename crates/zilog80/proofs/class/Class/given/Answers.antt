use Rattle.std.proofs.Common.{ap, sym, ◌∙◌}
use Rattle.std.specs.Prelude.{option_map}
use Rattle.zilog80.specs.declared.operand.Spelt.{Spelt as ReadSpelt}
use Rattle.zilog80.specs.Operands.{Name, AtName, of_name, of_name_at, operands}
use Rattle.zilog80.specs.Read.{class_of, given_by, spelt_of}
use Rattle.zilog80.proofs.class.Class.given.Goals as goal

pub returns-in-Name : goal.returns-in-Name
returns-in-Name c =
    ap (λ (x : ReadSpelt). option_map (given_by (spelt_of x)) c.of_name.result) c.in-Name.is
    ∙ c.of_name.ensures (Name c.in-Name.name) ∙ ap (of_name (class_of c.args.self)) c.as_slice.ensures.value
    ∙ ap (λ (x : ReadSpelt). operands (class_of c.args.self) (spelt_of x)) (sym c.in-Name.is)

pub returns-in-AtName : goal.returns-in-AtName
returns-in-AtName c =
    ap (λ (x : ReadSpelt). option_map (given_by (spelt_of x)) c.of_name_at.result) c.in-AtName.is
    ∙ c.of_name_at.ensures (AtName c.in-AtName.name) ∙ ap (of_name_at (class_of c.args.self)) c.as_slice-in-AtName.ensures.value
    ∙ ap (λ (x : ReadSpelt). operands (class_of c.args.self) (spelt_of x)) (sym c.in-AtName.is)
