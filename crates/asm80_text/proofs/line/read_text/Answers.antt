use Rattle.std.proofs.Common.{◌∙◌, refl, sym}
use Rattle.asm80_text.specs.Line.{has_reserved_label, is_deep, reserved, faulty, sound, deep, malformed, formed}
use Rattle.asm80_text.proofs.Several.{any_target}
use Rattle.asm80_text.proofs.line.read_text.Goals as goal

pub returns-then-some_has_reserved_label-clause-value : goal.returns-then-some_has_reserved_label-clause-value
returns-then-some_has_reserved_label-clause-value g c = (refl, refl, reserved (sym (any_target (has_reserved_label g.N.Notation.spelling) c.args.parts.now) ∙ sym c.some_has_reserved_label.ensures ∙ c.if-some_has_reserved_label.true))

pub returns-in-Some-clause-value : goal.returns-in-Some-clause-value
returns-in-Some-clause-value g c = (refl, refl, rw c.in-Some.is (faulty (sym (any_target (has_reserved_label g.N.Notation.spelling) c.args.parts.now) ∙ sym c.some_has_reserved_label.ensures ∙ c.if-some_has_reserved_label.false)))

pub returns-then-some_is_deep-clause-value : goal.returns-then-some_is_deep-clause-value
returns-then-some_is_deep-clause-value g c = (
  refl,
  refl,
  rw c.in_default.is (sound (sym (any_target (has_reserved_label g.N.Notation.spelling) c.args.parts.now) ∙ sym c.some_has_reserved_label.ensures ∙ c.if-some_has_reserved_label.false)
      (deep (sym (any_target is_deep c.args.parts.now) ∙ sym c.some_is_deep.ensures ∙ c.if-some_is_deep.true))),
)

pub returns-in-Ok-clause-value : goal.returns-in-Ok-clause-value
returns-in-Ok-clause-value g c =
    let h = c.in-Ok.ensures.value in (
      h.0,
      h.1,
      rw c.in_default.is (sound (sym (any_target (has_reserved_label g.N.Notation.spelling) c.args.parts.now) ∙ sym c.some_has_reserved_label.ensures ∙ c.if-some_has_reserved_label.false)
          (formed (sym (any_target is_deep c.args.parts.now) ∙ sym c.some_is_deep.ensures ∙ c.if-some_is_deep.false) h.2)),
    )

pub returns-in-Malformed-clause-value : goal.returns-in-Malformed-clause-value
returns-in-Malformed-clause-value g c =
    let h = rw c.in-Malformed.is at c.in-Err.ensures.value in (
      refl,
      h.0,
      rw c.in_default.is (sound (sym (any_target (has_reserved_label g.N.Notation.spelling) c.args.parts.now) ∙ sym c.some_has_reserved_label.ensures ∙ c.if-some_has_reserved_label.false)
          (malformed (sym (any_target is_deep c.args.parts.now) ∙ sym c.some_is_deep.ensures ∙ c.if-some_is_deep.false) h.1)),
    )
