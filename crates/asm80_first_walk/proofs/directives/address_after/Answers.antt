use Rattle.std.proofs.Common.{◌≡◌, ◌∙◌, ◌+◌, ◌%◌, refl, Option, Some, None, arith}
use Rattle.asm80_types.specs.Tree.{Statement}
use Rattle.asm80_source_def.specs.declared.operation.Operation.{Operation}
use Rattle.asm80_source_def.specs.declared.operation.Operation.TheVariants.{Org, Ds}
use Rattle.asm80_source_def.specs.Walk.{Walk, address_by, size_by}
use Rattle.asm80_first_walk.proofs.directives.address_after.Goals as goal

plain : (w : Walk) (s : Statement) (o : Operation) → (o ≡ Org → ⊥) → (o ≡ Ds → ⊥) → (w.at + size_by s (Some o)) % 0x10000 ≡ address_by w s (Some o)
plain w s Org p q = absurd (p refl)
plain w s Ds p q = absurd (q refl)
plain w s o p q = refl

plain_some : (w : Walk) (s : Statement) (found : Option Operation) (o : Operation) → found ≡ Some o → (o ≡ Org → ⊥) → (o ≡ Ds → ⊥) → (w.at + size_by s found) % 0x10000 ≡ address_by w s found
plain_some w s found o e p q = rw e (plain w s o p q)

plain_none : (w : Walk) (s : Statement) (found : Option Operation) → found ≡ None → (w.at + size_by s found) % 0x10000 ≡ address_by w s found
plain_none w s found e = rw e refl

pub returns-in_default : goal.returns-in_default
returns-in_default c = λ w s a m k. omega (arith, a, c.size_of.ensures s k) ∙ plain_none w s c.args.operation c.in_default.is

pub returns-in_default-operation : goal.returns-in_default-operation
returns-in_default-operation c = λ w s a m k. omega (arith, a, c.size_of.ensures s k) ∙ plain_some w s c.args.operation c.in-Some.operation c.in-Some.is c.in_default-operation.not-Org c.in_default-operation.not-Ds
