use Rattle.std.proofs.Common.{◌≡◌, ℕ, List, refl, ap, sym, ◌∙◌, inl, inr}
use Rattle.std.specs.Str.{bytes_eq}
use Rattle.zilog80.specs.declared.class.Class.{Class as ReadClass}
use Rattle.zilog80.specs.declared.class.Class.TheVariants as ClassIs
use Rattle.zilog80.specs.Operands.{registers, pairs, stack_pairs, nothing_if, of_name}
use Rattle.zilog80.specs.Read.{class_of}
use Rattle.zilog80.proofs.class.Class.of_name.Goals as goal

pub returns-in-Is : goal.returns-in-Is
returns-in-Is c = λ a. c.nothing_if.ensures a ∙ ap nothing_if (c.eq.ensures ∙ ap (λ (exact : List ℕ). bytes_eq exact c.args.name.now) c.as_bytes.ensures.value) ∙ ap (λ (k : ReadClass). of_name (class_of k) c.args.name.now) (sym c.in-Is.is)

pub returns-in-Register : goal.returns-in-Register
unfolding registers
returns-in-Register c = λ a.
    let class : of_name (class_of ClassIs.Register) c.args.name.now ≡ of_name (class_of c.args.self) c.args.name.now = elim c.in-Register.is [
      | inl is ↦ ap (λ (k : ReadClass). of_name (class_of k) c.args.name.now) (sym is)
      | inr is ↦ ap (λ (k : ReadClass). of_name (class_of k) c.args.name.now) (sym is)
    ] in
    c.renamed.ensures registers a refl ∙ class

pub returns-in-Pair : goal.returns-in-Pair
unfolding pairs
returns-in-Pair c = λ a. c.renamed-in-Pair.ensures pairs a refl ∙ ap (λ (k : ReadClass). of_name (class_of k) c.args.name.now) (sym c.in-Pair.is)

pub returns-in-StackPair : goal.returns-in-StackPair
unfolding stack_pairs
returns-in-StackPair c = λ a. c.renamed-in-StackPair.ensures stack_pairs a refl ∙ ap (λ (k : ReadClass). of_name (class_of k) c.args.name.now) (sym c.in-StackPair.is)
