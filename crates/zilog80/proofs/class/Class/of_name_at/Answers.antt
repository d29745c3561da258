use Rattle.std.proofs.Common.{◌≡◌, ℕ, List, refl, ap, sym, ◌∙◌, inl, inr}
use Rattle.std.specs.Str.{bytes_eq}
use Rattle.zilog80.specs.declared.class.Class.{Class as ReadClass}
use Rattle.zilog80.specs.declared.class.Class.TheVariants as ClassIs
use Rattle.zilog80.specs.Operands.{memory, indirects, nothing_if, of_name_at}
use Rattle.zilog80.specs.Read.{class_of}
use Rattle.zilog80.proofs.class.Class.of_name_at.Goals as goal

pub returns-in-At : goal.returns-in-At
returns-in-At c = λ a. c.nothing_if.ensures a ∙ ap nothing_if (c.eq.ensures ∙ ap (λ (exact : List ℕ). bytes_eq exact c.args.name.now) c.as_bytes.ensures.value) ∙ ap (λ (k : ReadClass). of_name_at (class_of k) c.args.name.now) (sym c.in-At.is)

pub returns-in-Memory : goal.returns-in-Memory
unfolding memory
returns-in-Memory c = λ a.
    let class : of_name_at (class_of ClassIs.Memory) c.args.name.now ≡ of_name_at (class_of c.args.self) c.args.name.now = elim c.in-Memory.is [
      | inl is ↦ ap (λ (k : ReadClass). of_name_at (class_of k) c.args.name.now) (sym is)
      | inr is ↦ ap (λ (k : ReadClass). of_name_at (class_of k) c.args.name.now) (sym is)
    ] in
    c.renamed.ensures memory a refl ∙ class

pub returns-in-Indirect : goal.returns-in-Indirect
unfolding indirects
returns-in-Indirect c = λ a. c.renamed-in-Indirect.ensures indirects a refl ∙ ap (λ (k : ReadClass). of_name_at (class_of k) c.args.name.now) (sym c.in-Indirect.is)
