-- A source has an outcome, since its stream has one.
use Rattle.std.proofs.Common.{◌≡◌, ℕ, List, Option, Some, None, true, refl, subst}
use Rattle.asm80_types.specs.declared.fault.LineRule.{LineRule}
use Rattle.asm80_types.specs.declared.fault.ReadFault.{ReadFault}
use Rattle.asm80_types.specs.declared.fault.ReadFault.TheVariants.{Syntax}
use Rattle.asm80_types.specs.Tree.{Statement}
use Rattle.asm80_text.specs.Stream.{LinesGive, none_left, next, fails, StreamGives}
use Rattle.asm80_types.specs.Program.{Program, is_top}
use Rattle.asm80_source_def.specs.FirstFaults.{Refusal}
use Rattle.asm80_source_def.specs.Assembly.{refusal}
use Rattle.asm80_text.specs.Spelling.{Spelling}
use Rattle.asm80_source_def.specs.Source.{IsSource, IsNoSource, SourceRule, OfLine, OfProgram, faulty, refused}

-- a fault of lines is that of a rule on a line
abbrev IsOfLine : Option ReadFault → Type 0
IsOfLine None = Unit {0}
IsOfLine (Some fault) = (line : ℕ) × (rule : LineRule) × (fault ≡ Syntax line rule)

of_line : {spelling : Spelling} {n : ℕ} {lines : List (List ℕ)} {ss : List Statement} {f : Option ReadFault} → LinesGive spelling n lines ss f → IsOfLine f
of_line none_left = tt
of_line (next first later) = of_line later
of_line (fails {n = n} {r = r} first) = (n, r, refl)

module _ (spelling : Spelling) (bytes : List ℕ) (top : ℕ) (allowed : is_top top ≡ true)
    (found : (ss : List Statement) → StreamGives spelling bytes ss None → refusal ss top ≡ None → (p : Program) × IsSource (StreamGives spelling) bytes top p)
    (no_program : (p : Program) → IsSource (StreamGives spelling) bytes top p → ⊥) (no_rule : (line : ℕ) (rule : SourceRule) → IsNoSource (StreamGives spelling) bytes top line rule → ⊥) where
  by_refusal : (ss : List Statement) → StreamGives spelling bytes ss None → (o : Option Refusal) → refusal ss top ≡ o → ⊥
  by_refusal ss gives None e = let p = found ss gives e in no_program p.0 p.1
  by_refusal ss gives (Some x) e = no_rule x.0 (OfProgram x.1) (refused gives e)

  by_fault : (ss : List Statement) (f : Option ReadFault) → StreamGives spelling bytes ss f → IsOfLine f → ⊥
  by_fault ss None gives is = by_refusal ss gives (refusal ss top) refl
  by_fault ss (Some fault) gives is =
      no_rule is.0 (OfLine is.1) (faulty (subst (λ (x : ReadFault). StreamGives spelling bytes ss (Some x)) is.2 gives))

  pub never_without : (ss : List Statement) (f : Option ReadFault) → StreamGives spelling bytes ss f → ⊥
  never_without ss f gives = by_fault ss f gives (of_line gives.lines)
