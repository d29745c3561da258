use Rattle.std.proofs.Common.{◌≡◌, ◌⊎◌, ℕ, inl, inr, ap, sym}
use Rattle.asm86_line_types.specs.declared.line.Label.{Label}
use Rattle.asm86_line_types.specs.declared.line.Label.TheVariants.{Skip, User, Sys}
use Rattle.sym_terms.specs.Term.{Unknown}
use Rattle.sym_block_def.specs.Symbolic86.{with_reg16, offset_term}
use Rattle.sym_micro.specs.Machine.{as86}
use Rattle.sym_micro.specs.Stands.{machine_of}
use Rattle.sym_step.proofs.Seen86.{of_state}
use Rattle.sym_step.proofs.steps86.offset.Goals as goal

no_code : (label : Label) → ((a : ℕ) × (label ≡ Skip a)) ⊎ (((a : ℕ) × (label ≡ User a)) ⊎ (label ≡ Sys)) → Unknown ≡ offset_term label
no_code label (inl is) = ap offset_term (sym is.1)
no_code label (inr (inl is)) = ap offset_term (sym is.1)
no_code label (inr (inr is)) = ap offset_term (sym is)

pub returns-in-At : goal.returns-in-At
returns-in-At c = of_state (ap (λ l. with_reg16 (as86 (machine_of c.args.terms.now c.args.run.now)) c.args.to (offset_term l)) (sym c.in-At.is)) c.move_code.ensures.on_86

pub returns-in-End : goal.returns-in-End
returns-in-End c = of_state (ap (λ l. with_reg16 (as86 (machine_of c.args.terms.now c.args.run.now)) c.args.to (offset_term l)) (sym c.in-End.is)) c.move_code-in-End.ensures.on_86

pub returns-in-Skip : goal.returns-in-Skip
returns-in-Skip c = of_state (ap (with_reg16 (as86 (machine_of c.args.terms.now c.args.run.now)) c.args.to) (no_code c.args.label c.in-Skip.is)) c.move_word.ensures.on_86

pub move_code-requires : goal.move_code-requires
move_code-requires c = c.requires

pub move_code-requires-in-End : goal.move_code-requires-in-End
move_code-requires-in-End c = c.requires

pub move_word-requires : goal.move_word-requires
move_word-requires c = c.requires
