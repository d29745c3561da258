use Rattle.std.proofs.Common.{◌≡◌, ◌⊎◌, inl, inr, ap, sym}
use Rattle.i86.specs.declared.Reg16.{Reg16}
use Rattle.i86.specs.declared.Rotate.{Rotate}
use Rattle.i86.specs.declared.Rotate.TheVariants.{Rol, Ror}
use Rattle.i86.specs.declared.Instr86.TheVariants.{Rotate16}
use Rattle.sym_terms.specs.Term.{Unknown}
use Rattle.sym_block_def.specs.Symbolic86.{Symbolic86, with_cf, with_reg16, rotate16}
use Rattle.sym_micro.specs.Machine.{as86}
use Rattle.sym_micro.specs.Stands.{machine_of}
use Rattle.sym_step.proofs.Seen86.{of_instr, of_state}
use Rattle.sym_step.proofs.arithmetic86.rotate_word.Goals as goal

not_through_carry : (s : Symbolic86) (kind : Rotate) (on : Reg16) → (kind ≡ Rol) ⊎ (kind ≡ Ror) → with_cf (with_reg16 s on Unknown) Unknown ≡ rotate16 s kind on
not_through_carry s kind on (inl is) = ap (λ k. rotate16 s k on) (sym is)
not_through_carry s kind on (inr is) = ap (λ k. rotate16 s k on) (sym is)

pub returns-in-Rcl : goal.returns-in-Rcl
returns-in-Rcl c = of_instr (ap (λ kind. Rotate16 kind c.args.on) c.in-Rcl.is) c.perform.ensures.on_86

pub returns-in-Rcr : goal.returns-in-Rcr
returns-in-Rcr c = of_instr (ap (λ kind. Rotate16 kind c.args.on) c.in-Rcr.is) c.perform-in-Rcr.ensures.on_86

pub returns-in-Rol : goal.returns-in-Rol
returns-in-Rol c = of_state (not_through_carry (as86 (machine_of c.args.terms.now c.args.run.now)) c.args.kind c.args.on c.in-Rol.is) c.perform-in-Rol.ensures.on_86
