-- The walk through statements that go on.
use Rattle.std.proofs.Common.{◌≡◌, true, List, [], ◌∷◌, ◌++◌, refl, ◌∙◌}
use Rattle.std.specs.Prelude.{Result}
use Rattle.std.proofs.lemmas.Bool.{false≢true}
use Rattle.i86.specs.declared.Instr86.{Instr86}
use Rattle.i86.specs.declared.Instr86.TheVariants.{MovSsAx, Jcc, JmpNear, JmpShort, JmpBx, CallNear, Ret, Int224, InAl, OutAl}
use Rattle.asm86_line_types.specs.declared.line.Stmt86.{Stmt86}
use Rattle.asm86_line_types.specs.declared.line.Stmt86.TheVariants.{Run, MovOffset}
use Rattle.sym_block_def.specs.declared.reason.Reason.{Reason}
use Rattle.sym_block_def.specs.Outcome.{Outcome}
use Rattle.sym_block_def.specs.Symbolic86.{Symbolic86, effect86, with_reg16, offset_term}
use Rattle.sym_block_def.specs.Walk86.{Surroundings, met, run_by, walk_through}
use Rattle.templates_law.specs.Match.Exits.{goes_on, room_for, StatementsArePassed}

run_on : (w : Surroundings) (on : Symbolic86 → List Stmt86 → Result Outcome Reason) (rest : List Stmt86) (t : Symbolic86) (i : Instr86) → goes_on i ≡ true → run_by w on rest t i ≡ on (effect86 t i) rest
run_on w on rest t Ret e = absurd (false≢true e)
run_on w on rest t JmpBx e = absurd (false≢true e)
run_on w on rest t Int224 e = absurd (false≢true e)
run_on w on rest t (InAl port) e = absurd (false≢true e)
run_on w on rest t (OutAl port) e = absurd (false≢true e)
run_on w on rest t MovSsAx e = absurd (false≢true e)
run_on w on rest t (Jcc j d) e = absurd (false≢true e)
run_on w on rest t (JmpNear d) e = absurd (false≢true e)
run_on w on rest t (JmpShort d) e = absurd (false≢true e)
run_on w on rest t (CallNear d) e = absurd (false≢true e)
run_on w on rest t i e = refl

pub passes : StatementsArePassed
passes w [] rest room t h = refl
passes w (Run i ∷ xs) rest room t h =
    run_on w (λ u ys. walk_through w (room_for xs room) (met w ys) u) (xs ++ rest) t i h.0
    ∙ passes w xs rest room (effect86 t i) h.1
passes w (MovOffset r l ∷ xs) rest room t h = passes w xs rest room (with_reg16 t r (offset_term l)) h.1
passes w (x ∷ xs) rest room t h = absurd (false≢true h.0)
