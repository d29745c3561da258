-- From the start of an 8086 through the opening of a text to the label of 100H.
use Rattle.std.proofs.Common.{◌≡◌, ℕ, ◌+◌, false, cond, not, List, [], ◌∷◌, length, Option, Some, refl, ap, subst, ◌∙◌, arith}
use Rattle.std.specs.Prelude.{◌&&◌, ◌==◌}
use Rattle.i86.specs.declared.Reg16.TheVariants.{Sp, Si}
use Rattle.i86.specs.declared.StackReg.TheVariants.{Si as StackSi}
use Rattle.i86.specs.declared.Operand16.TheVariants.{Reg as Reg_16}
use Rattle.i86.specs.declared.Instr86.{Instr86}
use Rattle.i86.specs.declared.Instr86.TheVariants.{MovNum16, MovReg16, MovDirect16, MovAxDs, MovSsAx, Push}
use Rattle.i86.specs.Code.{ReadsCode, HasBytes}
use Rattle.i86.specs.Enc86.{enc86}
use Rattle.dialogue.specs.Run.{Stops, choice_at}
use Rattle.dialogue.specs.Words.{wrap}
use Rattle.asm86_line_types.specs.declared.line.Label.TheVariants.{At, End}
use Rattle.asm86_line_types.specs.declared.line.Stmt86.{Stmt86}
use Rattle.asm86_line_types.specs.declared.line.Stmt86.TheVariants.{Cseg, Mark, Run, MovOffset}
use Rattle.asm86_line_types.specs.declared.line.Line86.{Line86}
use Rattle.asm86_line_types.specs.Layout.{size_of, place_of, code_of, instr_of, enc_of}
use Rattle.asm86_line_types.specs.Image.{Assembles, image_of, statements}
use Rattle.asm80_types.specs.Program.{Program}
use Rattle.cpu86.specs.State.{State86}
use Rattle.cpu86.specs.Call.{StackSegment}
use Rattle.cpu86.specs.Effect.{effect}
use Rattle.cpu86.specs.Step.{uses_stack, act, act_from, act_at, step86, machine86}
use Rattle.simulation_def.specs.Steps.{RunsOn}
use Rattle.simulation_def.specs.Runs86.{offsets_of}
use Rattle.sym_sound.proofs.Machine86.Positions.{Position, position_next, offsets_are, label_here, stands_here, ends_within}
use Rattle.sym_sound.proofs.Machine86.Stepping.{past, steps_as}
use Rattle.sym_sound.proofs.Machine86.Words.{word_parts}
use Rattle.simulation_def.specs.Matches.{HasOpening}

module _ (p : Program) (lines : List Line86) (a : Assembles lines) (fetch : ℕ → Option Instr86) (reads : ReadsCode (image_of lines).code fetch) (opening : HasOpening p (statements lines)) (choices : List ℕ) (s : State86) (at_start : s.ip ≡ 0) where
  abbrev text : List Stmt86
  text = statements lines

  -- an instruction that does not use the stack acts wherever SS is
  free_step : (x : Stmt86) (rest : List Stmt86) (t : State86) (i : Instr86) (choice : ℕ) → Position (statements lines) (x ∷ rest) t.ip → instr_of (place_of (statements lines)) t.ip x ≡ Some i → length (enc86 i) ≡ size_of x → uses_stack i ≡ false → step86 fetch t choice ≡ act i (past t (size_of x)) choice
  free_step x rest t i choice q is size free =
      let bytes = subst (λ o. HasBytes (code_of (statements lines)) t.ip (enc_of o)) is (stands_here (statements lines) x rest t.ip q) in
      let found : fetch t.ip ≡ Some i = (reads t.ip i).1 bytes in
      let within = ends_within (statements lines) x rest t.ip q a.small in
      let next : wrap (t.ip + length (enc86 i)) ≡ t.ip + size_of x = ap (λ n. wrap (t.ip + n)) size ∙ (let w : wrap (t.ip + size_of x) ≡ t.ip + size_of x = omega (arith, within) in w) in
      ap (λ o. act_at o t choice) found ∙ ap (λ n. act_from t.ip i (record t { ip = n }) choice) next
      ∙ ap (λ b. cond (b && not (t.ss == t.ds)) (Stops (StackSegment t.ip)) (act i (past t (size_of x)) choice)) free

  abbrev c : ℕ → ℕ
  c k = choice_at choices k

  -- the states of the opening
  abbrev s1 : State86
  s1 = effect (MovNum16 Si p.top) (past s 3) (c 0)

  abbrev s2 : State86
  s2 = effect (MovDirect16 6 Si) (past s1 4) (c 1)

  abbrev s3 : State86
  s3 = effect MovAxDs (past s2 2) (c 2)

  abbrev s4 : State86
  s4 = effect MovSsAx (past s3 2) (c 3)

  abbrev s5 : State86
  s5 = effect (MovReg16 Sp (Reg_16 Si)) (past s4 2) (c 4)

  abbrev s6 : State86
  s6 = effect (MovNum16 Si (place_of (statements lines) End)) (past s5 3) (c 5)

  abbrev pub s7 : State86
  s7 = effect (Push StackSi) (past s6 1) (c 6)

  -- what stands behind each statement of it
  abbrev r7 : List Stmt86
  r7 = Mark (At 0x100) ∷ opening.rest

  abbrev r6 : List Stmt86
  r6 = Run (Push StackSi) ∷ r7

  abbrev r5 : List Stmt86
  r5 = MovOffset Si End ∷ r6

  abbrev r4 : List Stmt86
  r4 = Run (MovReg16 Sp (Reg_16 Si)) ∷ r5

  abbrev r3 : List Stmt86
  r3 = Run MovSsAx ∷ r4

  abbrev r2 : List Stmt86
  r2 = Run MovAxDs ∷ r3

  abbrev r1 : List Stmt86
  r1 = Run (MovDirect16 6 Si) ∷ r2

  abbrev r0 : List Stmt86
  r0 = Run (MovNum16 Si p.top) ∷ r1

  p0 : Position (statements lines) r0 s.ip
  p0 = record { before = Cseg ∷ []; is = opening.is; at_is = at_start }

  p1 : Position (statements lines) r1 (s.ip + 3)
  p1 = position_next (statements lines) (Run (MovNum16 Si p.top)) r1 s.ip p0

  p2 : Position (statements lines) r2 (s.ip + 3 + 4)
  p2 = position_next (statements lines) (Run (MovDirect16 6 Si)) r2 (s.ip + 3) p1

  p3 : Position (statements lines) r3 (s.ip + 3 + 4 + 2)
  p3 = position_next (statements lines) (Run MovAxDs) r3 (s.ip + 3 + 4) p2

  p4 : Position (statements lines) r4 (s.ip + 3 + 4 + 2 + 2)
  p4 = position_next (statements lines) (Run MovSsAx) r4 (s.ip + 3 + 4 + 2) p3

  p5 : Position (statements lines) r5 (s.ip + 3 + 4 + 2 + 2 + 2)
  p5 = position_next (statements lines) (Run (MovReg16 Sp (Reg_16 Si))) r5 (s.ip + 3 + 4 + 2 + 2) p4

  p6 : Position (statements lines) r6 (s.ip + 3 + 4 + 2 + 2 + 2 + 3)
  p6 = position_next (statements lines) (MovOffset Si End) r6 (s.ip + 3 + 4 + 2 + 2 + 2) p5

  p7 : Position (statements lines) r7 (s.ip + 3 + 4 + 2 + 2 + 2 + 3 + 1)
  p7 = position_next (statements lines) (Run (Push StackSi)) r7 (s.ip + 3 + 4 + 2 + 2 + 2 + 3) p6

  pub segments : s7.ss ≡ s7.ds
  segments = word_parts s.ds

  pub label : offsets_of lines (At 0x100) ≡ Some s7.ip
  label = offsets_are lines (At 0x100) ∙ label_here (statements lines) opening.rest (At 0x100) s7.ip a.once p7

  pub opens : RunsOn (machine86 fetch) choices 7 0 s s7
  opens = (
    s1,
    free_step (Run (MovNum16 Si p.top)) r1 s (MovNum16 Si p.top) (c 0) p0 refl refl refl,
    (
      s2,
      free_step (Run (MovDirect16 6 Si)) r2 s1 (MovDirect16 6 Si) (c 1) p1 refl refl refl,
      (
        s3,
        free_step (Run MovAxDs) r3 s2 MovAxDs (c 2) p2 refl refl refl,
        (
          s4,
          free_step (Run MovSsAx) r4 s3 MovSsAx (c 3) p3 refl refl refl,
          (
            s5,
            free_step (Run (MovReg16 Sp (Reg_16 Si))) r5 s4 (MovReg16 Sp (Reg_16 Si)) (c 4) p4 refl refl refl,
            (
              s6,
              free_step (MovOffset Si End) r6 s5 (MovNum16 Si (place_of (statements lines) End)) (c 5) p5 refl refl refl,
              (s7, steps_as lines a fetch reads (Run (Push StackSi)) r7 s6 (Push StackSi) (c 6) p6 refl refl segments, refl),
            ),
          ),
        ),
      ),
    ),
  )
