-- The runtime: its statements stand in the text one after the other, and are steps of the machine.
use Rattle.std.proofs.Common.{◌≡◌, ◌≢◌, ℕ, suc, ◌+◌, ◌<◌, ◌==◌, true, false, cond, List, ◌∷◌, ◌++◌, Option, Some, refl, sym, ap, ◌∙◌, arith}
use Rattle.std.specs.Prelude.{bit_or}
use Rattle.std.specs.Int.Bits.{or_self}
use Rattle.i86.specs.declared.Reg8.TheVariants.{Al, Cl, Dl, Bl, Ch, Bh}
use Rattle.i86.specs.declared.Operand8.TheVariants.{Reg as Reg_8}
use Rattle.i86.specs.declared.Jump.TheVariants.{Jz}
use Rattle.i86.specs.declared.Instr86.{Instr86}
use Rattle.i86.specs.declared.Instr86.TheVariants.{MovReg8, MovNum8, OrClCl, Jcc, Ret, Int224}
use Rattle.i86.specs.Code.{ReadsCode}
use Rattle.dialogue.specs.Run.{Ran, choice_at}
use Rattle.dialogue.specs.Words.{wrap}
use Rattle.asm86_line_types.specs.declared.line.Label.TheVariants.{Sys, End}
use Rattle.asm86_line_types.specs.declared.line.Stmt86.TheVariants.{Mark, Run, Jcc as JccTo}
use Rattle.asm86_line_types.specs.declared.line.Line86.{Line86}
use Rattle.asm86_line_types.specs.Layout.{sizes_of, offset_of, place_of, distance8}
use Rattle.asm86_line_types.specs.Image.{Assembles, image_of, statements}
use Rattle.cpu86.specs.State.{State86}
use Rattle.cpu86.specs.Effect.{distance, jump_by, effect}
use Rattle.cpu86.specs.Call.{call_system}
use Rattle.cpu86.specs.Step.{step86}
use Rattle.templates.specs.Plain.{runtime, call_code, end_code}
use Rattle.simulation_def.specs.Runtime.{HasRuntime, answers_moved, CallsSystem, EndsAfter, RuntimesRun86}
use Rattle.sym_sound.proofs.Machine86.Words.{eq_false}
use Rattle.sym_sound.proofs.Machine86.Positions.{Position, position_next, position_moved, offsets_are, label_here, ends_within}
use Rattle.sym_sound.proofs.Machine86.Stepping.{past, steps_as, steps_on}

number_is : (x y : ℕ) → ◌≡◌ {A = Option ℕ} (Some x) (Some y) → x ≡ y
number_is x y e = cc

-- the jump over the call lands 7 bytes on
seven_on : (from : ℕ) → from < 0x10000 → distance8 from (from + 7) ≡ 7
seven_on from lt = omega (arith, lt)

is_zero : (n : ℕ) → n ≡ 0 → (n == 0) ≡ true
is_zero n e = ap (λ k. k == 0) e

is_not_zero : (n : ℕ) → n ≢ 0 → (n == 0) ≡ false
is_not_zero n e = eq_false n 0 e

module _ (lines : List Line86) (a : Assembles lines) (fetch : ℕ → Option Instr86) (reads : ReadsCode (image_of lines).code fetch) (h : HasRuntime (statements lines)) (choices : List ℕ) where
  abbrev here : ℕ
  here = sizes_of h.before

  -- where its statements stand
  starts : Position (statements lines) (runtime ++ h.after) (sizes_of h.before)
  starts = record { before = h.before; is = h.is; at_is = refl }

  call_at : Position (statements lines) (call_code ++ (Mark End ∷ (end_code ++ h.after))) (sizes_of h.before)
  call_at = position_moved (statements lines) _ (sizes_of h.before + 0) (sizes_of h.before) (omega arith) (position_next (statements lines) (Mark Sys) _ (sizes_of h.before) starts)

  jump_at : Position (statements lines) (JccTo Jz End ∷ (Run Int224 ∷ (Run (MovReg8 Bl (Reg_8 Al)) ∷ (Run (MovReg8 Ch (Reg_8 Bh)) ∷ (Run Ret ∷ (Mark End ∷ (end_code ++ h.after))))))) (sizes_of h.before + 2)
  jump_at = position_next (statements lines) (Run OrClCl) _ (sizes_of h.before) call_at

  system_at : Position (statements lines) (Run Int224 ∷ (Run (MovReg8 Bl (Reg_8 Al)) ∷ (Run (MovReg8 Ch (Reg_8 Bh)) ∷ (Run Ret ∷ (Mark End ∷ (end_code ++ h.after)))))) (sizes_of h.before + 2 + 2)
  system_at = position_next (statements lines) (JccTo Jz End) _ (sizes_of h.before + 2) jump_at

  back_at : Position (statements lines) (Run (MovReg8 Bl (Reg_8 Al)) ∷ (Run (MovReg8 Ch (Reg_8 Bh)) ∷ (Run Ret ∷ (Mark End ∷ (end_code ++ h.after))))) (sizes_of h.before + 2 + 2 + 2)
  back_at = position_next (statements lines) (Run Int224) _ (sizes_of h.before + 2 + 2) system_at

  second_at : Position (statements lines) (Run (MovReg8 Ch (Reg_8 Bh)) ∷ (Run Ret ∷ (Mark End ∷ (end_code ++ h.after)))) (sizes_of h.before + 2 + 2 + 2 + 2)
  second_at = position_next (statements lines) (Run (MovReg8 Bl (Reg_8 Al))) _ (sizes_of h.before + 2 + 2 + 2) back_at

  return_at : Position (statements lines) (Run Ret ∷ (Mark End ∷ (end_code ++ h.after))) (sizes_of h.before + 2 + 2 + 2 + 2 + 2)
  return_at = position_next (statements lines) (Run (MovReg8 Ch (Reg_8 Bh))) _ (sizes_of h.before + 2 + 2 + 2 + 2) second_at

  mark_at : Position (statements lines) (Mark End ∷ (end_code ++ h.after)) (sizes_of h.before + 11)
  mark_at = position_moved (statements lines) _ (sizes_of h.before + 2 + 2 + 2 + 2 + 2 + 1) (sizes_of h.before + 11) (omega arith) (position_next (statements lines) (Run Ret) _ (sizes_of h.before + 2 + 2 + 2 + 2 + 2) return_at)

  end_at : Position (statements lines) (end_code ++ h.after) (sizes_of h.before + 11)
  end_at = position_moved (statements lines) _ (sizes_of h.before + 11 + 0) (sizes_of h.before + 11) (omega arith) (position_next (statements lines) (Mark End) _ (sizes_of h.before + 11) mark_at)

  sys_is : offset_of (statements lines) Sys ≡ Some (sizes_of h.before)
  sys_is = label_here (statements lines) _ Sys (sizes_of h.before) a.once starts

  end_is : offset_of (statements lines) End ≡ Some (sizes_of h.before + 11)
  end_is = label_here (statements lines) _ End (sizes_of h.before + 11) a.once mark_at

  end_place : place_of (statements lines) End ≡ sizes_of h.before + 11
  end_place = ap (λ o. Rattle.std.specs.Prelude.unwrap_or o 0) end_is

  -- from X_END: two steps, and the end
  ends_at : (used : ℕ) (s : State86) → s.ss ≡ s.ds → s.ip ≡ sizes_of h.before + 11 → EndsAfter fetch choices used 2 s
  ends_at used s seg at =
      let first = position_moved (statements lines) _ (sizes_of h.before + 11) s.ip (sym at) end_at in
      let second = position_next (statements lines) (Run (MovNum8 Cl 0)) _ s.ip first in
      let third = position_next (statements lines) (Run (MovNum8 Dl 0)) _ (s.ip + 2) second in
      let u : State86 = effect (MovNum8 Cl 0) (past s 2) (choice_at choices used) in
      let v : State86 = effect (MovNum8 Dl 0) (past u 2) (choice_at choices (used + 1)) in
      record {
        last = v;
        runs = (u, steps_on lines a fetch reads (MovNum8 Cl 0) _ s _ first refl seg, (v, steps_on lines a fetch reads (MovNum8 Dl 0) _ u _ second refl seg, refl));
        ends = λ c. steps_as lines a fetch reads (Run Int224) _ v Int224 c third refl refl seg;
      }

  -- the test of the function
  or_steps : (used : ℕ) (s : State86) → s.ss ≡ s.ds → s.ip ≡ sizes_of h.before → step86 fetch s (choice_at choices used) ≡ Ran (effect OrClCl (past s 2) (choice_at choices used))
  or_steps used s seg at = steps_on lines a fetch reads OrClCl _ s _ (position_moved (statements lines) _ (sizes_of h.before) s.ip (sym at) call_at) refl seg

  -- a function other than 0
  calls_at : (used : ℕ) (s : State86) → s.ss ≡ s.ds → s.ip ≡ sizes_of h.before → s.regs.cl ≢ 0 → CallsSystem fetch choices used s
  calls_at used s seg at some =
      let c = choice_at choices used in
      let u : State86 = effect OrClCl (past s 2) c in
      let cl_is : bit_or s.regs.cl s.regs.cl ≡ s.regs.cl = or_self s.regs.cl in
      let second = position_moved (statements lines) _ (sizes_of h.before + 2) (s.ip + 2) (let e : sizes_of h.before + 2 ≡ s.ip + 2 = omega (arith, at) in e) jump_at in
      let not_taken : (bit_or s.regs.cl s.regs.cl == 0) ≡ false = ap (λ n. n == 0) cl_is ∙ is_not_zero s.regs.cl some in
      let jumped : step86 fetch u (choice_at choices (suc used)) ≡ Ran (past u 2) =
      steps_as lines a fetch reads (JccTo Jz End) _ u (Jcc Jz (distance8 (s.ip + 2 + 2) (place_of (statements lines) End))) _ second refl refl seg
      ∙ ap (λ b. Ran (cond b (jump_by (past u 2) (distance (distance8 (s.ip + 2 + 2) (place_of (statements lines) End)))) (past u 2))) not_taken in
      let v : State86 = past u 2 in
      let third = position_moved (statements lines) _ (sizes_of h.before + 2 + 2) (s.ip + 2 + 2) (let e : sizes_of h.before + 2 + 2 ≡ s.ip + 2 + 2 = omega (arith, at) in e) system_at in
      record {
        asking = v;
        runs = (u, or_steps used s seg at, (v, jumped, refl));
        back = s.ip + 2 + 2 + 2;
        calls = λ q. steps_as lines a fetch reads (Run Int224) _ v Int224 q third refl refl seg ∙ ap (λ n. call_system (record s { regs = record (s.regs) { cl = n }; flags = v.flags; ip = s.ip + 2 + 2 + 2 }) q) cl_is;
        returns = λ later t is seg' at'.
            let back = position_moved (statements lines) _ (sizes_of h.before + 2 + 2 + 2) t.ip (let e : sizes_of h.before + 2 + 2 + 2 ≡ t.ip = omega (arith, at, at') in e) back_at in
            let next = position_next (statements lines) (Run (MovReg8 Bl (Reg_8 Al))) _ t.ip back in
            let last = position_next (statements lines) (Run (MovReg8 Ch (Reg_8 Bh))) _ (t.ip + 2) next in
            let x : State86 = effect (MovReg8 Bl (Reg_8 Al)) (past t 2) (choice_at choices later) in
            let y : State86 = effect (MovReg8 Ch (Reg_8 Bh)) (past x 2) (choice_at choices (suc later)) in
            (x, steps_on lines a fetch reads (MovReg8 Bl (Reg_8 Al)) _ t _ back refl seg', (y, steps_on lines a fetch reads (MovReg8 Ch (Reg_8 Bh)) _ x _ next refl seg', (answers_moved t, steps_as lines a fetch reads (Run Ret) _ y Ret (choice_at choices (suc (suc later))) last refl refl seg', refl)));
      }

  -- the function 0
  resets_at : (used : ℕ) (s : State86) → s.ss ≡ s.ds → s.ip ≡ sizes_of h.before → s.regs.cl ≡ 0 → EndsAfter fetch choices used 4 s
  resets_at used s seg at none =
      let c = choice_at choices used in
      let u : State86 = effect OrClCl (past s 2) c in
      let cl_is : bit_or s.regs.cl s.regs.cl ≡ s.regs.cl = or_self s.regs.cl in
      let second = position_moved (statements lines) _ (sizes_of h.before + 2) (s.ip + 2) (let e : sizes_of h.before + 2 ≡ s.ip + 2 = omega (arith, at) in e) jump_at in
      let within = ends_within (statements lines) (JccTo Jz End) _ (s.ip + 2) second a.small in
      let place : place_of (statements lines) End ≡ s.ip + 2 + 2 + 7 = end_place ∙ (let e : sizes_of h.before + 11 ≡ s.ip + 2 + 2 + 7 = omega (arith, at) in e) in
      let seven : distance8 (s.ip + 2 + 2) (place_of (statements lines) End) ≡ 7 = ap (distance8 (s.ip + 2 + 2)) place ∙ seven_on (s.ip + 2 + 2) within in
      let taken : (bit_or s.regs.cl s.regs.cl == 0) ≡ true = ap (λ n. n == 0) cl_is ∙ is_zero s.regs.cl none in
      let last_within = ends_within (statements lines) (Run (MovNum8 Cl 0)) _ (sizes_of h.before + 11) end_at a.small in
      let lands : wrap (s.ip + 2 + 2 + 7) ≡ sizes_of h.before + 11 = omega (arith, at, last_within) in
      let v : State86 = record u { ip = sizes_of h.before + 11 } in
      let jumped : step86 fetch u (choice_at choices (suc used)) ≡ Ran v =
      steps_as lines a fetch reads (JccTo Jz End) _ u (Jcc Jz (distance8 (s.ip + 2 + 2) (place_of (statements lines) End))) _ second refl refl seg
      ∙ ap (λ b. Ran (cond b (jump_by (past u 2) (distance (distance8 (s.ip + 2 + 2) (place_of (statements lines) End)))) (past u 2))) taken
      ∙ ap (λ n. Ran (jump_by (past u 2) (distance n))) seven
      ∙ ap (λ n. Ran (record u { ip = n })) lands in
      let e = ends_at (suc (suc used)) v seg refl in
      record { last = e.last; runs = (u, or_steps used s seg at, (v, jumped, e.runs)); ends = e.ends }

pub runtimes_run : RuntimesRun86
runtimes_run lines fetch choices used s a reads h is seg = record {
  calls = λ at some. calls_at lines a fetch reads h choices used s seg (number_is s.ip (sizes_of h.before) (sym at ∙ offsets_are lines Sys ∙ sys_is lines a fetch reads h choices)) some;
  resets = λ at none. resets_at lines a fetch reads h choices used s seg (number_is s.ip (sizes_of h.before) (sym at ∙ offsets_are lines Sys ∙ sys_is lines a fetch reads h choices)) none;
  ends = λ at. ends_at lines a fetch reads h choices used s seg (number_is s.ip (sizes_of h.before + 11) (sym at ∙ offsets_are lines End ∙ end_is lines a fetch reads h choices));
}
