-- One step of the 8086 at a position of a text.
use Rattle.std.proofs.Common.{◌≡◌, ℕ, ◌+◌, ◌<◌, ◌≤◌, ◌==◌, Bool, true, false, cond, not, List, ◌∷◌, length, Option, Some, refl, ap, subst, ◌∙◌, arith}
use Rattle.std.specs.Prelude.{◌&&◌, nat_lt, nat_le}
use Rattle.std.proofs.lemmas.Bool.{and_parts}
use Rattle.std.proofs.lemmas.Bool.Decides.{nat_tests}
use Rattle.i86.specs.declared.Reg16.{Reg16}
use Rattle.i86.specs.declared.Reg16.TheVariants.{Ax, Cx, Dx, Bx, Sp, Si}
use Rattle.i86.specs.declared.Operand8.{Operand8}
use Rattle.i86.specs.declared.Operand8.TheVariants.{Reg, Mem}
use Rattle.i86.specs.declared.Instr86.{Instr86}
use Rattle.i86.specs.declared.Instr86.TheVariants.{MovReg8, MovMem8, MovAlDirect, MovDirectAl, MovNum8, MovNum16, MovMemNum, MovReg16, MovDirect16, MovAxDs, Alu, AluNum, OrClCl, Add16, Count8, Count16, Push, Pop, Xchg8, Xchg16, Rotate8, Rotate16, Not8, Daa, Sahf, Lahf, Cmc, Stc, Nop, Int224, InAl, OutAl}
use Rattle.i86.specs.Code.{HasBytes, ReadsCode}
use Rattle.i86.specs.Enc86.{enc86, reg_of_stack}
use Rattle.dialogue.specs.Run.{Ran, Stops}
use Rattle.dialogue.specs.Words.{wrap}
use Rattle.asm86_line_types.specs.declared.line.Stmt86.{Stmt86}
use Rattle.asm86_line_types.specs.declared.line.Line86.{Line86}
use Rattle.asm86_line_types.specs.Layout.{size_of, place_of, distance8, instr_of, enc_of, code_of}
use Rattle.asm86_line_types.specs.Image.{Assembles, image_of, statements, jump_reaches}
use Rattle.cpu86.specs.State.{State86, reg16, with16, with_operand8}
use Rattle.cpu86.specs.Effect.{distance, effect}
use Rattle.cpu86.specs.Call.{StackSegment}
use Rattle.cpu86.specs.Step.{uses_stack, act, act_from, act_at, step86}
use Rattle.sym_sound.proofs.Machine86.Words.{eq_true}
use Rattle.sym_sound.proofs.Machine86.Positions.{Position, stands_here, ends_within}
use Rattle.sym_sound.proofs.Machine86.Rows86.{goes_on}

-- where the next instruction is
abbrev pub past : State86 → ℕ → State86
past t size = record t { ip = t.ip + size }

-- an instruction acts where SS is DS
acts : (ip : ℕ) (i : Instr86) (s : State86) (choice : ℕ) → s.ss ≡ s.ds → act_from ip i s choice ≡ act i s choice
acts ip i s choice e = by_stack (uses_stack i)
  where
    same : (s.ss == s.ds) ≡ true
    same = eq_true s.ss s.ds e

    by_stack : (b : Bool) → cond (b && not (s.ss == s.ds)) (Stops (StackSegment ip)) (act i s choice) ≡ act i s choice
    by_stack true = ap (λ c. cond (not c) (Stops (StackSegment ip)) (act i s choice)) same
    by_stack false = refl

-- a short jump that reaches lands
pub short_lands : (from to : ℕ) → from < 0x10000 → to < 0x10000 → jump_reaches from to ≡ true → wrap (from + distance (distance8 from to)) ≡ to
short_lands from to hf ht e =
    let parts = and_parts (nat_le from (to + 128)) (nat_le to (from + 127)) e in
    let low : from ≤ to + 128 = at_most from (to + 128) parts.0 in
    let high : to ≤ from + 127 = at_most to (from + 127) parts.1 in
    by_sign (nat_lt (distance8 from to) 128) refl low high
  where
    at_most : (a b : ℕ) → nat_le a b ≡ true → a ≤ b
    at_most a b h = grind (arith, nat_tests)

    by_sign : (b : Bool) → nat_lt (distance8 from to) 128 ≡ b → from ≤ to + 128 → to ≤ from + 127 → wrap (from + cond b (distance8 from to) (distance8 from to + 0xFF00)) ≡ to
    by_sign true h low high = let small : distance8 from to < 128 = grind (arith, nat_tests, h) in omega (arith, small, low, high, hf, ht)
    by_sign false h low high = let large : 128 ≤ distance8 from to = grind (arith, nat_tests, h) in omega (arith, large, low, high, hf, ht)

-- what goes on to the next instruction keeps ip
word_keeps_ip : (s : State86) (r : Reg16) (w : ℕ) → (with16 s r w).ip ≡ s.ip
word_keeps_ip s Ax w = refl
word_keeps_ip s Cx w = refl
word_keeps_ip s Dx w = refl
word_keeps_ip s Bx w = refl
word_keeps_ip s Sp w = refl
word_keeps_ip s Si w = refl

operand_keeps_ip : (s : State86) (o : Operand8) (n : ℕ) → (with_operand8 s o n).ip ≡ s.ip
operand_keeps_ip s (Reg r) n = refl
operand_keeps_ip s (Mem p) n = refl

pub keeps_ip : (i : Instr86) (s : State86) (choice : ℕ) → goes_on i ≡ true → (effect i s choice).ip ≡ s.ip
keeps_ip (MovReg8 r o) s choice g = refl
keeps_ip (MovMem8 p r) s choice g = refl
keeps_ip (MovAlDirect a) s choice g = refl
keeps_ip (MovDirectAl a) s choice g = refl
keeps_ip (MovNum8 r n) s choice g = refl
keeps_ip (MovNum16 r w) s choice g = word_keeps_ip s r w
keeps_ip (MovMemNum p n) s choice g = refl
keeps_ip (MovReg16 r o) s choice g = word_keeps_ip s r _
keeps_ip (MovDirect16 a r) s choice g = refl
keeps_ip MovAxDs s choice g = refl
keeps_ip (Alu op o) s choice g = refl
keeps_ip (AluNum op n) s choice g = refl
keeps_ip OrClCl s choice g = refl
keeps_ip (Add16 r q) s choice g = word_keeps_ip s r _
keeps_ip (Count8 c o) s choice g = operand_keeps_ip s o _
keeps_ip (Count16 c r) s choice g = word_keeps_ip s r _
keeps_ip (Push r) s choice g = refl
keeps_ip (Pop r) s choice g = word_keeps_ip (Rattle.cpu86.specs.Effect.with_pop s) (reg_of_stack r) _
keeps_ip (Xchg8 r q) s choice g = refl
keeps_ip (Xchg16 r q) s choice g = word_keeps_ip (with16 s r (reg16 s q)) q (reg16 s r) ∙ word_keeps_ip s r (reg16 s q)
keeps_ip (Rotate8 k r) s choice g = refl
keeps_ip (Rotate16 k r) s choice g = word_keeps_ip s r _
keeps_ip (Not8 r) s choice g = refl
keeps_ip Daa s choice g = refl
keeps_ip Sahf s choice g = refl
keeps_ip Lahf s choice g = refl
keeps_ip Cmc s choice g = refl
keeps_ip Stc s choice g = refl
keeps_ip Nop s choice g = refl
keeps_ip i s choice g = absurd (cc)

-- it only runs on
runs : (i : Instr86) (s : State86) (choice : ℕ) → goes_on i ≡ true → act i s choice ≡ Ran (effect i s choice)
runs Int224 s choice g = absurd (cc)
runs (InAl port) s choice g = absurd (cc)
runs (OutAl port) s choice g = absurd (cc)
runs i s choice g = refl

module _ (lines : List Line86) (a : Assembles lines) (fetch : ℕ → Option Instr86) (reads : ReadsCode (image_of lines).code fetch) where
  abbrev text : List Stmt86
  text = statements lines

  -- the step at a statement, by its instruction
  pub steps_as : (x : Stmt86) (rest : List Stmt86) (t : State86) (i : Instr86) (choice : ℕ) → Position (statements lines) (x ∷ rest) t.ip → instr_of (place_of (statements lines)) t.ip x ≡ Some i → length (enc86 i) ≡ size_of x → t.ss ≡ t.ds → step86 fetch t choice ≡ act i (past t (size_of x)) choice
  steps_as x rest t i choice p is size segments =
      let bytes = subst (λ o. HasBytes (code_of (statements lines)) t.ip (enc_of o)) is (stands_here (statements lines) x rest t.ip p) in
      let found : fetch t.ip ≡ Some i = (reads t.ip i).1 bytes in
      let within = ends_within (statements lines) x rest t.ip p a.small in
      let next : wrap (t.ip + length (enc86 i)) ≡ t.ip + size_of x = ap (λ n. wrap (t.ip + n)) size ∙ (let w : wrap (t.ip + size_of x) ≡ t.ip + size_of x = omega (arith, within) in w) in
      ap (λ o. act_at o t choice) found ∙ ap (λ n. act_from t.ip i (record t { ip = n }) choice) next ∙ acts t.ip i (past t (size_of x)) choice segments

  -- an instruction that goes on
  pub steps_on : (i : Instr86) (rest : List Stmt86) (t : State86) (choice : ℕ) → Position (statements lines) (Rattle.asm86_line_types.specs.declared.line.Stmt86.TheVariants.Run i ∷ rest) t.ip → goes_on i ≡ true → t.ss ≡ t.ds → step86 fetch t choice ≡ Ran (effect i (past t (length (enc86 i))) choice)
  steps_on i rest t choice p g segments = steps_as (Rattle.asm86_line_types.specs.declared.line.Stmt86.TheVariants.Run i) rest t i choice p refl refl segments ∙ runs i (past t (length (enc86 i))) choice g
