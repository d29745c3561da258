-- Operations of the 8086: the numbers and flags that the machine has are values of the terms, whatever the choice gives.
use Rattle.std.proofs.Common.{◌≡◌, ℕ, ◌<◌, Bool, true, false, cond, List, refl, sym, subst, arith}
use Rattle.std.specs.Prelude.{◌||◌}
use Rattle.std.proofs.lemmas.Nat.{and_le_l, or_of_8, xor_of_8}
use Rattle.cells.specs.declared.Flags.{Flags}
use Rattle.cells.specs.declared.Part.{Part}
use Rattle.cells.specs.declared.Part.TheVariants.{S, Z, Ac, P, Cy}
use Rattle.cells.specs.Bits.{has_bit}
use Rattle.i80.specs.declared.Op.{Op}
use Rattle.i86.specs.declared.Reg8.{Reg8}
use Rattle.i86.specs.declared.Reg8.TheVariants.{Al, Cl, Dl, Bl, Ah, Ch, Dh, Bh}
use Rattle.i86.specs.declared.AluOp.{AluOp}
use Rattle.i86.specs.declared.AluOp.TheVariants.{Add as Add86, Or, Adc, Sbb, And, Sub as Sub86, Xor, Cmp}
use Rattle.base.specs.Arithmetic.{as_bit, borrow4}
use Rattle.base.specs.Operations.{result_of, flags_of}
use Rattle.base.proofs.Bytes.{bit_small}
use Rattle.cpu86.specs.State.{State86, Flags86}
use Rattle.cpu86.specs.Flags.{alu_result, alu_flags}
use Rattle.cpu86.specs.Effect.{set8, stores_result, alu_al as alu_al86}
use Rattle.sym_terms.specs.Term.{Term, Num, Alu, is_byte, is_bit, is_flag, leaves_flag, is_open}
use Rattle.sym_terms.specs.Making.{alu, flag}
use Rattle.sym_terms.specs.Values80.{flag_in}
use Rattle.sym_terms.specs.Values86.{Env86, Load86, Number, Result as ResultOf, MayBe, Val86}
use Rattle.sym_terms.specs.Laws.{IsMadeAs, MadeTermsKeepValues, MadeTermsHaveSorts}
use Rattle.sym_terms.proofs.Sorts.{leaves_open}
use Rattle.sym_block_def.specs.Outcome.{Held, with_flags_of, with_count_flags_of, with_flags_in}
use Rattle.sym_block_def.specs.Block80.{operation, carry_in, a_after, cleared}
use Rattle.sym_block_def.specs.Symbolic86.{Symbolic86, reg8_term, with_held, with_cf, op_of, operated, losing_flags}
use Rattle.simulation_def.specs.Runs86.{with_loads, FlagsHold86}
use Rattle.sym_sound.proofs.Machine86.Denoting.{Denotes, sets_byte, sets_flags}
use Rattle.sym_sound.proofs.Machine86.Words86.{HasSorts}

-- the machine's flags are such as the operation's flags may be: a flag of it that is not known is either
pub record MayHave (f : Flags) (g : Flags86) : Type 0 where
  pub s : MayBe f.s (as_bit g.sf)
  pub z : MayBe f.z (as_bit g.zf)
  pub ac : MayBe f.ac (as_bit g.af)
  pub p : MayBe f.p (as_bit g.pf)
  pub cy : MayBe f.cy (as_bit g.cf)

-- the carry that an operation takes
abbrev pub takes : AluOp → Bool → Bool
takes Adc c = c
takes Sbb c = c
takes op c = false

alu_result_is : (op : AluOp) (x y : ℕ) (c : Bool) → alu_result op x y c ≡ result_of (operation (op_of op)) x y (as_bit (takes op c))
alu_result_is Add86 x y c = refl
alu_result_is Or x y c = refl
alu_result_is Adc x y c = refl
alu_result_is Sbb x y c = refl
alu_result_is And x y c = refl
alu_result_is Sub86 x y c = refl
alu_result_is Xor x y c = refl
alu_result_is Cmp x y c = refl

alu_may : (op : AluOp) (x y : ℕ) (c : Bool) (choice : ℕ) → MayHave (flags_of (operation (op_of op)) x y (as_bit (takes op c))) (alu_flags op x y c choice)
alu_may Add86 x y c choice = record { s = refl; z = refl; ac = refl; p = refl; cy = refl }
alu_may Or x y c choice = record { s = refl; z = refl; ac = bit_small (has_bit choice 0); p = refl; cy = refl }
alu_may Adc x y c choice = record { s = refl; z = refl; ac = refl; p = refl; cy = refl }
alu_may Sbb x y c choice = record { s = refl; z = refl; ac = bit_small (borrow4 x y (as_bit c)); p = refl; cy = refl }
alu_may And x y c choice = record { s = refl; z = refl; ac = bit_small (has_bit choice 0); p = refl; cy = refl }
alu_may Sub86 x y c choice = record { s = refl; z = refl; ac = bit_small (borrow4 x y 0); p = refl; cy = refl }
alu_may Xor x y c choice = record { s = refl; z = refl; ac = bit_small (has_bit choice 0); p = refl; cy = refl }
alu_may Cmp x y c choice = record { s = refl; z = refl; ac = bit_small (borrow4 x y 0); p = refl; cy = refl }

alu_small : (op : AluOp) (x y : ℕ) (c : Bool) → x < 256 → y < 256 → alu_result op x y c < 256
alu_small Add86 x y c hx hy = omega arith
alu_small Or x y c hx hy = or_of_8 x y hx hy
alu_small Adc x y c hx hy = omega arith
alu_small Sbb x y c hx hy = omega arith
alu_small And x y c hx hy = omega (arith, and_le_l x y, hx)
alu_small Sub86 x y c hx hy = omega arith
alu_small Xor x y c hx hy = xor_of_8 x y hx hy
alu_small Cmp x y c hx hy = omega arith

-- an operation that leaves all flags, and its number
pub record Gives (e : Env86) (r : Term) (n : ℕ) (f : Flags) : Type 0 where
  pub result : Val86 e r (ResultOf n f)
  pub number : Val86 e r (Number n)
  pub sorted : (part : Part) → is_flag part ≡ true → IsMadeAs (leaves_flag part) r

-- the sorts and values of the carry that an operation takes
carry_sorted : (op : AluOp) (cy : Term) → IsMadeAs is_bit cy → IsMadeAs is_bit (carry_in (op_of op) cy)
carry_sorted Add86 cy m = (omega arith, refl)
carry_sorted Or cy m = (omega arith, refl)
carry_sorted Adc cy m = m
carry_sorted Sbb cy m = m
carry_sorted And cy m = (omega arith, refl)
carry_sorted Sub86 cy m = (omega arith, refl)
carry_sorted Xor cy m = (omega arith, refl)
carry_sorted Cmp cy m = (omega arith, refl)

carry_value : (e : Env86) (op : AluOp) (cy : Term) (c : Bool) → Val86 e cy (Number (as_bit c)) → Val86 e (carry_in (op_of op) cy) (Number (as_bit (takes op c)))
carry_value e Add86 cy c v = refl
carry_value e Or cy c v = refl
carry_value e Adc cy c v = v
carry_value e Sbb cy c v = v
carry_value e And cy c v = refl
carry_value e Sub86 cy c v = refl
carry_value e Xor cy c v = refl
carry_value e Cmp cy c v = refl

module _ (keep : MadeTermsKeepValues) (sorts : MadeTermsHaveSorts) where
  pub alu_gives : (e : Env86) (op : Op) (a b c : Term) (x y : ℕ) (k : Bool) → IsMadeAs is_byte a → IsMadeAs is_byte b → IsMadeAs is_bit c → Val86 e a (Number x) → Val86 e b (Number y) → Val86 e c (Number (as_bit k)) → Gives e (alu op a b c) (result_of op x y (as_bit k)) (flags_of op x y (as_bit k))
  alu_gives e op a b c x y k ma mb mc va vb vc =
      let n = result_of op x y (as_bit k) in
      let f = flags_of op x y (as_bit k) in
      let made = sorts.alu op a b c ma mb mc in
      record {
        result = (keep.on_8086 e).alu op a b c (ResultOf n f) ma mb mc (x, y, k, va, vb, vc, refl, refl);
        number = (keep.on_8086 e).alu op a b c (Number n) ma mb mc (f, (x, y, k, va, vb, vc, refl, refl));
        sorted = λ part h. (made.0, leaves_open (is_open a || (is_open b || is_open c)) (Alu op a b c) part h refl);
      }

  flag_value : (e : Env86) (part : Part) (r : Term) (n i : ℕ) (f : Flags) → Gives e r n f → is_flag part ≡ true → MayBe (flag_in f part) i → Val86 e (flag part r) (Number i)
  flag_value e part r n i f g h m = (keep.on_8086 e).flag part r (Number i) (g.sorted part h) (n, f, g.result, m)

  pub all_flags : (e : Env86) (r : Term) (x : Held) (n : ℕ) (f : Flags) (g : Flags86) → Gives e r n f → MayHave f g → FlagsHold86 e (with_flags_of r x) g
  all_flags e r x n f g d m = (flag_value e S r n (as_bit g.sf) f d refl m.s, flag_value e Z r n (as_bit g.zf) f d refl m.z, flag_value e Ac r n (as_bit g.af) f d refl m.ac, flag_value e P r n (as_bit g.pf) f d refl m.p, flag_value e Cy r n (as_bit g.cf) f d refl m.cy)

  pub count_flags : (e : Env86) (r : Term) (x : Held) (n : ℕ) (f : Flags) (g : Flags86) → Gives e r n f → MayBe f.s (as_bit g.sf) → MayBe f.z (as_bit g.zf) → MayBe f.ac (as_bit g.af) → MayBe f.p (as_bit g.pf) → Val86 e x.cy (Number (as_bit g.cf)) → FlagsHold86 e (with_count_flags_of r x) g
  count_flags e r x n f g d s z ac p v = (flag_value e S r n (as_bit g.sf) f d refl s, flag_value e Z r n (as_bit g.zf) f d refl z, flag_value e Ac r n (as_bit g.af) f d refl ac, flag_value e P r n (as_bit g.pf) f d refl p, v)

pub same_flags_of : (x : Symbolic86) (y : Held) (t : Term) (r : Reg8) → reg8_term (with_held x (with_flags_of t y)) r ≡ reg8_term (with_held x y) r
same_flags_of x y t Al = refl
same_flags_of x y t Cl = refl
same_flags_of x y t Dl = refl
same_flags_of x y t Bl = refl
same_flags_of x y t Ah = refl
same_flags_of x y t Ch = refl
same_flags_of x y t Dh = refl
same_flags_of x y t Bh = refl

pub same_count_flags : (x : Symbolic86) (y : Held) (t : Term) (r : Reg8) → reg8_term (with_held x (with_count_flags_of t y)) r ≡ reg8_term (with_held x y) r
same_count_flags x y t Al = refl
same_count_flags x y t Cl = refl
same_count_flags x y t Dl = refl
same_count_flags x y t Bl = refl
same_count_flags x y t Ah = refl
same_count_flags x y t Ch = refl
same_count_flags x y t Dh = refl
same_count_flags x y t Bh = refl

pub same_cy : (x : Symbolic86) (c : Term) (r : Reg8) → reg8_term (with_cf x c) r ≡ reg8_term x r
same_cy x c Al = refl
same_cy x c Cl = refl
same_cy x c Dl = refl
same_cy x c Bl = refl
same_cy x c Ah = refl
same_cy x c Ch = refl
same_cy x c Dh = refl
same_cy x c Bh = refl

pub same_lost : (x : Symbolic86) (r : Reg8) → reg8_term (losing_flags x) r ≡ reg8_term x r
same_lost x Al = refl
same_lost x Cl = refl
same_lost x Dl = refl
same_lost x Bl = refl
same_lost x Ah = refl
same_lost x Ch = refl
same_lost x Dh = refl
same_lost x Bh = refl

pub same_in : (x : Symbolic86) (y : Held) (t : Term) (r : Reg8) → reg8_term (with_held x (with_flags_in t y)) r ≡ reg8_term (with_held x y) r
same_in x y t Al = refl
same_in x y t Cl = refl
same_in x y t Dl = refl
same_in x y t Bl = refl
same_in x y t Ah = refl
same_in x y t Ch = refl
same_in x y t Dh = refl
same_in x y t Bh = refl

pub same_cleared : (x : Symbolic86) (y : Held) (r : Reg8) → reg8_term (with_held x (cleared y)) r ≡ reg8_term (with_held x (record y { a = Num 0 })) r
same_cleared x y Al = refl
same_cleared x y Cl = refl
same_cleared x y Dl = refl
same_cleared x y Bl = refl
same_cleared x y Ah = refl
same_cleared x y Ch = refl
same_cleared x y Dh = refl
same_cleared x y Bh = refl

module _ (keep : MadeTermsKeepValues) (sorts : MadeTermsHaveSorts) (e : Env86) (s0 : State86) where
  -- every operation but CMP puts its result into AL
  result_stored : (loads : List Load86) (x : Symbolic86) (s : State86) (op : AluOp) (r : Term) (n : ℕ) → Denotes e s0 loads x s → n < 256 → Val86 (with_loads e loads) r (Number n) → Denotes e s0 loads (with_held x (record (x.held) { a = a_after (op_of op) x.held.a r })) (set8 s Al (cond (stores_result op) n s.regs.al))
  result_stored loads x s Add86 r n d lt v = sets_byte e s0 loads x s Al r n d lt v
  result_stored loads x s Or r n d lt v = sets_byte e s0 loads x s Al r n d lt v
  result_stored loads x s Adc r n d lt v = sets_byte e s0 loads x s Al r n d lt v
  result_stored loads x s Sbb r n d lt v = sets_byte e s0 loads x s Al r n d lt v
  result_stored loads x s And r n d lt v = sets_byte e s0 loads x s Al r n d lt v
  result_stored loads x s Sub86 r n d lt v = sets_byte e s0 loads x s Al r n d lt v
  result_stored loads x s Xor r n d lt v = sets_byte e s0 loads x s Al r n d lt v
  result_stored loads x s Cmp r n d lt v = sets_byte e s0 loads x s Al x.held.a s.regs.al d (d.is_state.regs Al) (d.in_regs Al)

  pub operates : (loads : List Load86) (x : Symbolic86) (s : State86) (op : AluOp) (b : Term) (y choice : ℕ) → Denotes e s0 loads x s → HasSorts x → y < 256 → Val86 (with_loads e loads) b (Number y) → IsMadeAs is_byte b → Denotes e s0 loads (operated x op b) (alu_al86 s op y choice)
  operates loads x s op b y choice d o small vb mb =
      let now = with_loads e loads in
      let a = s.regs.al in
      let c = s.flags.cf in
      let r = alu (operation (op_of op)) x.held.a b (carry_in (op_of op) x.held.cy) in
      let g = alu_gives keep sorts now (operation (op_of op)) x.held.a b (carry_in (op_of op) x.held.cy) a y (takes op c) o.held.a mb (carry_sorted op x.held.cy o.held.cy) (d.in_regs Al) vb (carry_value now op x.held.cy c d.in_flags.4) in
      let n = alu_result op a y c in
      let is : result_of (operation (op_of op)) a y (as_bit (takes op c)) ≡ n = sym (alu_result_is op a y c) in
      let value = subst (λ k. Val86 now r (Number k)) is g.number in
      let stored = result_stored loads x s op r n d (alu_small op a y c (d.is_state.regs Al) small) value in
      let held = record (x.held) { a = a_after (op_of op) x.held.a r } in
      sets_flags e s0 loads (with_held x held) (set8 s Al (cond (stores_result op) n a)) (with_flags_of r held) (alu_flags op a y c choice) stored (same_flags_of x held r)
      (all_flags keep sorts now r held (result_of (operation (op_of op)) a y (as_bit (takes op c))) (flags_of (operation (op_of op)) a y (as_bit (takes op c))) (alu_flags op a y c choice) g (alu_may op a y c choice))
