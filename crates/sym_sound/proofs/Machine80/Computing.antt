-- Operations on bytes: the number and the flags that the tagged 8080 has are values of the terms.
use Rattle.std.proofs.Common.{◌≡◌, ℕ, ◌<◌, Bool, true, false, List, Option, Some, None, Result, Ok, refl, sym, ap, subst, ◌∙◌, arith}
use Rattle.std.specs.Prelude.{◌||◌}
use Rattle.cells.specs.declared.Flags.{Flags}
use Rattle.cells.specs.declared.Cell.{Cell}
use Rattle.cells.specs.declared.Cell.TheVariants.{Num as NumCell}
use Rattle.cells.specs.declared.Rule.{Rule}
use Rattle.cells.specs.declared.Rule.TheVariants.{P5}
use Rattle.cells.specs.declared.Part.{Part}
use Rattle.cells.specs.declared.Part.TheVariants.{S, Z, Ac, P, Cy}
use Rattle.i80.specs.declared.Reg.{Reg}
use Rattle.i80.specs.declared.Reg.TheVariants.{A, B, C, D, E, H, L}
use Rattle.i80.specs.declared.Op.{Op}
use Rattle.i80.specs.declared.Op.TheVariants.{Add, Adc, Sub, Sbb, Ana, Xra, Ora, Cmp}
use Rattle.base.specs.Arithmetic.{as_bit, daa_result, daa_carry, daa_excepted}
use Rattle.base.specs.Operations.{flags_by, result_of, flags_of}
use Rattle.base.proofs.Bytes.{result_small}
use Rattle.asm80_types.specs.Program.{Program}
use Rattle.cpu80_tagged.specs.State.{State80, reg80, with_a, with_flags, num_or}
use Rattle.cpu80_tagged.specs.Effect.{known, carry_for, a_after as a_after80, alu_with}
use Rattle.sym_terms.specs.Term.{Term, Num, Alu, Adjust, is_byte, is_bit, is_flag, leaves_flag, is_open}
use Rattle.sym_terms.specs.Making.{alu, flag, adjust}
use Rattle.sym_terms.specs.Values80.{Env80, Load80, Byte, OneBit, Result as ResultOf, Val80, flag_in}
use Rattle.sym_terms.specs.Laws.{IsMadeAs, MadeTermsKeepValues, MadeTermsHaveSorts}
use Rattle.sym_terms.proofs.Sorts.{leaves_open}
use Rattle.sym_block_def.specs.Outcome.{Held, with_flags_of, with_count_flags_of}
use Rattle.sym_block_def.specs.Block80.{Symbolic80, reg_term, with_held, operation, carry_in, a_after, operated}
use Rattle.sym_block_def.specs.Sorts.{HeldIsSorted}
use Rattle.simulation_def.specs.States.{IsCell}
use Rattle.simulation_def.specs.Runs80.{env80, FlagsHold80}
use Rattle.sym_sound.proofs.Machine80.Denoting.{Denotes}
use Rattle.sym_sound.proofs.Machine80.Holding.{sets_parts, sets_reg}
use Rattle.dialogue.proofs.Tried.{ok_is, err_is_not, then_is}
use Rattle.sym_sound.proofs.Machine80.Answering.{number_is}

-- CMP subtracts
same_result : (op : Op) (x y c : ℕ) → result_of (operation op) x y c ≡ result_of op x y c
same_result Add x y c = refl
same_result Adc x y c = refl
same_result Sub x y c = refl
same_result Sbb x y c = refl
same_result Ana x y c = refl
same_result Xra x y c = refl
same_result Ora x y c = refl
same_result Cmp x y c = refl

same_flags : (op : Op) (x y c : ℕ) → flags_of (operation op) x y c ≡ flags_of op x y c
same_flags Add x y c = refl
same_flags Adc x y c = refl
same_flags Sub x y c = refl
same_flags Sbb x y c = refl
same_flags Ana x y c = refl
same_flags Xra x y c = refl
same_flags Ora x y c = refl
same_flags Cmp x y c = refl

-- a flag that is read is known
pub known_is : (o : Option Bool) (b : Bool) → known o ≡ Ok b → o ≡ Some b
known_is (Some k) b e = ap Some (ok_is k b e)
known_is None b e = absurd (err_is_not _ b e)

-- a number is a byte, and a bit
pub byte_number : (e : Env80) (n : ℕ) → n < 256 → Val80 e (Num n) (Byte (NumCell n))
byte_number e n lt = (lt, refl)

pub zero_bit : (e : Env80) → Val80 e (Num 0) (OneBit (Some false))
zero_bit e = (false, refl, refl)

pub one_bit : (e : Env80) → Val80 e (Num 1) (OneBit (Some true))
one_bit e = (true, refl, refl)

-- the carry that an operation takes
record Carries (e : Env80) (op : Op) (cy : Term) (c : ℕ) : Type 0 where
  bit : Bool
  value : Val80 e (carry_in op cy) (OneBit (Some bit))
  is : as_bit bit ≡ c
  sorted : IsMadeAs is_bit (carry_in op cy)

none_carries : (e : Env80) (op : Op) (cy : Term) (c : ℕ) → carry_in op cy ≡ Num 0 → ◌≡◌ {A = Result ℕ Rule} (Ok 0) (Ok c) → Carries e op cy c
none_carries e op cy c is h = record {
  bit = false;
  value = subst (λ t. Val80 e t (OneBit (Some false))) (sym is) (zero_bit e);
  is = ok_is 0 c h;
  sorted = subst (λ t. IsMadeAs is_bit t) (sym is) (omega arith, refl);
}

taken_carries : (e : Env80) (op : Op) (cy : Term) (f : Option Bool) (c : ℕ) → carry_in op cy ≡ cy → IsMadeAs is_bit cy → Val80 e cy (OneBit f) → (b : Bool) × (known f ≡ Ok b) × (◌≡◌ {A = Result ℕ Rule} (Ok (as_bit b)) (Ok c)) → Carries e op cy c
taken_carries e op cy f c is m v k = record {
  bit = k.0;
  value = subst (λ t. Val80 e t (OneBit (Some k.0))) (sym is) (subst (λ o. Val80 e cy (OneBit o)) (known_is f k.0 k.1) v);
  is = ok_is (as_bit k.0) c k.2;
  sorted = subst (λ t. IsMadeAs is_bit t) (sym is) m;
}

carries : (e : Env80) (op : Op) (cy : Term) (f : Flags) (c : ℕ) → IsMadeAs is_bit cy → Val80 e cy (OneBit f.cy) → carry_for op f ≡ Ok c → Carries e op cy c
carries e Add cy f c m v h = none_carries e Add cy c refl h
carries e Adc cy f c m v h = taken_carries e Adc cy f.cy c refl m v (then_is (known f.cy) _ c h)
carries e Sub cy f c m v h = none_carries e Sub cy c refl h
carries e Sbb cy f c m v h = taken_carries e Sbb cy f.cy c refl m v (then_is (known f.cy) _ c h)
carries e Ana cy f c m v h = none_carries e Ana cy c refl h
carries e Xra cy f c m v h = none_carries e Xra cy c refl h
carries e Ora cy f c m v h = none_carries e Ora cy c refl h
carries e Cmp cy f c m v h = none_carries e Cmp cy c refl h

-- an operation that leaves all flags, and its number
pub record Gives (e : Env80) (r : Term) (n : ℕ) (f : Flags) : Type 0 where
  pub result : Val80 e r (ResultOf n f)
  pub byte : Val80 e r (Byte (NumCell n))
  pub sorted : (part : Part) → is_flag part ≡ true → IsMadeAs (leaves_flag part) r

module _ (keep : MadeTermsKeepValues) (sorts : MadeTermsHaveSorts) where
  pub alu_gives : (e : Env80) (op : Op) (a b c : Term) (x y : ℕ) (k : Bool) → IsMadeAs is_byte a → IsMadeAs is_byte b → IsMadeAs is_bit c → Val80 e a (Byte (NumCell x)) → Val80 e b (Byte (NumCell y)) → Val80 e c (OneBit (Some k)) → Gives e (alu op a b c) (result_of op x y (as_bit k)) (flags_of op x y (as_bit k))
  alu_gives e op a b c x y k ma mb mc va vb vc =
      let n = result_of op x y (as_bit k) in
      let f = flags_of op x y (as_bit k) in
      let made = sorts.alu op a b c ma mb mc in
      record {
        result = (keep.on_8080 e).alu op a b c (ResultOf n f) ma mb mc (x, y, k, va, vb, vc, refl, refl);
        byte = (keep.on_8080 e).alu op a b c (Byte (NumCell n)) ma mb mc (n, f, (x, y, k, va, vb, vc, refl, refl), refl);
        sorted = λ part h. (made.0, leaves_open (is_open a || (is_open b || is_open c)) (Alu op a b c) part h refl);
      }

  pub adjust_gives : (e : Env80) (a ac cy : Term) (x : ℕ) (h k : Bool) → IsMadeAs is_byte a → IsMadeAs is_bit ac → IsMadeAs is_bit cy → Val80 e a (Byte (NumCell x)) → Val80 e ac (OneBit (Some h)) → Val80 e cy (OneBit (Some k)) → daa_excepted x h k ≡ false → Gives e (adjust a ac cy) (daa_result x h k) (flags_by (daa_result x h k) None (Some (daa_carry x h k)))
  adjust_gives e a ac cy x h k ma mh mc va vh vc usual =
      let n = daa_result x h k in
      let f = flags_by (daa_result x h k) None (Some (daa_carry x h k)) in
      let made = sorts.adjust a ac cy ma mh mc in
      record {
        result = (keep.on_8080 e).adjust a ac cy (ResultOf n f) ma mh mc (x, h, k, va, vh, vc, usual, refl, refl);
        byte = (keep.on_8080 e).adjust a ac cy (Byte (NumCell n)) ma mh mc (n, f, (x, h, k, va, vh, vc, usual, refl, refl), refl);
        sorted = λ part i. (made.0, leaves_open (is_open a || (is_open ac || is_open cy)) (Adjust a ac cy) part i refl);
      }

  -- a flag of a result
  flag_value : (e : Env80) (part : Part) (r : Term) (n : ℕ) (f : Flags) → Gives e r n f → is_flag part ≡ true → Val80 e (flag part r) (OneBit (flag_in f part))
  flag_value e part r n f g h = (keep.on_8080 e).flag part r (OneBit (flag_in f part)) (g.sorted part h) (n, f, g.result, refl)

  pub all_flags : (e : Env80) (r : Term) (x : Held) (n : ℕ) (f : Flags) → Gives e r n f → FlagsHold80 e (with_flags_of r x) f
  all_flags e r x n f g = (flag_value e S r n f g refl, flag_value e Z r n f g refl, flag_value e Ac r n f g refl, flag_value e P r n f g refl, flag_value e Cy r n f g refl)

  pub count_flags : (e : Env80) (r : Term) (x : Held) (n : ℕ) (f : Flags) (cy : Option Bool) → Gives e r n f → Val80 e x.cy (OneBit cy) → FlagsHold80 e (with_count_flags_of r x) (record f { cy = cy })
  count_flags e r x n f cy g v = (flag_value e S r n f g refl, flag_value e Z r n f g refl, flag_value e Ac r n f g refl, flag_value e P r n f g refl, v)

  -- A changes unless it is compared
  a_changes : (p : Program) (s0 : State80) (loads : List Load80) (x : Symbolic80) (s : State80) (op : Op) (r : Term) (n : ℕ) → Denotes p s0 loads x s → Val80 (env80 s0 loads) r (Byte (NumCell n)) → n < 256 → Denotes p s0 loads (with_held x (record (x.held) { a = a_after op x.held.a r })) (with_a s (a_after80 op s.regs.a n))
  a_changes p s0 loads x s Add r n d v lt = sets_reg p s0 loads x s A r (NumCell n) d v lt
  a_changes p s0 loads x s Adc r n d v lt = sets_reg p s0 loads x s A r (NumCell n) d v lt
  a_changes p s0 loads x s Sub r n d v lt = sets_reg p s0 loads x s A r (NumCell n) d v lt
  a_changes p s0 loads x s Sbb r n d v lt = sets_reg p s0 loads x s A r (NumCell n) d v lt
  a_changes p s0 loads x s Ana r n d v lt = sets_reg p s0 loads x s A r (NumCell n) d v lt
  a_changes p s0 loads x s Xra r n d v lt = sets_reg p s0 loads x s A r (NumCell n) d v lt
  a_changes p s0 loads x s Ora r n d v lt = sets_reg p s0 loads x s A r (NumCell n) d v lt
  a_changes p s0 loads x s Cmp r n d v lt = d

  -- the flags alone are changed
  pub sets_flags : (p : Program) (s0 : State80) (loads : List Load80) (x : Symbolic80) (s : State80) (y : Held) (f : Flags) → Denotes p s0 loads x s → ((r : Reg) → reg_term y r ≡ reg_term x.held r) → FlagsHold80 (env80 s0 loads) y f → Denotes p s0 loads (with_held x y) (with_flags s f)
  sets_flags p s0 loads x s y f d same v =
      sets_parts p s0 loads x s y s.regs f d d.is_state.regs
      (record { in_regs = λ r. subst (λ t. Val80 (env80 s0 loads) t (Byte (reg80 s.regs r))) (sym (same r)) (d.holds.in_regs r); in_flags = v })

  same_regs : (t : Term) (x : Held) (r : Reg) → reg_term (with_flags_of t x) r ≡ reg_term x r
  same_regs t x A = refl
  same_regs t x B = refl
  same_regs t x C = refl
  same_regs t x D = refl
  same_regs t x E = refl
  same_regs t x H = refl
  same_regs t x L = refl

  -- an operation on A and a byte
  pub operates : (p : Program) (s0 : State80) (loads : List Load80) (x : Symbolic80) (s t : State80) (op : Op) (b : Term) (c : Cell) → Denotes p s0 loads x s → HeldIsSorted x.held → Val80 (env80 s0 loads) b (Byte c) → IsMadeAs is_byte b → IsCell p c → alu_with s op c ≡ Ok t → Denotes p s0 loads (with_held x (operated op b x.held)) t
  operates p s0 loads x s t op b c d h vb mb ic e =
      let first = then_is (num_or P5 s.regs.a) _ t e in
      let second = then_is (num_or P5 c) _ t first.2 in
      let third = then_is (carry_for op s.flags) _ t second.2 in
      let i = first.0 in
      let j = second.0 in
      let ei = number_is P5 s.regs.a i first.1 in
      let ej = number_is P5 c j second.1 in
      let k = carries (env80 s0 loads) op x.held.cy s.flags third.0 h.cy d.holds.in_flags.4 third.1 in
      let small_i : i < 256 = subst (IsCell p) ei (d.is_state.regs A) in
      let small_j : j < 256 = subst (IsCell p) ej ic in
      let r = alu (operation op) x.held.a b (carry_in op x.held.cy) in
      let n = result_of op i j third.0 in
      let f = flags_of op i j third.0 in
      let va = subst (λ (v : Cell). Val80 (env80 s0 loads) x.held.a (Byte v)) ei (d.holds.in_regs A) in
      let vj = subst (λ (v : Cell). Val80 (env80 s0 loads) b (Byte v)) ej vb in
      let given = alu_gives (env80 s0 loads) (operation op) x.held.a b (carry_in op x.held.cy) i j k.bit h.a mb k.sorted va vj k.value in
      let number : result_of (operation op) i j (as_bit k.bit) ≡ n = ap (result_of (operation op) i j) k.is ∙ same_result op i j third.0 in
      let flags : flags_of (operation op) i j (as_bit k.bit) ≡ f = ap (flags_of (operation op) i j) k.is ∙ same_flags op i j third.0 in
      let g = subst (λ (v : Flags). Gives (env80 s0 loads) r n v) flags (subst (λ m. Gives (env80 s0 loads) r m (flags_of (operation op) i j (as_bit k.bit))) number given) in
      let changed = a_changes p s0 loads x s op r n d g.byte (result_small op i j third.0 small_i small_j) in
      let y = record (x.held) { a = a_after op x.held.a r } in
      subst (λ (u : State80). Denotes p s0 loads (with_held x (operated op b x.held)) u) (ok_is _ t third.2)
      (sets_flags p s0 loads (with_held x y) (with_a s (a_after80 op s.regs.a n)) (with_flags_of r y) f changed (same_regs r y) (all_flags (env80 s0 loads) r y n f g))
