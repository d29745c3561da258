-- The 8086 at X_SYS, and where the runtime comes back to.
use Rattle.std.proofs.Common.{◌≡◌, ℕ, ◌+◌, ◌-◌, ◌%◌, ◌≤◌, ◌<◌, ◌==◌, Bool, true, false, not, cond, List, [], ◌∷◌, Option, Some, Result, Ok, refl, sym, ap, subst, ◌∙◌, arith}
use Rattle.std.specs.Prelude.{◌&&◌, ◌||◌}
use Rattle.cells.specs.declared.Place.{Place}
use Rattle.cells.specs.declared.Place.TheVariants.{At, Exit as EndPlace}
use Rattle.cells.specs.declared.Cell.{Cell}
use Rattle.cells.specs.declared.Cell.TheVariants.{Lo, Hi}
use Rattle.cells.specs.declared.Rule.{Rule}
use Rattle.dialogue.specs.declared.blocks.Block.{Block}
use Rattle.dialogue.specs.ByteMemory.{put, put_bytes, put_blocks, word_at}
use Rattle.dialogue.specs.Words.{word, wrap}
use Rattle.dialogue.specs.Choice.{byte_of}
use Rattle.asm86_line_types.specs.declared.line.Label.{Label}
use Rattle.asm86_line_types.specs.declared.line.Label.TheVariants.{Sys as SysLabel}
use Rattle.asm80_types.specs.Program.{Program}
use Rattle.cpu80_tagged.specs.State.{State80}
use Rattle.cpu80_tagged.specs.Memory.{is_write_protected, read_word}
use Rattle.cpu80_tagged.specs.Call.{Return, is_just_below, may_be_written, place_in, place_if, is_place, popped_return}
use Rattle.cpu86.specs.State.{State86, put_word, back as below, push}
use Rattle.cpu86.specs.Call.{chosen_six, spoiled}
use Rattle.sym_block_def.specs.Stands.{Stands}
use Rattle.simulation_def.specs.States.{IsCell, IsHeldPlace, IsState80, IsState86}
use Rattle.simulation_def.specs.Runs80.{going_on}
use Rattle.simulation_def.specs.Runs86.{GoesOnAt}
use Rattle.simulation_def.specs.Linked.{IsFirstOf, places}
use Rattle.simulation_law.specs.Replayed.{MemoryStands}
use Rattle.dialogue.proofs.Tried.{then_is, ok_is}
use Rattle.cpu80_tagged.proofs.Passing.{place_if_is}
use Rattle.sym_sound.proofs.Machine80.Answering.{read_word_is}
use Rattle.sym_sound.proofs.Machine80.Leaving.{place_is}
use Rattle.sym_sound.proofs.Machine86.Words.{back_on, eq_true, lt_true, lt_false, at_least, spoiled_past, pushed_back, call_keeps}
use Rattle.sym_sound.proofs.Machine86.Denoting.{word_put}
use Rattle.simulation_def.specs.Cuts.{IsCut}
use Rattle.simulation_law.proofs.Exits.{ComesBack}
use Rattle.dialogue.proofs.Within.{AreWithin}
use Rattle.simulation_law.proofs.Writes.{blocks_past86}
use Rattle.simulation_law.proofs.Asking.{IsSight}
use Rattle.simulation_law.proofs.Standing.{halves_place}

-- bytes stay bytes

byte_put : (m : ℕ → ℕ) (n b a : ℕ) → m a < 256 → b < 256 → put m n b a < 256
byte_put m n b a h lt = by_place (a == n)
  where
    by_place : (c : Bool) → cond c b (m a) < 256
    by_place true = lt
    by_place false = h

chosen : (c k : ℕ) → byte_of c k < 256
chosen c k = omega arith

abbrev AreSmall : List ℕ → Type 0
AreSmall [] = Unit {0}
AreSmall (b ∷ bs) = (b < 256) × AreSmall bs

bytes_small : (m : ℕ → ℕ) (n : ℕ) (bs : List ℕ) (a : ℕ) → ((k : ℕ) → m k < 256) → AreSmall bs → put_bytes m n bs a < 256
bytes_small m n [] a h s = h a
bytes_small m n (b ∷ bs) a h s = bytes_small (put m n b) (wrap (n + 1)) bs a (λ k. byte_put m n b k (h k) s.0) s.1

spoiled_bytes : (m : ℕ → ℕ) (sp c : ℕ) → ((a : ℕ) → m a < 256) → (a : ℕ) → spoiled m sp c a < 256
unfolding spoiled
spoiled_bytes m sp c h a = bytes_small m (below sp 6) (chosen_six c) a h (chosen c 0, (chosen c 8, (chosen c 16, (chosen c 24, (chosen c 32, (chosen c 40, tt))))))

-- INT 224 changes no cell but those just below SP
spoil_keeps : (m : ℕ → ℕ) (sp c a : ℕ) → sp < 0x10000 → a < 0x10000 → is_just_below sp a ≡ false → spoiled m sp c a ≡ m a
spoil_keeps m sp c a h g b =
    let far : 8 ≤ (sp + (0xFFFF - a)) % 0x10000 = at_least ((sp + (0xFFFF - a)) % 0x10000) 8 b in
    let six : 6 ≤ (a + (0x10000 - below sp 6)) % 0x10000 = omega arith in
    spoiled_past m sp c a h g six

not_below : (sp a : ℕ) → sp < 0x10000 → sp ≤ a → a ≤ sp + 1 → a < 0x10000 → is_just_below sp a ≡ false
not_below sp a h low high g = let far : 8 ≤ (sp + (0xFFFF - a)) % 0x10000 = omega arith in lt_false ((sp + (0xFFFF - a)) % 0x10000) 8 far

is_below : (sp a : ℕ) → sp < 0x10000 → (a ≡ below sp 2) → is_just_below sp a ≡ true
is_below sp a h e = let near : (sp + (0xFFFF - a)) % 0x10000 < 8 = omega arith in lt_true ((sp + (0xFFFF - a)) % 0x10000) 8 near

is_below_next : (sp a : ℕ) → sp < 0x10000 → (a ≡ wrap (below sp 2 + 1)) → is_just_below sp a ≡ true
is_below_next sp a h e = let near : (sp + (0xFFFF - a)) % 0x10000 < 8 = omega arith in lt_true ((sp + (0xFFFF - a)) % 0x10000) 8 near

-- both machines at the end of a block, with the same SP
pub record OneStack : Type 0 where
  pub p : Program
  pub cut : List (ℕ × ℕ)
  pub is_cut : IsCut p cut
  pub offset : Label → Option ℕ
  pub t : State80
  pub u : State86
  pub is80 : IsState80 p t
  pub is86 : IsState86 u
  pub segments : u.ss ≡ u.ds
  pub sp : u.sp ≡ t.sp
  pub memory : MemoryStands p (places offset) t.mem u.mem

module _ (stack : OneStack) where
  open stack use {p, cut, is_cut, offset, t, u, is80, is86, segments, sp, memory}

  sp_small : u.sp < 0x10000
  sp_small = is86.sp

  -- cells just below SP are not written
  kept_below : (popped : Bool) (a : ℕ) → is_just_below t.sp a ≡ true → may_be_written p t popped a ≡ false
  kept_below popped a h = ap (λ b. not (b || (is_write_protected p a || (popped && (a == t.sp || a == wrap (t.sp + 1)))))) h

  -- a place that is held is the first of a block
  held_first : (q : Place) → IsHeldPlace p q → IsFirstOf cut q
  held_first (At a) h = is_cut.taken a h.0 h.1
  held_first EndPlace h = (1, refl)

  -- The 8086 at X_SYS. The 8080 goes back as `back` says; the runtime's RET comes to the same place, whatever INT 224 spoils and a
  -- reply writes.
  pub record AtSystem (back : Result Return Rule) (w : State86) : Type 0 where
    pub regs : w.regs ≡ u.regs
    pub at_label : offset SysLabel ≡ Some w.ip
    pub same_segments : w.ss ≡ w.ds
    pub state : IsState86 w
    pub dma : w.dma ≡ u.dma
    pub sight : (c : ℕ) → IsSight p (places offset) t (spoiled w.mem w.sp c)
    pub first : (ret : Return) → back ≡ Ok ret → IsFirstOf cut ret.place
    pub sp_back : (ret : Return) → back ≡ Ok ret → (wrap (w.sp + 2) ≡ ret.sp) × (ret.sp < 0x10000)
    pub comes_back : (ret : Return) → back ≡ Ok ret → (c : ℕ) (ws : List Block) → AreWithin (may_be_written p t ret.is_popped) ws → places offset ret.place ≡ Some (word_at (put_blocks (spoiled w.mem w.sp c) ws) w.sp)

  sees : (m : ℕ → ℕ) → ((a : ℕ) → a < 0x10000 → is_just_below u.sp a ≡ false → m a ≡ u.mem a) → ((a : ℕ) → m a < 256) → IsSight p (places offset) t m
  sees m same bytes = record {
    cells = λ a lt is_open far. subst (λ n. Stands (places offset) (t.mem a) n) (sym (same a lt (ap (λ s. is_just_below s a) sp ∙ far))) (memory.cells a lt is_open);
    bytes = bytes;
  }

  pub spoil_sight : (choice : ℕ) → IsSight p (places offset) t (spoiled u.mem u.sp choice)
  spoil_sight choice = sees (spoiled u.mem u.sp choice) (λ a la far. spoil_keeps u.mem u.sp choice a sp_small la far) (spoiled_bytes u.mem u.sp choice is86.mem)

  -- a call: where it goes on
  pub going_is : (q : Place) (ret : Return) → going_on p t q ≡ Ok ret → (is_place p q ≡ true) × (record { place = q; sp = t.sp; is_popped = false } ≡ ret)
  going_is q ret h =
      let a = then_is (place_if (is_place p q) q) _ ret h in
      let b = place_if_is (is_place p q) q a.0 a.1 in
      (b.0, ap (λ (z : Place). record { place = z; sp = t.sp; is_popped = false }) b.1 ∙ ok_is _ ret a.2)

  pub called : (c : ℕ) (n m : ℕ) → ComesBack p cut (At c) → n < 0x10000 → GoesOnAt p offset (At c) n → offset SysLabel ≡ Some m → AtSystem (going_on p t (At c)) (record (push u n) { ip = m })
  called c n m in_cut lt goes_on at = record {
    regs = refl;
    at_label = at;
    same_segments = segments;
    state = record { regs = is86.regs; mem = word_put u.mem (below u.sp 2) n is86.mem lt; sp = back_small; si = is86.si; ds = is86.ds };
    dma = refl;
    sight = λ choice. sees (spoiled (put_word u.mem (below u.sp 2) n) (below u.sp 2) choice) (λ a la far. call_keeps u.mem u.sp n choice a sp_small la far) (spoiled_bytes (put_word u.mem (below u.sp 2) n) (below u.sp 2) choice (word_put u.mem (below u.sp 2) n is86.mem lt));
    first = λ ret h. let g = going_is (At c) ret h in subst (λ (r : Return). IsFirstOf cut r.place) g.1 (in_cut g.0);
    sp_back = λ ret h. let g = going_is (At c) ret h in subst (λ (r : Return). (wrap (below u.sp 2 + 2) ≡ r.sp) × (r.sp < 0x10000)) g.1 (back_on u.sp sp_small ∙ sp, is80.sp);
    comes_back = λ ret h choice ws within.
        let g = going_is (At c) ret h in
        let m0 = spoiled (put_word u.mem (below u.sp 2) n) (below u.sp 2) choice in
        let passes = may_be_written p t ret.is_popped in
        let low : put_blocks m0 ws (below u.sp 2) ≡ m0 (below u.sp 2) = blocks_past86 passes m0 ws (below u.sp 2) within (kept_below ret.is_popped (below u.sp 2) (is_below t.sp (below u.sp 2) is80.sp (ap (λ s. below s 2) sp))) in
        let high : put_blocks m0 ws (wrap (below u.sp 2 + 1)) ≡ m0 (wrap (below u.sp 2 + 1)) = blocks_past86 passes m0 ws (wrap (below u.sp 2 + 1)) within (kept_below ret.is_popped (wrap (below u.sp 2 + 1)) (is_below_next t.sp (wrap (below u.sp 2 + 1)) is80.sp (ap (λ s. wrap (below s 2 + 1)) sp))) in
        subst (λ (r : Return). places offset r.place ≡ Some (word_at (put_blocks m0 ws) (below u.sp 2))) g.1
        (goes_on g.0 ∙ ap Some (sym (ap (λ v. word v (put_blocks m0 ws (below u.sp 2))) high ∙ ap (λ v. word (m0 (wrap (below u.sp 2 + 1))) v) low ∙ pushed_back u.mem (below u.sp 2) n choice back_small)));
  }
    where
      back_small : below u.sp 2 < 0x10000
      back_small = omega arith

  -- a jump, after which the system returns as RET does
  record Popped (ret : Return) : Type 0 where
    place : Place
    held : IsHeldPlace p place
    within : t.sp + 1 < 0x10000
    high : Stands (places offset) (Hi place) (u.mem (t.sp + 1))
    low : Stands (places offset) (Lo place) (u.mem t.sp)
    is : record { place = place; sp = wrap (t.sp + 2); is_popped = true } ≡ ret

  popped_is : (ret : Return) → popped_return p t ≡ Ok ret → Popped ret
  popped_is ret h =
      let a = then_is (read_word p t t.sp) _ ret h in
      let w = a.0 in
      let b = then_is (place_in p w.high w.low) _ ret a.2 in
      let n = place_is p w.high w.low b.0 b.1 in
      let r = read_word_is p t t.sp w is80.sp a.1 in
      record {
        place = b.0;
        held = subst (λ (c : Cell). IsCell p c) (r.4 ∙ n.low_is) (is80.mem t.sp r.1);
        within = r.0;
        high = subst (λ (c : Cell). Stands (places offset) c (u.mem (t.sp + 1))) (r.3 ∙ n.high_is) (memory.cells (t.sp + 1) r.0 r.2);
        low = subst (λ (c : Cell). Stands (places offset) c (u.mem t.sp)) (r.4 ∙ n.low_is) (memory.cells t.sp is80.sp r.1);
        is = ok_is _ ret b.2;
      }

  -- a return that is popped is not written either
  kept_low : (a : ℕ) → a ≡ t.sp → may_be_written p t true a ≡ false
  kept_low a e = ap (λ b. not (is_just_below t.sp a || (is_write_protected p a || (b || a == wrap (t.sp + 1))))) (eq_true a t.sp e) ∙ passed (is_just_below t.sp a) (is_write_protected p a)
    where
      passed : (b c : Bool) → not (b || (c || true)) ≡ false
      passed true c = refl
      passed false true = refl
      passed false false = refl

  kept_high : (a : ℕ) → a ≡ wrap (t.sp + 1) → may_be_written p t true a ≡ false
  kept_high a e = ap (λ b. not (is_just_below t.sp a || (is_write_protected p a || (a == t.sp || b)))) (eq_true a (wrap (t.sp + 1)) e) ∙ passed (is_just_below t.sp a) (is_write_protected p a) (a == t.sp)
    where
      passed : (b c d : Bool) → not (b || (c || (d || true))) ≡ false
      passed true c d = refl
      passed false true d = refl
      passed false false true = refl
      passed false false false = refl

  pub jumped : (m : ℕ) → offset SysLabel ≡ Some m → AtSystem (popped_return p t) (record u { ip = m })
  jumped m at = record {
    regs = refl;
    at_label = at;
    same_segments = segments;
    state = record { regs = is86.regs; mem = is86.mem; sp = is86.sp; si = is86.si; ds = is86.ds };
    dma = refl;
    sight = spoil_sight;
    first = λ ret h. let q = popped_is ret h in subst (λ (r : Return). IsFirstOf cut r.place) q.is (held_first q.place q.held);
    sp_back = λ ret h. let q = popped_is ret h in subst (λ (r : Return). (wrap (u.sp + 2) ≡ r.sp) × (r.sp < 0x10000)) q.is (ap (λ s. wrap (s + 2)) sp, wrapped);
    comes_back = λ ret h choice ws within.
        let q = popped_is ret h in
        let m0 = spoiled u.mem u.sp choice in
        let inside : AreWithin (may_be_written p t true) ws = subst (λ (r : Return). AreWithin (may_be_written p t r.is_popped) ws) (sym q.is) within in
        let fits = q.within in
        let next : wrap (t.sp + 1) ≡ t.sp + 1 = omega (arith, fits) in
        let low : put_blocks m0 ws u.sp ≡ u.mem t.sp = blocks_past86 (may_be_written p t true) m0 ws u.sp inside (kept_low u.sp sp) ∙ spoil_keeps u.mem u.sp choice u.sp sp_small sp_small (not_below u.sp u.sp sp_small (omega arith) (omega arith) sp_small) ∙ ap u.mem sp in
        let at_high : wrap (u.sp + 1) ≡ t.sp + 1 = ap (λ s. wrap (s + 1)) sp ∙ next in
        let far : is_just_below u.sp (wrap (u.sp + 1)) ≡ false = not_below u.sp (wrap (u.sp + 1)) sp_small (omega (arith, at_high, sp)) (omega (arith, at_high, sp)) (omega (arith, at_high, fits)) in
        let high : put_blocks m0 ws (wrap (u.sp + 1)) ≡ u.mem (t.sp + 1) = blocks_past86 (may_be_written p t true) m0 ws (wrap (u.sp + 1)) inside (kept_high (wrap (u.sp + 1)) (ap (λ s. wrap (s + 1)) sp)) ∙ spoil_keeps u.mem u.sp choice (wrap (u.sp + 1)) sp_small (omega (arith, at_high, fits)) far ∙ ap u.mem at_high in
        subst (λ (r : Return). places offset r.place ≡ Some (word_at (put_blocks m0 ws) u.sp)) q.is
        (halves_place offset q.place (u.mem (t.sp + 1)) (u.mem t.sp) (is86.mem (t.sp + 1)) (is86.mem t.sp) q.high q.low
        ∙ ap Some (sym (ap (λ v. word v (put_blocks m0 ws u.sp)) high ∙ ap (λ v. word (u.mem (t.sp + 1)) v) low)));
  }
    where
      wrapped : wrap (t.sp + 2) < 0x10000
      wrapped = omega arith
