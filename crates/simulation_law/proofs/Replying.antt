-- After a reply that both machines take: what the registers and the cells hold stands for one another.
use Rattle.std.proofs.Common.{◌≡◌, ℕ, ◌<◌, Bool, true, false, cond, not, Option, refl, sym, ap, subst, arith}
use Rattle.std.specs.Prelude.{◌&&◌}
use Rattle.std.proofs.lemmas.Bool.{ltb-true}
use Rattle.cells.specs.declared.Place.{Place}
use Rattle.cells.specs.declared.Cell.{Cell}
use Rattle.cells.specs.declared.Cell.TheVariants.{Junk}
use Rattle.cells.specs.declared.Part.{Part}
use Rattle.cells.specs.declared.Part.TheVariants.{A, B, C, D, E, H, L, S, Z, Ac, P, Cy}
use Rattle.i80.specs.declared.Reg.{Reg}
use Rattle.i80.specs.declared.Reg.TheVariants.{A as RegA, B as RegB, C as RegC, D as RegD, E as RegE, H as RegH, L as RegL}
use Rattle.i86.specs.declared.Reg8.{Reg8}
use Rattle.i86.specs.declared.Reg8.TheVariants.{Al, Cl, Dl, Bl, Ah, Ch, Dh, Bh}
use Rattle.dialogue.specs.declared.request.Reply.{Reply}
use Rattle.dialogue.specs.declared.request.Request.{Request}
use Rattle.dialogue.specs.declared.table.AnswerKind.{AnswerKind}
use Rattle.dialogue.specs.declared.table.AnswerKind.TheVariants.{NoAnswer, ByteAnswer, WordAnswer}
use Rattle.dialogue.specs.Fits.{answer_fits, answer_kind_of}
use Rattle.dialogue.specs.ByteMemory.{put_blocks}
use Rattle.dialogue.specs.Words.{word}
use Rattle.dialogue.specs.Choice.{byte_of}
use Rattle.asm80_types.specs.Program.{Program}
use Rattle.cpu80_tagged.specs.State.{State80, Regs80, reg80}
use Rattle.cpu80_tagged.specs.Memory.{is_closed}
use Rattle.cpu80_tagged.specs.Call.{is_just_below, put_blocks as put_blocks80, answered as answered80, cells_after, after_reply as after_reply80}
use Rattle.cpu86.specs.State.{State86, Regs86, reg8}
use Rattle.cpu86.specs.Call.{chosen_regs, answered as answered86, after_reply as after_reply86}
use Rattle.sym_block_def.specs.Stands.{Stands}
use Rattle.simulation_def.specs.States.{IsCell, IsState80, IsState86}
use Rattle.simulation_def.specs.Linked.{StandsIn}
use Rattle.simulation_law.specs.Replayed.{MemoryStands}
use Rattle.simulation_law.specs.Linking.{BlocksAreBytes}
use Rattle.simulation_law.proofs.Writes.{blocks_stand, blocks_same80, blocks_cells}
use Rattle.simulation_law.proofs.Asking.{IsSight, ReplyFits}

-- registers

-- the answers where CP/M 2.2 has them: that in AL in L too, and that in BH in B too
abbrev pub moved_regs : Regs86 → Regs86
moved_regs r = record r { bl = r.al; ch = r.bh }

abbrev pub BytesIn : Regs86 → Type 0
BytesIn r = (q : Reg8) → reg8 r q < 256

chosen_byte : (c k : ℕ) → byte_of c k < 256
chosen_byte c k = omega arith

chosen_bytes : (c : ℕ) → BytesIn (chosen_regs c)
chosen_bytes c Al = chosen_byte c 0
chosen_bytes c Ah = chosen_byte c 8
chosen_bytes c Cl = chosen_byte c 16
chosen_bytes c Ch = chosen_byte c 24
chosen_bytes c Dl = chosen_byte c 32
chosen_bytes c Dh = chosen_byte c 40
chosen_bytes c Bl = chosen_byte c 48
chosen_bytes c Bh = chosen_byte c 56

answered_bytes : (kind : AnswerKind) (n : ℕ) (r : Regs86) → answer_fits kind n ≡ true → BytesIn r → BytesIn (answered86 kind n r)
answered_bytes NoAnswer n r f h q = h q
answered_bytes ByteAnswer n r f h Al = ltb-true n 256 f
answered_bytes ByteAnswer n r f h Ah = h Ah
answered_bytes ByteAnswer n r f h Cl = h Cl
answered_bytes ByteAnswer n r f h Ch = h Ch
answered_bytes ByteAnswer n r f h Dl = h Dl
answered_bytes ByteAnswer n r f h Dh = h Dh
answered_bytes ByteAnswer n r f h Bl = h Bl
answered_bytes ByteAnswer n r f h Bh = h Bh
answered_bytes WordAnswer n r f h Al = omega arith
answered_bytes WordAnswer n r f h Ah = let lt = ltb-true n 0x10000 f in omega (arith, lt)
answered_bytes WordAnswer n r f h Cl = h Cl
answered_bytes WordAnswer n r f h Ch = h Ch
answered_bytes WordAnswer n r f h Dl = h Dl
answered_bytes WordAnswer n r f h Dh = h Dh
answered_bytes WordAnswer n r f h Bl = omega arith
answered_bytes WordAnswer n r f h Bh = let lt = ltb-true n 0x10000 f in omega (arith, lt)

pub moved_bytes : (r : Regs86) → BytesIn r → BytesIn (moved_regs r)
moved_bytes r h Al = h Al
moved_bytes r h Ah = h Ah
moved_bytes r h Cl = h Cl
moved_bytes r h Ch = h Bh
moved_bytes r h Dl = h Dl
moved_bytes r h Dh = h Dh
moved_bytes r h Bl = h Al
moved_bytes r h Bh = h Bh

-- what the 8080 has in a register stands for what the 8086 has there
abbrev RegStands : (Place → Option ℕ) → Regs80 → Regs86 → Reg → Type 0
RegStands offset s t RegA = Stands offset s.a t.al
RegStands offset s t RegB = Stands offset s.b t.ch
RegStands offset s t RegC = Stands offset s.c t.cl
RegStands offset s t RegD = Stands offset s.d t.dh
RegStands offset s t RegE = Stands offset s.e t.dl
RegStands offset s t RegH = Stands offset s.h t.bh
RegStands offset s t RegL = Stands offset s.l t.bl

-- B and L of a direct call are lost
abbrev IsLost : Reg → Type 0
IsLost RegA = ⊥
IsLost RegB = Unit {0}
IsLost RegC = ⊥
IsLost RegD = ⊥
IsLost RegE = ⊥
IsLost RegH = ⊥
IsLost RegL = Unit {0}

answers_stand : (offset : Place → Option ℕ) (kind : AnswerKind) (n : ℕ) (r : Regs86) → BytesIn r → (q : Reg) → (IsLost q → ⊥) → RegStands offset (answered80 kind n) (answered86 kind n r) q
answers_stand offset NoAnswer n r h RegA k = h Al
answers_stand offset NoAnswer n r h RegB k = absurd (k tt)
answers_stand offset NoAnswer n r h RegC k = h Cl
answers_stand offset NoAnswer n r h RegD k = h Dh
answers_stand offset NoAnswer n r h RegE k = h Dl
answers_stand offset NoAnswer n r h RegH k = h Bh
answers_stand offset NoAnswer n r h RegL k = absurd (k tt)
answers_stand offset ByteAnswer n r h RegA k = refl
answers_stand offset ByteAnswer n r h RegB k = absurd (k tt)
answers_stand offset ByteAnswer n r h RegC k = h Cl
answers_stand offset ByteAnswer n r h RegD k = h Dh
answers_stand offset ByteAnswer n r h RegE k = h Dl
answers_stand offset ByteAnswer n r h RegH k = h Bh
answers_stand offset ByteAnswer n r h RegL k = absurd (k tt)
answers_stand offset WordAnswer n r h RegA k = refl
answers_stand offset WordAnswer n r h RegB k = absurd (k tt)
answers_stand offset WordAnswer n r h RegC k = h Cl
answers_stand offset WordAnswer n r h RegD k = h Dh
answers_stand offset WordAnswer n r h RegE k = h Dl
answers_stand offset WordAnswer n r h RegH k = refl
answers_stand offset WordAnswer n r h RegL k = absurd (k tt)

moved_stand : (offset : Place → Option ℕ) (kind : AnswerKind) (n : ℕ) (r : Regs86) → BytesIn r → (q : Reg) → RegStands offset (answered80 kind n) (moved_regs (answered86 kind n r)) q
moved_stand offset kind n r h RegA = answers_stand offset kind n r h RegA (λ e. e)
moved_stand offset kind n r h RegC = answers_stand offset kind n r h RegC (λ e. e)
moved_stand offset kind n r h RegD = answers_stand offset kind n r h RegD (λ e. e)
moved_stand offset kind n r h RegE = answers_stand offset kind n r h RegE (λ e. e)
moved_stand offset kind n r h RegH = answers_stand offset kind n r h RegH (λ e. e)
moved_stand offset NoAnswer n r h RegB = h Bh
moved_stand offset NoAnswer n r h RegL = h Al
moved_stand offset ByteAnswer n r h RegB = h Bh
moved_stand offset ByteAnswer n r h RegL = refl
moved_stand offset WordAnswer n r h RegB = refl
moved_stand offset WordAnswer n r h RegL = refl

answered_cells : (p : Program) (kind : AnswerKind) (n : ℕ) → answer_fits kind n ≡ true → (q : Reg) → IsCell p (reg80 (answered80 kind n) q)
answered_cells p NoAnswer n f RegA = tt
answered_cells p NoAnswer n f RegB = tt
answered_cells p NoAnswer n f RegC = tt
answered_cells p NoAnswer n f RegD = tt
answered_cells p NoAnswer n f RegE = tt
answered_cells p NoAnswer n f RegH = tt
answered_cells p NoAnswer n f RegL = tt
answered_cells p ByteAnswer n f RegA = ltb-true n 256 f
answered_cells p ByteAnswer n f RegB = tt
answered_cells p ByteAnswer n f RegC = tt
answered_cells p ByteAnswer n f RegD = tt
answered_cells p ByteAnswer n f RegE = tt
answered_cells p ByteAnswer n f RegH = tt
answered_cells p ByteAnswer n f RegL = ltb-true n 256 f
answered_cells p WordAnswer n f RegA = omega arith
answered_cells p WordAnswer n f RegB = let lt = ltb-true n 0x10000 f in omega (arith, lt)
answered_cells p WordAnswer n f RegC = tt
answered_cells p WordAnswer n f RegD = tt
answered_cells p WordAnswer n f RegE = tt
answered_cells p WordAnswer n f RegH = let lt = ltb-true n 0x10000 f in omega (arith, lt)
answered_cells p WordAnswer n f RegL = omega arith

-- what a direct call does not lose
abbrev pub IsNotLost : Part → Type 0
IsNotLost B = ⊥
IsNotLost L = ⊥
IsNotLost r = Unit {0}

-- what the 8080 holds after a reply
pub state80_after : (p : Program) (t : State80) (q : Request) (y : Reply) → answer_fits (answer_kind_of q) y.answer ≡ true → BlocksAreBytes y.writes → (place : Place) (sp : ℕ) → IsState80 p t → sp < 0x10000 → IsState80 p (after_reply80 p t place sp q y)
state80_after p t q y fit bytes place sp is lt = record {
  regs = answered_cells p (answer_kind_of q) y.answer fit;
  mem = λ a is_open. by_below a is_open (is_just_below t.sp a && not (is_closed p a));
  sp = lt;
}
  where
    by_below : (a : ℕ) → is_closed p a ≡ false → (b : Bool) → IsCell p (cond b Junk (put_blocks80 t.mem y.writes a))
    by_below a is_open true = tt
    by_below a is_open false = blocks_cells p t.mem y.writes a bytes (is.mem a is_open)

-- states after a reply: `u` is the 8086 where it waits, over memory that is spoiled below the 8080's SP

module _ (p : Program) (offset : Place → Option ℕ) (t : State80) (u : State86) (q : Request) (y : Reply) (passes : ℕ → Bool) (fit : ReplyFits passes q y) (bytes : BlocksAreBytes y.writes) (sight : IsSight p offset t u.mem) where
  -- what is known of memory before the reply, once the cells below SP are lost
  abbrev lost : ℕ → Cell
  lost a = cond (is_just_below t.sp a) Junk (t.mem a)

  lost_stands : MemoryStands p offset lost u.mem
  lost_stands = record { cells = λ a lt is_open. by_below a lt is_open (is_just_below t.sp a) refl; bytes = sight.bytes }
    where
      by_below : (a : ℕ) → a < 0x10000 → is_closed p a ≡ false → (b : Bool) → is_just_below t.sp a ≡ b → Stands offset (cond b Junk (t.mem a)) (u.mem a)
      by_below a lt is_open true e = sight.bytes a
      by_below a lt is_open false e = sight.cells a lt is_open e

  written : MemoryStands p offset (put_blocks80 lost y.writes) (put_blocks u.mem y.writes)
  written = blocks_stand p offset passes lost u.mem y.writes fit.within bytes lost_stands

  pub memory_after : MemoryStands p offset (cells_after p t y) (put_blocks u.mem y.writes)
  memory_after = record { cells = λ a lt is_open. by_below a lt is_open (is_just_below t.sp a) refl; bytes = written.bytes }
    where
      by_below : (a : ℕ) → a < 0x10000 → is_closed p a ≡ false → (b : Bool) → is_just_below t.sp a ≡ b → Stands offset (cond (b && not (is_closed p a)) Junk (put_blocks80 t.mem y.writes a)) (put_blocks u.mem y.writes a)
      by_below a lt is_open true e = subst (λ k. Stands offset (cond (not k) Junk (put_blocks80 t.mem y.writes a)) (put_blocks u.mem y.writes a)) (sym is_open) (written.bytes a)
      by_below a lt is_open false e =
          subst (λ c. Stands offset c (put_blocks u.mem y.writes a)) (blocks_same80 lost t.mem y.writes a (ap (λ k. cond k Junk (t.mem a)) e)) (written.cells a lt is_open)

  word_small : (h l : ℕ) → h < 256 → l < 256 → word h l < 0x10000
  word_small h l a b = omega (arith, a, b)

  pub state86_after : (choice : ℕ) → IsState86 u → IsState86 (after_reply86 u q y choice)
  state86_after choice is = record {
    regs = answered_bytes (answer_kind_of q) y.answer (chosen_regs choice) fit.answer (chosen_bytes choice);
    mem = written.bytes;
    sp = is.sp;
    si = word_small (byte_of choice 72) (byte_of choice 64) (chosen_byte choice 72) (chosen_byte choice 64);
    ds = is.ds;
  }

  -- the registers, where the answers are moved as the runtime does it, and where they are not
  pub moved_parts : (place : Place) (sp choice : ℕ) (w : State86) → w.regs ≡ moved_regs (after_reply86 u q y choice).regs → (r : Part) → StandsIn offset (after_reply80 p t place sp q y) w r
  moved_parts place sp choice w e r = by_part r
    where
      reg : (k : Reg) → RegStands offset (answered80 (answer_kind_of q) y.answer) w.regs k
      reg k = subst (λ z. RegStands offset (answered80 (answer_kind_of q) y.answer) z k) (sym e) (moved_stand offset (answer_kind_of q) y.answer (chosen_regs choice) (chosen_bytes choice) k)

      by_part : (r : Part) → StandsIn offset (after_reply80 p t place sp q y) w r
      by_part A = reg RegA
      by_part B = reg RegB
      by_part C = reg RegC
      by_part D = reg RegD
      by_part E = reg RegE
      by_part H = reg RegH
      by_part L = reg RegL
      by_part S = tt
      by_part Z = tt
      by_part Ac = tt
      by_part P = tt
      by_part Cy = tt

  pub direct_parts : (place : Place) (sp choice : ℕ) (r : Part) → IsNotLost r → StandsIn offset (after_reply80 p t place sp q y) (after_reply86 u q y choice) r
  direct_parts place sp choice r k = by_part r k
    where
      reg : (k : Reg) → (IsLost k → ⊥) → RegStands offset (answered80 (answer_kind_of q) y.answer) (answered86 (answer_kind_of q) y.answer (chosen_regs choice)) k
      reg k n = answers_stand offset (answer_kind_of q) y.answer (chosen_regs choice) (chosen_bytes choice) k n

      by_part : (r : Part) → IsNotLost r → StandsIn offset (after_reply80 p t place sp q y) (after_reply86 u q y choice) r
      by_part A k = reg RegA (λ e. e)
      by_part B k = absurd k
      by_part C k = reg RegC (λ e. e)
      by_part D k = reg RegD (λ e. e)
      by_part E k = reg RegE (λ e. e)
      by_part H k = reg RegH (λ e. e)
      by_part L k = absurd k
      by_part S k = tt
      by_part Z k = tt
      by_part Ac k = tt
      by_part P k = tt
      by_part Cy k = tt
