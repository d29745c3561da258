-- A value for each part: what the 8086 holds, where the part is kept, and else one that stands for what the 8080 holds.
use Rattle.std.proofs.Common.{◌≡◌, ℕ, ◌+◌, ◌*◌, ◌/◌, ◌%◌, ◌<◌, Bool, true, false, List, [], Option, Some, None, refl, sym, subst, arith}
use Rattle.cells.specs.declared.Rule.{Rule}
use Rattle.cells.specs.declared.Flags.{Flags}
use Rattle.cells.specs.declared.Cell.{Cell}
use Rattle.cells.specs.declared.Cell.TheVariants.{Num, Lo, Hi, Psw, Junk}
use Rattle.cells.specs.declared.Part.{Part}
use Rattle.cells.specs.declared.Part.TheVariants.{A, B, C, D, E, H, L, S, Z, Ac, P, Cy}
use Rattle.cells.specs.Parts.{Parts, has}
use Rattle.cells.specs.Conditions.{Knows, KnowsBits}
use Rattle.i80.specs.declared.Reg.TheVariants.{A as RegA, B as RegB, C as RegC, D as RegD, E as RegE, H as RegH, L as RegL}
use Rattle.i86.specs.declared.Reg8.TheVariants.{Al, Cl, Ch, Dl, Dh, Bl, Bh}
use Rattle.base.specs.Arithmetic.{as_bit}
use Rattle.base.proofs.Bytes.{bit_small, flag_bits}
use Rattle.dialogue.specs.Run.{Run}
use Rattle.asm86_line_types.specs.declared.line.Label.{Label}
use Rattle.asm80_types.specs.Program.{Program}
use Rattle.cpu80_tagged.specs.State.{State80}
use Rattle.cpu86.specs.State.{State86}
use Rattle.cpu86.specs.Call.{Stop}
use Rattle.sym_terms.specs.Values86.{Env86, start86}
use Rattle.sym_block_def.specs.Stands.{IsHalf, Stands}
use Rattle.sym_block_def.specs.BlockMatch.{Keeps, kept_at}
use Rattle.simulation_def.specs.States.{IsCell}
use Rattle.simulation_def.specs.Runs80.{env80}
use Rattle.simulation_def.specs.Runs86.{part86}
use Rattle.simulation_def.specs.Linked.{places, Linked}
use Rattle.simulation_law.specs.Linked.{StartStands}
use Rattle.simulation_law.specs.Environments.{HasLabels, HasEnvs}

-- a byte with five flags

-- a flag that is not known counts as 0
abbrev flag_or_no : Option Bool → Bool
flag_or_no None = false
flag_or_no (Some b) = b

is_known : (o : Option Bool) (b : Bool) → b ≡ flag_or_no o → Knows o b
is_known None b e = tt
is_known (Some v) b e = e

byte_with : (f : Flags) → (n : ℕ) × (n < 256) × KnowsBits f n
byte_with f =
    let s = flag_or_no f.s in
    let z = flag_or_no f.z in
    let a = flag_or_no f.ac in
    let p = flag_or_no f.p in
    let c = flag_or_no f.cy in
    let n = 128 * as_bit s + 64 * as_bit z + 32 * as_bit false + 16 * as_bit a + 8 * as_bit false + 4 * as_bit p + 2 * as_bit false + as_bit c in
    let b = flag_bits n s z false a false p false c refl in (
      n,
      b.0,
      record {
        s = is_known f.s _ b.1;
        z = is_known f.z _ b.2;
        ac = is_known f.ac _ b.3;
        p = is_known f.p _ b.4;
        cy = is_known f.cy _ b.5;
      },
    )

-- a flag
abbrev ChosenFlag : Bool → Option Bool → Bool → Type 0
ChosenFlag kept o now = (b : Bool) × (kept ≡ true → as_bit b ≡ as_bit now) × Knows o b

choose_flag : (kept : Bool) (o : Option Bool) (now : Bool) → (kept ≡ true → Knows o now) → ChosenFlag kept o now
choose_flag true o now k = (now, λ e. refl, k refl)
choose_flag false None now k = (false, λ e. absurd (cc), tt)
choose_flag false (Some v) now k = (v, λ e. absurd (cc), refl)

module _ (p : Program) (offset : Label → Option ℕ) (labels : HasLabels p offset) where
  -- a byte that stands for a cell
  byte_for : (c : Cell) → IsCell p c → (n : ℕ) × Stands (places offset) c n × (n < 256)
  byte_for (Num n) h = (n, refl, h)
  byte_for (Lo q) h = let l = labels q h in (l.0 % 256, subst (λ o. IsHalf (λ n. n % 256) o (l.0 % 256)) (sym l.1) refl, omega arith)
  byte_for (Hi q) h = let l = labels q h in let few = l.2 in (l.0 / 256, subst (λ o. IsHalf (λ n. n / 256) o (l.0 / 256)) (sym l.1) refl, omega (arith, few))
  byte_for (Psw f) h = let b = byte_with f in (b.0, (b.1, b.2), b.1)
  byte_for Junk h = (0, omega arith, omega arith)

  abbrev ChosenByte : Bool → Cell → ℕ → Type 0
  ChosenByte kept c now = (n : ℕ) × (kept ≡ true → n ≡ now) × (n < 256) × Stands (places offset) c n

  choose : (kept : Bool) (c : Cell) (now : ℕ) → IsCell p c → now < 256 → (kept ≡ true → Stands (places offset) c now) → ChosenByte kept c now
  choose true c now h small s = (now, λ e. refl, small, s refl)
  choose false c now h small s = let b = byte_for c h in (b.0, λ e. absurd (cc), b.2, b.1)

  pub has_envs : (cut : List (ℕ × ℕ)) (keeps : Keeps) (x : Run State80 Rule) (y : Run State86 Stop) → Linked p offset cut keeps x y → HasEnvs p offset (kept_at keeps x.state.place) x.state y.state
  has_envs cut keeps x y l =
      record {
        env = env;
        is_env = record { starts = starts; bytes = bytes; sp = refl; offsets = λ q. refl };
        unloaded = refl;
        envs = record { starts = stand; sp = l.sp; sp_fits = l.state80.sp; loads = tt; offsets = λ q. refl };
        memory = record { cells = l.cells; bytes = l.state86.mem };
      }
    where
      s : State80
      s = x.state

      t : State86
      t = y.state

      keep : Parts
      keep = kept_at keeps x.state.place

      of_a : ChosenByte keep.a s.regs.a t.regs.al
      of_a = choose keep.a s.regs.a t.regs.al (l.state80.regs RegA) (l.state86.regs Al) (l.parts A)

      of_b : ChosenByte keep.b s.regs.b t.regs.ch
      of_b = choose keep.b s.regs.b t.regs.ch (l.state80.regs RegB) (l.state86.regs Ch) (l.parts B)

      of_c : ChosenByte keep.c s.regs.c t.regs.cl
      of_c = choose keep.c s.regs.c t.regs.cl (l.state80.regs RegC) (l.state86.regs Cl) (l.parts C)

      of_d : ChosenByte keep.d s.regs.d t.regs.dh
      of_d = choose keep.d s.regs.d t.regs.dh (l.state80.regs RegD) (l.state86.regs Dh) (l.parts D)

      of_e : ChosenByte keep.e s.regs.e t.regs.dl
      of_e = choose keep.e s.regs.e t.regs.dl (l.state80.regs RegE) (l.state86.regs Dl) (l.parts E)

      of_h : ChosenByte keep.h s.regs.h t.regs.bh
      of_h = choose keep.h s.regs.h t.regs.bh (l.state80.regs RegH) (l.state86.regs Bh) (l.parts H)

      of_l : ChosenByte keep.l s.regs.l t.regs.bl
      of_l = choose keep.l s.regs.l t.regs.bl (l.state80.regs RegL) (l.state86.regs Bl) (l.parts L)

      of_s : ChosenFlag keep.s s.flags.s t.flags.sf
      of_s = choose_flag keep.s s.flags.s t.flags.sf (l.parts S)

      of_z : ChosenFlag keep.z s.flags.z t.flags.zf
      of_z = choose_flag keep.z s.flags.z t.flags.zf (l.parts Z)

      of_ac : ChosenFlag keep.ac s.flags.ac t.flags.af
      of_ac = choose_flag keep.ac s.flags.ac t.flags.af (l.parts Ac)

      of_p : ChosenFlag keep.p s.flags.p t.flags.pf
      of_p = choose_flag keep.p s.flags.p t.flags.pf (l.parts P)

      of_cy : ChosenFlag keep.cy s.flags.cy t.flags.cf
      of_cy = choose_flag keep.cy s.flags.cy t.flags.cf (l.parts Cy)

      env : Env86
      env = record {
        a = of_a.0;
        b = of_b.0;
        c = of_c.0;
        d = of_d.0;
        e = of_e.0;
        h = of_h.0;
        l = of_l.0;
        s = of_s.0;
        z = of_z.0;
        ac = of_ac.0;
        p = of_p.0;
        cy = of_cy.0;
        sp = t.sp;
        loads = [];
        offset = places offset;
      }

      starts : (q : Part) → has keep q ≡ true → start86 env q ≡ part86 t q
      starts A = of_a.1
      starts B = of_b.1
      starts C = of_c.1
      starts D = of_d.1
      starts E = of_e.1
      starts H = of_h.1
      starts L = of_l.1
      starts S = of_s.1
      starts Z = of_z.1
      starts Ac = of_ac.1
      starts P = of_p.1
      starts Cy = of_cy.1

      bit_is_byte : (b : Bool) → as_bit b < 256
      bit_is_byte b = let h = bit_small b in omega (arith, h)

      bytes : (q : Part) → start86 env q < 256
      bytes A = of_a.2
      bytes B = of_b.2
      bytes C = of_c.2
      bytes D = of_d.2
      bytes E = of_e.2
      bytes H = of_h.2
      bytes L = of_l.2
      bytes S = bit_is_byte of_s.0
      bytes Z = bit_is_byte of_z.0
      bytes Ac = bit_is_byte of_ac.0
      bytes P = bit_is_byte of_p.0
      bytes Cy = bit_is_byte of_cy.0

      stand : (q : Part) → StartStands (places offset) (env80 s []) env q
      stand A = of_a.3
      stand B = of_b.3
      stand C = of_c.3
      stand D = of_d.3
      stand E = of_e.3
      stand H = of_h.3
      stand L = of_l.3
      stand S = of_s.2
      stand Z = of_z.2
      stand Ac = of_ac.2
      stand P = of_p.2
      stand Cy = of_cy.2
