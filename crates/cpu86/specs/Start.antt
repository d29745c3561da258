-- The start of an image, and its run.
use Rattle.std.specs.Prelude.{◌≢◌, ℕ, ◌-◌, ◌/◌, ◌%◌, ◌^◌, ◌<◌, ◌&&◌, nat_lt, nat_le, cond, List, [], All, Option, slice_index}
use Rattle.i86.specs.declared.Instr86.{Instr86}
use Rattle.dialogue.specs.declared.request.Reply.{Reply}
use Rattle.dialogue.specs.ByteMemory.{put_cells}
use Rattle.asm86_line_types.specs.Image.{Image}
use Rattle.dialogue.specs.Run.{Run, turns, start_run}
use Rattle.cpu86.specs.State.{State86}
use Rattle.cpu86.specs.Call.{Stop}
use Rattle.cpu86.specs.Flags.{chosen_flags}
use Rattle.cpu86.specs.Step.{machine86}

-- what the registers, segments and flags hold at the start; bits 0 to 4 of `flags` are SF ZF AF PF CF
pub record Start : Type 0 where
  pub ax : ℕ
  pub cx : ℕ
  pub dx : ℕ
  pub bx : ℕ
  pub sp : ℕ
  pub si : ℕ
  pub ds : ℕ
  pub ss : ℕ
  pub flags : ℕ

-- words, and a byte of flags
pub record IsStart (r : Start) : Type 0 where
  pub ax : r.ax < 0x10000
  pub cx : r.cx < 0x10000
  pub dx : r.dx < 0x10000
  pub bx : r.bx < 0x10000
  pub sp : r.sp < 0x10000
  pub si : r.si < 0x10000
  pub ds : r.ds < 0x10000
  pub ss : r.ss < 0x10000
  pub flags : r.flags < 256

-- the choices for undefined results: one at least, each below 2 ^ 128
pub record AreChoices (choices : List ℕ) : Type 0 where
  pub some : choices ≢ []
  pub small : All (λ c. c < 2 ^ 128) choices

-- the fill, and the page over it
abbrev pub start_byte : List ℕ → List ℕ → ℕ → ℕ
start_byte fill page a = cond (nat_le 0x5C a && nat_lt a 0x100) (slice_index page (a - 0x5C)) (slice_index fill a)

abbrev pub start86 : Image → List ℕ → List ℕ → Start → State86
start86 image page fill r = record {
  regs = record {
    al = r.ax % 256;
    ah = r.ax / 256;
    cl = r.cx % 256;
    ch = r.cx / 256;
    dl = r.dx % 256;
    dh = r.dx / 256;
    bl = r.bx % 256;
    bh = r.bx / 256;
  };
  sp = r.sp;
  si = r.si;
  ip = 0;
  ds = r.ds;
  ss = r.ss;
  flags = chosen_flags r.flags 0;
  mem = put_cells (start_byte fill page) image.cells;
  dma = 0x80;
}

-- the run of an image after m turns, where `fetch` gives the instruction that stands at each offset of its code
abbrev pub run86 : (ℕ → Option Instr86) → Image → List ℕ → List ℕ → Start → List ℕ → List Reply → ℕ → Run State86 Stop
run86 fetch image page fill start choices replies m =
    turns (machine86 fetch) choices m (start_run (start86 image page fill start) replies)
