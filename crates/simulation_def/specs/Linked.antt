-- When a run of the tagged 8080 at a block's first instruction, and a run of the 8086, are in step.
use Rattle.std.specs.Prelude.{◌≡◌, ◌<◌, ℕ, true, false, List, [], ◌∷◌, Option, Some, ◌⊎◌}
use Rattle.cells.specs.declared.Place.{Place}
use Rattle.cells.specs.declared.Place.TheVariants.{At, Exit}
use Rattle.cells.specs.declared.Rule.{Rule}
use Rattle.cells.specs.declared.Part.{Part}
use Rattle.cells.specs.declared.Part.TheVariants.{A, B, C, D, E, H, L, S, Z, Ac, P, Cy}
use Rattle.cells.specs.Parts.{has}
use Rattle.cells.specs.Conditions.{Knows}
use Rattle.dialogue.specs.Run.{Run, Going, Waiting, Over}
use Rattle.asm86_line_types.specs.declared.line.Label.{Label}
use Rattle.asm80_types.specs.Program.{Program}
use Rattle.cpu80_tagged.specs.State.{State80}
use Rattle.cpu80_tagged.specs.Memory.{is_closed}
use Rattle.cpu86.specs.State.{State86}
use Rattle.cpu86.specs.Call.{Stop}
use Rattle.sym_block_def.specs.Stands.{label_of, Stands}
use Rattle.sym_block_def.specs.BlockMatch.{Keeps, kept_at}
use Rattle.simulation_def.specs.States.{IsState80, IsState86}

-- a block of a cut: its first address, and how many instructions it has
abbrev pub HasBlock : List (ℕ × ℕ) → ℕ → ℕ → Type 0
HasBlock [] first count = ⊥
HasBlock (b ∷ bs) first count = ((b.0 ≡ first) × (b.1 ≡ count)) ⊎ HasBlock bs first count

-- how many instructions the block of a cut has at a place; EXIT counts as a block of one, whose label is X_END and which keeps no part
abbrev pub HasBlockAt : List (ℕ × ℕ) → Place → ℕ → Type 0
HasBlockAt cut (At a) count = HasBlock cut a count
HasBlockAt cut Exit count = count ≡ 1

-- the first place of a block
abbrev pub IsFirstOf : List (ℕ × ℕ) → Place → Type 0
IsFirstOf cut q = (count : ℕ) × HasBlockAt cut q count

-- what the 8080 holds in a part stands for what the 8086 holds in its place
abbrev pub StandsIn : (Place → Option ℕ) → State80 → State86 → Part → Type 0
StandsIn offset s t A = Stands offset s.regs.a t.regs.al
StandsIn offset s t B = Stands offset s.regs.b t.regs.ch
StandsIn offset s t C = Stands offset s.regs.c t.regs.cl
StandsIn offset s t D = Stands offset s.regs.d t.regs.dh
StandsIn offset s t E = Stands offset s.regs.e t.regs.dl
StandsIn offset s t H = Stands offset s.regs.h t.regs.bh
StandsIn offset s t L = Stands offset s.regs.l t.regs.bl
StandsIn offset s t S = Knows s.flags.s t.flags.sf
StandsIn offset s t Z = Knows s.flags.z t.flags.zf
StandsIn offset s t Ac = Knows s.flags.ac t.flags.af
StandsIn offset s t P = Knows s.flags.p t.flags.pf
StandsIn offset s t Cy = Knows s.flags.cy t.flags.cf

-- the offset of a place's label
abbrev pub places : (Label → Option ℕ) → Place → Option ℕ
places offset q = offset (label_of q)

-- Linked: both run; the 8080 is at a block's first instruction, whose label is at ip; SS is DS, and the two SP are equal; each part
-- that is kept there, and each cell that is not closed, stands for the 8086's; what registers and such cells hold are bytes, and
-- places that are taken or EXIT; the DMA addresses, the dialogues and the replies left are the same.
pub record Linked (p : Program) (offset : Label → Option ℕ) (cut : List (ℕ × ℕ)) (keeps : Keeps) (x : Run State80 Rule) (y : Run State86 Stop) : Type 0 where
  pub going80 : x.status ≡ Going
  pub going86 : y.status ≡ Going
  pub first : IsFirstOf cut x.state.place
  pub at_label : places offset x.state.place ≡ Some y.state.ip
  pub segments : y.state.ss ≡ y.state.ds
  pub sp : y.state.sp ≡ x.state.sp
  pub parts : (q : Part) → has (kept_at keeps x.state.place) q ≡ true → StandsIn (places offset) x.state y.state q
  pub cells : (a : ℕ) → a < 0x10000 → is_closed p a ≡ false → Stands (places offset) (x.state.mem a) (y.state.mem a)
  pub state80 : IsState80 p x.state
  pub state86 : IsState86 y.state
  pub dma : y.state.dma ≡ x.state.dma
  pub dialogue : y.dialogue ≡ x.dialogue
  pub replies : y.replies ≡ x.replies

-- Paired: linked; or both have ended, or both wait, with the same dialogue.
pub data Paired (p : Program) (offset : Label → Option ℕ) (cut : List (ℕ × ℕ)) (keeps : Keeps) (x : Run State80 Rule) (y : Run State86 Stop) : Type 0 where
  linked : Linked p offset cut keeps x y → Paired p offset cut keeps x y
  ended : x.status ≡ Over → y.status ≡ Over → y.dialogue ≡ x.dialogue → Paired p offset cut keeps x y
  waiting : x.status ≡ Waiting → y.status ≡ Waiting → y.dialogue ≡ x.dialogue → Paired p offset cut keeps x y
