-- The blocks of a program: runs of at most sixteen instructions, into which control comes at the first alone and from which it goes
-- elsewhere behind the last alone.
use Rattle.std.specs.Prelude.{◌≡◌, ◌≢◌, ℕ, zero, suc, ◌+◌, ◌<◌, ◌≤◌, ◌==◌, ◌||◌, not, Bool, true, false, cond, List, [], ◌∷◌, map, filter_map, length, Option, Some, None}
use Rattle.std.specs.List.{Contains}
use Rattle.base.specs.Addresses.{is_among}
use Rattle.i80.specs.declared.Instr80.{Instr80}
use Rattle.i80.specs.declared.Instr80.TheVariants.{Jmp, Jif, Call, Cif}
use Rattle.i80.specs.Columns.{length80, ends80}
use Rattle.asm80_types.specs.declared.program.Placed.{Placed}
use Rattle.asm80_types.specs.Program.{Program, if_instr, instr_at, is_start}
use Rattle.asm80_types.specs.Taken.{taken_places}

-- the instruction that a jump or call goes to
abbrev pub target_of : Instr80 → Option ℕ
target_of (Jmp g) = if_instr g
target_of (Jif c g) = if_instr g
target_of (Call g) = if_instr g
target_of (Cif c g) = if_instr g
target_of i = None

abbrev pub target_placed : Placed → Option ℕ
target_placed x = target_of x.instr

abbrev pub targets : Program → List ℕ
targets p = filter_map target_placed p.instrs

-- control comes to the address from elsewhere: it is a target, or a place that is taken
abbrev pub is_entered : Program → ℕ → Bool
is_entered p a = is_among (targets p) a || is_among (taken_places p) a

-- the address behind an instruction
abbrev pub end_of : Placed → ℕ
end_of x = x.at + length80 x.instr

-- of two instructions that follow each other in the program, the second is the first of a block whatever stands before: the first
-- one ends a block, the second does not start right behind it, or control comes to it from elsewhere
abbrev pub is_cut : Program → Placed → Placed → Bool
is_cut p x y = ends80 x.instr || (not (end_of x == y.at) || is_entered p y.at)

-- an instruction in front of the first block
abbrev pub onto : Placed → List (List Placed) → List (List Placed)
onto x [] = (x ∷ []) ∷ []
onto x (b ∷ bs) = (x ∷ b) ∷ bs

-- instructions, cut into blocks; so many stand in the block of the first one before it. A block is cut there and after its sixteenth
abbrev pub cut_from : Program → ℕ → List Placed → List (List Placed)
cut_from p before [] = []
cut_from p before (x ∷ []) = (x ∷ []) ∷ []
cut_from p before (x ∷ (y ∷ ys)) =
    cond (is_cut p x y || (suc before == 16))
    ((x ∷ []) ∷ cut_from p 0 (y ∷ ys))
    (onto x (cut_from p (suc before) (y ∷ ys)))

-- the address of a block's first instruction, and how many it has
abbrev pub leader_of : List Placed → ℕ
leader_of [] = 0
leader_of (x ∷ xs) = x.at

abbrev pub extent : List Placed → ℕ × ℕ
extent b = (leader_of b, length b)

-- the blocks, ascending, each as its leader and the number of its instructions
abbrev pub blocks : Program → List (ℕ × ℕ)
blocks p = map extent (cut_from p 0 p.instrs)

abbrev pub leaders : Program → List ℕ
leaders p = map (λ (b : ℕ × ℕ). b.0) (blocks p)

abbrev pub count_in : List (ℕ × ℕ) → ℕ → Option ℕ
count_in [] a = None
count_in (b ∷ bs) a = cond (b.0 == a) (Some b.1) (count_in bs a)

-- the number of instructions of the block of a leader
abbrev pub block_at : Program → ℕ → Option ℕ
block_at p a = count_in (blocks p) a

abbrev pub IsBlockOf : Program → ℕ → ℕ → Type 0
IsBlockOf p a n = Contains (blocks p) (a, n)

abbrev pub IsLeader : Program → ℕ → Type 0
IsLeader p a = Contains (leaders p) a

abbrev pub address_after_instruction : ℕ → Option Instr80 → ℕ
address_after_instruction a None = a
address_after_instruction a (Some i) = a + length80 i

-- the address behind so many instructions that stand one after the other
abbrev pub place_after : Program → ℕ → ℕ → ℕ
place_after p a zero = a
place_after p a (suc n) = place_after p (address_after_instruction a (instr_at p a)) n

-- from the address on so many instructions stand one after the other, of which the last alone may end a block
abbrev pub IsStraight : Program → ℕ → ℕ → Type 0
IsStraight p a zero = Unit {0}
IsStraight p a (suc n) = (i : Instr80) × (instr_at p a ≡ Some i) × (0 < n → ends80 i ≡ false) × IsStraight p (a + length80 i) n

-- no instruction ends just before the address
abbrev pub IsBehindNone : Program → ℕ → Type 0
IsBehindNone p a = (b : ℕ) (i : Instr80) → instr_at p b ≡ Some i → b + length80 i ≢ a

-- why a block begins at an address: it is 100H, a target, or a place that is taken; an instruction that ends a block ends just
-- before it; none ends there; or a block of sixteen does
pub data Cause (p : Program) (a : ℕ) : Type 0 where
  First : (is : a ≡ 0x100) → Cause p a
  Target : (b : ℕ) (i : Instr80) (here : instr_at p b ≡ Some i) (goes : target_of i ≡ Some a) → Cause p a
  Taken : (among : Contains (taken_places p) a) → Cause p a
  BehindEnd : (b : ℕ) (i : Instr80) (here : instr_at p b ≡ Some i) (ends : ends80 i ≡ true) (place : b + length80 i ≡ a) → Cause p a
  BehindNone : (none : IsBehindNone p a) → Cause p a
  BehindSixteen : (b : ℕ) (block : IsBlockOf p b 16) (place : place_after p b 16 ≡ a) → Cause p a

-- blocks are straight runs of 1 to 16 instructions; each instruction is one of exactly one block; and control goes from a block to
-- leaders alone
pub record BlocksCut (p : Program) : Type 0 where
  pub sizes : (a n : ℕ) → IsBlockOf p a n → (1 ≤ n) × (n ≤ 16)
  pub straight : (a n : ℕ) → IsBlockOf p a n → IsStraight p a n
  pub has_leader : (a n : ℕ) → IsBlockOf p a n → IsLeader p a
  pub has_block : (a : ℕ) → IsLeader p a → (n : ℕ) × IsBlockOf p a n
  pub found : (a n : ℕ) → IsBlockOf p a n → block_at p a ≡ Some n
  pub covers : (a : ℕ) → is_start p a ≡ true → (b : ℕ) × (n : ℕ) × (k : ℕ) × IsBlockOf p b n × (k < n) × (place_after p b k ≡ a)
  pub once : (a n k b m j : ℕ) → IsBlockOf p a n → k < n → IsBlockOf p b m → j < m → place_after p a k ≡ place_after p b j → (a ≡ b) × (n ≡ m) × (k ≡ j)
  pub first : IsLeader p 0x100
  pub target : (a t : ℕ) (i : Instr80) → instr_at p a ≡ Some i → target_of i ≡ Some t → IsLeader p t
  pub is_taken : (a : ℕ) → Contains (taken_places p) a → IsLeader p a
  pub behind_end : (a : ℕ) (i : Instr80) → instr_at p a ≡ Some i → ends80 i ≡ true → is_start p (a + length80 i) ≡ true → IsLeader p (a + length80 i)
  pub behind_gap : (a : ℕ) → is_start p a ≡ true → IsBehindNone p a → IsLeader p a
  pub behind_block : (a n : ℕ) → IsBlockOf p a n → is_start p (place_after p a n) ≡ true → IsLeader p (place_after p a n)
  pub cause : (a : ℕ) → IsLeader p a → Cause p a
