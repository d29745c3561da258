-- What micro-operations do, as terms.
use Rattle.std.specs.Prelude.{ℕ, ◌+◌, ◌<◌, cond, List, [], ◌∷◌}
use Rattle.cells.specs.declared.Part.{Part}
use Rattle.cells.specs.declared.Part.TheVariants.{S as PartS, Z as PartZ, Ac as PartAc, P as PartP, Cy as PartCy}
use Rattle.i80.specs.declared.Op.TheVariants.{Xra}
use Rattle.sym_terms.specs.Term.{Term, Num, Start, StartSp, Loaded8, Loaded16, Turned, Code, Unknown}
use Rattle.sym_terms.specs.Making.{alu, flag, sum16, half_of, high, low, join, bit, turn, adjust}
use Rattle.sym_block_def.specs.Outcome.{Action, Load8, Load16, Store8, Store16, Held, Trace, no_actions, loading, storing}
use Rattle.sym_block_def.specs.Block80.{Symbolic80, reg_term, with_reg, pair_term, with_pair, operation, carry_in, a_after, flag_byte}
use Rattle.sym_block_def.specs.Symbolic86.{Symbolic86, reg8_term, with_reg8, reg16_term, with_reg16, pointed, turn_kind, turn_carry, brought_back}
use Rattle.sym_micro.specs.declared.micro.ByteSlot.{ByteSlot}
use Rattle.sym_micro.specs.declared.micro.ByteSlot.TheVariants.{Of80 as Byte80, Of86 as Byte86, T, U}
use Rattle.sym_micro.specs.declared.micro.FlagSlot.{FlagSlot}
use Rattle.sym_micro.specs.declared.micro.FlagSlot.TheVariants.{S, Z, Ac, P, Cy}
use Rattle.sym_micro.specs.declared.micro.WordSlot.{WordSlot}
use Rattle.sym_micro.specs.declared.micro.WordSlot.TheVariants.{V, W, X}
use Rattle.sym_micro.specs.declared.micro.Wide.{Wide}
use Rattle.sym_micro.specs.declared.micro.Wide.TheVariants.{Of80 as Wide80, Of86 as Wide86}
use Rattle.sym_micro.specs.declared.micro.FlagSet.{FlagSet}
use Rattle.sym_micro.specs.declared.micro.FlagSet.TheVariants.{All, AllButCy}
use Rattle.sym_micro.specs.declared.micro.ByteValue.{ByteValue}
use Rattle.sym_micro.specs.declared.micro.ByteValue.TheVariants.{Of as OfByte, Number as NumberByte, Start as StartByte, Code as CodeByte, Half, Result, After, Turned as TurnedByte, Loaded as LoadedByte}
use Rattle.sym_micro.specs.declared.micro.WordValue.{WordValue}
use Rattle.sym_micro.specs.declared.micro.WordValue.TheVariants.{Of as OfWide, Pointed, Number as NumberWord, Join as JoinWord, StartSp as StartSpWord, Turned as TurnedWord, Loaded as LoadedWord, Unknown as UnknownWord}
use Rattle.sym_micro.specs.declared.micro.FlagValue.{FlagValue}
use Rattle.sym_micro.specs.declared.micro.FlagValue.TheVariants.{Number as NumberFlag, Start as StartFlag, OfResult, OfTurned, InByte, BroughtBack, Unknown as UnknownFlag}
use Rattle.sym_micro.specs.declared.micro.Micro.{Micro}
use Rattle.sym_micro.specs.declared.micro.Micro.TheVariants.{Byte, Word, Flag as FlagMicro, Flags as FlagsMicro, Put, Sum, FlagByte as FlagByteMicro, Complement, Operate, Adjust, Turn, Load8 as LoadByte, Load16 as LoadWord, Store8 as StoreByte, Store16 as StoreWord}

-- the terms of the registers: those of the processors, and those that instructions use on the way
pub record Machine : Type 0 where
  pub held : Held
  pub ah : Term
  pub si : Term
  pub sp : Term
  pub t : Term
  pub u : Term
  pub v : Term
  pub w : Term
  pub x : Term
  pub result : Term
  pub turned : Term
  pub trace : Trace

-- what each processor sees of it
abbrev pub as80 : Machine → Symbolic80
as80 m = record { held = m.held; sp = m.sp; trace = m.trace }

abbrev pub as86 : Machine → Symbolic86
as86 m = record { held = m.held; ah = m.ah; si = m.si; sp = m.sp; trace = m.trace }

-- a machine of which a processor sees this, and that is as it was beside it
abbrev pub with80 : Machine → Symbolic80 → Machine
with80 m s = record m { held = s.held; sp = s.sp; trace = s.trace }

abbrev pub with86 : Machine → Symbolic86 → Machine
with86 m s = record m { held = s.held; ah = s.ah; si = s.si; sp = s.sp; trace = s.trace }

-- a machine of which nothing is known, before any load or store
abbrev pub nothing_known : Machine
nothing_known = record {
  held = record { a = Unknown; b = Unknown; c = Unknown; d = Unknown; e = Unknown; h = Unknown; l = Unknown; s = Unknown; z = Unknown; ac = Unknown; p = Unknown; cy = Unknown };
  ah = Unknown;
  si = Unknown;
  sp = Unknown;
  t = Unknown;
  u = Unknown;
  v = Unknown;
  w = Unknown;
  x = Unknown;
  result = Unknown;
  turned = Unknown;
  trace = no_actions;
}

-- registers

abbrev pub byte_in : Machine → ByteSlot → Term
byte_in m (Byte80 r) = reg_term m.held r
byte_in m (Byte86 r) = reg8_term (as86 m) r
byte_in m T = m.t
byte_in m U = m.u

abbrev pub with_byte : Machine → ByteSlot → Term → Machine
with_byte m (Byte80 r) q = record m { held = with_reg m.held r q }
with_byte m (Byte86 r) q = with86 m (with_reg8 (as86 m) r q)
with_byte m T q = record m { t = q }
with_byte m U q = record m { u = q }

abbrev pub word_in : Machine → WordSlot → Term
word_in m V = m.v
word_in m W = m.w
word_in m X = m.x

abbrev pub with_word : Machine → WordSlot → Term → Machine
with_word m V q = record m { v = q }
with_word m W q = record m { w = q }
with_word m X q = record m { x = q }

abbrev pub with_flag : Machine → FlagSlot → Term → Machine
with_flag m S q = record m { held = record (m.held) { s = q } }
with_flag m Z q = record m { held = record (m.held) { z = q } }
with_flag m Ac q = record m { held = record (m.held) { ac = q } }
with_flag m P q = record m { held = record (m.held) { p = q } }
with_flag m Cy q = record m { held = record (m.held) { cy = q } }

abbrev pub part_of_flag : FlagSlot → Part
part_of_flag S = PartS
part_of_flag Z = PartZ
part_of_flag Ac = PartAc
part_of_flag P = PartP
part_of_flag Cy = PartCy

abbrev pub wide_in : Machine → Wide → Term
wide_in m (Wide80 pair) = pair_term (as80 m) pair
wide_in m (Wide86 r) = reg16_term (as86 m) r

abbrev pub with_halves : Machine → ByteSlot → ByteSlot → Term → Machine
with_halves m h l q = with_byte (with_byte m h (high q)) l (low q)

abbrev pub with_wide : Machine → Wide → Term → Machine
with_wide m (Wide80 pair) q = with80 m (with_pair (as80 m) pair q)
with_wide m (Wide86 r) q = with86 m (with_reg16 (as86 m) r q)

-- values

abbrev pub byte_value : Machine → ByteValue → Term
byte_value m (OfByte r) = byte_in m r
byte_value m (NumberByte n) = Num n
byte_value m (StartByte known part) = cond known (Start part) Unknown
byte_value m (CodeByte place is_high) = Code place is_high
byte_value m (Half w is_high) = half_of is_high (word_in m w)
byte_value m Result = m.result
byte_value m (After op) = a_after op m.held.a m.result
byte_value m TurnedByte = m.turned
byte_value m LoadedByte = Loaded8 m.trace.loads

abbrev pub word_value : Machine → WordValue → Term
word_value m (OfWide r) = wide_in m r
word_value m (Pointed p) = pointed (as86 m) p
word_value m (NumberWord n) = Num n
word_value m (JoinWord h l) = join (byte_in m h) (byte_in m l)
word_value m StartSpWord = StartSp
word_value m TurnedWord = Turned m.held.cy
word_value m LoadedWord = Loaded16 m.trace.loads
word_value m UnknownWord = Unknown

abbrev pub flag_value : Machine → FlagSlot → FlagValue → Term
flag_value m f (NumberFlag set) = Num (cond set 1 0)
flag_value m f (StartFlag known) = cond known (Start (part_of_flag f)) Unknown
flag_value m f OfResult = flag (part_of_flag f) m.result
flag_value m f OfTurned = flag PartCy m.turned
flag_value m f (InByte r) = bit (byte_in m r) (part_of_flag f)
flag_value m f (BroughtBack w) = brought_back (word_in m w)
flag_value m f UnknownFlag = Unknown

abbrev pub given_flag : Machine → FlagSlot → FlagValue → Machine
given_flag m f value = with_flag m f (flag_value m f value)

-- all but CY
abbrev pub given_four : Machine → FlagValue → Machine
given_four m value = given_flag (given_flag (given_flag (given_flag m S value) Z value) Ac value) P value

abbrev pub given_flags : Machine → FlagSet → FlagValue → Machine
given_flags m AllButCy value = given_four m value
given_flags m All value = given_flag (given_four m value) Cy value

-- loads and stores

abbrev pub loads_at : Machine → Action → Machine
loads_at m action = record m { trace = loading action m.trace }

abbrev pub stores_at : Machine → Action → Machine
stores_at m action = record m { trace = storing action m.trace }

abbrev pub acts_at : Machine → Action → Machine
acts_at m (Load8 a) = loads_at m (Load8 a)
acts_at m (Load16 a) = loads_at m (Load16 a)
acts_at m (Store8 a v) = stores_at m (Store8 a v)
acts_at m (Store16 a v) = stores_at m (Store16 a v)

-- the table
abbrev pub micro : Machine → Micro → Machine
micro m (Byte r value) = with_byte m r (byte_value m value)
micro m (Word w value) = with_word m w (word_value m value)
micro m (FlagMicro f value) = given_flag m f value
micro m (FlagsMicro fs value) = given_flags m fs value
micro m (Put r w) = with_wide m r (word_in m w)
micro m (Sum to a b) = with_word m to (sum16 (word_in m a) (word_in m b))
micro m (FlagByteMicro r) = with_byte m r (flag_byte m.held)
micro m Complement = with_flag m Cy (alu Xra m.held.cy (Num 1) (Num 0))
micro m (Operate op a b) = record m { result = alu (operation op) (byte_in m a) (byte_in m b) (carry_in op m.held.cy) }
micro m Adjust = record m { result = adjust m.held.a m.held.ac m.held.cy }
micro m (Turn kind r) = record m { turned = turn (turn_kind kind) (byte_in m r) (turn_carry kind m.held.cy) }
micro m (LoadByte w) = loads_at m (Load8 (word_in m w))
micro m (LoadWord w) = loads_at m (Load16 (word_in m w))
micro m (StoreByte w r) = stores_at m (Store8 (word_in m w) (byte_in m r))
micro m (StoreWord w v) = stores_at m (Store16 (word_in m w) (word_in m v))

-- one after the other
abbrev pub micros : Machine → List Micro → Machine
micros m [] = m
micros m (x ∷ xs) = micros (micro m x) xs

-- how many nodes they add at most
abbrev pub weight : Micro → ℕ
weight (Byte r value) = 1
weight (Word w value) = 1
weight (FlagMicro f value) = 1
weight (FlagsMicro All value) = 5
weight (FlagsMicro AllButCy value) = 4
weight (Put r w) = 2
weight (Sum to a b) = 2
weight (FlagByteMicro r) = 2
weight Complement = 3
weight (Operate op a b) = 2
weight Adjust = 1
weight (Turn kind r) = 2
weight (LoadByte w) = 0
weight (LoadWord w) = 0
weight (StoreByte w r) = 0
weight (StoreWord w v) = 0

abbrev pub weights : List Micro → ℕ
weights [] = 0
weights (x ∷ xs) = weight x + weights xs

-- how many loads and stores they are
abbrev pub moves : Micro → ℕ
moves (LoadByte w) = 1
moves (LoadWord w) = 1
moves (StoreByte w r) = 1
moves (StoreWord w v) = 1
moves x = 0

abbrev pub all_moves : List Micro → ℕ
all_moves [] = 0
all_moves (x ∷ xs) = moves x + all_moves xs

-- their numbers are in range
abbrev pub ByteIsCoded : ByteValue → Type 0
ByteIsCoded (NumberByte n) = n < 0x100
ByteIsCoded value = Unit {0}

abbrev pub WordIsCoded : WordValue → Type 0
WordIsCoded (NumberWord n) = n < 0x10000
WordIsCoded value = Unit {0}
