-- What the ids of a run stand for.
use Rattle.std.specs.Prelude.{◌≡◌, ℕ, ◌+◌, ◌≤◌, true, List, [], ◌∷◌, length, Option, IsSome, MatchOption}
use Rattle.std.specs.Vec.{vec_capacity}
use Rattle.cells.specs.declared.Part.{Part}
use Rattle.cells.specs.declared.Part.TheVariants.{A as PartA, B as PartB, C as PartC, D as PartD, E as PartE, H as PartH, L as PartL, S as PartS, Z as PartZ, Ac as PartAc, P as PartP, Cy as PartCy}
use Rattle.i80.specs.declared.Reg.{Reg as Register}
use Rattle.i80.specs.declared.Reg.TheVariants.{A as RegA, B as RegB, C as RegC, D as RegD, E as RegE, H as RegH, L as RegL}
use Rattle.i80.specs.declared.Op.{Op}
use Rattle.i80.specs.declared.Op.TheVariants.{Cmp}
use Rattle.i86.specs.declared.Reg8.{Reg8}
use Rattle.i86.specs.declared.Reg8.TheVariants.{Al, Cl, Dl, Bl, Ah, Ch, Dh, Bh}
use Rattle.xlt_pool.specs.Contents.{Contents}
use Rattle.sym_terms.specs.declared.head.Term.{Term as TermId}
use Rattle.sym_terms.specs.Term.{Term, is_flag, is_byte, is_word, leaves_flag}
use Rattle.sym_terms.specs.Laws.{IsMadeAs}
use Rattle.sym_terms.specs.Trees.{tree_in, IsGiven, StandsFor, AreTerms, PoolGrows}
use Rattle.sym_block_def.specs.Outcome.{Action, Load8, Load16, Store8, Store16, Held}
use Rattle.sym_block_def.specs.Sorts.{HeldIsSorted}
use Rattle.sym_micro.specs.declared.outcome.Action.{Action as ActionId}
use Rattle.sym_micro.specs.declared.outcome.Action.TheVariants.{Load8 as Load8Id, Load16 as Load16Id, Store8 as Store8Id, Store16 as Store16Id}
use Rattle.sym_micro.specs.declared.outcome.Held.{Held as HeldIds}
use Rattle.sym_micro.specs.declared.run.Run.{Run}
use Rattle.sym_micro.specs.declared.micro.ByteSlot.{ByteSlot}
use Rattle.sym_micro.specs.declared.micro.ByteSlot.TheVariants.{Of80 as Byte80, Of86 as Byte86, T, U}
use Rattle.sym_micro.specs.declared.micro.FlagSlot.{FlagSlot}
use Rattle.sym_micro.specs.declared.micro.FlagSlot.TheVariants.{S, Z, Ac, P, Cy}
use Rattle.sym_micro.specs.declared.micro.WordSlot.{WordSlot}
use Rattle.sym_micro.specs.declared.micro.WordSlot.TheVariants.{V, W, X}
use Rattle.sym_micro.specs.Machine.{Machine}

-- the id of a register

abbrev pub id_of_part : HeldIds → Part → TermId
id_of_part x PartA = x.a
id_of_part x PartB = x.b
id_of_part x PartC = x.c
id_of_part x PartD = x.d
id_of_part x PartE = x.e
id_of_part x PartH = x.h
id_of_part x PartL = x.l
id_of_part x PartS = x.s
id_of_part x PartZ = x.z
id_of_part x PartAc = x.ac
id_of_part x PartP = x.p
id_of_part x PartCy = x.cy

abbrev pub id_of_reg : HeldIds → Register → TermId
id_of_reg x RegA = x.a
id_of_reg x RegB = x.b
id_of_reg x RegC = x.c
id_of_reg x RegD = x.d
id_of_reg x RegE = x.e
id_of_reg x RegH = x.h
id_of_reg x RegL = x.l

abbrev pub id_of_reg8 : Run → Reg8 → TermId
id_of_reg8 r Al = r.held.a
id_of_reg8 r Cl = r.held.c
id_of_reg8 r Dl = r.held.e
id_of_reg8 r Bl = r.held.l
id_of_reg8 r Ah = r.ah
id_of_reg8 r Ch = r.held.b
id_of_reg8 r Dh = r.held.d
id_of_reg8 r Bh = r.held.h

abbrev pub id_of_byte : Run → ByteSlot → TermId
id_of_byte r (Byte80 q) = id_of_reg r.held q
id_of_byte r (Byte86 q) = id_of_reg8 r q
id_of_byte r T = r.t
id_of_byte r U = r.u

-- what A holds after an operation
abbrev pub id_after : Op → Run → TermId
id_after Cmp r = r.held.a
id_after op r = r.result

abbrev pub id_of_word : Run → WordSlot → TermId
id_of_word r V = r.v
id_of_word r W = r.w
id_of_word r X = r.x

abbrev pub run_with_reg : Run → Register → TermId → Run
run_with_reg r RegA q = record r { held = record (r.held) { a = q } }
run_with_reg r RegB q = record r { held = record (r.held) { b = q } }
run_with_reg r RegC q = record r { held = record (r.held) { c = q } }
run_with_reg r RegD q = record r { held = record (r.held) { d = q } }
run_with_reg r RegE q = record r { held = record (r.held) { e = q } }
run_with_reg r RegH q = record r { held = record (r.held) { h = q } }
run_with_reg r RegL q = record r { held = record (r.held) { l = q } }

abbrev pub run_with_reg8 : Run → Reg8 → TermId → Run
run_with_reg8 r Al q = record r { held = record (r.held) { a = q } }
run_with_reg8 r Cl q = record r { held = record (r.held) { c = q } }
run_with_reg8 r Dl q = record r { held = record (r.held) { e = q } }
run_with_reg8 r Bl q = record r { held = record (r.held) { l = q } }
run_with_reg8 r Ah q = record r { ah = q }
run_with_reg8 r Ch q = record r { held = record (r.held) { b = q } }
run_with_reg8 r Dh q = record r { held = record (r.held) { d = q } }
run_with_reg8 r Bh q = record r { held = record (r.held) { h = q } }

abbrev pub run_with_byte : Run → ByteSlot → TermId → Run
run_with_byte r (Byte80 q) t = run_with_reg r q t
run_with_byte r (Byte86 q) t = run_with_reg8 r q t
run_with_byte r T t = record r { t = t }
run_with_byte r U t = record r { u = t }

abbrev pub run_with_word : Run → WordSlot → TermId → Run
run_with_word r V q = record r { v = q }
run_with_word r W q = record r { w = q }
run_with_word r X q = record r { x = q }

abbrev pub run_with_flag : Run → FlagSlot → TermId → Run
run_with_flag r S q = record r { held = record (r.held) { s = q } }
run_with_flag r Z q = record r { held = record (r.held) { z = q } }
run_with_flag r Ac q = record r { held = record (r.held) { ac = q } }
run_with_flag r P q = record r { held = record (r.held) { p = q } }
run_with_flag r Cy q = record r { held = record (r.held) { cy = q } }

-- the terms of ids

abbrev pub trees_of_held : Contents → HeldIds → Held
trees_of_held pool x = record {
  a = tree_in pool x.a;
  b = tree_in pool x.b;
  c = tree_in pool x.c;
  d = tree_in pool x.d;
  e = tree_in pool x.e;
  h = tree_in pool x.h;
  l = tree_in pool x.l;
  s = tree_in pool x.s;
  z = tree_in pool x.z;
  ac = tree_in pool x.ac;
  p = tree_in pool x.p;
  cy = tree_in pool x.cy;
}

abbrev pub tree_of_action : Contents → ActionId → Action
tree_of_action pool (Load8Id a) = Load8 (tree_in pool a)
tree_of_action pool (Load16Id a) = Load16 (tree_in pool a)
tree_of_action pool (Store8Id a v) = Store8 (tree_in pool a) (tree_in pool v)
tree_of_action pool (Store16Id a v) = Store16 (tree_in pool a) (tree_in pool v)

abbrev pub trees_of_actions : Contents → List ActionId → List Action
trees_of_actions pool [] = []
trees_of_actions pool (x ∷ xs) = tree_of_action pool x ∷ trees_of_actions pool xs

abbrev pub machine_of : Contents → Run → Machine
machine_of pool r = record {
  held = trees_of_held pool r.held;
  ah = tree_in pool r.ah;
  si = tree_in pool r.si;
  sp = tree_in pool r.sp;
  t = tree_in pool r.t;
  u = tree_in pool r.u;
  v = tree_in pool r.v;
  w = tree_in pool r.w;
  x = tree_in pool r.x;
  result = tree_in pool r.result;
  turned = tree_in pool r.turned;
  trace = record { actions = trees_of_actions pool r.actions.items; loads = r.loads };
}

-- they are given

pub record HeldIsGiven (pool : Contents) (x : HeldIds) : Type 0 where
  pub a : IsGiven pool x.a
  pub b : IsGiven pool x.b
  pub c : IsGiven pool x.c
  pub d : IsGiven pool x.d
  pub e : IsGiven pool x.e
  pub h : IsGiven pool x.h
  pub l : IsGiven pool x.l
  pub s : IsGiven pool x.s
  pub z : IsGiven pool x.z
  pub ac : IsGiven pool x.ac
  pub p : IsGiven pool x.p
  pub cy : IsGiven pool x.cy

abbrev pub ActionIsGiven : Contents → ActionId → Type 0
ActionIsGiven pool (Load8Id a) = IsGiven pool a
ActionIsGiven pool (Load16Id a) = IsGiven pool a
ActionIsGiven pool (Store8Id a v) = IsGiven pool a × IsGiven pool v
ActionIsGiven pool (Store16Id a v) = IsGiven pool a × IsGiven pool v

abbrev pub ActionsAreGiven : Contents → List ActionId → Type 0
ActionsAreGiven pool [] = Unit {0}
ActionsAreGiven pool (x ∷ xs) = ActionIsGiven pool x × ActionsAreGiven pool xs

pub record RunIsGiven (pool : Contents) (r : Run) : Type 0 where
  pub held : HeldIsGiven pool r.held
  pub ah : IsGiven pool r.ah
  pub si : IsGiven pool r.si
  pub sp : IsGiven pool r.sp
  pub t : IsGiven pool r.t
  pub u : IsGiven pool r.u
  pub v : IsGiven pool r.v
  pub w : IsGiven pool r.w
  pub x : IsGiven pool r.x
  pub result : IsGiven pool r.result
  pub turned : IsGiven pool r.turned
  pub actions : ActionsAreGiven pool r.actions.items

-- a byte that leaves all flags
pub record IsResult (r : Term) : Type 0 where
  pub byte : IsMadeAs is_byte r
  pub leaves : (part : Part) → is_flag part ≡ true → leaves_flag part r ≡ true

-- a byte that leaves CY
pub record IsTurned (r : Term) : Type 0 where
  pub byte : IsMadeAs is_byte r
  pub leaves : leaves_flag PartCy r ≡ true

-- the terms of the registers are made, and of their sorts
pub record IsSorted (m : Machine) : Type 0 where
  pub held : HeldIsSorted m.held
  pub ah : IsMadeAs is_byte m.ah
  pub si : IsMadeAs is_word m.si
  pub sp : IsMadeAs is_word m.sp
  pub t : IsMadeAs is_byte m.t
  pub u : IsMadeAs is_byte m.u
  pub v : IsMadeAs is_word m.v
  pub w : IsMadeAs is_word m.w
  pub x : IsMadeAs is_word m.x
  pub result : IsResult m.result
  pub turned : IsTurned m.turned

-- a run that can go on; its actions have room for 512
pub record IsReady (pool : Contents) (r : Run) : Type 0 where
  pub terms : AreTerms pool
  pub given : RunIsGiven pool r
  pub sorted : IsSorted (machine_of pool r)
  pub capacity : vec_capacity r.actions ≡ 512
  pub few : r.loads ≤ length r.actions.items
  pub room : length r.actions.items ≤ 512

-- A run went on: so many nodes and actions joined at most, and afterwards the machine is such a one. There is no answer only where there
-- is no room for a node more; with so much room there is one.
pub record GoesOn (old new : Contents) (r s : Run) (nodes actions : ℕ) (P : Machine → Type 0) (made : Option (Unit {0})) : Type 0 where
  pub grows : PoolGrows old new nodes
  pub ready : IsReady new s
  pub few : length s.actions.items ≤ length r.actions.items + actions
  pub gives : MatchOption made (new.spare ≡ 0) (λ _. P (machine_of new s))
  pub enough : nodes ≤ old.spare → IsSome made

-- A term is given, for which so many nodes join at most; there is none only where there is no room for a node more, and with so much
-- room there is one.
pub record Gives (old new : Contents) (nodes : ℕ) (tree : Term) (made : Option TermId) : Type 0 where
  pub grows : PoolGrows old new nodes
  pub gives : MatchOption made (new.spare ≡ 0) (λ t. StandsFor new t tree)
  pub enough : nodes ≤ old.spare → IsSome made
  pub terms : AreTerms new

-- a run that is ready, has so many actions at most, and whose machine is such a one
pub record IsSuch (pool : Contents) (r : Run) (actions : ℕ) (P : Machine → Type 0) : Type 0 where
  pub ready : IsReady pool r
  pub few : length r.actions.items ≤ actions
  pub is : P (machine_of pool r)

-- A run from its beginning on: so many nodes and actions joined at most, and it is such a one. There is no answer only where there is no
-- room for a node more; with so much room there is one.
pub record Runs (old new : Contents) (r : Run) (nodes actions : ℕ) (P : Machine → Type 0) (made : Option (Unit {0})) : Type 0 where
  pub grows : PoolGrows old new nodes
  pub terms : AreTerms new
  pub capacity : vec_capacity r.actions ≡ 512
  pub gives : MatchOption made (new.spare ≡ 0) (λ _. IsSuch new r actions P)
  pub enough : nodes ≤ old.spare → IsSome made
