-- What a block of instructions does: its loads and stores in order, what the parts and SP hold afterwards, and where it goes.
use Rattle.std.specs.Prelude.{ℕ, suc, Bool, List, [], ◌∷◌, ◌++◌}
use Rattle.cells.specs.declared.Place.{Place}
use Rattle.cells.specs.declared.Part.{Part}
use Rattle.cells.specs.declared.Part.TheVariants.{A, B, C, D, E, H, L, S, Z, Ac, P, Cy}
use Rattle.sym_terms.specs.Term.{Term, Start}
use Rattle.sym_terms.specs.Making.{flag, bit}

-- a load or a store, of a byte or a word, at an address
pub data Action : Type 0 where
  Load8 : (address : Term) → Action
  Load16 : (address : Term) → Action
  Store8 : (address value : Term) → Action
  Store16 : (address value : Term) → Action

-- A way out of a block: to a place; to the place that two bytes name; a call of the instruction at a place, with the place of
-- return; a call of the system, with the place of return; a call of the system that returns as RET does; the end of the program;
-- where the program certainly leaves the profile; a byte from a port or to one, with the place that comes next.
pub data Way : Type 0 where
  Goto : (place : Place) → Way
  ByTerms : (high low : Term) → Way
  Call : (target back : Place) → Way
  Sys : (back : Place) → Way
  SysReturn : Way
  Boot : Way
  Leave : Way
  In : (port : ℕ) (next : Place) → Way
  Out : (port : ℕ) (next : Place) → Way

-- one way; or two, the one where a flag has a value, and the other where it has not
pub data Exit : Type 0 where
  One : (way : Way) → Exit
  Two : (flag : Term) (value : Bool) (where_so otherwise : Way) → Exit

-- the terms of the twelve parts
pub record Held : Type 0 where
  pub a : Term
  pub b : Term
  pub c : Term
  pub d : Term
  pub e : Term
  pub h : Term
  pub l : Term
  pub s : Term
  pub z : Term
  pub ac : Term
  pub p : Term
  pub cy : Term

abbrev pub term_in : Held → Part → Term
term_in x A = x.a
term_in x B = x.b
term_in x C = x.c
term_in x D = x.d
term_in x E = x.e
term_in x H = x.h
term_in x L = x.l
term_in x S = x.s
term_in x Z = x.z
term_in x Ac = x.ac
term_in x P = x.p
term_in x Cy = x.cy

-- what a block does; of the 8086, whether it calls the system by INT 224 itself and not through the runtime
pub record Outcome : Type 0 where
  pub actions : List Action
  pub held : Held
  pub sp : Term
  pub exit : Exit
  pub direct : Bool

-- the parts at the start
abbrev pub held_at_start : Held
held_at_start = record {
  a = Start A;
  b = Start B;
  c = Start C;
  d = Start D;
  e = Start E;
  h = Start H;
  l = Start L;
  s = Start S;
  z = Start Z;
  ac = Start Ac;
  p = Start P;
  cy = Start Cy;
}

-- all five flags of a result
abbrev pub with_flags_of : Term → Held → Held
with_flags_of r x = record x { s = flag S r; z = flag Z r; ac = flag Ac r; p = flag P r; cy = flag Cy r }

-- the flags of a count: CY stays
abbrev pub with_count_flags_of : Term → Held → Held
with_count_flags_of r x = record x { s = flag S r; z = flag Z r; ac = flag Ac r; p = flag P r }

-- the flags that a byte of flags holds
abbrev pub with_flags_in : Term → Held → Held
with_flags_in b x = record x { s = bit b S; z = bit b Z; ac = bit b Ac; p = bit b P; cy = bit b Cy }

-- the loads and stores so far, and how many of them are loads
pub record Trace : Type 0 where
  pub actions : List Action
  pub loads : ℕ

abbrev pub no_actions : Trace
no_actions = record { actions = []; loads = 0 }

abbrev pub loading : Action → Trace → Trace
loading x t = record { actions = t.actions ++ x ∷ []; loads = suc t.loads }

abbrev pub storing : Action → Trace → Trace
storing x t = record { actions = t.actions ++ x ∷ []; loads = t.loads }
