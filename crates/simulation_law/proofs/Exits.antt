-- The ways out of a block of a cut lead to first instructions of blocks.
use Rattle.std.proofs.Common.{◌≡◌, ℕ, zero, suc, ◌+◌, Bool, true, false, cond, List, [], ◌∷◌, Option, Some, None, refl, subst, sym}
use Rattle.cells.specs.declared.Place.{Place}
use Rattle.cells.specs.declared.Place.TheVariants.{At, Exit as EndPlace}
use Rattle.i80.specs.declared.Goal.{Goal}
use Rattle.i80.specs.declared.Goal.TheVariants.{At as ToInstr, Boot as ToBoot, Bdos as ToBdos}
use Rattle.i80.specs.declared.Instr80.{Instr80}
use Rattle.i80.specs.declared.Instr80.TheVariants.{Pchl, Jmp, Jif, Call as CallTo, Cif, Ret, Rif, Rst0, In as InFrom, Out as OutTo}
use Rattle.i80.specs.Columns.{length80}
use Rattle.asm80_types.specs.Program.{Program, instr_at, is_start, if_instr, named_by}
use Rattle.sym_terms.specs.Term.{same_bool}
use Rattle.sym_terms.specs.Values80.{Env80}
use Rattle.sym_block_def.specs.Outcome.{Way, Goto, ByTerms, Call, Sys, SysReturn, Boot, Leave, In, Out, Exit, One, Two}
use Rattle.sym_block_def.specs.Block80.{Symbolic80, start80, goto, jump, call, asking, exit80, effect80, outcome_from, before_more, instrs_from, address_after_all, block80}
use Rattle.simulation_def.specs.Linked.{HasBlock, IsFirstOf}
use Rattle.simulation_def.specs.Runs80.{Takes80}
use Rattle.simulation_def.specs.Cuts.{IsCut}

-- a place behind a call: where an instruction starts there, it is the first of a block
abbrev pub ComesBack : Program → List (ℕ × ℕ) → Place → Type 0
ComesBack p cut (At a) = is_start p a ≡ true → IsFirstOf cut (At a)
ComesBack p cut EndPlace = ⊥

abbrev pub IsWayOf : Program → List (ℕ × ℕ) → Way → Type 0
IsWayOf p cut (Goto q) = IsFirstOf cut q
IsWayOf p cut (ByTerms h l) = Unit {0}
IsWayOf p cut (Call q back) = IsFirstOf cut q × ComesBack p cut back
IsWayOf p cut (Sys back) = ComesBack p cut back
IsWayOf p cut SysReturn = Unit {0}
IsWayOf p cut Boot = Unit {0}
IsWayOf p cut Leave = Unit {0}
IsWayOf p cut (In port next) = ComesBack p cut next
IsWayOf p cut (Out port next) = ComesBack p cut next

abbrev IsExitOf : Program → List (ℕ × ℕ) → Exit → Type 0
IsExitOf p cut (One way) = IsWayOf p cut way
IsExitOf p cut (Two f v a b) = IsWayOf p cut a × IsWayOf p cut b

module _ (p : Program) (cut : List (ℕ × ℕ)) where
  abbrev IsFirst : ℕ → Type 0
  IsFirst a = is_start p a ≡ true → IsFirstOf cut (At a)

  -- the places that an instruction names
  abbrev NamesFirsts : Option ℕ → Type 0
  NamesFirsts o = (a : ℕ) → o ≡ Some a → IsFirstOf cut (At a)

  goto_in : (a : ℕ) → IsFirst a → IsWayOf p cut (goto p a)
  goto_in a h = by_start (is_start p a) refl
    where
      by_start : (b : Bool) → is_start p a ≡ b → IsWayOf p cut (cond b (Goto (At a)) Leave)
      by_start true e = h e
      by_start false e = tt

  jump_in : (t : Goal) → NamesFirsts (if_instr t) → IsWayOf p cut (jump p t)
  jump_in (ToInstr a) n = goto_in a (λ e. n a refl)
  jump_in ToBoot n = tt
  jump_in ToBdos n = tt

  call_in : (a : ℕ) (t : Goal) → IsFirst a → NamesFirsts (if_instr t) → IsWayOf p cut (call p a t)
  call_in a ToBoot h n = tt
  call_in a ToBdos h n = h
  call_in a (ToInstr t) h n = by_start (is_start p a)
    where
      by_start : (b : Bool) → IsWayOf p cut (cond b (Call (At t) (At a)) Leave)
      by_start true = (n t refl, h)
      by_start false = tt

  in_in : (a port : ℕ) → IsFirst a → IsWayOf p cut (asking p a (In port))
  in_in a port h = by_start (is_start p a)
    where
      by_start : (b : Bool) → IsWayOf p cut (cond b (In port (At a)) Leave)
      by_start true = h
      by_start false = tt

  out_in : (a port : ℕ) → IsFirst a → IsWayOf p cut (asking p a (Out port))
  out_in a port h = by_start (is_start p a)
    where
      by_start : (b : Bool) → IsWayOf p cut (cond b (Out port (At a)) Leave)
      by_start true = h
      by_start false = tt

  exit_in : (a : ℕ) (s : Symbolic80) (i : Instr80) → IsFirst a → NamesFirsts (named_by i) → IsExitOf p cut (exit80 p a s i)
  exit_in a s Pchl h n = tt
  exit_in a s (Jmp t) h n = jump_in t n
  exit_in a s (Jif c t) h n = (jump_in t n, goto_in a h)
  exit_in a s (CallTo t) h n = call_in a t h n
  exit_in a s (Cif c t) h n = (call_in a t h n, goto_in a h)
  exit_in a s Ret h n = tt
  exit_in a s (Rif c) h n = (tt, goto_in a h)
  exit_in a s Rst0 h n = tt
  exit_in a s (InFrom port) h n = in_in a port h
  exit_in a s (OutTo port) h n = out_in a port h
  exit_in a s i h n = goto_in a h

  -- each of these is an instruction of the program
  abbrev AreInstrs : List Instr80 → Type 0
  AreInstrs [] = Unit {0}
  AreInstrs (i ∷ is) = ((at : ℕ) × (instr_at p at ≡ Some i)) × AreInstrs is

  are_instrs : (n at : ℕ) → AreInstrs (instrs_from p at n)
  are_instrs zero at = tt
  are_instrs (suc n) at = by_instr (instr_at p at) refl (are_instrs n)
    where
      by_instr : (o : Option Instr80) → instr_at p at ≡ o → ((next : ℕ) → AreInstrs (instrs_from p next n)) → AreInstrs (before_more o (λ i. i ∷ instrs_from p (at + length80 i) n))
      by_instr None e rest = tt
      by_instr (Some i) e rest = ((at, e), rest (at + length80 i))

  module _ (c : IsCut p cut) where
    outcome_in : (at : ℕ) (is : List Instr80) (s : Symbolic80) → AreInstrs is → IsFirst (address_after_all at is) → IsExitOf p cut (outcome_from p at is s).exit
    outcome_in at [] s all h = goto_in at h
    outcome_in at (i ∷ []) s all h = exit_in (at + length80 i) (effect80 s i) i h (λ a n. c.named all.0.0 a i all.0.1 n)
    outcome_in at (i ∷ j ∷ is) s all h = outcome_in (at + length80 i) (j ∷ is) (effect80 s i) all.1 h

    taken_in : (e : Env80) (x : Exit) (way : Way) → IsExitOf p cut x → Takes80 e x way → IsWayOf p cut way
    taken_in e (One w) way h t = subst (IsWayOf p cut) (sym t) h
    taken_in e (Two f v a b) way h t = subst (IsWayOf p cut) (sym t.2) (of_two (same_bool t.0 v))
      where
        of_two : (k : Bool) → IsWayOf p cut (cond k a b)
        of_two true = h.0
        of_two false = h.1

    pub way_in : (first count : ℕ) (e : Env80) (way : Way) → HasBlock cut first count → Takes80 e (block80 p first count).exit way → IsWayOf p cut way
    way_in first count e way has t = taken_in e (block80 p first count).exit way (outcome_in first (instrs_from p first count) start80 (are_instrs count first) (c.follows first count has)) t
