-- What the statements of a template are.
use Rattle.std.proofs.Common.{◌≡◌, ℕ, ◌≤◌, Bool, true, false, List, ◌++◌, length, refl, lit≤}
use Rattle.std.proofs.lemmas.Bool.{true≢false, false≢true}
use Rattle.i80.specs.declared.Src.TheVariants.{Reg, Mem}
use Rattle.i80.specs.declared.StackPair.TheVariants.{B as StackB, D as StackD, H as StackH, Psw}
use Rattle.i80.specs.declared.Word.TheVariants.{Num, Code}
use Rattle.i80.specs.declared.Goal.TheVariants.{At, Boot, Bdos}
use Rattle.i80.specs.declared.Instr80.{Instr80}
use Rattle.i80.specs.declared.Instr80.TheVariants.{Mov, Mvi, Lxi, Ldax, Stax, Xthl, Inx, Dcx, Dad, Push, Pop, Pchl, Jmp, Jif, Call, Cif, Ret, Rif, Rst0, In, Out}
use Rattle.i80.specs.Columns.{ends80, is_well_formed}
use Rattle.asm86_line_types.specs.declared.line.Stmt86.{Stmt86}
use Rattle.templates.specs.Template.{template}
use Rattle.sym_block_def.specs.Symbolic86.{Symbolic86}
use Rattle.sym_block_def.specs.Walk86.{Surroundings, met, walk_through, walk_some}
use Rattle.templates_law.specs.Match.Exits.{AreStraight}

pub straight : (i : Instr80) (at : ℕ) (save : Bool) → ends80 i ≡ false → AreStraight (template i at save)
straight (Mov (Reg r) from) at save e = (refl, tt)
straight (Mov Mem (Reg r)) at save e = (refl, tt)
straight (Mov Mem Mem) at save e = tt
straight (Mvi (Reg r) n) at save e = (refl, tt)
straight (Mvi Mem n) at save e = (refl, tt)
straight (Lxi p (Num n)) at save e = (refl, tt)
straight (Lxi p (Code a)) at save e = (refl, tt)
straight (Ldax p) at save e = (refl, (refl, tt))
straight (Stax p) at save e = (refl, (refl, tt))
straight Xthl at save e = (refl, (refl, (refl, tt)))
straight (Inx p) at true e = (refl, (refl, (refl, tt)))
straight (Inx p) at false e = (refl, tt)
straight (Dcx p) at true e = (refl, (refl, (refl, tt)))
straight (Dcx p) at false e = (refl, tt)
straight (Dad p) at true e = (refl, (refl, (refl, (refl, (refl, tt)))))
straight (Dad p) at false e = (refl, tt)
straight (Push StackB) at save e = (refl, tt)
straight (Push StackD) at save e = (refl, tt)
straight (Push StackH) at save e = (refl, tt)
straight (Push Psw) at save e = (refl, (refl, (refl, (refl, tt))))
straight (Pop StackB) at save e = (refl, tt)
straight (Pop StackD) at save e = (refl, tt)
straight (Pop StackH) at save e = (refl, tt)
straight (Pop Psw) at save e = (refl, (refl, (refl, tt)))
straight Pchl at save e = absurd (true≢false e)
straight (Jmp g) at save e = absurd (true≢false e)
straight (Jif c g) at save e = absurd (true≢false e)
straight (Call g) at save e = absurd (true≢false e)
straight (Cif c g) at save e = absurd (true≢false e)
straight Ret at save e = absurd (true≢false e)
straight (Rif c) at save e = absurd (true≢false e)
straight Rst0 at save e = absurd (true≢false e)
straight (In n) at save e = absurd (true≢false e)
straight (Out n) at save e = absurd (true≢false e)
straight i at save e = (refl, tt)

pub few : (i : Instr80) (at : ℕ) (save : Bool) → length (template i at save) ≤ 5
few (Mov (Reg r) from) at save = lit≤ tt
few (Mov Mem (Reg r)) at save = lit≤ tt
few (Mov Mem Mem) at save = lit≤ tt
few (Mvi (Reg r) n) at save = lit≤ tt
few (Mvi Mem n) at save = lit≤ tt
few (Lxi p (Num n)) at save = lit≤ tt
few (Lxi p (Code a)) at save = lit≤ tt
few (Inx p) at true = lit≤ tt
few (Inx p) at false = lit≤ tt
few (Dcx p) at true = lit≤ tt
few (Dcx p) at false = lit≤ tt
few (Dad p) at true = lit≤ tt
few (Dad p) at false = lit≤ tt
few (Push StackB) at save = lit≤ tt
few (Push StackD) at save = lit≤ tt
few (Push StackH) at save = lit≤ tt
few (Push Psw) at save = lit≤ tt
few (Pop StackB) at save = lit≤ tt
few (Pop StackD) at save = lit≤ tt
few (Pop StackH) at save = lit≤ tt
few (Pop Psw) at save = lit≤ tt
few (Call (At a)) at save = lit≤ tt
few (Call Boot) at save = lit≤ tt
few (Call Bdos) at save = lit≤ tt
few (Cif c (At a)) at save = lit≤ tt
few (Cif c Boot) at save = lit≤ tt
few (Cif c Bdos) at save = lit≤ tt
few i at save = lit≤ tt

module _ (w : Surroundings) (room : ℕ) (rest : List Stmt86) (t : Symbolic86) where
  walks : (i : Instr80) (at : ℕ) (save : Bool) → is_well_formed i ≡ true → walk_some w room (met w (template i at save ++ rest)) t ≡ walk_through w room (met w (template i at save ++ rest)) t
  walks (Mov (Reg r) from) at save e = refl
  walks (Mov Mem (Reg r)) at save e = refl
  walks (Mov Mem Mem) at save e = absurd (false≢true e)
  walks (Mvi (Reg r) n) at save e = refl
  walks (Mvi Mem n) at save e = refl
  walks (Lxi p (Num n)) at save e = refl
  walks (Lxi p (Code a)) at save e = refl
  walks (Inx p) at true e = refl
  walks (Inx p) at false e = refl
  walks (Dcx p) at true e = refl
  walks (Dcx p) at false e = refl
  walks (Dad p) at true e = refl
  walks (Dad p) at false e = refl
  walks (Push StackB) at save e = refl
  walks (Push StackD) at save e = refl
  walks (Push StackH) at save e = refl
  walks (Push Psw) at save e = refl
  walks (Pop StackB) at save e = refl
  walks (Pop StackD) at save e = refl
  walks (Pop StackH) at save e = refl
  walks (Pop Psw) at save e = refl
  walks (Call (At a)) at save e = refl
  walks (Call Boot) at save e = refl
  walks (Call Bdos) at save e = refl
  walks (Cif c (At a)) at save e = refl
  walks (Cif c Boot) at save e = refl
  walks (Cif c Bdos) at save e = refl
  walks i at save e = refl

pub some : (i : Instr80) (at : ℕ) (save : Bool) (w : Surroundings) (room : ℕ) (rest : List Stmt86) (t : Symbolic86) → is_well_formed i ≡ true → walk_some w room (met w (template i at save ++ rest)) t ≡ walk_through w room (met w (template i at save ++ rest)) t
some i at save w room rest t e = walks w room rest t i at save e
