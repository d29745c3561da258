-- The numbers of templates are in their ranges, so that terms stay made and of their sorts.
use Rattle.std.proofs.Common.{ℕ, Bool, true, false, List, [], ◌∷◌}
use Rattle.i80.specs.declared.Src.TheVariants.{Reg, Mem}
use Rattle.i80.specs.declared.StackPair.TheVariants.{B as StackB, D as StackD, H as StackH, Psw}
use Rattle.i80.specs.declared.Word.TheVariants.{Num, Code}
use Rattle.i80.specs.declared.Goal.TheVariants.{At, Boot, Bdos}
use Rattle.i80.specs.declared.Instr80.{Instr80}
use Rattle.i80.specs.declared.Instr80.TheVariants.{Mov, Mvi, Lxi, Lda, Sta, Lhld, Shld, Ldax, Stax, Xthl, AluI, Inx, Dcx, Dad, Push, Pop, Jif, Call, Cif, Rif, In, Out}
use Rattle.asm80_types.specs.Program.{IsCoded}
use Rattle.asm86_line_types.specs.declared.line.Stmt86.{Stmt86}
use Rattle.asm86_line_types.specs.declared.line.Stmt86.TheVariants.{Run, MovOffset}
use Rattle.templates.specs.Template.{template}
use Rattle.sym_block_def.specs.Symbolic86.{Symbolic86}
use Rattle.sym_block_def.specs.Sorts.{AreSorted86, StatementsAreCoded, StepsKeepSorts}
use Rattle.templates_law.specs.Match.Rows.{all_passed, RowsKeepSorts}

template_coded : (i : Instr80) (at : ℕ) (save : Bool) → IsCoded i → StatementsAreCoded (template i at save)
template_coded (Mov (Reg r) (Reg q)) at save h = (tt, tt)
template_coded (Mov (Reg r) Mem) at save h = (tt, tt)
template_coded (Mov Mem (Reg r)) at save h = (tt, tt)
template_coded (Mov Mem Mem) at save h = tt
template_coded (Mvi (Reg r) n) at save h = (h, tt)
template_coded (Mvi Mem n) at save h = (h, tt)
template_coded (Lxi p (Num n)) at save h = (h, tt)
template_coded (Lxi p (Code a)) at save h = (tt, tt)
template_coded (Lda a) at save h = (h, tt)
template_coded (Sta a) at save h = (h, tt)
template_coded (Lhld a) at save h = (h, tt)
template_coded (Shld a) at save h = (h, tt)
template_coded (Ldax p) at save h = (tt, (tt, tt))
template_coded (Stax p) at save h = (tt, (tt, tt))
template_coded Xthl at save h = (tt, (tt, (tt, tt)))
template_coded (AluI op n) at save h = (h, tt)
template_coded (Inx p) at true h = (tt, (tt, (tt, tt)))
template_coded (Inx p) at false h = (tt, tt)
template_coded (Dcx p) at true h = (tt, (tt, (tt, tt)))
template_coded (Dcx p) at false h = (tt, tt)
template_coded (Dad p) at true h = (tt, (tt, (tt, (tt, (tt, tt)))))
template_coded (Dad p) at false h = (tt, tt)
template_coded (Push StackB) at save h = (tt, tt)
template_coded (Push StackD) at save h = (tt, tt)
template_coded (Push StackH) at save h = (tt, tt)
template_coded (Push Psw) at save h = (tt, (tt, (tt, (tt, tt))))
template_coded (Pop StackB) at save h = (tt, tt)
template_coded (Pop StackD) at save h = (tt, tt)
template_coded (Pop StackH) at save h = (tt, tt)
template_coded (Pop Psw) at save h = (tt, (tt, (tt, tt)))
template_coded (Jif c g) at save h = (tt, (tt, (tt, tt)))
template_coded (Call (At a)) at save h = (tt, tt)
template_coded (Call Boot) at save h = (tt, tt)
template_coded (Call Bdos) at save h = (tt, tt)
template_coded (Cif c (At a)) at save h = (tt, (tt, (tt, tt)))
template_coded (Cif c Boot) at save h = (tt, (tt, (tt, tt)))
template_coded (Cif c Bdos) at save h = (tt, (tt, (tt, tt)))
template_coded (Rif c) at save h = (tt, (tt, (tt, tt)))
template_coded (In n) at save h = (h, tt)
template_coded (Out n) at save h = (h, tt)
template_coded i at save h = (tt, tt)

passed_sorted : StepsKeepSorts → (xs : List Stmt86) (t : Symbolic86) → StatementsAreCoded xs → AreSorted86 t → AreSorted86 (all_passed t xs)
passed_sorted k [] t h y = y
passed_sorted k (Run i ∷ xs) t h y = passed_sorted k xs _ h.1 (k.effect86 t i h.0 y)
passed_sorted k (MovOffset r l ∷ xs) t h y = passed_sorted k xs _ h.1 (k.offset t r l y)
passed_sorted k (x ∷ xs) t h y = passed_sorted k xs t h.1 y

pub rows_keep : StepsKeepSorts → RowsKeepSorts
rows_keep k = record {
  coded = template_coded;
  sorted = λ i at save s t h x y. (k.effect80 s i h x, passed_sorted k (template i at save) t (template_coded i at save h) y);
  passed = passed_sorted k;
}
