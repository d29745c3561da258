-- Which statements are conditional jumps that are shortened: none of a template.
use Rattle.std.proofs.Common.{◌≡◌, ℕ, ◌+◌, List, [], ◌∷◌, refl, sym, ◌∙◌, Bool, true, false}
use Rattle.std.specs.List.{list_any}
use Rattle.std.proofs.lemmas.Bool.{or_parts, false≢true}
use Rattle.i80.specs.declared.Src.TheVariants.{Reg, Mem}
use Rattle.i80.specs.declared.StackPair.TheVariants.{B as StackB, D as StackD, H as StackH, Psw}
use Rattle.i80.specs.declared.Word.TheVariants.{Num, Code}
use Rattle.i80.specs.declared.Goal.TheVariants.{At, Boot, Bdos}
use Rattle.i80.specs.declared.Instr80.{Instr80}
use Rattle.i80.specs.declared.Instr80.TheVariants.{Mov, Mvi, Lxi, Inx, Dcx, Dad, Push, Pop, Call, Cif}
use Rattle.asm86_line_types.specs.declared.line.Label.{Label}
use Rattle.asm86_line_types.specs.declared.line.Stmt86.{Stmt86}
use Rattle.asm86_line_types.specs.Layout.{size_of}
use Rattle.asm86_line_types.proofs.Statements.{Each}
use Rattle.templates.specs.Template.{template}
use Rattle.templates_law.specs.Text.Reach.{is_shortened, ShortenedReach}

pub template_long : (i : Instr80) (at : ℕ) (save : Bool) → list_any is_shortened (template i at save) ≡ false
template_long (Mov (Reg r) s) at save = refl
template_long (Mov Mem (Reg r)) at save = refl
template_long (Mov Mem Mem) at save = refl
template_long (Mvi (Reg r) n) at save = refl
template_long (Mvi Mem n) at save = refl
template_long (Lxi q (Num w)) at save = refl
template_long (Lxi q (Code a)) at save = refl
template_long (Inx q) at true = refl
template_long (Inx q) at false = refl
template_long (Dcx q) at true = refl
template_long (Dcx q) at false = refl
template_long (Dad q) at true = refl
template_long (Dad q) at false = refl
template_long (Push StackB) at save = refl
template_long (Push StackD) at save = refl
template_long (Push StackH) at save = refl
template_long (Push Psw) at save = refl
template_long (Pop StackB) at save = refl
template_long (Pop StackD) at save = refl
template_long (Pop StackH) at save = refl
template_long (Pop Psw) at save = refl
template_long (Call (At a)) at save = refl
template_long (Call Boot) at save = refl
template_long (Call Bdos) at save = refl
template_long (Cif c (At a)) at save = refl
template_long (Cif c Boot) at save = refl
template_long (Cif c Bdos) at save = refl
template_long i at save = refl

-- a statement is none
abbrev pub IsLong : Stmt86 → Type 0
IsLong x = is_shortened x ≡ false

pub each_long : (xs : List Stmt86) → list_any is_shortened xs ≡ false → Each IsLong xs
each_long [] h = tt
each_long (x ∷ xs) h = let parts = or_parts (is_shortened x) (list_any is_shortened xs) h in (parts.0, each_long xs parts.1)

pub not_shortened : (x : Stmt86) (P : Type 0) → IsLong x → is_shortened x ≡ true → P
not_shortened x P is_long is_short = absurd (false≢true (sym is_long ∙ is_short))

pub all_long_reach : (off : Label → ℕ) (k : ℕ) (xs : List Stmt86) → Each IsLong xs → ShortenedReach off k xs
all_long_reach off k [] h = tt
all_long_reach off k (x ∷ xs) h = (not_shortened x _ h.0, all_long_reach off (k + size_of x) xs h.1)
