-- Why an outcome of the 8086 does not match that of a block, in lines.
use Rattle.std.specs.Prelude.{◌≡◌, ◌&&◌, ℕ, codes, Bool, true, false, cond, List, [], ◌++◌, Option, Some, None, Result, Ok, Err}
use Rattle.std.specs.String.{string_bytes}
use Rattle.asm86_line_types.specs.declared.line.Stmt86.{Stmt86}
use Rattle.asm80_types.specs.Program.{Program}
use Rattle.sym_block_def.specs.Block80.{block80}
use Rattle.sym_block_def.specs.Walk86.{walk86}
use Rattle.sym_block_def.specs.BlockMatch.{Keeps, block_reason}
use Rattle.block_explain.specs.declared.block.Said.{Said}
use Rattle.cells.specs.declared.Part.{Part}
use Rattle.cells.specs.declared.Part.TheVariants.{B, L}
use Rattle.sym_terms.specs.Term.{Term}
use Rattle.sym_block_def.specs.declared.reason.Reason.{Reason}
use Rattle.sym_block_def.specs.declared.reason.Reason.TheVariants.{Actions, Exits, Kept, KeptSp}
use Rattle.sym_block_def.specs.Outcome.{Action, Exit, One, Sys, Outcome, term_in}
use Rattle.block_explain.specs.Words.{words}
use Rattle.block_explain.specs.Moves.{action_words, exit_words}
use Rattle.block_explain.specs.Smallest.{TermPair, pair, Smallest}
use Rattle.block_explain.specs.Apart.{ActionPair, first_apart, action_terms, exit_terms}

-- What is told of two outcomes: nothing; that INT 224 loses a part; or both sides in words, and the terms that do not agree, where
-- terms are what does not agree.
pub data Told : Type 0 where
  Nothing : Told
  Lost : Told
  Sides : (ours theirs : List ℕ) (terms : Option TermPair) → Told

-- a load or a store, or none
abbrev pub action_or_none : Option Action → List ℕ
action_or_none (Some x) = action_words x
action_or_none None = codes "none"

abbrev pub actions_told : ActionPair → Told
actions_told p = Sides (action_or_none p.ours) (action_or_none p.theirs) (action_terms p.ours p.theirs)

abbrev pub terms_told : Term → Term → Told
terms_told s t = Sides (words s) (words t) (Some (pair s t))

-- the system is asked by C, D and E: where it is called, B and L are bad only where INT 224 loses them
abbrev pub is_system_call : Exit → Bool
is_system_call (One (Sys back)) = true
is_system_call x = false

abbrev pub may_be_lost : Part → Bool
may_be_lost B = true
may_be_lost L = true
may_be_lost part = false

abbrev pub is_lost : Outcome → Outcome → Part → Bool
is_lost x y part = y.direct && (is_system_call x.exit && may_be_lost part)

-- by the reason why an outcome of the 8086 does not match
abbrev pub told : Reason → Outcome → Outcome → Told
told Actions x y = actions_told (first_apart x.actions y.actions)
told Exits x y = Sides (exit_words x.exit) (exit_words y.exit) (exit_terms x.exit y.exit)
told (Kept part) x y = cond (is_lost x y part) Lost (terms_told (term_in x.held part) (term_in y.held part))
told KeptSp x y = terms_told x.sp y.sp
told reason x y = Nothing

-- ---- lines

abbrev pub sides_lines : List ℕ → List ℕ → List ℕ
sides_lines ours theirs = codes "80 " ++ (ours ++ (codes "\n86 " ++ (theirs ++ codes "\n")))

abbrev pub differs_lines : List ℕ → List ℕ → List ℕ
differs_lines ours theirs = codes "80 differs: " ++ (ours ++ (codes "\n86 differs: " ++ (theirs ++ codes "\n")))

-- of two terms that do not agree the smallest pair that differs
pub record DiffersIn (p : TermPair) (text : List ℕ) : Type 0 where
  pub found : TermPair
  pub smallest : Smallest p found
  pub is : text ≡ differs_lines (words found.ours) (words found.theirs)

pub record SidesDiffer (ours theirs : List ℕ) (p : TermPair) (text : List ℕ) : Type 0 where
  pub differing : List ℕ
  pub differ : DiffersIn p differing
  pub is : text ≡ sides_lines ours theirs ++ differing

abbrev pub AreToldLines : Told → List ℕ → Type 0
AreToldLines Nothing text = text ≡ []
AreToldLines Lost text = text ≡ codes "lost by INT 224\n"
AreToldLines (Sides ours theirs None) text = text ≡ sides_lines ours theirs
AreToldLines (Sides ours theirs (Some p)) text = SidesDiffer ours theirs p text

-- the lines of a reason, of the outcome of a block and that of the text at its label
abbrev pub Explains : Reason → Outcome → Outcome → List ℕ → Type 0
Explains reason x y text = AreToldLines (told reason x y) text

-- ---- a block

-- where the walk came to an outcome, the lines of the reason; where it was refused there are none
abbrev pub LinesAre : Reason → Outcome → Result Outcome Reason → List ℕ → Type 0
LinesAre reason x (Ok y) text = Explains reason x y text
LinesAre reason x (Err r) text = text ≡ []

-- what is said of a block: nothing where it matches, else the reason and its lines
abbrev pub IsSaid : Program → List Stmt86 → Keeps → ℕ → ℕ → Option Said → Type 0
IsSaid p text k first count None = block_reason p text k first count ≡ None
IsSaid p text k first count (Some said) =
    (block_reason p text k first count ≡ Some said.reason)
    × LinesAre said.reason (block80 p first count) (walk86 p text (k.at first) first count) (string_bytes said.lines)

-- ---- a law

-- of a reason and two outcomes the lines are just these
abbrev pub OneExplanation : Type 0
OneExplanation = (reason : Reason) (x y : Outcome) (s t : List ℕ) → Explains reason x y s → Explains reason x y t → s ≡ t
