-- What is said of a block is of its outcome and of the walk's.
use Rattle.std.proofs.Common.{◌≡◌, ◌∙◌, ℕ, zero, suc, List, [], ◌∷◌, Option, Some, None, Result, Ok, Err, refl, sym, subst}
use Rattle.asm80_types.specs.Program.{Program}
use Rattle.asm86_line_types.specs.declared.line.Stmt86.{Stmt86}
use Rattle.asm86_line_types.specs.declared.line.Stmt86.TheVariants.{Mark}
use Rattle.cells.specs.Parts.{Parts}
use Rattle.sym_block_def.specs.declared.reason.Reason.{Reason}
use Rattle.sym_block_def.specs.Outcome.{Outcome}
use Rattle.sym_block_def.specs.Walk86.{walk86}
use Rattle.sym_block_def.specs.BlockMatch.{Keeps, walked_reason}
use Rattle.sym_run.specs.Outcomes.{WorkState}
use Rattle.sym_run.specs.Stop.{Stop, reason_at, reason_by, stop_in, EndsSayWhy}
use Rattle.block_check.specs.Comparing.{AreCompared, first_outcome, second_of}
use Rattle.block_explain.specs.Explained.{Explains, LinesAre}

-- of a reason that the walk met there are no lines
no_lines_at : (room : ℕ) (xs : List Stmt86) (x y : Outcome) (text : List ℕ) → Explains (reason_at room xs) x y text → text ≡ []
no_lines_at room [] x y text h = h
no_lines_at room (Mark l ∷ xs) x y text h = h
no_lines_at zero (s ∷ xs) x y text h = h
no_lines_at (suc room) (s ∷ xs) x y text h = h

no_lines : (s : Option Stop) (x y : Outcome) (text : List ℕ) → Explains (reason_by s) x y text → text ≡ []
no_lines None x y text h = h
no_lines (Some s) x y text h = no_lines_at s.room s.at x y text h

pub lines_are : (p : Program) (stmts : List Stmt86) (keep : Parts) (first count : ℕ) (k : Keeps) (x : Outcome) (w : WorkState) (reason : Reason) (text : List ℕ) → EndsSayWhy → ((y : Outcome) → walk86 p stmts keep first count ≡ Ok y → AreCompared w x y) → walked_reason k x (walk86 p stmts keep first count) ≡ Some reason → Explains reason (first_outcome w) (second_of w) text → LinesAre reason x (walk86 p stmts keep first count) text
lines_are p stmts keep first count k x w reason text law held found said = by_walk (walk86 p stmts keep first count) refl found
  where
    by_walk : (walked : Result Outcome Reason) → walk86 p stmts keep first count ≡ walked → walked_reason k x walked ≡ Some reason → LinesAre reason x walked text
    by_walk (Ok y) e f = let h = held y e in subst (λ b. Explains reason x b text) h.second (subst (λ a. Explains reason a (second_of w) text) h.first said)
    by_walk (Err r) e f =
        let same : r ≡ reason = cc in
        no_lines (stop_in p stmts first count) (first_outcome w) (second_of w) text (subst (λ q. Explains q (first_outcome w) (second_of w) text) (sym same ∙ law p stmts keep first count r e) said)
