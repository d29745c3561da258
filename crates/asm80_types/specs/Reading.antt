-- What it is to read a source: which statements a stream of bytes has.
use Rattle.std.specs.Prelude.{◌≡◌, ℕ, List, Option, Some, None, Result, Ok, Err, map}
use Rattle.std.specs.Global.{Vec}
use Rattle.asm80_types.specs.declared.fault.ReadFault.{ReadFault}
use Rattle.asm80_types.specs.declared.fault.ReadFault.TheVariants.{Syntax, Memory}
use Rattle.asm80_types.specs.declared.stmt.Stmt80.{Stmt80}
use Rattle.asm80_types.specs.Tree.{Statement, statement_of}

-- A reading relates a stream to its statements, or to those before its first faulty line and to that line's number and rule.
abbrev pub Reading : Type 1
Reading = List ℕ → List Statement → Option ReadFault → Type 0

-- a stream has at most one outcome
abbrev pub HasOneOutcome : Reading → Type 0
HasOneOutcome reading = (stream : List ℕ) (a b : List Statement) (f g : Option ReadFault) → reading stream a f → reading stream b g → (a ≡ b) × (f ≡ g)

-- What was answered at the end of a stream is what the stream has, unless memory ran out.
abbrev pub Finishes : Reading → List ℕ → Result (Vec Stmt80) ReadFault → Type 0
Finishes reading stream (Ok v) = reading stream (map statement_of v.items) None
Finishes reading stream (Err Memory) = Unit {0}
Finishes reading stream (Err (Syntax n r)) = (statements : List Statement) × reading stream statements (Some (Syntax n r))
