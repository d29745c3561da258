-- Where statements lie in the code: lengths of encodings, offsets of labels, and the bytes.
use Rattle.std.specs.Prelude.{ℕ, ◌+◌, ◌-◌, ◌%◌, ◌==◌, Bool, true, false, cond, List, [], ◌∷◌, ◌++◌, length, Option, Some, None, unwrap_or}
use Rattle.i86.specs.declared.Instr86.{Instr86}
use Rattle.i86.specs.declared.Instr86.TheVariants.{MovNum16, Jcc, JmpNear, JmpShort, CallNear}
use Rattle.i86.specs.Enc86.{enc86}
use Rattle.asm86_line_types.specs.declared.line.Label.{Label}
use Rattle.asm86_line_types.specs.declared.line.Label.TheVariants.{At, Skip, User, Sys, End}
use Rattle.asm86_line_types.specs.declared.line.Stmt86.{Stmt86}
use Rattle.asm86_line_types.specs.declared.line.Stmt86.TheVariants.{Cseg, Dseg, Org, Rb, Db, Dw, Mark, Run, MovOffset, Jmp, Jmps, Jcc as JccTo, Call, EndText}

-- whether two labels are the same
abbrev pub same_label : Label → Label → Bool
same_label (At a) (At b) = a == b
same_label (Skip a) (Skip b) = a == b
same_label (User a) (User b) = a == b
same_label Sys Sys = true
same_label End End = true
same_label l k = false

-- the bytes that a statement takes in the code
abbrev pub size_of : Stmt86 → ℕ
size_of Cseg = 0
size_of Dseg = 0
size_of (Org w) = 0
size_of (Rb w) = 0
size_of (Db n) = 0
size_of (Dw v) = 0
size_of (Mark l) = 0
size_of (Run i) = length (enc86 i)
size_of (MovOffset r l) = 3
size_of (Jmp l) = 3
size_of (Jmps l) = 2
size_of (JccTo j l) = 2
size_of (Call l) = 3
size_of EndText = 0

abbrev pub sizes_of : List Stmt86 → ℕ
sizes_of [] = 0
sizes_of (x ∷ xs) = size_of x + sizes_of xs

-- the label that a statement is
abbrev pub marked : Stmt86 → Option Label
marked Cseg = None
marked Dseg = None
marked (Org w) = None
marked (Rb w) = None
marked (Db n) = None
marked (Dw v) = None
marked (Mark l) = Some l
marked (Run i) = None
marked (MovOffset r l) = None
marked (Jmp l) = None
marked (Jmps l) = None
marked (JccTo j l) = None
marked (Call l) = None
marked EndText = None

abbrev pub is_label : Label → Option Label → Bool
is_label l None = false
is_label l (Some k) = same_label k l

-- the statement is this label
abbrev pub marks : Label → Stmt86 → Bool
marks l x = is_label l (marked x)

-- the offset of a label in statements that begin at a place, if it stands there: the sum of the lengths before it
abbrev pub offset_from : ℕ → List Stmt86 → Label → Option ℕ
offset_from at [] l = None
offset_from at (x ∷ xs) l = cond (marks l x) (Some at) (offset_from (at + size_of x) xs l)

abbrev pub offset_of : List Stmt86 → Label → Option ℕ
offset_of xs l = offset_from 0 xs l

-- the offset of a label that stands in the statements
abbrev pub place_of : List Stmt86 → Label → ℕ
place_of xs l = unwrap_or (offset_of xs l) 0

-- the distance from one place to another, as a word; `from` is at most 10000H, as each place of a code of 65,535 bytes is
abbrev pub distance16 : ℕ → ℕ → ℕ
distance16 from to = (to + (0x10000 - from)) % 0x10000

-- the low byte of that word, which is the distance where a short jump reaches
abbrev pub distance8 : ℕ → ℕ → ℕ
distance8 from to = distance16 from to % 256

-- the instruction that a statement at a place is, where `off` gives the offset of each label
abbrev pub instr_of : (Label → ℕ) → ℕ → Stmt86 → Option Instr86
instr_of off at Cseg = None
instr_of off at Dseg = None
instr_of off at (Org w) = None
instr_of off at (Rb w) = None
instr_of off at (Db n) = None
instr_of off at (Dw v) = None
instr_of off at (Mark l) = None
instr_of off at (Run i) = Some i
instr_of off at (MovOffset r l) = Some (MovNum16 r (off l))
instr_of off at (Jmp l) = Some (JmpNear (distance16 (at + 3) (off l)))
instr_of off at (Jmps l) = Some (JmpShort (distance8 (at + 2) (off l)))
instr_of off at (JccTo j l) = Some (Jcc j (distance8 (at + 2) (off l)))
instr_of off at (Call l) = Some (CallNear (distance16 (at + 3) (off l)))
instr_of off at EndText = None

abbrev pub enc_of : Option Instr86 → List ℕ
enc_of None = []
enc_of (Some i) = enc86 i

-- the bytes of a statement at a place
abbrev pub bytes_at : (Label → ℕ) → ℕ → Stmt86 → List ℕ
bytes_at off at x = enc_of (instr_of off at x)

abbrev pub code_from : (Label → ℕ) → ℕ → List Stmt86 → List ℕ
code_from off at [] = []
code_from off at (x ∷ xs) = bytes_at off at x ++ code_from off (at + size_of x) xs

-- the code of statements
abbrev pub code_of : List Stmt86 → List ℕ
code_of xs = code_from (place_of xs) 0 xs
