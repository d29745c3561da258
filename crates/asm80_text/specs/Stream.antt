-- The lines of a stream of bytes, and what they give (CP/M 2.2 Operating System Manual, the assembler, "Program format").
use Rattle.std.specs.Prelude.{◌≡◌, ◌≢◌, ℕ, suc, List, [], ◌∷◌, ◌++◌, Bool, true, false, ◌==◌, ◌&&◌, if◌then◌else◌, Option, Some, None, Ok, Err, map}
use Rattle.std.specs.List.{prefix_len}
use Rattle.asm80_types.specs.declared.fault.LineRule.{LineRule}
use Rattle.asm80_types.specs.declared.fault.ReadFault.{ReadFault}
use Rattle.asm80_types.specs.declared.fault.ReadFault.TheVariants.{Syntax}
use Rattle.asm80_types.specs.Tree.{Statement}
use Rattle.asm80_text.specs.Spelling.{Spelling}
use Rattle.base.specs.Cut.{Cut, without_cr, last_line}
use Rattle.asm80_text.specs.Line.{LineGives}

-- neither LF nor the byte 1AH
abbrev pub IsPlain : ℕ → Type 0
IsPlain b = (b ≢ 10) × (b ≢ 26)

abbrev pub is_plain : ℕ → Bool
is_plain b = (if b == 10 then false else true) && (if b == 26 then false else true)

-- how many bytes at the front are
abbrev pub plain_len : List ℕ → ℕ
plain_len bytes = prefix_len is_plain bytes

-- a stream is a text, which ends at the first byte 1AH, where there is one
pub data IsStream : List ℕ → List (List ℕ) → List ℕ → Bool → Type 0 where
  open_yet : {text rest : List ℕ} {raw : List (List ℕ)} → Cut IsPlain text raw rest → IsStream text raw rest false
  closed : {stream rest : List ℕ} {raw : List (List ℕ)} (text more : List ℕ) → Cut IsPlain text raw rest → stream ≡ text ++ 26 ∷ more → IsStream stream raw rest true

-- the lines that are complete: those that LF ended, and the last one once the byte 1AH has come
abbrev pub complete : List (List ℕ) → List ℕ → Bool → List (List ℕ)
complete raw rest false = map without_cr raw
complete raw rest true = map without_cr raw ++ last_line rest

-- what lines from number n on give: the statements before the first faulty line, and its fault
pub data LinesGive (s : Spelling) : ℕ → List (List ℕ) → List Statement → Option ReadFault → Type 0 where
  none_left : {n : ℕ} → LinesGive s n [] [] None
  next : {n : ℕ} {line : List ℕ} {lines : List (List ℕ)} {ss others : List Statement} {f : Option ReadFault} → LineGives s n line (Ok ss) → LinesGive s (suc n) lines others f → LinesGive s n (line ∷ lines) (ss ++ others) f
  fails : {n : ℕ} {line : List ℕ} {lines : List (List ℕ)} {r : LineRule} → LineGives s n line (Err r) → LinesGive s n (line ∷ lines) [] (Some (Syntax n r))

-- what a whole stream gives, which ends as if the byte 1AH followed
pub record StreamGives (s : Spelling) (stream : List ℕ) (statements : List Statement) (fault : Option ReadFault) : Type 0 where
  pub raw : List (List ℕ)
  pub rest : List ℕ
  pub is_closed : Bool
  pub cut : IsStream (stream ++ 26 ∷ []) raw rest is_closed
  pub lines : LinesGive s 1 (complete raw rest is_closed) statements fault

-- a faulty line of this number is complete in the stream so far, and no line before it is faulty
pub record HoldsFault (s : Spelling) (stream : List ℕ) (n : ℕ) (rule : LineRule) : Type 0 where
  pub raw : List (List ℕ)
  pub rest : List ℕ
  pub is_closed : Bool
  pub statements : List Statement
  pub cut : IsStream stream raw rest is_closed
  pub lines : LinesGive s 1 (complete raw rest is_closed) statements (Some (Syntax n rule))
