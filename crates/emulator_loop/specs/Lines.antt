-- What a run says: a line for each event of its dialogue, in order.
use Rattle.std.specs.Prelude.{ℕ, ◌/◌, ◌%◌, codes, List, [], ◌∷◌, ◌++◌}
use Rattle.hex.specs.Hex.{encode_lower}
use Rattle.dialogue.specs.declared.blocks.Block.{Block}
use Rattle.dialogue.specs.declared.request.ArgWord.{ArgWord}
use Rattle.dialogue.specs.declared.request.ArgWord.TheVariants.{None as NoWord, Byte, Word}
use Rattle.dialogue.specs.declared.request.Request.{Request}
use Rattle.dialogue.specs.declared.request.Event.{Event}
use Rattle.dialogue.specs.declared.request.Event.TheVariants.{Call, In, Out, End}

-- a blank, and then bytes in hexadecimal digits, two for each
abbrev pub blank_then : List ℕ → List ℕ
blank_then bytes = codes " " ++ encode_lower bytes

-- the argument: a byte in two digits, a word in four
abbrev pub arg_text : ArgWord → List ℕ
arg_text NoWord = []
arg_text (Byte e) = blank_then (e ∷ [])
arg_text (Word w) = blank_then (w / 256 ∷ (w % 256 ∷ []))

-- a block: its bytes, or a dash where there are none
abbrev pub bytes_text : List ℕ → List ℕ
bytes_text [] = codes " -"
bytes_text (b ∷ bs) = blank_then (b ∷ bs)

abbrev pub blocks_text : List Block → List ℕ
blocks_text [] = []
blocks_text (b ∷ bs) = bytes_text b.bytes ++ blocks_text bs

-- a call: its function in two digits, its argument, and each block that it reads
abbrev pub call_line : Request → List ℕ
call_line q =
    encode_lower (q.shape.function ∷ []) ++ (arg_text q.shape.arg ++ (blocks_text q.blocks ++ codes "\n"))

-- an IN: the port; an OUT: the port, and then the byte
abbrev pub in_line : ℕ → List ℕ
in_line port = codes "in" ++ (blank_then (port ∷ []) ++ codes "\n")

abbrev pub out_line : ℕ → ℕ → List ℕ
out_line port byte = codes "out" ++ (blank_then (port ∷ []) ++ (blank_then (byte ∷ []) ++ codes "\n"))

abbrev pub event_line : Event → List ℕ
event_line (Call q) = call_line q
event_line (In port) = in_line port
event_line (Out port byte) = out_line port byte
event_line End = codes "end\n"

-- the line behind a text that each line of a run begins with; where it is empty, the line alone
abbrev pub prefixed_line : List ℕ → Event → List ℕ
prefixed_line prefix e = prefix ++ event_line e

-- the lines of a dialogue, behind such a text each
abbrev pub event_lines : List ℕ → List Event → List ℕ
event_lines prefix [] = []
event_lines prefix (e ∷ es) = prefixed_line prefix e ++ event_lines prefix es
