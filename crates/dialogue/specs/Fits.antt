-- What a reply may answer and write, and what it leaves.
use Rattle.std.specs.Prelude.{ℕ, ◌==◌, ◌&&◌, nat_lt, Bool, true, false, cond, List, [], ◌∷◌, length, Option, Some, None}
use Rattle.dialogue.specs.declared.blocks.Block.{Block}
use Rattle.dialogue.specs.declared.request.Range.{Range}
use Rattle.dialogue.specs.declared.request.Request.{Request}
use Rattle.dialogue.specs.declared.request.Reply.{Reply}
use Rattle.dialogue.specs.declared.request.ArgWord.{ArgWord}
use Rattle.dialogue.specs.declared.request.ArgWord.TheVariants.{None as NoWord, Byte, Word}
use Rattle.dialogue.specs.declared.request.Event.{Event}
use Rattle.dialogue.specs.declared.request.Event.TheVariants.{Call, In, Out, End}
use Rattle.dialogue.specs.Table.{AnswerKind, NoAnswer, ByteAnswer, WordAnswer, AnswerRule, Always, ByteWhere, Row, row_of}
use Rattle.dialogue.specs.Shape.{ranges, argument_address}

-- the kind of a call's answer, by its argument: function 6 answers a byte where it asks for one
abbrev pub kind_by : AnswerRule → ArgWord → AnswerKind
kind_by (Always kind) arg = kind
kind_by (ByteWhere asked) NoWord = NoAnswer
kind_by (ByteWhere asked) (Byte e) = cond (e == asked) ByteAnswer NoAnswer
kind_by (ByteWhere asked) (Word w) = NoAnswer

-- an answer of this kind: 0 where there is none
abbrev pub answer_fits : AnswerKind → ℕ → Bool
answer_fits NoAnswer n = n == 0
answer_fits ByteAnswer n = nat_lt n 256
answer_fits WordAnswer n = nat_lt n 0x10000

-- a block fills a range
abbrev pub fills_range : Range → Block → Bool
fills_range r b = (b.at == r.at) && (length b.bytes == r.len)

-- each range is written wholly once or not at all, in order
abbrev pub writes_fit : List Range → List Block → Bool
writes_fit rs [] = true
writes_fit [] (b ∷ bs) = false
writes_fit (r ∷ rs) (b ∷ bs) = cond (fills_range r b) (writes_fit rs bs) (writes_fit rs (b ∷ bs))

-- a line's length k is below the cells of its buffer, and k bytes follow it
abbrev pub line_bytes_fit : ℕ → List ℕ → Bool
line_bytes_fit room [] = false
line_bytes_fit room (k ∷ bytes) = nat_lt k room && (length bytes == k)

-- a line of up to mx bytes, its length before it, is written once, where the range of mx + 1 cells begins
abbrev pub line_fits : List Range → List Block → Bool
line_fits [] bs = false
line_fits (r ∷ rs) [] = false
line_fits (r ∷ rs) (b ∷ []) = (b.at == r.at) && line_bytes_fit r.len b.bytes
line_fits (r ∷ rs) (b ∷ (c ∷ bs)) = false

abbrev pub fits_row : Option Row → Request → Reply → Bool
fits_row None request reply = false
fits_row (Some row) request reply =
    answer_fits (kind_by row.answer request.shape.arg) reply.answer
    && cond (request.shape.function == 10)
    (line_fits (ranges request.shape.writes) reply.writes)
    (writes_fit (ranges request.shape.writes) reply.writes)

-- the reply is one that the request may get
abbrev pub fits : Request → Reply → Bool
fits request reply = fits_row (row_of request.shape.function) request reply

-- what the call answers
abbrev pub answer_in : Option Row → ArgWord → AnswerKind
answer_in None arg = NoAnswer
answer_in (Some row) arg = kind_by row.answer arg

abbrev pub answer_kind_of : Request → AnswerKind
answer_kind_of request = answer_in (row_of request.shape.function) request.shape.arg

-- a port takes no memory: to an IN any byte is a reply, to an OUT the answer 0
abbrev pub writes_nothing : List Block → Bool
writes_nothing [] = true
writes_nothing (b ∷ bs) = false

-- the reply is one that the event may get; the end gets none
abbrev pub fits_event : Event → Reply → Bool
fits_event (Call request) reply = fits request reply
fits_event (In port) reply = nat_lt reply.answer 256 && writes_nothing reply.writes
fits_event (Out port byte) reply = (reply.answer == 0) && writes_nothing reply.writes
fits_event End reply = false

-- the event that waits for its reply: the end waits for none
abbrev pub waits_in : Option Event → Option Event
waits_in None = None
waits_in (Some (Call request)) = Some (Call request)
waits_in (Some (In port)) = Some (In port)
waits_in (Some (Out port byte)) = Some (Out port byte)
waits_in (Some End) = None

-- the DMA address after a call: function 26 sets it, function 13 sets it to 80H
abbrev pub dma_after : Request → ℕ → ℕ
dma_after request dma =
    cond (request.shape.function == 26) (argument_address request.shape.arg)
    (cond (request.shape.function == 13) 0x80 dma)
