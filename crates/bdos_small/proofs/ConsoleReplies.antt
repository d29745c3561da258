-- Replies that fit, and the place of a line.
use Rattle.std.proofs.Common.{◌≡◌, ◌≢◌, ℕ, ◌+◌, ◌<◌, ◌≤◌, ◌==◌, ◌&&◌, nat_lt, Bool, true, false, cond, List, [], ◌∷◌, length, refl, sym, ap, ◌∙◌, subst, arith, rules}
use Rattle.std.specs.Prelude.{Option, Some, None}
use Rattle.std.proofs.lemmas.List.{length-take}
use Rattle.std.proofs.lemmas.Bool.{false≢true, eq-eqb, lt-ltb, and_from}
use Rattle.dialogue.specs.declared.blocks.Block.{Block}
use Rattle.dialogue.specs.declared.request.Range.{Range}
use Rattle.dialogue.specs.declared.request.ArgWord.{ArgWord}
use Rattle.dialogue.specs.declared.request.ArgWord.TheVariants.{None as NoWord, Byte, Word}
use Rattle.dialogue.specs.declared.request.Request.{Request}
use Rattle.dialogue.specs.declared.request.Reply.{Reply}
use Rattle.dialogue.specs.declared.table.Argument.TheVariants.{InDE}
use Rattle.dialogue.specs.declared.table.AnswerKind.TheVariants.{NoAnswer}
use Rattle.dialogue.specs.declared.table.AnswerRule.TheVariants.{Always, ByteWhere}
use Rattle.dialogue.specs.declared.table.Extent.TheVariants.{F, Line}
use Rattle.dialogue.specs.Table.{Row, row_of}
use Rattle.dialogue.specs.Shape.{argument_address, ranges}
use Rattle.dialogue.specs.Fits.{kind_by, answer_fits, fits_row, fits, writes_fit, line_fits}
use Rattle.dialogue.specs.Lawful.{AreRangesOf, first_byte, IsLawfulRequest}
use Rattle.bdos_small.specs.Console.{ConsoleAnswered, place_in, line_read, line_left, read_byte, read_console_line, console_answer, console_status, disk_selected, told, FitsRequest, IsByte, IsDirect, TakesInputByReply}
use Rattle.bdos_small.specs.declared.console.Answer.{Answer}
use Rattle.bdos_small.specs.declared.console.Answer.TheVariants.{Reply as Replies, InputEnded, NoDrive}

-- a reply that writes nothing, to a function of a row
told_fits : (q : Request) (n k : ℕ) (row : Row) → q.shape.function ≡ k → row_of k ≡ Some row → (k == 10) ≡ false → answer_fits (kind_by row.answer q.shape.arg) n ≡ true → FitsRequest q (told n)
told_fits q n k row is at other fit =
    let y : Reply = record { answer = n; writes = [] } in
    ap (λ o. fits_row o q y) (ap row_of is ∙ at)
    ∙ ap (λ t. answer_fits (kind_by row.answer q.shape.arg) n && cond t (line_fits (ranges q.shape.writes) []) (writes_fit (ranges q.shape.writes) [])) (ap (λ f. f == 10) is ∙ other)
    ∙ and_from (answer_fits (kind_by row.answer q.shape.arg) n) true fit refl

-- functions 1, 11 and 12
byte_told : (q : Request) (n : ℕ) → q.shape.function ≡ 1 → n < 256 → FitsRequest q (told n)
unfolding row_of
byte_told q n is lt = told_fits q n 1 _ is refl refl (lt-ltb n 256 lt)

pub byte_fits : (q : Request) (a : Answer) → q.shape.function ≡ 1 → IsByte a → FitsRequest q a
byte_fits q (Replies y) is h = subst (λ ws. FitsRequest q (Replies (record { answer = y.answer; writes = ws }))) (sym h.1) (byte_told q y.answer is h.0)
byte_fits q InputEnded is h = tt
byte_fits q NoDrive is h = tt

-- function 6
direct_told : (q : Request) (n : ℕ) → q.shape.function ≡ 6 → answer_fits (kind_by (ByteWhere 0xFF) q.shape.arg) n ≡ true → FitsRequest q (told n)
unfolding row_of
direct_told q n is fit = told_fits q n 6 _ is refl refl fit

pub direct_fits : (q : Request) (a : Answer) → q.shape.function ≡ 6 → IsDirect q.shape.arg a → FitsRequest q a
direct_fits q (Replies y) is h = subst (λ ws. FitsRequest q (Replies (record { answer = y.answer; writes = ws }))) (sym h.1) (direct_told q y.answer is h.0)
direct_fits q InputEnded is h = absurd h
direct_fits q NoDrive is h = absurd h

status_told : (q : Request) (n : ℕ) → q.shape.function ≡ 11 → n < 256 → FitsRequest q (told n)
unfolding row_of
status_told q n is lt = told_fits q n 11 _ is refl refl (lt-ltb n 256 lt)

pub status_fits : (q : Request) (input : List ℕ) (a : Answer) → q.shape.function ≡ 11 → a ≡ told (console_status input) → FitsRequest q a
status_fits q [] a is e = subst (FitsRequest q) (sym e) (status_told q 0 is (omega arith))
status_fits q (b ∷ bs) a is e = subst (FitsRequest q) (sym e) (status_told q 0xFF is (omega arith))

version_told : (q : Request) (n : ℕ) → q.shape.function ≡ 12 → n < 0x10000 → FitsRequest q (told n)
unfolding row_of
version_told q n is lt = told_fits q n 12 _ is refl refl (lt-ltb n 0x10000 lt)

pub version_fits : (q : Request) (a : Answer) → q.shape.function ≡ 12 → a ≡ told 0x22 → FitsRequest q a
version_fits q a is e = subst (FitsRequest q) (sym e) (version_told q 0x22 is (omega arith))

-- function 14
selected_told : (q : Request) → q.shape.function ≡ 14 → (b : Bool) → FitsRequest q (cond b (told 0) NoDrive)
unfolding row_of
selected_told q is true = told_fits q 0 14 _ is refl refl refl
selected_told q is false = tt

pub selected_fits : (q : Request) (arg : ArgWord) (a : Answer) → q.shape.function ≡ 14 → a ≡ disk_selected arg → FitsRequest q a
selected_fits q (Byte b) a is e = subst (FitsRequest q) (sym e) (selected_told q is (b == 0))
selected_fits q NoWord a is e = subst (FitsRequest q) (sym e) tt
selected_fits q (Word w) a is e = subst (FitsRequest q) (sym e) tt

-- the row of function 10
line_row : Row
line_row = record { argument = InDE; answer = Always NoAnswer; reads = F 0 1 ∷ []; writes = Line ∷ [] }

line_row_at : row_of 10 ≡ Some line_row
unfolding row_of line_row
line_row_at = refl

-- the range that a line may fill
pub record LineRange (q : Request) : Type 0 where
  pub range : Range
  pub only : ranges q.shape.writes ≡ range ∷ []
  pub at : range.at ≡ argument_address q.shape.arg + 1
  pub len : range.len ≡ first_byte q.blocks + 1
  pub first : place_in q.shape.writes ≡ range.at

in_places : (q : Request) (dma : ℕ) (places : List (Option Range)) → q.shape.writes ≡ places → AreRangesOf (argument_address q.shape.arg) dma (first_byte q.blocks) (Line ∷ []) places → LineRange q
in_places q dma [] e h = absurd h
in_places q dma (None ∷ places) e h = absurd h
in_places q dma (Some r ∷ places) e h = record {
  range = r;
  only = ap ranges e ∙ ap (λ rs. r ∷ rs) h.1;
  at = h.0.0;
  len = h.0.1;
  first = ap place_in e;
}

pub line_range : (q : Request) → IsLawfulRequest q → q.shape.function ≡ 10 → LineRange q
unfolding line_row
line_range q l is =
    let same : Some l.row ≡ Some line_row = sym l.in_table ∙ ap row_of is ∙ line_row_at in
    let row : l.row ≡ line_row = cc in
    in_places q l.dma q.shape.writes refl (subst (λ (w : Row). AreRangesOf (argument_address q.shape.arg) l.dma (first_byte q.blocks) w.writes q.shape.writes) row l.writes)

-- a line that has room
abbrev line_reply : ℕ → List ℕ → Reply
line_reply at line = record { answer = 0; writes = record { at = at; bytes = length line ∷ line } ∷ [] }

line_reply_fits : (q : Request) (line : List ℕ) → IsLawfulRequest q → q.shape.function ≡ 10 → length line ≤ first_byte q.blocks → fits q (line_reply (argument_address q.shape.arg + 1) line) ≡ true
unfolding line_row
line_reply_fits q line l is le =
    let y = line_reply (argument_address q.shape.arg + 1) line in
    let r = line_range q l is in
    let b : Block = record { at = argument_address q.shape.arg + 1; bytes = length line ∷ line } in
    let size : r.range.len ≡ first_byte q.blocks + 1 = r.len in
    ap (λ o. fits_row o q y) (ap row_of is ∙ line_row_at)
    ∙ ap (λ t. cond t (line_fits (ranges q.shape.writes) y.writes) (writes_fit (ranges q.shape.writes) y.writes)) (ap (λ f. f == 10) is)
    ∙ ap (λ rs. line_fits rs y.writes) r.only
    ∙ and_from (b.at == r.range.at) (nat_lt (length line) r.range.len && (length line == length line)) (eq-eqb b.at r.range.at (sym r.at)) (and_from (nat_lt (length line) r.range.len) (length line == length line) (lt-ltb (length line) r.range.len (omega arith)) (eq-eqb (length line) (length line) refl))

module _ (q : Request) (input line left : List ℕ) (l : IsLawfulRequest q) (is : q.shape.function ≡ 10) (reads : line ≡ line_read (first_byte q.blocks) input) where
  place : place_in q.shape.writes ≡ argument_address q.shape.arg + 1
  place = let r = line_range q l is in r.first ∙ r.at

  -- the line that function 10 reads
  pub line_answer : (y : Reply) → y ≡ line_reply (place_in q.shape.writes) line → input ≢ [] → left ≡ line_left (first_byte q.blocks) input → ◌≡◌ {A = ConsoleAnswered} (record { answer = Replies y; left = left }) (read_console_line (argument_address q.shape.arg + 1) (first_byte q.blocks) input)
  line_answer y e some rest = by_input input some reads rest
    where
      by_input : (input : List ℕ) → input ≢ [] → line ≡ line_read (first_byte q.blocks) input → left ≡ line_left (first_byte q.blocks) input → ◌≡◌ {A = ConsoleAnswered} (record { answer = Replies y; left = left }) (read_console_line (argument_address q.shape.arg + 1) (first_byte q.blocks) input)
      by_input [] some reads rest = absurd (some refl)
      by_input (b ∷ bs) some reads rest =
          ap (λ y. record { answer = Replies y; left = left }) e
          ∙ ap (λ at. record { answer = Replies (line_reply at line); left = left }) place
          ∙ ap (λ x. record { answer = Replies (line_reply (argument_address q.shape.arg + 1) x); left = left }) reads
          ∙ ap (λ x. record { answer = Replies (line_reply (argument_address q.shape.arg + 1) (line_read (first_byte q.blocks) (b ∷ bs))); left = x }) rest

  pub line_answer_fits : (y : Reply) → y ≡ line_reply (place_in q.shape.writes) line → FitsRequest q (Replies y)
  line_answer_fits y e =
      let short : length line ≤ first_byte q.blocks = omega (arith, ap length reads, length-take {A = ℕ}) in
      ap (fits q) e ∙ ap (λ at. fits q (line_reply at line)) place ∙ line_reply_fits q line l is short

-- the answer to a call of a function that is known
pub by_function : (input : List ℕ) (q : Request) (k : ℕ) → q.shape.function ≡ k → console_answer input q ≡ console_answer input (record q { shape = record q.shape { function = k } })
by_function input q k is = ap (λ f. console_answer input (record q { shape = record q.shape { function = f } })) is

-- only a reply takes input
pub byte_takes : (a : Answer) (input left : List ℕ) → ◌≡◌ {A = ConsoleAnswered} (record { answer = a; left = left }) (read_byte input) → TakesInputByReply a input left
byte_takes a [] left e = subst (λ (x : ConsoleAnswered). TakesInputByReply x.answer [] x.left) (sym e) refl
byte_takes a (b ∷ bs) left e = subst (λ (x : ConsoleAnswered). TakesInputByReply x.answer (b ∷ bs) x.left) (sym e) tt

pub direct_takes : (arg : ArgWord) (a : Answer) (input left : List ℕ) → IsDirect arg a → TakesInputByReply a input left
direct_takes arg (Replies y) input left h = tt
direct_takes arg InputEnded input left h = absurd h
direct_takes arg NoDrive input left h = absurd h

pub line_takes : (at mx : ℕ) (a : Answer) (input left : List ℕ) → ◌≡◌ {A = ConsoleAnswered} (record { answer = a; left = left }) (read_console_line at mx input) → TakesInputByReply a input left
line_takes at mx a [] left e = subst (λ (x : ConsoleAnswered). TakesInputByReply x.answer [] x.left) (sym e) refl
line_takes at mx a (b ∷ bs) left e = subst (λ (x : ConsoleAnswered). TakesInputByReply x.answer (b ∷ bs) x.left) (sym e) tt

pub told_takes : (a : Answer) (n : ℕ) (input : List ℕ) → a ≡ told n → TakesInputByReply a input input
told_takes a n input e = subst (λ x. TakesInputByReply x input input) (sym e) tt

selected_takes_none : (b : Bool) (input : List ℕ) → TakesInputByReply (cond b (told 0) NoDrive) input input
selected_takes_none true input = tt
selected_takes_none false input = refl

pub selected_takes : (arg : ArgWord) (a : Answer) (input : List ℕ) → a ≡ disk_selected arg → TakesInputByReply a input input
selected_takes (Byte b) a input e = subst (λ x. TakesInputByReply x input input) (sym e) (selected_takes_none (b == 0) input)
selected_takes NoWord a input e = subst (λ x. TakesInputByReply x input input) (sym e) refl
selected_takes (Word w) a input e = subst (λ x. TakesInputByReply x input input) (sym e) refl

-- no input is left for a line
pub line_ends : (at mx : ℕ) (input : List ℕ) → (length input == 0) ≡ true → ◌≡◌ {A = ConsoleAnswered} (record { answer = InputEnded; left = input }) (read_console_line at mx input)
line_ends at mx [] e = refl
line_ends at mx (b ∷ bs) e =
    let no : (length (b ∷ bs) == 0) ≡ false = search rules in
    absurd (false≢true (sym no ∙ e))
