-- No line of a source has an LF.
use Rattle.std.proofs.Common.{ℕ, zero, suc, ◌-◌, List, [], ◌∷◌, length, map, Bool, true, false, take, drop, if◌then◌else◌}
use Rattle.std.specs.Prelude.{◌==◌, slice_index}
use Rattle.std.specs.List.{AllByRecursion}
use Rattle.base.specs.Cut.{Cut, without_cr, last_line}
use Rattle.asm80_text.specs.Stream.{IsPlain, IsStream, open_yet, closed, complete}
use Rattle.asm86.specs.Stream.{IsNotLf}
use Rattle.commented_text.specs.Commented.{AreLinesOf}
use Rattle.commented_text.proofs.WholeReading.{all_both}

abbrev pub HasNoLf : List ℕ → Type 0
HasNoLf line = AllByRecursion IsNotLf line

plain_has_none : (line : List ℕ) → AllByRecursion IsPlain line → HasNoLf line
plain_has_none [] h = tt
plain_has_none (b ∷ line) h = (h.0.0, plain_has_none line h.1)

pub all_take : {X : Type 0} (P : X → Type 0) (n : ℕ) (xs : List X) → AllByRecursion P xs → AllByRecursion P (take n xs)
all_take P zero xs h = tt
all_take P (suc n) [] h = tt
all_take P (suc n) (x ∷ xs) h = (h.0, all_take P n xs h.1)

pub all_drop : {X : Type 0} (P : X → Type 0) (n : ℕ) (xs : List X) → AllByRecursion P xs → AllByRecursion P (drop n xs)
all_drop P zero xs h = h
all_drop P (suc n) [] h = tt
all_drop P (suc n) (x ∷ xs) h = all_drop P n xs h.1

cut_if : (t : Bool) (line : List ℕ) → HasNoLf line → HasNoLf (if t then take (length line - 1) line else line)
cut_if true line h = all_take IsNotLf (length line - 1) line h
cut_if false line h = h

cr_has_none : (line : List ℕ) → HasNoLf line → HasNoLf (without_cr line)
cr_has_none line h = cut_if (slice_index line (length line - 1) == 13) line h

raw_have_none : (raw : List (List ℕ)) → AllByRecursion (AllByRecursion IsPlain) raw → AllByRecursion HasNoLf (map without_cr raw)
raw_have_none [] h = tt
raw_have_none (line ∷ raw) h = (cr_has_none line (plain_has_none line h.0), raw_have_none raw h.1)

last_has_none : (rest : List ℕ) → AllByRecursion IsPlain rest → AllByRecursion HasNoLf (last_line rest)
last_has_none [] h = tt
last_has_none (b ∷ rest) h = (plain_has_none (b ∷ rest) h, tt)

complete_have_none : (text : List ℕ) (raw : List (List ℕ)) (rest : List ℕ) (is_closed : Bool) → Cut IsPlain text raw rest → AllByRecursion HasNoLf (complete raw rest is_closed)
complete_have_none text raw rest false c = raw_have_none raw c.each
complete_have_none text raw rest true c = all_both HasNoLf (map without_cr raw) (last_line rest) (raw_have_none raw c.each) (last_has_none rest c.last)

stream_has_none : {stream rest : List ℕ} {raw : List (List ℕ)} {is_closed : Bool} → IsStream stream raw rest is_closed → AllByRecursion HasNoLf (complete raw rest is_closed)
stream_has_none {rest = rest} {raw = raw} (open_yet {text = text} c) = complete_have_none text raw rest false c
stream_has_none {rest = rest} {raw = raw} (closed text more c e) = complete_have_none text raw rest true c

pub lines_have_none : (source : List ℕ) (lines : List (List ℕ)) → AreLinesOf source lines → AllByRecursion HasNoLf lines
lines_have_none source lines h = rw h.are (stream_has_none h.cut)
