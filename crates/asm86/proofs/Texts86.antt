-- Each ASM-86 text is read as something.
use Rattle.std.proofs.Common.{◌≡◌, ℕ, suc, ◌≤◌, List, [], ◌∷◌, ◌++◌, length, map, Bool, true, false, Option, Some, None, Result, Ok, Err, refl, subst, append_assoc, inl, inr}
use Rattle.std.specs.List.{list_all}
use Rattle.std.proofs.lemmas.Bool.{cases_Bool, cases_eq, cases_lt}
use Rattle.std.proofs.lemmas.List.{append-nil}
use Rattle.base.specs.Cut.{Cut, without_cr, last_line}
use Rattle.base.proofs.Cuts.{cut_byte, cut_line}
use Rattle.asm86_line_types.specs.declared.line.Line86.{Line86}
use Rattle.asm86_line_types.specs.declared.line.Stmt86.{Stmt86}
use Rattle.asm86_line_types.specs.declared.line.TextRule.{TextRule}
use Rattle.asm86_line_types.specs.declared.line.TextRule.TheVariants.{M1, M2, M5}
use Rattle.asm86_line_reader.specs.declared.token.Token.{Token}
use Rattle.asm86_line_reader.specs.Letters.{upper}
use Rattle.asm86_line_reader.specs.Tokens.{Lexes}
use Rattle.asm86_line_reader.specs.Forms.{statements_of, is_small}
use Rattle.asm86_line_reader.specs.Line.{TextLineGives, long, faulty, large, senseless, sensible}
use Rattle.asm86.specs.Stream.{IsNotLf, lines_of_number, are_in_order, has_end, AddsLine, unread, misplaced, Ending, Open, Ended, Broken, TextLinesGive, none_left, next, ends, breaks, outcome_of_text, TextGives}
use Rattle.asm86.proofs.Tokens86.{lexed}

-- ---- a line

record Given (line : List ℕ) : Type 0 where
  result : Result (List Stmt86) TextRule
  gives : TextLineGives line result

small_or_large : (line : List ℕ) (ts : List Token) (ss : List Stmt86) → length line ≤ 255 → Lexes (map upper line) ts true → statements_of ts ≡ Some ss → Given line
small_or_large line ts ss short lexes is = elim (cases_Bool (list_all is_small ss)) [
  | inl e ↦ record { result = Ok ss; gives = sensible short lexes is e }
  | inr e ↦ record { result = Err M1; gives = large short lexes is e }
]

sensible_or_not : (line : List ℕ) (ts : List Token) (o : Option (List Stmt86)) → length line ≤ 255 → Lexes (map upper line) ts true → statements_of ts ≡ o → Given line
sensible_or_not line ts None short lexes is = record { result = Err M2; gives = senseless short lexes is }
sensible_or_not line ts (Some ss) short lexes is = small_or_large line ts ss short lexes is

sound_or_not : (line : List ℕ) (ts : List Token) (sound : Bool) → length line ≤ 255 → Lexes (map upper line) ts sound → Given line
sound_or_not line ts true short lexes = sensible_or_not line ts (statements_of ts) short lexes refl
sound_or_not line ts false short lexes = record { result = Err M1; gives = faulty short lexes }

given : (line : List ℕ) → Given line
given line = elim (cases_lt 255 (length line)) [
  | inl is_long ↦ record { result = Err M1; gives = long is_long }
  | inr short ↦ let l = lexed (map upper line) in sound_or_not line l.tokens l.sound short l.lexes
]

-- ---- lines

record AllGiven (n : ℕ) (xs : List Line86) (lines : List (List ℕ)) : Type 0 where
  found : List Line86
  ending : Ending
  gives : TextLinesGive n xs lines found ending

-- a line more, by what it gives
line_more : (n : ℕ) (xs : List Line86) (line : List ℕ) (lines : List (List ℕ)) → ((ys : List Line86) → AllGiven (suc n) ys lines) → (r : Result (List Stmt86) TextRule) → TextLineGives line r → AllGiven n xs (line ∷ lines)
line_more n xs line lines rest (Err rule) g = record { found = xs; ending = Broken n rule; gives = breaks (unread g) }
line_more n xs line lines rest (Ok ss) g = elim (cases_Bool (are_in_order (xs ++ lines_of_number n ss))) [
  | inr e ↦ record { found = xs; ending = Broken n M5; gives = breaks (misplaced g e) }
  | inl e ↦
      let adds : AddsLine xs n line (xs ++ lines_of_number n ss) = record { given = ss; reads = g; whole = refl; in_order = e } in
      elim (cases_Bool (has_end (xs ++ lines_of_number n ss))) [
        | inl ended ↦ record { found = xs ++ lines_of_number n ss; ending = Ended; gives = ends adds ended }
        | inr goes_on ↦ let all = rest (xs ++ lines_of_number n ss) in record { found = all.found; ending = all.ending; gives = next adds goes_on all.gives }
      ]
]

all_given : (lines : List (List ℕ)) (n : ℕ) (xs : List Line86) → AllGiven n xs lines
all_given [] n xs = record { found = xs; ending = Open; gives = none_left }
all_given (line ∷ lines) n xs = let g = given line in line_more n xs line lines (all_given lines (suc n)) g.result g.gives

-- ---- a text

record Lined (text : List ℕ) : Type 0 where
  raw : List (List ℕ)
  rest : List ℕ
  cut : Cut IsNotLf text raw rest

lined_behind : (bytes text : List ℕ) (raw : List (List ℕ)) (rest : List ℕ) → Cut IsNotLf text raw rest → Lined (text ++ bytes)
lined_behind [] text raw rest c = rw (append-nil text) (record { raw = raw; rest = rest; cut = c })
lined_behind (b ∷ bytes) text raw rest c = elim (cases_eq b 10) [
  | inl e ↦ rw e (subst Lined (append_assoc text (10 ∷ []) bytes) (lined_behind bytes (text ++ 10 ∷ []) (raw ++ rest ∷ []) [] (cut_line text raw rest c)))
  | inr ne ↦ subst Lined (append_assoc text (b ∷ []) bytes) (lined_behind bytes (text ++ b ∷ []) raw (rest ++ b ∷ []) (cut_byte text raw rest b c ne))
]

pub is_read : (text : List ℕ) → (outcome : Result (List Line86) (ℕ × TextRule)) × TextGives text outcome
is_read text =
    let s = lined_behind text [] [] [] (record { whole = refl; each = tt; last = tt }) in
    let all = all_given (map without_cr s.raw ++ last_line s.rest) 1 [] in
    (outcome_of_text all.found all.ending, record { raw = s.raw; rest = s.rest; found = all.found; ending = all.ending; cut = s.cut; lines = all.gives; is = refl })
