-- What a reader holds after one more byte.
use Rattle.std.proofs.Common.{◌≡◌, ◌≢◌, ℕ, suc, ◌+◌, ◌||◌, List, [], ◌∷◌, ◌++◌, take, length, map, Bool, true, false, Option, Some, None, refl, sym, ap, subst, ◌∙◌, append_assoc, arith, inl, inr}
use Rattle.std.specs.Prelude.{is_some}
use Rattle.std.specs.List.{AllByRecursion}
use Rattle.std.proofs.lemmas.Bool.{cases_eq, cases_Bool, ne_eqb}
use Rattle.std.proofs.lemmas.List.{length-map, append-nil, length-append}
use Rattle.asm86_line_types.specs.declared.line.Line86.{Line86}
use Rattle.asm86.specs.declared.text_fault.TextFault.{TextFault}
use Rattle.asm86.specs.declared.text_fault.TextFault.TheVariants.{Line, Memory}
use Rattle.base.specs.Held.{held_with_byte, HoldsLine}
use Rattle.asm86.specs.Stream.{IsNotLf, line_len, has_end, Ending, Open, Ended, Broken, TextLinesGive, none_left, next, ends, breaks}
use Rattle.asm86.specs.Reader.{TextReader, IsBehind, IsOf, AfterText, Advances, ReadsBy, ReadsLine}
use Rattle.base.specs.Cut.{Cut, without_cr}
use Rattle.base.proofs.Holding.{holds_byte}
use Rattle.base.proofs.Cuts.{cut_byte, cut_bytes, cut_line, map_push}
use Rattle.asm86.proofs.Lines.{true_false, open_not_ended, reads_on, stands, open_without_end, ended_with_end}

pub after_none : (reader : TextReader) → reader.lines ≡ [] → reader.number ≡ 0 → reader.held ≡ Some [] → reader.fault ≡ None → AfterText [] reader
after_none reader lines number held fault = record {
  raw = [];
  rest = [];
  found = [];
  ending = Open;
  cut = record { whole = refl; each = tt; last = tt };
  lines = none_left;
  behind = (fault, lines, number, rw held refl);
}

pub no_fault : (f : TextFault) → ◌≡◌ {A = Option TextFault} (Some f) None → ⊥
no_fault f e = cc

-- ---- a reader that goes on

-- the reader has no fault, and END has not come
pub record Opened (stream : List ℕ) (s : TextReader) : Type 0 where
  pub raw : List (List ℕ)
  pub rest : List ℕ
  pub cut : Cut IsNotLf stream raw rest
  pub lines : TextLinesGive 1 [] (map without_cr raw) s.lines Open
  pub fault : s.fault ≡ None
  pub number : s.number ≡ length raw
  pub held : HoldsLine s.held rest

opened_by : (stream : List ℕ) (s : TextReader) (raw : List (List ℕ)) (rest : List ℕ) (xs : List Line86) (e : Ending) → Cut IsNotLf stream raw rest → TextLinesGive 1 [] (map without_cr raw) xs e → IsBehind s raw rest xs e → s.fault ≡ None → has_end s.lines ≡ false → Opened stream s
opened_by stream s raw rest xs Open c l b f o = record { raw = raw; rest = rest; cut = c; lines = rw b.1 l; fault = f; number = b.2; held = b.3 }
opened_by stream s raw rest xs Ended c l b f o = absurd (true_false (has_end s.lines) (rw b.1 (ended_with_end l refl)) o)
opened_by stream s raw rest xs (Broken n rule) c l b f o = absurd (no_fault (Line n rule) (sym b ∙ f))

pub opened : (stream : List ℕ) (s : TextReader) → s.fault ≡ None → has_end s.lines ≡ false → AfterText stream s → Opened stream s
opened stream s f o h = opened_by stream s h.raw h.rest h.found h.ending h.cut h.lines h.behind f o

pub after_byte : (stream : List ℕ) (s : TextReader) (b : ℕ) (new : TextReader) → Opened stream s → b ≢ 10 → new ≡ record s { held = held_with_byte s.held b } → AfterText (stream ++ b ∷ []) new
after_byte stream s b new o ne e = rw e (record {
  raw = o.raw;
  rest = o.rest ++ b ∷ [];
  found = s.lines;
  ending = Open;
  cut = cut_byte stream o.raw o.rest b o.cut ne;
  lines = o.lines;
  behind = (o.fault, refl, o.number, holds_byte s.held o.rest b o.held);
})

-- what one more line gives
pub record Given (line : List ℕ) (s new : TextReader) : Type 0 where
  pub found : List Line86
  pub ending : Ending
  pub gives : TextLinesGive (s.number + 1) s.lines (line ∷ []) found ending
  pub is : IsOf new found ending
  pub goes_on : ending ≡ Open → (new.number ≡ s.number + 1) × (new.held ≡ Some [])

given_by : (line : List ℕ) (s new : TextReader) (f : Option TextFault) → new.fault ≡ f → f ≢ Some Memory → ReadsBy line s new f → Given line s new
given_by line s new None e ne a = elim (cases_Bool (has_end new.lines)) [
  | inl k ↦ record { found = new.lines; ending = Ended; gives = ends a.0 k; is = (e, refl); goes_on = λ x. absurd (open_not_ended (sym x)) }
  | inr k ↦ record { found = new.lines; ending = Open; gives = next a.0 k none_left; is = (e, refl); goes_on = λ _. (a.1, a.2) }
]
given_by line s new (Some Memory) e ne a = absurd (ne refl)
given_by line s new (Some (Line n rule)) e ne a = record {
  found = s.lines;
  ending = Broken n rule;
  gives = subst (λ (m : ℕ). TextLinesGive m s.lines (line ∷ []) s.lines (Broken n rule)) a.0 (breaks a.1);
  is = e;
  goes_on = λ x. absurd cc;
}

pub given : (line : List ℕ) (s new : TextReader) → new.fault ≢ Some Memory → ReadsLine line s new → Given line s new
given line s new ne a = given_by line s new new.fault refl ne a

behind_of : (new : TextReader) (raw : List (List ℕ)) (xs : List Line86) (e : Ending) → IsOf new xs e → (e ≡ Open → (new.number ≡ length raw) × (new.held ≡ Some [])) → IsBehind new raw [] xs e
behind_of new raw xs Open is k = let r = k refl in (is.0, is.1, r.0, rw r.1 refl)
behind_of new raw xs Ended is k = is
behind_of new raw xs (Broken n rule) is k = is

pub after_line : (stream : List ℕ) (s new : TextReader) (o : Opened stream s) → Given (without_cr o.rest) s new → AfterText (stream ++ 10 ∷ []) new
after_line stream s new o g = record {
  raw = o.raw ++ o.rest ∷ [];
  rest = [];
  found = g.found;
  ending = g.ending;
  cut = cut_line stream o.raw o.rest o.cut;
  lines = rw (map_push o.raw o.rest) (reads_on o.lines refl (without_cr o.rest) g.found (s.number + 1) g.ending (omega (arith, o.number, length-map o.raw without_cr)) g.gives);
  behind = behind_of new (o.raw ++ o.rest ∷ []) g.found g.ending g.is (λ x. let r = g.goes_on x in (omega (arith, r.0, o.number, length-append o.raw (o.rest ∷ [])), r.1));
}

-- ---- a reader that reads no more

not_open : (s : TextReader) (raw : List (List ℕ)) (rest : List ℕ) (xs : List Line86) (e : Ending) → TextLinesGive 1 [] (map without_cr raw) xs e → IsBehind s raw rest xs e → (is_some s.fault || has_end s.lines) ≡ true → e ≢ Open
not_open s raw rest xs Open l b d x = true_false (is_some s.fault || has_end s.lines) d (rw (b.0, b.1) (open_without_end l refl refl))
not_open s raw rest xs Ended l b d x = open_not_ended (sym x)
not_open s raw rest xs (Broken n rule) l b d x = absurd cc

pub done_not_open : (stream : List ℕ) (s : TextReader) → (is_some s.fault || has_end s.lines) ≡ true → (h : AfterText stream s) → h.ending ≢ Open
done_not_open stream s d h = not_open s h.raw h.rest h.found h.ending h.lines h.behind d

still_behind : (s : TextReader) (raw sow : List (List ℕ)) (rest sest : List ℕ) (xs : List Line86) (e : Ending) → e ≢ Open → IsBehind s raw rest xs e → IsBehind s sow sest xs e
still_behind s raw sow rest sest xs Open ne b = absurd (ne refl)
still_behind s raw sow rest sest xs Ended ne b = b
still_behind s raw sow rest sest xs (Broken n rule) ne b = b

-- more of the stream leaves the lines that are complete
record Grown (stream : List ℕ) (b : ℕ) (lines : List (List ℕ)) : Type 0 where
  raw : List (List ℕ)
  rest : List ℕ
  cut : Cut IsNotLf (stream ++ b ∷ []) raw rest
  more : List (List ℕ)
  same : map without_cr raw ≡ lines ++ more

grown : (stream : List ℕ) (raw : List (List ℕ)) (rest : List ℕ) → Cut IsNotLf stream raw rest → (b : ℕ) → Grown stream b (map without_cr raw)
grown stream raw rest c b = elim (cases_eq b 10) [
  | inl e ↦ record { raw = raw ++ rest ∷ []; rest = []; cut = rw e (cut_line stream raw rest c); more = without_cr rest ∷ []; same = map_push raw rest }
  | inr ne ↦ record { raw = raw; rest = rest ++ b ∷ []; cut = cut_byte stream raw rest b c ne; more = []; same = sym (append-nil (map without_cr raw)) }
]

pub after_done : (stream : List ℕ) (s : TextReader) (b : ℕ) → (is_some s.fault || has_end s.lines) ≡ true → AfterText stream s → AfterText (stream ++ b ∷ []) s
after_done stream s b d h =
    let g = grown stream h.raw h.rest h.cut b in
    record {
      raw = g.raw;
      rest = g.rest;
      found = h.found;
      ending = h.ending;
      cut = g.cut;
      lines = rw g.same (stands h.lines (done_not_open stream s d h) g.more);
      behind = still_behind s h.raw g.raw h.rest g.rest h.found h.ending (done_not_open stream s d h) h.behind;
    }

-- a reader that is not done
pub not_done : (f : Option TextFault) (ended : Bool) → (is_some f || ended) ≡ false → (f ≡ None) × (ended ≡ false)
not_done None ended h = (refl, h)
not_done (Some f) ended h = absurd cc

-- ---- a whole line at once

pub after_whole : (stream : List ℕ) (s new : TextReader) (bytes : List ℕ) → Opened stream s → AllByRecursion IsNotLf bytes → s.held ≡ Some [] → new.fault ≢ Some Memory → ReadsLine (without_cr bytes) s new → AfterText (stream ++ (bytes ++ 10 ∷ [])) new
after_whole stream s new bytes o plain held ne reads =
    let g = given (without_cr bytes) s new ne reads in
    let t : TextReader = record s { held = Some bytes } in
    let none : [] ≡ o.rest = rw held at o.held in
    let now : Opened (stream ++ bytes) t = record {
      raw = o.raw;
      rest = bytes;
      cut = cut_bytes stream o.raw o.rest bytes o.cut none plain;
      lines = o.lines;
      fault = o.fault;
      number = o.number;
      held = refl;
    } in
    rw (← append_assoc stream bytes (10 ∷ [])) (after_line (stream ++ bytes) t new now (record { found = g.found; ending = g.ending; gives = g.gives; is = g.is; goes_on = g.goes_on }))

-- ---- several at once

pub nothing_taken : (bytes : List ℕ) (reader : TextReader) → Advances bytes bytes reader reader
nothing_taken bytes reader = record { front = []; cut = refl; grows = λ ne stream h. rw append-nil h }

pub advance_on : (bytes mid rest : List ℕ) (old now new : TextReader) → (now.fault ≢ None → new ≡ now) → Advances bytes mid old now → Advances mid rest now new → Advances bytes rest old new
advance_on bytes mid rest old now new stands a b = record {
  front = a.front ++ b.front;
  cut = a.cut ∙ ap (λ (t : List ℕ). a.front ++ t) b.cut ∙ sym (append_assoc a.front b.front rest);
  grows = λ ne stream h.
      rw (← append_assoc stream a.front b.front)
      (b.grows ne (stream ++ a.front) (a.grows (λ e. ne (ap (λ (r : TextReader). r.fault) (stands (λ y. no_fault Memory (sym e ∙ y))) ∙ e)) stream h));
}

pub all_plain : (bytes : List ℕ) → AllByRecursion IsNotLf (take (line_len bytes) bytes)
all_plain [] = tt
all_plain (b ∷ bytes) = elim (cases_eq b 10) [
  | inl e ↦ rw e tt
  | inr ne ↦ let one : 1 + line_len bytes ≡ suc (line_len bytes) = omega arith in rw (ne_eqb b 10 ne, one) (ne, all_plain bytes)
]

-- once nothing is left, all was taken
pub all_taken : (bytes rest : List ℕ) (old new : TextReader) → length rest ≡ 0 → Advances bytes rest old new → new.fault ≢ Some Memory → (stream : List ℕ) → AfterText stream old → AfterText (stream ++ bytes) new
all_taken bytes [] old new e a ne stream h = rw (a.cut ∙ append-nil a.front) (a.grows ne stream h)
all_taken bytes (b ∷ rest) old new e a ne stream h = absurd (omega arith)
