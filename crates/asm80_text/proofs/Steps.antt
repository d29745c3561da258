-- What a reader holds after one more byte.
use Rattle.std.proofs.Common.{◌≡◌, ◌≢◌, ℕ, suc, ◌<◌, ◌+◌, take, List, [], ◌∷◌, ◌++◌, length, map, Bool, true, false, eqb, ◌-◌, Option, Some, None, Err, refl, sym, ap, subst, ◌∙◌, append_assoc, arith, inl, inr}
use Rattle.std.specs.Prelude.{is_some, slice_index}
use Rattle.std.specs.List.{AllByRecursion}
use Rattle.std.proofs.lemmas.Bool.{cases_eq, cases_lt, lt-ltb, le-ltb, cases_Bool}
use Rattle.std.proofs.lemmas.List.{length-take, length-map, append-nil, length-append, map-append}
use Rattle.std.proofs.lemmas.Bool.Decides.{nat_tests}
use Rattle.asm80_types.specs.declared.fault.LineRule.{LineRule}
use Rattle.asm80_types.specs.declared.fault.ReadFault.{ReadFault}
use Rattle.asm80_types.specs.declared.fault.ReadFault.TheVariants.{Syntax, Memory}
use Rattle.asm80_types.specs.declared.stmt.Stmt80.{Stmt80}
use Rattle.asm80_types.specs.Tree.{statement_of}
use Rattle.asm80_types.specs.Reading.{Finishes}
use Rattle.asm80_text.specs.Spelling.{Spelling}
use Rattle.asm80_text.specs.Line.{LineGives, late, long}
use Rattle.base.specs.Held.{held_with_byte, HoldsLine}
use Rattle.base.specs.Cut.{Cut, without_cr, last_line}
use Rattle.asm80_text.specs.Stream.{IsPlain, is_plain, plain_len, IsStream, open_yet, closed, complete, LinesGive, none_left, StreamGives}
use Rattle.asm80_text.specs.Reader.{Reader, After, Advances, rule_of_long, EndsLineBy, EndsLine, AddsBy, Adds, EndsStreamBy, EndsStream}
use Rattle.base.proofs.Cuts.{cut_byte, cut_bytes, cut_line, map_push}
use Rattle.base.proofs.Holding.{holds_byte}
use Rattle.asm80_text.proofs.Grow.{reads_on, reads_fault, stands}

stream_closed : {stream rest : List ℕ} {raw : List (List ℕ)} {k : Bool} → IsStream stream raw rest k → k ≡ true → (b : ℕ) → IsStream (stream ++ b ∷ []) raw rest k
stream_closed (open_yet c) e b = absurd cc
stream_closed (closed text more c p) e b = closed text (more ++ b ∷ []) c (ap (λ (t : List ℕ). t ++ b ∷ []) p ∙ append_assoc text (26 ∷ more) (b ∷ []))

cut_of : {stream rest : List ℕ} {raw : List (List ℕ)} {k : Bool} → IsStream stream raw rest k → k ≡ false → Cut IsPlain stream raw rest
cut_of (open_yet c) e = c
cut_of (closed text more c p) e = absurd cc

no_fault : (n : ℕ) (r : LineRule) → ◌≡◌ {A = Option ReadFault} (Some (Syntax n r)) None → ⊥
no_fault n r e = cc

holds_line : (line rest : List ℕ) → HoldsLine (Some line) rest → line ≡ rest
holds_line line rest h = h

holds_long : (rest : List ℕ) → HoldsLine None rest → 256 < length rest
holds_long rest h = h

without_cr_long : (rest : List ℕ) → 256 < length rest → 255 < length (without_cr rest)
without_cr_long rest h = elim (cases_Bool (eqb (slice_index rest (length rest - 1)) 13)) [
  | inl e ↦ rw e (omega (arith, length-take (length rest - 1) rest))
  | inr e ↦ rw e (omega arith)
]

last_long : (rest : List ℕ) → 256 < length rest → last_line rest ≡ rest ∷ []
last_long [] h = absurd (omega arith)
last_long (b ∷ rest) h = refl

-- more of the stream leaves the lines that are complete
record Grown (stream : List ℕ) (b : ℕ) (lines : List (List ℕ)) : Type 0 where
  raw : List (List ℕ)
  rest : List ℕ
  is_closed : Bool
  cut : IsStream (stream ++ b ∷ []) raw rest is_closed
  more : List (List ℕ)
  same : complete raw rest is_closed ≡ lines ++ more

grown : {stream rest : List ℕ} {raw : List (List ℕ)} {k : Bool} → IsStream stream raw rest k → (b : ℕ) → Grown stream b (complete raw rest k)
grown {rest = rest} {raw = raw} (closed text more c p) b = record { raw = raw; rest = rest; is_closed = true; cut = stream_closed (closed text more c p) refl b; more = []; same = sym (append-nil (complete raw rest true)) }
grown {stream} {rest} {raw} (open_yet c) b = elim (cases_eq b 10) [
  | inl e ↦ record { raw = raw ++ rest ∷ []; rest = []; is_closed = false; cut = rw e (open_yet (cut_line stream raw rest c)); more = without_cr rest ∷ []; same = map_push raw rest }
  | inr ne ↦ elim (cases_eq b 26) [
    | inl f ↦ record { raw = raw; rest = rest; is_closed = true; cut = rw f (closed stream [] c refl); more = last_line rest; same = refl }
    | inr nf ↦ record { raw = raw; rest = rest ++ b ∷ []; is_closed = false; cut = open_yet (cut_byte stream raw rest b c (ne, nf)); more = []; same = sym (append-nil (map without_cr raw)) }
  ]
]

pub not_memory : (n : ℕ) (r : LineRule) → ◌≡◌ {A = Option ReadFault} (Some (Syntax n r)) (Some Memory) → ⊥
not_memory n r e = cc

pub none_not_memory : ◌≡◌ {A = Option ReadFault} None (Some Memory) → ⊥
none_not_memory e = cc

pub is_some_none : (o : Option ReadFault) → is_some o ≡ true → o ≢ None
is_some_none None e x = absurd cc
is_some_none (Some f) e x = cc

module _ (spelling : Spelling) where
  pub after_none : (reader : Reader) → reader.statements ≡ [] → reader.held ≡ Some [] → reader.number ≡ 0 → reader.is_closed ≡ false → reader.fault ≡ None → After spelling [] reader
  after_none reader es held number open_now fault = record {
    raw = [];
    rest = [];
    is_closed = false;
    cut = open_yet (record { whole = refl; each = tt; last = tt });
    lines = rw (es, fault) none_left;
    closing = λ _. open_now;
    held = λ _ _. (rw held refl, number);
  }

  -- what follows the end is not looked at
  pub after_ignored : (stream : List ℕ) (s : Reader) (b : ℕ) → s.fault ≡ None → s.is_closed ≡ true → After spelling stream s → After spelling (stream ++ b ∷ []) s
  after_ignored stream s b fault shut h = record {
    raw = h.raw;
    rest = h.rest;
    is_closed = h.is_closed;
    cut = stream_closed h.cut (sym (h.closing fault) ∙ shut) b;
    lines = h.lines;
    closing = h.closing;
    held = h.held;
  }

  long_line : (n : ℕ) (line : List ℕ) → 255 < length line → LineGives spelling n line (Err (rule_of_long n))
  long_line n line h = elim (cases_lt 32768 n) [
    | inl lt ↦ rw (lt-ltb 32768 n lt) (late lt)
    | inr le ↦ rw (le-ltb 32768 n le) (long le h)
  ]

  module _ (stream : List ℕ) (s : Reader) (fault : s.fault ≡ None) (open_now : s.is_closed ≡ false) (h : After spelling stream s) where
    is_open : h.is_closed ≡ false
    is_open = sym (h.closing fault) ∙ open_now

    cut_now : Cut IsPlain stream h.raw h.rest
    cut_now = cut_of h.cut is_open

    reads_now : LinesGive spelling 1 (map without_cr h.raw) (map statement_of s.statements) s.fault
    reads_now = rw is_open at h.lines

    held_now : HoldsLine s.held h.rest
    held_now = (h.held fault is_open).0

    number_now : s.number ≡ length h.raw
    number_now = (h.held fault is_open).1

    pub after_byte : (b : ℕ) → IsPlain b → (new : Reader) → new ≡ record s { held = held_with_byte s.held b } → After spelling (stream ++ b ∷ []) new
    after_byte b p new e = rw e (record {
      raw = h.raw;
      rest = h.rest ++ b ∷ [];
      is_closed = false;
      cut = open_yet (cut_byte stream h.raw h.rest b cut_now p);
      lines = reads_now;
      closing = λ _. open_now;
      held = λ _ _. (holds_byte s.held h.rest b held_now, number_now);
    })

    next_number : s.number + 1 ≡ 1 + length (map without_cr h.raw)
    next_number = omega (arith, number_now, length-map h.raw without_cr)

    line_held : (line : List ℕ) → s.held ≡ Some line → line ≡ h.rest
    line_held line e = holds_line line h.rest (subst (λ (o : Option (List ℕ)). HoldsLine o h.rest) e held_now)

    after_line_by : (line : List ℕ) → s.held ≡ Some line → (new : Reader) (f : Option ReadFault) → new.fault ≡ f → f ≢ Some Memory → AddsBy spelling (without_cr line) s new f → After spelling (stream ++ 10 ∷ []) new
    after_line_by line k new None e ne a = rw a.2 (record {
      raw = h.raw ++ h.rest ∷ [];
      rest = [];
      is_closed = false;
      cut = open_yet (cut_line stream h.raw h.rest cut_now);
      lines = rw (fault, map_push h.raw h.rest, map-append statement_of s.statements a.0) (reads_on reads_now fault (without_cr h.rest) (map statement_of a.0) (s.number + 1) next_number (rw (line_held line k) at a.1));
      closing = λ _. open_now;
      held = λ _ _. (refl, omega (arith, number_now, length-append h.raw (h.rest ∷ [])));
    })
    after_line_by line k new (Some Memory) e ne a = absurd (ne refl)
    after_line_by line k new (Some (Syntax n r)) e ne a = record {
      raw = h.raw ++ h.rest ∷ [];
      rest = [];
      is_closed = false;
      cut = open_yet (cut_line stream h.raw h.rest cut_now);
      lines = rw (e, a.2, map_push h.raw h.rest) (reads_fault reads_now fault (without_cr h.rest) r n (a.0 ∙ next_number) (rw (line_held line k) at a.1));
      closing = λ x. absurd (no_fault n r (sym e ∙ x));
      held = λ x _. absurd (no_fault n r (sym e ∙ x));
    }

    long_now : s.held ≡ None → 256 < length h.rest
    long_now e = holds_long h.rest (subst (λ (o : Option (List ℕ)). HoldsLine o h.rest) e held_now)

    after_line_of : (held : Option (List ℕ)) → s.held ≡ held → (new : Reader) → new.fault ≢ Some Memory → EndsLineBy spelling held s new → After spelling (stream ++ 10 ∷ []) new
    after_line_of (Some line) k new ne a = after_line_by line k new new.fault refl ne a
    after_line_of None k new ne a = record {
      raw = h.raw ++ h.rest ∷ [];
      rest = [];
      is_closed = false;
      cut = open_yet (cut_line stream h.raw h.rest cut_now);
      lines = rw (a.0, a.1, map_push h.raw h.rest) (reads_fault reads_now fault (without_cr h.rest) (rule_of_long (s.number + 1)) (s.number + 1) next_number (long_line (s.number + 1) (without_cr h.rest) (without_cr_long h.rest (long_now k))));
      closing = λ x. absurd (no_fault (s.number + 1) (rule_of_long (s.number + 1)) (sym a.0 ∙ x));
      held = λ x _. absurd (no_fault (s.number + 1) (rule_of_long (s.number + 1)) (sym a.0 ∙ x));
    }

    pub after_line : (new : Reader) → new.fault ≢ Some Memory → EndsLine spelling s new → After spelling (stream ++ 10 ∷ []) new
    after_line new ne a = after_line_of s.held refl new ne a

    cut_end : IsStream (stream ++ 26 ∷ []) h.raw h.rest true
    cut_end = closed stream [] cut_now refl

    after_end_by : (new : Reader) (b : ℕ) (bytes : List ℕ) → s.held ≡ Some (b ∷ bytes) → (f : Option ReadFault) → new.fault ≡ f → f ≢ Some Memory → AddsBy spelling (b ∷ bytes) (record s { is_closed = true }) new f → After spelling (stream ++ 26 ∷ []) new
    after_end_by new b bytes p None e ne a = let q = sym (line_held (b ∷ bytes) p) in rw a.2 (record {
      raw = h.raw;
      rest = h.rest;
      is_closed = true;
      cut = cut_end;
      lines = rw (fault, q, map-append statement_of s.statements a.0) (reads_on reads_now fault (b ∷ bytes) (map statement_of a.0) (s.number + 1) next_number a.1);
      closing = λ _. refl;
      held = λ _ x. absurd cc;
    })
    after_end_by new b bytes p (Some Memory) e ne a = absurd (ne refl)
    after_end_by new b bytes p (Some (Syntax n r)) e ne a = let q = sym (line_held (b ∷ bytes) p) in record {
      raw = h.raw;
      rest = h.rest;
      is_closed = true;
      cut = cut_end;
      lines = rw (e, a.2, q) (reads_fault reads_now fault (b ∷ bytes) r n (a.0 ∙ next_number) a.1);
      closing = λ x. absurd (no_fault n r (sym e ∙ x));
      held = λ x _. absurd (no_fault n r (sym e ∙ x));
    }

    after_end_of : (new : Reader) (held : Option (List ℕ)) → s.held ≡ held → new.fault ≢ Some Memory → EndsStreamBy spelling held s new → After spelling (stream ++ 26 ∷ []) new
    after_end_of new (Some []) p ne a = let q = sym (line_held [] p) in rw a (record {
      raw = h.raw;
      rest = h.rest;
      is_closed = true;
      cut = cut_end;
      lines = rw (q, append-nil (map without_cr h.raw)) reads_now;
      closing = λ _. refl;
      held = λ _ x. absurd cc;
    })
    after_end_of new (Some (b ∷ bytes)) p ne a = after_end_by new b bytes p new.fault refl ne a
    after_end_of new None p ne a = record {
      raw = h.raw;
      rest = h.rest;
      is_closed = true;
      cut = cut_end;
      lines = rw (a.0, a.1, last_long h.rest (long_now p)) (reads_fault reads_now fault h.rest (rule_of_long (s.number + 1)) (s.number + 1) next_number (long_line (s.number + 1) h.rest (omega (arith, long_now p))));
      closing = λ x. absurd (no_fault (s.number + 1) (rule_of_long (s.number + 1)) (sym a.0 ∙ x));
      held = λ x _. absurd (no_fault (s.number + 1) (rule_of_long (s.number + 1)) (sym a.0 ∙ x));
    }

    pub after_end : (new : Reader) → new.fault ≢ Some Memory → EndsStream spelling s new → After spelling (stream ++ 26 ∷ []) new
    after_end new ne a = after_end_of new s.held refl ne a

  -- ---- a whole line at once

  held_before : (line : List ℕ) (s : Reader) (bytes : List ℕ) (new : Reader) (f : Option ReadFault) → AddsBy spelling line s new f → AddsBy spelling line (record s { held = Some bytes }) new f
  held_before line s bytes new None a = a
  held_before line s bytes new (Some Memory) a = a
  held_before line s bytes new (Some (Syntax n r)) a = a

  pub after_whole : (stream : List ℕ) (s : Reader) → s.fault ≡ None → s.is_closed ≡ false → After spelling stream s → (bytes : List ℕ) → AllByRecursion IsPlain bytes → s.held ≡ Some [] → (new : Reader) → new.fault ≢ Some Memory → Adds spelling (without_cr bytes) s new → After spelling (stream ++ (bytes ++ 10 ∷ [])) new
  after_whole stream s fault open_now h bytes plain k new ne a =
      let t : Reader = record s { held = Some bytes } in
      let g : After spelling (stream ++ bytes) t = record {
        raw = h.raw;
        rest = bytes;
        is_closed = false;
        cut = open_yet (cut_bytes stream h.raw h.rest bytes (cut_now stream s fault open_now h) (line_held stream s fault open_now h [] k) plain);
        lines = reads_now stream s fault open_now h;
        closing = λ _. open_now;
        held = λ _ _. (refl, number_now stream s fault open_now h);
      } in
      rw (← append_assoc stream bytes (10 ∷ [])) (after_line (stream ++ bytes) t fault open_now g new ne (held_before (without_cr bytes) s bytes new new.fault a))

  -- ---- after a fault

  pub after_failed : (stream : List ℕ) (s : Reader) (b : ℕ) → s.fault ≢ None → After spelling stream s → After spelling (stream ++ b ∷ []) s
  after_failed stream s b ne h =
      let g = grown h.cut b in
      record {
        raw = g.raw;
        rest = g.rest;
        is_closed = g.is_closed;
        cut = g.cut;
        lines = rw g.same (stands h.lines ne g.more);
        closing = λ x. absurd (ne x);
        held = λ x _. absurd (ne x);
      }

  -- ---- the end

  gives_from : (stream : List ℕ) (s : Reader) → After spelling (stream ++ 26 ∷ []) s → StreamGives spelling stream (map statement_of s.statements) s.fault
  gives_from stream s h = record { raw = h.raw; rest = h.rest; is_closed = h.is_closed; cut = h.cut; lines = h.lines }

  pub finish_fault : (stream : List ℕ) (s : Reader) (f : ReadFault) → s.fault ≡ Some f → (s.fault ≢ Some Memory → After spelling (stream ++ 26 ∷ []) s) → Finishes (StreamGives spelling) stream (Err f)
  finish_fault stream s Memory e h = tt
  finish_fault stream s (Syntax n r) e h = (map statement_of s.statements, rw e at (gives_from stream s (h (λ x. not_memory n r (sym e ∙ x)))))

  pub finish_none : (stream : List ℕ) (s : Reader) (entries : List Stmt80) → s.statements ≡ entries → s.fault ≡ None → (s.fault ≢ Some Memory → After spelling (stream ++ 26 ∷ []) s) → StreamGives spelling stream (map statement_of entries) None
  finish_none stream s entries es e h = rw (e, es) at (gives_from stream s (h (λ x. none_not_memory (sym e ∙ x))))

-- ---- several at once

pub nothing_taken : (s : Spelling) (bytes : List ℕ) (reader : Reader) → Advances s bytes bytes reader reader
nothing_taken s bytes reader = record { front = []; cut = refl; grows = λ ne stream h. rw append-nil h }

some_memory : (f : Option ReadFault) → f ≡ Some Memory → f ≢ None
some_memory f e n = cc

pub advance_on : (s : Spelling) (bytes mid rest : List ℕ) (old now new : Reader) → (now.fault ≢ None → new ≡ now) → Advances s bytes mid old now → Advances s mid rest now new → Advances s bytes rest old new
advance_on s bytes mid rest old now new stands a b = record {
  front = a.front ++ b.front;
  cut = a.cut ∙ ap (λ (t : List ℕ). a.front ++ t) b.cut ∙ sym (append_assoc a.front b.front rest);
  grows = λ ne stream h.
      rw (← append_assoc stream a.front b.front)
      (b.grows ne (stream ++ a.front) (a.grows (λ e. ne (ap (λ (r : Reader). r.fault) (stands (some_memory now.fault e)) ∙ e)) stream h));
}

plain_one : (b : ℕ) → is_plain b ≡ true → IsPlain b
plain_one b e = grind (arith, nat_tests)

pub all_plain : (bytes : List ℕ) → AllByRecursion IsPlain (take (plain_len bytes) bytes)
all_plain [] = tt
all_plain (b ∷ bytes) = elim (cases_Bool (is_plain b)) [
  | inl e ↦ let one : 1 + plain_len bytes ≡ suc (plain_len bytes) = omega arith in rw (e, one) (plain_one b e, all_plain bytes)
  | inr e ↦ rw e tt
]

-- once nothing is left, all was taken
pub all_taken : (s : Spelling) (bytes rest : List ℕ) (old new : Reader) → length rest ≡ 0 → Advances s bytes rest old new → new.fault ≢ Some Memory → (stream : List ℕ) → After s stream old → After s (stream ++ bytes) new
all_taken s bytes [] old new e a ne stream h = rw (a.cut ∙ append-nil a.front) (a.grows ne stream h)
all_taken s bytes (b ∷ rest) old new e a ne stream h = absurd (omega arith)
