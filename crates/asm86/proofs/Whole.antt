-- A whole text, and what is answered.
use Rattle.std.proofs.Common.{◌≡◌, ◌≢◌, ℕ, ◌+◌, ◌||◌, List, [], ◌∷◌, length, map, true, false, Option, Some, None, Result, Ok, Err, refl, sym, ap, subst, ◌∙◌, arith, inl, inr, ◌⊎◌}
use Rattle.std.specs.Prelude.{is_some, IfSome}
use Rattle.std.proofs.lemmas.Option.{none-some}
use Rattle.std.specs.Global.{Vec}
use Rattle.std.proofs.lemmas.List.{length-map, append-nil}
use Rattle.asm86_line_types.specs.declared.line.Line86.{Line86}
use Rattle.asm86_line_types.specs.declared.line.TextRule.{TextRule}
use Rattle.asm86_line_types.specs.declared.line.TextRule.TheVariants.{M6}
use Rattle.asm86.specs.declared.text_fault.TextFault.{TextFault}
use Rattle.asm86.specs.declared.text_fault.TextFault.TheVariants.{Line, Memory}
use Rattle.base.specs.Cut.{Cut, without_cr, last_line}
use Rattle.asm86.specs.Stream.{IsNotLf, has_end, Ending, Open, Ended, Broken, TextLinesGive, outcome_of_text, TextGives, HoldsTextFault}
use Rattle.asm86.specs.Reader.{TextReader, IsBehind, IsOf, AfterText, AfterAll, answer_of_fault, FinishesText, AgreesWithText, ReadsRest}
use Rattle.base.proofs.Cuts.{one_cut}
use Rattle.asm86.proofs.Lines.{true_false, reads_on, stands, open_without_end, ended_with_end, one_run}
use Rattle.asm86.proofs.Steps.{no_fault, Opened, given, done_not_open}

-- ---- the end

is_of : (s : TextReader) (raw : List (List ℕ)) (rest : List ℕ) (xs : List Line86) (e : Ending) → IsBehind s raw rest xs e → IsOf s xs e
is_of s raw rest xs Open b = (b.0, b.1)
is_of s raw rest xs Ended b = b
is_of s raw rest xs (Broken n rule) b = b

pub all_done : (stream : List ℕ) (s : TextReader) → (is_some s.fault || has_end s.lines) ≡ true → AfterText stream s → AfterAll stream s
all_done stream s d h = record {
  raw = h.raw;
  rest = h.rest;
  found = h.found;
  ending = h.ending;
  cut = h.cut;
  lines = stands h.lines (done_not_open stream s d h) (last_line h.rest);
  behind = is_of s h.raw h.rest h.found h.ending h.behind;
}

all_rest_of : (stream : List ℕ) (s new : TextReader) (raw : List (List ℕ)) (rest : List ℕ) → Cut IsNotLf stream raw rest → TextLinesGive 1 [] (map without_cr raw) s.lines Open → s.fault ≡ None → s.number ≡ length raw → new.fault ≢ Some Memory → ReadsRest rest s new → AfterAll stream new
all_rest_of stream s new raw [] c l f n ne a = rw a (record {
  raw = raw;
  rest = [];
  found = s.lines;
  ending = Open;
  cut = c;
  lines = rw (append-nil (map without_cr raw)) l;
  behind = (f, refl);
})
all_rest_of stream s new raw (b ∷ bytes) c l f n ne a =
    let g = given (b ∷ bytes) s new ne a in
    record {
      raw = raw;
      rest = b ∷ bytes;
      found = g.found;
      ending = g.ending;
      cut = c;
      lines = reads_on l refl (b ∷ bytes) g.found (s.number + 1) g.ending (omega (arith, n, length-map raw without_cr)) g.gives;
      behind = g.is;
    }

pub all_rest : (stream : List ℕ) (s new : TextReader) (o : Opened stream s) → new.fault ≢ Some Memory → ReadsRest o.rest s new → AfterAll stream new
all_rest stream s new o ne a = all_rest_of stream s new o.raw o.rest o.cut o.lines o.fault o.number ne a

-- ---- what is answered at the end

gives_of : (text : List ℕ) (s : TextReader) (h : AfterAll text s) (outcome : Result (List Line86) (ℕ × TextRule)) → outcome ≡ outcome_of_text h.found h.ending → TextGives text outcome
gives_of text s h outcome e = record { raw = h.raw; rest = h.rest; found = h.found; ending = h.ending; cut = h.cut; lines = h.lines; is = e }

same_fault : (m n : ℕ) (r q : TextRule) → ◌≡◌ {A = Option TextFault} (Some (Line m r)) (Some (Line n q)) → ◌≡◌ {A = ℕ × TextRule} (n, q) (m, r)
same_fault m n r q e = cc

not_memory : (n : ℕ) (r : TextRule) → ◌≡◌ {A = Option TextFault} (Some (Line n r)) (Some Memory) → ⊥
not_memory n r e = cc

none_not_memory : ◌≡◌ {A = Option TextFault} None (Some Memory) → ⊥
none_not_memory e = cc

open_is : (s : TextReader) (lines : List (List ℕ)) (xs : List Line86) (e : Ending) → TextLinesGive 1 [] lines xs e → IsOf s xs e → s.fault ≡ None → has_end s.lines ≡ false → ◌≡◌ {A = Result (List Line86) (ℕ × TextRule)} (Err (0, M6)) (outcome_of_text xs e)
open_is s lines xs Open l is f o = refl
open_is s lines xs Ended l is f o = absurd (true_false (has_end s.lines) (rw is.1 (ended_with_end l refl)) o)
open_is s lines xs (Broken n rule) l is f o = absurd (no_fault (Line n rule) (sym is ∙ f))

ended_is : (s : TextReader) (lines : List (List ℕ)) (xs : List Line86) (e : Ending) → TextLinesGive 1 [] lines xs e → IsOf s xs e → s.fault ≡ None → has_end s.lines ≡ true → ◌≡◌ {A = Result (List Line86) (ℕ × TextRule)} (Ok s.lines) (outcome_of_text xs e)
ended_is s lines xs Open l is f o = absurd (true_false (has_end s.lines) o (rw is.1 (open_without_end l refl refl)))
ended_is s lines xs Ended l is f o = ap (λ (x : List Line86). Ok x) is.1
ended_is s lines xs (Broken n rule) l is f o = absurd (no_fault (Line n rule) (sym is ∙ f))

pub finish_open : (text : List ℕ) (s : TextReader) → s.fault ≡ None → has_end s.lines ≡ false → (s.fault ≢ Some Memory → AfterAll text s) → TextGives text (Err (0, M6))
finish_open text s f o h = let k = h (λ x. none_not_memory (sym f ∙ x)) in gives_of text s k (Err (0, M6)) (open_is s _ k.found k.ending k.lines k.behind f o)

pub finish_ended : (text : List ℕ) (s : TextReader) → s.fault ≡ None → has_end s.lines ≡ true → (s.fault ≢ Some Memory → AfterAll text s) → TextGives text (Ok s.lines)
finish_ended text s f o h = let k = h (λ x. none_not_memory (sym f ∙ x)) in gives_of text s k (Ok s.lines) (ended_is s _ k.found k.ending k.lines k.behind f o)

-- ---- one reading

pub one_reading : (text : List ℕ) (a b : Result (List Line86) (ℕ × TextRule)) → TextGives text a → TextGives text b → a ≡ b
one_reading text a b x y =
    let c = one_cut (λ b h. h) x.cut y.cut in
    let r = one_run x.lines (rw (← c.0, ← c.1) at y.lines) refl in
    x.is ∙ ap (λ (t : List Line86). outcome_of_text t x.ending) r.0 ∙ ap (λ (e : Ending). outcome_of_text y.found e) r.1 ∙ sym y.is

pub agrees : (text : List ℕ) (r : Result (Vec Line86) TextFault) (outcome : Result (List Line86) (ℕ × TextRule)) → FinishesText text r → TextGives text outcome → AgreesWithText r outcome
agrees text (Ok v) outcome h g = one_reading text outcome (Ok v.items) g h
agrees text (Err Memory) outcome h g = tt
agrees text (Err (Line n rule)) outcome h g = one_reading text outcome (Err (n, rule)) g h

-- ---- what is answered on the way

holds_of : (stream : List ℕ) (s : TextReader) (raw : List (List ℕ)) (rest : List ℕ) (xs : List Line86) (e : Ending) (n : ℕ) (rule : TextRule) → Cut IsNotLf stream raw rest → TextLinesGive 1 [] (map without_cr raw) xs e → IsBehind s raw rest xs e → s.fault ≡ Some (Line n rule) → HoldsTextFault stream n rule
holds_of stream s raw rest xs Open n rule c l b f = absurd (no_fault (Line n rule) (sym f ∙ b.0))
holds_of stream s raw rest xs Ended n rule c l b f = absurd (no_fault (Line n rule) (sym f ∙ b.0))
holds_of stream s raw rest xs (Broken m r) n rule c l b f =
    let q = same_fault m n r rule (sym b ∙ f) in
    record { raw = raw; rest = rest; found = xs; cut = c; lines = subst (λ (x : ℕ × TextRule). TextLinesGive 1 [] (map without_cr raw) xs (Broken x.0 x.1)) (sym q) l }

err_is_fault : (f : Option TextFault) (g : TextFault) → answer_of_fault f ≡ Err g → f ≡ Some g
err_is_fault None g e = absurd cc
err_is_fault (Some f) g e = cc

pub faulty_in : (stream : List ℕ) (s : TextReader) (n : ℕ) (rule : TextRule) (r : Result (Unit {0}) TextFault) → r ≡ answer_of_fault s.fault → (s.fault ≢ Some Memory → AfterText stream s) → r ≡ Err (Line n rule) → HoldsTextFault stream n rule
faulty_in stream s n rule r q a e =
    let f = err_is_fault s.fault (Line n rule) (sym q ∙ e) in
    let h = a (λ x. not_memory n rule (sym f ∙ x)) in
    holds_of stream s h.raw h.rest h.found h.ending n rule h.cut h.lines h.behind f

fault_of : (s : TextReader) (raw : List (List ℕ)) (rest : List ℕ) (xs : List Line86) (e : Ending) (n : ℕ) (rule : TextRule) → IsBehind s raw rest xs e → e ≡ Broken n rule → s.fault ≡ Some (Line n rule)
fault_of s raw rest xs Open n rule b e = absurd cc
fault_of s raw rest xs Ended n rule b e = absurd cc
fault_of s raw rest xs (Broken m r) n rule b e = b ∙ cc

one_fault : (stream : List ℕ) (s : TextReader) (n : ℕ) (rule : TextRule) → AfterText stream s → HoldsTextFault stream n rule → s.fault ≡ Some (Line n rule)
one_fault stream s n rule h b =
    let c = one_cut (λ k n. n) h.cut b.cut in
    let r = one_run h.lines (rw (← c.0) at b.lines) refl in
    fault_of s h.raw h.rest h.found h.ending n rule h.behind r.1

memory_or_not : (f : Option TextFault) → (f ≡ Some Memory) ⊎ (f ≢ Some Memory)
memory_or_not None = inr none_not_memory
memory_or_not (Some Memory) = inl refl
memory_or_not (Some (Line n rule)) = inr (not_memory n rule)

pub found_in : (stream : List ℕ) (s : TextReader) (n : ℕ) (rule : TextRule) (r : Result (Unit {0}) TextFault) → r ≡ answer_of_fault s.fault → (s.fault ≢ Some Memory → AfterText stream s) → HoldsTextFault stream n rule → (r ≡ Err (Line n rule)) ⊎ (r ≡ Err Memory)
found_in stream s n rule r q a b = elim (memory_or_not s.fault) [
  | inl e ↦ inr (q ∙ ap answer_of_fault e)
  | inr ne ↦ inl (q ∙ ap answer_of_fault (one_fault stream s n rule (a ne) b))
]

-- a fault that stands is answered
pub fault_stands : {T : Type 0} (old new : TextReader) (r : Result T TextFault) (fault : Option TextFault) → old.fault ≡ fault → (old.fault ≢ None → new ≡ old) → IfSome new.fault (λ f. r ≡ Err f) → IfSome fault (λ f. r ≡ Err f)
fault_stands old new r None is same h = tt
fault_stands old new r (Some f) is same h =
    let there : old.fault ≢ None = λ none. none-some f (sym none ∙ is) in
    subst (λ x. IfSome x (λ g. r ≡ Err g)) (ap (λ (reader : TextReader). reader.fault) (same there) ∙ is) h
