-- A stream has one outcome.
use Rattle.std.proofs.Common.{◌≡◌, ◌≢◌, ℕ, List, [], ◌∷◌, ◌++◌, map, Bool, Option, Some, None, Result, Ok, Err, refl, sym, ap, subst, ◌∙◌, arith, inl, inr, ◌⊎◌}
use Rattle.std.specs.Global.{Vec}
use Rattle.std.specs.List.{flat_map, AllByRecursion}
use Rattle.asm80_types.specs.declared.fault.LineRule.{LineRule}
use Rattle.asm80_types.specs.declared.fault.ReadFault.{ReadFault}
use Rattle.asm80_types.specs.declared.fault.ReadFault.TheVariants.{Syntax, Memory}
use Rattle.asm80_types.specs.Tree.{Statement, statement_of}
use Rattle.asm80_types.specs.Reading.{Finishes}
use Rattle.asm80_text.specs.Spelling.{Spelling}
use Rattle.asm80_text.specs.Coherent.{IsCoherent}
use Rattle.asm80_text.proofs.Once.{one_line}
use Rattle.asm80_text.proofs.Steps.{not_memory, none_not_memory}
use Rattle.base.specs.Cut.{Cut, ended}
use Rattle.base.proofs.Cuts.{split_same, not_in, regroup, one_cut}
use Rattle.asm80_text.specs.Stream.{IsPlain, IsStream, open_yet, closed, complete, LinesGive, none_left, next, fails, StreamGives, HoldsFault}
use Rattle.asm80_types.specs.declared.stmt.Stmt80.{Stmt80}
use Rattle.asm80_text.specs.Reader.{Reader, After, answer_of, Agrees}

ok_is : (a b : List Statement) → ◌≡◌ {A = Result (List Statement) LineRule} (Ok a) (Ok b) → a ≡ b
ok_is a b e = cc

ok_err : (a : List Statement) (b : LineRule) → ◌≡◌ {A = Result (List Statement) LineRule} (Ok a) (Err b) → ⊥
ok_err a b e = cc

err_is : (a b : LineRule) → ◌≡◌ {A = Result (List Statement) LineRule} (Err a) (Err b) → a ≡ b
err_is a b e = cc

no_end : (a : List ℕ) → AllByRecursion IsPlain a → AllByRecursion (λ k. k ≢ 26) a
no_end [] h = tt
no_end (x ∷ a) h = (h.0.1, no_end a h.1)

all_append : (a b : List ℕ) → AllByRecursion (λ k. k ≢ 26) a → AllByRecursion (λ k. k ≢ 26) b → AllByRecursion (λ k. k ≢ 26) (a ++ b)
all_append [] b p q = q
all_append (x ∷ a) b p q = (p.0, all_append a b p.1 q)

text_open_list : (raw : List (List ℕ)) (rest : List ℕ) → AllByRecursion (AllByRecursion IsPlain) raw → AllByRecursion IsPlain rest → AllByRecursion (λ k. k ≢ 26) (flat_map ended raw ++ rest)
text_open_list [] rest p q = no_end rest q
text_open_list (l ∷ raw) rest p q = rw (regroup l raw rest) (all_append l (10 ∷ (flat_map ended raw ++ rest)) (no_end l p.0) (λ e. omega (arith, e), text_open_list raw rest p.1 q))

text_open : (text : List ℕ) (raw : List (List ℕ)) (rest : List ℕ) → Cut IsPlain text raw rest → AllByRecursion (λ k. k ≢ 26) text
text_open text raw rest c = rw c.whole (text_open_list raw rest c.each c.last)

record SameCut (raw sow : List (List ℕ)) (rest sest : List ℕ) (k l : Bool) : Type 0 where
  raws : raw ≡ sow
  rests : rest ≡ sest
  ends : k ≡ l

one_stream : {stream rest sest : List ℕ} {raw sow : List (List ℕ)} {k l : Bool} → IsStream stream raw rest k → IsStream stream sow sest l → SameCut raw sow rest sest k l
one_stream {stream} {rest} {sest} {raw} {sow} (open_yet c) (open_yet d) = let h = one_cut (λ b p. p.0) c d in record { raws = h.0; rests = h.1; ends = refl }
one_stream {stream} {rest} {sest} {raw} {sow} (open_yet c) (closed text more d p) = absurd (not_in 26 stream text more (text_open stream raw rest c) p)
one_stream {stream} {rest} {sest} {raw} {sow} (closed text more c p) (open_yet d) = absurd (not_in 26 stream text more (text_open stream sow sest d) p)
one_stream {stream} {rest} {sest} {raw} {sow} (closed text more c p) (closed text' more' d q) =
    let t = split_same 26 text text' more more' (text_open text raw rest c) (text_open text' sow sest d) (sym p ∙ q) in
    let h = one_cut (λ b p. p.0) c (rw (← t.0) at d) in record { raws = h.0; rests = h.1; ends = refl }

some_is : (f g : ReadFault) → ◌≡◌ {A = Option ReadFault} (Some f) (Some g) → f ≡ g
some_is f g e = cc

no_some : (f : ReadFault) → ◌≡◌ {A = Option ReadFault} None (Some f) → ⊥
no_some f e = cc

module _ (spelling : Spelling) (coherent : IsCoherent spelling) where
  pub one_run : {n : ℕ} {lines : List (List ℕ)} {es fs : List Statement} {f g : Option ReadFault} → LinesGive spelling n lines es f → LinesGive spelling n lines fs g → (es ≡ fs) × (f ≡ g)
  one_run none_left none_left = (refl, refl)
  one_run (next {ss = ss} {others = es} l x) (next {ss = us} {others = fs} m y) =
      let r = one_run x y in
      let t = ok_is ss us (one_line spelling coherent l m) in
      (ap (λ (u : List Statement). u ++ es) t ∙ ap (λ (k : List Statement). us ++ k) r.0, r.1)
  one_run (next {ss = ss} l x) (fails {r = r} m) = absurd (ok_err ss r (one_line spelling coherent l m))
  one_run (fails {r = r} l) (next {ss = ss} m y) = absurd (ok_err ss r (one_line spelling coherent m l))
  one_run (fails {n = n} {r = r} l) (fails {r = s} m) = (refl, ap (λ (k : LineRule). Some (Syntax n k)) (err_is r s (one_line spelling coherent l m)))

  -- ---- one cut

  pub one_outcome_of : (stream : List ℕ) (raw sow : List (List ℕ)) (rest sest : List ℕ) (k l : Bool) (es fs : List Statement) (f g : Option ReadFault) → IsStream stream raw rest k → IsStream stream sow sest l → LinesGive spelling 1 (complete raw rest k) es f → LinesGive spelling 1 (complete sow sest l) fs g → (es ≡ fs) × (f ≡ g)
  one_outcome_of stream raw sow rest sest k l es fs f g a b x y = let s = one_stream a b in one_run x (rw (← s.raws, ← s.rests, ← s.ends) at y)

  pub one_gift : (stream : List ℕ) (es fs : List Statement) (f g : Option ReadFault) → StreamGives spelling stream es f → StreamGives spelling stream fs g → (es ≡ fs) × (f ≡ g)
  one_gift stream es fs f g a b = one_outcome_of (stream ++ 26 ∷ []) a.raw b.raw a.rest b.rest a.is_closed b.is_closed es fs f g a.cut b.cut a.lines b.lines

  -- ---- what calls answer

  one_fault : (stream : List ℕ) (s : Reader) (n : ℕ) (rule : LineRule) → After spelling stream s → HoldsFault spelling stream n rule → s.fault ≡ Some (Syntax n rule)
  one_fault stream s n rule a b = (one_outcome_of stream a.raw b.raw a.rest b.rest a.is_closed b.is_closed (map statement_of s.statements) b.statements s.fault (Some (Syntax n rule)) a.cut b.cut a.lines b.lines).1

  found_by : (stream : List ℕ) (s : Reader) (n : ℕ) (rule : LineRule) (f : Option ReadFault) (r : Result (Unit {0}) ReadFault) → s.fault ≡ f → r ≡ answer_of f → (s.fault ≢ Some Memory → After spelling stream s) → HoldsFault spelling stream n rule → (r ≡ Err (Syntax n rule)) ⊎ (r ≡ Err Memory)
  found_by stream s n rule (Some Memory) r e q a b = inr q
  found_by stream s n rule (Some (Syntax m k)) r e q a b =
      let same = sym e ∙ one_fault stream s n rule (a (λ x. not_memory m k (sym e ∙ x))) b in
      inl (q ∙ ap (λ (x : ReadFault). Err x) (some_is (Syntax m k) (Syntax n rule) same))
  found_by stream s n rule None r e q a b =
      let same = sym e ∙ one_fault stream s n rule (a (λ x. none_not_memory (sym e ∙ x))) b in absurd (no_some (Syntax n rule) same)

  pub found_in : (stream : List ℕ) (s : Reader) (n : ℕ) (rule : LineRule) (r : Result (Unit {0}) ReadFault) → r ≡ answer_of s.fault → (s.fault ≢ Some Memory → After spelling stream s) → HoldsFault spelling stream n rule → (r ≡ Err (Syntax n rule)) ⊎ (r ≡ Err Memory)
  found_in stream s n rule r q a b = found_by stream s n rule s.fault r refl q a b

  pub agrees : (stream : List ℕ) (r : Result (Vec Stmt80) ReadFault) (entries : List Statement) (fault : Option ReadFault) → Finishes (StreamGives spelling) stream r → StreamGives spelling stream entries fault → Agrees r entries fault
  agrees stream (Ok v) entries fault h g = let s = one_gift stream (map statement_of v.items) entries None fault h g in (s.0, sym s.1)
  agrees stream (Err Memory) entries fault h g = tt
  agrees stream (Err (Syntax n r)) entries fault h g = sym (one_gift stream h.0 entries (Some (Syntax n r)) fault h.1 g).1

answered : (f : Option ReadFault) (x : ReadFault) → answer_of f ≡ Err x → f ≡ Some x
answered None x e = absurd cc
answered (Some y) x e = cc

-- a fault that was answered stands in the stream
pub holds_fault :
    (spelling : Spelling) (stream : List ℕ) (s : Reader) (n : ℕ) (rule : LineRule) (r : Result (Unit {0}) ReadFault) → r ≡ answer_of s.fault → (s.fault ≢ Some Memory → After spelling stream s)
    → r ≡ Err (Syntax n rule) → HoldsFault spelling stream n rule
holds_fault spelling stream s n rule r q a e =
    let faulty : s.fault ≡ Some (Syntax n rule) = answered s.fault (Syntax n rule) (sym q ∙ e) in
    let h : After spelling stream s = a (λ memory. not_memory n rule (sym faulty ∙ memory)) in
    let Gives : Option ReadFault → Type 0 = λ f. LinesGive spelling 1 (complete h.raw h.rest h.is_closed) (map statement_of s.statements) f in
    record { raw = h.raw; rest = h.rest; is_closed = h.is_closed; statements = map statement_of s.statements; cut = h.cut; lines = subst Gives faulty h.lines }
