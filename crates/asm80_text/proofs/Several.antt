-- The statements of a line, one after the other.
use Rattle.std.proofs.Common.{◌≡◌, ℕ, zero, suc, ◌+◌, ◌<◌, List, [], ◌∷◌, ◌++◌, map, take, get_or, length, Bool, true, false, Result, Ok, Err, refl, sym, ap, ◌∙◌, append_assoc, arith, All, Bor, ◌||◌, inl, inr}
use Rattle.std.specs.Global.{Vec}
use Rattle.std.specs.Prelude.{IfOk}
use Rattle.std.specs.List.{list_any, onto_first, AllByRecursion}
use Rattle.std.proofs.lemmas.List.{append-nil, map-append, map_push, take_more, get_or-map, length-map}
use Rattle.std.proofs.lemmas.List.Elements.{All-from_recursion, recursion_from_All}
use Rattle.std.proofs.Math.Seq.{take-append_seam}
use Rattle.std.proofs.lemmas.Bool.{cases_Bool}
use Rattle.asm80_text.specs.declared.token.Token.{Token}
use Rattle.asm80_text.specs.declared.fault.ParseFault.{ParseFault}
use Rattle.asm80_text.specs.declared.fault.ParseFault.TheVariants as faults
use Rattle.asm80_types.specs.declared.stmt.Stmt80.{Stmt80}
use Rattle.asm80_types.specs.Tree.{Statement, statement_of}
use Rattle.asm80_text.specs.Spelling.{Spelling}
use Rattle.asm80_text.specs.Tokens.{IsLawful}
use Rattle.asm80_text.specs.Statement.{IsStatementOf, kept, AreStatements, none_left, next}
use Rattle.asm80_text.specs.Line.{is_bang, parts_of}
use Rattle.asm80_text.specs.Results.{AddsStatement, GivesStatements}

-- the lists that references point to
abbrev pub targets : List (Bor (List Token)) → List (List Token)
targets parts = map (λ (x : Bor (List Token)). x.now) parts

pub one_more : {spelling : Spelling} {n : ℕ} {parts : List (List Token)} {ss : List Statement} → AreStatements spelling n parts ss → (ts : List Token) (s : Statement) → IsStatementOf spelling n ts s → AreStatements spelling n (parts ++ ts ∷ []) (ss ++ kept s)
one_more none_left ts s x = let e : kept s ++ [] ≡ kept s = append-nil (kept s) in rw e at (next x none_left)
one_more (next {s = t} {others = others} y a) ts s x = rw (append_assoc (kept t) others (kept s)) (next y (one_more a ts s x))

none_from : {spelling : Spelling} {n : ℕ} {parts : List (List Token)} {ss : List Statement} → AreStatements spelling n parts ss → (i : ℕ) (d : List Token) → i < length parts → ((s : Statement) → IsStatementOf spelling n (get_or parts i d) s → ⊥) → ⊥
none_from none_left i d lt never = absurd (omega arith)
none_from (next {s = s} x a) zero d lt never = never s x
none_from (next x a) (suc i) d lt never = none_from a i d (omega arith) never

goes_on : (spelling : Spelling) (n : ℕ) (parts : List (Bor (List Token))) (i : ℕ) (part : Bor (List Token)) (ss : List Statement) (s : Statement) → i < length parts → part ≡ get_or parts i part → AreStatements spelling n (targets (take i parts)) ss → IsStatementOf spelling n part.now s → AreStatements spelling n (targets (take (i + 1) parts)) (ss ++ kept s)
goes_on spelling n parts i part ss s lt e a x =
    let more : targets (take (i + 1) parts) ≡ targets (take i parts) ++ part.now ∷ [] =
    ap targets (take_more parts i part lt) ∙ map_push (λ (x : Bor (List Token)). x.now) (take i parts) (get_or parts i part) ∙ ap (λ (x : Bor (List Token)). targets (take i parts) ++ x.now ∷ []) (sym e) in
    rw more (one_more a part.now s x)

-- what the first parts of a line have added to others
pub record HaveAdded (spelling : Spelling) (n : ℕ) (parts : List (List Token)) (old new : List Stmt80) : Type 0 where
  pub more : List Stmt80
  pub added : new ≡ old ++ more
  pub are : AreStatements spelling n parts (map statement_of more)

pub nothing_added : (spelling : Spelling) (n : ℕ) (old : List Stmt80) → HaveAdded spelling n [] old old
nothing_added spelling n old = record { more = []; added = sym (append-nil old); are = none_left }

pub adds_on : (spelling : Spelling) (n : ℕ) (parts : List (Bor (List Token))) (i : ℕ) (part : Bor (List Token)) (old now new : List Stmt80) → i < length parts → part ≡ get_or parts i part → HaveAdded spelling n (targets (take i parts)) old now → AddsStatement spelling n part.now now new (Ok tt) → HaveAdded spelling n (targets (take (i + 1) parts)) old new
adds_on spelling n parts i part old now new lt e h a = record {
  more = h.more ++ a.2.0;
  added = a.2.1 ∙ ap (λ xs. xs ++ a.2.0) h.added ∙ append_assoc old h.more a.2.0;
  are = rw (map-append statement_of h.more a.2.0, a.2.2) (goes_on spelling n parts i part (map statement_of h.more) a.0 lt e h.are a.1);
}

pub fails_at : (spelling : Spelling) (n : ℕ) (parts : List (Bor (List Token))) (i : ℕ) (part : Bor (List Token)) (f : ParseFault) (old now then new : List Stmt80) (before : ℕ) → i < length parts → part ≡ get_or parts i part → HaveAdded spelling n (targets (take i parts)) old now → AddsStatement spelling n part.now now then (Err f) → before ≡ length old → new ≡ take before then → GivesStatements spelling n (targets parts) old new (Err f)
fails_at spelling n parts i part faults.Memory old now then new before lt e h g len is = tt
fails_at spelling n parts i part faults.Malformed old now then new before lt e h g len is = (
  is ∙ ap (take before) (g.0 ∙ h.added) ∙ ap (λ k. take k (old ++ h.more)) len ∙ take-append_seam old h.more,
  λ ss x.
      let found : get_or (targets parts) i part.now ≡ part.now = get_or-map (λ (x : Bor (List Token)). x.now) parts i part part.now lt ∙ ap (λ (x : Bor (List Token)). x.now) (sym e) in
      none_from x i part.now (omega (arith, length-map parts (λ (x : Bor (List Token)). x.now))) (λ s y. g.1 s (rw found at y)),
)

pub any_target : (f : List Token → Bool) (parts : List (Bor (List Token))) → list_any (λ x. f x.now) parts ≡ list_any f (targets parts)
any_target f [] = refl
any_target f (x ∷ parts) = ap (λ (b : Bool). f x.now || b) (any_target f parts)

-- ---- lawful tokens in parts

onto_lawful : (s : Spelling) (t : Token) (parts : List (List Token)) → IsLawful s t → AllByRecursion (AllByRecursion (IsLawful s)) parts → AllByRecursion (AllByRecursion (IsLawful s)) (onto_first t parts)
onto_lawful s t [] h a = ((h, tt), tt)
onto_lawful s t (part ∷ parts) h a = ((h, a.0), a.1)

split_lawful : (s : Spelling) (ts : List Token) → AllByRecursion (IsLawful s) ts → AllByRecursion (AllByRecursion (IsLawful s)) (parts_of ts)
split_lawful s [] h = (tt, tt)
split_lawful s (t ∷ ts) h = elim (cases_Bool (is_bang t)) [
  | inl e ↦ rw e (tt, split_lawful s ts h.1)
  | inr e ↦ rw e (onto_lawful s t (parts_of ts) h.0 (split_lawful s ts h.1))
]

each_target : (s : Spelling) (parts : List (Bor (List Token))) → AllByRecursion (AllByRecursion (IsLawful s)) (targets parts) → AllByRecursion (λ (x : Bor (List Token)). All (IsLawful s) x.now) parts
each_target s [] h = tt
each_target s (x ∷ parts) h = (All-from_recursion _ _ h.0, each_target s parts h.1)

pub parts_lawful : (s : Spelling) (ts : List Token) (parts : List (Bor (List Token))) → All (IsLawful s) ts → targets parts ≡ parts_of ts → All (λ (x : Bor (List Token)). All (IsLawful s) x.now) parts
parts_lawful s ts parts h e = All-from_recursion _ _ (each_target s parts (rw e (split_lawful s ts (recursion_from_All _ _ h))))

pub collected_lawful : (s : Spelling) {E : Type 0} (ts : List Token) (r : Result (Vec (Bor (List Token))) E) → All (IsLawful s) ts → IfOk r (λ v. targets v.items ≡ parts_of ts) → IfOk r (λ v. All (λ (x : Bor (List Token)). All (IsLawful s) x.now) v.items)
collected_lawful s ts (Ok v) h e = parts_lawful s ts v.items h e
collected_lawful s ts (Err e) h k = tt

no_bang : (b : Bool) → (true || b) ≡ false → ⊥
no_bang b e = cc

-- tokens that no ! parts are one part
pub one_part : (ts : List Token) → list_any is_bang ts ≡ false → ts ∷ [] ≡ parts_of ts
one_part [] e = refl
one_part (t ∷ ts) e = elim (cases_Bool (is_bang t)) [
  | inl b ↦ absurd (no_bang (list_any is_bang ts) (rw b at e))
  | inr b ↦ rw b (ap (onto_first t) (one_part ts (rw b at e)))
]
