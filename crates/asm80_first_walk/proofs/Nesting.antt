-- IFs that are opened and closed.
use Rattle.std.proofs.Common.{◌≡◌, ℕ, List, [], ◌∷◌, ◌++◌, map, Bool, true, false, Option, Some, None, refl, sym, ap, ◌∙◌, drop, take, ◌-◌}
use Rattle.std.specs.Prelude.{cond, not, reverse, option_to_list, ◌||◌, ◌&&◌, MatchOption}
use Rattle.std.specs.List.{list_any}
use Rattle.std.proofs.lemmas.List.{map-append, reverse-append, append-nil}
use Rattle.std.proofs.lemmas.List.Sorted.{list_any-IsPermutation, IsPermutation-reverse}
use Rattle.asm80_types.specs.Tree.{Statement}
use Rattle.asm80_source_def.specs.declared.operation.Operation.{Operation}
use Rattle.asm80_source_def.specs.declared.operation.Operation.TheVariants.{If, EndIf}
use Rattle.asm80_source_def.specs.Walk.{Walk, operation_in, is_endif, is_taken, directive_meaning, is_true, ifs_by, skipped_ifs}
use Rattle.asm80_source_def.specs.FirstFaults.{Refusal}
use Rattle.asm80_first_walk.specs.declared.ifs.OpenIf.{OpenIf}
use Rattle.asm80_first_walk.specs.State.{State, taken_flags, refusals, all_but_last, refusals_by, nested_ifs, walk_of}

-- ---- all but the last

pub without_last : {X : Type 0} (xs : List X) (x : X) → all_but_last (xs ++ x ∷ []) ≡ xs
without_last [] x = refl
without_last (y ∷ []) x = refl
without_last (y ∷ z ∷ xs) x = ap (λ (t : List _). y ∷ t) (without_last (z ∷ xs) x)

-- what a pop leaves
pub popped : {X : Type 0} (B : X → Type 0) (old new : List X) (found : Option X) (n m : ℕ) → old ≡ new ++ option_to_list found → MatchOption found ((n ≡ 0) × (m ≡ 0)) B → new ≡ take (n - 1) old → new ≡ all_but_last old
popped B old new None n m e h t =
    let none : new ≡ [] = rw h.0 at t in
    let nothing : old ≡ [] = rw (none, append-nil) at e in
    rw (none, nothing) refl
popped B old new (Some x) n m e h t = sym (without_last new x) ∙ ap all_but_last (sym e)

data Ending {X : Type 0} : List X → Type 0 where
  nothing : Ending []
  some : (front : List X) (x : X) → Ending (front ++ x ∷ [])

ending : {X : Type 0} (xs : List X) → Ending xs
ending [] = nothing
ending (x ∷ xs) = longer x (ending xs)
  where
    longer : {X : Type 0} (x : X) {xs : List X} → Ending xs → Ending (x ∷ xs)
    longer x nothing = some [] x
    longer x (some front y) = some (x ∷ front) y

map_without_last : {X Y : Type 0} (f : X → Y) (xs : List X) → map f (all_but_last xs) ≡ all_but_last (map f xs)
map_without_last f [] = refl
map_without_last f (x ∷ []) = refl
map_without_last f (x ∷ y ∷ xs) = ap (λ (t : List _). f x ∷ t) (map_without_last f (y ∷ xs))

-- ---- the flags, the innermost first

pub flags_more : (ifs : List OpenIf) (i : OpenIf) → reverse (taken_flags (ifs ++ i ∷ [])) ≡ i.is_taken ∷ reverse (taken_flags ifs)
flags_more ifs i = rw (map-append (λ (k : OpenIf). k.is_taken) ifs (i ∷ []), reverse-append (taken_flags ifs) (i.is_taken ∷ [])) refl

flags_less : (ifs : List OpenIf) → reverse (taken_flags (all_but_last ifs)) ≡ drop 1 (reverse (taken_flags ifs))
flags_less ifs = by_ending (ending ifs)
  where
    by_ending : {ifs : List OpenIf} → Ending ifs → reverse (taken_flags (all_but_last ifs)) ≡ drop 1 (reverse (taken_flags ifs))
    by_ending nothing = refl
    by_ending (some front i) = rw (without_last front i, flags_more front i) refl

pub flags_skipped : (ifs : List OpenIf) (fault : Option Refusal) (line : ℕ) (o : Option Operation) → reverse (taken_flags (nested_ifs ifs fault line false o)) ≡ skipped_ifs (reverse (taken_flags ifs)) o
flags_skipped ifs fault line (Some If) = flags_more ifs _
flags_skipped ifs fault line (Some EndIf) = flags_less ifs
flags_skipped ifs fault line o = refl

pub flags_taken : (old : State) (fault : Option Refusal) (s : Statement) (o : Option Operation) → reverse (taken_flags (nested_ifs old.ifs fault s.line (is_true (directive_meaning (walk_of old) s).value) o)) ≡ ifs_by (walk_of old) s o
flags_taken old fault s (Some If) = flags_more old.ifs _
flags_taken old fault s (Some EndIf) = flags_less old.ifs
flags_taken old fault s o = refl

pub refusals_nested : (old : State) (s : Statement) (flag : Bool) (o : Option Operation) → refusals (nested_ifs old.ifs old.fault s.line flag o) ≡ refusals_by old s o
refusals_nested old s flag (Some If) = map-append (λ (k : OpenIf). k.refusal) old.ifs _
refusals_nested old s flag (Some EndIf) = map_without_last (λ (k : OpenIf). k.refusal) old.ifs
refusals_nested old s flag o = refl

-- ---- some IF skips

pub any_mapped : {X Y : Type 0} (test : Y → Bool) (f : X → Y) (xs : List X) → list_any test (map f xs) ≡ list_any (λ (x : X). test (f x)) xs
any_mapped test f [] = refl
any_mapped test f (x ∷ xs) = ap (λ (b : Bool). test (f x) || b) (any_mapped test f xs)

pub skips_reversed : (ifs : List OpenIf) → list_any not (reverse (taken_flags ifs)) ≡ list_any (λ (i : OpenIf). not i.is_taken) ifs
skips_reversed ifs =
    sym (list_any-IsPermutation not (taken_flags ifs) (reverse (taken_flags ifs)) (IsPermutation-reverse (taken_flags ifs)))
    ∙ any_mapped not (λ (i : OpenIf). i.is_taken) ifs

combined : (flag skips closes : Bool) → cond skips false (cond flag true closes) ≡ (not (not flag || skips) || (closes && not skips))
combined true true true = refl
combined true true false = refl
combined true false true = refl
combined true false false = refl
combined false true true = refl
combined false true false = refl
combined false false true = refl
combined false false false = refl

flags_with : (ifs outer : List OpenIf) (i : OpenIf) → ifs ≡ outer ++ i ∷ [] → reverse (taken_flags ifs) ≡ i.is_taken ∷ reverse (taken_flags outer)
flags_with ifs outer i e = ap (λ (k : List OpenIf). reverse (taken_flags k)) e ∙ flags_more outer i

-- whether a statement is taken where an IF is open
pub taken_with : (w : Walk) (ifs outer : List OpenIf) (i : OpenIf) (skips : Bool) (s : Statement) (o : Option Operation) → w.ifs ≡ reverse (taken_flags ifs) → ifs ≡ outer ++ i ∷ [] → skips ≡ list_any (λ (k : OpenIf). not k.is_taken) outer → operation_in s ≡ o → cond skips false (cond i.is_taken true (is_endif o)) ≡ is_taken w s
taken_with w ifs outer i skips s o flags e k q =
    let here = flags ∙ flags_with ifs outer i e in
    let outside = k ∙ sym (skips_reversed outer) in
    combined i.is_taken skips (is_endif o)
    ∙ ap (λ (b : Bool). not (not i.is_taken || b) || (is_endif o && not b)) outside
    ∙ ap (λ (b : Bool). not (not i.is_taken || list_any not (reverse (taken_flags outer))) || (b && not (list_any not (reverse (taken_flags outer))))) (ap is_endif (sym q))
    ∙ ap (λ (fs : List Bool). not (list_any not fs) || (is_endif (operation_in s) && not (list_any not (drop 1 fs)))) (sym here)
