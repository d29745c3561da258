-- States that agree on what is kept, and exits that agree, leave no reason.
use Rattle.std.proofs.Common.{◌≡◌, Bool, true, false, cond, not, ◌&&◌, ◌||◌, List, [], ◌∷◌, Some, None, refl, ap, ap₂, ◌∙◌}
use Rattle.std.specs.List.{find}
use Rattle.std.proofs.lemmas.Bool.{or_right}
use Rattle.cells.specs.declared.Part.{Part}
use Rattle.cells.specs.declared.Part.TheVariants.{A, B, C, D, E, H, L, S, Z, Ac, P, Cy}
use Rattle.cells.specs.Parts.{Parts, has, everything, all_parts}
use Rattle.sym_terms.specs.Term.{Start, Unknown}
use Rattle.sym_block_def.specs.declared.reason.Reason.TheVariants.{Actions, Exits, KeptSp}
use Rattle.sym_block_def.specs.Outcome.{Exit, Outcome, term_in}
use Rattle.sym_block_def.specs.Block80.{Symbolic80, start80, outcome80}
use Rattle.sym_block_def.specs.Symbolic86.{Symbolic86, start86}
use Rattle.sym_block_def.specs.Walk86.{outcome86}
use Rattle.sym_block_def.specs.Agree.{agrees, exit_agrees}
use Rattle.sym_block_def.specs.BlockMatch.{Keeps, kept_by_exit, lost_by, is_bad, is_boot_alone, kept_reason, outcome_reason}
use Rattle.templates_law.specs.Match.Meeting.{Meets, same, one_word, Among, Agree}
use Rattle.templates_law.proofs.Match.Terms.{meets_agree}
use Rattle.templates_law.proofs.Match.Words.{words_agree}

pub in_everything : (q : Part) → Among everything q
in_everything A = refl
in_everything q = refl

-- nothing is found where nothing is so
none_found : (f : Part → Bool) (xs : List Part) → ((q : Part) → f q ≡ false) → find f xs ≡ None
none_found f [] h = refl
none_found f (x ∷ xs) h = ap (λ b. cond b (Some x) (find f xs)) (h x) ∙ none_found f xs h

neither_bad : (lost kept agreed : Bool) → lost ≡ false → (kept ≡ true → agreed ≡ true) → (lost || (kept && not agreed)) ≡ false
neither_bad lost true agreed e f = ap₂ (λ l b. l || not b) e (f refl)
neither_bad lost false agreed e f = ap (λ l. l || false) e

-- where the parts that a way of the exit keeps are agreed on, and none is lost
pub no_reason : (kept : Parts) (k : Keeps) (s : Symbolic80) (t : Symbolic86) (direct : Bool) (exit exit' : Exit) → Agree (Among kept) s t → exit_agrees exit exit' ≡ true → ((q : Part) → Among (kept_by_exit k exit) q → Among kept q) → ((q : Part) → (direct && has (lost_by k exit) q) ≡ false) → outcome_reason k (outcome80 s exit) (outcome86 t direct exit') ≡ None
no_reason kept k s t direct exit exit' a e f lost =
    ap (λ b. cond b (cond (exit_agrees exit exit') (kept_reason x y (find (is_bad k x y) all_parts)) (Some Exits)) (Some Actions)) a.actions
    ∙ ap (λ b. cond b (kept_reason x y (find (is_bad k x y) all_parts)) (Some Exits)) e
    ∙ ap (kept_reason x y) (none_found (is_bad k x y) all_parts good)
    ∙ ap (λ b. cond b None (Some KeptSp)) (or_right (is_boot_alone exit) (agrees s.sp t.sp) (words_agree s.sp t.sp a.sp))
  where
    x : Outcome
    x = outcome80 s exit

    y : Outcome
    y = outcome86 t direct exit'

    good : (q : Part) → is_bad k x y q ≡ false
    good q =
        neither_bad (direct && has (lost_by k exit) q) (has (kept_by_exit k exit) q) (agrees (term_in s.held q) (term_in t.held q)) (lost q)
        (λ c. meets_agree _ _ (a.parts q (f q c)))

-- at the start all parts that are kept agree

start_meets : (b : Bool) (q : Part) → b ≡ true → Meets (Start q) (cond b (Start q) Unknown)
start_meets b q e = same (ap (λ x. cond x (Start q) Unknown) e) refl

pub starts_agree : (keep : Parts) → Agree (Among keep) start80 (start86 keep)
starts_agree keep = record { parts = parts; sp = one_word refl refl; actions = refl; loads = refl }
  where
    parts : (q : Part) → Among keep q → Meets (term_in (start80).held q) (term_in (start86 keep).held q)
    parts A c = start_meets (has keep A) A c
    parts B c = start_meets (has keep B) B c
    parts C c = start_meets (has keep C) C c
    parts D c = start_meets (has keep D) D c
    parts E c = start_meets (has keep E) E c
    parts H c = start_meets (has keep H) H c
    parts L c = start_meets (has keep L) L c
    parts S c = start_meets (has keep S) S c
    parts Z c = start_meets (has keep Z) Z c
    parts Ac c = start_meets (has keep Ac) Ac c
    parts P c = start_meets (has keep P) P c
    parts Cy c = start_meets (has keep Cy) Cy c
