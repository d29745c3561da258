-- The first fault, by what the state holds of the statements so far.
use Rattle.std.proofs.Common.{◌≡◌, ℕ, suc, ◌+◌, ◌<◌, ◌≤◌, List, [], ◌∷◌, ◌++◌, length, Bool, true, false, Option, Some, None, refl, sym, ap, subst, ◌∙◌, add-zero, arith}
use Rattle.std.specs.Prelude.{cond, not, ◌&&◌, ◌||◌, nat_le, unwrap_or}
use Rattle.std.specs.Option.{option_or}
use Rattle.std.proofs.lemmas.Bool.{le-leb, lt-leb}
use Rattle.std.proofs.lemmas.List.{length-map, length-reverse}
use Rattle.asm80_types.specs.Tree.{Statement}
use Rattle.asm80_source_def.specs.declared.operation.Operation.{Operation}
use Rattle.asm80_source_def.specs.declared.operation.Operation.TheVariants.{If, EndIf}
use Rattle.asm80_source_def.specs.declared.rule.AsmRule.{AsmRule}
use Rattle.asm80_source_def.specs.declared.rule.AsmRule.TheVariants.{V6}
use Rattle.asm80_source_def.specs.Walk.{Walk, WalkRow, operation_in, is_if, is_endif, is_taken, rows_from, walk_after_all}
use Rattle.asm80_source_def.specs.FirstFaults.{Refusal, rule_if, most_ifs, is_closed_at_end, rule_of_taken, with_line, first_fault}
use Rattle.asm80_first_walk.specs.declared.ifs.OpenIf.{OpenIf}
use Rattle.asm80_first_walk.specs.State.{State, taken_flags, refusals, walk_of, sure_rule, if_unclosed, all_but_last, refusals_by, Steps, final}

-- The first of the IFs, of these depths, that stays open decides, and else the other fault.
abbrev pub under : ℕ → List Refusal → Option Refusal → List WalkRow → Walk → Option Refusal
under depth [] other later end = other
under depth (r ∷ rs) other later end =
    cond (is_closed_at_end depth later end) (under (suc depth) rs other later end) (Some r)

-- the first fault of all rows, by what the state holds of the earlier ones
abbrev pub verdict : State → List WalkRow → Walk → Option Refusal
verdict s later end = under 0 (refusals s.ifs) (option_or s.fault (first_fault later end)) later end

-- ---- the IFs that are open

closed_pass : (d : ℕ) (r : WalkRow) (later : List WalkRow) (end : Walk) → d < length r.before.ifs → is_closed_at_end d (r ∷ later) end ≡ is_closed_at_end d later end
closed_pass d r later end lt = rw (lt-leb (length r.before.ifs) d lt) refl

-- a row that has them all open closes none
under_pass : (d : ℕ) (rs : List Refusal) (other : Option Refusal) (r : WalkRow) (later : List WalkRow) (end : Walk) → d + length rs ≤ length r.before.ifs → under d rs other (r ∷ later) end ≡ under d rs other later end
under_pass d [] other r later end h = refl
under_pass d (x ∷ rs) other r later end h =
    let one = closed_pass d r later end (omega arith) in
    let more = under_pass (suc d) rs other r later end (omega arith) in
    rw (one, more) refl

-- one IF more, inside the others
under_more : (d : ℕ) (rs : List Refusal) (x : Refusal) (other : Option Refusal) (later : List WalkRow) (end : Walk) → under d (rs ++ x ∷ []) other later end ≡ under d rs (cond (is_closed_at_end (d + length rs) later end) other (Some x)) later end
under_more d [] x other later end = rw add-zero refl
under_more d (y ∷ rs) x other later end =
    let e : d + length (y ∷ rs) ≡ suc d + length rs = omega arith in
    let more = under_more (suc d) rs x other later end in
    rw (e, more) refl

-- the innermost IF is closed
under_less : (d : ℕ) (rs : List Refusal) (other : Option Refusal) (later : List WalkRow) (end : Walk) → is_closed_at_end (d + length (all_but_last rs)) later end ≡ true → under d rs other later end ≡ under d (all_but_last rs) other later end
under_less d [] other later end h = refl
under_less d (x ∷ []) other later end h = let k : is_closed_at_end d later end ≡ true = rw add-zero at h in rw k refl
under_less d (x ∷ y ∷ rs) other later end h =
    let e : d + length (all_but_last (x ∷ y ∷ rs)) ≡ suc d + length (all_but_last (y ∷ rs)) = omega arith in
    let k = subst (λ (n : ℕ). is_closed_at_end n later end ≡ true) e h in
    let more = under_less (suc d) (y ∷ rs) other later end k in
    rw more refl

-- where the walk is, no more IFs are open
pub closed_here : (d : ℕ) (w : Walk) (left : List Statement) → length w.ifs ≤ d → is_closed_at_end d (rows_from w left) (walk_after_all w left) ≡ true
closed_here d w [] h = le-leb (length w.ifs) d h
closed_here d w (s ∷ left) h = rw (le-leb (length w.ifs) d h) refl

-- ---- the rule of one row

joined : (f : Option Refusal) (line : ℕ) (rule : Option AsmRule) (rest : Option Refusal) → option_or f (option_or (with_line line rule) rest) ≡ option_or (option_or f (with_line line rule)) rest
joined None line rule rest = refl
joined (Some x) line rule rest = refl

-- an IF, too deep or not, closed later or not
of_if : (f : Option Refusal) (line : ℕ) (deep closed : Bool) (rule : Option AsmRule) (rest : Option Refusal) → option_or f (option_or (with_line line (rule_if ((deep || not closed) || false) V6 rule)) rest) ≡ cond closed (option_or (option_or f (with_line line (rule_if (deep || false) V6 rule))) rest) (Some (unwrap_or f (line, V6)))
of_if (Some x) line deep true rule rest = refl
of_if (Some x) line deep false rule rest = refl
of_if None line true true rule rest = refl
of_if None line true false rule rest = refl
of_if None line false true rule rest = refl
of_if None line false false rule rest = refl

-- ---- an IF, an ENDIF, or neither

data Nests : Option Operation → Type 0 where
  opens : Nests (Some If)
  closes : Nests (Some EndIf)
  plain : {o : Option Operation} → is_if o ≡ false → is_endif o ≡ false → ((old : State) (s : Statement) → refusals_by old s o ≡ refusals old.ifs) → Nests o

nests : (o : Option Operation) → Nests o
nests (Some If) = opens
nests (Some EndIf) = closes
nests o = plain refl refl (λ old s. refl)

-- One row more leaves the verdict as it is.
module _ (old : State) (s : Statement) (deep alone : Bool) (rule : Option AsmRule) (rest : Option Refusal) (n : ℕ) (same : n ≡ 0 + length (refusals old.ifs)) (later : List WalkRow) (end : Walk) where
  abbrev of_row : Option Operation → Option AsmRule
  of_row o = rule_if ((is_if o && (deep || not (is_closed_at_end n later end))) || (is_endif o && alone)) V6 rule

  abbrev of_state : Option Operation → Option AsmRule
  of_state o = rule_if ((is_if o && deep) || (is_endif o && alone)) V6 rule

  abbrev stands : Option Refusal → List Refusal → Option Refusal
  stands other rs = under 0 rs other later end

  row_step : {o : Option Operation} → Nests o → (is_endif o ≡ true → is_closed_at_end (0 + length (all_but_last (refusals old.ifs))) later end ≡ true) → stands (option_or old.fault (option_or (with_line s.line (of_row o)) rest)) (refusals old.ifs) ≡ stands (option_or (option_or old.fault (with_line s.line (of_state o))) rest) (refusals_by old s o)
  row_step opens h =
      rw same (ap (λ (x : Option Refusal). stands x (refusals old.ifs)) (of_if old.fault s.line deep (is_closed_at_end (0 + length (refusals old.ifs)) later end) rule rest)
      ∙ sym (under_more 0 (refusals old.ifs) (if_unclosed old.fault s.line) (option_or (option_or old.fault (with_line s.line (of_state (Some If)))) rest) later end))
  row_step closes h =
      ap (λ (x : Option Refusal). stands x (refusals old.ifs)) (joined old.fault s.line (of_state (Some EndIf)) rest)
      ∙ under_less 0 (refusals old.ifs) (option_or (option_or old.fault (with_line s.line (of_state (Some EndIf)))) rest) later end (h refl)
  row_step {o} (plain p q r) h =
      rw (p, q, r old s) (ap (λ (x : Option Refusal). stands x (refusals old.ifs)) (joined old.fault s.line rule rest))

open_count : (s : State) → length (walk_of s).ifs ≡ length (refusals s.ifs)
open_count s = length-reverse (taken_flags s.ifs) ∙ length-map s.ifs (λ (i : OpenIf). i.is_taken) ∙ sym (length-map s.ifs (λ (i : OpenIf). i.refusal))

closes_one : {o : Option Operation} → Nests o → is_endif o ≡ true → (old : State) (s : Statement) → refusals_by old s o ≡ all_but_last (refusals old.ifs)
closes_one opens e old s = absurd cc
closes_one closes e old s = refl
closes_one (plain p q r) e old s = absurd cc

pub verdict_stays : (index : ℕ) (s : Statement) (old new : State) → Steps index s old new → (left : List Statement) → verdict old (record { statement = s; before = walk_of old } ∷ rows_from (walk_of new) left) (walk_after_all (walk_of new) left) ≡ verdict new (rows_from (walk_of new) left) (walk_after_all (walk_of new) left)
verdict_stays index s old new h left =
    let w = walk_of old in
    let row : WalkRow = record { statement = s; before = w } in
    let later = rows_from (walk_of new) left in
    let end = walk_after_all (walk_of new) left in
    let rest = first_fault later end in
    let alone = is_taken w s && nat_le (length w.ifs) 0 in
    let rule = cond (is_taken w s) (rule_of_taken w s) None in
    let closing = λ (e : is_endif (operation_in s) ≡ true). closed_here (0 + length (all_but_last (refusals old.ifs))) (walk_of new) left (omega (arith, open_count new, ap length (h.refusals ∙ closes_one (nests (operation_in s)) e old s))) in
    under_pass 0 (refusals old.ifs) (option_or old.fault (first_fault (row ∷ later) end)) row later end (omega (arith, open_count old))
    ∙ row_step old s (nat_le most_ifs (length w.ifs)) alone rule rest (length w.ifs) (omega (arith, open_count old)) later end (nests (operation_in s)) closing
    ∙ sym (ap (λ (f : Option Refusal). under 0 (refusals new.ifs) (option_or f rest) later end) h.fault
    ∙ ap (λ (rs : List Refusal). under 0 rs (option_or (option_or old.fault (with_line s.line (sure_rule w s))) rest) later end) h.refusals)

-- ---- at the end

or_none : (f : Option Refusal) → option_or f None ≡ f
or_none None = refl
or_none (Some x) = refl

-- the outermost IF that is open decides, and else the other fault
final_by : (s : State) (rs : List Refusal) → length (walk_of s).ifs ≡ length rs → under 0 rs (option_or s.fault None) [] (walk_of s) ≡ final rs s.fault
final_by s [] e = or_none s.fault
final_by s (r ∷ rs) e = rw (lt-leb (length (walk_of s).ifs) 0 (omega arith)) refl

pub verdict_at_end : (s : State) → verdict s [] (walk_of s) ≡ final (refusals s.ifs) s.fault
verdict_at_end s = final_by s (refusals s.ifs) (open_count s)
