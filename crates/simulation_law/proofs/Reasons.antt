-- What a block without a reason against it is.
use Rattle.std.proofs.Common.{◌≡◌, Bool, true, false, cond, not, ◌&&◌, ◌||◌, Option, Some, None, refl, ap, ◌∙◌}
use Rattle.std.specs.Prelude.{Result, Ok, Err}
use Rattle.std.specs.List.{find}
use Rattle.std.proofs.lemmas.Bool.{or_parts, or_right}
use Rattle.cells.specs.declared.Part.{Part}
use Rattle.cells.specs.declared.Part.TheVariants.{A, B, C, D, E, H, L, S, Z, Ac, P, Cy}
use Rattle.cells.specs.Parts.{Parts, has, union, all_parts}
use Rattle.cells.proofs.Options.{if_none}
use Rattle.cells.proofs.Unions.{has_union}
use Rattle.sym_block_def.specs.declared.reason.Reason.{Reason}
use Rattle.sym_block_def.specs.declared.reason.Reason.TheVariants.{Actions, Exits, KeptSp}
use Rattle.sym_block_def.specs.Outcome.{Outcome, term_in}
use Rattle.sym_block_def.specs.Agree.{agrees, actions_agree, exit_agrees}
use Rattle.sym_block_def.specs.BlockMatch.{Keeps, kept_by_exit, lost_by, is_bad, first_bad, sp_agrees, kept_reason, outcome_reason, walked_reason}

-- a test that has no reason against it passes
passes : {X : Type 0} (b : Bool) (o : Option X) (r : X) → cond b o (Some r) ≡ None → (b ≡ true) × (o ≡ None)
passes true o r e = (refl, e)
passes false o r e = absurd (cc)

-- no part is bad where none is found
pub none_found : (f : Part → Bool) → find f all_parts ≡ None → (q : Part) → f q ≡ false
none_found f e q =
    let a = if_none (f A) A _ e in
    let b = if_none (f B) B _ a.1 in
    let c = if_none (f C) C _ b.1 in
    let d = if_none (f D) D _ c.1 in
    let i = if_none (f E) E _ d.1 in
    let h = if_none (f H) H _ i.1 in
    let l = if_none (f L) L _ h.1 in
    let s = if_none (f S) S _ l.1 in
    let z = if_none (f Z) Z _ s.1 in
    let ac = if_none (f Ac) Ac _ z.1 in
    let p = if_none (f P) P _ ac.1 in
    let cy = if_none (f Cy) Cy _ p.1 in
    of_part a.0 b.0 c.0 d.0 i.0 h.0 l.0 s.0 z.0 ac.0 p.0 cy.0 q
  where
    of_part : f A ≡ false → f B ≡ false → f C ≡ false → f D ≡ false → f E ≡ false → f H ≡ false → f L ≡ false → f S ≡ false → f Z ≡ false → f Ac ≡ false → f P ≡ false → f Cy ≡ false → (q : Part) → f q ≡ false
    of_part a b c d i h l s z ac p cy A = a
    of_part a b c d i h l s z ac p cy B = b
    of_part a b c d i h l s z ac p cy C = c
    of_part a b c d i h l s z ac p cy D = d
    of_part a b c d i h l s z ac p cy E = i
    of_part a b c d i h l s z ac p cy H = h
    of_part a b c d i h l s z ac p cy L = l
    of_part a b c d i h l s z ac p cy S = s
    of_part a b c d i h l s z ac p cy Z = z
    of_part a b c d i h l s z ac p cy Ac = ac
    of_part a b c d i h l s z ac p cy P = p
    of_part a b c d i h l s z ac p cy Cy = cy

-- outcomes that match
pub record Matches (k : Keeps) (x y : Outcome) : Type 0 where
  pub actions : actions_agree x.actions y.actions ≡ true
  pub exit : exit_agrees x.exit y.exit ≡ true
  pub none_bad : (q : Part) → is_bad k x y q ≡ false
  pub sp : sp_agrees x y ≡ true

pub outcomes_match : (k : Keeps) (x y : Outcome) → outcome_reason k x y ≡ None → Matches k x y
outcomes_match k x y e = by_bad (first_bad k x y) refl b.1
  where
    a : (actions_agree x.actions y.actions ≡ true) × (cond (exit_agrees x.exit y.exit) (kept_reason x y (first_bad k x y)) (Some Exits) ≡ None)
    a = passes (actions_agree x.actions y.actions) _ Actions e

    b : (exit_agrees x.exit y.exit ≡ true) × (kept_reason x y (first_bad k x y) ≡ None)
    b = passes (exit_agrees x.exit y.exit) _ Exits a.1

    by_bad : (o : Option Part) → first_bad k x y ≡ o → kept_reason x y o ≡ None → Matches k x y
    by_bad (Some q) found e = absurd (cc)
    by_bad None found e = record { actions = a.0; exit = b.0; none_bad = none_found (is_bad k x y) found; sp = sp_passes (sp_agrees x y) e }
      where
        sp_passes : (b : Bool) → cond b None (Some KeptSp) ≡ None → b ≡ true
        sp_passes true e = refl
        sp_passes false e = absurd (cc)

-- a walk that is not refused
pub walk_matches : (k : Keeps) (x : Outcome) (r : Result Outcome Reason) → walked_reason k x r ≡ None → (y : Outcome) × (r ≡ Ok y) × Matches k x y
walk_matches k x (Err r) e = absurd (cc)
walk_matches k x (Ok y) e = (y, refl, outcomes_match k x y e)

-- what is not bad: it is not lost, and agrees where it is kept

agrees_if : (a b : Bool) → (a && not b) ≡ false → a ≡ true → b ≡ true
agrees_if true true e h = refl
agrees_if true false e h = absurd (cc)
agrees_if false b e h = absurd (cc)

lost_if : (a b : Bool) → (a && b) ≡ false → a ≡ true → b ≡ false
lost_if true b e h = e
lost_if false b e h = absurd (cc)

pub kept_agrees : (k : Keeps) (x y : Outcome) (q : Part) → is_bad k x y q ≡ false → has (kept_by_exit k x.exit) q ≡ true → agrees (term_in x.held q) (term_in y.held q) ≡ true
kept_agrees k x y q e h = agrees_if (has (kept_by_exit k x.exit) q) (agrees (term_in x.held q) (term_in y.held q)) (or_parts (y.direct && has (lost_by k x.exit) q) _ e).1 h

pub none_lost : (k : Keeps) (x y : Outcome) (q : Part) → is_bad k x y q ≡ false → y.direct ≡ true → has (lost_by k x.exit) q ≡ false
none_lost k x y q e h = lost_if y.direct (has (lost_by k x.exit) q) (or_parts (y.direct && has (lost_by k x.exit) q) _ e).0 h

-- the parts of two sets

pub in_first : (a b : Parts) (q : Part) → has a q ≡ true → has (union a b) q ≡ true
in_first a b q h = has_union a b q ∙ ap (λ z. z || has b q) h

pub in_second : (a b : Parts) (q : Part) → has b q ≡ true → has (union a b) q ≡ true
in_second a b q h = has_union a b q ∙ or_right (has a q) (has b q) h
