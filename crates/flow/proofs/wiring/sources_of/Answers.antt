use Rattle.std.proofs.Common.{◌≡◌, ℕ, zero, suc, ◌+◌, List, [], length, get_or, replicate, refl, sym, ap, subst, ◌∙◌, arith}
use Rattle.std.specs.List.{Contains, sum_by}
use Rattle.std.proofs.lemmas.List.{length-replicate}
use Rattle.std.proofs.lemmas.List.Sums.{sum_by-cons}
use Rattle.std.proofs.lemmas.Result.{IfOk-from_err}
use Rattle.asm80_types.specs.Program.{Program}
use Rattle.flow.specs.Graph.{nodes}
use Rattle.flow.specs.Wiring.{IsWiredTo}
use Rattle.flow.proofs.Numbers.{length-nodes}
use Rattle.flow.proofs.wiring.sources_of.Goals as goal

abbrev none : ℕ → List (List ℕ)
none n = replicate n []

no_row : (n k : ℕ) → get_or (none n) k [] ≡ []
no_row zero k = refl
no_row (suc n) zero = refl
no_row (suc n) (suc k) = no_row n k

no_edges : (n : ℕ) → sum_by length (none n) ≡ 0
no_edges zero = refl
no_edges (suc n) = omega (arith, sum_by-cons length [] (none n), no_edges n)

-- no edge is kept yet
wired_none : (p : Program) (n : ℕ) → n ≡ length (nodes p) → IsWiredTo p (none n) 0 []
wired_none p n same = record {
  sized = length-replicate n [] ∙ same;
  into = λ i k among. absurd (let here = subst (λ xs. Contains xs i) (no_row n k) among in omega (arith, here.1));
  onward = λ i r below e. absurd (omega (arith, below));
  onward_here = λ r among. absurd (omega (arith, among.1));
  edges = no_edges n;
}

pub wire_all-requires-clause-wired : goal.wire_all-requires-clause-wired
wire_all-requires-clause-wired c =
    let p = c.args.program.now in
    subst (λ ss. IsWiredTo p ss 0 []) (sym c.in_ok-sources.ensures) (wired_none p _ (ap (λ xs. length xs + 1) c.starts.ensures ∙ sym (length-nodes p)))

pub returns-in_err-sources : goal.returns-in_err-sources
returns-in_err-sources c = IfOk-from_err c.from_residual.result _ c.from_residual.ensures.0

pub returns-in_err-wire_all : goal.returns-in_err-wire_all
returns-in_err-wire_all c = IfOk-from_err c.from_residual-in_err-wire_all.result _ c.from_residual-in_err-wire_all.ensures.0

pub returns : goal.returns
returns c = c.in_ok-wire_all.ensures
