-- From block to block.
use Rattle.std.proofs.Common.{◌≡◌, ◌∙◌, ℕ, ◌+◌, ◌≤◌, List, [], ◌∷◌, length, Some, sym, ap, subst}
use Rattle.std.specs.Prelude.{drop}
use Rattle.std.proofs.lemmas.List.{drop_all}
use Rattle.std.proofs.lemmas.Option.{same_Some}
use Rattle.asm86_line_types.specs.declared.line.Stmt86.{Stmt86}
use Rattle.asm80_types.specs.Program.{Program}
use Rattle.flow.specs.Blocks.{blocks}
use Rattle.flow.proofs.Indexed.{IsBlockAt}
use Rattle.sym_block_def.specs.declared.reason.Reason.{Reason}
use Rattle.sym_block_def.specs.BlockMatch.{Keeps, block_reason}
use Rattle.simulation_def.specs.Matches.{or_next, blocks_reason}
use Rattle.block_check.specs.declared.block.Verdict.{Verdict}
use Rattle.block_check.specs.declared.block.Verdict.TheVariants.{Shown, NotShown}
use Rattle.block_check.specs.Comparing.{verdict_of, AfterShown}
use Rattle.block_check.proofs.Verdicts.{none_found, some_found}
use Rattle.text_check.specs.Findings.{last_of}

-- ---- reasons

module _ (p : Program) (text : List Stmt86) (k : Keeps) (i leader count : ℕ) (at : IsBlockAt p i leader count) where
  pub shown_on : Shown ≡ verdict_of (block_reason p text k leader count) → blocks_reason p text k (drop i (blocks p)) ≡ blocks_reason p text k (blocks p) → blocks_reason p text k (drop (i + 1) (blocks p)) ≡ blocks_reason p text k (blocks p)
  shown_on e inv =
      sym (ap (blocks_reason p text k) at.rest ∙ ap (λ r. or_next leader r (blocks_reason p text k (drop (i + 1) (blocks p)))) (none_found (block_reason p text k leader count) e)) ∙ inv

  pub not_shown : (reason : Reason) → NotShown reason ≡ verdict_of (block_reason p text k leader count) → blocks_reason p text k (drop i (blocks p)) ≡ blocks_reason p text k (blocks p) → Some (leader, reason) ≡ blocks_reason p text k (blocks p)
  not_shown reason e inv =
      sym (ap (blocks_reason p text k) at.rest ∙ ap (λ r. or_next leader r (blocks_reason p text k (drop (i + 1) (blocks p)))) (some_found (block_reason p text k leader count) reason e)) ∙ inv

-- ---- the work that is left

-- the last block is among those that are left; where none is left, the claim holds
abbrev pub LastIs : List (ℕ × ℕ) → ℕ × ℕ → Type 0 → Type 0
LastIs [] b claim = claim
LastIs (c ∷ cs) b claim = last_of (c ∷ cs) ≡ Some b

pub all_left : (bs : List (ℕ × ℕ)) (b : ℕ × ℕ) (claim : Type 0) → last_of bs ≡ Some b → LastIs bs b claim
all_left [] b claim e = absurd (cc)
all_left (c ∷ cs) b claim e = e

last_step : (c : ℕ × ℕ) (rest : List (ℕ × ℕ)) (b : ℕ × ℕ) (claim : ℕ × ℕ → Type 0) → last_of (c ∷ rest) ≡ Some b → claim c → LastIs rest b (claim b)
last_step c [] b claim e h = subst claim (same_Some c b e) h
last_step c (d ∷ ds) b claim e h = e

pub last_on : (p : Program) (i leader count : ℕ) (b : ℕ × ℕ) (before : Type 0) (claim : ℕ × ℕ → Type 0) → IsBlockAt p i leader count → LastIs (drop i (blocks p)) b before → claim (leader, count) → LastIs (drop (i + 1) (blocks p)) b (claim b)
last_on p i leader count b before claim at inv h =
    last_step (leader, count) (drop (i + 1) (blocks p)) b claim (subst (λ bs. LastIs bs b before) at.rest inv) h

pub last_left : (p : Program) (i : ℕ) (b : ℕ × ℕ) (claim : Type 0) → length (blocks p) ≤ i → LastIs (drop i (blocks p)) b claim → claim
last_left p i b claim le inv = subst (λ bs. LastIs bs b claim) (drop_all i (blocks p) le) inv

pub held : (v : Verdict) (claim : Type 0) → Shown ≡ v → AfterShown v claim → claim
held Shown claim e h = h
held (NotShown r) claim e h = absurd (cc)
