-- What matches a program: its plain text, each instruction alone; and what matches it block by block means the same.
use Rattle.std.proofs.Common.{◌≡◌, ℕ, ◌==◌, Bool, true, false, cond, List, [], ◌∷◌, length, Some, None, refl, sym, ap, subst, ◌∙◌, inl, inr, arith}
use Rattle.std.specs.Prelude.{is_some, map}
use Rattle.std.specs.List.{Contains}
use Rattle.std.proofs.lemmas.Bool.{eqb-true, eq-eqb}
use Rattle.cells.specs.declared.Place.TheVariants.{At}
use Rattle.cells.specs.declared.Part.{Part}
use Rattle.cells.specs.declared.Part.TheVariants.{A, B, C, D, E, H, L, S, Z, Ac, P, Cy}
use Rattle.cells.specs.Parts.{has, nothing, everything}
use Rattle.asm86_line_types.specs.declared.line.Stmt86.{Stmt86}
use Rattle.asm86_line_types.specs.declared.line.Line86.{Line86}
use Rattle.asm86_line_types.specs.Image.{Assembles, image_of, statements}
use Rattle.asm80_types.specs.declared.program.Placed.{Placed}
use Rattle.asm80_types.specs.Program.{Program, IsProgram, placed_in, is_start}
use Rattle.asm80_types.specs.Taken.{taken_places}
use Rattle.flow.specs.Blocks.{blocks as flow_blocks}
use Rattle.flow.specs.Solving.{Needs, AreAllNeeds}
use Rattle.templates.specs.Plain.{plain, plain_statements}
use Rattle.sym_block_def.specs.Block80.{MayRun}
use Rattle.sym_block_def.specs.BlockMatch.{Keeps, block_reason}
use Rattle.sym_block_def.specs.Sorts.{StatementsAreCoded}
use Rattle.simulation_def.specs.Linked.{HasBlock, IsFirstOf}
use Rattle.simulation_def.specs.Cuts.{IsCut, ReturnsKeep}
use Rattle.simulation_def.specs.Matches.{or_next, blocks_reason, Matches, DataAreCoded}
use Rattle.simulation_def.specs.Needed.{needed_by}
use Rattle.simulation_def.specs.Same.{Same}
use Rattle.simulation_law.specs.Laws.{IsMatch, MatchesIsSame}
use Rattle.simulation_def.specs.BlockCuts.{BlocksAreCuts, NeedsReturn}
use Rattle.templates_law.specs.Match.Own.{OnesAreBlocks, PlainBlocksMatch}
use Rattle.templates.proofs.NumberedLines.{statements-numbered}
use Rattle.simulation_def.proofs.Names.{names_start}
use Rattle.simulation_def.proofs.Cutting.{taken_has}
use Rattle.templates_law.proofs.Styles.{TextStands}
use Rattle.simulation_def.specs.Ones.{ones, all_kept}

-- the blocks of one instruction are the instructions

abbrev ones_of : List Placed → List (ℕ × ℕ)
ones_of xs = map (λ (x : Placed). (x.at, 1)) xs

same_at : (a b : ℕ) → a ≡ b → (a == b) ≡ true
same_at a b e = eq-eqb a b e

first_in : (xs : List Placed) (a : ℕ) → is_some (placed_in xs a) ≡ true → HasBlock (ones_of xs) a 1
first_in [] a h = absurd (cc)
first_in (x ∷ xs) a h = by_here (x.at == a) refl h (first_in xs a)
  where
    by_here : (t : Bool) → (x.at == a) ≡ t → is_some (cond t (Some x) (placed_in xs a)) ≡ true → (is_some (placed_in xs a) ≡ true → HasBlock (ones_of xs) a 1) → HasBlock (ones_of (x ∷ xs)) a 1
    by_here true e g rest = inl (eqb-true x.at a e, refl)
    by_here false e g rest = inr (rest g)

starts_in : (xs : List Placed) (a count : ℕ) → HasBlock (ones_of xs) a count → (is_some (placed_in xs a) ≡ true) × (count ≡ 1)
starts_in [] a count h = absurd h
starts_in (x ∷ xs) a count (inl is) = (ap (λ t. is_some (cond t (Some x) (placed_in xs a))) (same_at x.at a is.0), sym is.1)
starts_in (x ∷ xs) a count (inr has) = let r = starts_in xs a count has in (by_here (x.at == a) r.0, r.1)
  where
    by_here : (t : Bool) → is_some (placed_in xs a) ≡ true → is_some (cond t (Some x) (placed_in xs a)) ≡ true
    by_here true g = refl
    by_here false g = g

module _ (blocks : OnesAreBlocks) (p : Program) (is : IsProgram p) where
  first_of : (a : ℕ) → is_start p a ≡ true → IsFirstOf (ones p) (At a)
  first_of a h = (1, first_in p.instrs a h)

  ones_cut : IsCut p (ones p)
  ones_cut = record {
    blocks = λ first count has. let s = starts_in p.instrs first count has in subst (λ n. MayRun p first n) (sym s.1) (blocks p is first s.0);
    begins = first_of 0x100 is.first;
    follows = λ first count has h. first_of _ h;
    named = λ at a i h n. first_of a (names_start p p.instrs is.named at a i h n);
    taken = λ a h t. first_of a h;
  }

has_everything : (q : Part) → has everything q ≡ true
has_everything A = refl
has_everything B = refl
has_everything C = refl
has_everything D = refl
has_everything E = refl
has_everything H = refl
has_everything L = refl
has_everything S = refl
has_everything Z = refl
has_everything Ac = refl
has_everything P = refl
has_everything Cy = refl

kept_at_start : (p : Program) (a : ℕ) → is_start p a ≡ true → (q : Part) → has ((all_kept p).at a) q ≡ true
kept_at_start p a h q = ap (λ t. has (cond t everything nothing) q) h ∙ has_everything q

-- at a return is kept what is kept at the places that are taken
returns_all : (p : Program) → ReturnsKeep p (all_kept p)
returns_all p a q start taken kept = by_places (taken_places p) (taken_has p a start taken)
  where
    by_places : (xs : List ℕ) → Contains xs a → has (cond (length xs == 0) nothing everything) q ≡ true
    by_places [] h = absurd (omega (arith, h.1))
    by_places (x ∷ xs) h =
        let some : (length (x ∷ xs) == 0) ≡ false = grind (Rattle.std.proofs.Common.arith, Rattle.std.proofs.lemmas.Bool.Decides.nat_tests) in
        ap (λ t. has (cond t nothing everything) q) some ∙ has_everything q

-- no block has a reason
none_of : (p : Program) (text : List Stmt86) (keeps : Keeps) (xs : List Placed) → ((a : ℕ) → HasBlock (ones_of xs) a 1 → block_reason p text keeps a 1 ≡ None) → blocks_reason p text keeps (ones_of xs) ≡ None
none_of p text keeps [] each = refl
none_of p text keeps (x ∷ xs) each =
    ap (λ o. or_next x.at o (blocks_reason p text keeps (ones_of xs))) (each x.at (inl (refl, refl)))
    ∙ none_of p text keeps xs (λ a has. each a (inr has))

pub plain_matches : OnesAreBlocks → PlainBlocksMatch → (p : Program) → IsProgram p → TextStands p (plain p) → IsMatch p (plain p) (ones p) (all_kept p)
plain_matches blocks match p is t = record {
  program = is;
  assembles = t.assembles;
  coded = t.own.coded;
  data_coded = t.own.data_coded;
  is_cut = ones_cut blocks p is;
  returns = returns_all p;
  matches = record {
    opening = t.own.opening;
    runtime = t.own.runtime;
    cells = t.own.data_stand;
    blocks = none_of p (statements (plain p)) (all_kept p) p.instrs
        (λ a has. subst (λ xs. block_reason p xs (all_kept p) a 1 ≡ None) (sym (statements-numbered 1 (plain_statements p)))
        (match p (all_kept p) is (kept_at_start p) a (starts_in p.instrs a 1 has).0));
  };
}

pub blocks_same : MatchesIsSame → BlocksAreCuts → NeedsReturn → (p : Program) (n : Needs) (lines : List Line86) → IsProgram p → AreAllNeeds p n → Assembles lines → StatementsAreCoded (statements lines) → DataAreCoded (statements lines) → Matches p lines (flow_blocks p) (needed_by p n) → Same p (image_of lines)
blocks_same same cuts returns p n lines is needs assembles coded data_coded m = same p lines (flow_blocks p) (needed_by p n) (record {
  program = is;
  assembles = assembles;
  coded = coded;
  data_coded = data_coded;
  is_cut = cuts p is;
  returns = returns p n needs;
  matches = m;
})
