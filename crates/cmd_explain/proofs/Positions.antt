-- Lines of a text by the place of their statement.
use Rattle.std.proofs.Common.{◌≡◌, ◌∙◌, ℕ, zero, suc, ◌-◌, ◌<◌, ◌≤◌, Bool, true, false, cond, List, [], ◌∷◌, ◌++◌, length, get_or, take, drop, Option, Some, refl, sym, ap, arith}
use Rattle.std.proofs.Math.Seq.{drop-cons}
use Rattle.std.proofs.lemmas.List.{take-append-drop, drop-map, length-drop, take_all}
use Rattle.asm86_line_types.specs.declared.line.Label.{Label}
use Rattle.asm86_line_types.specs.declared.line.Line86.{Line86}
use Rattle.asm86_line_types.specs.declared.line.Stmt86.{Stmt86}
use Rattle.asm86_line_types.specs.declared.line.Stmt86.TheVariants.{Cseg}
use Rattle.asm86_line_types.specs.Layout.{marks}
use Rattle.asm86_line_types.specs.Image.{statements}
use Rattle.sym_block_def.specs.Walk86.{after_label}
use Rattle.cmd_explain.specs.Lines.{ends_at}
use Rattle.cmd_explain.specs.Explained.{StandsBefore, EndTold}

-- what a slice to the end has
pub to_the_end : {A : Type 0} (n : ℕ) (xs : List A) → take (length xs - n) (drop n xs) ≡ drop n xs
to_the_end n xs = let rest = length-drop n xs in take_all (length xs - n) (drop n xs) (omega (arith, rest))

-- in place of a line that is not there
abbrev pub any_line : Line86
any_line = record { line = 0; stmt = Cseg }

-- the line just before a place
pub stands_before : (lines : List Line86) (k : ℕ) (d : Line86) → 0 < k → k ≤ length lines → StandsBefore lines (get_or lines (k - 1) d) (drop k (statements lines))
stands_before lines k d some within =
    let next : suc (k - 1) ≡ k = omega (arith, some) in
    record {
      before = take (k - 1) lines;
      after = drop k lines;
      cut = sym (take-append-drop (k - 1) lines) ∙ ap (λ xs. take (k - 1) lines ++ xs) (drop-cons lines (k - 1) d (omega (arith, some, within)) ∙ ap (λ n. get_or lines (k - 1) d ∷ drop n lines) next);
      left = drop-map (λ (x : Line86). x.stmt) k lines;
    }

-- where a walk ends at a place
pub end_at : (lines : List Line86) (k : ℕ) (end : Option (List Stmt86)) → end ≡ Some (drop k (statements lines)) → EndTold lines end (ends_at (drop k lines))
end_at lines k end e = record {
  before = take k lines;
  from = drop k lines;
  cut = sym (take-append-drop k lines);
  left = e ∙ ap Some (drop-map (λ (x : Line86). x.stmt) k lines);
  is = refl;
}

-- less stands after a label than in the whole
shorter : (xs : List Stmt86) (l : Label) (rest : List Stmt86) → after_label xs l ≡ Some rest → length rest < length xs
shorter [] l rest e = absurd (cc)
shorter (x ∷ xs) l rest e = by_mark (marks l x) e (shorter xs l rest)
  where
    same : (ys zs : List Stmt86) → ◌≡◌ {A = Option (List Stmt86)} (Some ys) (Some zs) → ys ≡ zs
    same ys zs h = cc

    by_mark : (m : Bool) → cond m (Some xs) (after_label xs l) ≡ Some rest → (after_label xs l ≡ Some rest → length rest < length xs) → length rest < length (x ∷ xs)
    by_mark true h later = let is = ap length (same xs rest h) in omega (arith, is)
    by_mark false h later = let less = later h in omega (arith, less)

pub after_some : (xs : List Stmt86) (l : Label) (k : ℕ) → after_label xs l ≡ Some (drop k xs) → 0 < k
after_some xs l zero e = let less = shorter xs l xs e in absurd (omega (arith, less))
after_some xs l (suc k) e = omega arith
