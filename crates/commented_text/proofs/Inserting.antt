-- Lines that give no statement change nothing but the numbers of lines.
use Rattle.std.proofs.Common.{◌≡◌, ℕ, suc, ◌-◌, List, [], ◌∷◌, ◌++◌, length, map, true, false, refl, sym, ap, ◌∙◌, append-nil, arith, length-append}
use Rattle.std.proofs.Math.Seq.{take-append_seam, get_or-append_seam}
use Rattle.std.proofs.lemmas.List.{map-append}
use Rattle.asm86_line_types.specs.declared.line.Line86.{Line86}
use Rattle.asm86_line_types.specs.declared.line.Stmt86.{Stmt86}
use Rattle.asm86_line_types.specs.declared.line.TextRule.{TextRule}
use Rattle.asm86_line_types.specs.Image.{statements}
use Rattle.asm86_line_types.specs.Order.{at_start, in_order, ends_text}
use Rattle.std.specs.List.{list_any}
use Rattle.base.specs.Cut.{without_cr}
use Rattle.asm86.specs.Stream.{lines_of_number, are_in_order, has_end, AddsLine, Ending, Open, Ended, Broken, TextLinesGive, none_left, next, ends, breaks}
use Rattle.commented_text.proofs.Weaving.{Woven, no_more, line, remark}
use Rattle.commented_text.proofs.Rising.{Renumbers, none_added, line_added, comment_added}

cr_dropped : (l : List ℕ) → without_cr (l ++ 13 ∷ []) ≡ l
cr_dropped l = let e : length (l ++ 13 ∷ []) - 1 ≡ length l = omega (arith, length-append l (13 ∷ [])) in rw (e, get_or-append_seam l 13 [] 0) (take-append_seam l (13 ∷ []))

-- lines with the same statements
same_order : (xs ys : List Line86) → statements ys ≡ statements xs → are_in_order ys ≡ are_in_order xs
same_order xs ys e = ap (in_order at_start) e

same_end : (xs ys : List Line86) → statements ys ≡ statements xs → has_end ys ≡ has_end xs
same_end xs ys e = ap (list_any ends_text) e

numbered : (n : ℕ) (ss : List Stmt86) → statements (lines_of_number n ss) ≡ ss
numbered n [] = refl
numbered n (s ∷ ss) = ap (λ (t : List Stmt86). s ∷ t) (numbered n ss)

statements-both : (xs ys : List Line86) → statements (xs ++ ys) ≡ statements xs ++ statements ys
statements-both xs ys = map-append (λ (x : Line86). x.stmt) xs ys

-- the same statements, added at another number
same_added : (xs ys : List Line86) (n m : ℕ) (ss : List Stmt86) → statements ys ≡ statements xs → statements (ys ++ lines_of_number m ss) ≡ statements (xs ++ lines_of_number n ss)
same_added xs ys n m ss e =
    statements-both ys (lines_of_number m ss)
    ∙ ap (λ (t : List Stmt86). t ++ statements (lines_of_number m ss)) e
    ∙ ap (λ (t : List Stmt86). statements xs ++ t) (numbered m ss ∙ sym (numbered n ss))
    ∙ sym (statements-both xs (lines_of_number n ss))

-- what lines give, from the number after m on, that hold the same statements
pub record GivesSame (m : ℕ) (xs ys : List Line86) (more : List (List ℕ)) (zs : List Line86) : Type 0 where
  pub read : List Line86
  pub gives : TextLinesGive (suc m) ys more read Ended
  pub same : statements read ≡ statements zs
  pub numbers : Renumbers m xs zs ys read

open_not_ended : Open ≡ Ended → ⊥
open_not_ended e = cc

broken_not_ended : (n : ℕ) (rule : TextRule) → Broken n rule ≡ Ended → ⊥
broken_not_ended n rule e = cc

-- a line that adds statements to some lines adds the same ones to lines with the same statements
module _ (xs ws ys : List Line86) (n m : ℕ) (l : List ℕ) (a : AddsLine xs n l ws) (e : statements ys ≡ statements xs) where
  abbrev grown : List Line86
  grown = ys ++ lines_of_number (suc m) a.given

  grown_same : statements grown ≡ statements ws
  grown_same = same_added xs ys n (suc m) a.given e ∙ ap statements (sym a.whole)

  grown_adds : AddsLine ys (suc m) l grown
  grown_adds = record { given = a.given; reads = a.reads; whole = refl; in_order = same_order ws grown grown_same ∙ a.in_order }

pub inserted : {raw more : List (List ℕ)} → Woven raw more → {n : ℕ} {xs zs : List Line86} {e : Ending} → TextLinesGive n xs (map without_cr raw) zs e → e ≡ Ended → are_in_order xs ≡ true → has_end xs ≡ false → (m : ℕ) (ys : List Line86) → statements ys ≡ statements xs → GivesSame m xs ys (map without_cr more) zs
inserted no_more none_left q o h m ys e = absurd (open_not_ended q)
inserted (line l w) {n} {xs} {zs} (next {ys = ws} a k x) q o h m ys e =
    let g = grown xs ws ys n m (without_cr l) a e in
    let s = grown_same xs ws ys n m (without_cr l) a e in
    let rest = inserted w x q a.in_order k (suc m) g s in
    record {
      read = rest.read;
      gives = next (grown_adds xs ws ys n m (without_cr l) a e) (same_end ws g s ∙ k) rest.gives;
      same = rest.same;
      numbers = line_added n m a.given xs ws zs ys rest.read a.whole rest.numbers;
    }
inserted (line l w) {n} {xs} (ends {ys = ws} a k) q o h m ys e =
    let g = grown xs ws ys n m (without_cr l) a e in
    let s = grown_same xs ws ys n m (without_cr l) a e in
    record {
      read = g;
      gives = ends (grown_adds xs ws ys n m (without_cr l) a e) (same_end ws g s ∙ k);
      same = s;
      numbers = line_added n m a.given xs ws ws ys g a.whole (none_added (suc m) ws g);
    }
inserted (line l w) {n} (breaks {rule = rule} b) q o h m ys e = absurd (broken_not_ended n rule q)
inserted (remark l r w) {n} {xs} {zs} g q o h m ys e =
    let rest = inserted w g q o h (suc m) ys e in
    let adds : AddsLine ys (suc m) l ys = record { given = []; reads = r; whole = sym (append-nil ys); in_order = same_order xs ys e ∙ o } in
    record {
      read = rest.read;
      gives = rw (cr_dropped l) (next adds (same_end xs ys e ∙ h) rest.gives);
      same = rest.same;
      numbers = comment_added m xs zs ys rest.read rest.numbers;
    }
