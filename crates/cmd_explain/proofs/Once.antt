-- Of a program and a text just one thing is said.
use Rattle.std.proofs.Common.{◌≡◌, ◌∙◌, ℕ, suc, Bool, true, false, List, [], ◌∷◌, ◌++◌, length, length-append, Option, Some, None, Result, Ok, Err, refl, sym, ap, subst, arith}
use Rattle.std.proofs.lemmas.List.{length-map}
use Rattle.cells.specs.declared.Cell.{Cell}
use Rattle.asm80_types.specs.Program.{Program}
use Rattle.asm86_line_types.specs.declared.line.Label.TheVariants.{At}
use Rattle.asm86_line_types.specs.declared.line.Line86.{Line86}
use Rattle.asm86_line_types.specs.declared.line.Stmt86.{Stmt86}
use Rattle.asm86_line_types.specs.Image.{Image, statements}
use Rattle.flow.specs.Blocks.{blocks}
use Rattle.flow.specs.Solving.{Needs}
use Rattle.flow.proofs.OneNeeds.{all_needs_once}
use Rattle.sym_block_def.specs.declared.reason.Reason.{Reason}
use Rattle.sym_block_def.specs.declared.reason.Reason.TheVariants.{Opening, Runtime, DataPart, Missing, Length, Form, Actions, Exits, Kept, KeptSp}
use Rattle.sym_block_def.specs.Block80.{block80}
use Rattle.sym_block_def.specs.Outcome.{Outcome}
use Rattle.sym_block_def.specs.Walk86.{after_label, walk86}
use Rattle.sym_block_def.specs.BlockMatch.{Keeps, block_reason}
use Rattle.simulation_def.specs.Needed.{needed_by}
use Rattle.sym_run.specs.Stop.{walk_end}
use Rattle.block_explain.specs.Explained.{told, LinesAre}
use Rattle.block_explain.proofs.OneText.{one_text}
use Rattle.text_check.specs.Findings.{HasFrame, Lacks, opening as no_opening, runtime as no_runtime, cells as no_cells}
use Rattle.cmd_explain.specs.Lines.{block_line, source_lines, text_line, ends_at}
use Rattle.cmd_explain.specs.Explained.{StandsBefore, EndTold, ends_walk, ReasonTold, LabelTold, WhyTold, BlockTold, ToldIfAny, BlocksTold, OpeningTold, unlike, alike, DataTold, apart, stands, FrameTold, Explained, frame, of_blocks, opening}

-- ---- lines by what stands after them

-- the ends of one list, of one length
ends_once : (b c f g : List Line86) → b ++ f ≡ c ++ g → length f ≡ length g → f ≡ g
ends_once [] [] f g e n = e
ends_once [] (y ∷ ys) f g e n = let more = ap length e in let sum = length-append ys g in absurd (omega (arith, more, sum, n))
ends_once (x ∷ xs) [] f g e n = let more = ap length e in let sum = length-append xs f in absurd (omega (arith, more, sum, n))
ends_once (x ∷ xs) (y ∷ ys) f g e n = ends_once xs ys f g (cc) n

same_length : (f g : List Line86) → statements f ≡ statements g → length f ≡ length g
same_length f g e = let one = length-map f (λ (x : Line86). x.stmt) in let other = length-map g (λ (x : Line86). x.stmt) in let same = ap length e in omega (arith, one, other, same)

first_is : (x y : Line86) (xs ys : List Line86) → ◌≡◌ {A = List Line86} (x ∷ xs) (y ∷ ys) → x ≡ y
first_is x y xs ys e = cc

some_is : (xs ys : List Stmt86) → ◌≡◌ {A = Option (List Stmt86)} (Some xs) (Some ys) → xs ≡ ys
some_is xs ys e = cc

stands_once : (lines : List Line86) (x y : Line86) (rest : List Stmt86) → StandsBefore lines x rest → StandsBefore lines y rest → x ≡ y
stands_once lines x y rest h k =
    let n = same_length h.after k.after (sym h.left ∙ k.left) in
    first_is x y h.after k.after (ends_once h.before k.before (x ∷ h.after) (y ∷ k.after) (sym h.cut ∙ k.cut) (ap suc n))

end_once : (lines : List Line86) (end : Option (List Stmt86)) (s t : List ℕ) → EndTold lines end s → EndTold lines end t → s ≡ t
end_once lines end s t h k =
    let n = same_length h.from k.from (some_is (statements h.from) (statements k.from) (sym h.left ∙ k.left)) in
    h.is ∙ ap ends_at (ends_once h.before k.before h.from k.from (sym h.cut ∙ k.cut) n) ∙ sym k.is

-- ---- blocks

lines_once : (reason : Reason) (x : Outcome) (walked : Result Outcome Reason) (s t : List ℕ) → LinesAre reason x walked s → LinesAre reason x walked t → s ≡ t
lines_once reason x (Ok y) s t h k = one_text (told reason x y) s t h k
lines_once reason x (Err r) s t h k = h ∙ sym k

number_is : (n m : ℕ) → ◌≡◌ {A = Option ℕ} (Some n) (Some m) → n ≡ m
number_is n m e = cc

module _ (p : Program) (lines : List Line86) (k : Keeps) (first count : ℕ) where
  reason_once : (b : Bool) (reason : Reason) (s t : List ℕ) → ReasonTold p lines k first count b reason s → ReasonTold p lines k first count b reason t → s ≡ t
  reason_once true reason s t g h = end_once lines (walk_end p (statements lines) first count) s t g h
  reason_once false reason s t g h = lines_once reason (block80 p first count) (walk86 p (statements lines) (k.at first) first count) s t g h

  label_once : (reason : Reason) (rest : List Stmt86) (s t : List ℕ) → LabelTold p lines k first count reason rest s → LabelTold p lines k first count reason rest t → s ≡ t
  label_once reason rest s t g h =
      let same = stands_once lines g.label h.label rest g.stands h.stands in
      g.is
      ∙ ap (λ (x : Line86). text_line x.line ++ g.why) same
      ∙ ap (λ w. text_line h.label.line ++ w) (reason_once (ends_walk reason) reason g.why h.why g.told h.told)
      ∙ sym h.is

  why_once : (reason : Reason) (o : Option (List Stmt86)) (s t : List ℕ) → WhyTold p lines k first count reason o s → WhyTold p lines k first count reason o t → s ≡ t
  why_once reason None s t g h = g ∙ sym h
  why_once reason (Some rest) s t g h = label_once reason rest s t g h

  block_once : (reason : Reason) (s t : List ℕ) → BlockTold p lines k first count reason s → BlockTold p lines k first count reason t → s ≡ t
  block_once reason s t g h =
      let from = number_is g.from h.from (sym g.starts ∙ h.starts) in
      let to = number_is g.to h.to (sym g.ends ∙ h.ends) in
      g.is
      ∙ (λ i. (block_line first reason ++ source_lines (from i) (to i)) ++ g.why)
      ∙ ap (λ w. (block_line first reason ++ source_lines h.from h.to) ++ w) (why_once reason (after_label (statements lines) (At first)) g.why h.why g.told h.told)
      ∙ sym h.is

  any_once : (o : Option Reason) (s t : List ℕ) → ToldIfAny p lines k first count o s → ToldIfAny p lines k first count o t → s ≡ t
  any_once None s t g h = g ∙ sym h
  any_once (Some reason) s t g h = block_once reason s t g h

blocks_once : (p : Program) (lines : List Line86) (k : Keeps) (bs : List (ℕ × ℕ)) (s t : List ℕ) → BlocksTold p lines k bs s → BlocksTold p lines k bs t → s ≡ t
blocks_once p lines k [] s t g h = g ∙ sym h
blocks_once p lines k (b ∷ bs) s t g h =
    let own = any_once p lines k b.0 b.1 (block_reason p (statements lines) k b.0 b.1) g.0 h.0 g.2 h.2 in
    let rest = blocks_once p lines k bs g.1 h.1 g.3 h.3 in
    g.4 ∙ (λ i. own i ++ rest i) ∙ sym h.4

-- ---- what stands before the blocks

opening_once : (wanted : List Stmt86) (xs : List Line86) (s t : List ℕ) → OpeningTold wanted xs s → OpeningTold wanted xs t → s ≡ t
opening_once _ xs _ _ (unlike u) (unlike v) = refl
opening_once _ _ _ _ (unlike u) (alike e h) = absurd (u e)
opening_once _ _ _ _ (alike e h) (unlike u) = absurd (u e)
opening_once _ _ s t (alike {more = more} {xs = xs} e h) (alike f k) = opening_once more xs s t h k

data_once : (image : Image) (cs : List (ℕ × Cell)) (s t : List ℕ) → DataTold image cs s → DataTold image cs t → s ≡ t
data_once image _ _ _ (apart u) (apart v) = refl
data_once image _ _ _ (apart u) (stands c h) = absurd (u c)
data_once image _ _ _ (stands c h) (apart u) = absurd (u c)
data_once image _ s t (stands {more = more} c h) (stands d k) = data_once image more s t h k

frame_once : (p : Program) (lines : List Line86) (image : Image) (reason : Reason) (s t : List ℕ) → FrameTold p lines image reason s → FrameTold p lines image reason t → s ≡ t
frame_once p lines image Opening s t g h = opening_once (opening p) lines s t g h
frame_once p lines image Runtime s t g h = g ∙ sym h
frame_once p lines image DataPart s t g h = data_once image p.cells s t g h
frame_once p lines image Missing s t g h = g ∙ sym h
frame_once p lines image Length s t g h = g ∙ sym h
frame_once p lines image Form s t g h = g ∙ sym h
frame_once p lines image Actions s t g h = g ∙ sym h
frame_once p lines image Exits s t g h = g ∙ sym h
frame_once p lines image (Kept part) s t g h = g ∙ sym h
frame_once p lines image KeptSp s t g h = g ∙ sym h

lacks_once : (p : Program) (text : List Stmt86) (image : Image) (r q : Reason) → Lacks p text image r → Lacks p text image q → r ≡ q
lacks_once p text image _ _ (no_opening none) (no_opening other) = refl
lacks_once p text image _ _ (no_opening none) (no_runtime has other) = absurd (none has)
lacks_once p text image _ _ (no_opening none) (no_cells has runs other) = absurd (none has)
lacks_once p text image _ _ (no_runtime has none) (no_opening other) = absurd (other has)
lacks_once p text image _ _ (no_runtime has none) (no_runtime had other) = refl
lacks_once p text image _ _ (no_runtime has none) (no_cells had runs other) = absurd (none runs)
lacks_once p text image _ _ (no_cells has runs none) (no_opening other) = absurd (other has)
lacks_once p text image _ _ (no_cells has runs none) (no_runtime had other) = absurd (other runs)
lacks_once p text image _ _ (no_cells has runs none) (no_cells had run other) = refl

not_both : (p : Program) (text : List Stmt86) (image : Image) (r : Reason) → Lacks p text image r → HasFrame p text image → ⊥
not_both p text image _ (no_opening none) f = none f.opening
not_both p text image _ (no_runtime has none) f = none f.runtime
not_both p text image _ (no_cells has runs none) f = none f.cells

pub text_once : (p : Program) (lines : List Line86) (image : Image) (s t : List ℕ) → Explained p lines image s → Explained p lines image t → s ≡ t
text_once p lines image s t (frame r lacks g) (frame q other h) =
    frame_once p lines image q s t (subst (λ (z : Reason). FrameTold p lines image z s) (lacks_once p (statements lines) image r q lacks other) g) h
text_once p lines image s t (frame r lacks g) (of_blocks f n are h) = absurd (not_both p (statements lines) image r lacks f)
text_once p lines image s t (of_blocks f n are g) (frame r lacks h) = absurd (not_both p (statements lines) image r lacks f)
text_once p lines image s t (of_blocks f n are g) (of_blocks e m also h) =
    blocks_once p lines (needed_by p m) (blocks p) s t (subst (λ (z : Needs). BlocksTold p lines (needed_by p z) (blocks p) s) (all_needs_once p n m are also) g) h
