-- A text with comments among its lines is read as the same statements.
use Rattle.std.proofs.Common.{◌≡◌, ℕ, List, [], ◌++◌, map, Result, Ok, refl, sym, ap, subst, ◌∙◌, append-nil}
use Rattle.asm86_line_types.specs.declared.line.Line86.{Line86}
use Rattle.asm86_line_types.specs.declared.line.TextRule.{TextRule}
use Rattle.asm86_line_types.specs.Image.{statements, Image, IsImage}
use Rattle.base.specs.Cut.{Cut, ended, without_cr, last_line}
use Rattle.base.proofs.Cuts.{one_cut}
use Rattle.std.specs.List.{flat_map, AllByRecursion}
use Rattle.asm86.specs.Images.{HasImage}
use Rattle.asm86.specs.Stream.{IsNotLf, Ending, Open, Ended, Broken, TextLinesGive, outcome_of_text, TextGives}
use Rattle.commented_text.specs.Reading.{Rises, ReadsAs}
use Rattle.commented_text.proofs.Weaving.{Weaves}
use Rattle.commented_text.proofs.Inserting.{inserted}
use Rattle.commented_text.proofs.Rising.{read_rises}

ok_ends : (xs found : List Line86) (e : Ending) → ◌≡◌ {A = Result (List Line86) (ℕ × TextRule)} (Ok xs) (outcome_of_text found e) → (e ≡ Ended) × (xs ≡ found)
ok_ends xs found Open q = absurd cc
ok_ends xs found Ended q = (refl, cc)
ok_ends xs found (Broken n rule) q = absurd cc

whole_cut : (text : List ℕ) (raw : List (List ℕ)) → text ≡ flat_map ended raw → AllByRecursion (AllByRecursion IsNotLf) raw → Cut IsNotLf text raw []
whole_cut text raw e h = record { whole = e ∙ sym (append-nil (flat_map ended raw)); each = h; last = tt }

no_rest : (lines : List (List ℕ)) → lines ++ last_line [] ≡ lines
no_rest lines = append-nil lines

-- a text is read as the statements of some lines, and where the numbers of these rise, so do those of its own lines
record ReadsSame (lines : List Line86) (text : List ℕ) : Type 0 where
  read : List Line86
  gives : TextGives text (Ok read)
  same : statements read ≡ statements lines
  rises : Rises 0 lines → Rises 0 read

woven_same : (plain text : List ℕ) (lines : List Line86) → Weaves plain text → TextGives plain (Ok lines) → ReadsSame lines text
woven_same plain text lines w g =
    let is = ok_ends lines g.found g.ending g.is in
    let cut = one_cut (λ b n. n) g.cut (whole_cut plain w.raw w.plain_is w.plain_each) in
    let first : map without_cr g.raw ++ last_line g.rest ≡ map without_cr w.raw = rw (cut.0, cut.1) (no_rest (map without_cr w.raw)) in
    let given : TextLinesGive 1 [] (map without_cr w.raw) g.found g.ending = rw first at g.lines in
    let same = inserted w.woven given is.0 refl refl 0 [] refl in
    record {
      read = same.read;
      gives = record {
        raw = w.more;
        rest = [];
        found = same.read;
        ending = Ended;
        cut = whole_cut text w.more w.text_is w.text_each;
        lines = rw (no_rest (map without_cr w.more)) same.gives;
        is = refl;
      };
      same = same.same ∙ ap statements (sym is.1);
      rises = λ h. read_rises g.found same.read same.numbers (subst (Rises 0) is.1 h);
    }

pub read_woven : (plain text : List ℕ) (lines : List Line86) → Weaves plain text → TextGives plain (Ok lines) → Rises 0 lines → ReadsAs lines text
read_woven plain text lines w g h =
    let r = woven_same plain text lines w g in
    record { read = r.read; gives = r.gives; same = r.same; rises = r.rises h }

-- the same statements have the same image
same_image : (xs ys : List Line86) (image : Image) → statements ys ≡ statements xs → IsImage xs image → IsImage ys image
same_image xs ys image e h = record {
  assembles = record { order = rw e h.assembles.order; once = rw e h.assembles.once; defined = rw e h.assembles.defined; small = rw e h.assembles.small; short = rw e h.assembles.short };
  is = rw e h.is;
}

pub image_woven : (plain text : List ℕ) (image : Image) → Weaves plain text → HasImage plain image → HasImage text image
image_woven plain text image w h =
    let r = woven_same plain text h.lines w h.reads in
    record { lines = r.read; reads = r.gives; assembled = same_image h.lines r.read image r.same h.assembled }
