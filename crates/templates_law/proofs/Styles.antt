-- The texts that are written for a program, by their styles: what is known of each, and that it matches.
use Rattle.std.proofs.Common.{◌≡◌, ◌∙◌, ◌<◌, List, None, refl, sym, ap, subst}
use Rattle.std.specs.Prelude.{Ok}
use Rattle.i86.specs.Decode.{HasReader}
use Rattle.asm80_types.specs.Program.{Program, IsProgram}
use Rattle.asm86_line_types.specs.declared.line.Line86.{Line86}
use Rattle.asm86_line_types.specs.Image.{Assembles, image_of}
use Rattle.asm86_line_types.specs.Layout.{sizes_of}
use Rattle.asm86_line_types.specs.Written.{written_text}
use Rattle.asm86.specs.Stream.{TextGives}
use Rattle.flow.specs.Blocks.{blocks}
use Rattle.flow.specs.Solving.{Needs, AreAllNeeds}
use Rattle.templates.specs.Plain.{numbered_from, plain, plain_statements}
use Rattle.templates.specs.Style.{Style, plain_style, styled_statements, styled}
use Rattle.templates.specs.Lean.{lean_style, lean, IsLean}
use Rattle.simulation_def.specs.Matches.{blocks_reason}
use Rattle.simulation_def.specs.Needed.{needed_by}
use Rattle.simulation_def.specs.Ones.{ones, all_kept}
use Rattle.simulation_def.specs.Same.{Same}
use Rattle.simulation_law.specs.Laws.{IsMatch, MatchesIsSame}
use Rattle.simulation_def.specs.BlockCuts.{BlocksAreCuts, NeedsReturn}
use Rattle.templates_law.specs.Match.Own.{Respects, OwnTextsMatch, StylesRespectNeeds}
use Rattle.templates_law.specs.Text.Fits.{StyleFits}
use Rattle.templates_law.specs.Text.Own.{IsOwnText}
use Rattle.templates_law.specs.Text.Reach.{JumpsReach}
use Rattle.templates.proofs.NumberedLines.{statements-numbered}
use Rattle.templates.specs.declared.translation.Mode.{Mode}
use Rattle.templates.specs.declared.translation.Mode.TheVariants.{Plain, Lean}
use Rattle.templates.specs.Translation.{IsText, CodeFits}

-- what is known of a text whose code fits
pub record TextStands (p : Program) (lines : List Line86) : Type 0 where
  pub own : IsOwnText p lines
  pub assembles : Assembles lines
  pub reader : HasReader (image_of lines).code

-- the laws of texts by their styles
pub record StyleLaw : Type 0 where
  pub stands : (s : Style) (p : Program) → IsProgram p → IsOwnText p (styled s p)
  pub assembles : (s : Style) (p : Program) → IsProgram p → JumpsReach s p → StyleFits s p → Assembles (styled s p)
  pub reader : (s : Style) (p : Program) → IsProgram p → JumpsReach s p → StyleFits s p → HasReader (image_of (styled s p)).code

-- the plain text is the one in the style that leaves nothing out
pub record PlainLaw : Type 0 where
  pub is : (p : Program) → styled_statements plain_style p ≡ plain_statements p
  pub reaches : (p : Program) → JumpsReach plain_style p

abbrev pub LeanReaches : Type 0
LeanReaches = (n : Needs) (p : Program) → IsProgram p → JumpsReach (lean_style n p) p

style_fits : (s : Style) (p : Program) → CodeFits (styled s p) → StyleFits s p
style_fits s p fits = subst (λ xs. sizes_of xs < 0x10000) (statements-numbered 1 (styled_statements s p)) fits

styled_stands : StyleLaw → (s : Style) (p : Program) → IsProgram p → JumpsReach s p → CodeFits (styled s p) → TextStands p (styled s p)
styled_stands law s p is reach fits = record {
  own = law.stands s p is;
  assembles = law.assembles s p is reach (style_fits s p fits);
  reader = law.reader s p is reach (style_fits s p fits);
}

plain_is : PlainLaw → (p : Program) → styled plain_style p ≡ plain p
plain_is law p = ap (numbered_from 1) (law.is p)

pub plain_stands : StyleLaw → PlainLaw → (p : Program) → IsProgram p → CodeFits (plain p) → TextStands p (plain p)
plain_stands law plain_law p is fits =
    subst (TextStands p) (plain_is plain_law p) (styled_stands law plain_style p is (plain_law.reaches p) (subst CodeFits (sym (plain_is plain_law p)) fits))

-- in either mode
pub text_stands : StyleLaw → PlainLaw → LeanReaches → (mode : Mode) (p : Program) (lines : List Line86) → IsProgram p → IsText mode p lines → CodeFits lines → TextStands p lines
text_stands law plain_law lean_law Plain p lines is t fits = subst (TextStands p) (sym t) (plain_stands law plain_law p is (subst CodeFits t fits))
text_stands law plain_law lean_law Lean p lines is t fits =
    subst (TextStands p) (sym t.2) (styled_stands law (lean_style t.0 p) p is (lean_law t.0 p is) (subst CodeFits t.2 fits))

abbrev pub PlainReadsBack : Type 0
PlainReadsBack = (p : Program) → IsProgram p → TextGives (written_text (plain p)) (Ok (plain p))

abbrev pub LeanReadsBack : Type 0
LeanReadsBack = (n : Needs) (p : Program) → IsProgram p → TextGives (written_text (lean n p)) (Ok (lean n p))

pub reads_back : PlainReadsBack → LeanReadsBack → (mode : Mode) (p : Program) (lines : List Line86) → IsProgram p → IsText mode p lines → TextGives (written_text lines) (Ok lines)
reads_back plain_back lean_back Plain p lines is t = subst (λ xs. TextGives (written_text xs) (Ok xs)) (sym t) (plain_back p is)
reads_back plain_back lean_back Lean p lines is t = subst (λ xs. TextGives (written_text xs) (Ok xs)) (sym t.2) (lean_back t.0 p is)

-- a program has one text in a mode
abbrev pub LeanTextsAreOne : Type 0
LeanTextsAreOne = (p : Program) (xs ys : List Line86) → IsLean p xs → IsLean p ys → xs ≡ ys

pub one_text : LeanTextsAreOne → (mode : Mode) (p : Program) (xs ys : List Line86) → IsText mode p xs → IsText mode p ys → xs ≡ ys
one_text one Plain p xs ys s t = s ∙ sym t
one_text one Lean p xs ys s t = one p xs ys s t

styled_matches : OwnTextsMatch → BlocksAreCuts → NeedsReturn → (p : Program) (n : Needs) (s : Style) → IsProgram p → AreAllNeeds p n → Respects p n s → TextStands p (styled s p) → IsMatch p (styled s p) (blocks p) (needed_by p n)
styled_matches match cuts returns p n s is needs respects t = record {
  program = is;
  assembles = t.assembles;
  coded = t.own.coded;
  data_coded = t.own.data_coded;
  is_cut = cuts p is;
  returns = returns p n needs;
  matches = record {
    opening = t.own.opening;
    runtime = t.own.runtime;
    cells = t.own.data_stand;
    blocks = subst (λ xs. blocks_reason p xs (needed_by p n) (blocks p) ≡ None) (sym (statements-numbered 1 (styled_statements s p))) (match p n s is needs respects);
  };
}

pub text_matches : StyleLaw → PlainLaw → LeanReaches → LeanTextsAreOne → OwnTextsMatch → StylesRespectNeeds → BlocksAreCuts → NeedsReturn → (mode : Mode) (p : Program) (n : Needs) (lines : List Line86) → IsProgram p → AreAllNeeds p n → IsText mode p lines → CodeFits lines → IsMatch p lines (blocks p) (needed_by p n)
text_matches law plain_law lean_law one match styles cuts returns Plain p n lines is needs t fits =
    let e : styled plain_style p ≡ lines = plain_is plain_law p ∙ sym t in
    subst (λ xs. IsMatch p xs (blocks p) (needed_by p n)) e
    (styled_matches match cuts returns p n plain_style is needs (styles.plain p n) (styled_stands law plain_style p is (plain_law.reaches p) (subst CodeFits (sym e) fits)))
text_matches law plain_law lean_law one match styles cuts returns Lean p n lines is needs t fits =
    let e : lean n p ≡ lines = one p (lean n p) lines (n, needs, refl) t in
    subst (λ xs. IsMatch p xs (blocks p) (needed_by p n)) e
    (styled_matches match cuts returns p n (lean_style n p) is needs (styles.lean p n) (styled_stands law (lean_style n p) p is (lean_law n p is) (subst CodeFits (sym e) fits)))

-- and it means the same as the program: by its blocks, or, where nothing is said of needs, by its instructions
pub text_same : MatchesIsSame → ((p : Program) → IsProgram p → CodeFits (plain p) → IsMatch p (plain p) (ones p) (all_kept p)) → ((mode : Mode) (p : Program) (n : Needs) (lines : List Line86) → IsProgram p → AreAllNeeds p n → IsText mode p lines → CodeFits lines → IsMatch p lines (blocks p) (needed_by p n)) → (mode : Mode) (p : Program) (lines : List Line86) → IsProgram p → IsText mode p lines → CodeFits lines → Same p (image_of lines)
text_same law alone match Plain p lines is t fits = subst (λ xs. Same p (image_of xs)) (sym t) (law p (plain p) (ones p) (all_kept p) (alone p is (subst CodeFits t fits)))
text_same law alone match Lean p lines is t fits = law p lines (blocks p) (needed_by p t.0) (match Lean p t.0 lines is t.1 t fits)
