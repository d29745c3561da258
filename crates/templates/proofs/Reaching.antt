-- The jumps that are short by the places of the long text are those of the lean text.
use Rattle.std.proofs.Common.{◌≡◌, List, refl, ap, subst, ◌∙◌}
use Rattle.i80.specs.declared.Goal.{Goal}
use Rattle.i80.specs.declared.Goal.TheVariants.{At as AtGoal, Boot, Bdos}
use Rattle.i80.specs.declared.Instr80.{Instr80}
use Rattle.i80.specs.declared.Instr80.TheVariants.{Jif}
use Rattle.asm86_line_types.specs.declared.line.Label.TheVariants.{Skip}
use Rattle.asm86_line_types.specs.declared.line.Stmt86.{Stmt86}
use Rattle.asm86_line_types.specs.declared.line.Line86.{Line86}
use Rattle.asm86_line_types.specs.Layout.{place_of}
use Rattle.asm86_line_types.specs.Image.{statements}
use Rattle.asm80_types.specs.declared.program.Placed.{Placed}
use Rattle.asm80_types.specs.Program.{Program}
use Rattle.flow.specs.Solving.{Needs}
use Rattle.templates.specs.Template.{label_of_goal}
use Rattle.templates.proofs.NumberedLines.{statements-numbered}
use Rattle.templates.specs.Style.{Style, styled_statements, styled}
use Rattle.templates.specs.Lean.{long_style, lean_style, lean, may_be_short, reaches_in}
use Rattle.templates.specs.Places.{ArePlaces, target_in, reaches_by}
use Rattle.templates.specs.Jumps.{style_by}
use Rattle.templates.specs.declared.places.Places.{Places}
use Rattle.templates.specs.declared.places.Jumps.TheVariants.{Long, Reaching}

same_target : (t : Places) (xs : List Stmt86) (goal : Goal) → ArePlaces t 0 xs → target_in t goal ≡ place_of xs (label_of_goal goal)
same_target t xs (AtGoal a) h = h.lines a
same_target t xs Boot h = h.end
same_target t xs Bdos h = h.sys

same_reach : (t : Places) (xs : List Stmt86) (x : Placed) (i : Instr80) → ArePlaces t 0 xs → reaches_by t x i ≡ reaches_in xs x i
same_reach t xs x (Jif on goal) h =
    ap (λ end. may_be_short end (target_in t goal)) (h.skips x.at)
    ∙ ap (may_be_short (place_of xs (Skip x.at))) (same_target t xs goal h)
same_reach t xs x i h = refl

-- the text by the places of the long one is the lean one
pub lean_by_long : (p : Program) (n : Needs) (t : Places) (long : List Line86) → long ≡ styled (style_by n Long) p → ArePlaces t 0 (statements long) → styled (style_by n (Reaching t)) p ≡ lean n p
lean_by_long p n t long e h =
    let xs = styled_statements (long_style n) p in
    let places : ArePlaces t 0 xs = subst (ArePlaces t 0) (ap statements e ∙ statements-numbered 1 xs) h in
    let same : style_by n (Reaching t) ≡ lean_style n p = λ i. record (long_style n) { shortens = λ (x : Placed). same_reach t xs x x.instr places i } in
    ap (λ (s : Style). styled s p) same
