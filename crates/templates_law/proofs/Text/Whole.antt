-- The whole text of a program in any style: it keeps each rule but the size of the code, and assembles where that fits and the jumps
-- that are shortened reach.
use Rattle.std.proofs.Common.{◌≡◌, ℕ, ◌+◌, ◌-◌, ◌≤◌, ◌<◌, List, [], ◌∷◌, ◌++◌, Some, refl, sym, ap, ◌∙◌, subst, arith, true, false, cond, Bool, ◌==◌}
use Rattle.std.specs.Prelude.{is_some, unwrap_or}
use Rattle.std.proofs.lemmas.Bool.Decides.{nat_tests}
use Rattle.std.proofs.lemmas.Bool.{false≢true, eqb-true}
use Rattle.i80.specs.declared.Goal.{Goal}
use Rattle.i80.specs.declared.Goal.TheVariants.{At, Boot, Bdos}
use Rattle.asm86_line_types.specs.declared.line.Label.{Label}
use Rattle.asm86_line_types.specs.declared.line.Label.TheVariants.{At as Line, Skip, User, Sys, End}
use Rattle.asm86_line_types.specs.declared.line.Value16.TheVariants.{Offset}
use Rattle.asm86_line_types.specs.declared.line.Stmt86.{Stmt86}
use Rattle.asm86_line_types.specs.declared.line.Stmt86.TheVariants.{Cseg, Dseg, Org, Rb, Db, Dw, Mark, EndText}
use Rattle.asm86_line_types.specs.Layout.{sizes_of, marks, offset_of, place_of}
use Rattle.asm86_line_types.specs.Order.{at_start, in_order}
use Rattle.asm86_line_types.specs.Image.{statements, used_in, count_marks, IsDefinedOnce, AllDefined, UsesDefined, jump_reaches, short_reaches, AllReach, Assembles}
use Rattle.asm86_line_types.proofs.Sizes.{count_marks-append}
use Rattle.asm86_line_types.proofs.Statements.{Each, MarksNot, offset_past}
use Rattle.asm86_line_reader.specs.ReadBack.{label_fits, has_line}
use Rattle.asm80_types.specs.declared.program.Placed.{Placed}
use Rattle.asm80_types.specs.Program.{Program, placed_in, AreLaid, IsProgram}
use Rattle.asm80_types.proofs.Lookup.{length80-positive}
use Rattle.flow.specs.Blocks.{cut_from, IsLeader, BlocksCut}
use Rattle.flow.proofs.Cuts.{flat-cut}
use Rattle.templates.specs.Template.{label_of_goal}
use Rattle.templates.specs.Plain.{prologue, runtime, data_from, ending}
use Rattle.templates.specs.Style.{Style, blocks_of, styled_statements, styled}
use Rattle.asm86.specs.declared.fault.ImageFault.TheVariants.{CodeTooLarge}
use Rattle.asm86.specs.Refusals.{ImageRefused}
use Rattle.simulation_def.specs.Runtime.{HasRuntime}
use Rattle.simulation_def.specs.Matches.{HasOpening}
use Rattle.templates_law.specs.Text.Fits.{StyleFits}
use Rattle.templates_law.specs.Text.Reach.{JumpsReach}
use Rattle.templates.proofs.NumberedLines.{statements-numbered}
use Rattle.templates_law.proofs.Text.Statements.{each-append, HaveLines, stands_behind}
use Rattle.templates_law.proofs.Text.Shapes.{word_fits, byte_fits}
use Rattle.templates_law.proofs.Text.Body.{AreKnown, IsBody, blocks_body}
use Rattle.templates_law.proofs.Text.Leading.{Leads, program_known}
use Rattle.templates_law.proofs.Text.Placing.{leader_stands, blocks_open, start_above, start_below, line_of, skip_of, none_counted, line_once, skip_once, body_marks_not, body_once}
use Rattle.templates_law.proofs.Text.Data.{data_each, data_order}
use Rattle.templates_law.proofs.Text.Programs.{top_high, Begins, program_data}
use Rattle.templates_law.proofs.Text.Assembling.{body_order, body_lines, body_uses, body_reaches, reach-append, reach_each, uses_each}

-- the data and what ends them
abbrev pub data_of : Program → List Stmt86
data_of p = data_from 0 p.cells ++ ending p.top

-- what comes after the instructions
abbrev pub tail_of : Program → List Stmt86
tail_of p = runtime ++ (Dseg ∷ data_of p)

-- the statements of the instructions
abbrev pub body_of : Style → Program → List Stmt86
body_of s p = blocks_of s (cut_from p 0 p.instrs)

module _ (s : Style) (p : Program) (is : IsProgram p) (cut : BlocksCut p) where
  abbrev limit : ℕ
  limit = p.top - 2

  high : p.top ≤ 0xFF00
  high = top_high p.top is.top

  abbrev stmts : List Stmt86
  stmts = styled_statements s p

  abbrev blocks : List (List Placed)
  blocks = cut_from p 0 p.instrs

  pub is_body : IsBody (Leads p) p.instrs (body_of s p)
  is_body =
      let e = flat-cut p 0 p.instrs in
      subst (λ xs. IsBody (Leads p) xs (body_of s p)) e (blocks_body (Leads p) s blocks (subst (AreKnown (Leads p)) (sym e) (program_known p is cut)))

  -- ---- labels

  no_label : (l : Label) → ((a : ℕ) → marks l (Mark (Line a)) ≡ false) → ((a : ℕ) → marks l (Mark (Skip a)) ≡ false) → MarksNot l (body_of s p)
  no_label l line skip = body_marks_not (Leads p) l line skip p.instrs (body_of s p) is_body

  sys_at : offset_of stmts Sys ≡ Some (17 + sizes_of (body_of s p))
  sys_at = offset_past 17 Sys (body_of s p) (tail_of p) (no_label Sys (λ a. refl) (λ a. refl))

  end_at : offset_of stmts End ≡ Some (17 + sizes_of (body_of s p) + 11)
  end_at =
      offset_past 17 End (body_of s p) (tail_of p) (no_label End (λ a. refl) (λ a. refl))
      ∙ (let e : 17 + sizes_of (body_of s p) + 0 + 2 + 2 + 2 + 2 + 2 + 1 ≡ 17 + sizes_of (body_of s p) + 11 = omega arith in ap Some e)

  leader_defined : (a : ℕ) → IsLeader p a → is_some (offset_of stmts (Line a)) ≡ true
  leader_defined a h =
      let b = cut.has_block a h in
      leader_stands s blocks b.1.0 a b.0 b.1.1 b.1.2 (cut.sizes a b.0 b.1).0 (tail_of p) 17

  pub defined : (g : Goal) → Leads p g → is_some (offset_of stmts (label_of_goal g)) ≡ true
  defined (At a) h = leader_defined a h.0
  defined Boot h = ap is_some end_at
  defined Bdos h = ap is_some sys_at

  fits : (g : Goal) → Leads p g → label_fits (label_of_goal g) ≡ true
  fits (At a) h = let lt = start_below p.instrs 0x100 limit a is.instrs h.1 in let le = high in word_fits a (omega (arith, lt, le))
  fits Boot h = refl
  fits Bdos h = refl

  -- ---- data

  -- what holds of all data statements and of the end
  pub data_all : (P : Stmt86 → Type 0) → ((a : ℕ) → a < 0x10000 → P (Org a)) → ((n : ℕ) → n < 0x100 → P (Db n)) → ((q : ℕ) → Begins p q → P (Dw (Offset (Line q)))) → P (Rb 1) → P EndText → Each P (data_of p)
  data_all P org db dw rb end =
      let le = high in
      each-append P (data_from 0 p.cells) (ending p.top)
      (data_each P (Begins p) limit (λ a lt. org a (omega (arith, lt, le))) db dw 0x100 p.cells (program_data p is cut) 0)
      (org (p.top - 1) (omega (arith, le)), (rb, (end, tt)))

  data_marks_not : (l : Label) → MarksNot l (data_of p)
  data_marks_not l = data_all (λ x. marks l x ≡ false) (λ a lt. refl) (λ n lt. refl) (λ q h. refl) refl refl

  -- ---- how often a label stands

  count_parts : (l : Label) → count_marks l stmts ≡ count_marks l (body_of s p) + count_marks l runtime
  count_parts l =
      let e = count_marks-append l (body_of s p) (tail_of p) in
      let t = count_marks-append l runtime (Dseg ∷ data_of p) in
      let z = none_counted l (data_of p) (data_marks_not l) in
      omega (arith, e, t, z)

  pub once : IsDefinedOnce stmts
  once (Line a) = let e = count_parts (Line a) in let le = body_once (Leads p) (Line a) a (line_of a) (line_once (Leads p) a) p.instrs (body_of s p) is_body 0x100 limit is.instrs in omega (arith, e, le)
  once (Skip a) = let e = count_parts (Skip a) in let le = body_once (Leads p) (Skip a) a (skip_of a) (skip_once (Leads p) a) p.instrs (body_of s p) is_body 0x100 limit is.instrs in omega (arith, e, le)
  once (User a) = let e = count_parts (User a) in let z = none_counted (User a) (body_of s p) (no_label (User a) (λ b. refl) (λ b. refl)) in omega (arith, e, z)
  once Sys = let e = count_parts Sys in let z = none_counted Sys (body_of s p) (no_label Sys (λ b. refl) (λ b. refl)) in omega (arith, e, z)
  once End = let e = count_parts End in let z = none_counted End (body_of s p) (no_label End (λ b. refl) (λ b. refl)) in omega (arith, e, z)

  -- ---- labels that are used

  data_uses : Each (λ x. AllDefined stmts (used_in x)) (data_of p)
  data_uses = data_all (λ x. AllDefined stmts (used_in x)) (λ a lt. tt) (λ n lt. tt) (λ q h. (leader_defined q h.0, tt)) tt tt

  body_used : Each (λ x. AllDefined stmts (used_in x)) (body_of s p)
  body_used = body_uses (Leads p) stmts defined p.instrs (body_of s p) (tail_of p) is_body (λ l stands. stands_behind l (body_of s p ++ tail_of p) stands (Cseg ∷ prologue p.top) 0)

  tail_uses : Each (λ x. AllDefined stmts (used_in x)) (tail_of p)
  tail_uses = (tt, (tt, ((defined Boot tt, tt), (tt, (tt, (tt, (tt, (tt, (tt, (tt, (tt, (tt, data_uses))))))))))))

  all_uses : UsesDefined stmts stmts
  all_uses =
      let rest = uses_each stmts (body_of s p ++ tail_of p) (each-append (λ x. AllDefined stmts (used_in x)) (body_of s p) (tail_of p) body_used tail_uses) in
      (tt, (tt, (tt, (tt, (tt, (tt, ((defined Boot tt, tt), (tt, rest))))))))

  -- ---- short jumps

  abbrev at_sys : ℕ
  at_sys = 17 + sizes_of (body_of s p)

  jz_reaches : (n e : ℕ) → e ≡ n + 11 → jump_reaches (n + 0 + 2 + 2) e ≡ true
  jz_reaches n e h = grind (arith, nat_tests)

  data_reaches : (at : ℕ) → AllReach (place_of stmts) at (data_of p)
  data_reaches = reach_each (place_of stmts) (data_of p) (data_all (λ x. (at : ℕ) → short_reaches (place_of stmts) at x ≡ true) (λ a lt at. refl) (λ n lt at. refl) (λ q h at. refl) (λ at. refl) (λ at. refl))

  tail_reaches : AllReach (place_of stmts) at_sys (tail_of p)
  tail_reaches = (refl, (refl, (jz_reaches at_sys (place_of stmts End) (ap (λ o. unwrap_or o 0) end_at), (refl, (refl, (refl, (refl, (refl, (refl, (refl, (refl, (refl, data_reaches _))))))))))))

  all_reach : JumpsReach s p → AllReach (place_of stmts) 0 stmts
  all_reach jumps =
      let rest =
      reach-append (place_of stmts) 17 (body_of s p) (tail_of p)
      (body_reaches (Leads p) (place_of stmts) p.instrs (body_of s p) (tail_of p) is_body 17 0x100 limit is.instrs (λ a le. refl) jumps)
      tail_reaches in
      (refl, (refl, (refl, (refl, (refl, (refl, (refl, (refl, rest))))))))

  -- ---- the text

  pub same : stmts ≡ statements (styled s p)
  same = sym (statements-numbered 1 stmts)

  pub text_in_order : in_order at_start (statements (styled s p)) ≡ true
  text_in_order =
      let le = high in
      ap (in_order at_start) (sym same)
      ∙ body_order (Leads p) p.instrs (body_of s p) is_body (tail_of p)
      ∙ data_order (Begins p) limit p.top (omega (arith, le)) 0x100 p.cells (program_data p is cut) (omega arith) 0 [] tt

  text_once : IsDefinedOnce (statements (styled s p))
  text_once = subst IsDefinedOnce same once

  text_uses : UsesDefined (statements (styled s p)) (statements (styled s p))
  text_uses = subst (λ xs. UsesDefined xs xs) same all_uses

  pub text_assembles : JumpsReach s p → StyleFits s p → Assembles (styled s p)
  text_assembles jumps small = record {
    order = text_in_order;
    once = text_once;
    defined = text_uses;
    small = subst (λ xs. sizes_of xs < 0x10000) same small;
    short = subst (λ xs. AllReach (place_of xs) 0 xs) same (all_reach jumps);
  }

  pub assembled_fits : Assembles (styled s p) → StyleFits s p
  assembled_fits h = subst (λ xs. sizes_of xs < 0x10000) (sym same) h.small

  pub text_too_large : 0x10000 ≤ sizes_of stmts → ImageRefused (styled s p) (CodeTooLarge (sizes_of stmts))
  text_too_large le = (text_once, text_uses, le, ap sizes_of same)

  -- ---- written lines

  data_lines : HaveLines (data_of p)
  data_lines = data_all (λ x. has_line x ≡ true) (λ a lt. word_fits a lt) (λ n lt. byte_fits n lt) (λ q h. fits (At q) h) refl refl

  code_lines : HaveLines (body_of s p)
  code_lines = let le = high in body_lines (Leads p) fits p.instrs (body_of s p) is_body 0x100 limit (omega (arith, le)) is.instrs

  tail_lines : HaveLines (tail_of p)
  tail_lines = (refl, (refl, (refl, (refl, (refl, (refl, (refl, (refl, (refl, (refl, (refl, (refl, data_lines))))))))))))

  pub all_lines : HaveLines stmts
  all_lines =
      let le = high in
      (refl, (word_fits p.top (omega (arith, le)), (refl, (refl, (refl, (refl, (refl, (refl, each-append (λ x. has_line x ≡ true) (body_of s p) (tail_of p) code_lines tail_lines))))))))

-- ---- what stands round the instructions

-- the first instruction of a program, at 100H
record First (xs : List Placed) : Type 0 where
  x : Placed
  rest : List Placed
  is : xs ≡ x ∷ rest
  at : x.at ≡ 0x100

first_of : (xs : List Placed) (limit : ℕ) → AreLaid 0x100 limit xs → is_some (placed_in xs 0x100) ≡ true → First xs
first_of [] limit laid h = absurd (false≢true h)
first_of (x ∷ xs) limit laid h = by_test (x.at == 0x100) refl h
  where
    by_test : (t : Bool) → (x.at == 0x100) ≡ t → is_some (cond t (Some x) (placed_in xs 0x100)) ≡ true → First (x ∷ xs)
    by_test true e g = record { x = x; rest = xs; is = refl; at = eqb-true x.at 0x100 e }
    by_test false e g =
        let up = start_above xs _ limit 0x100 laid.3 g in
        let some = length80-positive x.instr in
        let above = laid.0 in
        absurd (omega (arith, up, some, above))

pub has_opening : (s : Style) (p : Program) → IsProgram p → HasOpening p (statements (styled s p))
has_opening s p is =
    let f = first_of p.instrs (p.top - 2) is.instrs is.first in
    let o = blocks_open s (cut_from p 0 p.instrs) f.x f.rest (flat-cut p 0 p.instrs ∙ f.is) in
    record {
      rest = o.rest ++ tail_of p;
      is = statements-numbered 1 (styled_statements s p)
          ∙ ap (λ xs. Cseg ∷ (prologue p.top ++ (xs ++ tail_of p))) o.is
          ∙ ap (λ a. Cseg ∷ (prologue p.top ++ (Mark (Line a) ∷ (o.rest ++ tail_of p)))) f.at;
    }

pub has_runtime : (s : Style) (p : Program) → HasRuntime (statements (styled s p))
has_runtime s p = record {
  before = Cseg ∷ (prologue p.top ++ body_of s p);
  after = Dseg ∷ data_of p;
  is = statements-numbered 1 (styled_statements s p);
}
