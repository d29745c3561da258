use Rattle.std.proofs.Common.{◌≡◌, ℕ, map, List, Option, Some, None, Result, Err, refl, sym, ◌∙◌}
use Rattle.asm80_types.specs.Tree.{Statement, statement_of}
use Rattle.asm80_types.specs.declared.program.Program80.{Program80}
use Rattle.asm80_first_walk.specs.declared.walked.AsmFault.{AsmFault}
use Rattle.asm80_first_walk.specs.declared.walked.AsmFault.TheVariants.{Refused}
use Rattle.asm80_source_def.specs.declared.rule.AsmRule.{AsmRule}
use Rattle.asm80_source_def.specs.Walk.{rows, walked}
use Rattle.asm80_source_def.specs.FirstFaults.{Refusal}
use Rattle.asm80_source_def.specs.Layout.{layout_fault}
use Rattle.asm80_values.specs.Second.{AreFound}
use Rattle.asm80_values.proofs.Sound.{are_sound}
use Rattle.asm80_values.proofs.Held.{lawful, held}
use Rattle.asm80_values.proofs.assembly.laid_out.Goals as goal

same_fault : (r : Result Program80 AsmFault) (a b : ℕ) (x y : AsmRule) → r ≡ Err (Refused a x) → r ≡ Err (Refused b y) → ◌≡◌ {A = Option Refusal} (Some (a, x)) (Some (b, y))
same_fault r a b x y d e = cc

pub program_of_items-requires : goal.program_of_items-requires
program_of_items-requires c =
    let ss : List Statement = map statement_of c.requires.found.0 in
    let found : AreFound c.requires.found.0 c.args.items.items c.args.starts.now = c.requires.found.1 in
    let none : layout_fault (rows ss) (walked ss) c.args.top ≡ None = sym (c.in_ok-line.ensures (rows ss) (walked ss) (rw c.deref.ensures.value found.are_items.1) found.are_starts) ∙ c.in_default.is in
    lawful (rows ss) (walked ss) c.args.items.items c.args.top c.requires.top c.ranges.top.fits found.are_items.1 none (are_sound (rows ss) (walked ss) c.args.items.items found.are_items.1)

pub returns : goal.returns
returns c = record {
  assembled = λ statements found.
      let ss : List Statement = map statement_of statements in
      let none : layout_fault (rows ss) (walked ss) c.args.top ≡ None = sym (c.in_ok-line.ensures (rows ss) (walked ss) (rw c.deref.ensures.value found.are_items.1) found.are_starts) ∙ c.in_default.is in
      record {
        accepted = rw (found.accepted, found.are_items.0, none) refl;
        program = held (rows ss) (walked ss) c.args.items.items c.args.top c.in_ok-program_of_items.field-0 found.are_items.1
            c.in_ok-program_of_items.ensures.program c.in_ok-program_of_items.ensures.top c.in_ok-program_of_items.ensures.instrs c.in_ok-program_of_items.ensures.cells;
      };
  refused = λ statements found line rule e. absurd cc;
}

pub returns-in-Some : goal.returns-in-Some
returns-in-Some c = record {
  assembled = λ statements found. tt;
  refused = λ statements found line rule e.
      let ss : List Statement = map statement_of statements in
      rw (found.accepted, found.are_items.0) (sym (c.in_ok-line.ensures (rows ss) (walked ss) (rw c.deref.ensures.value found.are_items.1) found.are_starts) ∙ c.in-Some.is ∙ same_fault _ c.in-Some.line line c.in-Some.rule rule refl e);
}
