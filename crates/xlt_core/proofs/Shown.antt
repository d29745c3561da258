-- What is shown matches, and so means the same; and the one thing that is found of a match is that it is shown.
use Rattle.std.proofs.Common.{◌≡◌, ℕ, List, length, Some, None, refl, sym, ap, subst}
use Rattle.cells.specs.declared.Cell.{Cell}
use Rattle.asm86_line_types.specs.declared.line.Stmt86.{Stmt86}
use Rattle.asm86_line_types.specs.declared.line.Line86.{Line86}
use Rattle.asm86_line_types.specs.Layout.{place_of, code_of}
use Rattle.asm86_line_types.specs.Image.{Assembles, Image, image_of, statements, offset_in, by_address, cells_from, labels_from}
use Rattle.asm80_types.specs.Program.{Program, IsProgram, cell_at}
use Rattle.flow.specs.Blocks.{blocks}
use Rattle.flow.specs.Solving.{Needs, AreAllNeeds}
use Rattle.sym_block_def.specs.BlockMatch.{Keeps}
use Rattle.sym_block_def.specs.Sorts.{StatementsAreCoded}
use Rattle.sym_block_def.specs.Stands.{Stands}
use Rattle.simulation_def.specs.Runtime.{HasRuntime}
use Rattle.simulation_def.specs.Linked.{places}
use Rattle.simulation_def.specs.Matches.{HasOpening, byte_at, blocks_reason, Matches, DataAreCoded, Finds, blocks as by_blocks}
use Rattle.simulation_def.specs.Needed.{needed_by}
use Rattle.templates_law.specs.Names.{Same, IsMatch}
use Rattle.text_check.specs.declared.finding.Finding.{Finding}
use Rattle.text_check.specs.declared.finding.Finding.TheVariants.{Shown}
use Rattle.text_check.specs.Findings.{IsFinding, OneFinding}
use Rattle.text_check.proofs.Matching.{matched}
use Rattle.xlt_core.specs.Validation.{ShownIsSame}

pub shown_same : ((p : Program) (n : Needs) (lines : List Line86) → IsProgram p → AreAllNeeds p n → Assembles lines → StatementsAreCoded (statements lines) → DataAreCoded (statements lines) → Matches p lines (blocks p) (needed_by p n) → Same p (image_of lines)) → ShownIsSame
shown_same same p lines count is assembles coded data_coded f =
    same p f.needs lines is f.are assembles coded data_coded (matched p lines (blocks p) (needed_by p f.needs) None f.finds refl)

-- ---- lines with the same statements

abbrev image_by : List Stmt86 → Image
image_by xs = record { code = code_of xs; cells = by_address (cells_from (place_of xs) 0 xs); labels = labels_from 0 xs }

abbrev DataStandIn : Program → Image → Type 0
DataStandIn p image = (a : ℕ) (c : Cell) → cell_at p a ≡ Some c → (b : ℕ) × (byte_at image.cells a ≡ Some b) × Stands (places (offset_in image.labels)) c b

same_matches : (p : Program) (cut : List (ℕ × ℕ)) (keeps : Keeps) (lines others : List Line86) → statements lines ≡ statements others → Matches p lines cut keeps → Matches p others cut keeps
same_matches p cut keeps lines others same m = record {
  opening = subst (HasOpening p) same m.opening;
  runtime = subst HasRuntime same m.runtime;
  cells = subst (DataStandIn p) (ap image_by same) m.cells;
  blocks = subst (λ xs. blocks_reason p xs keeps cut ≡ None) same m.blocks;
}

-- ---- what is found of them

pub only_shown : OneFinding → (p : Program) (n : Needs) (lines others : List Line86) (finding : Finding) → AreAllNeeds p n → IsMatch p lines (blocks p) (needed_by p n) → statements others ≡ statements lines → IsFinding p others finding → finding ≡ Shown (length (blocks p))
only_shown one p n lines others finding needs m same is =
    let o = same_matches p (blocks p) (needed_by p n) lines others (sym same) m.matches in
    one p others finding (Shown (length (blocks p))) is
    (record {
      needs = n;
      are = needs;
      finds = subst (Finds p others (blocks p) (needed_by p n)) o.blocks (by_blocks o.opening o.runtime o.cells);
      counts = refl;
    })
