-- From the steps of the work to what it has written, or why it stops.
use Rattle.std.proofs.Common.{◌∙◌, ℕ, List, sym, subst}
use Rattle.host.specs.Host.{HostState}
use Rattle.host.proofs.HostLemmas.{SameFaults-trans}
use Rattle.asm86_line_types.specs.declared.line.Line86.{Line86}
use Rattle.asm86_line_types.specs.Written.{written_text}
use Rattle.asm80_types.specs.Program.{Program}
use Rattle.cmd_arguments.specs.Words.{Shrink}
use Rattle.cmd_common.specs.declared.stop.Stop.{Stop}
use Rattle.cmd_common.proofs.WriteEnds.{writes_behind, fails_behind, wrote}
use Rattle.cmd_check.specs.Checks.{Loads}
use Rattle.cmd_shrink.specs.Shrinks.{check_of_text, WritesLeft, LosesLeft, nothing_left, left_unwritten, HasShrunk, Stops, unshrunk, unwritten}

module _ (c : Shrink) (old mid new : HostState) (p : Program) (lines : List Line86) (loads : Loads (check_of_text c) old mid p lines) where
  -- nothing is left, or it was not written
  pub lost : (stop : Stop) → LosesLeft p lines c.output mid new stop → Stops c old new stop
  lost stop (nothing_left same s) = unshrunk p lines (subst (λ h. Loads (check_of_text c) old h p lines) (sym same) loads) s
  lost stop (left_unwritten left is w) =
      unwritten mid p lines left loads is
      (record { fault = w.fault; is = w.is; fails = fails_behind old mid new c.output (written_text left) w.fault loads.reads.only w.fails })

  -- what is left was written
  pub has_shrunk : (line : List ℕ) → WritesLeft p lines c.output mid new line → HasShrunk c old new line
  has_shrunk line w = record {
    read = mid;
    program = p;
    lines = lines;
    left = w.left;
    loads = loads;
    is_left = w.is;
    writes = writes_behind old mid new c.output (written_text w.left) loads.reads.only (wrote c.output (written_text w.left) mid new w.only w.written);
    quiet = w.only.said ∙ loads.reads.only.said;
    counted = SameFaults-trans loads.reads.counted w.counted;
    line_is = w.line_is;
  }
