-- From what was read to why it is not checked.
use Rattle.std.proofs.Common.{◌≡◌, ◌∙◌, ℕ, ◌<◌, ⊎_elim, List, length, refl, sym, ap, subst, arith}
use Rattle.std.specs.Prelude.{Result, Ok}
use Rattle.std.specs.Global.{Vec}
use Rattle.host.specs.Host.{HostState, OnlyReads, SameFaults}
use Rattle.host.proofs.HostLemmas.{OnlyReads-trans, SameFaults-trans}
use Rattle.asm86_line_types.specs.declared.line.Line86.{Line86}
use Rattle.asm86.specs.Stream.{TextGives}
use Rattle.asm86.specs.declared.fault.ImageFault.TheVariants.{Line}
use Rattle.asm80_types.specs.Program.{Program}
use Rattle.cmd_common.specs.Sources.{SourceGives, reading_of}
use Rattle.asm80_source_def.specs.Source.{IsSource}
use Rattle.cmd_arguments.specs.Words.{Check}
use Rattle.cmd_common.specs.declared.stop.Stop.{Stop}
use Rattle.cmd_common.specs.Lines.{shown_line}
use Rattle.cmd_common.specs.Files.{IsWholeFile, input_limit, text_limit}
use Rattle.cmd_common.specs.Texts.{HasOneImage, ImageStops, stop_of_image, LinesStop, breaks, BytesGiveLines}
use Rattle.asm86.specs.Images.{unread, refused as image_refused}
use Rattle.cmd_common.proofs.Before.{whole_before}
use Rattle.cmd_check.specs.declared.inputs.Loaded.{Loaded}
use Rattle.cmd_check.specs.Loading.{AreLoaded, NotLoaded, no_program, no_lines, no_image as no_image_of}
use Rattle.cmd_check.specs.Checks.{Reads, Loads, LoadStops, Stops, no_source, no_text, refused, no_image, unloaded, unlike, out_of_memory}

module _ (c : Check) (old new : HostState) (source : Result Program Stop) (text : Result (Vec Line86) Stop) (source_bytes text_bytes : List ℕ) (reads : Reads c old new source_bytes text_bytes) (source_gives : SourceGives (reading_of c.zilog) source_bytes c.top source) (text_gives : BytesGiveLines text_bytes text) where
  is_source : (p : Program) → source ≡ Ok p → IsSource (reading_of c.zilog) source_bytes c.top p
  is_source p is = subst (SourceGives (reading_of c.zilog) source_bytes c.top) is source_gives

  -- both were loaded
  pub loads : (l : Loaded) → AreLoaded source text l → Loads c old new l.program l.text.lines.items
  loads l h =
      subst (Loads c old new l.program) (sym h.same)
      (record {
        source = source_bytes;
        text = text_bytes;
        reads = reads;
        is_source = is_source l.program h.program;
        gives = subst (BytesGiveLines text_bytes) h.gives text_gives;
        stands = subst (HasOneImage h.lines.items) h.image.made.is h.image;
      })

  -- a line of the text breaks a rule
  lines_stop : (p : Program) → IsSource (reading_of c.zilog) source_bytes c.top p → (stop : Stop) → LinesStop text_bytes stop → LoadStops c old new stop
  lines_stop p is _ (breaks {line = line} {rule = rule} h) = no_image source_bytes text_bytes p (Line line rule) reads is (unread h) refl

  -- its lines have no image
  image_stop : (p : Program) → IsSource (reading_of c.zilog) source_bytes c.top p → (lines : List Line86) → TextGives text_bytes (Ok lines) → (stop : Stop) → ImageStops lines stop → LoadStops c old new stop
  image_stop p is lines gives stop h =
      ⊎_elim
      (λ m. subst (LoadStops c old new) (sym (h.is ∙ ap stop_of_image m)) (out_of_memory reads.only))
      (λ r. no_image source_bytes text_bytes p h.fault reads is (image_refused lines gives r) h.is)
      h.refused

  -- they were not
  pub load_stop : (stop : Stop) → NotLoaded source text stop → LoadStops c old new stop
  load_stop stop (no_program is) = refused source_bytes text_bytes reads (subst (SourceGives (reading_of c.zilog) source_bytes c.top) is source_gives)
  load_stop stop (no_lines p is was) = lines_stop p (is_source p is) stop (subst (BytesGiveLines text_bytes) was text_gives)
  load_stop stop (no_image_of p lines is was h) = image_stop p (is_source p is) lines.items (subst (BytesGiveLines text_bytes) was text_gives) stop h

-- ---- no file changes

pub load_reads : (c : Check) (old new : HostState) (stop : Stop) → LoadStops c old new stop → OnlyReads old new
load_reads c old new stop (no_source only s) = only
load_reads c old new stop (no_text source w only s) = only
load_reads c old new stop (refused source text r s) = r.only
load_reads c old new stop (no_image source text p fault r is n e) = r.only
load_reads c old new _ (out_of_memory only) = only

pub stop_reads : (c : Check) (old new : HostState) (stop : Stop) → Stops c old new stop → OnlyReads old new
stop_reads c old new stop (unloaded s) = load_reads c old new stop s
stop_reads c old new stop (unlike p lines l s) = l.reads.only

-- ---- the line is not empty

pub line_some : (blocks : ℕ) → 0 < length (shown_line blocks)
line_some blocks = omega arith

-- ---- both files

pub both_read : (c : Check) (old mid new : HostState) (source text : List ℕ) → OnlyReads old mid → SameFaults old mid → IsWholeFile old c.source input_limit source → OnlyReads mid new → SameFaults mid new → IsWholeFile mid c.text text_limit text → Reads c old new source text
both_read c old mid new source text first counted file then same other = record {
  source_file = file;
  text_file = whole_before old mid first c.text text_limit text other;
  only = OnlyReads-trans first then;
  counted = SameFaults-trans counted same;
}
