-- From the work and the last line to what the command gives.
use Rattle.std.proofs.Common.{◌≡◌, ℕ, inl, inr, ⊎_elim, List, length, refl, sym, ap, ◌∙◌, subst, arith}
use Rattle.std.specs.Prelude.{codes, Ok, Option}
use Rattle.host.specs.declared.HostFault.TheVariants.{Failed, Memory}
use Rattle.host.specs.Host.{HostState, Holds, Missing, IsFile, HasRisen, Says, OnlyReads}
use Rattle.host.proofs.HostLemmas.{SameFaults-trans, risen_on, fault_after}
use Rattle.asm86_line_types.specs.Image.{Assembles, Image, image_of}
use Rattle.asm86.specs.Images.{HasImage}
use Rattle.commented_text.specs.Commented.{kept_of, IsWrittenText}
use Rattle.commented_text.specs.Reading.{ReadsAs}
use Rattle.asm86_line_types.specs.Written.{written_text}
use Rattle.asm86.specs.Stream.{TextGives}
use Rattle.host_files.specs.Transfer.{CutsLine}
use Rattle.asm80_types.specs.Program.{Program, IsProgram}
use Rattle.asm80_source_def.specs.Source.{IsSource, SourceRule, IsNoSource, OfLine, OfProgram}
use Rattle.asm86_line_types.specs.declared.line.Line86.{Line86}
use Rattle.cmd_arguments.specs.Words.{Translate}
use Rattle.templates.specs.declared.translation.Mode.{Mode}
use Rattle.templates.specs.Translation.{IsText, code_size, CodeFits, IsTooLarge}
use Rattle.templates_law.proofs.OneText.{OneText}
use Rattle.i86.specs.Decode.{HasReader}
use Rattle.templates_law.specs.Names.{Same}
use Rattle.cmd_common.specs.Names.{FileNames, one_name}
use Rattle.cmd_common.specs.declared.names.InputFile.TheVariants.{First}
use Rattle.cmd_common.specs.declared.stop.Stop.{Stop}
use Rattle.cmd_common.specs.declared.stop.Stop.TheVariants.{CodeTooLarge}
use Rattle.cmd_common.specs.Lines.{named_line, memory_line}
use Rattle.cmd_common.specs.Said.{SaysLine, SaysLast, IsDone, whole, failed, no_memory, Closes, said, unsaid}
use Rattle.cmd_common.proofs.Said.{line_after}
use Rattle.cmd_common.specs.Files.{ReadStops, failed as read_failed, too_long as file_too_long, no_memory as no_memory_to_read, NoneFailed, FileIsTold, input_limit}
use Rattle.cmd_common.specs.Sources.{stop_of_rule, refusal_line, reading_of, SourceLaw}
use Rattle.cmd_translate.specs.Translates.{mode_of, line_of_text, size_line, Accepts, Refuses, Exceeds, HasSame, TranslateGives, translated, refused, unread, unwritten, unsaid as line_unsaid, no_memory as no_room, no_memory_to_write, no_memory_to_say, too_large, too_long, Decides}
use Rattle.cmd_common.specs.Writing.{EndsWith, WriteStops}
use Rattle.cmd_translate.specs.TranslateWork.{Works, StopsBy, unread as stop_unread, refused as stop_refused, too_large as stop_too_large, no_memory as stop_no_memory, unwritten as stop_unwritten}
use Rattle.cmd_common.proofs.WriteEnds.{said_on, cut_on, writes_on, write_end}

-- the law of texts
pub record TextLaw : Type 0 where
  pub reads : (mode : Mode) (p : Program) (lines : List Line86) → IsProgram p → IsText mode p lines → TextGives (written_text lines) (Ok lines)
  pub assembles : (mode : Mode) (p : Program) (lines : List Line86) → IsProgram p → IsText mode p lines → CodeFits lines → Assembles lines
  pub reader : (mode : Mode) (p : Program) (lines : List Line86) → IsProgram p → IsText mode p lines → CodeFits lines → HasReader (image_of lines).code
  pub same : (mode : Mode) (p : Program) (lines : List Line86) → IsProgram p → IsText mode p lines → CodeFits lines → Same p (image_of lines)

-- the law of commented texts
pub record CommentLaw : Type 0 where
  pub reads : (kept : Option (List ℕ)) (mode : Mode) (p : Program) (lines : List Line86) (text : List ℕ) → IsText mode p lines → IsWrittenText kept p lines text → TextGives (written_text lines) (Ok lines) → ReadsAs lines text
  pub image : (kept : Option (List ℕ)) (p : Program) (lines : List Line86) (text : List ℕ) (image : Image) → IsWrittenText kept p lines text → HasImage (written_text lines) image → HasImage text image

-- code that fits is not too large
not_both : OneText → (mode : Mode) (p : Program) (lines : List Line86) (size : ℕ) → IsText mode p lines → CodeFits lines → IsTooLarge mode p size → ⊥
not_both one mode p lines size text fits large =
    let is : size ≡ code_size lines = large.is ∙ ap code_size (one mode p large.lines lines large.text text) in
    let more = large.large in
    omega (arith, is, more, fits)

module _ (c : Translate) (old mid new : HostState) where
  abbrev names : FileNames
  names = one_name c.input

  has_same : TextLaw → CommentLaw → (p : Program) (lines : List Line86) (a : Accepts c old p lines) → HasSame c old new p lines a.out
  has_same law comments p lines a = record {
    reads = comments.reads (kept_of c.comments a.bytes) (mode_of c.plain) p lines a.out a.text a.written (law.reads (mode_of c.plain) p lines a.source.program.program.lawful a.text);
    image = image_of lines;
    has_image = comments.image (kept_of c.comments a.bytes) p lines a.out (image_of lines) a.written (record {
      lines = lines;
      reads = law.reads (mode_of c.plain) p lines a.source.program.program.lawful a.text;
      assembled = record { assembles = law.assembles (mode_of c.plain) p lines a.source.program.program.lawful a.text a.fits; is = refl };
    });
    reader = law.reader (mode_of c.plain) p lines a.source.program.program.lawful a.text a.fits;
    same = law.same (mode_of c.plain) p lines a.source.program.program.lawful a.text a.fits;
  }

  -- the text was written
  pub worked : TextLaw → CommentLaw → (line : List ℕ) → Works c old mid line → (status : ℕ) → IsDone line mid new status → TranslateGives c old new status
  worked law comments line w _ (whole only s faults) =
      translated w.program w.lines w.accepts (writes_on old mid new c.output w.accepts.out only w.writes) (has_same law comments w.program w.lines w.accepts) (said_on old mid new (line_of_text w.program w.lines) w.quiet (subst (Says mid new) w.line s))
      (SameFaults-trans w.faults faults)
  worked law comments line w _ (failed s) =
      line_unsaid w.program w.lines w.accepts (writes_on old mid new c.output w.accepts.out s.only w.writes) (fault_after old mid new Failed w.faults s.cause)
      (cut_on old mid new (line_of_text w.program w.lines) w.quiet (subst (λ l. CutsLine l mid new) w.line s.cut))
  worked law comments line w _ (no_memory s) =
      no_memory_to_say w.program w.lines w.accepts (writes_on old mid new c.output w.accepts.out s.only w.writes) (fault_after old mid new Memory w.faults s.cause)
      (cut_on old mid new (line_of_text w.program w.lines) w.quiet (subst (λ l. CutsLine l mid new) w.line s.cut))

  -- a line was said behind reads
  ends_with : (line : List ℕ) → OnlyReads old mid → SaysLast line mid new → EndsWith old new line
  ends_with line only l = record { mid = mid; reads = only; says = l }

  -- the line of want of memory was said
  quiet_end : OnlyReads old mid → SaysLast memory_line mid new → TranslateGives c old new 5
  quiet_end only l = no_room (ends_with memory_line only l)

  unread_end : (stop : Stop) → ReadStops First c.input input_limit old mid stop → OnlyReads old mid → (status : ℕ) → Closes names stop mid new status → TranslateGives c old new status
  unread_end stop s only status (unsaid n e l) = subst (TranslateGives c old new) (sym e) (quiet_end only l)
  unread_end _ (read_failed f) only status (said e l) =
      subst (TranslateGives c old new) (sym e)
      (unread (⊎_elim (λ r. inl (subst (λ k. HasRisen old.read_faults k) (sym l.only.reads) r)) (λ m. inr m) f)
      (ends_with (named_line (codes "read failed: ") c.input) only l))
  unread_end _ (file_too_long longer same) only status (said e l) =
      subst (TranslateGives c old new) (sym e)
      (too_long longer (ends_with (named_line (codes "file too long: ") c.input) only l))
  unread_end _ no_memory_to_read only status (said e l) = subst (TranslateGives c old new) (sym e) (quiet_end only l)

  refused_end : (line : ℕ) (rule : SourceRule) → Refuses c old line rule → OnlyReads old mid → (status : ℕ) → Closes names (stop_of_rule line rule) mid new status → TranslateGives c old new status
  refused_end line rule r only status (unsaid n e l) = subst (TranslateGives c old new) (sym e) (quiet_end only l)
  refused_end line (OfLine rule) r only status (said e l) =
      subst (TranslateGives c old new) (sym e) (refused line (OfLine rule) r (ends_with (refusal_line line (OfLine rule)) only l))
  refused_end line (OfProgram rule) r only status (said e l) =
      subst (TranslateGives c old new) (sym e) (refused line (OfProgram rule) r (ends_with (refusal_line line (OfProgram rule)) only l))

  large_end : (size : ℕ) → Exceeds c old size → OnlyReads old mid → (status : ℕ) → Closes names (CodeTooLarge size) mid new status → TranslateGives c old new status
  large_end size x only status (unsaid n e l) = subst (TranslateGives c old new) (sym e) (quiet_end only l)
  large_end size x only status (said e l) = subst (TranslateGives c old new) (sym e) (too_large size x (ends_with (size_line size) only l))

  unwritten_end : (p : Program) (lines : List Line86) (a : Accepts c old p lines) (stop : Stop) → WriteStops c.output a.out old mid stop → (status : ℕ) → Closes names stop mid new status → TranslateGives c old new status
  unwritten_end p lines accepts stop w status closes =
      write_end old mid new c.output accepts.out names (TranslateGives c old new) (unwritten p lines accepts) (no_memory_to_write p lines accepts)
      w.fault w.fails status (subst (λ s. Closes names s mid new status) w.is closes)

  -- the work ended early
  pub stopped : (stop : Stop) → StopsBy c old mid stop → (status : ℕ) → Closes names stop mid new status → TranslateGives c old new status
  stopped stop (stop_unread s only) status closes = unread_end stop s only status closes
  stopped stop (stop_refused line rule r e only same) status closes = refused_end line rule r only status (subst (λ s. Closes names s mid new status) e closes)
  stopped stop (stop_too_large size x e only same) status closes = large_end size x only status (subst (λ s. Closes names s mid new status) e closes)
  stopped _ (stop_no_memory only) status (said e l) = subst (TranslateGives c old new) (sym e) (quiet_end only l)
  stopped _ (stop_no_memory only) status (unsaid n e l) = subst (TranslateGives c old new) (sym e) (quiet_end only l)
  stopped stop (stop_unwritten p lines accepts w) status closes = unwritten_end p lines accepts stop w status closes

module _ (c : Translate) (law : SourceLaw (reading_of c.zilog)) (one : OneText) (old new : HostState) (none : NoneFailed old new) (bytes : List ℕ) (told : FileIsTold old c.input input_limit bytes) where
  -- the source's bytes are those that the host tells
  same_bytes : (others : List ℕ) → IsFile (old.file c.input) others → others ≡ bytes
  same_bytes others f = sym (subst (λ t. IsFile t others) told.0 f)

  source_told : (p : Program) (lines : List Line86) (a : Accepts c old p lines) → IsSource (reading_of c.zilog) bytes c.top p
  source_told p lines a = subst (λ b. IsSource (reading_of c.zilog) b c.top p) (same_bytes a.bytes a.file.0) a.source

  refusal_told : (line : ℕ) (rule : SourceRule) (r : Refuses c old line rule) → IsNoSource (reading_of c.zilog) bytes c.top line rule
  refusal_told line rule r = subst (λ b. IsNoSource (reading_of c.zilog) b c.top line rule) (same_bytes r.bytes r.file.0) r.refused

  large_told : (size : ℕ) (x : Exceeds c old size) → IsSource (reading_of c.zilog) bytes c.top x.program
  large_told size x = subst (λ b. IsSource (reading_of c.zilog) b c.top x.program) (same_bytes x.bytes x.file.0) x.source

  -- the one program of the source
  one_program : (p q : Program) → IsSource (reading_of c.zilog) bytes c.top p → IsSource (reading_of c.zilog) bytes c.top q → p ≡ q
  one_program p q s t = law.program bytes c.top p q s t

  ends_said : (line : List ℕ) → EndsWith old new line → SaysLine old new line
  ends_said line e = line_after line old e.mid new e.reads e.says.line

  pub decides : (status : ℕ) → (status ≡ 5 → ⊥) → TranslateGives c old new status → Decides c old new bytes status
  decides _ ne (translated p lines a w h s f) = record {
    three = inl refl;
    accepted = (λ e. (p, lines, source_told p lines a, a.text, a.fits), λ x. refl);
    refused = λ line rule r. absurd (law.apart bytes c.top line p rule (source_told p lines a) r);
    too_large = λ q size t large. absurd (not_both one (mode_of c.plain) q lines size (subst (λ z. IsText (mode_of c.plain) z lines) (one_program p q (source_told p lines a) t) a.text) a.fits large);
  }
  decides _ ne (refused line rule r ends) = record {
    three = inr (inl refl);
    accepted = (λ e. absurd (omega arith), λ x. absurd (law.apart bytes c.top line x.0 rule x.2 (refusal_told line rule r)));
    refused = λ other kind s.
        let e = law.refusal bytes c.top line other rule kind (refusal_told line rule r) s in
        (refl, subst (λ k. SaysLine old new (refusal_line other k)) e.1 (subst (λ n. SaysLine old new (refusal_line n rule)) e.0 (ends_said (refusal_line line rule) ends)));
    too_large = λ q size t large. absurd (law.apart bytes c.top line q rule t (refusal_told line rule r));
  }
  decides _ ne (too_large size x ends) = record {
    three = inr (inr refl);
    accepted = (λ e. absurd (omega arith), λ y. absurd (not_both one (mode_of c.plain) x.program y.1 size (subst (λ z. IsText (mode_of c.plain) z y.1) (one_program y.0 x.program y.2 (large_told size x)) y.3) y.4 x.large));
    refused = λ line rule r. absurd (law.apart bytes c.top line x.program rule (large_told size x) r);
    too_large = λ q other t large.
        let same = one_program x.program q (large_told size x) t in
        let texts : x.large.lines ≡ large.lines = one (mode_of c.plain) q x.large.lines large.lines (subst (λ z. IsText (mode_of c.plain) z x.large.lines) same x.large.text) large.text in
        let sizes : size ≡ other = x.large.is ∙ ap code_size texts ∙ sym large.is in
        (refl, subst (λ n. SaysLine old new (size_line n)) sizes (ends_said (size_line size) ends));
  }
  decides _ ne (unread f ends) = absurd (⊎_elim none.reads (λ m. let there : Missing ≡ Holds bytes = sym m ∙ told.0 in cc) f)
  decides _ ne (unwritten p lines a w s) = absurd (none.writes (risen_on old.write_faults s.mid.write_faults new.write_faults s.cause s.only.writes))
  decides _ ne (line_unsaid p lines a w f s) = absurd (none.writes f)
  decides _ ne (no_room ends) = absurd (ne refl)
  decides _ ne (no_memory_to_write p lines a w s) = absurd (ne refl)
  decides _ ne (no_memory_to_say p lines a w f s) = absurd (ne refl)
  decides _ ne (too_long longer ends) = let e = ap length (same_bytes longer.0 longer.1) in let more = longer.2 in absurd (omega (arith, e, more, told.1))
