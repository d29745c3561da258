-- What `translate` gives, by its status: the causes, the files, what is said, and after status 0 the headline.
use Rattle.std.specs.Prelude.{◌≡◌, ◌≢◌, ℕ, ◌⊎◌, ◌↔◌, Bool, true, false, List, codes, length}
use Rattle.host.specs.declared.HostFault.TheVariants.{Failed, Memory}
use Rattle.host.specs.Host.{HostState, Says, SameFaults, ReadFailed, WriteFailed, MemoryWanted}
use Rattle.asm86_line_types.specs.declared.line.Line86.{Line86}
use Rattle.asm86_line_types.specs.Image.{Image}
use Rattle.asm80_types.specs.Program.{Program}
use Rattle.asm80_source_def.specs.Source.{IsSource, SourceRule, IsNoSource}
use Rattle.host_files.specs.Transfer.{IsLonger, CutsLine}
use Rattle.commented_text.specs.Commented.{kept_of, IsWrittenText}
use Rattle.commented_text.specs.Reading.{ReadsAs}
use Rattle.cmd_arguments.specs.Words.{Translate}
use Rattle.i86.specs.Decode.{HasReader}
use Rattle.templates.specs.declared.translation.Mode.{Mode}
use Rattle.templates.specs.declared.translation.Mode.TheVariants.{Plain, Lean}
use Rattle.templates.specs.Translation.{IsText, code_size, CodeFits, IsTooLarge}
pub use Rattle.templates_law.specs.Names.{Same}
use Rattle.cmd_common.specs.Lines.{named_line, count_line, memory_line, translated_line}
use Rattle.cmd_common.specs.Said.{SaysLine}
use Rattle.cmd_common.specs.Files.{IsWholeFile, NoneFailed, FileIsTold, input_limit}
use Rattle.cmd_common.specs.Sources.{refusal_line, reading_of}
use Rattle.asm86.specs.Images.{HasImage}
use Rattle.cmd_common.specs.Writing.{Writes, WritesPart, SaysOfWrite, EndsWith}

-- the mode that the words ask for
abbrev pub mode_of : Bool → Mode
mode_of true = Plain
mode_of false = Lean

-- the line of status 0: the program's instructions and data cells, and the bytes of its text's code
abbrev pub line_of_text : Program → List Line86 → List ℕ
line_of_text p lines = translated_line (length p.instrs) (length p.cells) (code_size lines)

-- the line of status 13: so many bytes are too many
abbrev pub size_line : ℕ → List ℕ
size_line size = count_line (codes "code too large: ") size (codes " bytes")

module _ (c : Translate) (old : HostState) where
  -- the source's file has this program, these lines are its text in the mode that is asked for, whose code fits, and this is what is
  -- written for them
  pub record Accepts (p : Program) (lines : List Line86) : Type 0 where
    pub bytes : List ℕ
    pub file : IsWholeFile old c.input input_limit bytes
    pub source : IsSource (reading_of c.zilog) bytes c.top p
    pub text : IsText (mode_of c.plain) p lines
    pub fits : CodeFits lines
    pub out : List ℕ
    pub written : IsWrittenText (kept_of c.comments bytes) p lines out

  -- the source's file is refused at a line for a rule
  pub record Refuses (line : ℕ) (rule : SourceRule) : Type 0 where
    pub bytes : List ℕ
    pub file : IsWholeFile old c.input input_limit bytes
    pub refused : IsNoSource (reading_of c.zilog) bytes c.top line rule

  -- the source's file has a program whose code is too large
  pub record Exceeds (size : ℕ) : Type 0 where
    pub program : Program
    pub bytes : List ℕ
    pub file : IsWholeFile old c.input input_limit bytes
    pub source : IsSource (reading_of c.zilog) bytes c.top program
    pub large : IsTooLarge (mode_of c.plain) program size

  module _ (new : HostState) where
    -- the headline: what was written is read as the statements of the text; it has an image, whose code is read in one way, and source
    -- and image make the same system calls
    pub record HasSame (p : Program) (lines : List Line86) (out : List ℕ) : Type 0 where
      pub reads : ReadsAs lines out
      pub image : Image
      pub has_image : HasImage out image
      pub reader : HasReader image.code
      pub same : Same p image

    -- each way to a status
    pub data TranslateGives : ℕ → Type 0 where
      -- the text is written, and its line said, and no call failed
      translated : (p : Program) (lines : List Line86) → (a : Accepts p lines) → Writes c.output a.out old new → HasSame p lines a.out → Says old new (line_of_text p lines) → SameFaults old new → TranslateGives 0
      -- the source is refused
      refused : (line : ℕ) (rule : SourceRule) → Refuses line rule → EndsWith old new (refusal_line line rule) → TranslateGives 1
      -- the source's file was not read
      unread : ReadFailed old new c.input → EndsWith old new (named_line (codes "read failed: ") c.input) → TranslateGives 3
      -- the text was not written, or its line not said
      unwritten : (p : Program) (lines : List Line86) → (a : Accepts p lines) → WritesPart c.output a.out old new → SaysOfWrite old new Failed (codes "write failed\n") → TranslateGives 4
      unsaid : (p : Program) (lines : List Line86) → (a : Accepts p lines) → Writes c.output a.out old new → WriteFailed old new → CutsLine (line_of_text p lines) old new → TranslateGives 4
      -- memory ran out: before the text is written, while the host writes it, or while the host says its line
      no_memory : EndsWith old new memory_line → TranslateGives 5
      no_memory_to_write : (p : Program) (lines : List Line86) → (a : Accepts p lines) → WritesPart c.output a.out old new → SaysOfWrite old new Memory memory_line → TranslateGives 5
      no_memory_to_say : (p : Program) (lines : List Line86) → (a : Accepts p lines) → Writes c.output a.out old new → MemoryWanted old new → CutsLine (line_of_text p lines) old new → TranslateGives 5
      -- the code is too large
      too_large : (size : ℕ) → Exceeds size → EndsWith old new (size_line size) → TranslateGives 13
      -- the source's file is longer than its limit
      too_long : IsLonger (old.file c.input) input_limit → EndsWith old new (named_line (codes "file too long: ") c.input) → TranslateGives 14

    -- what the status of a source is, want of memory aside: 0 exactly where it is that of a program whose code fits; 13 with the size
    -- where the code does not; and else 1 with the line and the rule at which it is refused. Only a want of memory of the host's cuts
    -- such a line off
    pub record Decides (bytes : List ℕ) (status : ℕ) : Type 0 where
      pub three : (status ≡ 0) ⊎ ((status ≡ 1) ⊎ (status ≡ 13))
      pub accepted : (status ≡ 0) ↔ ((p : Program) × (lines : List Line86) × IsSource (reading_of c.zilog) bytes c.top p × IsText (mode_of c.plain) p lines × CodeFits lines)
      pub refused : (line : ℕ) (rule : SourceRule) → IsNoSource (reading_of c.zilog) bytes c.top line rule → (status ≡ 1) × SaysLine old new (refusal_line line rule)
      pub too_large : (p : Program) (size : ℕ) → IsSource (reading_of c.zilog) bytes c.top p → IsTooLarge (mode_of c.plain) p size → (status ≡ 13) × SaysLine old new (size_line size)

    -- so it is where no call failed and the host tells a source within its limit
    abbrev pub Completes : ℕ → Type 0
    Completes status =
        NoneFailed old new → (bytes : List ℕ) → FileIsTold old c.input input_limit bytes → status ≢ 5 → Decides bytes status
