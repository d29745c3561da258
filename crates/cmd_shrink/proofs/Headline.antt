-- What stands after status 0.
use Rattle.std.proofs.Common.{◌≡◌, ℕ, ◌+◌, List, [], ◌∷◌, length, refl, arith}
use Rattle.std.proofs.lemmas.List.{length-append}
use Rattle.host.specs.Host.{HostState}
use Rattle.asm86_line_types.specs.declared.line.Label.{Label}
use Rattle.asm86_line_types.specs.declared.line.Stmt86.{Stmt86}
use Rattle.asm86_line_types.specs.declared.line.Line86.{Line86}
use Rattle.asm86_line_types.specs.Layout.{size_of, sizes_of, bytes_at, code_from, place_of}
use Rattle.asm86_line_types.specs.Image.{image_of, statements}
use Rattle.asm86_line_types.specs.Written.{written_text}
use Rattle.asm86_line_types.proofs.Sizes.{length_bytes}
use Rattle.cmd_arguments.specs.Words.{Shrink}
use Rattle.cmd_common.specs.Names.{two_names}
use Rattle.cmd_common.specs.Said.{IsDone, whole, failed, no_memory}
use Rattle.cmd_common.proofs.Said.{never_0}
use Rattle.cmd_common.proofs.WriteEnds.{writes_on}
use Rattle.cmd_shrink.specs.Shrinks.{HasShrunk, ShrinkGives, shrunk, stopped, ShrunkHeadline}

-- the bytes of a code are as many as the sizes of its statements
length_code : (off : Label → ℕ) (at : ℕ) (xs : List Stmt86) → length (code_from off at xs) ≡ sizes_of xs
length_code off at [] = refl
length_code off at (x ∷ xs) =
    let e = length-append (bytes_at off at x) (code_from off (at + size_of x) xs) in
    let f = length_bytes off at x in
    let g = length_code off (at + size_of x) xs in
    omega (arith, e, f, g)

code_length : (lines : List Line86) → length (image_of lines).code ≡ sizes_of (statements lines)
code_length lines = length_code (place_of (statements lines)) 0 (statements lines)

module _ (c : Shrink) (old new : HostState) where
  done : (mid : HostState) (line : List ℕ) (status : ℕ) → HasShrunk c old mid line → IsDone line mid new status → status ≡ 0 → ShrunkHeadline c old new
  done mid line _ h (whole only s same) e =
      let less = code_length h.left in
      let more = code_length h.lines in
      let shorter = h.is_left.shorter in
      record {
        source = h.loads.source;
        program = h.program;
        text = h.loads.text;
        lines = h.lines;
        left = h.left;
        image = image_of h.left;
        source_given = h.loads.reads.source_file.0;
        is_source = h.loads.is_source;
        text_given = h.loads.reads.text_file.0;
        gives = h.loads.gives;
        is_left = h.is_left.is;
        among = h.is_left.among;
        shorter = omega (arith, less, more, shorter);
        written = (writes_on old mid new c.output (written_text h.left) only h.writes).text;
        has_image = h.is_left.has_image;
        reader = h.is_left.reader;
        same = h.is_left.same;
      }
  done mid line _ h (failed s) e = absurd (omega (arith, e))
  done mid line _ h (no_memory s) e = absurd (omega (arith, e))

  pub headline : (status : ℕ) → ShrinkGives c old new status → status ≡ 0 → ShrunkHeadline c old new
  headline status (shrunk mid line h d) e = done mid line status h d e
  headline status (stopped mid stop s k) e = absurd (never_0 (two_names c.source c.text) stop mid new status k e)
