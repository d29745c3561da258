-- A text of plain lines is read as its statements.
use Rattle.std.proofs.Common.{◌≡◌, ℕ, suc, ◌+◌, ◌≤◌, List, [], ◌∷◌, ◌++◌, true, None, length, map, refl, sym, ap, ◌∙◌, arith}
use Rattle.std.specs.List.{flat_map, AllByRecursion}
use Rattle.std.proofs.lemmas.List.{append-nil}
use Rattle.base.specs.Cut.{ended, Cut, without_cr}
use Rattle.asm80_text.specs.Stream.{IsPlain, closed, LinesGive, none_left, next}
use Rattle.asm80_text.specs.Intel.{intel_reading, intel_spelling}
use Rattle.cmd_sample.specs.Written.{Written, line_text, text_of_source, statements_from, statements_of}
use Rattle.cmd_sample.specs.Sample.{sample_lines}
use Rattle.cmd_sample.specs.Laws.{SampleIsRead}
use Rattle.cmd_sample.proofs.Each.{each_by, each_map}
use Rattle.cmd_sample.proofs.Lexemes.{IsInk}
use Rattle.cmd_sample.proofs.Rows.{IsPlainLine, line_ink, uncut, line_read}
use Rattle.cmd_sample.proofs.Pieces.{sample_plain, sample_length}

ended_lines : (ws : List Written) → text_of_source ws ≡ flat_map ended (map line_text ws)
ended_lines [] = refl
ended_lines (w ∷ ws) = ap (λ (t : List ℕ). (line_text w ++ 10 ∷ []) ++ t) (ended_lines ws)

plain_bytes : (w : Written) → IsPlainLine w → AllByRecursion IsPlain (line_text w)
plain_bytes w p = each_by IsInk IsPlain (λ b i. (i.no_line_feed, i.no_end)) (line_text w) (line_ink w p)

text_cut : (ws : List Written) → AllByRecursion IsPlainLine ws → Cut IsPlain (text_of_source ws) (map line_text ws) []
text_cut ws h = record {
  whole = ended_lines ws ∙ sym (append-nil (flat_map ended (map line_text ws)));
  each = each_map IsPlainLine (AllByRecursion IsPlain) line_text plain_bytes ws h;
  last = tt;
}

lines_read : (n : ℕ) (ws : List Written) → AllByRecursion IsPlainLine ws → n + length ws ≤ 32769 → LinesGive intel_spelling n (map without_cr (map line_text ws) ++ []) (statements_from n ws) None
lines_read n [] h le = none_left
lines_read n (w ∷ ws) h le =
    rw (uncut (line_text w) (line_ink w h.0))
    (next (line_read n w (omega arith) h.0) (lines_read (suc n) ws h.1 (omega arith)))

text_read : (ws : List Written) → AllByRecursion IsPlainLine ws → length ws ≤ 32768 → intel_reading (text_of_source ws) (statements_of ws) None
text_read ws h le = record {
  raw = map line_text ws;
  rest = [];
  is_closed = true;
  cut = closed (text_of_source ws) [] (text_cut ws h) refl;
  lines = lines_read 1 ws h (omega arith);
}

pub sample_read : SampleIsRead
sample_read K le = text_read (sample_lines K) (sample_plain K le) (omega (arith, sample_length K))
