-- Lines that are written are read back, numbered from 1.
use Rattle.std.proofs.Common.{◌≡◌, ℕ, ◌+◌, ◌<◌, true, List, [], ◌∷◌, ◌++◌, Ok, refl, sym, ap, subst, add-one}
use Rattle.std.specs.List.{list_any}
use Rattle.asm86_line_types.specs.declared.line.Stmt86.{Stmt86}
use Rattle.asm86_line_types.specs.declared.line.Line86.{Line86}
use Rattle.asm86_line_types.specs.Order.{in_order, at_start, ends_text}
use Rattle.asm86_line_types.specs.Layout.{sizes_of, place_of, code_of}
use Rattle.asm86_line_types.specs.Image.{Image, image_of, statements, Assembles, IsDefinedOnce, UsesDefined, AllReach, by_address, cells_from, labels_from}
use Rattle.asm86.specs.Images.{HasImage}
use Rattle.asm86_line_types.specs.Written.{written_line, written_text}
use Rattle.asm86.specs.Back.{AreWritten}
use Rattle.asm86.specs.Stream.{are_in_order, has_end, TextGives}
use Rattle.templates.specs.Plain.{numbered_from}
use Rattle.templates.proofs.NumberedLines.{statements-numbered}
use Rattle.shrink.specs.Written.{HaveLines, IsWritable, ReadsBack}

numbered_written : (n : ℕ) (xs : List Stmt86) → HaveLines xs → AreWritten n (numbered_from n xs)
numbered_written n [] h = tt
numbered_written n (x ∷ xs) h = (refl, h.0, subst (λ k. AreWritten k (numbered_from (n + 1) xs)) (add-one n) (numbered_written (n + 1) xs h.1))

text_numbered : (n : ℕ) (lines : List Line86) → written_text (numbered_from n (statements lines)) ≡ written_text lines
text_numbered n [] = refl
text_numbered n (x ∷ lines) = ap (λ t. written_line x.stmt ++ t) (text_numbered (n + 1) lines)

-- ---- lines with the same statements

assembles_same : (lines others : List Line86) → statements lines ≡ statements others → Assembles lines → Assembles others
assembles_same lines others e a = record {
  order = subst (λ xs. in_order at_start xs ≡ true) e a.order;
  once = subst IsDefinedOnce e a.once;
  defined = subst (λ xs. UsesDefined xs xs) e a.defined;
  small = subst (λ xs. sizes_of xs < 0x10000) e a.small;
  short = subst (λ xs. AllReach (place_of xs) 0 xs) e a.short;
}

abbrev image_by : List Stmt86 → Image
image_by xs = record { code = code_of xs; cells = by_address (cells_from (place_of xs) 0 xs); labels = labels_from 0 xs }

-- ---- their text

module _ (law : (lines : List Line86) → AreWritten 1 lines → are_in_order lines ≡ true → has_end lines ≡ true → TextGives (written_text lines) (Ok lines)) (lines : List Line86) (w : IsWritable lines) where
  same : statements lines ≡ statements (numbered_from 1 (statements lines))
  same = sym (statements-numbered 1 (statements lines))

  pub reads_back : ReadsBack lines
  reads_back =
      subst (λ t. TextGives t (Ok (numbered_from 1 (statements lines)))) (text_numbered 1 lines)
      (law (numbered_from 1 (statements lines)) (numbered_written 1 (statements lines) w.written)
      (subst (λ xs. in_order at_start xs ≡ true) same w.assembles.order)
      (subst (λ xs. list_any ends_text xs ≡ true) same w.has_end))

  pub text_has_image : HasImage (written_text lines) (image_of lines)
  text_has_image = record {
    lines = numbered_from 1 (statements lines);
    reads = reads_back;
    assembled = record { assembles = assembles_same lines (numbered_from 1 (statements lines)) same w.assembles; is = ap image_by same };
  }
