-- A text of which some first bytes are written and the rest waits.
use Rattle.std.proofs.Common.{◌≡◌, ℕ, suc, ◌+◌, ◌<◌, List, [], ◌++◌, length, get_or, take, drop, refl, ap, ◌∙◌, sym, subst, inr, append_assoc, append-nil, add-one, length-append, arith}
use Rattle.std.proofs.Math.Seq.{take-append_seam, drop-cons}
use Rattle.std.proofs.lemmas.List.{take-append-drop, length-take}
use Rattle.host.specs.Host.{HostState, rewritten, Rewrites}
use Rattle.asm86_line_types.specs.declared.line.Line86.{Line86}
use Rattle.asm86_line_types.specs.Written.{written_line, written_text}
use Rattle.host_files.specs.Transfer.{extended, IsBeforeOrPart}
use Rattle.host_files.proofs.Extends.{extended-rewritten}

-- the file of this name was rewritten with the bytes of the text in front of those left
pub record Waits (old new : HostState) (name text left : List ℕ) : Type 0 where
  pub done : List ℕ
  pub written : Rewrites old new name done
  pub whole : done ++ left ≡ text

-- some first bytes of those left were added
pub Waits-more : {old mid : HostState} (new : HostState) {name text : List ℕ} (bytes rest after : List ℕ) (k : ℕ) → Waits old mid name text (bytes ++ rest) → new.file name ≡ extended (mid.file name) (take k bytes) → after ≡ drop k bytes → Waits old new name text (after ++ rest)
Waits-more {old = old} new {name = name} bytes rest after k w added left = record {
  done = w.done ++ take k bytes;
  written = added ∙ ap (λ t. extended t (take k bytes)) w.written ∙ extended-rewritten (old.file name) w.done (take k bytes);
  whole = append_assoc w.done (take k bytes) (after ++ rest) ∙ ap (λ x. w.done ++ x) (sym (append_assoc (take k bytes) after rest) ∙ ap (λ x. x ++ rest) (ap (λ x. take k bytes ++ x) left ∙ take-append-drop k bytes)) ∙ w.whole;
}

-- after a fault first bytes of those left were added, but not all: what is written is a part of the text
pub Waits-fault : {old mid : HostState} (new : HostState) {name text : List ℕ} (bytes rest : List ℕ) → Waits old mid name text (bytes ++ rest) → (k : ℕ) × (k < length bytes) × (new.file name ≡ extended (mid.file name) (take k bytes)) → IsBeforeOrPart old new name text
unfolding Waits-more
Waits-fault {old = old} new {name = name} {text = text} bytes rest w added =
    let after : Waits old new name text (drop added.0 bytes ++ rest) = Waits-more new bytes rest (drop added.0 bytes) added.0 w added.2 refl in
    let short : length (w.done ++ take added.0 bytes) < length (w.done ++ (bytes ++ rest)) =
    omega (arith, added.1, length-append w.done (take added.0 bytes), length-take added.0 bytes, length-append w.done (bytes ++ rest), length-append bytes rest) in
    inr (length after.done, subst (λ t. length after.done < length t) w.whole short, after.written ∙ ap (rewritten (old.file name)) (sym (take-append_seam after.done (drop added.0 bytes ++ rest)) ∙ ap (take (length after.done)) after.whole))

-- the line at an index comes next
pub Waits-line : {old new : HostState} {name text : List ℕ} (piece line : List ℕ) (lines : List Line86) (i : ℕ) (d : Line86) → i < length lines → line ≡ written_line (get_or lines i d).stmt → Waits old new name text (piece ++ written_text (drop i lines)) → Waits old new name text ((piece ++ line) ++ written_text (drop (i + 1) lines))
Waits-line piece line lines i d within is w =
    let next : line ++ written_text (drop (i + 1) lines) ≡ written_text (drop i lines) = rw add-one (ap (λ x. x ++ written_text (drop (suc i) lines)) is ∙ sym (ap written_text (drop-cons lines i d within))) in
    record {
      done = w.done;
      written = w.written;
      whole = ap (λ x. w.done ++ x) (append_assoc piece line (written_text (drop (i + 1) lines)) ∙ ap (λ x. piece ++ x) next) ∙ w.whole;
    }

-- the file was made empty
pub Waits-none : {old new : HostState} {name text piece : List ℕ} → Rewrites old new name [] → piece ≡ [] → Waits old new name text (piece ++ text)
Waits-none {text = text} written e = record { done = []; written = written; whole = ap (λ x. x ++ text) e }

-- all that was left was added
pub Waits-done : {old mid : HostState} (new : HostState) {name text : List ℕ} (bytes rest : List ℕ) → Waits old mid name text (bytes ++ rest) → rest ≡ [] → new.file name ≡ extended (mid.file name) bytes → Rewrites old new name text
Waits-done {old = old} new {name = name} bytes rest w ended added =
    added ∙ ap (λ t. extended t bytes) w.written ∙ extended-rewritten (old.file name) w.done bytes ∙ ap (rewritten (old.file name)) (ap (λ x. w.done ++ x) (sym (append-nil bytes) ∙ ap (λ x. bytes ++ x) (sym ended)) ∙ w.whole)
