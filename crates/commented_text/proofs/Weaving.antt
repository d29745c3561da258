-- Texts, and the same with comments among their lines.
use Rattle.std.proofs.Common.{◌≡◌, ℕ, zero, suc, List, [], ◌∷◌, ◌++◌, refl, sym, ap, ◌∙◌, Ok, append_assoc, take, arith}
use Rattle.std.proofs.lemmas.List.{length-take}
use Rattle.std.specs.List.{flat_map, AllByRecursion}
use Rattle.std.proofs.lemmas.Grind.{flat_map-append}
use Rattle.base.specs.Cut.{ended}
use Rattle.asm86_line_reader.specs.Line.{TextLineGives, sensible}
use Rattle.asm86_line_reader.specs.Tokens.{ends, comment as comment_lexes}
use Rattle.asm86.specs.Stream.{IsNotLf}
use Rattle.commented_text.specs.Commented.{comment, comment_line, comments}
use Rattle.commented_text.proofs.WholeReading.{AreWhole, all_both}

-- lines that LF ended, and the same with lines among them that give no statement
pub data Woven : List (List ℕ) → List (List ℕ) → Type 0 where
  no_more : Woven [] []
  line : {raw more : List (List ℕ)} (l : List ℕ) → Woven raw more → Woven (l ∷ raw) (l ∷ more)
  remark : {raw more : List (List ℕ)} (l : List ℕ) → TextLineGives l (Ok []) → Woven raw more → Woven raw ((l ++ 13 ∷ []) ∷ more)

-- a text, and the same with such lines among its own
pub record Weaves (plain text : List ℕ) : Type 0 where
  pub raw : List (List ℕ)
  pub more : List (List ℕ)
  pub plain_is : plain ≡ flat_map ended raw
  pub text_is : text ≡ flat_map ended more
  pub plain_each : AllByRecursion (AllByRecursion IsNotLf) raw
  pub text_each : AllByRecursion (AllByRecursion IsNotLf) more
  pub woven : Woven raw more

-- ---- no comment

same_lines : (raw : List (List ℕ)) → Woven raw raw
same_lines [] = no_more
same_lines (l ∷ raw) = line l (same_lines raw)

pub weaves_same : {bytes : List ℕ} → AreWhole bytes → Weaves bytes bytes
weaves_same w = record { raw = w.raw; more = w.raw; plain_is = w.is; text_is = w.is; plain_each = w.each; text_each = w.each; woven = same_lines w.raw }

-- ---- one text after the other

woven_both : {raw more : List (List ℕ)} → Woven raw more → {saw nore : List (List ℕ)} → Woven saw nore → Woven (raw ++ saw) (more ++ nore)
woven_both no_more w = w
woven_both (line l v) w = line l (woven_both v w)
woven_both (remark l r v) w = remark l r (woven_both v w)

joined : (a b : List ℕ) (raw saw : List (List ℕ)) → a ≡ flat_map ended raw → b ≡ flat_map ended saw → a ++ b ≡ flat_map ended (raw ++ saw)
joined a b raw saw p q = ap (λ (t : List ℕ). t ++ b) p ∙ ap (λ (t : List ℕ). flat_map ended raw ++ t) q ∙ sym (flat_map-append ended raw saw)

pub weaves_both : {a b c d : List ℕ} → Weaves a b → Weaves c d → Weaves (a ++ c) (b ++ d)
weaves_both {a = a} {b = b} {c = c} {d = d} v w = record {
  raw = v.raw ++ w.raw;
  more = v.more ++ w.more;
  plain_is = joined a c v.raw w.raw v.plain_is w.plain_is;
  text_is = joined b d v.more w.more v.text_is w.text_is;
  plain_each = all_both (AllByRecursion IsNotLf) v.raw w.raw v.plain_each w.plain_each;
  text_each = all_both (AllByRecursion IsNotLf) v.more w.more v.text_each w.text_each;
  woven = woven_both v.woven w.woven;
}

-- ---- comments alone

cut_each : (n : ℕ) (bytes : List ℕ) → AllByRecursion IsNotLf bytes → AllByRecursion IsNotLf (take n bytes)
cut_each zero bytes h = tt
cut_each (suc n) [] h = tt
cut_each (suc n) (b ∷ bytes) h = (h.0, cut_each n bytes h.1)

comment_each : (l : List ℕ) → AllByRecursion IsNotLf l → AllByRecursion IsNotLf (comment l)
comment_each [] h = tt
comment_each (b ∷ bytes) h = ((λ e. omega (arith, e)), cut_each 254 (b ∷ bytes) h)

with_cr : (l : List ℕ) → AllByRecursion IsNotLf l → AllByRecursion IsNotLf (l ++ 13 ∷ [])
with_cr l h = all_both IsNotLf l (13 ∷ []) h ((λ e. omega (arith, e)), tt)

-- a comment gives no statement, whatever its bytes
comment_reads : (l : List ℕ) → TextLineGives (comment l) (Ok [])
comment_reads [] = sensible (omega arith) ends refl refl
comment_reads (b ∷ bytes) = sensible (omega (arith, length-take 254 (b ∷ bytes))) comment_lexes refl refl

pub weaves_comments : (ls : List (List ℕ)) → AllByRecursion (AllByRecursion IsNotLf) ls → Weaves [] (comments ls)
weaves_comments [] h = record { raw = []; more = []; plain_is = refl; text_is = refl; plain_each = tt; text_each = tt; woven = no_more }
weaves_comments (l ∷ ls) h =
    let w = weaves_comments ls h.1 in
    record {
      raw = w.raw;
      more = (comment l ++ 13 ∷ []) ∷ w.more;
      plain_is = w.plain_is;
      text_is = ap (λ (t : List ℕ). comment_line l ++ t) w.text_is ∙ ap (λ (t : List ℕ). t ++ flat_map ended w.more) (sym (append_assoc (comment l) (13 ∷ []) (10 ∷ [])));
      plain_each = w.plain_each;
      text_each = (with_cr (comment l) (comment_each l h.0), w.text_each);
      woven = remark (comment l) (comment_reads l) w.woven;
    }
