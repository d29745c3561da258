-- Pieces of lines that read as tokens wherever they stand, before anything that does not go on a word.
use Rattle.std.proofs.Common.{◌≡◌, ◌≢◌, ℕ, ◌+◌, ◌<◌, ◌≤◌, List, [], ◌∷◌, ◌++◌, map, take, drop, length, Bool, true, false, eqb, cond, Option, Some, Ok, codes, inl, inr, refl, ap, ◌∙◌, append_assoc, arith}
use Rattle.std.specs.List.{list_all, prefix_len}
use Rattle.std.proofs.Math.Seq.{take-append_seam, drop-append_seam}
use Rattle.std.proofs.lemmas.Bool.Decides.{nat_tests}
use Rattle.std.proofs.lemmas.List.{append-nil, append_cancel_right, map-append, length-append}
use Rattle.std.proofs.lemmas.List.Folds.{prefix_len-append}
use Rattle.asm86_line_types.specs.declared.line.Stmt86.{Stmt86}
use Rattle.asm86_line_types.specs.Written.{alone, with_one, with_two}
use Rattle.asm86_line_reader.specs.declared.token.Token.{Token}
use Rattle.asm86_line_reader.specs.declared.token.Token.TheVariants.{Colon, Comma}
use Rattle.asm86_line_reader.specs.Letters.{upper, is_inside, is_blank, sign_of, inside_len}
use Rattle.asm86_line_reader.specs.Words.{word_token}
use Rattle.asm86_line_reader.specs.Tokens.{found_before, token_at, Lexes, ends, blank, token}
use Rattle.asm86_line_reader.specs.Forms.{statements_of, is_small}
use Rattle.asm86_line_reader.specs.Line.{TextLineGives, sensible}
use Rattle.std.proofs.lemmas.Bool.{and_parts, cases_Bool}

pub record Piece (most : ℕ) (p : List ℕ) (us : List Token) : Type 0 where
  pub same : map upper p ≡ p
  pub short : length p ≤ most
  pub reads : (rest : List ℕ) (ts : List Token) (sound : Bool) → inside_len rest ≡ 0 → Lexes rest ts sound → Lexes (p ++ rest) (us ++ ts) sound

-- a word of a line
pub record IsWord (w : List ℕ) (t : Token) : Type 0 where
  pub inside : list_all is_inside w ≡ true
  pub some : 0 < length w
  pub short : length w ≤ 6
  pub means : word_token w ≡ Some t

stays : (b : ℕ) → is_inside b ≡ true → upper b ≡ b
stays b h = grind (arith, nat_tests)

all_stay : (w : List ℕ) → list_all is_inside w ≡ true → map upper w ≡ w
all_stay [] h = refl
all_stay (b ∷ w) h = rw (stays b (and_parts (is_inside b) (list_all is_inside w) h).0, all_stay w (and_parts (is_inside b) (list_all is_inside w) h).1) refl

all_inside : (w : List ℕ) → list_all is_inside w ≡ true → prefix_len is_inside w ≡ length w
all_inside [] h = refl
all_inside (b ∷ w) h =
    let e : prefix_len is_inside w ≡ length w = all_inside w (and_parts (is_inside b) (list_all is_inside w) h).1 in
    rw (and_parts (is_inside b) (list_all is_inside w) h).0 (omega arith)

starts : (b : ℕ) → is_inside b ≡ true → (is_blank b ≡ false) × (b ≢ 0x3B)
starts b h = (grind (arith, nat_tests), λ e. grind (arith, nat_tests))

itself : (n : ℕ) → eqb n n ≡ true
itself n = grind (arith, nat_tests)

-- a word ends where what follows does not go on
word_ends : (w rest : List ℕ) → list_all is_inside w ≡ true → inside_len rest ≡ 0 → inside_len (w ++ rest) ≡ length w
word_ends w rest h z =
    let e : prefix_len is_inside w ≡ length w = all_inside w h in
    prefix_len-append is_inside w rest ∙ rw (e, itself (length w), z) (omega arith)

at_front : (b : ℕ) (bytes w rest : List ℕ) (k : ℕ) (t : Token) → is_inside b ≡ true → inside_len (b ∷ bytes) ≡ k → take k (b ∷ bytes) ≡ w → drop k (b ∷ bytes) ≡ rest → word_token w ≡ Some t → token_at (b ∷ bytes) ≡ Some (t, rest)
unfolding token_at
at_front b bytes w rest k t h n front back m =
    ap (λ (x : Bool). cond x (found_before (drop (inside_len (b ∷ bytes)) (b ∷ bytes)) (word_token (take (inside_len (b ∷ bytes)) (b ∷ bytes)))) (found_before bytes (sign_of b))) h
    ∙ ap (λ (i : ℕ). found_before (drop i (b ∷ bytes)) (word_token (take i (b ∷ bytes)))) n
    ∙ ap (λ (x : List ℕ). found_before (drop k (b ∷ bytes)) (word_token x)) front
    ∙ ap (λ (x : List ℕ). found_before x (word_token w)) back
    ∙ ap (λ (x : Option Token). found_before rest x) m

pub word : (w : List ℕ) (t : Token) → IsWord w t → Piece 6 w (t ∷ [])
word [] t i = absurd (omega (arith, i.some))
word (b ∷ w) t i = record {
  same = all_stay (b ∷ w) i.inside;
  short = i.short;
  reads = λ rest ts sound z x. let s = starts b (and_parts (is_inside b) (list_all is_inside w) i.inside).0 in token s.0 s.1 (at_front b (w ++ rest) (b ∷ w) rest (length (b ∷ w)) t (and_parts (is_inside b) (list_all is_inside w) i.inside).0 (word_ends (b ∷ w) rest i.inside z) (take-append_seam (b ∷ w) rest) (drop-append_seam (b ∷ w) rest) i.means) x;
}

stops : (q rest : List ℕ) → inside_len q ≡ 0 → inside_len rest ≡ 0 → inside_len (q ++ rest) ≡ 0
stops [] rest z y = y
stops (b ∷ q) rest z y = elim (cases_Bool (is_inside b)) [
  | inl e ↦ absurd (let k = rw e at z in omega arith)
  | inr e ↦ rw e refl
]

pub nothing : Piece 0 [] []
nothing = record { same = refl; short = omega arith; reads = λ rest ts sound z x. x }

pub join : {m n : ℕ} {p q : List ℕ} {us vs : List Token} → Piece m p us → Piece n q vs → inside_len q ≡ 0 → Piece (m + n) (p ++ q) (us ++ vs)
join {p = p} {q = q} {us = us} {vs = vs} a b z = record {
  same = map-append upper p q ∙ rw (a.same, b.same) refl;
  short = let l = length-append p q in omega (arith, a.short, b.short);
  reads = λ rest ts sound y x. rw (append_assoc, append_assoc) (a.reads (q ++ rest) (vs ++ ts) sound (stops q rest z y) (b.reads rest ts sound y x));
}

-- a blank, and a sign, in front
pub after_tab : {n : ℕ} {q : List ℕ} {vs : List Token} → Piece n q vs → Piece (n + 1) (9 ∷ q) vs
after_tab b = record {
  same = rw b.same refl;
  short = let l = b.short in omega arith;
  reads = λ rest ts sound y x. blank refl (b.reads rest ts sound y x);
}

pub after_blank : {n : ℕ} {q : List ℕ} {vs : List Token} → Piece n q vs → Piece (n + 1) (32 ∷ q) vs
after_blank b = record {
  same = rw b.same refl;
  short = let l = b.short in omega arith;
  reads = λ rest ts sound y x. blank refl (b.reads rest ts sound y x);
}

sign_at : (c : ℕ) (bytes : List ℕ) (t : Token) → is_inside c ≡ false → sign_of c ≡ Some t → token_at (c ∷ bytes) ≡ Some (t, bytes)
unfolding token_at
sign_at c bytes t i s =
    ap (λ (x : Bool). cond x (found_before (drop (inside_len (c ∷ bytes)) (c ∷ bytes)) (word_token (take (inside_len (c ∷ bytes)) (c ∷ bytes)))) (found_before bytes (sign_of c))) i
    ∙ ap (λ (x : Option Token). found_before bytes x) s

pub after_sign : {n : ℕ} {q : List ℕ} {vs : List Token} (c : ℕ) (t : Token) → upper c ≡ c → is_blank c ≡ false → c ≢ 0x3B → is_inside c ≡ false → sign_of c ≡ Some t → Piece n q vs → Piece (n + 1) (c ∷ q) (t ∷ vs)
after_sign {q = q} c t u bl ne i s b = record {
  same = rw (u, b.same) refl;
  short = let l = b.short in omega arith;
  reads = λ rest ts sound y x. token bl ne (sign_at c (q ++ rest) t i s) (b.reads rest ts sound y x);
}

-- ---- lines

given : {n : ℕ} {p : List ℕ} {us : List Token} {s : Stmt86} → Piece n p us → n ≤ 255 → statements_of us ≡ Some (s ∷ []) → is_small s ≡ true → TextLineGives p (Ok (s ∷ []))
given {p = p} {us = us} b le e h = sensible (let l = b.short in omega arith) (rw (b.same, ← append-nil p, ← append-nil us) (b.reads [] [] true refl ends)) e (rw h refl)

pub alone_line : {w : List ℕ} {t : Token} {s : Stmt86} (line : List ℕ) → IsWord w t → alone w ≡ line ++ codes "\r\n" → statements_of (t ∷ []) ≡ Some (s ∷ []) → is_small s ≡ true → TextLineGives line (Ok (s ∷ []))
alone_line {w = w} {t = t} line i e r h =
    let same : 9 ∷ w ≡ line = append_cancel_right (9 ∷ w) line (codes "\r\n") e in
    rw (← same) (given (after_tab (word w t i)) (omega arith) r h)

pub one_line : {n : ℕ} {w p : List ℕ} {t : Token} {us : List Token} {s : Stmt86} (line : List ℕ) → IsWord w t → Piece n p us → n ≤ 60 → with_one w p ≡ line ++ codes "\r\n" → statements_of (t ∷ us) ≡ Some (s ∷ []) → is_small s ≡ true → TextLineGives line (Ok (s ∷ []))
one_line {w = w} {p = p} {t = t} line i b le e r h =
    let same : 9 ∷ (w ++ (9 ∷ p)) ≡ line = append_cancel_right (9 ∷ (w ++ (9 ∷ p))) line (codes "\r\n") (simp append_assoc e) in
    rw (← same) (given (after_tab (join (word w t i) (after_tab b) refl)) (omega arith) r h)

pub two_line : {m n : ℕ} {w p q : List ℕ} {t : Token} {us vs : List Token} {s : Stmt86} (line : List ℕ) → IsWord w t → Piece m p us → Piece n q vs → m ≤ 60 → n ≤ 60 → with_two w p q ≡ line ++ codes "\r\n" → statements_of (t ∷ (us ++ (Comma ∷ vs))) ≡ Some (s ∷ []) → is_small s ≡ true → TextLineGives line (Ok (s ∷ []))
two_line {w = w} {p = p} {q = q} {t = t} line i a b le lf e r h =
    let same : 9 ∷ (w ++ (9 ∷ (p ++ (0x2C ∷ q)))) ≡ line = append_cancel_right (9 ∷ (w ++ (9 ∷ (p ++ (0x2C ∷ q))))) line (codes "\r\n") (simp append_assoc e) in
    rw (← same) (given (after_tab (join (word w t i) (after_tab (join a (after_sign 0x2C Comma refl refl (λ k. absurd (omega arith)) refl refl b) refl)) refl)) (omega arith) r h)

pub mark_line : {w : List ℕ} {t : Token} {s : Stmt86} (line : List ℕ) → IsWord w t → w ++ codes ":\r\n" ≡ line ++ codes "\r\n" → statements_of (t ∷ (Colon ∷ [])) ≡ Some (s ∷ []) → is_small s ≡ true → TextLineGives line (Ok (s ∷ []))
mark_line {w = w} {t = t} line i e r h =
    let same : w ++ (0x3A ∷ []) ≡ line = append_cancel_right (w ++ (0x3A ∷ [])) line (codes "\r\n") (simp append_assoc e) in
    rw (← same) (given (join (word w t i) (after_sign 0x3A Colon refl refl (λ k. absurd (omega arith)) refl refl nothing) refl) (omega arith) r h)
