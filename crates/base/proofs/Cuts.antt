-- How a text is cut into lines: a byte or several more, and that there is one way.
use Rattle.std.proofs.Common.{◌≡◌, ◌≢◌, ℕ, List, [], ◌∷◌, ◌++◌, map, refl, sym, ap, ◌∙◌, append_assoc}
use Rattle.std.specs.List.{flat_map, AllByRecursion}
use Rattle.std.proofs.lemmas.List.{append-nil}
use Rattle.base.specs.Cut.{ended, Cut, without_cr}

-- ---- a byte more, and several

all_push : (IsPart : ℕ → Type 0) (rest : List ℕ) (b : ℕ) → AllByRecursion IsPart rest → IsPart b → AllByRecursion IsPart (rest ++ b ∷ [])
all_push P [] b h p = (p, tt)
all_push P (x ∷ rest) b h p = (h.0, all_push P rest b h.1 p)

lines_push : (IsPart : ℕ → Type 0) (raw : List (List ℕ)) (line : List ℕ) → AllByRecursion (AllByRecursion IsPart) raw → AllByRecursion IsPart line → AllByRecursion (AllByRecursion IsPart) (raw ++ line ∷ [])
lines_push P [] line h p = (p, tt)
lines_push P (x ∷ raw) line h p = (h.0, lines_push P raw line h.1 p)

flat_push : (raw : List (List ℕ)) (line : List ℕ) → flat_map ended (raw ++ line ∷ []) ≡ flat_map ended raw ++ ended line
flat_push [] line = append-nil (ended line)
flat_push (x ∷ raw) line = ap (λ (t : List ℕ). ended x ++ t) (flat_push raw line) ∙ sym (append_assoc (ended x) (flat_map ended raw) (ended line))

pub cut_byte : {IsPart : ℕ → Type 0} (text : List ℕ) (raw : List (List ℕ)) (rest : List ℕ) (b : ℕ) → Cut IsPart text raw rest → IsPart b → Cut IsPart (text ++ b ∷ []) raw (rest ++ b ∷ [])
cut_byte {IsPart = P} text raw rest b c p = record { whole = ap (λ (t : List ℕ). t ++ b ∷ []) c.whole ∙ append_assoc (flat_map ended raw) rest (b ∷ []); each = c.each; last = all_push P rest b c.last p }

pub cut_line : {IsPart : ℕ → Type 0} (text : List ℕ) (raw : List (List ℕ)) (rest : List ℕ) → Cut IsPart text raw rest → Cut IsPart (text ++ 10 ∷ []) (raw ++ rest ∷ []) []
cut_line {IsPart = P} text raw rest c = record {
  whole = ap (λ (t : List ℕ). t ++ 10 ∷ []) c.whole ∙ append_assoc (flat_map ended raw) rest (10 ∷ []) ∙ sym (flat_push raw rest) ∙ sym (append-nil (flat_map ended (raw ++ rest ∷ [])));
  each = lines_push P raw rest c.each c.last;
  last = tt;
}

-- bytes with no LF, where nothing stands after the last one
pub cut_bytes : {IsPart : ℕ → Type 0} (text : List ℕ) (raw : List (List ℕ)) (rest bytes : List ℕ) → Cut IsPart text raw rest → [] ≡ rest → AllByRecursion IsPart bytes → Cut IsPart (text ++ bytes) raw bytes
cut_bytes text raw rest bytes c e p = record {
  whole = ap (λ (t : List ℕ). t ++ bytes) (c.whole ∙ ap (λ (r : List ℕ). flat_map ended raw ++ r) (sym e)) ∙ append_assoc (flat_map ended raw) [] bytes;
  each = c.each;
  last = p;
}

pub map_push : (raw : List (List ℕ)) (line : List ℕ) → map without_cr (raw ++ line ∷ []) ≡ map without_cr raw ++ without_cr line ∷ []
map_push [] line = refl
map_push (x ∷ raw) line = ap (λ (t : List (List ℕ)). without_cr x ∷ t) (map_push raw line)

-- ---- one cut

-- two texts that a byte ends, which neither has
pub split_same : (c : ℕ) (a b x y : List ℕ) → AllByRecursion (λ k. k ≢ c) a → AllByRecursion (λ k. k ≢ c) b → a ++ c ∷ x ≡ b ++ c ∷ y → (a ≡ b) × (x ≡ y)
split_same c [] [] x y p q e = (refl, cc)
split_same c [] (k ∷ b) x y p q e = absurd (q.0 cc)
split_same c (k ∷ a) [] x y p q e = absurd (p.0 cc)
split_same c (k ∷ a) (l ∷ b) x y p q e =
    let r = split_same c a b x y p.1 q.1 cc in
    let h : k ≡ l = cc in
    (ap (λ (n : ℕ). n ∷ a) h ∙ ap (λ (t : List ℕ). l ∷ t) r.0, r.1)

pub not_in : (c : ℕ) (a b x : List ℕ) → AllByRecursion (λ k. k ≢ c) a → a ≡ b ++ c ∷ x → ⊥
not_in c [] [] x p e = cc
not_in c [] (k ∷ b) x p e = cc
not_in c (k ∷ a) [] x p e = p.0 cc
not_in c (k ∷ a) (l ∷ b) x p e = not_in c a b x p.1 cc

pub regroup : (l : List ℕ) (raw : List (List ℕ)) (rest : List ℕ) → flat_map ended (l ∷ raw) ++ rest ≡ l ++ 10 ∷ (flat_map ended raw ++ rest)
regroup l raw rest = append_assoc (ended l) (flat_map ended raw) rest ∙ append_assoc l (10 ∷ []) (flat_map ended raw ++ rest)

-- a line may have no LF
abbrev pub KeepsOut : (ℕ → Type 0) → Type 0
KeepsOut IsPart = (b : ℕ) → IsPart b → b ≢ 10

no_ten : (IsPart : ℕ → Type 0) → KeepsOut IsPart → (a : List ℕ) → AllByRecursion IsPart a → AllByRecursion (λ k. k ≢ 10) a
no_ten P o [] h = tt
no_ten P o (x ∷ a) h = (o x h.0, no_ten P o a h.1)

one_list : (IsPart : ℕ → Type 0) → KeepsOut IsPart → (raw sow : List (List ℕ)) (rest sest : List ℕ) → AllByRecursion (AllByRecursion IsPart) raw → AllByRecursion (AllByRecursion IsPart) sow → AllByRecursion IsPart rest → AllByRecursion IsPart sest → flat_map ended raw ++ rest ≡ flat_map ended sow ++ sest → (raw ≡ sow) × (rest ≡ sest)
one_list P o [] [] rest sest p q r s e = (refl, e)
one_list P o [] (l ∷ sow) rest sest p q r s e = absurd (not_in 10 rest l (flat_map ended sow ++ sest) (no_ten P o rest r) (e ∙ regroup l sow sest))
one_list P o (k ∷ raw) [] rest sest p q r s e = absurd (not_in 10 sest k (flat_map ended raw ++ rest) (no_ten P o sest s) (sym e ∙ regroup k raw rest))
one_list P o (k ∷ raw) (l ∷ sow) rest sest p q r s e =
    let h = split_same 10 k l _ _ (no_ten P o k p.0) (no_ten P o l q.0) (sym (regroup k raw rest) ∙ e ∙ regroup l sow sest) in
    let t = one_list P o raw sow rest sest p.1 q.1 r s h.1 in
    (ap (λ (x : List ℕ). x ∷ raw) h.0 ∙ ap (λ (x : List (List ℕ)). l ∷ x) t.0, t.1)

pub one_cut : {IsPart : ℕ → Type 0} {text rest sest : List ℕ} {raw sow : List (List ℕ)} → KeepsOut IsPart → Cut IsPart text raw rest → Cut IsPart text sow sest → (raw ≡ sow) × (rest ≡ sest)
one_cut {IsPart = P} {rest = rest} {sest = sest} {raw = raw} {sow = sow} o c d = one_list P o raw sow rest sest c.each d.each c.last d.last (sym c.whole ∙ d.whole)
