-- Group descriptors and the bytes that they are.
use Rattle.std.proofs.Common.{◌≡◌, ℕ, zero, suc, ◌+◌, ◌*◌, ◌/◌, ◌%◌, ◌<◌, ◌≤◌, true, List, [], ◌∷◌, ◌++◌, length, drop, get_or, replicate, refl, sym, ap, ◌∙◌, arith, append_assoc}
use Rattle.std.specs.List.{All, flat_map}
use Rattle.std.proofs.lemmas.Bool.{eq-eqb, le-leb}
use Rattle.std.proofs.lemmas.List.{drop-drop, length-drop}
use Rattle.std.proofs.lemmas.List.Elements.{All-head, All-tail, All-drop}
use Rattle.cmd_file.specs.CommandFile.{Group, descriptor, Describes}
use Rattle.cmd_file.specs.Header.{Rule, allows, group_rules, no_group_rules, word_in}

-- the group of which these bytes begin with the descriptor
abbrev pub group_of : List ℕ → Group
group_of bytes = record { form = get_or bytes 0 0; length = word_in bytes 1; base = word_in bytes 3; least = word_in bytes 5; greatest = word_in bytes 7 }

low : (a b : ℕ) → a < 256 → a ≡ (a + 256 * b) % 256
low a b lt = omega (arith, lt)

high : (a b : ℕ) → a < 256 → b ≡ (a + 256 * b) / 256
high a b lt = omega (arith, lt)

pub group_back : (bytes : List ℕ) → 9 ≤ length bytes → All (λ b. b < 256) bytes → bytes ≡ descriptor (group_of bytes) ++ drop 9 bytes
group_back [] long small = absurd (omega (arith, long))
group_back (f ∷ []) long small = absurd (omega (arith, long))
group_back (f ∷ (a ∷ [])) long small = absurd (omega (arith, long))
group_back (f ∷ (a ∷ (b ∷ []))) long small = absurd (omega (arith, long))
group_back (f ∷ (a ∷ (b ∷ (c ∷ [])))) long small = absurd (omega (arith, long))
group_back (f ∷ (a ∷ (b ∷ (c ∷ (d ∷ []))))) long small = absurd (omega (arith, long))
group_back (f ∷ (a ∷ (b ∷ (c ∷ (d ∷ (e ∷ [])))))) long small = absurd (omega (arith, long))
group_back (f ∷ (a ∷ (b ∷ (c ∷ (d ∷ (e ∷ (g ∷ []))))))) long small = absurd (omega (arith, long))
group_back (f ∷ (a ∷ (b ∷ (c ∷ (d ∷ (e ∷ (g ∷ (h ∷ [])))))))) long small = absurd (omega (arith, long))
group_back (f ∷ (a ∷ (b ∷ (c ∷ (d ∷ (e ∷ (g ∷ (h ∷ (k ∷ rest))))))))) long small =
    let sa : a < 256 = small 1 0 (omega arith) in
    let sc : c < 256 = small 3 0 (omega arith) in
    let se : e < 256 = small 5 0 (omega arith) in
    let sh : h < 256 = small 7 0 (omega arith) in
    λ i. f ∷ (low a b sa i ∷ (high a b sa i ∷ (low c d sc i ∷ (high c d sc i ∷ (low e g se i ∷ (high e g se i ∷ (low h k sh i ∷ (high h k sh i ∷ rest))))))))

-- the groups of which these bytes begin with the descriptors
abbrev pub groups : ℕ → List ℕ → List Group
groups zero bytes = []
groups (suc n) bytes = group_of bytes ∷ groups n (drop 9 bytes)

pub groups_back : (n : ℕ) (bytes : List ℕ) → 9 * n ≤ length bytes → All (λ b. b < 256) bytes → bytes ≡ flat_map descriptor (groups n bytes) ++ drop (9 * n) bytes
groups_back zero bytes long small = refl
groups_back (suc n) bytes long small =
    let first = group_back bytes (omega (arith, long)) small in
    let rest = groups_back n (drop 9 bytes) (omega (arith, long, length-drop 9 bytes)) (All-drop (λ b. b < 256) 9 bytes small) in
    let next : 9 + 9 * n ≡ 9 * suc n = omega arith in
    first
    ∙ ap (λ l. descriptor (group_of bytes) ++ l) (rest ∙ ap (λ l. flat_map descriptor (groups n (drop 9 bytes)) ++ l) (drop-drop (9 * n) 9 bytes ∙ ap (λ k. drop k bytes) next))
    ∙ sym (append_assoc (descriptor (group_of bytes)) (flat_map descriptor (groups n (drop 9 bytes))) (drop (9 * suc n) bytes))

pub length-groups : (n : ℕ) (bytes : List ℕ) → length (groups n bytes) ≡ n
length-groups zero bytes = refl
length-groups (suc n) bytes = ap suc (length-groups n (drop 9 bytes))

pub length-descriptors : (gs : List Group) → length (flat_map descriptor gs) ≡ 9 * length gs
length-descriptors [] = refl
length-descriptors (g ∷ gs) = let rest = length-descriptors gs in omega (arith, rest)

-- bytes that rules allow, one after the other; what follows the rules is free
abbrev pub Follows : List Rule → ℕ → List ℕ → Type 0
Follows [] before bytes = Unit {0}
Follows (r ∷ rules) before [] = Unit {0}
Follows (r ∷ rules) before (b ∷ bytes) = (allows r before b ≡ true) × Follows rules b bytes

pub group_follows : (form : ℕ) (bytes : List ℕ) (g : Group) → Describes form bytes g → (rules : List Rule) (before : ℕ) (rest : List ℕ) → Follows rules (g.greatest / 256) rest → Follows (group_rules form ++ rules) before (descriptor g ++ rest)
group_follows form bytes g is rules before rest more =
    let base : g.base ≡ 0 = is.base_is in
    let most : g.length ≤ 0x1000 = is.most in
    let size : g.length % 256 + 256 * (g.length / 256) ≤ 0x1000 = omega arith in (
      eq-eqb g.form form is.form_is,
      (refl, (le-leb _ _ size, (eq-eqb (g.base % 256) 0 (omega arith), (eq-eqb (g.base / 256) 0 (omega arith), (refl, (refl, (refl, (refl, more)))))))),
    )

pub none_follow : (gs : List Group) → All (λ g. g.form ≡ 0) gs → (before : ℕ) (rest : List ℕ) → Follows (flat_map (λ rules. rules) (replicate (length gs) no_group_rules)) before (flat_map descriptor gs ++ rest)
none_follow [] none before rest = tt
none_follow (g ∷ gs) none before rest =
    let more = none_follow gs (All-tail (λ g. g.form ≡ 0) g gs none) (g.greatest / 256) rest in
    (eq-eqb g.form 0 (All-head (λ g. g.form ≡ 0) g gs none), (refl, (refl, (refl, (refl, (refl, (refl, (refl, (refl, more)))))))))
