-- How a program's text grows, part by part.
use Rattle.std.proofs.Common.{◌≡◌, ◌∙◌, ℕ, ◌+◌, ◌*◌, ◌^◌, ◌≤◌, ◌<◌, List, [], ◌∷◌, ◌++◌, length, get_or, drop, true, sym, ap, append_assoc, append-nil, length-append, arith}
use Rattle.asm86_line_types.specs.declared.line.Stmt86.{Stmt86}
use Rattle.asm86_line_types.specs.declared.line.Stmt86.TheVariants.{Dseg, Mark}
use Rattle.std.proofs.lemmas.List.{drop_all, drop_more, length_push}
use Rattle.asm86_line_types.specs.declared.line.Label.TheVariants.{At}
use Rattle.asm80_types.specs.declared.program.Placed.{Placed}
use Rattle.cells.specs.declared.Cell.{Cell}
use Rattle.templates.specs.Plain.{body, org_at, cell_statement, data_from}
use Rattle.templates.specs.Template.{template}

pub few : (zs ws : List Stmt86) (m : ℕ) → zs ≡ ws → length ws ≤ m → length zs ≤ m
few zs ws m e h = let same : length zs ≡ length ws = ap length e in omega arith

pub longer : (xs ys zs : List Stmt86) (n m : ℕ) → length xs ≤ n → length zs ≤ m → ys ≡ xs ++ zs → length ys ≤ n + m
longer xs ys zs n m h k e = let sum : length ys ≡ length xs + length zs = ap length e ∙ length-append xs zs in omega arith

pub more : (a b n m : ℕ) → b ≤ n → a ≤ b + m → a ≤ n + m
more a b n m h k = omega arith

pub below : (a n k : ℕ) → a ≤ n → n < k → a < k
below a n k h l = omega arith

pub room : (a b n m k : ℕ) → a ≤ n → b ≤ m → n + m < k → a + b < k
room a b n m k h i l = omega arith

-- a text that has begun, with its instructions and its end
pub whole_text : (x1 x2 x3 front b e : List Stmt86) → x1 ≡ front → x2 ≡ x1 ++ b → x3 ≡ x2 ++ e → x3 ≡ front ++ (b ++ e)
whole_text x1 x2 x3 front b e e1 e2 e3 = e3 ∙ ap (λ x. x ++ e) (e2 ∙ ap (λ x. x ++ b) e1) ∙ append_assoc front b e

-- the parts of an end, one after the other
pub end_parts : (x0 x1 x2 x3 x4 r d e : List Stmt86) → x1 ≡ x0 ++ r → x2 ≡ x1 ++ Dseg ∷ [] → x3 ≡ x2 ++ d → x4 ≡ x3 ++ e → x4 ≡ x0 ++ (r ++ Dseg ∷ (d ++ e))
end_parts x0 x1 x2 x3 x4 r d e e1 e2 e3 e4 =
    e4 ∙ ap (λ x. x ++ e) (e3 ∙ ap (λ x. x ++ d) (e2 ∙ ap (λ x. x ++ Dseg ∷ []) e1)) ∙ simp append_assoc

-- the end has room, where each instruction has 13 statements at most
pub end_fits : (x1 x2 front : List Stmt86) → x1 ≡ front → length front ≤ 8 → length x2 ≤ length x1 + 13 * 65022 → length x2 ≤ 8 + 13 * 65022
end_fits x1 x2 front e few most = let same : length x1 ≡ length front = ap length e in omega arith

-- a text of instructions with 13 statements each at most has room for the next one
pub next_fits : (old text i n k : ℕ) → old < 2 ^ 16 → text ≤ old + 13 * i → i < n → n ≤ 65022 → k ≤ 13 → text + k < 2 ^ 32
next_fits old text i n k small so_far lt few fits = omega (arith, small, so_far, lt, few, fits)

pub marked : (text new : List Stmt86) (s : Stmt86) (k : ℕ) → new ≡ text ++ s ∷ [] → length text + (1 + k) < 2 ^ 32 → length new + k < 2 ^ 32
marked text new s k e fits = omega (arith, ap length e, length_push text s, fits)

pub thirteen : (n : ℕ) → n ≤ 12 → 1 + n ≤ 13
thirteen n few = omega arith

-- one instruction more
pub body_more : (text pushed new zs whole : List Stmt86) (xs : List Placed) (i : ℕ) (d : Placed) → i < length xs → pushed ≡ text ++ Mark (At (get_or xs i d).at) ∷ [] → new ≡ pushed ++ zs → zs ≡ template (get_or xs i d).instr (get_or xs i d).at true → text ++ body (drop i xs) ≡ whole → new ++ body (drop (i + 1) xs) ≡ whole
body_more text pushed new zs whole xs i d lt label put is so_far =
    let mark = Mark (At (get_or xs i d).at) ∷ [] in
    let behind = body (drop (i + 1) xs) in
    ap (λ t. t ++ behind) (put ∙ ap (λ p. p ++ zs) label)
    ∙ append_assoc (text ++ mark) zs behind
    ∙ append_assoc text mark (zs ++ behind)
    ∙ ap (λ z. text ++ (mark ++ (z ++ behind))) is
    ∙ ap (λ ys. text ++ body ys) (sym (drop_more xs i d lt))
    ∙ so_far

pub body_longer : (old i : ℕ) (text pushed new zs : List Stmt86) (s : Stmt86) → length text ≤ old + 13 * i → pushed ≡ text ++ s ∷ [] → new ≡ pushed ++ zs → length zs ≤ 12 → length new ≤ old + 13 * (i + 1)
body_longer old i text pushed new zs s so_far label put few = omega (arith, so_far, ap length label, length_push text s, ap length put, length-append pushed zs, few)

-- all instructions
pub body_whole : (text whole : List Stmt86) (xs : List Placed) (i : ℕ) → length xs ≤ i → text ++ body (drop i xs) ≡ whole → text ≡ whole
body_whole text whole xs i past so_far = sym (append-nil text) ∙ ap (λ ys. text ++ body ys) (sym (drop_all i xs past)) ∙ so_far

pub body_most : (old text i n : ℕ) → text ≤ old + 13 * i → i ≤ n → n ≤ 65022 → text ≤ old + 13 * 65022
body_most old text i n so_far end few = omega (arith, so_far, end, few)

-- one data cell more
pub data_more : (text new whole : List Stmt86) (next : ℕ) (cs : List (ℕ × Cell)) (i : ℕ) (d : ℕ × Cell) → i < length cs → new ≡ text ++ (org_at next (get_or cs i d).0 ++ cell_statement (get_or cs i d).1) → text ++ data_from next (drop i cs) ≡ whole → new ++ data_from ((get_or cs i d).0 + 1) (drop (i + 1) cs) ≡ whole
data_more text new whole next cs i d lt put so_far =
    let org = org_at next (get_or cs i d).0 in
    let statement = cell_statement (get_or cs i d).1 in
    let behind = data_from ((get_or cs i d).0 + 1) (drop (i + 1) cs) in
    ap (λ t. t ++ behind) put
    ∙ append_assoc text (org ++ statement) behind
    ∙ ap (λ z. text ++ z) (append_assoc org statement behind)
    ∙ ap (λ ys. text ++ data_from next ys) (sym (drop_more cs i d lt))
    ∙ so_far

pub data_whole : (text whole : List Stmt86) (next : ℕ) (cs : List (ℕ × Cell)) (i : ℕ) → length cs ≤ i → text ++ data_from next (drop i cs) ≡ whole → text ≡ whole
data_whole text whole next cs i past so_far = sym (append-nil text) ∙ ap (λ ys. text ++ data_from next ys) (sym (drop_all i cs past)) ∙ so_far

pub data_fits : (old text i n : ℕ) → old < 2 ^ 20 → text ≤ old + 2 * i → i < n → n ≤ 65022 → text < 2 ^ 24
data_fits old text i n small so_far lt few = omega (arith, small, so_far, lt, few)

pub data_longer : (old text new i : ℕ) → text ≤ old + 2 * i → new ≤ text + 2 → new ≤ old + 2 * (i + 1)
data_longer old text new i so_far two = omega (arith, so_far, two)

pub data_most : (old text i n : ℕ) → text ≤ old + 2 * i → i ≤ n → n ≤ 65022 → text ≤ old + 2 * 65022
data_most old text i n so_far end few = omega (arith, so_far, end, few)
