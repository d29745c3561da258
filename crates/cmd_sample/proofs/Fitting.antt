-- The lean code of the made source fits.
use Rattle.std.proofs.Common.{◌≡◌, ℕ, zero, suc, ◌+◌, ◌*◌, ◌<◌, codes, List, [], ◌∷◌, ◌++◌, length, map, refl, sym, ap, subst, arith}
use Rattle.std.specs.List.{flat_map}
use Rattle.std.proofs.lemmas.Grind.{flat_map-append}
use Rattle.std.proofs.lemmas.List.{length-append, length-map}
use Rattle.asm86_line_types.specs.declared.line.Line86.{Line86}
use Rattle.asm86_line_types.specs.Layout.{sizes_of}
use Rattle.asm86_line_types.specs.Image.{statements}
use Rattle.templates.specs.Lean.{lean_style}
use Rattle.cmd_sample.specs.Written.{Written, unlabelled, number, statements_from}
use Rattle.cmd_sample.specs.Sample.{up_to, call, routine, sample_statements}
use Rattle.cmd_sample.specs.Laws.{SampleCodeFits}
use Rattle.cmd_sample.proofs.TextSizes.{text_size}
use Rattle.cmd_sample.proofs.LineCounts.{instructions_most}

length-up_to : (n : ℕ) → length (up_to n) ≡ n
length-up_to zero = refl
length-up_to (suc n) = omega (arith, length-append (up_to n) (suc n ∷ []), length-up_to n)

length-routines : (n : ℕ) → length (flat_map routine (up_to n)) ≡ 11 * n
length-routines zero = refl
length-routines (suc n) =
    let e : length (flat_map routine (up_to (suc n))) ≡ length (flat_map routine (up_to n) ++ flat_map routine (suc n ∷ [])) = ap length (flat_map-append routine (up_to n) (suc n ∷ [])) in
    omega (arith, e, length-append (flat_map routine (up_to n)) (flat_map routine (suc n ∷ [])), length-routines n)

length-statements : (n : ℕ) (ws : List Written) → length (statements_from n ws) ≡ length ws
length-statements n [] = refl
length-statements n (w ∷ ws) = ap suc (length-statements (suc n) ws)

length-sample : (K : ℕ) → length (sample_statements K) ≡ 12 * K + 3
length-sample K =
    let calls = map call (up_to K) in
    let routines = flat_map routine (up_to K) in
    let end = unlabelled (codes "END") [] ∷ [] in
    let jump = unlabelled (codes "JMP") (number 0 ∷ []) in
    let inner = calls ++ (jump ∷ (routines ++ end)) in
    let all : length (statements_from 2 inner) ≡ length inner = length-statements 2 inner in
    let parts : length inner ≡ length calls + length (jump ∷ (routines ++ end)) = length-append calls (jump ∷ (routines ++ end)) in
    omega (arith, all, parts, length-append routines end, length-map (up_to K) call, length-up_to K, length-routines K)

pub sample_fits : SampleCodeFits
sample_fits K some le p is lines lean =
    let size = text_size (lean_style lean.0 p) p in
    let count = instructions_most (sample_statements K) 0xF000 p is in
    subst (λ (ls : List Line86). sizes_of (statements ls) < 0x10000) (sym lean.2) (omega (arith, size, count, length-sample K))
