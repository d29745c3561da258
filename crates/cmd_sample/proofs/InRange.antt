-- The numbers of the made source are words.
use Rattle.std.proofs.Common.{ℕ, zero, suc, ◌<◌, List, [], ◌∷◌, ◌++◌, map, codes, subst, sym, arith}
use Rattle.std.specs.List.{flat_map, AllByRecursion}
use Rattle.std.proofs.lemmas.Grind.{flat_map-append}
use Rattle.std.proofs.lemmas.List.{map-append}
use Rattle.asm80_types.specs.Ranges.{IsInRange, AreInRange}
use Rattle.cmd_sample.specs.Written.{Argument, Written, unlabelled, statements_from}
use Rattle.cmd_sample.specs.Sample.{up_to, turns_of, letter_of, byte_of, call, routine, sample_lines, sample_statements}

-- the operands of a line are in range
abbrev LineInRange : Written → Type 0
LineInRange w = AllByRecursion IsInRange (map (λ (a : Argument). a.operand) w.arguments)

abbrev LinesInRange : List Written → Type 0
LinesInRange ws = AllByRecursion LineInRange ws

statements_range : (n : ℕ) (ws : List Written) → LinesInRange ws → AreInRange (statements_from n ws)
statements_range n [] h = tt
statements_range n (w ∷ ws) h = (h.0, statements_range (suc n) ws h.1)

joined_range : (xs ys : List Written) → LinesInRange xs → LinesInRange ys → LinesInRange (xs ++ ys)
joined_range [] ys h k = k
joined_range (x ∷ xs) ys h k = (h.0, joined_range xs ys h.1 k)

calls_range : (n : ℕ) → LinesInRange (map call (up_to n))
calls_range zero = tt
calls_range (suc n) =
    subst LinesInRange (sym (map-append call (up_to n) (suc n ∷ []))) (joined_range (map call (up_to n)) (call (suc n) ∷ []) (calls_range n) ((tt, tt), tt))

routine_range : (k : ℕ) → LinesInRange (routine k)
routine_range k =
    let turns : turns_of k < 0x10000 = omega arith in
    let letter : letter_of k < 0x10000 = omega arith in
    let byte : byte_of k < 0x10000 = omega arith in
    let two : 2 < 0x10000 = omega arith in
    let five : 5 < 0x10000 = omega arith in
    ((tt, (tt, tt)), ((tt, (turns, tt)), ((tt, tt), ((tt, tt), ((tt, tt), ((tt, tt), ((tt, tt), ((tt, (letter, tt)), ((tt, (two, tt)), ((five, tt), ((byte, tt), tt)))))))))))

routines_range : (n : ℕ) → LinesInRange (flat_map routine (up_to n))
routines_range zero = tt
routines_range (suc n) =
    let last : LinesInRange (flat_map routine (suc n ∷ [])) = joined_range (routine (suc n)) [] (routine_range (suc n)) tt in
    subst LinesInRange (sym (flat_map-append routine (up_to n) (suc n ∷ []))) (joined_range (flat_map routine (up_to n)) (flat_map routine (suc n ∷ [])) (routines_range n) last)

pub sample_range : (K : ℕ) → AreInRange (sample_statements K)
sample_range K =
    let end = unlabelled (codes "END") [] ∷ [] in
    let begin_low : 0x100 < 0x10000 = omega arith in
    let zero_low : 0 < 0x10000 = omega arith in
    let routines = joined_range (flat_map routine (up_to K)) end (routines_range K) (tt, tt) in
    statements_range 1 (sample_lines K) ((begin_low, tt), joined_range (map call (up_to K)) _ (calls_range K) ((zero_low, tt), routines))
