-- The text of the made source, part by part.
use Rattle.std.proofs.Common.{◌≡◌, ℕ, zero, suc, ◌+◌, ◌-◌, ◌≤◌, List, [], ◌∷◌, ◌++◌, Option, Some, None, map, refl, sym, ap, ◌∙◌, append_assoc, arith}
use Rattle.std.specs.Prelude.{codes}
use Rattle.std.specs.List.{flat_map}
use Rattle.std.specs.Fmt.{decimal}
use Rattle.std.proofs.lemmas.Fmt.{decimal_digit}
use Rattle.std.proofs.lemmas.List.{append-nil, map-append}
use Rattle.std.proofs.lemmas.Grind.{flat_map-append}
use Rattle.cmd_sample.specs.Written.{Argument, Written, label_column, more_arguments, arguments_text, line_text, text_of_source, number, unlabelled}
use Rattle.cmd_sample.specs.Sample.{call, counting, writes_letter, routine, sample_text, up_to, turns_of, letter_of, byte_of}

-- ---- lines in front of a text

abbrev label_before : Option (List ℕ) → List ℕ → List ℕ
label_before None rest = rest
label_before (Some label) rest = label ++ (58 ∷ rest)

abbrev more_before : List Argument → List ℕ → List ℕ
more_before [] rest = rest
more_before (a ∷ others) rest = 44 ∷ (a.text ++ more_before others rest)

abbrev arguments_before : List Argument → List ℕ → List ℕ
arguments_before [] rest = rest
arguments_before (a ∷ others) rest = 9 ∷ (a.text ++ more_before others rest)

abbrev lines_before : List Written → List ℕ → List ℕ
lines_before [] rest = rest
lines_before (w ∷ ws) rest = label_before w.label (9 ∷ (w.operation ++ arguments_before w.arguments (10 ∷ lines_before ws rest)))

label_moved : (label : Option (List ℕ)) (rest : List ℕ) → label_column label ++ rest ≡ label_before label rest
label_moved None rest = refl
label_moved (Some label) rest = append_assoc label (58 ∷ []) rest

more_moved : (others : List Argument) (rest : List ℕ) → more_arguments others ++ rest ≡ more_before others rest
more_moved [] rest = refl
more_moved (a ∷ others) rest = ap (λ (t : List ℕ). 44 ∷ t) (append_assoc a.text (more_arguments others) rest ∙ ap (λ (t : List ℕ). a.text ++ t) (more_moved others rest))

arguments_moved : (all : List Argument) (rest : List ℕ) → arguments_text all ++ rest ≡ arguments_before all rest
arguments_moved [] rest = refl
arguments_moved (a ∷ others) rest = ap (λ (t : List ℕ). 9 ∷ t) (append_assoc a.text (more_arguments others) rest ∙ ap (λ (t : List ℕ). a.text ++ t) (more_moved others rest))

line_moved : (label : Option (List ℕ)) (op : List ℕ) (all : List Argument) (rest : List ℕ) → (label_column label ++ (9 ∷ (op ++ arguments_text all))) ++ rest ≡ label_before label (9 ∷ (op ++ arguments_before all rest))
line_moved label op all rest =
    append_assoc (label_column label) (9 ∷ (op ++ arguments_text all)) rest
    ∙ label_moved label (9 ∷ ((op ++ arguments_text all) ++ rest))
    ∙ ap (λ (t : List ℕ). label_before label (9 ∷ t)) (append_assoc op (arguments_text all) rest ∙ ap (λ (t : List ℕ). op ++ t) (arguments_moved all rest))

text_moved : (ws : List Written) (rest : List ℕ) → text_of_source ws ++ rest ≡ lines_before ws rest
text_moved [] rest = refl
text_moved (w ∷ ws) rest =
    append_assoc (line_text w ++ 10 ∷ []) (text_of_source ws) rest
    ∙ append_assoc (line_text w) (10 ∷ []) (text_of_source ws ++ rest)
    ∙ ap (λ (t : List ℕ). line_text w ++ (10 ∷ t)) (text_moved ws rest)
    ∙ line_moved w.label w.operation w.arguments (10 ∷ lines_before ws rest)

text_is : (ws : List Written) → lines_before ws [] ≡ text_of_source ws
text_is ws = sym (sym (append-nil (text_of_source ws)) ∙ text_moved ws [])

-- ---- one call, one routine

pub call_text : (k : ℕ) → codes "\tCALL\tR" ++ (decimal k ++ codes "\n") ≡ text_of_source (call k ∷ [])
call_text k = text_is (call k ∷ [])

pub counting_text : (k : ℕ) → codes "R" ++ (decimal k ++ (codes ":\tLXI\tH,W" ++ (decimal k ++ (codes "\n\tMVI\tB," ++ (decimal (turns_of k)
    ++ (codes "\nQ" ++ (decimal k ++ (codes ":\tINX\tH\n\tDCR\tB\n\tINX\tH\n\tJNZ\tQ" ++ (decimal k ++ codes "\n"))))))))) ≡ text_of_source (counting k)
counting_text k = text_is (counting k)

-- what the digits stand between
abbrev writing_form : List ℕ → List ℕ → List ℕ → List ℕ → List ℕ → List ℕ
writing_form letter two five k byte = codes "\tDAD\tH\n\tMVI\tE," ++ (letter ++ (codes "\n\tMVI\tC," ++ (two ++ (codes "\n\tJMP\t" ++ (five ++ (codes "\nW" ++ (k ++ (codes ":\tDB\t" ++ (byte ++ codes "\n")))))))))

pub writing_text : (k : ℕ) → writing_form (decimal (letter_of k)) (codes "2") (codes "5") (decimal k) (decimal (byte_of k)) ≡ text_of_source (writes_letter k)
writing_text k =
    let form : List ℕ → List ℕ → List ℕ = λ two five. writing_form (decimal (letter_of k)) two five (decimal k) (decimal (byte_of k)) in
    ap (λ (t : List ℕ). form t (codes "5")) (sym (decimal_digit 2 (omega arith)))
    ∙ ap (λ (t : List ℕ). form (decimal 2) t) (sym (decimal_digit 5 (omega arith)))
    ∙ text_is (writes_letter k)

-- ---- one more

text_append : (xs ys : List Written) → text_of_source (xs ++ ys) ≡ text_of_source xs ++ text_of_source ys
text_append xs ys = flat_map-append (λ (w : Written). line_text w ++ codes "\n") xs ys

pub routine_text : (k : ℕ) → text_of_source (counting k) ++ text_of_source (writes_letter k) ≡ text_of_source (routine k)
routine_text k = sym (text_append (counting k) (writes_letter k))

behind : (n : ℕ) → suc n - 1 ≡ n
behind n = omega arith

ahead : (n : ℕ) → suc n + 1 - 1 ≡ suc n
ahead n = omega arith

pub one_call_more : (n : ℕ) → 1 ≤ n → text_of_source (map call (up_to (n - 1))) ++ text_of_source (call n ∷ []) ≡ text_of_source (map call (up_to (n + 1 - 1)))
one_call_more zero some = absurd (omega arith)
one_call_more (suc n) some = rw (behind n, ahead n) (sym (ap text_of_source (map-append call (up_to n) (suc n ∷ [])) ∙ text_append (map call (up_to n)) (call (suc n) ∷ [])))

routines_more : (n : ℕ) → flat_map routine (up_to (suc n)) ≡ flat_map routine (up_to n) ++ routine (suc n)
routines_more n = flat_map-append routine (up_to n) (suc n ∷ []) ∙ ap (λ (t : List Written). flat_map routine (up_to n) ++ t) (append-nil (routine (suc n)))

pub one_routine_more : (n : ℕ) → 1 ≤ n → text_of_source (flat_map routine (up_to (n - 1))) ++ text_of_source (routine n) ≡ text_of_source (flat_map routine (up_to (n + 1 - 1)))
one_routine_more zero some = absurd (omega arith)
one_routine_more (suc n) some = rw (behind n, ahead n) (sym (ap text_of_source (routines_more n) ∙ text_append (flat_map routine (up_to n)) (routine (suc n))))

-- ---- the whole

abbrev whole_form : List ℕ → List ℕ → List ℕ → List ℕ
whole_form calls zero' routines = codes "\tORG\t100H\n" ++ (calls ++ (codes "\tJMP\t" ++ (zero' ++ (codes "\n" ++ (routines ++ codes "\tEND\n")))))

abbrev jump : List Written
jump = unlabelled (codes "JMP") (number 0 ∷ []) ∷ []

pub parts_text : (K : ℕ) → whole_form (text_of_source (map call (up_to K))) (codes "0") (text_of_source (flat_map routine (up_to K))) ≡ sample_text K
parts_text K =
    let calls = map call (up_to K) in
    let routines = flat_map routine (up_to K) in
    let last : List Written = unlabelled (codes "END") [] ∷ [] in
    let digit = ap (λ (t : List ℕ). whole_form (text_of_source calls) t (text_of_source routines)) (sym (decimal_digit 0 (omega arith))) in
    let jumped : text_of_source (jump ++ (routines ++ last)) ≡ codes "\tJMP\t" ++ (decimal 0 ++ (codes "\n" ++ text_of_source (routines ++ last))) =
    text_append jump (routines ++ last) ∙ text_moved jump (text_of_source (routines ++ last)) in
    let ended : text_of_source (jump ++ (routines ++ last)) ≡ codes "\tJMP\t" ++ (decimal 0 ++ (codes "\n" ++ (text_of_source routines ++ text_of_source last))) =
    jumped ∙ ap (λ (t : List ℕ). codes "\tJMP\t" ++ (decimal 0 ++ (codes "\n" ++ t))) (text_append routines last) in
    let called : text_of_source (calls ++ (jump ++ (routines ++ last))) ≡ text_of_source calls ++ (codes "\tJMP\t" ++ (decimal 0 ++ (codes "\n" ++ (text_of_source routines ++ text_of_source last)))) =
    text_append calls (jump ++ (routines ++ last)) ∙ ap (λ (t : List ℕ). text_of_source calls ++ t) ended in
    digit ∙ ap (λ (t : List ℕ). codes "\tORG\t100H\n" ++ t) (sym called)

pub parts_are : (K : ℕ) (calls routines : List ℕ) → calls ≡ text_of_source (map call (up_to K)) → routines ≡ text_of_source (flat_map routine (up_to K)) → whole_form calls (codes "0") routines ≡ sample_text K
parts_are K calls routines e f =
    ap (λ (t : List ℕ). whole_form t (codes "0") routines) e
    ∙ ap (λ (t : List ℕ). whole_form (text_of_source (map call (up_to K))) (codes "0") t) f
    ∙ parts_text K

-- a text to which another was added
pub joined : (front added a b all : List ℕ) {text : List ℕ} → text ≡ front ++ added → front ≡ a → added ≡ b → a ++ b ≡ all → text ≡ all
joined front added a b all e p q h = e ∙ ap (λ (t : List ℕ). t ++ added) p ∙ ap (λ (t : List ℕ). a ++ t) q ∙ h
