-- The lines of the made source as places of the walk.
use Rattle.std.proofs.Common.{◌≡◌, ℕ, zero, suc, ◌+◌, ◌*◌, ◌%◌, ◌<◌, ◌≤◌, codes, List, [], ◌∷◌, ◌++◌, length, map, None, nat_lt, refl, sym, ap, ap₂, ◌∙◌, append_assoc, append-nil, subst, true, arith}
use Rattle.std.specs.List.{flat_map}
use Rattle.std.specs.Fmt.{decimal}
use Rattle.std.proofs.lemmas.Bool.{lt-ltb}
use Rattle.std.proofs.lemmas.Grind.{flat_map-append}
use Rattle.std.proofs.lemmas.List.{map-append, length_push}
use Rattle.asm80_source_def.specs.Operations.{operation_table}
use Rattle.asm80_source_def.specs.Names.{Name, named, most_names, defined}
use Rattle.asm80_source_def.specs.Walk.{Walk}
use Rattle.cmd_sample.specs.Written.{Written, name, number, labelled, unlabelled}
use Rattle.cmd_sample.specs.Sample.{up_to, routine_label, loop_label, byte_label, turns_of, letter_of, byte_of, call, routine, begin, sample_lines}
use Rattle.cmd_sample.proofs.Labels.{label, with_name, with_routine, start_of, names_to, still_new, is_defined, is_new, count_names}
use Rattle.cmd_sample.proofs.Spots.{walk_at, Spot, spot, walk_of, lines_of, Leads, Goes, stays, steps, joined, Ends}

-- ---- the places

abbrev pub call_spot : ℕ → Spot
call_spot k = spot (0x100 + 3 * k) 3 [] (call (suc k))

unfoldable pub calls_to : ℕ → List Spot
calls_to zero = []
calls_to (suc k) = calls_to k ++ call_spot k ∷ []

-- behind the calls, and where the first routine begins
abbrev pub behind_calls : ℕ → ℕ
behind_calls K = 0x100 + 3 * K

abbrev pub base_of : ℕ → ℕ
base_of K = 0x103 + 3 * K

abbrev pub jump_line : Written
jump_line = unlabelled (codes "JMP") (number 0 ∷ [])

abbrev pub jump_spot : ℕ → Spot
jump_spot K = spot (behind_calls K) 3 [] jump_line

-- the names behind the first line of routine k, and behind its loop's label, by those before it and where it begins
abbrev pub with_r : List Name → ℕ → ℕ → List Name
with_r ns k a = with_name ns (label 82 k a)

abbrev pub with_q : List Name → ℕ → ℕ → List Name
with_q ns k a = with_name (with_r ns k a) (label 81 k (a + 5))

abbrev pub enter_spot : List Name → ℕ → ℕ → Spot
enter_spot ns k a = spot a 3 ns (labelled (routine_label k) (codes "LXI") (name (codes "H") ∷ name (byte_label k) ∷ []))

abbrev pub count_spot : List Name → ℕ → ℕ → Spot
count_spot ns k a = spot (a + 3) 2 (with_r ns k a) (unlabelled (codes "MVI") (name (codes "B") ∷ number (turns_of k) ∷ []))

abbrev pub loop_spot : List Name → ℕ → ℕ → Spot
loop_spot ns k a = spot (a + 5) 1 (with_r ns k a) (labelled (loop_label k) (codes "INX") (name (codes "H") ∷ []))

abbrev pub down_spot : List Name → ℕ → ℕ → Spot
down_spot ns k a = spot (a + 6) 1 (with_q ns k a) (unlabelled (codes "DCR") (name (codes "B") ∷ []))

abbrev pub up_spot : List Name → ℕ → ℕ → Spot
up_spot ns k a = spot (a + 7) 1 (with_q ns k a) (unlabelled (codes "INX") (name (codes "H") ∷ []))

abbrev pub again_spot : List Name → ℕ → ℕ → Spot
again_spot ns k a = spot (a + 8) 3 (with_q ns k a) (unlabelled (codes "JNZ") (name (loop_label k) ∷ []))

abbrev pub double_spot : List Name → ℕ → ℕ → Spot
double_spot ns k a = spot (a + 11) 1 (with_q ns k a) (unlabelled (codes "DAD") (name (codes "H") ∷ []))

abbrev pub letter_spot : List Name → ℕ → ℕ → Spot
letter_spot ns k a = spot (a + 12) 2 (with_q ns k a) (unlabelled (codes "MVI") (name (codes "E") ∷ number (letter_of k) ∷ []))

abbrev pub function_spot : List Name → ℕ → ℕ → Spot
function_spot ns k a = spot (a + 14) 2 (with_q ns k a) (unlabelled (codes "MVI") (name (codes "C") ∷ number 2 ∷ []))

abbrev pub write_spot : List Name → ℕ → ℕ → Spot
write_spot ns k a = spot (a + 16) 3 (with_q ns k a) (unlabelled (codes "JMP") (number 5 ∷ []))

abbrev pub byte_spot : List Name → ℕ → ℕ → Spot
byte_spot ns k a = spot (a + 19) 1 (with_q ns k a) (labelled (byte_label k) (codes "DB") (number (byte_of k) ∷ []))

abbrev pub routine_spots : List Name → ℕ → ℕ → List Spot
routine_spots ns k a =
    enter_spot ns k a
    ∷ count_spot ns k a
    ∷ loop_spot ns k a
    ∷ down_spot ns k a
    ∷ up_spot ns k a
    ∷ again_spot ns k a
    ∷ double_spot ns k a
    ∷ letter_spot ns k a
    ∷ function_spot ns k a
    ∷ write_spot ns k a
    ∷ byte_spot ns k a
    ∷ []

unfoldable pub routines_to : ℕ → ℕ → List Spot
routines_to base zero = []
routines_to base (suc n) = routines_to base n ++ routine_spots (names_to base n) (suc n) (start_of base n)

abbrev pub org_spot : Spot
org_spot = spot 0 0 [] (unlabelled (codes "ORG") (begin ∷ []))

abbrev pub end_spot : ℕ → Spot
end_spot K = spot (start_of (base_of K) K) 0 (names_to (base_of K) K) (unlabelled (codes "END") [])

abbrev pub inner_spots : ℕ → List Spot
inner_spots K = calls_to K ++ (jump_spot K ∷ routines_to (base_of K) K)

-- ---- they are the lines

calls_are : (n : ℕ) → lines_of (calls_to n) ≡ map call (up_to n)
unfolding calls_to
calls_are zero = refl
calls_are (suc n) =
    map-append (λ (x : Spot). x.line) (calls_to n) (call_spot n ∷ [])
    ∙ ap (λ (xs : List Written). xs ++ call (suc n) ∷ []) (calls_are n) ∙ sym (map-append call (up_to n) (suc n ∷ []))

routines_are : (base n : ℕ) → lines_of (routines_to base n) ≡ flat_map routine (up_to n)
unfolding routines_to
routines_are base zero = refl
routines_are base (suc n) =
    map-append (λ (x : Spot). x.line) (routines_to base n) (routine_spots (names_to base n) (suc n) (start_of base n))
    ∙ ap₂ (λ (xs ys : List Written). xs ++ ys) (routines_are base n) (sym (append-nil (routine (suc n))))
    ∙ sym (flat_map-append routine (up_to n) (suc n ∷ []))

pub lines_are : (K : ℕ) → lines_of (org_spot ∷ (inner_spots K ++ end_spot K ∷ [])) ≡ sample_lines K
lines_are K =
    let xs = calls_to K in
    let ys = routines_to (base_of K) K in
    let z = end_spot K in
    let parts : lines_of ((xs ++ (jump_spot K ∷ ys)) ++ z ∷ []) ≡ map call (up_to K) ++ (jump_line ∷ (flat_map routine (up_to K) ++ (unlabelled (codes "END") [] ∷ []))) =
    ap lines_of (append_assoc xs (jump_spot K ∷ ys) (z ∷ []))
    ∙ map-append (λ (x : Spot). x.line) xs (jump_spot K ∷ (ys ++ z ∷ []))
    ∙ ap₂ (λ (us vs : List Written). us ++ (jump_line ∷ vs)) (calls_are K) (map-append (λ (x : Spot). x.line) ys (z ∷ []) ∙ ap (λ (us : List Written). us ++ (unlabelled (codes "END") [] ∷ [])) (routines_are (base_of K) K)) in
    ap (λ (us : List Written). org_spot.line ∷ us) parts

-- ---- the walk from each to the next

next : (a size b : ℕ) → a + size ≡ b → b < 0x10000 → (a + size) % 0x10000 ≡ b
next a size b e less = omega arith

-- a line without a label
abbrev moved : ℕ → ℕ → List Name → Walk
moved a size ns = walk_at ((a + size) % 0x10000) ns

moves : (a size b : ℕ) (ns : List Name) → a + size ≡ b → b < 0x10000 → moved a size ns ≡ walk_at b ns
moves a size b ns e less = ap (λ x. walk_at x ns) (next a size b e less)

-- a line with one
defines : (a size b : ℕ) (ns : List Name) (n : Name) → named ns n.text ≡ None → nat_lt (length ns) most_names ≡ true → a + size ≡ b → b < 0x10000 → walk_at ((a + size) % 0x10000) (defined ns n) ≡ walk_at b (with_name ns n)
defines a size b ns n new room e less = ap₂ (λ x y. walk_at x y) (next a size b e less) (is_defined ns n new room)

call_leads : (k : ℕ) → k < 500 → Leads (call_spot k) (walk_at (0x100 + 3 * suc k) [])
unfolding operation_table
call_leads k less = record { goes_on = λ l. refl; leads = λ l. moves (0x100 + 3 * k) 3 (0x100 + 3 * suc k) [] (omega arith) (omega arith); size = λ l. refl; next = omega arith }

jump_leads : (K : ℕ) → K ≤ 500 → Leads (jump_spot K) (walk_at (base_of K) [])
unfolding operation_table
jump_leads K le = record { goes_on = λ l. refl; leads = λ l. moves (behind_calls K) 3 (base_of K) [] (omega arith) (omega arith); size = λ l. refl; next = omega arith }

pub calls_go : (n : ℕ) → n ≤ 500 → Goes (walk_at 0x100 []) (calls_to n) (walk_at (0x100 + 3 * n) [])
unfolding calls_to
calls_go zero le = stays
calls_go (suc n) le = joined (calls_go n (omega arith)) (steps (call_leads n le) stays)

-- a routine
module _ (ns : List Name) (k a : ℕ) (small : a + 20 < 0x10000) (count : length ns + 3 < 8192) (new : (c : ℕ) → named ns (c ∷ decimal k) ≡ None) where
  pub new_q : named (with_r ns k a) (81 ∷ decimal k) ≡ None
  new_q = still_new ns (label 82 k a) (81 ∷ decimal k) (new 81) refl

  pub new_w : named (with_q ns k a) (87 ∷ decimal k) ≡ None
  new_w = still_new (with_r ns k a) (label 81 k (a + 5)) (87 ∷ decimal k) (still_new ns (label 82 k a) (87 ∷ decimal k) (new 87) refl) refl

  pub room_r : nat_lt (length ns) most_names ≡ true
  room_r = lt-ltb (length ns) most_names (omega arith)

  pub room_q : nat_lt (length (with_r ns k a)) most_names ≡ true
  room_q = lt-ltb (length (with_r ns k a)) most_names (let e = length_push ns (label 82 k a) in omega arith)

  pub room_w : nat_lt (length (with_q ns k a)) most_names ≡ true
  room_w =
      let e = length_push ns (label 82 k a) in
      let d = length_push (with_r ns k a) (label 81 k (a + 5)) in
      lt-ltb (length (with_q ns k a)) most_names (omega arith)

  enter_leads : Leads (enter_spot ns k a) (walk_at (a + 3) (with_r ns k a))
  unfolding operation_table
  enter_leads = record { goes_on = λ l. refl; leads = λ l. defines a 3 (a + 3) ns (label 82 k a) (new 82) room_r (omega arith) (omega arith); size = λ l. refl; next = omega arith }

  count_leads : Leads (count_spot ns k a) (walk_at (a + 5) (with_r ns k a))
  unfolding operation_table
  count_leads = record { goes_on = λ l. refl; leads = λ l. moves (a + 3) 2 (a + 5) (with_r ns k a) (omega arith) (omega arith); size = λ l. refl; next = omega arith }

  loop_leads : Leads (loop_spot ns k a) (walk_at (a + 6) (with_q ns k a))
  unfolding operation_table
  loop_leads = record { goes_on = λ l. refl; leads = λ l. defines (a + 5) 1 (a + 6) (with_r ns k a) (label 81 k (a + 5)) new_q room_q (omega arith) (omega arith); size = λ l. refl; next = omega arith }

  down_leads : Leads (down_spot ns k a) (walk_at (a + 7) (with_q ns k a))
  unfolding operation_table
  down_leads = record { goes_on = λ l. refl; leads = λ l. moves (a + 6) 1 (a + 7) (with_q ns k a) (omega arith) (omega arith); size = λ l. refl; next = omega arith }

  up_leads : Leads (up_spot ns k a) (walk_at (a + 8) (with_q ns k a))
  unfolding operation_table
  up_leads = record { goes_on = λ l. refl; leads = λ l. moves (a + 7) 1 (a + 8) (with_q ns k a) (omega arith) (omega arith); size = λ l. refl; next = omega arith }

  again_leads : Leads (again_spot ns k a) (walk_at (a + 11) (with_q ns k a))
  unfolding operation_table
  again_leads = record { goes_on = λ l. refl; leads = λ l. moves (a + 8) 3 (a + 11) (with_q ns k a) (omega arith) (omega arith); size = λ l. refl; next = omega arith }

  double_leads : Leads (double_spot ns k a) (walk_at (a + 12) (with_q ns k a))
  unfolding operation_table
  double_leads = record { goes_on = λ l. refl; leads = λ l. moves (a + 11) 1 (a + 12) (with_q ns k a) (omega arith) (omega arith); size = λ l. refl; next = omega arith }

  letter_leads : Leads (letter_spot ns k a) (walk_at (a + 14) (with_q ns k a))
  unfolding operation_table
  letter_leads = record { goes_on = λ l. refl; leads = λ l. moves (a + 12) 2 (a + 14) (with_q ns k a) (omega arith) (omega arith); size = λ l. refl; next = omega arith }

  function_leads : Leads (function_spot ns k a) (walk_at (a + 16) (with_q ns k a))
  unfolding operation_table
  function_leads = record { goes_on = λ l. refl; leads = λ l. moves (a + 14) 2 (a + 16) (with_q ns k a) (omega arith) (omega arith); size = λ l. refl; next = omega arith }

  write_leads : Leads (write_spot ns k a) (walk_at (a + 19) (with_q ns k a))
  unfolding operation_table
  write_leads = record { goes_on = λ l. refl; leads = λ l. moves (a + 16) 3 (a + 19) (with_q ns k a) (omega arith) (omega arith); size = λ l. refl; next = omega arith }

  byte_leads : Leads (byte_spot ns k a) (walk_at (a + 20) (with_routine ns k a))
  unfolding operation_table
  byte_leads = record { goes_on = λ l. refl; leads = λ l. defines (a + 19) 1 (a + 20) (with_q ns k a) (label 87 k (a + 19)) new_w room_w (omega arith) (omega arith); size = λ l. refl; next = omega arith }

  pub routine_goes : Goes (walk_at a ns) (routine_spots ns k a) (walk_at (a + 20) (with_routine ns k a))
  routine_goes = steps enter_leads (steps count_leads (steps loop_leads (steps down_leads (steps up_leads (steps again_leads (steps double_leads (steps letter_leads (steps function_leads (steps write_leads (steps byte_leads stays))))))))))

pub routines_go : (base n : ℕ) → n ≤ 500 → base ≤ 0x103 + 1500 → Goes (walk_at base []) (routines_to base n) (walk_at (start_of base n) (names_to base n))
unfolding routines_to names_to
routines_go base zero le low = subst (λ x. Goes (walk_at base []) [] (walk_at x [])) (omega arith) stays
routines_go base (suc n) le low =
    let a = start_of base n in
    let here = routine_goes (names_to base n) (suc n) a (omega arith) (omega (arith, count_names base n)) (λ c. is_new base n c (suc n) (omega arith) (omega arith)) in
    joined (routines_go base n (omega arith) low)
    (subst (λ x. Goes (walk_at a (names_to base n)) (routine_spots (names_to base n) (suc n) a) (walk_at x (with_routine (names_to base n) (suc n) a))) (omega arith) here)

pub inner_goes : (K : ℕ) → K ≤ 500 → Goes (walk_at 0x100 []) (inner_spots K) (walk_of (end_spot K))
inner_goes K le = joined (calls_go K le) (steps (jump_leads K le) (routines_go (base_of K) K le (omega arith)))

-- ---- the first line and the last

abbrev pub walk_end : ℕ → Walk
walk_end K = walk_at ((start_of (base_of K) K + 0) % 0x10000) (names_to (base_of K) K)

pub end_ends : (K : ℕ) → Ends (end_spot K) (walk_end K)
unfolding operation_table
end_ends K = record { ends = λ l. refl; leads = λ l. refl }
