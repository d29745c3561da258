-- Each line of the made source breaks no rule.
use Rattle.std.proofs.Common.{◌≡◌, ℕ, zero, suc, ◌+◌, ◌/◌, ◌<◌, ◌≤◌, not, ◌||◌, Bool, true, false, List, [], ◌∷◌, ◌++◌, length, Some, None, nat_lt, refl, ap, ◌∙◌, arith}
use Rattle.std.specs.List.{AllByRecursion}
use Rattle.std.specs.Fmt.{decimal}
use Rattle.asm80_types.specs.Words.{registers}
use Rattle.asm80_source_def.specs.Operations.{operation_table}
use Rattle.asm80_source_def.specs.Names.{Name, named, most_names}
use Rattle.asm80_source_def.specs.Walk.{Walk, WalkRow}
use Rattle.asm80_source_def.specs.Items.{starts_in, starts_at}
use Rattle.cmd_sample.specs.Sample.{turns_of, letter_of, byte_of}
use Rattle.cmd_sample.proofs.Labels.{label, start_of, names_to, IsDefinedAt, is_new, is_found, count_names, routine_defined, loop_defined, byte_defined}
use Rattle.cmd_sample.proofs.Spots.{Spot, row_of, rows_of}
use Rattle.cmd_sample.proofs.Faultless.{Fine, AreFine}
use Rattle.cmd_sample.proofs.Chain.{call_spot, calls_to, jump_spot, base_of, with_r, with_q, enter_spot, count_spot, loop_spot, down_spot, up_spot, again_spot, double_spot, letter_spot, function_spot, write_spot, byte_spot, new_q, new_w, room_r, room_q, room_w, routine_spots, routines_to, org_spot, end_spot, inner_spots}

-- a target that is 0 or 5
known_target : (b : Bool) → (not (b || true) || false) ≡ false
known_target true = refl
known_target false = refl

module _ (rs : List WalkRow) (end : Walk) where
  -- a line breaks no rule, whatever its number
  abbrev pub IsFine : Spot → Type 0
  IsFine x = (l : ℕ) → Fine rs end (row_of l x)

  abbrev pub AreFineSpots : List Spot → Type 0
  AreFineSpots xs = AllByRecursion IsFine xs

  pub fine_rows : (xs : List Spot) → AreFineSpots xs → (l : ℕ) → AreFine rs end (rows_of l xs)
  fine_rows [] h l = h
  fine_rows (x ∷ xs) h l = (h.0 l, fine_rows xs h.1 (suc l))

  pub fine_append : (xs ys : List Spot) → AreFineSpots xs → AreFineSpots ys → AreFineSpots (xs ++ ys)
  fine_append [] ys h k = k
  fine_append (x ∷ xs) ys h k = (h.0, fine_append xs ys h.1 k)

  -- ---- the lines round the routines

  org_fine : IsFine org_spot
  unfolding operation_table registers
  org_fine l = record { first = λ later e. refl; second = refl; native = refl; hits = refl; whole = refl; cells = refl }

  jump_fine : (K : ℕ) → IsFine (jump_spot K)
  unfolding operation_table registers
  jump_fine K l = record { first = λ later e. refl; second = refl; native = refl; hits = known_target (starts_at (starts_in rs) 0); whole = refl; cells = refl }

  end_fine : (K : ℕ) → IsFine (end_spot K)
  unfolding operation_table registers
  end_fine K l = record { first = λ later e. refl; second = refl; native = refl; hits = refl; whole = refl; cells = refl }

  call_fine : (k at : ℕ) → named end.names (82 ∷ decimal (suc k)) ≡ Some (label 82 (suc k) at) → starts_at (starts_in rs) at ≡ true → IsFine (call_spot k)
  unfolding operation_table registers
  call_fine k at found start l = record { first = λ later e. refl; second = rw found refl; native = refl; hits = rw (found, start) refl; whole = refl; cells = refl }

  -- ---- a routine

  module _ (ns : List Name) (k a : ℕ) where
    abbrev AlwaysNew : List Name → Name → Type 0
    AlwaysNew xs n = (named xs n.text ≡ None) × (nat_lt (length xs) most_names ≡ true)

    enter_fine : AlwaysNew ns (label 82 k a) → named end.names (87 ∷ decimal k) ≡ Some (label 87 k (a + 19)) → IsFine (enter_spot ns k a)
    unfolding operation_table registers
    enter_fine new found l = record { first = λ later e. rw (new.0, new.1) refl; second = rw found refl; native = refl; hits = refl; whole = refl; cells = refl }

    count_fine : IsFine (count_spot ns k a)
    unfolding operation_table registers
    count_fine l = record { first = λ later e. refl; second = (let small : turns_of k / 256 ≡ 0 = omega arith in rw small refl); native = refl; hits = refl; whole = refl; cells = refl }

    loop_fine : AlwaysNew (with_r ns k a) (label 81 k (a + 5)) → IsFine (loop_spot ns k a)
    unfolding operation_table registers
    loop_fine new l = record { first = λ later e. rw (new.0, new.1) refl; second = refl; native = refl; hits = refl; whole = refl; cells = refl }

    down_fine : IsFine (down_spot ns k a)
    unfolding operation_table registers
    down_fine l = record { first = λ later e. refl; second = refl; native = refl; hits = refl; whole = refl; cells = refl }

    up_fine : IsFine (up_spot ns k a)
    unfolding operation_table registers
    up_fine l = record { first = λ later e. refl; second = refl; native = refl; hits = refl; whole = refl; cells = refl }

    again_fine : named end.names (81 ∷ decimal k) ≡ Some (label 81 k (a + 5)) → starts_at (starts_in rs) (a + 5) ≡ true → IsFine (again_spot ns k a)
    unfolding operation_table registers
    again_fine found start l = record { first = λ later e. refl; second = rw found refl; native = refl; hits = rw (found, start) refl; whole = refl; cells = refl }

    double_fine : IsFine (double_spot ns k a)
    unfolding operation_table registers
    double_fine l = record { first = λ later e. refl; second = refl; native = refl; hits = refl; whole = refl; cells = refl }

    letter_fine : IsFine (letter_spot ns k a)
    unfolding operation_table registers
    letter_fine l = record { first = λ later e. refl; second = (let small : letter_of k / 256 ≡ 0 = omega arith in rw small refl); native = refl; hits = refl; whole = refl; cells = refl }

    function_fine : IsFine (function_spot ns k a)
    unfolding operation_table registers
    function_fine l = record { first = λ later e. refl; second = refl; native = refl; hits = refl; whole = refl; cells = refl }

    write_fine : IsFine (write_spot ns k a)
    unfolding operation_table registers
    write_fine l = record { first = λ later e. refl; second = refl; native = refl; hits = known_target (starts_at (starts_in rs) 5); whole = refl; cells = refl }

    byte_fine : AlwaysNew (with_q ns k a) (label 87 k (a + 19)) → IsFine (byte_spot ns k a)
    unfolding operation_table registers
    byte_fine new l = record { first = λ later e. rw (new.0, new.1) refl; second = (let small : byte_of k / 256 ≡ 0 = omega arith in rw small refl); native = refl; hits = refl; whole = refl; cells = refl }

    module _ (small : a + 20 < 0x10000) (count : length ns + 3 < 8192) (new : (c : ℕ) → named ns (c ∷ decimal k) ≡ None) where
      routine_fine :
          named end.names (81 ∷ decimal k) ≡ Some (label 81 k (a + 5)) → named end.names (87 ∷ decimal k) ≡ Some (label 87 k (a + 19)) → starts_at (starts_in rs) (a + 5) ≡ true
          → AreFineSpots (routine_spots ns k a)
      routine_fine loop_found byte_found start =
          let enter = enter_fine (new 82, room_r ns k a small count new) byte_found in
          let loop = loop_fine (new_q ns k a small count new, room_q ns k a small count new) in
          let byte = byte_fine (new_w ns k a small count new, room_w ns k a small count new) in
          (enter, (count_fine, (loop, (down_fine, (up_fine, (again_fine loop_found start, (double_fine, (letter_fine, (function_fine, (write_fine, (byte, tt)))))))))))

-- ---- all of them

module _ (K : ℕ) (rs : List WalkRow) (end : Walk) (at_most : K ≤ 500)
    (names : end.names ≡ names_to (base_of K) K)
    (routine_starts : (j : ℕ) → j < K → starts_at (starts_in rs) (start_of (base_of K) j) ≡ true)
    (loop_starts : (j : ℕ) → j < K → starts_at (starts_in rs) (start_of (base_of K) j + 5) ≡ true) where
  at_end : (at : ℕ → ℕ) (c j : ℕ) → IsDefinedAt at c → j < K → named end.names (c ∷ decimal (suc j)) ≡ Some (label c (suc j) (at (start_of (base_of K) j)))
  at_end at c j known less = ap (λ (ns : List Name). named ns (c ∷ decimal (suc j))) names ∙ is_found at c (base_of K) known K j less (omega arith)

  calls_fine : (n : ℕ) → n ≤ K → AreFineSpots rs end (calls_to n)
  unfolding calls_to
  calls_fine zero le = tt
  calls_fine (suc n) le =
      fine_append rs end (calls_to n) (call_spot n ∷ []) (calls_fine n (omega arith))
      (call_fine rs end n (start_of (base_of K) n) (at_end (λ a. a) 82 n routine_defined le) (routine_starts n le), tt)

  routines_fine : (n : ℕ) → n ≤ K → AreFineSpots rs end (routines_to (base_of K) n)
  unfolding routines_to
  routines_fine zero le = tt
  routines_fine (suc n) le =
      let base = base_of K in
      let a = start_of base n in
      let ns = names_to base n in
      let new : (c : ℕ) → named ns (c ∷ decimal (suc n)) ≡ None = λ c. is_new base n c (suc n) (omega arith) (omega arith) in
      let count : length ns + 3 < 8192 = omega (arith, count_names base n) in
      fine_append rs end (routines_to base n) (routine_spots ns (suc n) a) (routines_fine n (omega arith))
      (routine_fine rs end ns (suc n) a (omega arith) count new (at_end (λ x. x + 5) 81 n loop_defined le) (at_end (λ x. x + 19) 87 n byte_defined le) (loop_starts n le))

  pub all_fine : AreFineSpots rs end (org_spot ∷ (inner_spots K ++ end_spot K ∷ []))
  all_fine =
      let base = base_of K in
      let inner = fine_append rs end (calls_to K) (jump_spot K ∷ routines_to base K) (calls_fine K (omega arith)) (jump_fine rs end K, routines_fine K (omega arith)) in
      (org_fine rs end, fine_append rs end (inner_spots K) (end_spot K ∷ []) inner (end_fine rs end K, tt))
