-- Bytes by their addresses: one put to its place, and all of them listed.
use Rattle.std.proofs.Common.{◌≡◌, ℕ, zero, suc, ◌+◌, ◌-◌, ◌<◌, ◌≤◌, List, [], ◌∷◌, ◌++◌, length, set, take, replicate, get_or, Option, None, Some, refl, sym, ap, ◌∙◌, arith, append-nil}
use Rattle.std.proofs.lemmas.Bool.Decides.{nat_tests}
use Rattle.std.proofs.lemmas.List.{take_more, take_all, length-take-le}
use Rattle.std.specs.BTreeMap.{insert_entry}
use Rattle.std.specs.List.{AllByRecursion}
use Rattle.std.specs.List.Sorted.{IsStrictlySortedBy}
use Rattle.std.specs.Map.{keys_of}
use Rattle.std.specs.Ordering.{nat_cmp, match_ordering}
use Rattle.std.specs.declared.cmp.Ordering.{Ordering}
use Rattle.std.specs.declared.cmp.Ordering.TheVariants.{Less, Equal, Greater}
use Rattle.base.specs.Addressed.{byte_cells_from}

is_less : (a b : ℕ) → a < b → nat_cmp a b ≡ Less
is_less a b h = grind (arith, nat_tests)

is_equal : (a : ℕ) → nat_cmp a a ≡ Equal
is_equal a = grind (arith, nat_tests)

is_greater : (a b : ℕ) → b < a → nat_cmp a b ≡ Greater
is_greater a b h = grind (arith, nat_tests)

-- ---- room for more addresses

none_there : (at n : ℕ) → byte_cells_from at (replicate n None) ≡ []
none_there at zero = refl
none_there at (suc n) = none_there (at + 1) n

none_behind : (at n : ℕ) (bytes : List (Option ℕ)) → byte_cells_from at (bytes ++ replicate n None) ≡ byte_cells_from at bytes
none_behind at n [] = none_there at n
none_behind at n (None ∷ bytes) = none_behind (at + 1) n bytes
none_behind at n (Some byte ∷ bytes) = ap (λ cells. (at, byte) ∷ cells) (none_behind (at + 1) n bytes)

pub more_room : (place len : ℕ) (old new : List (Option ℕ)) → length old ≤ place → new ≡ take (place + 1) old ++ replicate (place + 1 - len) None → byte_cells_from 0 new ≡ byte_cells_from 0 old
more_room place len old new below is =
    ap (byte_cells_from 0) (is ∙ ap (λ xs. xs ++ replicate (place + 1 - len) None) (take_all (place + 1) old (omega arith)))
    ∙ none_behind 0 (place + 1 - len) old

-- ---- a byte put to its place

put_first : (k at byte : ℕ) (bytes : List (Option ℕ)) → k < at → (k, byte) ∷ byte_cells_from at bytes ≡ insert_entry nat_cmp (byte_cells_from at bytes) k byte
put_first k at byte [] lt = refl
put_first k at byte (None ∷ bytes) lt = put_first k (at + 1) byte bytes (omega arith)
put_first k at byte (Some old ∷ bytes) lt =
    ap (λ (o : Ordering). match_ordering o ((k, byte) ∷ (at, old) ∷ byte_cells_from (at + 1) bytes) ((at, byte) ∷ byte_cells_from (at + 1) bytes) ((at, old) ∷ insert_entry nat_cmp (byte_cells_from (at + 1) bytes) k byte)) (sym (is_less k at lt))

put_at : (at k byte : ℕ) (bytes : List (Option ℕ)) → k < length bytes → byte_cells_from at (set bytes k (Some byte)) ≡ insert_entry nat_cmp (byte_cells_from at bytes) (at + k) byte
put_at at k byte [] lt = absurd (omega arith)
put_at at zero byte (None ∷ bytes) lt =
    let here : at + 0 ≡ at = omega arith in
    rw here (put_first at (at + 1) byte bytes (omega arith))
put_at at zero byte (Some old ∷ bytes) lt =
    let here : at + 0 ≡ at = omega arith in
    rw here (ap (λ (o : Ordering). match_ordering o ((at, byte) ∷ (at, old) ∷ byte_cells_from (at + 1) bytes) ((at, byte) ∷ byte_cells_from (at + 1) bytes) ((at, old) ∷ insert_entry nat_cmp (byte_cells_from (at + 1) bytes) at byte)) (sym (is_equal at)))
put_at at (suc k) byte (None ∷ bytes) lt =
    let here : at + 1 + k ≡ at + suc k = omega arith in
    put_at (at + 1) k byte bytes (omega arith) ∙ ap (λ a. insert_entry nat_cmp (byte_cells_from (at + 1) bytes) a byte) here
put_at at (suc k) byte (Some old ∷ bytes) lt =
    let here : at + 1 + k ≡ at + suc k = omega arith in
    ap (λ cells. (at, old) ∷ cells) (put_at (at + 1) k byte bytes (omega arith) ∙ ap (λ a. insert_entry nat_cmp (byte_cells_from (at + 1) bytes) a byte) here)
    ∙ ap (λ (o : Ordering). match_ordering o ((at + suc k, byte) ∷ (at, old) ∷ byte_cells_from (at + 1) bytes) ((at, byte) ∷ byte_cells_from (at + 1) bytes) ((at, old) ∷ insert_entry nat_cmp (byte_cells_from (at + 1) bytes) (at + suc k) byte)) (sym (is_greater (at + suc k) at (omega arith)))

pub put_in : (bytes : List (Option ℕ)) (cells : List (ℕ × ℕ)) (place byte : ℕ) → place < length bytes → byte_cells_from 0 bytes ≡ cells → byte_cells_from 0 (set bytes place (Some byte)) ≡ insert_entry nat_cmp cells place byte
put_in bytes cells place byte lt is =
    let here : 0 + place ≡ place = omega arith in
    put_at 0 place byte bytes lt ∙ ap (λ a. insert_entry nat_cmp (byte_cells_from 0 bytes) a byte) here ∙ ap (λ xs. insert_entry nat_cmp xs place byte) is

-- ---- all of them

abbrev cells_at : ℕ → Option ℕ → List (ℕ × ℕ)
cells_at at None = []
cells_at at (Some byte) = (at, byte) ∷ []

one_more : (at : ℕ) (bytes : List (Option ℕ)) (o : Option ℕ) → byte_cells_from at (bytes ++ o ∷ []) ≡ byte_cells_from at bytes ++ cells_at (at + length bytes) o
one_more at [] None = refl
one_more at [] (Some byte) = let here : at ≡ at + 0 = omega arith in ap (λ a. (a, byte) ∷ []) here
one_more at (None ∷ bytes) o =
    let there : at + 1 + length bytes ≡ at + suc (length bytes) = omega arith in
    one_more (at + 1) bytes o ∙ ap (λ a. byte_cells_from (at + 1) bytes ++ cells_at a o) there
one_more at (Some byte ∷ bytes) o =
    let there : at + 1 + length bytes ≡ at + suc (length bytes) = omega arith in
    ap (λ cells. (at, byte) ∷ cells) (one_more (at + 1) bytes o ∙ ap (λ a. byte_cells_from (at + 1) bytes ++ cells_at a o) there)

module _ (bytes : List (Option ℕ)) (i : ℕ) (lt : i < length bytes) where
  taken_more : byte_cells_from 0 (take (i + 1) bytes) ≡ byte_cells_from 0 (take i bytes) ++ cells_at i (get_or bytes i None)
  taken_more =
      let long : length (take i bytes) ≡ i = length-take-le i bytes (omega arith) in
      let there : 0 + length (take i bytes) ≡ i = omega (arith, long) in
      ap (byte_cells_from 0) (take_more bytes i None lt) ∙ one_more 0 (take i bytes) (get_or bytes i None) ∙ ap (λ n. byte_cells_from 0 (take i bytes) ++ cells_at n (get_or bytes i None)) there

  pub some_more : (byte : ℕ) (old new : List (ℕ × ℕ)) → get_or bytes i None ≡ Some byte → old ≡ byte_cells_from 0 (take i bytes) → new ≡ old ++ (i, byte) ∷ [] → new ≡ byte_cells_from 0 (take (i + 1) bytes)
  some_more byte old new is so_far pushed =
      pushed ∙ ap (λ cells. cells ++ (i, byte) ∷ []) so_far ∙ sym (taken_more ∙ ap (λ o. byte_cells_from 0 (take i bytes) ++ cells_at i o) is)

  pub none_more : (old : List (ℕ × ℕ)) → get_or bytes i None ≡ None → old ≡ byte_cells_from 0 (take i bytes) → old ≡ byte_cells_from 0 (take (i + 1) bytes)
  none_more old is so_far = so_far ∙ sym (taken_more ∙ ap (λ o. byte_cells_from 0 (take i bytes) ++ cells_at i o) is ∙ append-nil (byte_cells_from 0 (take i bytes)))

above : (k at : ℕ) (bytes : List (Option ℕ)) → k < at → AllByRecursion (λ a. nat_cmp k a ≡ Less) (keys_of (byte_cells_from at bytes))
above k at [] lt = tt
above k at (None ∷ bytes) lt = above k (at + 1) bytes (omega arith)
above k at (Some byte ∷ bytes) lt = (is_less k at lt, above k (at + 1) bytes (omega arith))

pub ascend : (at : ℕ) (bytes : List (Option ℕ)) → IsStrictlySortedBy nat_cmp (keys_of (byte_cells_from at bytes))
unfolding IsStrictlySortedBy
ascend at [] = tt
ascend at (None ∷ bytes) = ascend (at + 1) bytes
ascend at (Some byte ∷ bytes) = (above at (at + 1) bytes (omega arith), ascend (at + 1) bytes)
