-- Statements in order, and one more.
use Rattle.std.proofs.Common.{◌≡◌, ℕ, ◌+◌, ◌==◌, ◌||◌, ◌&&◌, Bool, true, false, not, List, [], ◌∷◌, ◌++◌, refl, sym, ap, ◌∙◌, arith, min}
use Rattle.std.proofs.lemmas.List.Folds.{list_any-append}
use Rattle.std.specs.List.{list_any}
use Rattle.base.specs.Addresses.{has_address}
use Rattle.asm86_line_types.specs.declared.line.Stmt86.{Stmt86}
use Rattle.asm86_line_types.specs.declared.line.Stmt86.TheVariants.{Cseg, Dseg, Org, Rb, Db, Dw, Mark, Run, MovOffset, Jmp, Jmps, Jcc as JccTo, Call, EndText}
use Rattle.asm86_line_types.specs.declared.line.Value16.{Value16}
use Rattle.asm86_line_types.specs.Order.{Reading, reading_after, at_start, in_order, ends_text, has_no_statement, may_stand}
use Rattle.asm86_line_types.proofs.Sorting.{or_swap}
use Rattle.asm86.specs.declared.order.Order.{Order}
use Rattle.asm86.specs.declared.order.Group.TheVariants.{Neither}
use Rattle.asm86.specs.Place.{IsOrderAt, after_all, IsAfter}

one_step : (m e f i t a v : Bool) → (m && ((not e || f) && i)) ≡ true → t ≡ (not a && v) → (m && ((not e || false) && t)) ≡ (not (e || a) && v)
one_step false e f i t a v h k = absurd cc
one_step true true f i t a v h k = refl
one_step true false f i t a v h k = k

pub rest_in_order : (m e f i : Bool) → (m && ((not e || f) && i)) ≡ true → i ≡ true
rest_in_order false e f i h = absurd cc
rest_in_order true true false i h = absurd cc
rest_in_order true true true i h = h
rest_in_order true false f i h = h

alone : (m e : Bool) → (m && ((not e || true) && true)) ≡ m
alone true true = refl
alone true false = refl
alone false e = refl

not_empty : (xs : List Stmt86) (x : Stmt86) → has_no_statement (xs ++ x ∷ []) ≡ false
not_empty [] x = refl
not_empty (y ∷ xs) x = refl

-- a statement may stand behind others that are in order where END has not come, and it may stand after them
pub one_more : (r : Reading) (xs : List Stmt86) (x : Stmt86) → in_order r xs ≡ true → in_order r (xs ++ x ∷ []) ≡ (not (list_any ends_text xs) && may_stand (after_all r xs) x)
one_more r [] x h = alone (may_stand r x) (ends_text x)
one_more r (y ∷ xs) x h =
    rw (not_empty xs x) (one_step (may_stand r y) (ends_text y) (has_no_statement xs) (in_order (reading_after r y) xs) (in_order (reading_after r y) (xs ++ x ∷ [])) (list_any ends_text xs) (may_stand (after_all (reading_after r y) xs) x) h (one_more (reading_after r y) xs x (rest_in_order (may_stand r y) (ends_text y) (has_no_statement xs) (in_order (reading_after r y) xs) h)))

pub after_one_more : (r : Reading) (xs : List Stmt86) (x : Stmt86) → after_all r (xs ++ x ∷ []) ≡ reading_after (after_all r xs) x
after_one_more r [] x = refl
after_one_more r (y ∷ xs) x = after_one_more (reading_after r y) xs x

-- one more statement, where the order tells whether END has come
verdict_by : (order : Order) (xs : List Stmt86) (x : Stmt86) (came stands : Bool) → IsAfter order xs → order.is_ended ≡ came → stands ≡ (not came && may_stand (after_all at_start xs) x) → stands ≡ in_order at_start (xs ++ x ∷ [])
verdict_by order xs x came stands h o e = e ∙ rw (← o, h.ended) (sym (one_more at_start xs x h.in_order))

pub may_follow : (order : Order) (xs : List Stmt86) (x : Stmt86) (stands : Bool) → IsAfter order xs → order.is_ended ≡ false → stands ≡ may_stand (after_all at_start xs) x → stands ≡ in_order at_start (xs ++ x ∷ [])
may_follow order xs x stands h o e = verdict_by order xs x false stands h o e

pub none_follows : (order : Order) (xs : List Stmt86) (x : Stmt86) → IsAfter order xs → order.is_ended ≡ true → false ≡ in_order at_start (xs ++ x ∷ [])
none_follows order xs x h o = verdict_by order xs x true false h o refl

either_end : (a b : Bool) → (a || (b || false)) ≡ (a || b)
either_end true b = refl
either_end false true = refl
either_end false false = refl

pub moved : (old new : Order) (xs : List Stmt86) (x : Stmt86) → IsAfter old xs → in_order at_start (xs ++ x ∷ []) ≡ true → IsOrderAt new (reading_after (after_all at_start xs) x) → new.is_ended ≡ (old.is_ended || ends_text x) → IsAfter new (xs ++ x ∷ [])
moved old new xs x h i p e = record {
  in_order = i;
  place = rw (after_one_more at_start xs x) p;
  ended = e ∙ rw (h.ended, list_any-append ends_text xs (x ∷ [])) (sym (either_end (list_any ends_text xs) (ends_text x)));
}

-- a word's second cell is the one above its first
pub two_cells : (order : Order) (r : Reading) → IsOrderAt order (record r { at = (r.at + 1) + 1; filled = (r.at + 1) ∷ (r.at ∷ r.filled) }) → IsOrderAt order (record r { at = r.at + 2; filled = r.at ∷ ((r.at + 1) ∷ r.filled) })
two_cells order r h = record {
  group = h.group;
  code_came = h.code_came;
  data_came = h.data_came;
  at = h.at ∙ ap (λ (k : ℕ). min k 0x10000) (omega arith);
  filled = λ a lt. h.filled a lt ∙ or_swap (r.at + 1 == a) (r.at == a) (list_any (λ (b : ℕ). b == a) r.filled);
}

-- room in the data moves the address, which is kept as 65,536 where it is past memory
pub room_passed : (at x room w : ℕ) → at ≡ min x 0x10000 → room ≡ w → min (at + room) 0x10000 ≡ min (x + w) 0x10000
room_passed at x room w is same = omega arith

-- no statement of code moves it
pub code_stays :
    (r : Reading) (x : Stmt86) → (x ≡ Cseg → ⊥) → (x ≡ Dseg → ⊥) → ((w : ℕ) → x ≡ Org w → ⊥) → ((w : ℕ) → x ≡ Rb w → ⊥) → ((n : ℕ) → x ≡ Db n → ⊥) → ((v : Value16) → x ≡ Dw v → ⊥) → (x ≡ EndText → ⊥)
    → reading_after r x ≡ r
code_stays r Cseg cseg dseg org rb db dw end = absurd (cseg refl)
code_stays r Dseg cseg dseg org rb db dw end = absurd (dseg refl)
code_stays r (Org w) cseg dseg org rb db dw end = absurd (org w refl)
code_stays r (Rb w) cseg dseg org rb db dw end = absurd (rb w refl)
code_stays r (Db n) cseg dseg org rb db dw end = absurd (db n refl)
code_stays r (Dw v) cseg dseg org rb db dw end = absurd (dw v refl)
code_stays r (Mark l) cseg dseg org rb db dw end = refl
code_stays r (Run i) cseg dseg org rb db dw end = refl
code_stays r (MovOffset k l) cseg dseg org rb db dw end = refl
code_stays r (Jmp l) cseg dseg org rb db dw end = refl
code_stays r (Jmps l) cseg dseg org rb db dw end = refl
code_stays r (JccTo j l) cseg dseg org rb db dw end = refl
code_stays r (Call l) cseg dseg org rb db dw end = refl
code_stays r EndText cseg dseg org rb db dw end = absurd (end refl)

pub at_first : (order : Order) → order.group ≡ Neither → order.code_came ≡ false → order.data_came ≡ false → order.at ≡ 0 → order.is_ended ≡ false → ((a : ℕ) → has_address order.filled a ≡ false) → IsAfter order []
at_first order g c d a e f = record {
  in_order = refl;
  place = record { group = rw g refl; code_came = c; data_came = d; at = a; filled = λ b lt. f b };
  ended = e;
}

-- END alone ends the text
pub code_ends_nothing : (x : Stmt86) (ended : Bool) → (x ≡ EndText → ⊥) → ended ≡ (ended || ends_text x)
code_ends_nothing x true h = refl
code_ends_nothing EndText false h = absurd (h refl)
code_ends_nothing _ false h = refl

-- a statement that does not end the text, and one that does
pub goes_on : (x : Stmt86) (ended : Bool) → ends_text x ≡ false → ended ≡ (ended || ends_text x)
goes_on x true h = refl
goes_on x false h = sym h

pub comes_to_end : (x : Stmt86) (ended : Bool) → ends_text x ≡ true → true ≡ (ended || ends_text x)
comes_to_end x true h = refl
comes_to_end x false h = sym h
