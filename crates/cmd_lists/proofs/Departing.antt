-- The places of a program and their lines, and what stands once they were said.
use Rattle.std.proofs.Common.{◌≡◌, ◌∙◌, ℕ, ◌+◌, ◌<◌, true, List, [], ◌∷◌, ◌++◌, length, length-append, get_or, take, refl, sym, ap, subst, arith}
use Rattle.std.specs.Prelude.{codes, All}
use Rattle.std.specs.Fmt.{decimal}
use Rattle.std.proofs.lemmas.List.{take_more}
use Rattle.std.proofs.lemmas.List.Elements.{All-append, All-cons, All-get_or, All-from_get_or}
use Rattle.std.proofs.lemmas.Option.{same_Some}
use Rattle.cells.specs.declared.Rule.TheVariants.{P1}
use Rattle.host.specs.Host.{HostState, Says, said_more}
use Rattle.asm80_types.specs.Program.{Program, is_start}
use Rattle.asm80_types.proofs.Lookup.{start_is}
use Rattle.flow.specs.Blocks.{place_after, BlocksCut}
use Rattle.profile_leaving.specs.declared.departure.Certainty.TheVariants.{Sure}
use Rattle.profile_leaving.specs.declared.departure.Departure.{Departure}
use Rattle.profile_leaving.specs.Leaving.{leaving}
use Rattle.flow.proofs.Further.{instr_behind}
use Rattle.profile_leaving.specs.Left.{PlaceIsLeft, PlacesAreLeft, PlacesAscend}
use Rattle.cmd_arguments.specs.Words.{Listing}
use Rattle.cmd_common.specs.Names.{one_name}
use Rattle.cmd_common.specs.Lines.{word_digits, profile_rule, leaves_line}
use Rattle.cmd_common.specs.Said.{IsDone, whole, failed, no_memory}
use Rattle.cmd_common.specs.Makes.{HasMade, MakeGives, made, stopped}
use Rattle.cmd_common.proofs.Said.{never_0}
use Rattle.cmd_lists.specs.Departures.{certainty_text, departure_line, IsDepartureLine, AreLinesOfPlaces, AreDepartureLines, leaves_kind, HasDepartures}

-- ---- an instruction starts at each place

abbrev pub any_departure : Departure
any_departure = record { at = 0; rule = P1; certainty = Sure }

starts_there : (p : Program) → BlocksCut p → (x : Departure) → PlaceIsLeft p x → is_start p x.at ≡ true
starts_there p cut x h =
    let i = instr_behind p h.first h.count h.before (cut.straight h.first h.count h.block) h.within in
    subst (λ a. is_start p a ≡ true) h.place (start_is p (place_after p h.first h.before) i.0 i.1)

pub all_start : (p : Program) → BlocksCut p → (xs : List Departure) → All (PlaceIsLeft p) xs → All (λ (x : Departure). is_start p x.at ≡ true) xs
all_start p cut xs h =
    All-from_get_or (λ (x : Departure). is_start p x.at ≡ true) xs any_departure
    (λ i lt. starts_there p cut (get_or xs i any_departure) (All-get_or (PlaceIsLeft p) xs i any_departure lt h))

-- ---- one line more

lines-append : (p : Program) (xs : List Departure) (ls : List (List ℕ)) (x : Departure) (l : List ℕ) → AreLinesOfPlaces p xs ls → IsDepartureLine p x l → AreLinesOfPlaces p (xs ++ x ∷ []) (ls ++ l ∷ [])
lines-append p [] [] x l are is = (is, tt)
lines-append p [] (m ∷ ls) x l are is = absurd are
lines-append p (y ∷ xs) [] x l are is = absurd are
lines-append p (y ∷ xs) (m ∷ ls) x l are is = (are.0, lines-append p xs ls x l are.1 is)

pub one_more : (p : Program) (xs : List Departure) (i : ℕ) (d : Departure) (ls : List (List ℕ)) (l : List ℕ) → i < length xs → AreLinesOfPlaces p (take i xs) ls → IsDepartureLine p (get_or xs i d) l → AreLinesOfPlaces p (take (i + 1) xs) (ls ++ l ∷ [])
one_more p xs i d ls l lt are is = subst (λ ys. AreLinesOfPlaces p ys (ls ++ l ∷ [])) (sym (take_more xs i d lt)) (lines-append p (take i xs) ls (get_or xs i d) l are is)

-- ---- no line is empty

some_line : (x : Departure) (n : ℕ) → 0 < length (departure_line x n)
some_line x n = omega (arith, length-append (word_digits x.at) (codes " line " ++ (decimal n ++ (codes ": " ++ (certainty_text x.certainty ++ (profile_rule x.rule ++ codes "\n"))))))

some_of_places : (p : Program) (xs : List Departure) (ls : List (List ℕ)) → AreLinesOfPlaces p xs ls → All (λ (l : List ℕ). 0 < length l) ls
some_of_places p [] [] h = λ k d lt. absurd (omega (arith, lt))
some_of_places p [] (l ∷ ls) h = absurd h
some_of_places p (x ∷ xs) [] h = absurd h
some_of_places p (x ∷ xs) (l ∷ ls) h =
    All-cons (λ (l : List ℕ). 0 < length l) l ls (subst (λ m. 0 < length m) (sym h.0.is) (some_line x h.0.number)) (some_of_places p xs ls h.1)

pub lines_some : (p : Program) (ls : List (List ℕ)) → AreDepartureLines p ls → All (λ (l : List ℕ). 0 < length l) ls
lines_some p ls h =
    let P : List ℕ → Type 0 = λ l. 0 < length l in
    let last = leaves_line (length (leaving p)) (length p.instrs) in
    subst (All P) (sym h.is)
    (All-append P h.places (last ∷ []) (some_of_places p (leaving p) h.places h.are) (All-cons P last [] (omega arith) (λ k d lt. absurd (omega (arith, lt)))))

-- ---- a program has one list

same_line : (p : Program) (x : Departure) (a b : List ℕ) → IsDepartureLine p x a → IsDepartureLine p x b → a ≡ b
same_line p x a b h i = h.is ∙ ap (departure_line x) (same_Some _ _ (sym h.place ∙ i.place)) ∙ sym i.is

same_lines : (p : Program) (xs : List Departure) (ls ms : List (List ℕ)) → AreLinesOfPlaces p xs ls → AreLinesOfPlaces p xs ms → ls ≡ ms
same_lines p [] [] [] h i = refl
same_lines p [] [] (m ∷ ms) h i = absurd i
same_lines p [] (l ∷ ls) ms h i = absurd h
same_lines p (x ∷ xs) [] ms h i = absurd h
same_lines p (x ∷ xs) (l ∷ ls) [] h i = absurd i
same_lines p (x ∷ xs) (l ∷ ls) (m ∷ ms) h i = ap (λ k. k ∷ ls) (same_line p x l m h.0 i.0) ∙ ap (λ k. m ∷ k) (same_lines p xs ls ms h.1 i.1)

pub one_list : (p : Program) (ls ms : List (List ℕ)) → AreDepartureLines p ls → AreDepartureLines p ms → ls ≡ ms
one_list p ls ms h i = h.is ∙ ap (λ l. l ++ leaves_line (length (leaving p)) (length p.instrs) ∷ []) (same_lines p (leaving p) h.places i.places h.are i.are) ∙ sym i.is

-- ---- what was said is left

module _ (left : PlacesAreLeft) (ascend : PlacesAscend) (c : Listing) (old new : HostState) where
  by_done : (mid : HostState) (line : List ℕ) → HasMade (leaves_kind c) old mid line → (status : ℕ) → status ≡ 0 → IsDone line mid new status → HasDepartures c old new
  by_done mid line h _ e (whole only s same) = record {
    source = h.is.bytes;
    program = h.made.program;
    lines = h.made.lines;
    given = h.is.file.0;
    is_source = h.is.gives.source;
    are = h.is.gives.lines;
    said = subst (Says old new) h.line_is (s ∙ ap (λ o. said_more o line) h.output.said);
    ascending = ascend h.made.program h.is.gives.source.program.program.lawful;
    left = left h.made.program h.is.gives.source.program.program.lawful;
  }
  by_done mid line h _ e (failed s) = absurd (omega (arith, e))
  by_done mid line h _ e (no_memory s) = absurd (omega (arith, e))

  pub has_departures : (status : ℕ) → status ≡ 0 → MakeGives (leaves_kind c) old new status → HasDepartures c old new
  has_departures status e (made mid line h d) = by_done mid line h status e d
  has_departures status e (stopped mid stop s k) = absurd (never_0 (one_name c.source) stop mid new status k e)
