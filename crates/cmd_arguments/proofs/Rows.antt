-- The rows that a use more makes, and what is read of them.
use Rattle.std.proofs.Common.{◌≡◌, List, [], ◌∷◌, ◌++◌, Bool, true, false, Option, Some, None, refl, ap, sym, ◌∙◌, codes, cond, ◌||◌}
use Rattle.std.specs.Prelude.{find, option_copied, option_map, unwrap_or, slice_get}
use Rattle.std.specs.Borrow.{Bor}
use Rattle.std.specs.Str.{bytes_eq}
use Rattle.std.proofs.lemmas.Bool.{or_parts}
use Rattle.std.proofs.lemmas.Slice.Eq.{bytes_eq-Decides}
use Rattle.clap.specs.Words.{Row, Text, all_of, first_of, first_value, matched_of, one_of, one_text, raw_values, rows_of, read_as}
use Rattle.clap.specs.Walk.{with_values, without, has_row}
use Rattle.clap.specs.declared.builder.value_parser.Reading.{Reading}
use Rattle.clap.specs.declared.builder.value_parser.Reading.TheVariants as reading
use Rattle.clap.specs.declared.parser.matches.Found.{Found}
use Rattle.clap.specs.declared.parser.matches.ValueSource.{ValueSource}
use Rattle.clap.proofs.WalkLemmas.{first_value-rows, one_text-rows, raw_values-rows}
use Rattle.cmd_arguments.specs.Read.{IsFlag, option_found, option_read}

-- the row of an id
abbrev pub row_at : Text → List Row → Option Row
row_at id rows = find (λ r. bytes_eq r.id id) rows

abbrev pub values_at : Text → List Row → List Text
values_at id rows = unwrap_or (all_of id rows) []

pub self_eq : (n : Text) → bytes_eq n n ≡ true
self_eq n = (bytes_eq-Decides n n).1 refl

pub eq_of : (m n : Text) → bytes_eq m n ≡ true → m ≡ n
eq_of m n e = (bytes_eq-Decides m n).0 e

-- a use of one id leaves the row of another
pub others_stay : (id other : Text) (how : Reading) (s : ValueSource) (values : List Text) (rows : List Row) → bytes_eq id other ≡ false → row_at other (with_values id how s values rows) ≡ row_at other rows
others_stay id other how s values [] apart = rw apart refl
others_stay id other how s values (r ∷ rs) apart = go _ refl (others_stay id other how s values rs apart)
  where
    go : (b : Bool) → bytes_eq r.id id ≡ b → row_at other (with_values id how s values rs) ≡ row_at other rs → row_at other (with_values id how s values (r ∷ rs)) ≡ row_at other (r ∷ rs)
    go true e rest =
        let off : bytes_eq r.id other ≡ false = ap (λ n. bytes_eq n other) (eq_of r.id id e) ∙ apart in
        rw (e, off) refl
    go false e rest = rw e (ap (λ o. cond (bytes_eq r.id other) (Some r) o) rest)

-- values join those of their id
pub values_join : (id : Text) (how : Reading) (s : ValueSource) (values : List Text) (rows : List Row) → values_at id (with_values id how s values rows) ≡ values_at id rows ++ values
values_join id how s values [] = rw (self_eq id) refl
values_join id how s values (r ∷ rs) = go _ refl (values_join id how s values rs)
  where
    go : (b : Bool) → bytes_eq r.id id ≡ b → values_at id (with_values id how s values rs) ≡ values_at id rs ++ values → values_at id (with_values id how s values (r ∷ rs)) ≡ values_at id (r ∷ rs) ++ values
    go true e rest = rw (e, e) refl
    go false e rest = rw (e, e) rest

or_again : (a b : Bool) → (a || b) ≡ (a || (a || b))
or_again true b = refl
or_again false b = refl

or_turn : (a b c : Bool) → (a || (b || c)) ≡ (b || (a || c))
or_turn true true c = refl
or_turn true false c = refl
or_turn false true c = refl
or_turn false false c = refl

-- which ids have a row
pub rows_more : (id other : Text) (how : Reading) (s : ValueSource) (values : List Text) (rows : List Row) → has_row other (with_values id how s values rows) ≡ (bytes_eq id other || has_row other rows)
rows_more id other how s values [] = refl
rows_more id other how s values (r ∷ rs) = go _ refl (rows_more id other how s values rs)
  where
    go : (b : Bool) → bytes_eq r.id id ≡ b → has_row other (with_values id how s values rs) ≡ (bytes_eq id other || has_row other rs) → has_row other (with_values id how s values (r ∷ rs)) ≡ (bytes_eq id other || has_row other (r ∷ rs))
    go true e rest = rw e (ap (λ n. bytes_eq n other || has_row other rs) (eq_of r.id id e) ∙ or_again (bytes_eq id other) (has_row other rs) ∙ ap (λ n. bytes_eq id other || (bytes_eq n other || has_row other rs)) (sym (eq_of r.id id e)))
    go false e rest = rw e (ap (λ b. bytes_eq r.id other || b) rest ∙ or_turn (bytes_eq r.id other) (bytes_eq id other) (has_row other rs))

-- where an id has no row, none is taken away
pub none_without : (id : Text) (rows : List Row) → has_row id rows ≡ false → without id rows ≡ rows
none_without id [] none = refl
none_without id (r ∷ rs) none =
    let parts = or_parts (bytes_eq r.id id) (has_row id rs) none in
    rw parts.0 (ap (λ xs. r ∷ xs) (none_without id rs parts.1))

pub none_first : (id : Text) (rows : List Row) → has_row id rows ≡ false → first_of id rows ≡ None
none_first id [] none = refl
none_first id (r ∷ rs) none =
    let parts = or_parts (bytes_eq r.id id) (has_row id rs) none in
    rw parts.0 (none_first id rs parts.1)

-- the first use of an id is what is read of it
pub first_use : (id : Text) (how : Reading) (s : ValueSource) (text : Text) (rows : List Row) → has_row id rows ≡ false → first_of id (with_values id how s (text ∷ []) rows) ≡ Some text
first_use id how s text [] none = rw (self_eq id) refl
first_use id how s text (r ∷ rs) none =
    let parts = or_parts (bytes_eq r.id id) (has_row id rs) none in
    rw (parts.0, parts.0) (first_use id how s text rs parts.1)

true_read : (how : Reading) → read_as how (codes "true") ≡ codes "true"
true_read reading.AsWritten = refl
true_read reading.WithoutMinus = refl
true_read reading.Boolish = refl
true_read reading.Falsey = refl

false_read : (how : Reading) → read_as how (codes "false") ≡ codes "false"
false_read reading.AsWritten = refl
false_read reading.WithoutMinus = refl
false_read reading.Boolish = refl
false_read reading.Falsey = refl

-- what `get_flag` says
pub flag_told : (f : Found) (id : Text) (set : Bool) → (one_text f id ≡ None → set ≡ false) → (one_text f id ≡ Some (codes "true") → set ≡ true) → (one_text f id ≡ Some (codes "false") → set ≡ false) → IsFlag (first_of id (rows_of f)) set
flag_told f id set none yes_text no_text = go (row_at id (rows_of f)) refl
  where
    at_row : (o : Option Row) (values : List Text) (r : Row) → row_at id (rows_of f) ≡ Some r → r.values ≡ values → IsFlag (slice_get r.values 0) set
    at_row o [] r e is =
        let text : one_of id (rows_of f) ≡ None = rw (e, is) refl in
        rw is (none (one_text-rows f id ∙ text))
    at_row o (v ∷ vs) r e is =
        let text : one_of id (rows_of f) ≡ Some (read_as r.reading v) = rw (e, is) refl in
        rw is ((λ t. yes_text (one_text-rows f id ∙ text ∙ ap (λ w. Some (read_as r.reading w)) t ∙ ap Some (true_read r.reading))), (λ t. no_text (one_text-rows f id ∙ text ∙ ap (λ w. Some (read_as r.reading w)) t ∙ ap Some (false_read r.reading))))

    go : (o : Option Row) → row_at id (rows_of f) ≡ o → IsFlag (first_of id (rows_of f)) set
    go None e =
        let text : one_of id (rows_of f) ≡ None = rw e refl in
        rw e (none (one_text-rows f id ∙ text))
    go (Some r) e = rw e (at_row (Some r) r.values r e refl)

copied : (r : Option (Bor Text)) → option_copied r ≡ option_map (λ s. s.now) r
copied None = refl
copied (Some s) = refl

-- what `get_str` says
pub option_told : (f : Found) (id n : Text) (r : Option (Bor Text)) → option_map (λ s. s.now) r ≡ first_value f n → n ≡ id → option_read r ≡ option_found (first_of id (rows_of f))
option_told f id n r told is = ap option_found (copied r ∙ told ∙ ap (first_value f) is ∙ first_value-rows f id)

-- what `get_raw` says
pub names_told : (f : Found) (id : Text) (texts : Option (List Text)) → texts ≡ option_map raw_values (matched_of f id) → unwrap_or texts [] ≡ values_at id (rows_of f)
names_told f id texts told = ap (λ t. unwrap_or t []) (told ∙ raw_values-rows f id)
