-- What `clap` makes of one word more: whether it is without fault, and what is held behind it.
use Rattle.std.proofs.Common.{◌≡◌, ℕ, List, [], ◌∷◌, Bool, true, false, not, Option, Some, None, refl, ap, ap₂, ◌∙◌, codes, cond, ◌&&◌, fold}
use Rattle.std.specs.Option.{option_map_or}
use Rattle.std.specs.Str.{bytes_eq}
use Rattle.clap.specs.Words.{Row, Rule, Text}
use Rattle.clap.specs.Lexer.{long_of, short_of}
use Rattle.clap.specs.Walk.{Held, Step, Waiting, Walk, idle, option, positional, value, walked, after_step, settled, settled_rows, subcommand_met, subcommand_or_other, plain_word, used, has_row, is_pending, next, option_word}
use Rattle.clap.specs.Faults.{walk_fault, turn_fault, settle_fault, other_fault, step_fault, positional_fault, use_fault, stray_fault}
use Rattle.clap.specs.Kinds.{Kinds, or_else}
use Rattle.clap.specs.declared.error.kind.ErrorKind.TheVariants.{ArgumentConflict}
use Rattle.cmd_arguments.specs.declared.table.CommandName.{CommandName}
use Rattle.cmd_arguments.specs.declared.table.OptionName.{OptionName}
use Rattle.cmd_arguments.specs.Table.{Word, long_name, named_among, options_of}
use Rattle.cmd_arguments.specs.Items.{end_of_options, is_value}
use Rattle.cmd_arguments.proofs.Rules.{rules, shape, names_built, option_built, by_index, by_names, by_option}
use Rattle.cmd_arguments.proofs.Rows.{self_eq}

-- no fault
abbrev pub clear : Kinds → Bool
clear [] = true
clear (k ∷ ks) = false

pub clear_or : (a b : Kinds) → clear (or_else a b) ≡ (clear a && clear b)
clear_or [] b = refl
clear_or (k ∷ ks) b = refl

pub and_turn : (a b c : Bool) → ((a && b) && c) ≡ (a && (b && c))
and_turn true b c = refl
and_turn false b c = refl

pub and_no : (b : Bool) → (b && false) ≡ false
and_no true = refl
and_no false = refl

-- an argument of one use may be used where it was not
pub once : (b : Bool) → clear (or_else (cond (b && true) (ArgumentConflict ∷ []) []) []) ≡ not b
once true = refl
once false = refl

-- the rows, with what is pending used
abbrev pub effective : CommandName → Held → List Row
effective c h = settled_rows (rules c) h.pending h.rows

-- what is pending is used without fault
abbrev pub sound : CommandName → Held → Bool
sound c h = clear (settle_fault (rules c) false h)

-- the words behind a place are read without fault
abbrev pub total : CommandName → Walk → List Text → Bool
total c w ws = clear (walk_fault (shape c) [] w ws) && sound c (fold (walked (rules c) []) w ws).held

-- the rows at the end of the words
abbrev pub ending : CommandName → Walk → List Text → List Row
ending c w ws = effective c (fold (walked (rules c) []) w ws).held

-- before a word that the names or a waiting option may take
abbrev pub before : Held → Waiting → Walk
before h waiting = record { held = h; waiting = waiting; position = 1; is_trailing = false; stopped = None }

-- behind the mark
abbrev pub behind : Held → Waiting → Walk
behind h waiting = record { held = h; waiting = waiting; position = 1; is_trailing = true; stopped = None }

abbrev pub hold : List Row → Option (Text × List Text) → ℕ → Held
hold rows pending skip = record { rows = rows; pending = pending; skip = skip }

-- with one name more
abbrev pub with_name : CommandName → Text → Held → Held
with_name c x h = hold (effective c h) (Some (codes "names", x ∷ [])) h.skip

-- one word: its fault, and where it leads
pub one_more_word : (c : CommandName) (w after : Walk) (x : Text) (xs : List Text) (k : Kinds) → turn_fault (shape c) [] w x ≡ k → walked (rules c) [] w x ≡ after → (total c w (x ∷ xs) ≡ (clear k && total c after xs)) × (ending c w (x ∷ xs) ≡ ending c after xs)
unfolding walk_fault
one_more_word c w after x xs k fault leads = (
  ap (λ b. b && sound c (fold (walked (rules c) []) w (x ∷ xs)).held) (clear_or (turn_fault (shape c) [] w x) (walk_fault (shape c) [] (walked (rules c) [] w x) xs))
      ∙ and_turn (clear (turn_fault (shape c) [] w x)) (clear (walk_fault (shape c) [] (walked (rules c) [] w x) xs)) (sound c (fold (walked (rules c) []) w (x ∷ xs)).held)
      ∙ ap₂ (λ f v. clear f && total c v xs) fault leads,
  ap (λ v. ending c v xs) leads,
)

no_subcommand : (waiting : Waiting) (x : Text) → subcommand_met [] waiting x ≡ None
no_subcommand idle x = refl
no_subcommand (option id) x = refl
no_subcommand positional x = refl

abbrev pub met_at : CommandName → Waiting → Text → Held → Held × Step
met_at c waiting x h = subcommand_or_other (rules c) None waiting 1 x h

turn_before : (c : CommandName) (h : Held) (waiting : Waiting) (x : Text) → turn_fault (shape c) [] (before h waiting) x ≡ or_else (other_fault (shape c) None x h) (step_fault (shape c) 1 (met_at c waiting x h).0 (met_at c waiting x h).1)
turn_before c h waiting x =
    ap (λ o. or_else (other_fault (shape c) o x h) (step_fault (shape c) 1 (subcommand_or_other (rules c) o waiting 1 x h).0 (subcommand_or_other (rules c) o waiting 1 x h).1)) (no_subcommand waiting x)

walked_before : (c : CommandName) (h : Held) (waiting : Waiting) (x : Text) → walked (rules c) [] (before h waiting) x ≡ after_step (rules c) x (before h waiting) (met_at c waiting x h).0 (met_at c waiting x h).1
unfolding walked
walked_before c h waiting x =
    ap (λ o. after_step (rules c) x (before h waiting) (subcommand_or_other (rules c) o waiting 1 x h).0 (subcommand_or_other (rules c) o waiting 1 x h).1) (no_subcommand waiting x)

-- a word, by what it is met as and by its own fault
pub turned : (c : CommandName) (h : Held) (waiting : Waiting) (x : Text) (xs : List Text) (k : Kinds) (met : Held × Step) → other_fault (shape c) None x h ≡ k → met_at c waiting x h ≡ met
    → (total c (before h waiting) (x ∷ xs) ≡ (clear (or_else k (step_fault (shape c) 1 met.0 met.1)) && total c (after_step (rules c) x (before h waiting) met.0 met.1) xs))
    × (ending c (before h waiting) (x ∷ xs) ≡ ending c (after_step (rules c) x (before h waiting) met.0 met.1) xs)
turned c h waiting x xs k met own is =
    one_more_word c (before h waiting) (after_step (rules c) x (before h waiting) met.0 met.1) x xs (or_else k (step_fault (shape c) 1 met.0 met.1))
    (turn_before c h waiting x ∙ ap₂ (λ f m. or_else f (step_fault (shape c) 1 m.0 m.1)) own is)
    (walked_before c h waiting x ∙ ap (λ m. after_step (rules c) x (before h waiting) m.0 m.1) is)

-- ---- the mark

pub mark_next : (c : CommandName) (h : Held) (waiting : Waiting) (xs : List Text) → (total c (before h waiting) (end_of_options ∷ xs) ≡ total c (behind h waiting) xs) × (ending c (before h waiting) (end_of_options ∷ xs) ≡ ending c (behind h waiting) xs)
mark_next c h waiting xs = turned c h waiting end_of_options xs [] _ refl refl

-- ---- a word that no hyphen begins, or that is one

pub record IsPlainWord (x : Text) : Type 0 where
  pub no_mark : bytes_eq x (0x2D ∷ (0x2D ∷ [])) ≡ false
  pub no_long : long_of x ≡ None
  pub no_short : short_of x ≡ None
  pub may_be : is_value x ≡ true

plain_fault : (c : CommandName) (x : Text) (h : Held) → IsPlainWord x → other_fault (shape c) None x h ≡ []
plain_fault c x h is = rw (is.no_mark, is.no_long, is.no_short) refl

plain_met : (c : CommandName) (waiting : Waiting) (x : Text) (h : Held) → IsPlainWord x → met_at c waiting x h ≡ plain_word (rules c) waiting x h
plain_met c waiting x h is = rw (is.no_mark, is.no_long, is.no_short) refl

-- nothing waits for a value
pub data IsBetween : Waiting → Type 0 where
  at_idle : IsBetween idle
  at_names : IsBetween positional

to_names : (c : CommandName) (waiting : Waiting) (x : Text) (h : Held) → IsBetween waiting → plain_word (rules c) waiting x h ≡ (h, value)
to_names c waiting x h at_idle = refl
to_names c waiting x h at_names = refl

either_way : {X : Type 0} (b : Bool) (x y : X) → cond (b && false) x y ≡ y
either_way true x y = refl
either_way false x y = refl

names_step : (c : CommandName) (h : Held) → step_fault (shape c) 1 h value ≡ settle_fault (rules c) false h
names_step c h =
    ap (λ o. option_map_or (λ a. positional_fault (rules c) false a h) o (stray_fault (shape c))) (by_index c)
    ∙ either_way (is_pending names_built h.pending) [] (settle_fault (rules c) false h)

names_walk : (c : CommandName) (h : Held) (waiting : Waiting) (x : Text) → after_step (rules c) x (before h waiting) h value ≡ before (with_name c x h) positional
names_walk c h waiting x = rw (by_index c, either_way (is_pending names_built h.pending) h (settled (rules c) h)) refl

names_walk_behind : (c : CommandName) (h : Held) (waiting : Waiting) (x : Text) → after_step (rules c) x (behind h waiting) h value ≡ behind (with_name c x h) positional
names_walk_behind c h waiting x = rw (by_index c, either_way (is_pending names_built h.pending) h (settled (rules c) h)) refl

pub name_next : (c : CommandName) (h : Held) (waiting : Waiting) (x : Text) (xs : List Text) → IsPlainWord x → IsBetween waiting
    → (total c (before h waiting) (x ∷ xs) ≡ (sound c h && total c (before (with_name c x h) positional) xs)) × (ending c (before h waiting) (x ∷ xs) ≡ ending c (before (with_name c x h) positional) xs)
name_next c h waiting x xs is between =
    let turn = turned c h waiting x xs [] (h, value) (plain_fault c x h is) (plain_met c waiting x h is ∙ to_names c waiting x h between) in
    (turn.0 ∙ ap₂ (λ f v. clear f && total c v xs) (names_step c h) (names_walk c h waiting x), turn.1 ∙ ap (λ v. ending c v xs) (names_walk c h waiting x))

-- behind the mark
pub behind_next : (c : CommandName) (h : Held) (waiting : Waiting) (x : Text) (xs : List Text)
    → (total c (behind h waiting) (x ∷ xs) ≡ (sound c h && total c (behind (with_name c x h) positional) xs)) × (ending c (behind h waiting) (x ∷ xs) ≡ ending c (behind (with_name c x h) positional) xs)
unfolding walked
behind_next c h waiting x xs = one_more_word c (behind h waiting) (behind (with_name c x h) positional) x xs (settle_fault (rules c) false h) (names_step c h) (names_walk_behind c h waiting x)

-- the name is used without fault
pub name_sound : (c : CommandName) (x : Text) (h : Held) → (sound c (with_name c x h) ≡ true) × (effective c (with_name c x h) ≡ used names_built (x ∷ []) (effective c h))
name_sound c x h = (
  ap (λ o. clear (option_map_or (λ a. use_fault false a (x ∷ []) (effective c h)) o [])) (by_names c),
  rw (by_names c) refl,
)

-- ---- an option that waits

abbrev pub waits_for : OptionName → List Row → ℕ → Held
waits_for o rows skip = hold rows (Some (long_name o, [])) skip

abbrev pub with_text : OptionName → Text → List Row → ℕ → Held
with_text o x rows skip = hold rows (Some (long_name o, x ∷ [])) skip

pub waits_unsound : (c : CommandName) (w : Word) (o : OptionName) (rows : List Row) (skip : ℕ) → named_among (options_of c) w ≡ Some o → sound c (waits_for o rows skip) ≡ false
waits_unsound c w o rows skip named = ap (λ r. clear (option_map_or (λ a. use_fault false a [] rows) r [])) (by_option c w o named)

taken : (a : Rule) (o : OptionName) (x : Text) (rows : List Row) (skip : ℕ) → a ≡ option_built o → bytes_eq (long_name o) (long_name o) ≡ true → (option_word (Some a) (long_name o) x (waits_for o rows skip)) ≡ (with_text o x rows skip, idle)
taken a o x rows skip is same = rw (is, same) refl

pub value_next : (c : CommandName) (w : Word) (o : OptionName) (rows : List Row) (skip : ℕ) (x : Text) (xs : List Text) → named_among (options_of c) w ≡ Some o → IsPlainWord x
    → (total c (before (waits_for o rows skip) (option (long_name o))) (x ∷ xs) ≡ total c (before (with_text o x rows skip) idle) xs) × (ending c (before (waits_for o rows skip) (option (long_name o))) (x ∷ xs) ≡ ending c (before (with_text o x rows skip) idle) xs)
value_next c w o rows skip x xs named is =
    let h = waits_for o rows skip in
    let reads : plain_word (rules c) (option (long_name o)) x h ≡ (with_text o x rows skip, next idle) =
    ap (λ r. ((option_word r (long_name o) x h).0, next (option_word r (long_name o) x h).1)) (by_option c w o named)
    ∙ ap (λ p. (p.0, next p.1)) (taken (option_built o) o x rows skip refl (self_eq (long_name o))) in
    turned c h (option (long_name o)) x xs [] (with_text o x rows skip, next idle) (plain_fault c x h is) (plain_met c (option (long_name o)) x h is ∙ reads)

-- a value that waits to be used
pub text_sound : (c : CommandName) (w : Word) (o : OptionName) (x : Text) (rows : List Row) (skip : ℕ) → named_among (options_of c) w ≡ Some o
    → (sound c (with_text o x rows skip) ≡ not (has_row (long_name o) rows)) × (effective c (with_text o x rows skip) ≡ used (option_built o) (x ∷ []) rows)
text_sound c w o x rows skip named = (
  ap (λ r. clear (option_map_or (λ a. use_fault false a (x ∷ []) rows) r [])) (by_option c w o named) ∙ once (has_row (long_name o) rows),
  rw (by_option c w o named) refl,
)
