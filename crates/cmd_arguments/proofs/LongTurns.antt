-- What `clap` makes of a word of two hyphens and something more.
use Rattle.std.proofs.Common.{◌≡◌, ℕ, List, [], ◌∷◌, false, not, Option, Some, None, refl, ap, ap₂, ◌∙◌, ◌&&◌}
use Rattle.std.specs.Option.{option_or}
use Rattle.std.specs.Prelude.{option_map}
use Rattle.clap.specs.Words.{Rule, Text}
use Rattle.clap.specs.Lexer.{name_and_value}
use Rattle.clap.specs.Walk.{Held, Step, Waiting, idle, option, after_flag, after_step, long_met, used, has_row, arg_by_long}
use Rattle.clap.specs.Faults.{long_fault, settle_fault, step_fault}
use Rattle.clap.specs.Kinds.{Kinds, or_else}
use Rattle.cmd_arguments.specs.declared.table.CommandName.{CommandName}
use Rattle.cmd_arguments.specs.declared.table.OptionName.{OptionName}
use Rattle.cmd_arguments.specs.Table.{Word, long_name}
use Rattle.cmd_arguments.proofs.Rules.{rules, shape, option_built, flag_built}
use Rattle.cmd_arguments.proofs.Turns.{clear, clear_or, total, ending, effective, sound, before, hold, once, turned, waits_for}

abbrev pub double : ℕ → List ℕ → Word
double z zs = 0x2D ∷ (0x2D ∷ (z ∷ zs))

long_turned : (c : CommandName) (h : Held) (waiting : Waiting) (z : ℕ) (zs : List ℕ) (xs : List Text) (a : Option Rule) (v : Option Text) → arg_by_long (rules c) (name_and_value (z ∷ zs)).0 ≡ a → (name_and_value (z ∷ zs)).1 ≡ v
    → (m : Held × Step) → after_flag (rules c) waiting (double z zs) (long_met (rules c) a v h).0 (long_met (rules c) a v h).1 ≡ m
    → (total c (before h waiting) (double z zs ∷ xs) ≡ (clear (or_else (long_fault (rules c) false a v h) (step_fault (shape c) 1 m.0 m.1)) && total c (after_step (rules c) (double z zs) (before h waiting) m.0 m.1) xs))
    × (ending c (before h waiting) (double z zs ∷ xs) ≡ ending c (after_step (rules c) (double z zs) (before h waiting) m.0 m.1) xs)
long_turned c h waiting z zs xs a v found value m met =
    turned c h waiting (double z zs) xs (long_fault (rules c) false a v h) m
    (ap₂ (λ r w. long_fault (rules c) false r w h) found value)
    (ap₂ (λ r w. after_flag (rules c) waiting (double z zs) (long_met (rules c) r w h).0 (long_met (rules c) r w h).1) found value ∙ met)

no_more : (a : Kinds) → clear (or_else a []) ≡ clear a
no_more [] = refl
no_more (k ∷ ks) = refl

-- a name that the command has not
pub unknown_next : (c : CommandName) (h : Held) (waiting : Waiting) (z : ℕ) (zs : List ℕ) (xs : List Text) → arg_by_long (rules c) (name_and_value (z ∷ zs)).0 ≡ None → total c (before h waiting) (double z zs ∷ xs) ≡ false
unknown_next c h waiting z zs xs found = (long_turned c h waiting z zs xs None (name_and_value (z ∷ zs)).1 found refl _ refl).0

-- a flag with a text
pub flag_text_next : (c : CommandName) (h : Held) (waiting : Waiting) (z : ℕ) (zs : List ℕ) (xs : List Text) (f : OptionName) (text : Text) → arg_by_long (rules c) (name_and_value (z ∷ zs)).0 ≡ Some (flag_built f) → (name_and_value (z ∷ zs)).1 ≡ Some text
    → total c (before h waiting) (double z zs ∷ xs) ≡ false
flag_text_next c h waiting z zs xs f text found value = (long_turned c h waiting z zs xs (Some (flag_built f)) (Some text) found value _ refl).0

-- an option with its text
pub joined_next : (c : CommandName) (h : Held) (waiting : Waiting) (z : ℕ) (zs : List ℕ) (xs : List Text) (o : OptionName) (text : Text) → arg_by_long (rules c) (name_and_value (z ∷ zs)).0 ≡ Some (option_built o) → (name_and_value (z ∷ zs)).1 ≡ Some text
    → (total c (before h waiting) (double z zs ∷ xs) ≡ ((sound c h && not (has_row (long_name o) (effective c h))) && total c (before (hold (used (option_built o) (text ∷ []) (effective c h)) None h.skip) idle) xs))
    × (ending c (before h waiting) (double z zs ∷ xs) ≡ ending c (before (hold (used (option_built o) (text ∷ []) (effective c h)) None h.skip) idle) xs)
joined_next c h waiting z zs xs o text found value =
    let turn = long_turned c h waiting z zs xs (Some (option_built o)) (Some text) found value _ refl in
    let after = before (hold (used (option_built o) (text ∷ []) (effective c h)) None h.skip) idle in
    (turn.0 ∙ ap (λ b. b && total c after xs) (no_more _ ∙ clear_or (settle_fault (rules c) false h) _ ∙ ap (λ b. sound c h && b) (once (has_row (long_name o) (effective c h)))), turn.1)

-- a flag
pub flag_next : (c : CommandName) (h : Held) (waiting : Waiting) (z : ℕ) (zs : List ℕ) (xs : List Text) (f : OptionName) → arg_by_long (rules c) (name_and_value (z ∷ zs)).0 ≡ Some (flag_built f) → (name_and_value (z ∷ zs)).1 ≡ None
    → (total c (before h waiting) (double z zs ∷ xs) ≡ ((sound c h && not (has_row (long_name f) (effective c h))) && total c (before (hold (used (flag_built f) [] (effective c h)) None h.skip) idle) xs))
    × (ending c (before h waiting) (double z zs ∷ xs) ≡ ending c (before (hold (used (flag_built f) [] (effective c h)) None h.skip) idle) xs)
flag_next c h waiting z zs xs f found value =
    let turn = long_turned c h waiting z zs xs (Some (flag_built f)) None found value _ refl in
    let after = before (hold (used (flag_built f) [] (effective c h)) None h.skip) idle in
    (turn.0 ∙ ap (λ b. b && total c after xs) (no_more _ ∙ clear_or (settle_fault (rules c) false h) _ ∙ ap (λ b. sound c h && b) (once (has_row (long_name f) (effective c h)))), turn.1)

-- an option whose text is the next word
pub option_next : (c : CommandName) (h : Held) (waiting : Waiting) (z : ℕ) (zs : List ℕ) (xs : List Text) (o : OptionName) → arg_by_long (rules c) (name_and_value (z ∷ zs)).0 ≡ Some (option_built o) → (name_and_value (z ∷ zs)).1 ≡ None
    → (total c (before h waiting) (double z zs ∷ xs) ≡ (sound c h && total c (before (waits_for o (effective c h) h.skip) (option (long_name o))) xs))
    × (ending c (before h waiting) (double z zs ∷ xs) ≡ ending c (before (waits_for o (effective c h) h.skip) (option (long_name o))) xs)
option_next c h waiting z zs xs o found value =
    let turn = long_turned c h waiting z zs xs (Some (option_built o)) None found value _ refl in
    let after = before (waits_for o (effective c h) h.skip) (option (long_name o)) in
    (turn.0 ∙ ap (λ b. b && total c after xs) (no_more _), turn.1)

-- whatever it is, what waits for a value is at fault
pub never_next : (c : CommandName) (h : Held) (waiting : Waiting) (z : ℕ) (zs : List ℕ) (xs : List Text) (f o : Option OptionName) → arg_by_long (rules c) (name_and_value (z ∷ zs)).0 ≡ option_or (option_map flag_built f) (option_map option_built o) → sound c h ≡ false → total c (before h waiting) (double z zs ∷ xs) ≡ false
never_next c h waiting z zs xs f o found bad = go f o (name_and_value (z ∷ zs)).1 found refl
  where
    go : (f o : Option OptionName) (v : Option Text) → arg_by_long (rules c) (name_and_value (z ∷ zs)).0 ≡ option_or (option_map flag_built f) (option_map option_built o) → (name_and_value (z ∷ zs)).1 ≡ v → total c (before h waiting) (double z zs ∷ xs) ≡ false
    go (Some f) o (Some text) is value = flag_text_next c h waiting z zs xs f text is value
    go (Some f) o None is value = (flag_next c h waiting z zs xs f is value).0 ∙ ap (λ b. (b && not (has_row (long_name f) (effective c h))) && total c (before (hold (used (flag_built f) [] (effective c h)) None h.skip) idle) xs) bad
    go None (Some o) (Some text) is value = (joined_next c h waiting z zs xs o text is value).0 ∙ ap (λ b. (b && not (has_row (long_name o) (effective c h))) && total c (before (hold (used (option_built o) (text ∷ []) (effective c h)) None h.skip) idle) xs) bad
    go None (Some o) None is value = (option_next c h waiting z zs xs o is value).0 ∙ ap (λ b. b && total c (before (waits_for o (effective c h) h.skip) (option (long_name o))) xs) bad
    go None None v is value = unknown_next c h waiting z zs xs is
