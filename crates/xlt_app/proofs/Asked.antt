-- What words give a command: a top that a program area may have, a number of routines.
use Rattle.std.proofs.Common.{◌≡◌, ℕ, List, refl, subst}
use Rattle.std.specs.Prelude.{Bool, true, false, Option, Some, None, option_map, option_and_then, if◌then◌else◌, nat_le, ◌&&◌}
use Rattle.std.proofs.lemmas.Bool.{and_parts, leb-true}
use Rattle.std.proofs.lemmas.Option.{same_Some}
use Rattle.asm80_types.specs.Program.{is_top}
use Rattle.cmd_arguments.specs.declared.table.CommandName.{CommandName}
use Rattle.cmd_arguments.specs.declared.table.CommandName.TheVariants as named
use Rattle.cmd_arguments.specs.Table.{Word}
use Rattle.cmd_arguments.specs.Values.{top_among, top_value, number_in, count_within, count_value, file_name}
use Rattle.cmd_arguments.specs.Given.{Gathered, Names, NoName, OneName, TwoNames, MoreNames, ThreeNames}
use Rattle.cmd_arguments.specs.Words.{Translate, Check, Listing, Run80, Both, Sample, Hex80, RunHex, Command, Translates, Checks, ListsFlags, Runs80, Runs86, RunsBoth, MakesSample, MakesCmd, ShowsCmd, WritesHex, RunsHex, IsCommand, command_of, translate_of, check_of, listing_of, run80_of, run86_of, both_of, sample_of, cmd_of, cmd_show_of, hex80_of, run_hex_of, run_options_of, flag_of, one_file, two_files, count_and_file, top_of, choice_of, text_or, Shrink, ShrinksText, ListsLeaves, ExplainsText, shrink_of, three_files}
use Rattle.cmd_sample.specs.Samples.{IsCount}
use Rattle.xlt_app.specs.Top.{HasLawfulValues}

if_some : (b : Bool) (x y : ℕ) → (if b then Some x else None) ≡ Some y → (b ≡ true) × (x ≡ y)
if_some true x y e = (refl, cc)
if_some false x y e = absurd (cc)

if_then : (b : Bool) (o : Option ℕ) (y : ℕ) → (if b then o else None) ≡ Some y → o ≡ Some y
if_then true o y e = e
if_then false o y e = absurd (cc)

-- what comes first, and then what comes of it
taken : {A B : Type 0} (o : Option A) (f : A → Option B) (y : B) → option_and_then f o ≡ Some y → (x : A) × (o ≡ Some x) × (f x ≡ Some y)
taken None f y e = absurd (cc)
taken (Some x) f y e = (x, refl, e)

mapped : {A B : Type 0} (o : Option A) (f : A → B) (y : B) → option_map f o ≡ Some y → (x : A) × (o ≡ Some x) × (f x ≡ y)
mapped None f y e = absurd (cc)
mapped (Some x) f y e = (x, refl, cc)

among : (n m : ℕ) → top_among n ≡ Some m → is_top m ≡ true
among n m e = let h = if_some (is_top n) n m e in subst (λ k. is_top k ≡ true) h.1 h.0

top_is : (text : Word) (m : ℕ) → top_value text ≡ Some m → is_top m ≡ true
top_is text m e = let h = taken (number_in 16 4 text) top_among m (if_then _ (option_and_then top_among (number_in 16 4 text)) m e) in among h.0 m h.2

pub top_of_is : (g : Gathered) (m : ℕ) → top_of g ≡ Some m → is_top m ≡ true
top_of_is g m e = let h = taken (text_or _ g.top) top_value m e in top_is h.0 m h.2

translate_top : (g : Gathered) (c : Translate) → translate_of g ≡ Some c → is_top c.top ≡ true
unfolding taken
translate_top g c e =
    let a = taken (flag_of g.plain) _ c e in
    let z = taken (flag_of g.zilog) _ c a.2 in
    let m = taken (flag_of g.comments) _ c z.2 in
    let b = taken (two_files g.names) _ c m.2 in
    let d = taken (top_of g) _ c b.2 in
    subst (λ (k : Translate). is_top k.top ≡ true) (same_Some _ c d.2) (top_of_is g d.0 d.1)

check_top : (g : Gathered) (c : Check) → check_of g ≡ Some c → is_top c.top ≡ true
unfolding taken
check_top g c e =
    let z = taken (flag_of g.zilog) _ c e in
    let a = taken (two_files g.names) _ c z.2 in
    let b = taken (top_of g) _ c a.2 in
    subst (λ (k : Check). is_top k.top ≡ true) (same_Some _ c b.2) (top_of_is g b.0 b.1)

listing_top : (g : Gathered) (c : Listing) → listing_of g ≡ Some c → is_top c.top ≡ true
unfolding taken
listing_top g c e =
    let z = taken (flag_of g.zilog) _ c e in
    let a = taken (one_file g.names) _ c z.2 in
    let b = taken (top_of g) _ c a.2 in
    subst (λ (k : Listing). is_top k.top ≡ true) (same_Some _ c b.2) (top_of_is g b.0 b.1)

run80_top : (g : Gathered) (c : Run80) → run80_of g ≡ Some c → is_top c.top ≡ true
unfolding taken
run80_top g c e =
    let z = taken (flag_of g.zilog) _ c e in
    let a = taken (one_file g.names) _ c z.2 in
    let b = taken (top_of g) _ c a.2 in
    let d = taken (run_options_of g) _ c b.2 in
    subst (λ (k : Run80). is_top k.top ≡ true) (same_Some _ c d.2) (top_of_is g b.0 b.1)

both_top : (g : Gathered) (c : Both) → both_of g ≡ Some c → is_top c.top ≡ true
unfolding taken
both_top g c e =
    let z = taken (flag_of g.zilog) _ c e in
    let a = taken (one_file g.names) _ c z.2 in
    let b = taken (top_of g) _ c a.2 in
    let d = taken (choice_of g) _ c b.2 in
    let f = taken (run_options_of g) _ c d.2 in
    subst (λ (k : Both). is_top k.top ≡ true) (same_Some _ c f.2) (top_of_is g b.0 b.1)

hex80_top : (g : Gathered) (c : Hex80) → hex80_of g ≡ Some c → is_top c.top ≡ true
unfolding taken
hex80_top g c e =
    let z = taken (flag_of g.zilog) _ c e in
    let a = taken (two_files g.names) _ c z.2 in
    let b = taken (top_of g) _ c a.2 in
    subst (λ (k : Hex80). is_top k.top ≡ true) (same_Some _ c b.2) (top_of_is g b.0 b.1)

run_hex_top : (g : Gathered) (c : RunHex) → run_hex_of g ≡ Some c → is_top c.top ≡ true
unfolding taken
run_hex_top g c e =
    let a = taken (one_file g.names) _ c e in
    let b = taken (top_of g) _ c a.2 in
    let d = taken (choice_of g) _ c b.2 in
    let f = taken (run_options_of g) _ c d.2 in
    subst (λ (k : RunHex). is_top k.top ≡ true) (same_Some _ c f.2) (top_of_is g b.0 b.1)

shrink_top : (g : Gathered) (c : Shrink) → shrink_of g ≡ Some c → is_top c.top ≡ true
unfolding taken
shrink_top g c e =
    let a = taken (three_files g.names) _ c e in
    let b = taken (top_of g) _ c a.2 in
    subst (λ (k : Shrink). is_top k.top ≡ true) (same_Some _ c b.2) (top_of_is g b.0 b.1)

-- ---- the number of routines

is_count : (n : ℕ) → (nat_le 1 n && nat_le n 500) ≡ true → IsCount n
is_count n e =
    let parts = and_parts (nat_le 1 n) (nat_le n 500) e in
    record { some = leb-true 1 n parts.0; most = leb-true n 500 parts.1 }

count_among : (n m : ℕ) → count_within n ≡ Some m → IsCount m
count_among n m e = let h = if_some (nat_le 1 n && nat_le n 500) n m e in subst IsCount h.1 (is_count n h.0)

count_is : (text : Word) (m : ℕ) → count_value text ≡ Some m → IsCount m
count_is text m e = let h = taken (number_in 10 3 text) count_within m e in count_among h.0 m h.2

counted : (names : Names) (x : ℕ × Word) → count_and_file names ≡ Some x → IsCount x.0
unfolding taken
counted NoName x e = absurd (cc)
counted (OneName w) x e = absurd (cc)
counted (TwoNames first second) x e =
    let a = taken (count_value first) _ x e in
    let b = taken (file_name second) _ x a.2 in
    subst (λ (y : ℕ × Word). IsCount y.0) (same_Some _ x b.2) (count_is first a.0 a.1)
counted (ThreeNames first second third) x e = absurd (cc)
counted MoreNames x e = absurd (cc)

sample_count : (g : Gathered) (c : Sample) → sample_of g ≡ Some c → IsCount c.count
unfolding taken
sample_count g c e =
    let a = taken (count_and_file g.names) _ c e in
    subst (λ (k : Sample). IsCount k.count) (same_Some _ c a.2) (counted g.names a.0 a.1)

-- ---- each command

asked_by_name : (name : CommandName) (g : Gathered) (c : Command) → command_of name g ≡ Some c → HasLawfulValues c
asked_by_name named.Translate g c e = let h = mapped (translate_of g) Translates c e in subst HasLawfulValues h.2 (translate_top g h.0 h.1)
asked_by_name named.Check g c e = let h = mapped (check_of g) Checks c e in subst HasLawfulValues h.2 (check_top g h.0 h.1)
asked_by_name named.Flags g c e = let h = mapped (listing_of g) ListsFlags c e in subst HasLawfulValues h.2 (listing_top g h.0 h.1)
asked_by_name named.Run80 g c e = let h = mapped (run80_of g) Runs80 c e in subst HasLawfulValues h.2 (run80_top g h.0 h.1)
asked_by_name named.Run86 g c e = let h = mapped (run86_of g) Runs86 c e in subst HasLawfulValues h.2 tt
asked_by_name named.Both g c e = let h = mapped (both_of g) RunsBoth c e in subst HasLawfulValues h.2 (both_top g h.0 h.1)
asked_by_name named.Sample g c e = let h = mapped (sample_of g) MakesSample c e in subst HasLawfulValues h.2 (sample_count g h.0 h.1)
asked_by_name named.Cmd g c e = let h = mapped (cmd_of g) MakesCmd c e in subst HasLawfulValues h.2 tt
asked_by_name named.CmdShow g c e = let h = mapped (cmd_show_of g) ShowsCmd c e in subst HasLawfulValues h.2 tt
asked_by_name named.Hex80 g c e = let h = mapped (hex80_of g) WritesHex c e in subst HasLawfulValues h.2 (hex80_top g h.0 h.1)
asked_by_name named.RunHex g c e = let h = mapped (run_hex_of g) RunsHex c e in subst HasLawfulValues h.2 (run_hex_top g h.0 h.1)
asked_by_name named.Shrink g c e = let h = mapped (shrink_of g) ShrinksText c e in subst HasLawfulValues h.2 (shrink_top g h.0 h.1)
asked_by_name named.Leaves g c e = let h = mapped (listing_of g) ListsLeaves c e in subst HasLawfulValues h.2 (listing_top g h.0 h.1)
asked_by_name named.Explain g c e = let h = mapped (check_of g) ExplainsText c e in subst HasLawfulValues h.2 (check_top g h.0 h.1)

-- so the work of each command that words are may be done
pub words_ask : (words : List Word) (c : Command) → IsCommand words c → HasLawfulValues c
words_ask words c is = asked_by_name is.name is.given c is.command
