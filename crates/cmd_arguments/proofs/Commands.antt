-- The words are one command at most.
use Rattle.std.proofs.Common.{◌≡◌, List, [], ◌∷◌, Option, Some, None, MatchOption, ap, sym, ◌∙◌, subst, option_map}
use Rattle.std.proofs.lemmas.Option.{same_Some, none-some}
use Rattle.cmd_arguments.specs.declared.command.Command.{Command as ReadCommand}
use Rattle.cmd_arguments.specs.declared.table.CommandName.{CommandName}
use Rattle.cmd_arguments.specs.Table.{Word, command_named}
use Rattle.cmd_arguments.specs.Items.{Item, Sorts, none, marked, more}
use Rattle.cmd_arguments.specs.Given.{Gathered, gathered, AreSorted}
use Rattle.cmd_arguments.specs.Asked.{GiveCommand, GiveNoCommand}
use Rattle.cmd_arguments.specs.ReadCommands.{command_read}
use Rattle.cmd_arguments.specs.Words.{Command, command_of, IsCommand, IsNoCommand}
use Rattle.cmd_arguments.proofs.Forms.{form_of_rule}
use Rattle.cmd_arguments.proofs.BehindItem.{behind_item, behind_mark, behind_nothing}

pub one_sorting : {c : CommandName} {ws : List Word} {items others : List Item} → Sorts c ws items → Sorts c ws others → items ≡ others
one_sorting none s = sym (behind_nothing s)
one_sorting marked s = sym (behind_mark s)
one_sorting (more {ws = []} f s) t = elim f [ ]
one_sorting (more {ws = w ∷ ws} {item} f s) t =
    let behind = behind_item t (form_of_rule f) in
    ap (λ is. item ∷ is) (one_sorting s behind.2) ∙ sym behind.1

one_given : {c : CommandName} {ws : List Word} {g h : Gathered} → AreSorted c ws g → AreSorted c ws h → g ≡ h
one_given a b = a.given ∙ ap gathered (one_sorting a.sorted b.sorted) ∙ sym b.given

-- the words of a command begin with its name
same_front : {words : List Word} {first : Word} {rest : List Word} {name : CommandName} {c : Command} → words ≡ first ∷ rest → command_named first ≡ Some name → (is : IsCommand words c) → (is.name ≡ name) × (is.rest ≡ rest)
same_front {words} {first} {rest} {name} parts named is =
    let front : first ∷ rest ≡ is.first ∷ is.rest = sym parts ∙ is.parts in
    let same_first : is.first ≡ first = cc in
    (same_Some _ _ (sym is.named ∙ ap command_named same_first ∙ named), cc)

-- what the words of a command make
pub only_command : (words : List Word) (first : Word) (rest : List Word) (name : CommandName) (g : Gathered) → words ≡ first ∷ rest → command_named first ≡ Some name → AreSorted name rest g → (c : Command) → IsCommand words c → command_of name g ≡ Some c
only_command words first rest name g parts named sorted c is =
    let same : (is.name ≡ name) × (is.rest ≡ rest) = same_front parts named is in
    let P : CommandName → Type 0 = λ n. AreSorted n is.rest is.given in
    let Q : List Word → Type 0 = λ ws. AreSorted name ws is.given in
    let same_given : is.given ≡ g = one_given (subst Q same.1 (subst P same.0 is.sorted)) sorted in
    rw (← same_given, ← same.0) is.command

pub one_command : (words : List Word) (c d : Command) → IsCommand words c → IsCommand words d → c ≡ d
one_command words c d a b = same_Some c d (sym a.command ∙ only_command words a.first a.rest a.name a.given a.parts a.named a.sorted d b)

-- what the words behind the first make, the words make
pub reads_command : (words : List Word) (first : Word) (rest : List Word) (name : CommandName) (r : Option ReadCommand) → words ≡ first ∷ rest → command_named first ≡ Some name → MatchOption r (GiveNoCommand name rest) (λ c. GiveCommand name rest (command_read c)) → MatchOption r (IsNoCommand words) (λ c. IsCommand words (command_read c))
reads_command words first rest name (Some c) parts named given = record { first = first; rest = rest; parts = parts; name = name; named = named; given = given.0; sorted = given.1; command = given.2 }
reads_command words first rest name None parts named never = λ c is.
    let same : (is.name ≡ name) × (is.rest ≡ rest) = same_front parts named is in
    let P : CommandName → Type 0 = λ n. AreSorted n is.rest is.given in
    let Q : List Word → Type 0 = λ ws. AreSorted name ws is.given in
    none-some c (sym (never is.given (subst Q same.1 (subst P same.0 is.sorted))) ∙ ap (λ n. command_of n is.given) (sym same.0) ∙ is.command)

-- what the gathered parts of sorted words make, the words give
pub given_command : (name : CommandName) (ws : List Word) (g : Gathered) (r : Option ReadCommand) → AreSorted name ws g → option_map command_read r ≡ command_of name g → MatchOption r (GiveNoCommand name ws) (λ c. GiveCommand name ws (command_read c))
given_command name ws g (Some c) sorted e = (g, sorted, sym e)
given_command name ws g None sorted e = λ h others. ap (command_of name) (one_given others sorted) ∙ sym e
