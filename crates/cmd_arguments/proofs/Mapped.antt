-- A command of the code made of its values.
use Rattle.std.proofs.Common.{◌≡◌, refl, ap, ◌∙◌, Option, Some, None}
use Rattle.std.specs.Prelude.{Bool, ℕ, IsSomeAnd, MatchOption, option_and_then, option_map}
use Rattle.cmd_arguments.specs.declared.command.Command.{Command as ReadCommand}
use Rattle.cmd_arguments.specs.ReadCommands.{command_read}
use Rattle.cmd_arguments.specs.Table.{Word}
use Rattle.cmd_arguments.specs.Words.{Command, Listing}

-- it stands for the command that is made of what the values stand for
pub made_of : {A B : Type 0} (read : A → B) (make : A → ReadCommand) (made : B → Command) (values : Option A) (r : Option ReadCommand) → ((x : A) → command_read (make x) ≡ made (read x)) →
    MatchOption values (r ≡ None) (λ x. IsSomeAnd r (λ y. y ≡ make x)) → option_map command_read r ≡ option_map made (option_map read values)
made_of read make made None r same is = ap (option_map command_read) is
made_of read make made (Some x) None same is = absurd is
made_of read make made (Some x) (Some y) same is = ap (λ c. Some (command_read c)) is ∙ ap Some (same x)

-- what goes on from a listing's values goes on from the listing
pub listed : {B : Type 0} (zilog : Option Bool) (source : Option Word) (top : Option ℕ) (on : Bool → Word → ℕ → Option B) →
    option_and_then (λ z. option_and_then (λ s. option_and_then (λ t. on z s t) top) source) zilog
    ≡ option_and_then (λ (l : Listing). on l.zilog l.source l.top) (option_and_then (λ z. option_and_then (λ s. option_and_then (λ t. Some (record { source = s; zilog = z; top = t })) top) source) zilog)
listed None source top on = refl
listed (Some z) None top on = refl
listed (Some z) (Some s) None on = refl
listed (Some z) (Some s) (Some t) on = refl
