use Rattle.std.proofs.Common.{◌≡◌, ℕ, Option, Some, None, refl, ap, sym, ◌∙◌}
use Rattle.std.specs.Prelude.{option_map}
use Rattle.cmd_arguments.specs.Given.{Gathered}
use Rattle.cmd_arguments.specs.ReadCommands.{command_read, listing_read}
use Rattle.cmd_arguments.specs.Words.{Listing, RunOptions, Both, RunsBoth, flag_of, one_file, top_of, choice_of, listing_of, run_options_of, both_of, ◌>>=◌}
use Rattle.cmd_arguments.proofs.Mapped.{listed}
use Rattle.cmd_arguments.proofs.given.Given.both.Goals as goal

abbrev both_by : Option Listing → Option ℕ → Option RunOptions → Option Both
both_by l c r = l >>= λ listing. c >>= λ choice. r >>= λ run. Some (record { source = listing.source; zilog = listing.zilog; top = listing.top; choice = choice; run = run })

-- its values by those of a listing, a choice and the options of a run
both_is : (g : Gathered) (l : Option Listing) (c : Option ℕ) (r : Option RunOptions) → l ≡ listing_of g → c ≡ choice_of g → r ≡ run_options_of g → option_map RunsBoth (both_by l c r) ≡ option_map RunsBoth (both_of g)
both_is g l c r l_is c_is r_is =
    ap (option_map RunsBoth)
    (ap (λ o. both_by o c r) l_is
    ∙ ap (λ o. both_by (listing_of g) o r) c_is
    ∙ ap (both_by (listing_of g) (choice_of g)) r_is
    ∙ sym (listed (flag_of g.zilog) (one_file g.names) (top_of g) (λ zilog source top. choice_of g >>= λ choice. run_options_of g >>= λ run. Some (record { source = source; zilog = zilog; top = top; choice = choice; run = run }))))

pub returns : goal.returns
returns c = both_is c.args.self.now _ _ _ c.in_ok-source.ensures c.in_ok-choice.ensures c.in_ok-run.ensures

pub returns-in_err-source : goal.returns-in_err-source
returns-in_err-source c = let g = c.args.self.now in ap (option_map command_read) c.from_residual.ensures ∙ both_is g None (choice_of g) (run_options_of g) c.in_err-source.ensures refl refl

pub returns-in_err-choice : goal.returns-in_err-choice
returns-in_err-choice c =
    let g = c.args.self.now in
    ap (option_map command_read) c.from_residual-in_err-choice.ensures ∙ both_is g (Some (listing_read c.in_ok-source.field-0)) None (run_options_of g) c.in_ok-source.ensures c.in_err-choice.ensures refl

pub returns-in_err-run : goal.returns-in_err-run
returns-in_err-run c =
    let g = c.args.self.now in
    ap (option_map command_read) c.from_residual-in_err-run.ensures ∙ both_is g (Some (listing_read c.in_ok-source.field-0)) (Some c.in_ok-choice.choice) None c.in_ok-source.ensures c.in_ok-choice.ensures c.in_err-run.ensures
