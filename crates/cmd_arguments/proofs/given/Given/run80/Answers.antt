use Rattle.std.proofs.Common.{◌≡◌, Option, Some, None, refl, ap, sym, ◌∙◌}
use Rattle.std.specs.Prelude.{option_map}
use Rattle.cmd_arguments.specs.Given.{Gathered}
use Rattle.cmd_arguments.specs.ReadCommands.{command_read, listing_read}
use Rattle.cmd_arguments.specs.Words.{Listing, RunOptions, Run80, Runs80, flag_of, one_file, top_of, listing_of, run_options_of, run80_of, ◌>>=◌}
use Rattle.cmd_arguments.proofs.Mapped.{listed}
use Rattle.cmd_arguments.proofs.given.Given.run80.Goals as goal

abbrev run80_by : Option Listing → Option RunOptions → Option Run80
run80_by l r = l >>= λ listing. r >>= λ run. Some (record { source = listing.source; zilog = listing.zilog; top = listing.top; run = run })

-- its values by those of a listing and the options of a run
run80_is : (g : Gathered) (l : Option Listing) (r : Option RunOptions) → l ≡ listing_of g → r ≡ run_options_of g → option_map Runs80 (run80_by l r) ≡ option_map Runs80 (run80_of g)
run80_is g l r l_is r_is =
    ap (option_map Runs80)
    (ap (λ o. run80_by o r) l_is
    ∙ ap (run80_by (listing_of g)) r_is
    ∙ sym (listed (flag_of g.zilog) (one_file g.names) (top_of g) (λ zilog source top. run_options_of g >>= λ run. Some (record { source = source; zilog = zilog; top = top; run = run }))))

pub returns : goal.returns
returns c = run80_is c.args.self.now _ _ c.in_ok-source.ensures c.in_ok-run.ensures

pub returns-in_err-source : goal.returns-in_err-source
returns-in_err-source c = let g = c.args.self.now in ap (option_map command_read) c.from_residual.ensures ∙ run80_is g None (run_options_of g) c.in_err-source.ensures refl

pub returns-in_err-run : goal.returns-in_err-run
returns-in_err-run c =
    let g = c.args.self.now in
    ap (option_map command_read) c.from_residual-in_err-run.ensures ∙ run80_is g (Some (listing_read c.in_ok-source.field-0)) None c.in_ok-source.ensures c.in_err-run.ensures
