-- What is known of command files, to the command.
use Rattle.std.proofs.Common.{◌≡◌, ℕ, List, ap, sym, ◌∙◌}
use Rattle.cmd_file.specs.declared.fault.CmdFault.TheVariants.{Bad}
use Rattle.cmd_file.specs.CommandFile.{CommandFile, IsCommandFile}
use Rattle.cmd_file.specs.Reading.{IsCmdFaultOf}
use Rattle.cmd_arguments.specs.Words.{CmdShow}
use Rattle.cmd_common.specs.declared.stop.Stop.TheVariants.{BadCommandFile}
use Rattle.cmd_common.specs.Kinds.{KindLaws}
use Rattle.cmd_makes.specs.Shows.{cmd_show_kind}

pub laws_of_cmdshow : ((bytes : List ℕ) (file other : CommandFile) → IsCommandFile bytes file → IsCommandFile bytes other → file ≡ other) →
    ((bytes : List ℕ) (j k : ℕ) → IsCmdFaultOf bytes (Bad j) → IsCmdFaultOf bytes (Bad k) → j ≡ k) →
    ((bytes : List ℕ) (file : CommandFile) (k : ℕ) → IsCommandFile bytes file → IsCmdFaultOf bytes (Bad k) → ⊥) →
    (c : CmdShow) → KindLaws (cmd_show_kind c)
laws_of_cmdshow file fault apart c = record {
  one = file;
  refusal = λ bytes s t x y. x.2 ∙ ap BadCommandFile (fault bytes x.0 y.0 x.1 y.1) ∙ sym y.2;
  apart = λ bytes a stop is stops. apart bytes a stops.0 is stops.1;
}
