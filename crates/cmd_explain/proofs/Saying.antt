-- Lines that are said one after the other, by where they stand in the text.
use Rattle.std.proofs.Common.{◌∙◌, ℕ, ◌+◌, ◌-◌, ◌≤◌, List, length, take, drop, ap, sym, arith}
use Rattle.std.proofs.lemmas.List.{length-take-le, length-drop, take-take}
use Rattle.host.specs.Host.{HostState, SameFiles, Says, said_more}
use Rattle.host.proofs.HostLemmas.{said_more-take}
use Rattle.host_files.specs.Transfer.{CutsLine}
use Rattle.cmd_common.specs.Names.{FileNames}
use Rattle.cmd_common.specs.declared.stop.Stop.{Stop}
use Rattle.cmd_common.proofs.Said.{closes_files}
use Rattle.cmd_explain.specs.Explains.{SaysBefore, whole, failed, no_memory}
use Rattle.cmd_explain.proofs.Positions.{to_the_end}

-- a line of what is left ends within the text
pub fits_on : (text : List ℕ) (n size : ℕ) → n ≤ length text → size ≤ length (take (length text - n) (drop n text)) → n + size ≤ length text
fits_on text n size within fits =
    let all = ap length (to_the_end n text) in
    let rest = length-drop n text in
    omega (arith, within, fits, all, rest)

module _ (text : List ℕ) (n size : ℕ) (old mid new : HostState) (before : Says old mid (take n text)) where
  -- one line more was said
  pub said_on : Says mid new (take size (drop n text)) → Says old new (take (n + size) text)
  said_on s = s ∙ ap (λ o. said_more o (take size (drop n text))) before ∙ sym (said_more-take old.said text n size)

  -- a fault cut the line off
  pub cut_later : n + size ≤ length text → CutsLine (take size (drop n text)) mid new → CutsLine text old new
  cut_later fits k =
      let few = k.short in
      let rest = length-drop n text in
      let all = length-take-le size (drop n text) (omega (arith, fits, rest)) in
      record {
        count = n + k.count;
        short = omega (arith, few, all, fits);
        said = k.said
            ∙ ap (said_more mid.said) (take-take k.count size (drop n text) (omega (arith, few, all)))
            ∙ ap (λ o. said_more o (take k.count (drop n text))) before
            ∙ sym (said_more-take old.said text n k.count);
      }

-- what is said before the last line, and that line, change no file
pub before_files : (names : FileNames) (text : List ℕ) (stop : Stop) (old new : HostState) (status : ℕ) → SaysBefore names text stop old new status → SameFiles old new
before_files names text stop old new status (whole mid only s f closes) = λ name. closes_files names stop mid new status closes name ∙ only.files name
before_files names text stop old new _ (failed s) = s.only.files
before_files names text stop old new _ (no_memory s) = s.only.files
