use Rattle.std.proofs.Common.{ap, ◌∙◌, refl, codes}
use Rattle.clap.specs.Words.{found_of}
use Rattle.cmd_arguments.specs.Given.{names}
use Rattle.cmd_arguments.proofs.Gathering.{same_gathered}
use Rattle.cmd_arguments.proofs.Rows.{names_told, option_told}
use Rattle.cmd_arguments.proofs.given.Given.of_matches.Goals as goal

pub returns : goal.returns
returns c =
    let f = found_of c.args.matches.now in (
      c.has_flag.result,
      c.has_flag-2.result,
      c.has_flag-3.result,
      c.has_flag.ensures,
      c.has_flag-2.ensures,
      c.has_flag-3.ensures,
      same_gathered (c.of_texts.ensures ∙ ap names (names_told f (codes "names") _ c.get_raw.ensures))
          (option_told f _ _ c.get_str.result c.get_str.ensures c.name.ensures)
          (option_told f _ _ c.get_str-2.result c.get_str-2.ensures c.name-2.ensures)
          (option_told f _ _ c.get_str-3.result c.get_str-3.ensures c.name-3.ensures)
          (option_told f _ _ c.get_str-4.result c.get_str-4.ensures c.name-4.ensures)
          (option_told f _ _ c.get_str-5.result c.get_str-5.ensures c.name-5.ensures)
          (option_told f _ _ c.get_str-6.result c.get_str-6.ensures c.name-6.ensures)
          (option_told f _ _ c.get_str-7.result c.get_str-7.ensures c.name-7.ensures)
          (option_told f _ _ c.get_str-8.result c.get_str-8.ensures c.name-8.ensures)
          refl
          refl
          refl,
    )
