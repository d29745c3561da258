-- What `leaves` says of a program: the places at which a run leaves the profile, and how many there are. The lines are this project's own.
use Rattle.std.specs.Prelude.{◌≡◌, ℕ, codes, List, [], ◌∷◌, ◌++◌, Some, length, All}
use Rattle.std.specs.List.{concat}
use Rattle.std.specs.Fmt.{decimal}
use Rattle.host.specs.Host.{HostState, IsFile, Says}
use Rattle.asm80_types.specs.Program.{Program, line_at}
use Rattle.asm80_source_def.specs.Source.{IsSource}
use Rattle.profile_leaving.specs.declared.departure.Certainty.{Certainty}
use Rattle.profile_leaving.specs.declared.departure.Certainty.TheVariants.{Sure, May}
use Rattle.profile_leaving.specs.declared.departure.Departure.{Departure}
use Rattle.profile_leaving.specs.Leaving.{leaving}
use Rattle.profile_leaving.specs.Left.{PlaceIsLeft, RisesFrom}
use Rattle.cmd_arguments.specs.Words.{Listing}
use Rattle.cmd_common.specs.Lines.{word_digits, profile_rule, leaves_line}
use Rattle.cmd_common.specs.Kinds.{MakeKind}
use Rattle.cmd_common.specs.Sources.{reading_of}
use Rattle.cmd_lists.specs.Lists.{LinesOfProgram, list_kind}

-- a run leaves at the place, or only may
abbrev pub certainty_text : Certainty → List ℕ
certainty_text Sure = []
certainty_text May = codes "may "

-- the address in four hexadecimal digits, the number of the line, and the rule
abbrev pub departure_line : Departure → ℕ → List ℕ
departure_line x line = word_digits x.at ++ (codes " line " ++ (decimal line ++ (codes ": " ++ (certainty_text x.certainty ++ (profile_rule x.rule ++ codes "\n")))))

-- the line of a place, by the number of the line of its instruction
pub record IsDepartureLine (p : Program) (x : Departure) (line : List ℕ) : Type 0 where
  pub number : ℕ
  pub place : line_at p x.at ≡ Some number
  pub is : line ≡ departure_line x number

-- those of several, one by one
abbrev pub AreLinesOfPlaces : Program → List Departure → List (List ℕ) → Type 0
AreLinesOfPlaces p [] [] = Unit {0}
AreLinesOfPlaces p [] (l ∷ ls) = ⊥
AreLinesOfPlaces p (x ∷ xs) [] = ⊥
AreLinesOfPlaces p (x ∷ xs) (l ∷ ls) = IsDepartureLine p x l × AreLinesOfPlaces p xs ls

-- the lines of a program: one for each of its places, and the last line, which says how many there are of how many instructions
pub record AreDepartureLines (p : Program) (lines : List (List ℕ)) : Type 0 where
  pub places : List (List ℕ)
  pub are : AreLinesOfPlaces p (leaving p) places
  pub is : lines ≡ places ++ leaves_line (length (leaving p)) (length p.instrs) ∷ []

-- the command that lists them
abbrev pub leaves_kind : Listing → MakeKind LinesOfProgram
leaves_kind c = list_kind AreDepartureLines c

-- what stands after status 0: the source's file, where the host tells it, is the source of a program; its lines were said; the places
-- ascend; and no run passes one of them
pub record HasDepartures (c : Listing) (old new : HostState) : Type 0 where
  pub source : List ℕ
  pub program : Program
  pub lines : List (List ℕ)
  pub given : IsFile (old.file c.source) source
  pub is_source : IsSource (reading_of c.zilog) source c.top program
  pub are : AreDepartureLines program lines
  pub said : Says old new (concat lines)
  pub ascending : RisesFrom 0x100 (leaving program)
  pub left : All (PlaceIsLeft program) (leaving program)
