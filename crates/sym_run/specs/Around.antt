-- What a walk is in and what it meets, of the values that say it.
use Rattle.std.specs.Prelude.{Option, Some, None}
use Rattle.xlt_pool.specs.Contents.{Contents}
use Rattle.sym_block_def.specs.Outcome.{Way}
use Rattle.sym_block_def.specs.Walk86.{Surroundings, Met, EndsAt, Instruction, Nothing}
use Rattle.sym_micro.specs.declared.outcome.Way.{Way as WayIds}
use Rattle.sym_micro.specs.Exits.{WayIs}
use Rattle.sym_run.specs.declared.around.Around.{Around}
use Rattle.sym_run.specs.declared.around.Met.{Met as Meets}
use Rattle.sym_run.specs.declared.around.Met.TheVariants.{EndsAt as MeetsLabel, Instruction as MeetsInstruction, Nothing as MeetsNothing}

abbrev pub surroundings_of : Around → Surroundings
surroundings_of a = record { text = a.text.now; later = a.later.now; after = a.after; goes_on = a.goes_on }

abbrev pub met_of : Meets → Met
met_of (MeetsLabel l) = EndsAt l
met_of (MeetsInstruction x rest) = Instruction x rest.now
met_of MeetsNothing = Nothing

-- the ids of a way stand for it, or there is none of either
abbrev pub WayMayBe : Option Way → Option WayIds → Type 0
WayMayBe None None = Unit {0}
WayMayBe (Some tree) (Some way) = (pool : Contents) → WayIs pool tree way
WayMayBe tree way = ⊥
