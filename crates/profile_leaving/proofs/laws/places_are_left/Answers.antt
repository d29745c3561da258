use Rattle.profile_leaving.proofs.Listing.{places_left}
use Rattle.profile_leaving.proofs.laws.places_are_left.Goals as goal

pub returns : goal.returns
returns c = λ p is. places_left c.sound_80.ensures p is (c.blocks_cut_the_program.ensures p is)
