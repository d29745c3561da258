-- The term of what is seen.
use Rattle.std.specs.Prelude.{cond}
use Rattle.xlt_pool.specs.Contents.{Contents}
use Rattle.sym_terms.specs.Term.{Term, Num, High, Low, Unknown}
use Rattle.sym_terms.specs.Trees.{tree_in, IsGiven}
use Rattle.sym_run.specs.declared.seen.Seen.{Seen}
use Rattle.sym_run.specs.declared.seen.Seen.TheVariants.{Of, Half, Number, Unknown as UnknownSeen}

abbrev pub tree_of_seen : Contents → Seen → Term
tree_of_seen pool (Of t) = tree_in pool t
tree_of_seen pool (Half w is_high) = cond is_high (High (tree_in pool w)) (Low (tree_in pool w))
tree_of_seen pool (Number n) = Num n
tree_of_seen pool UnknownSeen = Unknown

abbrev pub SeenIsGiven : Contents → Seen → Type 0
SeenIsGiven pool (Of t) = IsGiven pool t
SeenIsGiven pool (Half w is_high) = IsGiven pool w
SeenIsGiven pool (Number n) = Unit {0}
SeenIsGiven pool UnknownSeen = Unit {0}
