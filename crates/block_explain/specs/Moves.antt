-- Loads and stores, ways and exits in words.
use Rattle.std.specs.Prelude.{ℕ, codes, Bool, true, false, List, ◌++◌}
use Rattle.sym_block_def.specs.Outcome.{Action, Load8, Load16, Store8, Store16, Way, Goto, ByTerms, Call, Sys, SysReturn, Boot, Leave, In, Out, Exit, One, Two}
use Rattle.block_explain.specs.Names.{number_words, label_words}
use Rattle.block_explain.specs.Words.{words}

-- the value before the address
abbrev pub action_words : Action → List ℕ
action_words (Load8 a) = codes "load byte at " ++ words a
action_words (Load16 a) = codes "load word at " ++ words a
action_words (Store8 a v) = codes "store byte " ++ (words v ++ (codes " at " ++ words a))
action_words (Store16 a v) = codes "store word " ++ (words v ++ (codes " at " ++ words a))

abbrev pub way_words : Way → List ℕ
way_words (Goto q) = codes "to " ++ label_words q
way_words (ByTerms h l) = codes "to " ++ (words h ++ (codes ":" ++ words l))
way_words (Call q back) = codes "call " ++ (label_words q ++ (codes ", back to " ++ label_words back))
way_words (Sys back) = codes "system, back to " ++ label_words back
way_words SysReturn = codes "system and return"
way_words Boot = codes "end"
way_words Leave = codes "out of the profile"
way_words (In port next) = codes "in " ++ (number_words port ++ (codes ", on to " ++ label_words next))
way_words (Out port next) = codes "out " ++ (number_words port ++ (codes ", on to " ++ label_words next))

-- the condition of two ways
abbrev pub if_words : Bool → List ℕ
if_words true = codes "if "
if_words false = codes "if not "

abbrev pub exit_words : Exit → List ℕ
exit_words (One way) = way_words way
exit_words (Two f value a b) = if_words value ++ (words f ++ (codes " then " ++ (way_words a ++ (codes " else " ++ way_words b))))
