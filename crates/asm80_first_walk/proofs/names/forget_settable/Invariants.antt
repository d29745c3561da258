use Rattle.std.proofs.Common.{◌≡◌, ℕ, List, cond, drop}
use Rattle.asm80_first_walk.specs.Entries.{entry_in, has_text, not_settable}
use Rattle.asm80_first_walk.proofs.names.forget_settable.Given as goal

abbrev pub invariant-loop-name : goal.invariant-loop-name
invariant-loop-name l = (text : List ℕ) → cond (has_text (drop l.name-index l.names) text) (not_settable (entry_in l.entries.entries text)) (entry_in l.entries.entries text) ≡ cond (has_text l.names text) (not_settable (entry_in l.initial.entries.entries text)) (entry_in l.initial.entries.entries text)
