-- What the reader keeps of the statements that it has passed, to tell which may stand next.
use Rattle.std.specs.Prelude.{◌≡◌, ℕ, ◌<◌, ◌==◌, true, List, [], ◌∷◌, min}
use Rattle.std.specs.List.{list_any}
use Rattle.base.specs.Addresses.{has_address}
use Rattle.asm86_line_types.specs.declared.line.Stmt86.{Stmt86}
use Rattle.asm86_line_types.specs.Order.{Group as Part, NoGroup, CodeGroup, DataGroup, Reading, reading_after, at_start, in_order, ends_text}
use Rattle.asm86.specs.declared.order.Group.{Group}
use Rattle.asm86.specs.declared.order.Group.TheVariants.{Neither, Code, Data}
use Rattle.asm86.specs.declared.order.Order.{Order}

abbrev pub part_of_group : Group → Part
part_of_group Neither = NoGroup
part_of_group Code = CodeGroup
part_of_group Data = DataGroup

-- the order is at the place of a reading: in its group, at its data address, and with its cells filled
pub record IsOrderAt (order : Order) (r : Reading) : Type 0 where
  pub group : part_of_group order.group ≡ r.group
  pub code_came : order.code_came ≡ r.code_came
  pub data_came : order.data_came ≡ r.data_came
  pub at : order.at ≡ min r.at 0x10000
  pub filled : (a : ℕ) → a < 0x10000 → has_address order.filled a ≡ list_any (λ b. b == a) r.filled

-- the reading after statements
abbrev pub after_all : Reading → List Stmt86 → Reading
after_all r [] = r
after_all r (x ∷ xs) = after_all (reading_after r x) xs

-- the order is behind these statements, which are in order
pub record IsAfter (order : Order) (xs : List Stmt86) : Type 0 where
  pub in_order : in_order at_start xs ≡ true
  pub place : IsOrderAt order (after_all at_start xs)
  pub ended : order.is_ended ≡ list_any ends_text xs
