-- Memory of the tagged 8080: which cells may be read and written, and by which rule a program leaves the profile else.
use Rattle.std.specs.Prelude.{ℕ, ◌+◌, ◌*◌, ◌==◌, ◌&&◌, ◌||◌, nat_lt, nat_le, Bool, true, false, cond, Result, Ok, Err}
use Rattle.cells.specs.declared.Cell.{Cell}
use Rattle.cells.specs.declared.Rule.{Rule}
use Rattle.cells.specs.declared.Rule.TheVariants.{P2, P3, P4, P8}
use Rattle.dialogue.specs.Tried.{try_then}
use Rattle.asm80_types.specs.Program.{Program, is_code}
use Rattle.cpu80_tagged.specs.State.{State80, num_or}

-- cells that a program of the profile neither reads nor writes: those of instructions, cells 0 to 5 and 8 to 5BH, and those
-- from the top of the program area up
abbrev pub is_closed : Program → ℕ → Bool
is_closed p a = nat_lt a 6 || ((nat_le 8 a && nat_lt a 0x5C) || (nat_le p.top a || is_code p a))

-- the word at 6 may be read and not written
abbrev pub is_write_protected : Program → ℕ → Bool
is_write_protected p a = is_closed p a || (a == 6 || a == 7)

-- passes where the test fails
abbrev pub unless_then : Bool → Rule → Result Bool Rule
unless_then true r = Err r
unless_then false r = Ok true

abbrev pub put : (ℕ → Cell) → ℕ → Cell → ℕ → Cell
put m a v b = cond (b == a) v (m b)

-- the address in two cells (P8)
abbrev pub address : Cell → Cell → Result ℕ Rule
address high low = try_then (num_or P8 high) (λ h. try_then (num_or P8 low) (λ l. Ok (256 * h + l)))

-- a word does not begin at the last cell (P4)
abbrev pub word_fits : ℕ → Result Bool Rule
word_fits a = unless_then (a == 0xFFFF) P4

-- a cell is read (P2) and written (P3)
abbrev pub read_at : Program → State80 → ℕ → Result Cell Rule
read_at p s a = try_then (unless_then (is_closed p a) P2) (λ o. Ok (s.mem a))

abbrev pub may_write : Program → ℕ → Result Bool Rule
may_write p a = unless_then (is_write_protected p a) P3

abbrev pub write_at : Program → State80 → ℕ → Cell → Result State80 Rule
write_at p s a v = try_then (may_write p a) (λ o. Ok (record s { mem = put s.mem a v }))

-- two cells, the low one first
pub record Halves : Type 0 where
  pub high : Cell
  pub low : Cell

abbrev pub read_word : Program → State80 → ℕ → Result Halves Rule
read_word p s a =
    try_then (word_fits a) (λ o. try_then (read_at p s a) (λ l. try_then (read_at p s (a + 1)) (λ h. Ok (record { high = h; low = l }))))

abbrev pub write_word : Program → State80 → ℕ → Cell → Cell → Result State80 Rule
write_word p s a high low =
    try_then (word_fits a) (λ o. try_then (may_write p a) (λ o. try_then (may_write p (a + 1)) (λ o.
    Ok (record s { mem = put (put s.mem a low) (a + 1) high }))))
