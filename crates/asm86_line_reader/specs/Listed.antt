-- Words that are listed by their first letters.
use Rattle.std.specs.Prelude.{ℕ, ◌-◌, nat_lt, cond, List, [], ◌∷◌, Option, None, option_and_then}
use Rattle.std.specs.List.{slice_get}
use Rattle.asm86_line_reader.specs.declared.token.Token.{Token}
use Rattle.asm86_line_reader.specs.Words.{word_in_table}

-- the token under a word in its list: the lists are those of A and the letters after it
unfoldable pub listed_token : List (List (List ℕ × Token)) → List ℕ → Option Token
listed_token lists [] = None
listed_token lists (letter ∷ rest) = cond (nat_lt letter 0x41) None (option_and_then (λ list. word_in_table list (letter ∷ rest)) (slice_get lists (letter - 0x41)))
