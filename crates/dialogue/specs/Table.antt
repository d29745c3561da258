-- The call table: for each function of the BDOS its argument, its answer, and the memory that it reads and may write
-- (CP/M 2.2 Operating System Manual, "BDOS functions"; the ranges are this project's profile of what the systems touch).
use Rattle.std.specs.Prelude.{ℕ, zero, suc, ◌==◌, cond, List, [], ◌∷◌, Option, Some, None}
pub use Rattle.dialogue.specs.declared.table.Argument.{Argument}
pub use Rattle.dialogue.specs.declared.table.Argument.TheVariants.{NoArgument, InE, DirectInE, InDE}
pub use Rattle.dialogue.specs.declared.table.AnswerKind.{AnswerKind}
pub use Rattle.dialogue.specs.declared.table.AnswerKind.TheVariants.{NoAnswer, ByteAnswer, WordAnswer}
pub use Rattle.dialogue.specs.declared.table.AnswerRule.{AnswerRule}
pub use Rattle.dialogue.specs.declared.table.AnswerRule.TheVariants.{Always, ByteWhere}
pub use Rattle.dialogue.specs.declared.table.Extent.{Extent}
pub use Rattle.dialogue.specs.declared.table.Extent.TheVariants.{F, Dma, Text, Line}
use Rattle.dialogue.specs.declared.table.Row.{Row as LaidOut}

-- a row of the table
pub record Row : Type 0 where
  pub argument : Argument
  pub answer : AnswerRule
  pub reads : List Extent
  pub writes : List Extent

-- the table, by the function's number
abbrev pub call_table : List (ℕ × Row)
call_table =
    (0, record { argument = NoArgument; answer = Always NoAnswer; reads = []; writes = [] })
    ∷ ((1, record { argument = NoArgument; answer = Always ByteAnswer; reads = []; writes = [] })
    ∷ ((2, record { argument = InE; answer = Always NoAnswer; reads = []; writes = [] })
    ∷ ((6, record { argument = DirectInE; answer = ByteWhere 0xFF; reads = []; writes = [] })
    ∷ ((9, record { argument = InDE; answer = Always NoAnswer; reads = Text ∷ []; writes = [] })
    ∷ ((10, record { argument = InDE; answer = Always NoAnswer; reads = F 0 1 ∷ []; writes = Line ∷ [] })
    ∷ ((11, record { argument = NoArgument; answer = Always ByteAnswer; reads = []; writes = [] })
    ∷ ((12, record { argument = NoArgument; answer = Always WordAnswer; reads = []; writes = [] })
    ∷ ((13, record { argument = NoArgument; answer = Always NoAnswer; reads = []; writes = [] })
    ∷ ((14, record { argument = InE; answer = Always NoAnswer; reads = []; writes = [] })
    ∷ ((15, record { argument = InDE; answer = Always ByteAnswer; reads = F 0 13 ∷ []; writes = F 0 32 ∷ [] })
    ∷ ((16, record { argument = InDE; answer = Always ByteAnswer; reads = F 0 32 ∷ []; writes = F 12 20 ∷ [] })
    ∷ ((17, record { argument = InDE; answer = Always ByteAnswer; reads = F 0 13 ∷ []; writes = Dma ∷ [] })
    ∷ ((18, record { argument = NoArgument; answer = Always ByteAnswer; reads = []; writes = Dma ∷ [] })
    ∷ ((19, record { argument = InDE; answer = Always ByteAnswer; reads = F 0 12 ∷ []; writes = [] })
    ∷ ((20, record { argument = InDE; answer = Always ByteAnswer; reads = F 0 33 ∷ []; writes = F 12 21 ∷ (Dma ∷ []) })
    ∷ ((21, record { argument = InDE; answer = Always ByteAnswer; reads = F 0 33 ∷ (Dma ∷ []); writes = F 12 21 ∷ [] })
    ∷ ((22, record { argument = InDE; answer = Always ByteAnswer; reads = F 0 13 ∷ []; writes = F 0 32 ∷ [] })
    ∷ ((23, record { argument = InDE; answer = Always ByteAnswer; reads = F 0 12 ∷ (F 16 12 ∷ []); writes = [] })
    ∷ ((25, record { argument = NoArgument; answer = Always ByteAnswer; reads = []; writes = [] })
    ∷ ((26, record { argument = InDE; answer = Always NoAnswer; reads = []; writes = [] })
    ∷ ((33, record { argument = InDE; answer = Always ByteAnswer; reads = F 0 32 ∷ (F 33 3 ∷ []); writes = F 12 21 ∷ (Dma ∷ []) })
    ∷ ((34, record { argument = InDE; answer = Always ByteAnswer; reads = F 0 32 ∷ (F 33 3 ∷ (Dma ∷ [])); writes = F 12 21 ∷ [] })
    ∷ ((35, record { argument = InDE; answer = Always NoAnswer; reads = F 0 12 ∷ []; writes = F 33 3 ∷ [] })
    ∷ ((36, record { argument = InDE; answer = Always NoAnswer; reads = F 12 1 ∷ (F 14 1 ∷ (F 32 1 ∷ [])); writes = F 33 3 ∷ [] })
    ∷ []))))))))))))))))))))))))

-- the entry of a number
abbrev pub entry_at : {X : Type 0} → List (ℕ × X) → ℕ → Option X
entry_at [] n = None
entry_at (e ∷ es) n = cond (n == e.0) (Some e.1) (entry_at es n)

-- the row of a function, if the profile has it
unfoldable pub row_of : ℕ → Option Row
row_of function = entry_at call_table function

-- so many places: the items, and None after them
abbrev pub padded_to : {X : Type 0} → ℕ → List X → List (Option X)
padded_to zero xs = []
padded_to (suc k) [] = None ∷ padded_to k []
padded_to (suc k) (x ∷ xs) = Some x ∷ padded_to k xs

-- a row as the code has it, in arrays
abbrev pub laid_out : Row → LaidOut
laid_out row = record {
  argument = row.argument;
  answer = row.answer;
  reads = padded_to 3 row.reads;
  writes = padded_to 2 row.writes;
}
