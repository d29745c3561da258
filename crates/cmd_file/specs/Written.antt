-- The command file of an image, and the bytes that are written of one.
use Rattle.std.specs.Prelude.{◌≡◌, ℕ, ◌+◌, ◌-◌, ◌/◌, ◌%◌, ◌<◌, ◌≤◌, max, List, ◌++◌, map, length, replicate}
use Rattle.std.specs.List.{All, fold, range_with_len}
use Rattle.std.specs.Int.{next_multiple_of}
use Rattle.asm86_line_types.specs.Image.{Image}
use Rattle.dialogue.specs.ByteMemory.{put_cells}
use Rattle.cmd_file.specs.CommandFile.{Group, Layout, file_bytes, CommandFile}

-- how many zeros are lacking to a multiple of a unit
abbrev pub lacking : ℕ → ℕ → ℕ
lacking unit n = next_multiple_of n unit - n

-- filled with zeros to a multiple of a unit
abbrev pub zero_filled : ℕ → List ℕ → List ℕ
zero_filled unit bytes = bytes ++ replicate (lacking unit (length bytes)) 0

-- the address after the highest cell, and at least 100H
abbrev pub end_with : ℕ → ℕ × ℕ → ℕ
end_with end cell = max end (cell.0 + 1)

abbrev pub data_end : List (ℕ × ℕ) → ℕ
data_end cells = fold end_with 0x100 cells

-- the bytes from address 0 up to there, zero where there is no cell
unfoldable pub data_bytes : List (ℕ × ℕ) → List ℕ
data_bytes cells = map (put_cells (λ a. 0) cells) (range_with_len 0 (data_end cells))

abbrev pub command_file_of : Image → CommandFile
command_file_of image = record { code = zero_filled 16 image.code; «data» = zero_filled 16 (data_bytes image.cells) }

-- the paragraphs of a group
abbrev pub paragraphs : List ℕ → ℕ
paragraphs bytes = length bytes / 16

abbrev pub no_group : Group
no_group = record { form = 0; length = 0; base = 0; least = 0; greatest = 0 }

-- the code has memory of its own size, and the data have all of 64K; zeros everywhere else, up to a multiple of 128 bytes
abbrev pub written_layout : CommandFile → Layout
written_layout file = record {
  code_group = record { form = 1; length = paragraphs file.code; base = 0; least = paragraphs file.code; greatest = paragraphs file.code };
  data_group = record { form = 2; length = paragraphs file.data; base = 0; least = 0x1000; greatest = 0x1000 };
  other_groups = replicate 6 no_group;
  reserved = replicate 56 0;
  code = file.code;
  «data» = file.data;
  padding = replicate (lacking 128 (128 + (length file.code + length file.data))) 0;
}

unfoldable pub written : CommandFile → List ℕ
written file = file_bytes (written_layout file)

-- bytes that a group may have: whole paragraphs, at most 64K
pub record IsPart (bytes : List ℕ) : Type 0 where
  pub whole : length bytes % 16 ≡ 0
  pub most : length bytes ≤ 0x10000

-- what may be written
pub record MayBeWritten (file : CommandFile) : Type 0 where
  pub code_part : IsPart file.code
  pub data_part : IsPart file.data
  pub code_small : All (λ b. b < 256) file.code
  pub data_small : All (λ b. b < 256) file.data
