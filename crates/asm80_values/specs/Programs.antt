-- The instructions and the data cells of items.
use Rattle.std.specs.Prelude.{◌≡◌, ℕ, ◌==◌, ◌&&◌, Bool, true, false, List, [], ◌∷◌, find, length, All, Option, Some, None, IfSome, is_none}
use Rattle.std.specs.List.{list_any}
use Rattle.cells.specs.declared.Cell.{Cell}
use Rattle.cells.specs.declared.Cell.TheVariants.{Num, Lo, Hi}
use Rattle.cells.specs.declared.Place.TheVariants.{At as AtPlace}
use Rattle.i80.specs.declared.Instr80.{Instr80}
use Rattle.i80.specs.Columns.{length80, is_well_formed}
use Rattle.asm80_types.specs.declared.program.Placed.{Placed}
use Rattle.asm80_types.specs.Program.{named_by, is_top, IsCoded}
use Rattle.asm80_values.specs.Forms.{HoldsByte}
use Rattle.asm80_values.specs.declared.form.Form.{Form}
use Rattle.asm80_values.specs.declared.form.Form.TheVariants.{Nothing, Instruction, Data}
use Rattle.asm80_source_def.specs.declared.rule.AsmRule.TheVariants.{S1, S7}
use Rattle.asm80_source_def.specs.Items.{laid_from}
use Rattle.asm80_values.specs.declared.item.Item.{Item}
use Rattle.asm80_values.specs.Items.{overlap_from, breaks}

abbrev pub placed_by : ℕ → ℕ → Option Instr80 → Option Placed
placed_by at line None = None
placed_by at line (Some instr) = Some (record { at = at; line = line; instr = instr })

abbrev pub placed_form : ℕ → ℕ → Form → Option Placed
placed_form at line Nothing = None
placed_form at line (Instruction i) = placed_by at line i.instr
placed_form at line (Data d) = None

-- the instruction of an item, at its address
abbrev pub placed_item : Item → Option Placed
placed_item i = placed_form i.at i.line i.form

abbrev pub data_form : Form → List Cell
data_form Nothing = []
data_form (Instruction i) = []
data_form (Data d) = d.cells.items

-- the data cells of an item
abbrev pub data_item : Item → List (ℕ × Cell)
data_item i = laid_from i.at (data_form i.form)

abbrev pub is_instruction_form : Form → Bool
is_instruction_form Nothing = false
is_instruction_form (Instruction i) = true
is_instruction_form (Data d) = false

abbrev pub starts_item : ℕ → Item → Bool
starts_item a i = is_instruction_form i.form && (i.at == a)

-- what it fills its cells with has as many bytes; only what is foreign to the profile is no instruction of it
abbrev pub IsSoundForm : ℕ → Form → Type 0
IsSoundForm n Nothing = Unit {0}
IsSoundForm n (Instruction i) = (i.is_foreign ≡ is_none i.instr) × IfSome i.instr (λ x. (is_well_formed x ≡ true) × (length80 x ≡ n))
IsSoundForm n (Data d) = length d.cells.items ≡ n

abbrev pub IsSound : Item → Type 0
IsSound i = IsSoundForm i.size i.form

-- an instruction starts at the address of one that it names
abbrev pub NamesStart : (ℕ → Bool) → Instr80 → Type 0
NamesStart is_start x = IfSome (named_by x) (λ a. is_start a ≡ true)

-- numbers, and code addresses at which instructions start: each as its low half and its high half behind it
abbrev pub AreHalved : (ℕ → Bool) → List Cell → Type 0
AreHalved is_start [] = Unit {0}
AreHalved is_start (Num n ∷ cs) = AreHalved is_start cs
AreHalved is_start (Lo (AtPlace q) ∷ (Hi (AtPlace r) ∷ cs)) = (is_start q ≡ true) × (r ≡ q) × AreHalved is_start cs
AreHalved is_start cs = ⊥

-- what holds of the instruction or of the data of an item
abbrev pub OfForm : (Instr80 → Type 0) → (List Cell → Type 0) → Form → Type 0
OfForm P Q Nothing = Unit {0}
OfForm P Q (Instruction i) = IfSome i.instr P
OfForm P Q (Data d) = Q d.cells.items

abbrev pub OfItem : (Instr80 → Type 0) → (List Cell → Type 0) → Item → Type 0
OfItem P Q i = OfForm P Q i.form

-- an instruction starts at each address of one that an item names
abbrev pub NamesStarts : (ℕ → Bool) → Item → Type 0
NamesStarts is_start i = OfItem (NamesStart is_start) (AreHalved is_start) i

-- its numbers are in their ranges
abbrev pub HoldsNumbers : Item → Type 0
HoldsNumbers i = OfItem (λ x. IsCoded x) (All HoldsByte) i

-- items that break none of the rules S3, S6, S7, S1 and S2; so what they name are instructions
pub record AreLawful (top : ℕ) (is : List Item) : Type 0 where
  pub is_top : is_top top ≡ true
  pub sound : All IsSound is
  pub start : list_any (starts_item 0x100) is ≡ true
  pub apart : overlap_from [] is ≡ None
  pub within : find (breaks top S7) is ≡ None
  pub native : find (breaks top S1) is ≡ None
  pub named : All (NamesStarts (λ a. list_any (starts_item a) is)) is
  pub coded : All HoldsNumbers is
