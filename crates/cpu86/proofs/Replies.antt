-- Replies to what the machine asks.
use Rattle.std.proofs.Common.{◌≡◌, ℕ, Bool, true, false, cond, List, Option, Some, None, refl, sym, ap, ◌∙◌}
use Rattle.dialogue.specs.declared.blocks.Block.{Block}
use Rattle.dialogue.specs.declared.request.Shape.{Shape}
use Rattle.dialogue.specs.declared.request.Reply.{Reply}
use Rattle.dialogue.specs.declared.request.Event.{Event}
use Rattle.dialogue.specs.declared.request.Event.TheVariants.{Call, In}
use Rattle.dialogue.specs.Table.{Row, row_of}
use Rattle.dialogue.specs.Shape.{request_of}
use Rattle.dialogue.specs.Fits.{fits_row, fits, fits_event}
use Rattle.dialogue.specs.ByteMemory.{seen_by}
use Rattle.dialogue.specs.Calls.{Standing, replied_by}
use Rattle.cpu86.specs.State.{State86}
use Rattle.cpu86.specs.Call.{replied86}
use Rattle.cpu86.specs.declared.cpu.Pending.{Pending}
use Rattle.cpu86.specs.declared.cpu.Pending.TheVariants.{Answer, Byte}
use Rattle.cpu86.specs.Standing.{said_by}

fits_by_shape : (row : Option Row) (shape : Shape) (a b : List Block) (y : Reply) → fits_row row (record { shape = shape; blocks = a }) y ≡ fits_row row (record { shape = shape; blocks = b }) y
fits_by_shape None shape a b y = refl
fits_by_shape (Some row) shape a b y = refl

-- whether a reply fits is seen from the shape of the request
pub fits_same : (shape : Shape) (a b : List Block) (y : Reply) → fits (record { shape = shape; blocks = a }) y ≡ fits (record { shape = shape; blocks = b }) y
fits_same shape a b y = fits_by_shape (row_of shape.function) shape a b y

-- the reply to what the machine has said last
module _ (s : State86) (p : Pending) (e : Event) (y : Reply) (choice : ℕ) (said : said_by p s.mem ≡ Some e) where
  by_fit : (b : Bool) → fits_event e y ≡ b → cond b (true, record { state = replied86 s e y choice; said = None }) (false, record { state = s; said = Some e }) ≡ replied_by replied86 s y choice (said_by p s.mem)
  by_fit b fit =
      let yes : Standing State86 = record { state = replied86 s e y choice; said = None } in
      let no : Standing State86 = record { state = s; said = Some e } in
      let one : Bool → Bool × Standing State86 = λ t. cond t (true, yes) (false, no) in
      ap one (sym fit) ∙ ap (replied_by replied86 s y choice) (sym said)

  pub not_taken : fits_event e y ≡ false → (false, record { state = s; said = said_by p s.mem }) ≡ replied_by replied86 s y choice (said_by p s.mem)
  not_taken fit = ap (λ (o : Option Event). let z : Standing State86 = record { state = s; said = o } in let pair : Bool × Standing State86 = (false, z) in pair) said ∙ by_fit false fit

  pub is_taken : fits_event e y ≡ true → (true, record { state = replied86 s e y choice; said = None }) ≡ replied_by replied86 s y choice (said_by p s.mem)
  is_taken fit = by_fit true fit

-- what the machine has said last, by what it keeps
pub said_call : (p : Pending) (mem : ℕ → ℕ) (shape : Shape) → p ≡ Answer shape → said_by p mem ≡ Some (Call (request_of shape (seen_by mem)))
said_call p mem shape e = ap (λ x. said_by x mem) e

pub said_in : (p : Pending) (mem : ℕ → ℕ) (port : ℕ) → p ≡ Byte port → said_by p mem ≡ Some (In port)
said_in p mem port e = ap (λ x. said_by x mem) e
