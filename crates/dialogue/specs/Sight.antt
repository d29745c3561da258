-- What one machine sees of memory, and another that sees more.
use Rattle.std.specs.Prelude.{◌≡◌, ℕ, ◌<◌, true, Option, Some, Ok}
use Rattle.dialogue.specs.declared.request.Shape.{Shape}
use Rattle.dialogue.specs.Shape.{Seen, shape_of, request_of}

-- what the first sees, the second sees too; and what the first may write, the second may
pub record SeesMore (s t : Seen) : Type 0 where
  pub byte : (a n : ℕ) → a < 0x10000 → s.byte a ≡ Some n → t.byte a ≡ Some n
  pub writable : (a : ℕ) → a < 0x10000 → s.writable a ≡ true → t.writable a ≡ true

-- a byte that the first knows, the second knows too
abbrev pub KnowsMore : Option ℕ → Option ℕ → Type 0
KnowsMore o q = (n : ℕ) → o ≡ Some n → (n < 256) × (q ≡ Some n)

abbrev pub WhoSeesMoreAsksTheSame : Type 0
WhoSeesMoreAsksTheSame =
    (function dma : ℕ) (d e d' e' : Option ℕ) (s t : Seen) (shape : Shape) →
    SeesMore s t →
    KnowsMore d d' →
    KnowsMore e e' →
    shape_of (Some function) d e dma s ≡ Ok shape →
    (shape_of (Some function) d' e' dma t ≡ Ok shape) × (request_of shape t ≡ request_of shape s)
