-- A command that reads one file, and makes something of its bytes: a file that it writes, or only what it says.
use Rattle.std.specs.Prelude.{◌≡◌, ℕ, List, Option}
use Rattle.cmd_common.specs.declared.stop.Stop.{Stop}

-- the kinds differ in this: the name of the file that is read and the most bytes that it may have, the name of the file that is
-- written, if there is one; what bytes give, and by which stop they give nothing; the bytes that are written of what they give, and the
-- line or lines that are said of it
pub record MakeKind (Made : Type 0) : Type 1 where
  pub file : List ℕ
  pub most : ℕ
  pub output : Option (List ℕ)
  pub IsGiven : List ℕ → Made → Type 0
  pub IsRefused : List ℕ → Stop → Type 0
  pub content : Made → List ℕ
  pub report : Made → List ℕ

-- what is known of a kind: bytes give one thing at most, are refused by one stop at most, and not both
pub record KindLaws {Made : Type 0} (k : MakeKind Made) : Type 0 where
  pub one : (bytes : List ℕ) (a b : Made) → k.IsGiven bytes a → k.IsGiven bytes b → a ≡ b
  pub refusal : (bytes : List ℕ) (s t : Stop) → k.IsRefused bytes s → k.IsRefused bytes t → s ≡ t
  pub apart : (bytes : List ℕ) (a : Made) (s : Stop) → k.IsGiven bytes a → k.IsRefused bytes s → ⊥
