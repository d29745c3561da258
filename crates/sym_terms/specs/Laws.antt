-- What is so of every made term.
use Rattle.std.specs.Prelude.{◌≡◌, ◌<◌, ℕ, Bool, true, false, Option}
use Rattle.cells.specs.declared.Flags.{Flags}
use Rattle.cells.specs.declared.Cell.{Cell}
use Rattle.cells.specs.declared.Part.{Part}
use Rattle.i80.specs.declared.Op.{Op}
use Rattle.sym_terms.specs.Term.{Term, Num, Alu, Flag, Sum16, High, Low, Join, FlagByte, Bit, Turn, Turned, Adjust, is_flag, is_bit, is_byte, is_word, leaves_flag, is_open, is_adjusted, shows_open}
use Rattle.sym_terms.specs.Making.{alu, flag, sum16, high, low, join, bit, turn, adjust, IsTermMade}
use Rattle.sym_terms.specs.Values80.{Env80, Value80, Byte, Word, OneBit, Result, Val80}
use Rattle.sym_terms.specs.Values86.{Env86, Value86, Number, Result as Result86, Val86}

-- a term that is made, of a sort
abbrev pub IsMadeAs : (Term → Bool) → Term → Type 0
IsMadeAs sort t = IsTermMade t × (sort t ≡ true)

-- each value that an operation may have on operands of their sorts is one that the made term may have
pub record KeepValues (V : Type 0) (Val : Term → V → Type 0) : Type 0 where
  pub alu : (op : Op) (a b c : Term) (v : V) → IsMadeAs is_byte a → IsMadeAs is_byte b → IsMadeAs is_bit c → Val (Alu op a b c) v → Val (alu op a b c) v
  pub flag : (part : Part) (r : Term) (v : V) → IsMadeAs (leaves_flag part) r → Val (Flag part r) v → Val (flag part r) v
  pub sum16 : (a b : Term) (v : V) → IsMadeAs is_word a → IsMadeAs is_word b → Val (Sum16 a b) v → Val (sum16 a b) v
  pub high : (w : Term) (v : V) → IsMadeAs is_word w → Val (High w) v → Val (high w) v
  pub low : (w : Term) (v : V) → IsMadeAs is_word w → Val (Low w) v → Val (low w) v
  pub join : (h l : Term) (v : V) → IsMadeAs is_byte h → IsMadeAs is_byte l → Val (Join h l) v → Val (join h l) v
  pub bit : (b : Term) (part : Part) (v : V) → IsMadeAs is_byte b → is_flag part ≡ true → Val (Bit b part) v → Val (bit b part) v
  pub turn : (kind : ℕ) (a c : Term) (v : V) → IsMadeAs is_byte a → IsMadeAs is_bit c → Val (Turn kind a c) v → Val (turn kind a c) v
  pub adjust : (a ac cy : Term) (v : V) → IsMadeAs is_byte a → IsMadeAs is_bit ac → IsMadeAs is_bit cy → Val (Adjust a ac cy) v → Val (adjust a ac cy) v

-- there is at most one value of each kind
pub record OneValue80 (Has : Value80 → Type 0) : Type 0 where
  pub byte : (x y : Cell) → Has (Byte x) → Has (Byte y) → x ≡ y
  pub word : (x y x' y' : Cell) → Has (Word x y) → Has (Word x' y') → (x ≡ x') × (y ≡ y')
  pub one_bit : (o o' : Option Bool) → Has (OneBit o) → Has (OneBit o') → o ≡ o'
  pub result : (n n' : ℕ) (f f' : Flags) → Has (Result n f) → Has (Result n' f') → (n ≡ n') × (f ≡ f')

pub record OneValue86 (Has : Value86 → Type 0) : Type 0 where
  pub number : (m n : ℕ) → Has (Number m) → Has (Number n) → m ≡ n
  pub result : (m n : ℕ) (f g : Flags) → Has (Result86 m f) → Has (Result86 n g) → (m ≡ n) × (f ≡ g)

-- on the 8086's side that is so of made terms in which nothing open and no Adjust stands
pub record MadeTermsKeepValues : Type 0 where
  pub on_8080 : (e : Env80) → KeepValues Value80 (Val80 e)
  pub on_8086 : (e : Env86) → KeepValues Value86 (Val86 e)
  pub one_on_8080 : (e : Env80) (t : Term) → OneValue80 (Val80 e t)
  pub one_on_8086 : (e : Env86) (t : Term) → IsTermMade t → is_open t ≡ false → is_adjusted t ≡ false → OneValue86 (Val86 e t)

-- what each maker makes is made, and of its sort; and what is open in a made term shows
pub record MadeTermsHaveSorts : Type 0 where
  pub open_shows : (t : Term) → IsTermMade t → is_open t ≡ shows_open t
  pub bits_are_bytes : (t : Term) → IsMadeAs is_bit t → IsMadeAs is_byte t
  pub bytes_are_words : (n : ℕ) → n < 0x10000 → IsMadeAs is_word (Num n)
  pub alu : (op : Op) (a b c : Term) → IsMadeAs is_byte a → IsMadeAs is_byte b → IsMadeAs is_bit c → IsMadeAs is_byte (alu op a b c)
  pub flag : (part : Part) (r : Term) → IsMadeAs (leaves_flag part) r → IsMadeAs is_bit (flag part r)
  pub sum16 : (a b : Term) → IsMadeAs is_word a → IsMadeAs is_word b → IsMadeAs is_word (sum16 a b)
  pub high : (w : Term) → IsMadeAs is_word w → IsMadeAs is_byte (high w)
  pub low : (w : Term) → IsMadeAs is_word w → IsMadeAs is_byte (low w)
  pub join : (h l : Term) → IsMadeAs is_byte h → IsMadeAs is_byte l → IsMadeAs is_word (join h l)
  pub flag_byte : (s z ac p cy : Term) → IsMadeAs is_bit s → IsMadeAs is_bit z → IsMadeAs is_bit ac → IsMadeAs is_bit p → IsMadeAs is_bit cy → IsMadeAs is_byte (FlagByte s z ac p cy)
  pub bit : (b : Term) (part : Part) → IsMadeAs is_byte b → is_flag part ≡ true → IsMadeAs is_bit (bit b part)
  pub turn : (kind : ℕ) (a c : Term) → kind < 4 → IsMadeAs is_byte a → IsMadeAs is_bit c → IsMadeAs is_byte (turn kind a c)
  pub turned : (c : Term) → IsMadeAs is_bit c → IsMadeAs is_word (Turned c)
  pub adjust : (a ac cy : Term) → IsMadeAs is_byte a → IsMadeAs is_bit ac → IsMadeAs is_bit cy → IsMadeAs is_byte (adjust a ac cy)
