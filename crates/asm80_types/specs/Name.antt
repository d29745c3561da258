-- Names of the source.
use Rattle.std.specs.Prelude.{◌≡◌, ℕ, ◌-◌, ◌<◌, ◌≤◌, ◌⊎◌, List, ◌++◌, length, take, drop, replicate, All}
use Rattle.asm80_types.specs.declared.name.Name80.TheInside.{Inside}

-- a digit or a capital letter
abbrev pub IsNameByte : ℕ → Type 0
IsNameByte b = ((48 ≤ b) × (b ≤ 57)) ⊎ ((65 ≤ b) × (b ≤ 90))

-- 1 to 16 of them
pub record IsName (bytes : List ℕ) : Type 0 where
  pub some : 0 < length bytes
  pub at_most : length bytes ≤ 16
  pub each : All IsNameByte bytes

-- a name in 16 bytes, with zeros behind it
abbrev pub padded : List ℕ → List ℕ
padded n = n ++ replicate (16 - length n) 0

-- such bytes hold a name
pub record IsPadded (a : Inside) : Type 0 where
  pub fits : a.len ≤ 16
  pub whole : length a.bytes ≡ 16
  pub zeros : drop a.len a.bytes ≡ replicate (16 - a.len) 0
  pub name : IsName (take a.len a.bytes)
