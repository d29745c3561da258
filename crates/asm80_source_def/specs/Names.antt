-- Names in the order of their definition.
use Rattle.std.specs.Prelude.{ℕ, nat_lt, Bool, true, false, cond, List, [], ◌∷◌, ◌++◌, length, map, Option, Some, None, find}
use Rattle.std.specs.Str.{bytes_eq}
use Rattle.asm80_source_def.specs.declared.meaning.Meaning.{Meaning}
use Rattle.asm80_source_def.specs.declared.meaning.NameKind.{NameKind}
use Rattle.asm80_source_def.specs.declared.meaning.NameKind.TheVariants.{Label, Equate, Settable}

pub record Name : Type 0 where
  pub text : List ℕ
  pub kind : NameKind
  pub meaning : Meaning

-- a name among the names
abbrev pub named : List Name → List ℕ → Option Name
named names text = find (λ (n : Name). bytes_eq n.text text) names

-- the most names that a source may define
abbrev pub most_names : ℕ
most_names = 8192

abbrev pub is_settable : NameKind → Bool
is_settable Label = false
is_settable Equate = false
is_settable Settable = true

-- the names with one of them set again, in its place
abbrev pub set_again : Name → Name → Name
set_again n old = cond (bytes_eq old.text n.text) n old

abbrev pub renamed : List Name → Name → List Name
renamed names n = map (set_again n) names

-- V2: a name defined twice, SET after SET excepted
abbrev pub clashes_with : Name → Option Name → Bool
clashes_with n None = false
clashes_with n (Some old) = cond (is_settable old.kind) (cond (is_settable n.kind) false true) true

abbrev pub clashes : List Name → Name → Bool
clashes names n = clashes_with n (named names n.text)

-- V7: a new name, and there is no room for it
abbrev pub overflows_by : List Name → Option Name → Bool
overflows_by names None = cond (nat_lt (length names) most_names) false true
overflows_by names (Some old) = false

abbrev pub overflows : List Name → Name → Bool
overflows names n = overflows_by names (named names n.text)

-- the names after a definition; one that clashes or has no room is not made
abbrev pub defined_by : List Name → Name → Option Name → List Name
defined_by names n None = cond (nat_lt (length names) most_names) (names ++ n ∷ []) names
defined_by names n (Some old) = cond (clashes_with n (Some old)) names (renamed names n)

abbrev pub defined : List Name → Name → List Name
defined names n = defined_by names n (named names n.text)
