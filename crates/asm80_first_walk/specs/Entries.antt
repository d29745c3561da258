-- The names as an order of texts beside a map of what each was defined as.
use Rattle.std.specs.Prelude.{◌≡◌, ℕ, Bool, cond, List, [], ◌∷◌, Option, None, Some, is_some}
use Rattle.std.specs.List.{list_any}
use Rattle.std.specs.Map.{lookup}
use Rattle.std.specs.Str.{bytes_eq}
use Rattle.asm80_source_def.specs.Names.{Name, is_settable}
use Rattle.asm80_first_walk.specs.declared.names.Entry.{Entry}

-- an entry of the map is a name
abbrev pub name_of_entry : List ℕ × Entry → Name
name_of_entry e = record { text = e.0; kind = e.1.kind; meaning = e.1.meaning }

-- what the map has of a text
abbrev pub entry_in : List (List ℕ × Entry) → List ℕ → Option Entry
entry_in entries text = lookup (bytes_eq text) entries

-- the name of a text that the map has, before more names
abbrev pub name_before : List ℕ → Option Entry → List Name → List Name
name_before text None names = names
name_before text (Some entry) names = name_of_entry (text, entry) ∷ names

-- texts as names, by what a map has of each
abbrev pub names_in : (List ℕ → Option Entry) → List (List ℕ) → List Name
names_in entry [] = []
names_in entry (text ∷ texts) = name_before text (entry text) (names_in entry texts)

abbrev pub has_text : List (List ℕ) → List ℕ → Bool
has_text texts text = list_any (λ known. bytes_eq known text) texts

-- the texts are those of which the map has something
abbrev pub AreInOrder : (List ℕ → Option Entry) → List (List ℕ) → Type 0
AreInOrder entry texts = (text : List ℕ) → has_text texts text ≡ is_some (entry text)

-- an entry that is not of SET
abbrev pub not_settable : Option Entry → Option Entry
not_settable None = None
not_settable (Some entry) = cond (is_settable entry.kind) None (Some entry)
