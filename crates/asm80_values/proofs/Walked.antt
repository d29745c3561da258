-- Where the first walk is, and the names that it finds, are words.
use Rattle.std.proofs.Common.{ℕ, ◌+◌, ◌%◌, ◌<◌, Bool, true, false, cond, List, [], ◌∷◌, ◌++◌, Option, Some, None, option_map, arith, nat_lt, length}
use Rattle.std.specs.List.{AllByRecursion}
use Rattle.std.specs.Str.{bytes_eq}
use Rattle.std.proofs.Math.Nat.{mod-lt}
use Rattle.asm80_types.specs.Tree.{Tree, Number, Place, Named, Inverted, Negated, Binary, Operand, String, Whole, Statement}
use Rattle.asm80_source_def.specs.declared.operation.Operation.{Operation}
use Rattle.asm80_source_def.specs.declared.operation.Operation.TheVariants.{Org, Equ, Set, Ds}
use Rattle.asm80_source_def.specs.declared.meaning.Meaning.{Meaning}
use Rattle.asm80_source_def.specs.Values.{Scope}
use Rattle.asm80_source_def.specs.Names.{Name, named, most_names, is_settable, renamed, clashes_with, defined_by}
use Rattle.asm80_source_def.specs.Walk.{Walk, WalkRow, at_start, operation_in, is_taken, meaning_in, scope, or_unknown, meaning_of, operand_meaning, directive_meaning, label_meaning_by, definition, names_by, size_by, or_at, address_by, after_by, walk_after, ends, rows_from, walk_after_all}
use Rattle.asm80_source_def.specs.Values.{meaning_of_name}
use Rattle.asm80_source_def.specs.Operands.{meaning_by, operand_scope}
use Rattle.asm80_types.specs.Ranges.{HasWords, IsInRange, AreInRange}
use Rattle.asm80_values.proofs.Values.{IsWord, IsWordly, SeesWords, name_wordly, number_word}

abbrev IsWordName : Name → Type 0
IsWordName n = IsWord n.meaning.value

abbrev pub AreWordNames : List Name → Type 0
AreWordNames ns = AllByRecursion IsWordName ns

pub record IsWordWalk (w : Walk) : Type 0 where
  pub at : w.at < 0x10000
  pub names : AreWordNames w.names

-- ---- what is found among the names

abbrev IsWordOption : Option Name → Type 0
IsWordOption None = Unit {0}
IsWordOption (Some n) = IsWordName n

found_word : (ns : List Name) (text : List ℕ) → AreWordNames ns → IsWordOption (named ns text)
found_word [] text h = tt
found_word (n ∷ ns) text h = by (bytes_eq n.text text) (found_word ns text h.1)
  where
    by : (b : Bool) → IsWordOption (named ns text) → IsWordOption (cond b (Some n) (named ns text))
    by true k = h.0
    by false k = k

meaning_wordly : (o : Option Name) → IsWordOption o → IsWordly (option_map (λ (n : Name). n.meaning) o)
meaning_wordly None h = tt
meaning_wordly (Some n) h = h

pub in_names : (ns : List Name) (text : List ℕ) → AreWordNames ns → IsWordly (meaning_in ns text)
in_names ns text h = meaning_wordly (named ns text) (found_word ns text h)

scope_sees : (w : Walk) → IsWordWalk w → SeesWords (scope w)
scope_sees w h = record { here = h.at; found = λ text. in_names w.names text h.names }

-- what operands see
pub operands_see : (end w : Walk) → IsWordWalk end → IsWordWalk w → SeesWords (operand_scope end w)
operands_see end w e h = record { here = h.at; found = λ text. by text (named end.names text) (found_word end.names text e.names) }
  where
    settable : (text : List ℕ) (n : Name) (b : Bool) → IsWordName n → IsWordly (cond b (meaning_in w.names text) (Some n.meaning))
    settable text n true k = in_names w.names text h.names
    settable text n false k = k

    by : (text : List ℕ) (o : Option Name) → IsWordOption o → IsWordly (meaning_by w.names o text)
    by text None k = tt
    by text (Some n) k = settable text n (is_settable n.kind) k

-- ---- the operand of a directive

or_unknown_word : (o : Option Meaning) → IsWordly o → IsWord (or_unknown o).value
or_unknown_word None h = tt
or_unknown_word (Some m) h = h

meaning_word : (s : Scope) (e : Tree) → SeesWords s → HasWords e → IsWord (meaning_of s e).value
meaning_word s (Number n) h w = w
meaning_word s Place h w = h.here
meaning_word s (Named text) h w = or_unknown_word (meaning_of_name s text) (name_wordly s text h)
meaning_word s (Inverted e) h w = number_word s (Inverted e) h w
meaning_word s (Negated e) h w = number_word s (Negated e) h w
meaning_word s (Binary op a b) h w = number_word s (Binary op a b) h w

operand_meaning_word : (s : Scope) (args : List Operand) → SeesWords s → AllByRecursion IsInRange args → IsWord (operand_meaning s args).value
operand_meaning_word s [] h w = tt
operand_meaning_word s (Whole e ∷ []) h w = meaning_word s e h w.0
operand_meaning_word s (Whole e ∷ (b ∷ args)) h w = tt
operand_meaning_word s (String bytes ∷ args) h w = tt

-- a statement whose operands are in range
abbrev HasRange : Statement → Type 0
HasRange s = AllByRecursion IsInRange s.args

directive_word : (w : Walk) (s : Statement) → IsWordWalk w → HasRange s → IsWord (directive_meaning w s).value
directive_word w s h r = operand_meaning_word (scope w) s.args (scope_sees w h) r

-- ---- the names behind a statement

label_word : (w : Walk) (s : Statement) (o : Option Operation) → IsWordWalk w → HasRange s → IsWord (label_meaning_by w s o).value
label_word w s (Some Equ) h r = directive_word w s h r
label_word w s (Some Set) h r = directive_word w s h r
label_word w s (Some Org) h r = directive_word w s h r
label_word w s o h r = h.at

more_names : (ns : List Name) (n : Name) → AreWordNames ns → IsWordName n → AreWordNames (ns ++ n ∷ [])
more_names [] n h k = (k, tt)
more_names (m ∷ ns) n h k = (h.0, more_names ns n h.1 k)

set_word : (ns : List Name) (n : Name) → AreWordNames ns → IsWordName n → AreWordNames (renamed ns n)
set_word [] n h k = tt
set_word (m ∷ ns) n h k = (by (bytes_eq m.text n.text), set_word ns n h.1 k)
  where
    by : (b : Bool) → IsWordName (cond b n m)
    by true = k
    by false = h.0

either_names : (b : Bool) (xs ys : List Name) → AreWordNames xs → AreWordNames ys → AreWordNames (cond b xs ys)
either_names true xs ys h k = h
either_names false xs ys h k = k

defined_word_by : (ns : List Name) (n : Name) (o : Option Name) → AreWordNames ns → IsWordName n → AreWordNames (defined_by ns n o)
defined_word_by ns n None h k = either_names (nat_lt (length ns) most_names) (ns ++ n ∷ []) ns (more_names ns n h k) h
defined_word_by ns n (Some old) h k = either_names (clashes_with n (Some old)) ns (renamed ns n) h (set_word ns n h k)

names_word : (w : Walk) (s : Statement) (label : Option (List ℕ)) → IsWordWalk w → HasRange s → AreWordNames (names_by w s label)
names_word w s None h r = h.names
names_word w s (Some text) h r =
    let n = definition w s text in
    defined_word_by w.names n (named w.names n.text) h.names (label_word w s (operation_in s) h r)

-- ---- the address behind it

or_at_word : (at : ℕ) (o : Option ℕ) → at < 0x10000 → IsWord o → or_at at o < 0x10000
or_at_word at None h k = h
or_at_word at (Some n) h k = k

wrapped : (o : Option ℕ) (at : ℕ) → IsWord (option_map (λ n. (at + n) % 0x10000) o)
wrapped None at = tt
wrapped (Some n) at = mod-lt (at + n) (omega arith)

address_word : (w : Walk) (s : Statement) (o : Option Operation) → IsWordWalk w → HasRange s → address_by w s o < 0x10000
address_word w s (Some Org) h r = or_at_word w.at (directive_meaning w s).value h.at (directive_word w s h r)
address_word w s (Some Ds) h r = or_at_word w.at (option_map (λ n. (w.at + n) % 0x10000) (directive_meaning w s).value) h.at (wrapped (directive_meaning w s).value w.at)
address_word w s o h r = mod-lt (w.at + size_by s o) (omega arith)

after_word : (b : Bool) (w : Walk) (s : Statement) → IsWordWalk w → HasRange s → IsWordWalk (after_by b w s)
after_word false w s h r = record { at = h.at; names = h.names }
after_word true w s h r = record { at = address_word w s (operation_in s) h r; names = names_word w s s.label h r }

-- ---- the rows

pub record IsWordRow (r : WalkRow) : Type 0 where
  pub before : IsWordWalk r.before
  pub operands : AllByRecursion IsInRange r.statement.args

pub rows_word : (w : Walk) (ss : List Statement) → IsWordWalk w → AreInRange ss → AllByRecursion IsWordRow (rows_from w ss)
rows_word w [] h r = tt
rows_word w (s ∷ ss) h r = (record { before = h; operands = r.0 }, by (ends w s) (rows_word (walk_after w s) ss (after_word (is_taken w s) w s h r.0) r.1))
  where
    by : (b : Bool) → AllByRecursion IsWordRow (rows_from (walk_after w s) ss) → AllByRecursion IsWordRow (cond b [] (rows_from (walk_after w s) ss))
    by true k = tt
    by false k = k

pub walk_word : (w : Walk) (ss : List Statement) → IsWordWalk w → AreInRange ss → IsWordWalk (walk_after_all w ss)
walk_word w [] h r = h
walk_word w (s ∷ ss) h r = by (ends w s) (after_word (is_taken w s) w s h r.0) (walk_word (walk_after w s) ss (after_word (is_taken w s) w s h r.0) r.1)
  where
    by : (b : Bool) → IsWordWalk (walk_after w s) → IsWordWalk (walk_after_all (walk_after w s) ss) → IsWordWalk (cond b (walk_after w s) (walk_after_all (walk_after w s) ss))
    by true here later = here
    by false here later = later

pub start_word : IsWordWalk at_start
start_word = record { at = omega arith; names = tt }
