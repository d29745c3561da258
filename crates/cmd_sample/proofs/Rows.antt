-- A written line whose words are simple is read as its statement.
use Rattle.std.proofs.Common.{◌≡◌, ℕ, ◌+◌, ◌-◌, ◌*◌, ◌≤◌, List, [], ◌∷◌, ◌++◌, false, Option, Some, None, Ok, length, map, get_or, refl, append_assoc, arith}
use Rattle.std.specs.List.{slice_split, list_any, AllByRecursion}
use Rattle.std.proofs.lemmas.Bool.{le-ltb, ne_eqb}
use Rattle.std.proofs.lemmas.List.{length-append}
use Rattle.asm80_text.specs.declared.token.Token.{Token}
use Rattle.asm80_text.specs.declared.token.Token.TheVariants.{Word, Operation, Comma, Colon}
use Rattle.asm80_text.specs.Tokens.{Lexes, ends, blank, token, Got, token_at}
use Rattle.asm80_text.specs.Intel.{intel_spelling}
use Rattle.asm80_types.specs.Tree.{Operand}
use Rattle.asm80_text.specs.Statement.{IsOperand, AreOperands, last, more, bare, full, IsBody, operated, unlabeled, with_colon, IsStatement, unnumbered, AreStatements, none_left, next}
use Rattle.asm80_text.specs.Line.{is_bang, open_after, most_open, is_deep, begins_with_colon, has_reserved_label, parts_of, formed, TextGives, sound, IsRemark, LineGives, told}
use Rattle.base.specs.Cut.{without_cr}
use Rattle.cmd_sample.specs.Written.{Argument, Written, label_column, more_arguments, arguments_text, line_text, statement_at}
use Rattle.cmd_sample.proofs.Each.{each_append, each_last}
use Rattle.cmd_sample.proofs.Lexemes.{IsParted, IsInk, Lexeme}

-- ---- simple words

-- a token that parts no statements and opens no parenthesis
pub record IsQuiet (t : Token) : Type 0 where
  pub no_bang : is_bang t ≡ false
  pub no_opening : (n : ℕ) → open_after n t ≡ n

-- an operand of one token
pub record IsSimple (a : Argument) : Type 0 where
  pub token : Token
  pub lexeme : Lexeme a.text token
  pub operand : (ts : List Token) → IsOperand (token ∷ ts) a.operand ts
  pub quiet : IsQuiet token
  pub no_colon : (ts : List Token) → begins_with_colon (token ∷ ts) ≡ false

abbrev pub IsLabel : Option (List ℕ) → Type 0
IsLabel None = Unit {0}
IsLabel (Some label) = Lexeme label (Word label)

pub record IsPlainLine (w : Written) : Type 0 where
  pub label : IsLabel w.label
  pub operation : Lexeme w.operation (Operation w.operation)
  pub arguments : AllByRecursion IsSimple w.arguments
  pub few : length w.arguments ≤ 2

-- ---- the operands

abbrev operands_of : List Argument → List Operand
operands_of as' = map (λ (a : Argument). a.operand) as'

quiet_comma : IsQuiet Comma
quiet_comma = record { no_bang = refl; no_opening = λ n. refl }

-- the tokens of the operands behind the first one
record More (others : List Argument) : Type 0 where
  tokens : List Token
  lexes : Lexes intel_spelling (more_arguments others) tokens None
  operands : (a : Argument) (s : IsSimple a) → AreOperands (s.token ∷ tokens) (a.operand ∷ operands_of others)
  quiet : AllByRecursion IsQuiet tokens

parted_more : (others : List Argument) → IsParted (more_arguments others)
parted_more [] = tt
parted_more (a ∷ others) = refl

comma_at : (bytes : List ℕ) → token_at intel_spelling 44 bytes ≡ Got Comma bytes
unfolding token_at
comma_at bytes = refl

colon_at : (bytes : List ℕ) → token_at intel_spelling 58 bytes ≡ Got Colon bytes
unfolding token_at
colon_at bytes = refl

more_read : (others : List Argument) → AllByRecursion IsSimple others → More others
more_read [] h = record { tokens = []; lexes = ends; operands = λ a s. last (s.operand []); quiet = tt }
more_read (b ∷ others) h =
    let m = more_read others h.1 in
    record {
      tokens = Comma ∷ h.0.token ∷ m.tokens;
      lexes = token refl (λ e. omega arith) (comma_at _) (h.0.lexeme.lexes (more_arguments others) m.tokens (parted_more others) m.lexes);
      operands = λ a s. more (s.operand _) (m.operands b h.0);
      quiet = (quiet_comma, (h.0.quiet, m.quiet));
    }

-- the tokens of all operands
record Arguments (as' : List Argument) : Type 0 where
  tokens : List Token
  lexes : Lexes intel_spelling (arguments_text as') tokens None
  body : (op : List ℕ) → IsBody intel_spelling (Operation op ∷ tokens) (Some op) (operands_of as')
  quiet : AllByRecursion IsQuiet tokens
  no_colon : begins_with_colon tokens ≡ false

parted_arguments : (as' : List Argument) → IsParted (arguments_text as')
parted_arguments [] = tt
parted_arguments (a ∷ others) = refl

arguments_read : (as' : List Argument) → AllByRecursion IsSimple as' → Arguments as'
arguments_read [] h = record { tokens = []; lexes = ends; body = λ op. operated refl (refl, bare); quiet = tt; no_colon = refl }
arguments_read (a ∷ others) h =
    let m = more_read others h.1 in
    record {
      tokens = h.0.token ∷ m.tokens;
      lexes = blank refl (h.0.lexeme.lexes (more_arguments others) m.tokens (parted_more others) m.lexes);
      body = λ op. operated refl (refl, full (m.operands a h.0));
      quiet = (h.0.quiet, m.quiet);
      no_colon = h.0.no_colon m.tokens;
    }

-- ---- the tokens of a line, and its statement

record Row (label : Option (List ℕ)) (op : List ℕ) (as' : List Argument) : Type 0 where
  tokens : List Token
  lexes : Lexes intel_spelling (label_column label ++ (9 ∷ (op ++ arguments_text as'))) tokens None
  words : IsStatement intel_spelling tokens label (Some op) (operands_of as')
  quiet : AllByRecursion IsQuiet tokens
  no_reserved : has_reserved_label intel_spelling tokens ≡ false

quiet_operation : (op : List ℕ) → IsQuiet (Operation op)
quiet_operation op = record { no_bang = refl; no_opening = λ n. refl }

quiet_word : (name : List ℕ) → IsQuiet (Word name)
quiet_word name = record { no_bang = refl; no_opening = λ n. refl }

quiet_colon : IsQuiet Colon
quiet_colon = record { no_bang = refl; no_opening = λ n. refl }

row_read : (label : Option (List ℕ)) (op : List ℕ) (as' : List Argument) → IsLabel label → Lexeme op (Operation op) → AllByRecursion IsSimple as' → Row label op as'
row_read None op as' l o h =
    let a = arguments_read as' h in
    record {
      tokens = Operation op ∷ a.tokens;
      lexes = blank refl (o.lexes (arguments_text as') a.tokens (parted_arguments as') a.lexes);
      words = unnumbered (unlabeled (a.body op));
      quiet = (quiet_operation op, a.quiet);
      no_reserved = a.no_colon;
    }
row_read (Some label) op as' l o h =
    let a = arguments_read as' h in
    let behind = 9 ∷ (op ++ arguments_text as') in
    let body = blank refl (o.lexes (arguments_text as') a.tokens (parted_arguments as') a.lexes) in
    record {
      tokens = Word label ∷ Colon ∷ Operation op ∷ a.tokens;
      lexes = rw (append_assoc label (58 ∷ []) behind) (l.lexes (58 ∷ behind) (Colon ∷ Operation op ∷ a.tokens) refl (token refl (λ e. omega arith) (colon_at behind) body));
      words = unnumbered (with_colon (a.body op));
      quiet = (quiet_word label, (quiet_colon, (quiet_operation op, a.quiet)));
      no_reserved = refl;
    }

-- ---- the bytes of a line

tab_ink : IsInk 9
tab_ink = record { no_line_feed = λ e. omega arith; no_return = λ e. omega arith; no_end = λ e. omega arith; no_star = λ e. omega arith }

comma_ink : IsInk 44
comma_ink = record { no_line_feed = λ e. omega arith; no_return = λ e. omega arith; no_end = λ e. omega arith; no_star = λ e. omega arith }

colon_ink : IsInk 58
colon_ink = record { no_line_feed = λ e. omega arith; no_return = λ e. omega arith; no_end = λ e. omega arith; no_star = λ e. omega arith }

-- bytes of a line, and how many there may be
record Inked (bytes : List ℕ) (most : ℕ) : Type 0 where
  each : AllByRecursion IsInk bytes
  short : length bytes ≤ most

inked_append : (xs ys : List ℕ) (n m : ℕ) → Inked xs n → Inked ys m → Inked (xs ++ ys) (n + m)
inked_append xs ys n m x y = record { each = each_append IsInk xs ys x.each y.each; short = omega (arith, length-append xs ys, x.short, y.short) }

inked_cons : (b : ℕ) (ys : List ℕ) (m : ℕ) → IsInk b → Inked ys m → Inked (b ∷ ys) (m + 1)
inked_cons b ys m i y = record { each = (i, y.each); short = omega (arith, y.short) }

inked_lexeme : {t : Token} (text : List ℕ) → Lexeme text t → Inked text 16
inked_lexeme text l = record { each = l.ink; short = l.short }

inked_more : (others : List Argument) → AllByRecursion IsSimple others → Inked (more_arguments others) (17 * length others)
inked_more [] h = record { each = tt; short = omega arith }
inked_more (a ∷ others) h =
    let i = inked_cons 44 (a.text ++ more_arguments others) _ comma_ink (inked_append a.text (more_arguments others) 16 _ (inked_lexeme a.text h.0.lexeme) (inked_more others h.1)) in
    record { each = i.each; short = omega (arith, i.short) }

inked_arguments : (as' : List Argument) → AllByRecursion IsSimple as' → Inked (arguments_text as') (17 * length as')
inked_arguments [] h = record { each = tt; short = omega arith }
inked_arguments (a ∷ others) h =
    let i = inked_cons 9 (a.text ++ more_arguments others) _ tab_ink (inked_append a.text (more_arguments others) 16 _ (inked_lexeme a.text h.0.lexeme) (inked_more others h.1)) in
    record { each = i.each; short = omega (arith, i.short) }

inked_label : (label : Option (List ℕ)) → IsLabel label → Inked (label_column label) 17
inked_label None l = record { each = tt; short = omega arith }
inked_label (Some label) l = inked_append label (58 ∷ []) 16 1 (inked_lexeme label l) (record { each = (colon_ink, tt); short = omega arith })

inked_line : (w : Written) → IsPlainLine w → Inked (line_text w) 255
inked_line w p =
    let behind = inked_append w.operation (arguments_text w.arguments) 16 _ (inked_lexeme w.operation p.operation) (inked_arguments w.arguments p.arguments) in
    let i = inked_append (label_column w.label) (9 ∷ (w.operation ++ arguments_text w.arguments)) 17 _ (inked_label w.label p.label) (inked_cons 9 (w.operation ++ arguments_text w.arguments) _ tab_ink behind) in
    record { each = i.each; short = omega (arith, i.short, p.few) }

pub line_ink : (w : Written) → IsPlainLine w → AllByRecursion IsInk (line_text w)
line_ink w p = (inked_line w p).each

no_remark : (bytes : List ℕ) → AllByRecursion IsInk bytes → IsRemark bytes → ⊥
no_remark [] h r = r
no_remark (b ∷ bytes) h r = h.0.no_star r

-- no CR is taken off its end
pub uncut : (bytes : List ℕ) → AllByRecursion IsInk bytes → without_cr bytes ≡ bytes
uncut [] h = refl
uncut (b ∷ bytes) h = rw (ne_eqb (get_or (b ∷ bytes) (length (b ∷ bytes) - 1) 0) 13 (each_last IsInk (b ∷ bytes) (omega arith) h).no_return) refl

-- ---- the line

one_part : (ts : List Token) → AllByRecursion IsQuiet ts → slice_split is_bang ts ≡ ts ∷ []
one_part [] h = refl
one_part (t ∷ ts) h = rw (h.0.no_bang, one_part ts h.1) refl

none_open : (n : ℕ) (ts : List Token) → AllByRecursion IsQuiet ts → most_open n ts ≤ n
unfolding most_open
none_open n [] h = omega arith
none_open n (t ∷ ts) h = rw (h.0.no_opening n) (omega (arith, none_open n ts h.1))

not_deep : (ts : List Token) → AllByRecursion IsQuiet ts → is_deep ts ≡ false
not_deep ts h = le-ltb 16 (most_open 0 ts) (omega (arith, none_open 0 ts h))

statement_made : (n : ℕ) (label : Option (List ℕ)) (op : List ℕ) (as' : List Argument) (r : Row label op as') → AreStatements intel_spelling n (r.tokens ∷ []) (statement_at n (record { label = label; operation = op; arguments = as' }) ∷ [])
statement_made n None op as' r = next (record { numbers = refl; words = r.words }) none_left
statement_made n (Some label) op as' r = next (record { numbers = refl; words = r.words }) none_left

text_read : (n : ℕ) (label : Option (List ℕ)) (op : List ℕ) (as' : List Argument) (r : Row label op as') → TextGives intel_spelling n (parts_of r.tokens) None (Ok (statement_at n (record { label = label; operation = op; arguments = as' }) ∷ []))
text_read n label op as' r =
    let free : list_any (has_reserved_label intel_spelling) (r.tokens ∷ []) ≡ false = rw r.no_reserved refl in
    let flat : list_any is_deep (r.tokens ∷ []) ≡ false = rw (not_deep r.tokens r.quiet) refl in
    rw (one_part r.tokens r.quiet) (sound free (formed flat (statement_made n label op as' r)))

pub line_read : (n : ℕ) (w : Written) → n ≤ 32768 → IsPlainLine w → LineGives intel_spelling n (line_text w) (Ok (statement_at n w ∷ []))
line_read n w le p =
    let i = inked_line w p in
    let r = row_read w.label w.operation w.arguments p.label p.operation p.arguments in
    told le i.short (no_remark (line_text w) i.each) r.lexes (text_read n w.label w.operation w.arguments r)
