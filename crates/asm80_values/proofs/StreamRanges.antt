-- The statements of a stream are in range, since its tokens are.
use Rattle.std.proofs.Common.{ℕ, List, [], ◌∷◌, ◌++◌, Bool, true, false, cond, Option, Some, None, Result, Ok, Err, subst}
use Rattle.std.specs.List.{onto_first, AllByRecursion}
use Rattle.asm80_types.specs.declared.fault.LineRule.{LineRule}
use Rattle.asm80_types.specs.declared.fault.ReadFault.{ReadFault}
use Rattle.asm80_text.specs.declared.token.Token.{Token}
use Rattle.asm80_types.specs.Tree.{Operand, Statement}
use Rattle.asm80_text.specs.Spelling.{Spelling}
use Rattle.asm80_text.specs.Coherent.{IsCoherent}
use Rattle.asm80_text.specs.Small.{IsSmall, AreSmall}
use Rattle.asm80_text.specs.Tokens.{Lexes, ends, blank, comment, token, faulty}
use Rattle.asm80_text.specs.Statement.{IsBody, nothing, operated, IsLabeled, unlabeled, labeled, with_colon, IsStatement, unnumbered, numbered, kept_by, kept, AreStatements}
use Rattle.asm80_text.specs.Statement as statement
use Rattle.asm80_text.specs.Line.{is_bang, parts_of, PartsGive, deep, malformed, formed, TextGives, reserved, sound, LineGives, late, long, remark, told}
use Rattle.asm80_text.specs.Line as line
use Rattle.asm80_text.specs.Stream.{LinesGive, StreamGives}
use Rattle.asm80_text.specs.Stream as stream
use Rattle.asm80_types.specs.Ranges.{IsInRange, AreInRange}
use Rattle.asm80_values.proofs.LineTokens.{GotSmall, token_small}

-- ---- a statement

abbrev AreOperandsInRange : List Operand → Type 0
AreOperandsInRange args = AllByRecursion IsInRange args

joined_range : (ss others : List Statement) → AreInRange ss → AreInRange others → AreInRange (ss ++ others)
joined_range [] others h k = k
joined_range (s ∷ ss) others h k = (h.0, joined_range ss others h.1 k)

kept_range : (s : Statement) (label op : Option (List ℕ)) → AreOperandsInRange s.args → AreInRange (kept_by s label op)
kept_range s None None h = tt
kept_range s None (Some op) h = (h, tt)
kept_range s (Some label) op h = (h, tt)

abbrev AreSmallParts : List (List Token) → Type 0
AreSmallParts parts = AllByRecursion AreSmall parts

onto_small : (b : Bool) (t : Token) (parts : List (List Token)) → IsSmall t → AreSmallParts parts → AreSmallParts (cond b ([] ∷ parts) (onto_first t parts))
onto_small true t parts h k = (tt, k)
onto_small false t [] h k = ((h, tt), tt)
onto_small false t (part ∷ parts) h k = ((h, k.0), k.1)

parts_small : (ts : List Token) → AreSmall ts → AreSmallParts (parts_of ts)
parts_small [] h = (tt, tt)
parts_small (t ∷ ts) h = onto_small (is_bang t) t (parts_of ts) h.0 (parts_small ts h.1)

-- what a line gives
abbrev AnswerInRange : Result (List Statement) LineRule → Type 0
AnswerInRange (Ok ss) = AreInRange ss
AnswerInRange (Err rule) = Unit {0}

module _ (spelling : Spelling) (coherent : IsCoherent spelling) where
  -- ---- the tokens of a line

  lexed : {bytes : List ℕ} {ts : List Token} {f : Option LineRule} → Lexes spelling bytes ts f → AreSmall ts
  lexed ends = tt
  lexed (blank e h) = lexed h
  lexed (comment h) = lexed h
  lexed (token {b} {bytes} e other is h) = (subst GotSmall is (token_small spelling b bytes), lexed h)
  lexed (faulty e other is) = tt

  body_range : {ts : List Token} {op : Option (List ℕ)} {args : List Operand} → IsBody spelling ts op args → AreSmall ts → AreOperandsInRange args
  body_range nothing h = tt
  body_range (operated {ts = ts} {word = w} {op = op} {args = args} e x) h = coherent.ranged w op ts args h.1 x

  labeled_range : {ts : List Token} {label op : Option (List ℕ)} {args : List Operand} → IsLabeled spelling ts label op args → AreSmall ts → AreOperandsInRange args
  labeled_range (unlabeled b) h = body_range b h
  labeled_range (labeled b) h = body_range b h.1
  labeled_range (with_colon b) h = body_range b h.1.1

  statement_range : {ts : List Token} {label op : Option (List ℕ)} {args : List Operand} → IsStatement spelling ts label op args → AreSmall ts → AreOperandsInRange args
  statement_range (unnumbered x) h = labeled_range x h
  statement_range (numbered x) h = labeled_range x h.1

  -- ---- the statements of a line

  statements_range : {n : ℕ} {parts : List (List Token)} {ss : List Statement} → AreStatements spelling n parts ss → AreSmallParts parts → AreInRange ss
  statements_range statement.none_left h = tt
  statements_range (statement.next {s = s} {others = others} is later) h =
      joined_range (kept s) others (kept_range s s.label s.op (statement_range is.words h.0)) (statements_range later h.1)

  parts_range : {n : ℕ} {parts : List (List Token)} {r : Result (List Statement) LineRule} → PartsGive spelling n parts r → AreSmallParts parts → AnswerInRange r
  parts_range (deep e) h = tt
  parts_range (malformed e never) h = tt
  parts_range (formed e are) h = statements_range are h

  text_range : {n : ℕ} {parts : List (List Token)} {f : Option LineRule} {r : Result (List Statement) LineRule} → TextGives spelling n parts f r → AreSmallParts parts → AnswerInRange r
  text_range (reserved e) h = tt
  text_range (line.faulty e) h = tt
  text_range (sound e gives) h = parts_range gives h

  line_range : {n : ℕ} {bytes : List ℕ} {r : Result (List Statement) LineRule} → LineGives spelling n bytes r → AnswerInRange r
  line_range (late e) = tt
  line_range (long e f) = tt
  line_range (remark e f is) = tt
  line_range (told {ts = ts} e f other lexes gives) = text_range gives (parts_small ts (lexed lexes))

  -- ---- all lines

  lines_range : {n : ℕ} {lines : List (List ℕ)} {ss : List Statement} {f : Option ReadFault} → LinesGive spelling n lines ss f → AreInRange ss
  lines_range stream.none_left = tt
  lines_range (stream.next {ss = ss} {others = others} first later) = joined_range ss others (line_range first) (lines_range later)
  lines_range (stream.fails first) = tt

  pub stream_range : (bytes : List ℕ) (ss : List Statement) (f : Option ReadFault) → StreamGives spelling bytes ss f → AreInRange ss
  stream_range bytes ss f h = lines_range h.lines
