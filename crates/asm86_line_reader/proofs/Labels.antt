-- Each form names the label that it goes to.
use Rattle.std.proofs.Common.{◌≡◌, ℕ, ◌==◌, List, [], ◌∷◌, Bool, true, false, cond, Option, Some, None, option_map, option_and_then, Ok, refl}
use Rattle.std.specs.List.{list_all}
use Rattle.i86.specs.declared.Reg8.{Reg8}
use Rattle.i86.specs.declared.Reg8.TheVariants.{Al, Cl}
use Rattle.i86.specs.declared.Reg16.{Reg16}
use Rattle.i86.specs.declared.Reg16.TheVariants.{Ax, Bx}
use Rattle.i86.specs.declared.AluOp.{AluOp}
use Rattle.i86.specs.declared.AluOp.TheVariants.{Add, Or}
use Rattle.i86.specs.declared.Count.{Count}
use Rattle.i86.specs.declared.Rotate.{Rotate}
use Rattle.asm86_line_types.specs.declared.line.Stmt86.{Stmt86}
use Rattle.asm86_line_types.specs.declared.line.Stmt86.TheVariants.{Mark}
use Rattle.asm86_line_reader.specs.declared.token.Operation.{Operation}
use Rattle.asm86_line_reader.specs.declared.token.Operation.TheVariants as op
use Rattle.asm86_line_reader.specs.declared.token.Token.{Token}
use Rattle.asm86_line_reader.specs.declared.token.Token.TheVariants as tokens
use Rattle.asm86_line_reader.specs.declared.token.Operand.{Operand}
use Rattle.asm86_line_reader.specs.declared.token.Operand.TheVariants.{Reg8 as Byte, Reg16 as Word, Ds, Ss, Number, Label as To, Mem, DirectByte, DirectWord}
use Rattle.asm86_line_reader.specs.Forms as forms
use Rattle.asm86_line_reader.specs.Forms.{names_labels}
use Rattle.asm86_line_types.specs.declared.line.Label.{Label}
use Rattle.asm86_line_reader.specs.Line.{TextLineGives, sensible}
use Rattle.asm86_line_reader.specs.Operands.{each, operands_in}

fine : Option Stmt86 → Bool
fine None = true
fine (Some s) = names_labels s

bare : (o : Operation) → fine (forms.bare o) ≡ true
unfolding fine
bare op.Daa = refl
bare _ = refl

counted : (c : Count) (a : Operand) → fine (forms.counted c a) ≡ true
unfolding fine
counted c (Byte r) = refl
counted c _ = refl

pushed : (a : Operand) → fine (forms.pushed a) ≡ true
unfolding fine
pushed (Word Ax) = refl
pushed (Word _) = refl
pushed _ = refl

popped : (a : Operand) → fine (forms.popped a) ≡ true
unfolding fine
popped (Word Ax) = refl
popped (Word _) = refl
popped _ = refl

inverted : (a : Operand) → fine (forms.inverted a) ≡ true
unfolding fine
inverted (Byte r) = refl
inverted _ = refl

if_so : (b : Bool) (s : Option Stmt86) → fine s ≡ true → fine (cond b s None) ≡ true
unfolding fine
if_so true s h = h
if_so false s h = refl

interrupt : (a : Operand) → fine (forms.interrupt a) ≡ true
unfolding fine
interrupt (Number n) = if_so (n == 224) _ refl
interrupt _ = refl

jumped : (a : Operand) → fine (forms.jumped a) ≡ true
unfolding fine
jumped (Word Bx) = refl
jumped (Word _) = refl
jumped _ = refl

with_one : (o : Operation) (a : Operand) → fine (forms.with_one o a) ≡ true
unfolding fine
with_one (op.Count c) a = counted c a
with_one op.Push a = pushed a
with_one op.Pop a = popped a
with_one op.Not a = inverted a
with_one op.Int a = interrupt a
with_one op.Jmp a = jumped a
with_one op.Jmps (To l) = refl
with_one op.Jmps _ = refl
with_one op.Call (To l) = refl
with_one op.Call _ = refl
with_one (op.Jcc j) (To l) = refl
with_one (op.Jcc j) _ = refl
with_one op.Org (Number n) = refl
with_one op.Org _ = refl
with_one op.Rb (Number n) = refl
with_one op.Rb _ = refl
with_one _ a = refl

if_al : (r : Reg8) (s : Option Stmt86) → fine s ≡ true → fine (forms.if_al r s) ≡ true
unfolding fine
if_al Al s h = h
if_al _ s h = refl

if_cl : (r : Reg8) (s : Option Stmt86) → fine s ≡ true → fine (forms.if_cl r s) ≡ true
unfolding fine
if_cl Cl s h = h
if_cl _ s h = refl

if_ax : (r : Reg16) (s : Option Stmt86) → fine s ≡ true → fine (forms.if_ax r s) ≡ true
unfolding fine
if_ax Ax s h = h
if_ax _ s h = refl

moved : (a b : Operand) → fine (forms.moved a b) ≡ true
unfolding fine
moved (Byte r) (DirectByte a) = if_al r _ refl
moved (Byte r) _ = refl
moved (Word r) Ds = if_ax r _ refl
moved (Word r) _ = refl
moved (Mem p) (Byte r) = refl
moved (Mem p) _ = refl
moved (DirectByte a) (Byte r) = if_al r _ refl
moved (DirectByte a) _ = refl
moved (DirectWord a) (Word r) = refl
moved (DirectWord a) _ = refl
moved Ss (Word r) = if_ax r _ refl
moved Ss _ = refl
moved _ b = refl

or_cl : (o : AluOp) (b : Operand) → fine (forms.or_cl o b) ≡ true
unfolding fine
or_cl Or (Byte q) = if_cl q _ refl
or_cl Or _ = refl
or_cl _ b = refl

on_al : (o : AluOp) (b : Operand) → fine (forms.on_al o b) ≡ true
unfolding fine
on_al o (Byte q) = refl
on_al o _ = refl

on_reg8 : (o : AluOp) (r : Reg8) (b : Operand) → fine (forms.on_reg8 o r b) ≡ true
unfolding fine
on_reg8 o Al b = on_al o b
on_reg8 o Cl b = or_cl o b
on_reg8 o _ b = refl

on_reg16 : (o : AluOp) (r : Reg16) (b : Operand) → fine (forms.on_reg16 o r b) ≡ true
unfolding fine
on_reg16 Add r (Word q) = refl
on_reg16 Add r _ = refl
on_reg16 _ r b = refl

computed : (o : AluOp) (a b : Operand) → fine (forms.computed o a b) ≡ true
unfolding fine
computed o (Byte r) b = on_reg8 o r b
computed o (Word r) b = on_reg16 o r b
computed o _ b = refl

exchanged : (a b : Operand) → fine (forms.exchanged a b) ≡ true
unfolding fine
exchanged (Byte r) (Byte q) = refl
exchanged (Byte r) _ = refl
exchanged (Word r) (Word q) = refl
exchanged (Word r) _ = refl
exchanged _ b = refl

by_one : (b : Operand) (s : Option Stmt86) → fine s ≡ true → fine (forms.by_one b s) ≡ true
unfolding fine
by_one (Number n) s h = if_so (n == 1) s h
by_one _ s h = refl

rotated : (k : Rotate) (a b : Operand) → fine (forms.rotated k a b) ≡ true
unfolding fine
rotated k (Byte r) b = by_one b _ refl
rotated k (Word r) b = by_one b _ refl
rotated k _ b = refl

into_al : (b : Operand) → fine (forms.into_al b) ≡ true
unfolding fine
into_al (Number n) = refl
into_al _ = refl

received : (a b : Operand) → fine (forms.received a b) ≡ true
unfolding fine
received (Byte r) b = if_al r _ (into_al b)
received _ b = refl

sent : (a b : Operand) → fine (forms.sent a b) ≡ true
unfolding fine
sent (Number n) (Byte r) = if_al r _ refl
sent (Number n) _ = refl
sent _ b = refl

with_two : (o : Operation) (a b : Operand) → fine (forms.with_two o a b) ≡ true
unfolding fine
with_two op.Mov a b = moved a b
with_two (op.Alu o) a b = computed o a b
with_two op.Xchg a b = exchanged a b
with_two (op.Rotate k) a b = rotated k a b
with_two op.In a b = received a b
with_two op.Out a b = sent a b
with_two _ a b = refl

single : (o : Operation) (os : List Operand) → fine (forms.single o os) ≡ true
unfolding fine
single o [] = bare o
single o (a ∷ []) = with_one o a
single o (a ∷ b ∷ []) = with_two o a b
single o (a ∷ b ∷ c ∷ os) = refl

-- ---- some statements

all_fine : Option (List Stmt86) → Bool
all_fine None = true
all_fine (Some ss) = list_all names_labels ss

one : (s : Option Stmt86) → fine s ≡ true → all_fine (option_map (λ s. s ∷ []) s) ≡ true
unfolding fine all_fine
one None h = refl
one (Some s) h = rw h refl

both : (s : Option Stmt86) (ss : Option (List Stmt86)) → fine s ≡ true → all_fine ss ≡ true → all_fine (option_and_then (λ (y : Stmt86). option_map (λ ys. y ∷ ys) ss) s) ≡ true
unfolding fine all_fine
both None ss h k = refl
both (Some s) None h k = refl
both (Some s) (Some ss) h k = rw (h, k) refl

each_fine : (f : Operand → Option Stmt86) → ((o : Operand) → fine (f o) ≡ true) → (os : List Operand) → all_fine (each f os) ≡ true
unfolding all_fine each
each_fine f h [] = refl
each_fine f h (o ∷ os) = both (f o) (each f os) (h o) (each_fine f h os)

items : (f : Operand → Option Stmt86) → ((o : Operand) → fine (f o) ≡ true) → (os : List Operand) → all_fine (forms.items_of f os) ≡ true
unfolding all_fine
items f h [] = refl
items f h (o ∷ os) = each_fine f h (o ∷ os)

byte_item : (o : Operand) → fine (forms.byte_item o) ≡ true
unfolding fine
byte_item (Number n) = refl
byte_item _ = refl

word_item : (o : Operand) → fine (forms.word_item o) ≡ true
unfolding fine
word_item (Number n) = refl
word_item _ = refl

formed : (o : Operation) (os : List Operand) → all_fine (forms.formed o os) ≡ true
formed op.Db os = items forms.byte_item byte_item os
formed op.Dw os = items forms.word_item word_item os
formed o os = one (forms.single o os) (single o os)

body : (ts : List Token) → all_fine (forms.body_of ts) ≡ true
unfolding all_fine
body [] = refl
body (tokens.Operation o ∷ ts) = by_operands o (operands_in ts)
  where
    by_operands : (o : Operation) (os : Option (List Operand)) → all_fine (option_and_then (forms.formed o) os) ≡ true
    by_operands o None = refl
    by_operands o (Some os) = formed o os
body (_ ∷ ts) = refl

marked : (l : Label) (ss : Option (List Stmt86)) → all_fine ss ≡ true → all_fine (option_map (λ ss. Mark l ∷ ss) ss) ≡ true
unfolding all_fine
marked l None h = refl
marked l (Some ss) h = h

statements : (ts : List Token) → all_fine (forms.statements_of ts) ≡ true
statements (tokens.Label l ∷ tokens.Colon ∷ ts) = marked l (forms.body_of ts) (body ts)
statements ts = body ts

pub line_names_labels : {line : List ℕ} {ss : List Stmt86} → TextLineGives line (Ok ss) → list_all names_labels ss ≡ true
unfolding all_fine
line_names_labels (sensible {ts = ts} l x e h) = rw e at (statements ts)
