-- What the functions on bodies and statements found.
use Rattle.std.proofs.Common.{◌≡◌, ℕ, List, [], ◌∷◌, Option, Some, None, Err, refl, sym, ◌∙◌, inl, inr, ◌⊎◌}
use Rattle.asm80_types.specs.Tree.{Operand, Statement}
use Rattle.asm80_text.specs.declared.token.Token.{Token}
use Rattle.asm80_text.specs.declared.token.Token.TheVariants.{Digits, Word, Colon}
use Rattle.asm80_text.specs.declared.fault.ParseFault.{ParseFault}
use Rattle.asm80_text.specs.declared.fault.ParseFault.TheVariants as faults
use Rattle.asm80_text.specs.Spelling.{Spelling}
use Rattle.asm80_text.specs.Words.{as_operation}
use Rattle.asm80_text.specs.TokenResults.{GivesOperation}
use Rattle.asm80_text.proofs.Operations.{CanOperate, word, operator, inverse, can_operate}
use Rattle.asm80_text.specs.Statement.{IsBody, nothing, operated, IsLabeled, unlabeled, labeled, with_colon, IsStatement, unnumbered, numbered, IsStatementOf}
use Rattle.asm80_text.specs.Results.{GivesBody, GivesStatement, past_number, past_colon, label_of, past_label}

-- ---- bodies

some_is : (v w : List ℕ) → ◌≡◌ {A = Option (List ℕ)} (Some v) (Some w) → v ≡ w
some_is v w e = cc

-- two words of one token
pub one_word : (s : Spelling) (t : Token) (v w : List ℕ) → as_operation s t ≡ Some v → as_operation s t ≡ Some w → v ≡ w
one_word s t v w e f = some_is v w (sym e ∙ f)

pub nothing_read : (s : Spelling) (ts : List Token) → ts ≡ [] → IsBody s ts None []
nothing_read s ts e = rw e nothing

none_operates : {s : Spelling} {t : Token} {ts : List Token} {p : Option (List ℕ)} {bs : List Operand} → IsBody s (t ∷ ts) p bs → as_operation s t ≡ None → ⊥
none_operates (operated e x) n = cc

pub no_operation : (s : Spelling) (ts rest : List Token) (t : Token) → ts ≡ t ∷ rest → as_operation s t ≡ None → (p : Option (List ℕ)) (bs : List Operand) → IsBody s ts p bs → ⊥
no_operation s ts rest t e n p bs b = none_operates (rw e at b) n

pub operation_read : (s : Spelling) (ts rest : List Token) (t : Token) (w op : List ℕ) (args : List Operand) → ts ≡ t ∷ rest → as_operation s t ≡ Some w → s.forms w rest op args → IsBody s ts (Some op) args
operation_read s ts rest t w op args e o x = rw e (operated o x)

never_formed : (s : Spelling) (t : Token) (w : List ℕ) (rest : List Token) → as_operation s t ≡ Some w → ((op : List ℕ) (args : List Operand) → s.forms w rest op args → ⊥) → (p : Option (List ℕ)) (bs : List Operand) → IsBody s (t ∷ rest) p bs → ⊥
never_formed s t w rest o never p bs (operated {word = v} {op = op} {args = args} k x) = never op args (rw (one_word s t v w k o) at x)

pub operation_fails : (s : Spelling) (ts rest : List Token) (t : Token) (w : List ℕ) (f : ParseFault) → ts ≡ t ∷ rest → as_operation s t ≡ Some w → GivesOperation s w rest (Err f) → GivesBody s ts (Err f)
operation_fails s ts rest t w faults.Memory e o g = tt
operation_fails s ts rest t w faults.Malformed e o g = rw e (never_formed s t w rest o g)

-- ---- labels

no_word : {s : Spelling} {w : List ℕ} {ts : List Token} {p : Option (List ℕ)} {bs : List Operand} → IsBody s (Word w ∷ ts) p bs → ⊥
no_word (operated e x) = cc

no_colon : {t : Token} → CanOperate t → (ts : List Token) → past_colon (t ∷ ts) ≡ t ∷ ts
no_colon word ts = refl
no_colon operator ts = refl
no_colon inverse ts = refl

-- a body begins with no colon
body_stays : {s : Spelling} {ts : List Token} {p : Option (List ℕ)} {bs : List Operand} → IsBody s ts p bs → past_colon ts ≡ ts
body_stays nothing = refl
body_stays {s} (operated {t = t} {ts = ts} {word = w} e x) = no_colon (can_operate s t w e) ts

no_label : {t : Token} → CanOperate t → (ts : List Token) → past_label (t ∷ ts) ≡ t ∷ ts
no_label word ts = refl
no_label operator ts = refl
no_label inverse ts = refl

-- nor with a label
body_unlabeled : {s : Spelling} {ts : List Token} {p : Option (List ℕ)} {bs : List Operand} → IsBody s ts p bs → past_label ts ≡ ts
body_unlabeled nothing = refl
body_unlabeled {s} (operated {t = t} {ts = ts} {word = w} e x) = no_label (can_operate s t w e) ts

labeled_is : {s : Spelling} {ts : List Token} {l o : Option (List ℕ)} {bs : List Operand} → IsLabeled s ts l o bs → IsBody s (past_label ts) o bs
labeled_is (unlabeled b) = rw (body_unlabeled b) b
labeled_is (labeled b) = rw (body_stays b) b
labeled_is (with_colon b) = b

colon_or_not : (ts : List Token) → (ts ≡ Colon ∷ past_colon ts) ⊎ (past_colon ts ≡ ts)
colon_or_not [] = inr refl
colon_or_not (Colon ∷ ts) = inl refl
colon_or_not (t ∷ ts) = inr refl

labeled_holds : {s : Spelling} (w : List ℕ) (ts : List Token) (o : Option (List ℕ)) (bs : List Operand) → IsBody s (past_colon ts) o bs → IsLabeled s (Word w ∷ ts) (Some w) o bs
labeled_holds w ts o bs b = elim (colon_or_not ts) [
  | inl e ↦ rw e (with_colon b)
  | inr e ↦ labeled (rw e at b)
]

label_holds : {s : Spelling} (ts : List Token) (o : Option (List ℕ)) (bs : List Operand) → IsBody s (past_label ts) o bs → IsLabeled s ts (label_of ts) o bs
label_holds [] o bs b = unlabeled b
label_holds (Word w ∷ ts) o bs b = labeled_holds w ts o bs b
label_holds (t ∷ ts) o bs b = unlabeled b

-- ---- line numbers

no_digits_body : {s : Spelling} {n : ℕ} {ts : List Token} {p : Option (List ℕ)} {bs : List Operand} → IsBody s (Digits n ∷ ts) p bs → ⊥
no_digits_body (operated e x) = cc

pub no_digits : {s : Spelling} {n : ℕ} {ts : List Token} {l o : Option (List ℕ)} {bs : List Operand} → IsLabeled s (Digits n ∷ ts) l o bs → ⊥
no_digits (unlabeled b) = no_digits_body b

digits_or_not : (ts : List Token) → ((n : ℕ) × (ts ≡ Digits n ∷ past_number ts)) ⊎ (past_number ts ≡ ts)
digits_or_not [] = inr refl
digits_or_not (Digits n ∷ ts) = inl (n, refl)
digits_or_not (t ∷ ts) = inr refl

statement_holds : {s : Spelling} (ts : List Token) (l o : Option (List ℕ)) (bs : List Operand) → IsLabeled s (past_number ts) l o bs → IsStatement s ts l o bs
statement_holds ts l o bs x = elim (digits_or_not ts) [
  | inl e ↦ rw e.1 (numbered x)
  | inr e ↦ unnumbered (rw e at x)
]

no_number : {t : Token} → CanOperate t → (ts : List Token) → past_number (t ∷ ts) ≡ t ∷ ts
no_number word ts = refl
no_number operator ts = refl
no_number inverse ts = refl

labeled_stays : {s : Spelling} {ts : List Token} {l o : Option (List ℕ)} {bs : List Operand} → IsLabeled s ts l o bs → past_number ts ≡ ts
labeled_stays (unlabeled nothing) = refl
labeled_stays {s} (unlabeled (operated {t = t} {ts = ts} {word = w} e x)) = no_number (can_operate s t w e) ts
labeled_stays (labeled b) = refl
labeled_stays (with_colon b) = refl

statement_is : {s : Spelling} {ts : List Token} {l o : Option (List ℕ)} {bs : List Operand} → IsStatement s ts l o bs → IsLabeled s (past_number ts) l o bs
statement_is (unnumbered x) = rw (labeled_stays x) x
statement_is (numbered x) = x

-- ---- statements

pub statement_read : (spelling : Spelling) (n : ℕ) (ts front rest : List Token) (s : Statement) → front ≡ past_number ts → s.line ≡ n → s.label ≡ label_of front → rest ≡ past_label front → IsBody spelling rest s.op s.args → IsStatementOf spelling n ts s
statement_read spelling n ts front rest s p line e q b = record { numbers = line; words = statement_holds ts s.label s.op s.args (rw (e, ← p) (label_holds front s.op s.args (rw q at b))) }

pub statement_fails : (spelling : Spelling) (n : ℕ) (ts front rest : List Token) (f : ParseFault) → front ≡ past_number ts → rest ≡ past_label front → GivesBody spelling rest (Err f) → GivesStatement spelling n ts (Err f)
statement_fails spelling n ts front rest faults.Memory p q g = tt
statement_fails spelling n ts front rest faults.Malformed p q g = λ s x. g s.op s.args (rw (q, p) (labeled_is (statement_is x.words)))
