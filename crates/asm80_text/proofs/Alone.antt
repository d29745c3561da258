-- Tokens are one statement.
use Rattle.std.proofs.Common.{◌≡◌, ℕ, List, [], ◌∷◌, ◌++◌, Option, Some, refl, sym, ap, ◌∙◌, arith}
use Rattle.asm80_types.specs.Tree.{Operand, Whole, Statement}
use Rattle.asm80_text.specs.declared.token.Token.{Token}
use Rattle.asm80_text.specs.declared.token.Token.TheVariants.{Word, Comma, Colon}
use Rattle.asm80_text.specs.Spelling.{Spelling}
use Rattle.asm80_text.specs.Coherent.{IsCoherent}
use Rattle.asm80_text.specs.Grammar.{Ends}
use Rattle.asm80_text.proofs.Unambiguous.{one_expression}
use Rattle.asm80_text.specs.Statement.{IsOperand, text, value, AreOperands, last, more, HasOperands, bare, full, IsBody, nothing, operated, IsLabeled, unlabeled, labeled, with_colon, IsStatement, unnumbered, numbered, IsStatementOf, kept, AreStatements, none_left, next}
use Rattle.asm80_text.proofs.Operands.{no_text, operand_shorter, no_comma}
use Rattle.asm80_text.proofs.Bodies.{no_digits, one_word}

record SameOperand (a b : Operand) (r s : List Token) : Type 0 where
  operands : a ≡ b
  rests : r ≡ s

one_operand : {ts r s : List Token} {a b : Operand} → IsOperand ts a r → IsOperand ts b s → Ends 5 r → Ends 5 s → SameOperand a b r s
one_operand text text x y = record { operands = refl; rests = refl }
one_operand text (value u) x y = absurd (no_text u)
one_operand (value u) text x y = absurd (no_text u)
one_operand {ts} {r} {s} (value {e = e} u) (value {e = f} v) x y = let h = one_expression 5 ts r s e f (omega arith) u v x y in record { operands = ap Whole h.trees; rests = h.rests }

comma_same : (r s : List Token) → ◌≡◌ {A = List Token} (Comma ∷ r) (Comma ∷ s) → r ≡ s
comma_same r s e = cc

one_list : {ts : List Token} {a b : List Operand} → AreOperands ts a → AreOperands ts b → a ≡ b
one_list (last a) (last b) = ap (λ (k : Operand). k ∷ []) (one_operand a b tt tt).operands
one_list (last a) (more {rest = r} b y) = absurd (no_comma r (one_operand a b tt tt).rests)
one_list (more {rest = r} a x) (last b) = absurd (no_comma r (one_operand b a tt tt).rests)
one_list (more {rest = r} {a = a'} {others = cs} a x) (more {rest = s} {a = b'} {others = ds} b y) =
    let h = one_operand a b tt tt in
    let z = one_list x (rw (← comma_same r s h.rests) at y) in
    ap (λ (k : Operand). k ∷ cs) h.operands ∙ ap (λ (k : List Operand). b' ∷ k) z

no_operands : {b : List Operand} → AreOperands [] b → ⊥
no_operands (last a) = omega (arith, operand_shorter a)
no_operands (more a x) = omega (arith, operand_shorter a)

pub one_operand_list : {ts : List Token} {a b : List Operand} → HasOperands ts a → HasOperands ts b → a ≡ b
one_operand_list bare bare = refl
one_operand_list bare (full x) = absurd (no_operands x)
one_operand_list (full x) bare = absurd (no_operands x)
one_operand_list (full x) (full y) = one_list x y

record SameBody (o p : Option (List ℕ)) (a b : List Operand) : Type 0 where
  ops : o ≡ p
  args : a ≡ b

pub record SameStatement (l m o p : Option (List ℕ)) (a b : List Operand) : Type 0 where
  pub labels : l ≡ m
  pub ops : o ≡ p
  pub args : a ≡ b

unfoldable made : ℕ → Option (List ℕ) → Option (List ℕ) → List Operand → Statement
made n l o a = record { line = n; label = l; op = o; args = a }

same_made : (n k : ℕ) (l m o p : Option (List ℕ)) (a b : List Operand) → n ≡ k → l ≡ m → o ≡ p → a ≡ b → made n l o a ≡ made k m p b
same_made n k l m o p a b d e f g = ap (λ (x : ℕ). made x l o a) d ∙ ap (λ (x : Option (List ℕ)). made k x o a) e ∙ ap (λ (x : Option (List ℕ)). made k m x a) f ∙ ap (λ (x : List Operand). made k m p x) g

module _ (spelling : Spelling) (coherent : IsCoherent spelling) where
  one_body : {ts : List Token} {o p : Option (List ℕ)} {a b : List Operand} → IsBody spelling ts o a → IsBody spelling ts p b → SameBody o p a b
  one_body nothing nothing = record { ops = refl; args = refl }
  one_body (operated {t = t} {ts = ts} {word = w} {op = op} {args = args} e x) (operated {word = v} {op = other} {args = others} f y) =
      let same = coherent.one w ts op other args others x (rw (← one_word spelling t w v e f) at y) in
      record { ops = ap (λ (k : List ℕ). Some k) same.0; args = same.1 }

  no_word : {w : List ℕ} {ts : List Token} {p : Option (List ℕ)} {b : List Operand} → IsBody spelling (Word w ∷ ts) p b → ⊥
  no_word (operated e x) = cc

  no_colon : {ts : List Token} {p : Option (List ℕ)} {b : List Operand} → IsBody spelling (Colon ∷ ts) p b → ⊥
  no_colon (operated e x) = cc

  one_labeled : {ts : List Token} {l m o p : Option (List ℕ)} {a b : List Operand} → IsLabeled spelling ts l o a → IsLabeled spelling ts m p b → SameStatement l m o p a b
  one_labeled (unlabeled a) (unlabeled b) = let h = one_body a b in record { labels = refl; ops = h.ops; args = h.args }
  one_labeled (unlabeled a) (labeled b) = absurd (no_word a)
  one_labeled (unlabeled a) (with_colon b) = absurd (no_word a)
  one_labeled (labeled a) (unlabeled b) = absurd (no_word b)
  one_labeled (labeled a) (labeled b) = let h = one_body a b in record { labels = refl; ops = h.ops; args = h.args }
  one_labeled (labeled a) (with_colon b) = absurd (no_colon a)
  one_labeled (with_colon a) (unlabeled b) = absurd (no_word b)
  one_labeled (with_colon a) (labeled b) = absurd (no_colon b)
  one_labeled (with_colon a) (with_colon b) = let h = one_body a b in record { labels = refl; ops = h.ops; args = h.args }

  pub one_statement : {ts : List Token} {l m o p : Option (List ℕ)} {a b : List Operand} → IsStatement spelling ts l o a → IsStatement spelling ts m p b → SameStatement l m o p a b
  one_statement (unnumbered a) (unnumbered b) = one_labeled a b
  one_statement (unnumbered a) (numbered b) = absurd (no_digits a)
  one_statement (numbered a) (unnumbered b) = absurd (no_digits b)
  one_statement (numbered a) (numbered b) = one_labeled a b

  -- ---- the statements of a line

  one_of_line : (n : ℕ) (ts : List Token) (s t : Statement) → IsStatementOf spelling n ts s → IsStatementOf spelling n ts t → s ≡ t
  unfolding made
  one_of_line n ts s t x y =
      let h = one_statement x.words y.words in
      same_made s.line t.line s.label t.label s.op t.op s.args t.args (x.numbers ∙ sym y.numbers) h.labels h.ops h.args

  pub one_list_of_statements : {n : ℕ} {parts : List (List Token)} {ss us : List Statement} → AreStatements spelling n parts ss → AreStatements spelling n parts us → ss ≡ us
  one_list_of_statements none_left none_left = refl
  one_list_of_statements {n} (next {ts = ts} {s = s} {others = vs} x a) (next {s = t} {others = ws} y b) =
      ap (λ (k : Statement). kept k ++ vs) (one_of_line n ts s t x y) ∙ ap (λ (k : List Statement). kept t ++ k) (one_list_of_statements a b)
