-- Operands, one after the other.
use Rattle.std.proofs.Common.{◌≡◌, ◌≢◌, ℕ, ◌<◌, List, [], ◌∷◌, ◌++◌, length, Bool, true, false, eqb, Result, Ok, Err, refl, sym, ap, ◌∙◌, append_assoc, arith}
use Rattle.std.proofs.lemmas.Bool.{eqb-true}
use Rattle.std.specs.Global.{Vec}
use Rattle.asm80_types.specs.declared.arg.Arg.{Arg}
use Rattle.asm80_types.specs.Tree.{Tree, Operand, String, Whole}
use Rattle.asm80_text.specs.declared.token.Token.{Token}
use Rattle.asm80_text.specs.declared.token.Token.TheVariants.{Text, Comma}
use Rattle.asm80_text.specs.declared.fault.ParseFault.{ParseFault}
use Rattle.asm80_text.specs.declared.fault.ParseFault.TheVariants as faults
use Rattle.asm80_text.specs.Grammar.{Spells, Begins, Ends, alone, joined, tighter}
use Rattle.asm80_text.specs.TreeResults.{Sure, Gives}
use Rattle.asm80_text.proofs.Chain.{spells_shorter}
use Rattle.asm80_text.specs.Statement.{IsOperand, AreOperands, text, value, last, more, HasOperands, bare, full}
use Rattle.asm80_text.specs.Results.{SureOperand, GivesOperand, GivesOperands, GivesOperandList}

-- a text begins no expression
mutual
  pub no_text : {k : ℕ} {bytes : List ℕ} {ts r : List Token} {e : Tree} → Spells k (Text bytes ∷ ts) e r → ⊥
  no_text (alone b) = no_text_begins b
  no_text (joined l lv x) = no_text l

  no_text_begins : {k : ℕ} {bytes : List ℕ} {ts r : List Token} {e : Tree} → Begins k (Text bytes ∷ ts) e r → ⊥
  no_text_begins (tighter s) = no_text s

text_is : {bytes : List ℕ} {ts r : List Token} {b : Operand} → IsOperand (Text bytes ∷ ts) b r → (String bytes ≡ b) × (ts ≡ r)
text_is text = (refl, refl)
text_is (value s) = absurd (no_text s)

pub text_read : (ts rest : List Token) (bytes : List ℕ) → ts ≡ Text bytes ∷ rest → SureOperand ts (String bytes) rest
text_read ts rest bytes e = rw e (record { holds = text; only = λ b r x h. text_is x })

value_is : {ts r : List Token} {b : Operand} → IsOperand ts b r → ((bytes : List ℕ) (rest : List Token) → ts ≢ Text bytes ∷ rest) → (e : Tree) × (Whole e ≡ b) × Spells 5 ts e r
value_is (text {bytes = bytes} {rest = rest}) h = absurd (h bytes rest refl)
value_is (value s) h = (_, refl, s)

pub value_read : (ts rest : List Token) (e : Tree) → ((bytes : List ℕ) (rest : List Token) → ts ≢ Text bytes ∷ rest) → Sure (Spells 5 ts) (Ends 5) e rest → SureOperand ts (Whole e) rest
value_read ts rest e ne s = record {
  holds = value s.holds;
  only = λ b r x h. let v = value_is x ne in let f = s.only v.0 r v.2 h in (ap Whole f.0 ∙ v.1, f.1);
}

pub value_fails : (ts : List Token) (f : ParseFault) → ((bytes : List ℕ) (rest : List Token) → ts ≢ Text bytes ∷ rest) → Gives (Spells 5 ts) (Ends 5) (Err f) → GivesOperand ts (Err f)
value_fails ts faults.Memory ne g = tt
value_fails ts faults.Malformed ne g = λ b r x h. let v = value_is x ne in g v.0 r v.2 h

pub operand_shorter : {ts r : List Token} {b : Operand} → IsOperand ts b r → length r < length ts
operand_shorter text = omega arith
operand_shorter (value s) = spells_shorter s

-- ---- the loop

pub no_comma : (r : List Token) → ◌≡◌ {A = List Token} [] (Comma ∷ r) → ⊥
no_comma r e = cc

tail_same : (r next : List Token) → ◌≡◌ {A = List Token} (Comma ∷ r) (Comma ∷ next) → r ≡ next
tail_same r next e = cc

module _ (ts rest after : List Token) (front : List Operand) (a : Operand)
    (holds : (bs : List Operand) → AreOperands rest bs → AreOperands ts (front ++ bs))
    (only : (bs : List Operand) → AreOperands ts bs → (others : List Operand) × (bs ≡ front ++ others) × AreOperands rest others)
    (s : SureOperand rest a after) where
  pub ended : after ≡ [] → AreOperands ts (front ++ a ∷ [])
  ended e = holds (a ∷ []) (last (rw e at s.holds))

  broken : (bs : List Operand) → AreOperands rest bs → after ≢ [] → ((r : List Token) → after ≢ Comma ∷ r) → ⊥
  broken bs (last {a = b} y) ne nc = ne (s.only b [] y tt).1
  broken bs (more {rest = r} {a = b} y z) ne nc = nc r (s.only b (Comma ∷ r) y tt).1

  pub breaks : after ≢ [] → ((r : List Token) → after ≢ Comma ∷ r) → (bs : List Operand) → AreOperands ts bs → ⊥
  breaks ne nc bs x = let o = only bs x in broken o.0 o.2 ne nc

  pub holds_on : (next : List Token) → after ≡ Comma ∷ next → (bs : List Operand) → AreOperands next bs → AreOperands ts ((front ++ a ∷ []) ++ bs)
  holds_on next e bs x = rw append_assoc (holds (a ∷ bs) (more (rw e at s.holds) x))

  rest_of : (next : List Token) → after ≡ Comma ∷ next → (bs : List Operand) → AreOperands rest bs → (others : List Operand) × (bs ≡ a ∷ others) × AreOperands next others
  rest_of next e bs (last {a = b} y) = absurd (no_comma next (sym (s.only b [] y tt).1 ∙ e))
  rest_of next e bs (more {rest = r} {a = b} {others = cs} y z) =
      let o = s.only b (Comma ∷ r) y tt in (cs, ap (λ (k : Operand). k ∷ cs) (sym o.0), rw (tail_same r next (sym o.1 ∙ e)) at z)

  pub only_on : (next : List Token) → after ≡ Comma ∷ next → (bs : List Operand) → AreOperands ts bs → (others : List Operand) × (bs ≡ (front ++ a ∷ []) ++ others) × AreOperands next others
  only_on next e bs x =
      let o = only bs x in
      let p = rest_of next e o.0 o.2 in
      (p.0, o.1 ∙ ap (λ (k : List Operand). front ++ k) p.1 ∙ sym (append_assoc front (a ∷ []) p.0), p.2)

false_true : false ≡ true → ⊥
false_true e = cc

pub is_nil : (ts : List Token) (b : Bool) → b ≡ eqb (length ts) 0 → b ≡ true → ts ≡ []
is_nil [] b e h = refl
is_nil (t ∷ ts) b e h = let n : length {A = Token} (t ∷ ts) ≡ 0 = eqb-true (length {A = Token} (t ∷ ts)) 0 (sym e ∙ h) in absurd (omega arith)

pub is_no_nil : (ts : List Token) (b : Bool) → b ≡ eqb (length ts) 0 → b ≡ false → ts ≢ []
is_no_nil [] b e h x = false_true (sym h ∙ e)
is_no_nil (t ∷ ts) b e h x = cc

-- ---- lists that may be empty

pub no_list : (ts : List Token) → ts ≡ [] → HasOperands ts []
no_list ts e = rw e bare

list_is : {ts : List Token} {args : List Operand} → HasOperands ts args → ts ≢ [] → AreOperands ts args
list_is bare ne = absurd (ne refl)
list_is (full a) ne = a

pub some_list : (ts : List Token) (r : Result (Vec Arg) ParseFault) → ts ≢ [] → GivesOperands ts r → GivesOperandList ts r
some_list ts (Ok v) ne g = full g
some_list ts (Err faults.Memory) ne g = tt
some_list ts (Err faults.Malformed) ne g = λ args x. g args (list_is x ne)
