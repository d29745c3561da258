-- Statements with their bytes looked at.
use Rattle.std.proofs.Common.{◌≡◌, List, [], ◌∷◌, ◌++◌, Bool, true, false, cond, Option, Some, None, option_map, Result, Ok, Err, refl, sym, inl, inr}
use Rattle.std.specs.List.{list_all}
use Rattle.std.specs.Option.{is_some}
use Rattle.std.proofs.Math.Bool.{and-false}
use Rattle.std.proofs.lemmas.List.Folds.{list_all-append}
use Rattle.asm86_line_types.specs.declared.line.Label.{Label}
use Rattle.asm86_line_types.specs.declared.line.Stmt86.{Stmt86}
use Rattle.asm86_line_types.specs.declared.line.Stmt86.TheVariants.{Mark}
use Rattle.asm86_line_types.specs.declared.line.TextRule.{TextRule}
use Rattle.asm86_line_types.specs.declared.line.TextRule.TheVariants.{M1, M2}
use Rattle.asm86_line_reader.specs.Forms.{is_small}
use Rattle.asm86_line_reader.specs.Results.{checked, all_checked}
use Rattle.asm86_line_reader.proofs.Each.{both}
use Rattle.std.proofs.lemmas.Bool.{cases_Bool}

-- a rule that is broken, whatever would be given else
other : {X Y : Type 0} (r s : TextRule) → ◌≡◌ {A = Result X TextRule} (Err r) (Err s) → ◌≡◌ {A = Result Y TextRule} (Err r) (Err s)
other r s e = let same : r ≡ s = cc in rw same refl

small_of : (s t : Stmt86) (b : Bool) → b ≡ is_small s → Ok t ≡ (cond b (Ok s) (Err M1)) → (s ≡ t) × (is_small t ≡ true)
small_of s t true e h = let same : s ≡ t = cc in (same, rw (← same) (sym e))
small_of s t false e h = absurd cc

-- a statement that was taken
pub taken : (a : Option Stmt86) (t : Stmt86) → Ok t ≡ checked a → (a ≡ Some t) × (is_small t ≡ true)
taken None t h = absurd cc
taken (Some s) t h = let k = small_of s t (is_small s) refl h in (cc (k.0), k.1)

pub small_more : (ss : List Stmt86) (s : Stmt86) → list_all is_small ss ≡ true → is_small s ≡ true → list_all is_small (ss ++ s ∷ []) ≡ true
small_more ss s a b = rw (list_all-append is_small ss (s ∷ []), a, b) refl

-- statements that were all taken
pub all_taken : (x : Option (List Stmt86)) (ss : List Stmt86) → x ≡ Some ss → list_all is_small ss ≡ true → Ok ss ≡ all_checked x
all_taken x ss e h = rw (e, h) refl

pub head_fails : (a : Option Stmt86) (b : Option (List Stmt86)) (rule : TextRule) → is_some a ≡ true → is_some b ≡ true → Err rule ≡ checked a → Err rule ≡ all_checked (both a b)
head_fails None b rule x y e = absurd cc
head_fails (Some s) None rule x y e = absurd cc
head_fails (Some s) (Some ss) rule x y e = elim (cases_Bool (is_small s)) [
  | inl h ↦ absurd (let k = rw h at e in cc)
  | inr h ↦ rw h (other rule M1 (rw h at e))
]

pub tail_fails : (a : Option Stmt86) (b : Option (List Stmt86)) (rule : TextRule) → is_some a ≡ true → Err rule ≡ all_checked b → Err rule ≡ all_checked (both a b)
tail_fails None b rule x e = absurd cc
tail_fails (Some s) None rule x e = e
tail_fails (Some s) (Some ss) rule x e = elim (cases_Bool (list_all is_small ss)) [
  | inl h ↦ absurd (let k = rw h at e in cc)
  | inr h ↦ rw (h, and-false) (rw h at e)
]

-- one statement alone
pub one_fails : (a : Option Stmt86) (rule : TextRule) → Err rule ≡ checked a → Err rule ≡ all_checked (option_map (λ s. s ∷ []) a)
one_fails None rule e = other rule M2 e
one_fails (Some s) rule e = elim (cases_Bool (is_small s)) [
  | inl h ↦ absurd (let k = rw h at e in cc)
  | inr h ↦ rw h (other rule M1 (rw h at e))
]

pub one_taken : (a : Option Stmt86) (s : Stmt86) → Ok s ≡ checked a → Ok (s ∷ []) ≡ all_checked (option_map (λ s. s ∷ []) a)
one_taken a s e = let h = taken a s e in rw (h.0, h.1) refl

-- a label in front changes neither
pub marked_fails : (l : Label) (x : Option (List Stmt86)) (rule : TextRule) → Err rule ≡ all_checked x → Err rule ≡ all_checked (option_map (λ ss. Mark l ∷ ss) x)
marked_fails l None rule e = e
marked_fails l (Some ss) rule e = elim (cases_Bool (list_all is_small ss)) [
  | inl h ↦ absurd (let k = rw h at e in cc)
  | inr h ↦ rw h (rw h at e)
]

pub marked_taken : (l : Label) (x : Option (List Stmt86)) (ss : List Stmt86) → Ok ss ≡ all_checked x → Ok (Mark l ∷ ss) ≡ all_checked (option_map (λ ss. Mark l ∷ ss) x)
marked_taken l None ss e = absurd cc
marked_taken l (Some zs) ss e = elim (cases_Bool (list_all is_small zs)) [
  | inl h ↦ let same : ss ≡ zs = (let k = rw h at e in cc) in rw (h, same) refl
  | inr h ↦ absurd (let k = rw h at e in cc)
]
