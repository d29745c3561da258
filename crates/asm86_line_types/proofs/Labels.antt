-- Labels that are the same, and labels as keys: the test that a hash map has for them, and looking one up from the front of a list.
use Rattle.std.proofs.Common.{◌≡◌, ℕ, cond, List, [], ◌∷◌, Some, true, refl, ap, sym, ◌∙◌}
use Rattle.std.proofs.lemmas.Bool.{eqb-true}
use Rattle.std.specs.Map.{lookup}
use Rattle.asm86_line_types.specs.declared.line.Label.{Label}
use Rattle.asm86_line_types.specs.declared.line.Label.TheVariants.{At, Skip, User, Sys, End}
use Rattle.asm86_line_types.specs.Layout.{same_label}
use Rattle.asm86_line_types.specs.contracts.line.LabelPartialEq.TheImpl.{eq-value}
use Rattle.asm86_line_types.specs.contracts.line.LabelEq.TheImpl.Laws.{laws-law}
use Rattle.asm86_line_types.specs.Image.{offset_in}

-- the test that a hash map has for labels
pub eq_is_same : (a b : Label) → eq-value.it a b ≡ same_label a b
eq_is_same (At a) (At b) = refl
eq_is_same (Skip a) (Skip b) = refl
eq_is_same (User a) (User b) = refl
eq_is_same Sys Sys = refl
eq_is_same End End = refl
eq_is_same a b = refl

pub same_label_sym : (a b : Label) → same_label a b ≡ same_label b a
same_label_sym a b = sym (eq_is_same a b) ∙ laws-law.symm a b ∙ eq_is_same b a

pub same_label_self : (a : Label) → same_label a a ≡ true
same_label_self a = sym (eq_is_same a a) ∙ laws-law.refl a

-- labels that are the same are one
pub same_label_is : (a b : Label) → same_label a b ≡ true → a ≡ b
same_label_is (At a) (At b) e = ap At (eqb-true a b e)
same_label_is (Skip a) (Skip b) e = ap Skip (eqb-true a b e)
same_label_is (User a) (User b) e = ap User (eqb-true a b e)
same_label_is Sys Sys e = refl
same_label_is End End e = refl
same_label_is a b e = absurd (cc)

pub equal_is_one : (a b : Label) → eq-value.it a b ≡ true → a ≡ b
equal_is_one a b e = same_label_is a b (sym (eq_is_same a b) ∙ e)

-- a look-up in a hash map's entries is one from the front of the list
pub lookup_is : (l : Label) (xs : List (Label × ℕ)) → lookup (eq-value.it l) xs ≡ offset_in xs l
lookup_is l [] = refl
lookup_is l (x ∷ xs) =
    ap (λ b. cond b (Some x.1) (lookup (eq-value.it l) xs)) (eq_is_same l x.0 ∙ same_label_sym l x.0)
    ∙ ap (λ r. cond (same_label x.0 l) (Some x.1) r) (lookup_is l xs)

-- what a label's place becomes where one is put into a hash map for a label
pub put_is : (k q : Label) (v : ℕ) (es fs : List (Label × ℕ)) → lookup (eq-value.it q) fs ≡ cond (eq-value.it k q) (Some v) (lookup (eq-value.it q) es) → offset_in fs q ≡ cond (same_label k q) (Some v) (offset_in es q)
put_is k q v es fs h =
    sym (lookup_is q fs)
    ∙ h
    ∙ ap (λ b. cond b (Some v) (lookup (eq-value.it q) es)) (eq_is_same k q)
    ∙ ap (λ r. cond (same_label k q) (Some v) r) (lookup_is q es)
