-- What stands behind statements, and the runtime among them.
use Rattle.std.proofs.Common.{◌≡◌, ◌≢◌, ◌∙◌, ◌↔◌, ℕ, List, [], ◌∷◌, ◌++◌, length, true, false, Option, Some, None, sym, ap}
use Rattle.std.specs.Prelude.{MatchOption, is_some}
use Rattle.std.specs.Borrow.{Bor}
use Rattle.asm86_line_types.specs.declared.line.Label.TheVariants.{At}
use Rattle.asm86_line_types.specs.declared.line.Stmt86.{Stmt86}
use Rattle.asm86_line_types.specs.declared.line.Stmt86.TheVariants.{Cseg, Mark}
use Rattle.templates.specs.Plain.{prologue, runtime}
use Rattle.simulation_def.specs.Runtime.{HasRuntime}
use Rattle.text_check.specs.Parts.{Opens}

tail_is : (x y : Stmt86) (xs ys : List Stmt86) → x ∷ xs ≡ y ∷ ys → xs ≡ ys
tail_is x y xs ys e = cc

head_is : (x y : Stmt86) (xs ys : List Stmt86) → x ∷ xs ≡ y ∷ ys → x ≡ y
head_is x y xs ys e = cc

-- ---- statements that others begin with

abbrev pub SameBehind : List Stmt86 → List Stmt86 → List Stmt86 → List Stmt86 → Type 0
SameBehind text first rest left = (after : List Stmt86) → (text ≡ first ++ after) ↔ (rest ≡ left ++ after)

pub one_further : (text first rest left : List Stmt86) (x y : Stmt86) (xs ys : List Stmt86) → left ≡ x ∷ xs → rest ≡ y ∷ ys → y ≡ x → SameBehind text first rest left → SameBehind text first ys xs
one_further text first rest left x y xs ys e f same inv after = (
  λ h. tail_is y x ys (xs ++ after) (sym f ∙ ((inv after).0 h ∙ ap (λ l. l ++ after) e)),
  λ h. (inv after).1 (f ∙ ((λ i. same i ∷ h i) ∙ sym (ap (λ l. l ++ after) e))),
)

pub other_found : (text first rest left : List Stmt86) (x y : Stmt86) (xs ys : List Stmt86) → left ≡ x ∷ xs → rest ≡ y ∷ ys → y ≢ x → SameBehind text first rest left → (after : List Stmt86) → text ≢ first ++ after
other_found text first rest left x y xs ys e f other inv after h = other (head_is y x ys (xs ++ after) (sym f ∙ ((inv after).0 h ∙ ap (λ l. l ++ after) e)))

pub none_found : (text first rest left : List Stmt86) (x : Stmt86) (xs : List Stmt86) → left ≡ x ∷ xs → length rest ≡ 0 → SameBehind text first rest left → (after : List Stmt86) → text ≢ first ++ after
none_found text first [] left x xs e none inv after h = let same = (inv after).0 h ∙ ap (λ l. l ++ after) e in absurd (cc)
none_found text first (y ∷ ys) left x xs e none inv after h = absurd (cc)

-- ---- what was found behind statements

abbrev pub IsBehind : List Stmt86 → List Stmt86 → Option (Bor (List Stmt86)) → Type 0
IsBehind text first o = MatchOption o ((rest : List Stmt86) → text ≢ first ++ rest) (λ rest. text ≡ first ++ rest.now)

found_behind : (text first : List Stmt86) (o : Option (Bor (List Stmt86))) → is_some o ≡ true → IsBehind text first o → (after : List Stmt86) × (text ≡ first ++ after)
found_behind text first None e h = absurd (cc)
found_behind text first (Some rest) e h = (rest.now, h)

none_behind : (text first : List Stmt86) (o : Option (Bor (List Stmt86))) → is_some o ≡ false → IsBehind text first o → (after : List Stmt86) → text ≢ first ++ after
none_behind text first None e h = h
none_behind text first (Some rest) e h = absurd (cc)

-- a text that does not begin with the prologue behind CSEG has no opening
pub no_prologue : (top : ℕ) (text behind_cseg : List Stmt86) → text ≡ Cseg ∷ behind_cseg → ((after : List Stmt86) → behind_cseg ≢ prologue top ++ after) → (rest : List Stmt86) → Opens top text rest → ⊥
no_prologue top text behind_cseg e none rest h = none (Mark (At 0x100) ∷ rest) (tail_is Cseg Cseg behind_cseg (prologue top ++ Mark (At 0x100) ∷ rest) (sym e ∙ h))

-- ---- the runtime

pub runtime_here : (rest given : List Stmt86) (o : Option (Bor (List Stmt86))) → given ≡ runtime → is_some o ≡ true → IsBehind rest given o → HasRuntime rest
runtime_here rest given o is e h =
    let found = found_behind rest given o e h in
    record { before = []; after = found.0; is = found.1 ∙ ap (λ l. l ++ found.0) is }

runtime_later : (rest others : List Stmt86) (y : Stmt86) → rest ≡ y ∷ others → ((after : List Stmt86) → rest ≢ runtime ++ after) → HasRuntime rest ↔ HasRuntime others
runtime_later rest others y e none = (
  λ h. by_before h.before h.after h.is,
  λ h. record { before = y ∷ h.before; after = h.after; is = e ∙ ap (λ l. y ∷ l) h.is },
)
  where
    by_before : (before after : List Stmt86) → rest ≡ before ++ (runtime ++ after) → HasRuntime others
    by_before [] after is = absurd (none after is)
    by_before (z ∷ zs) after is = record { before = zs; after = after; is = tail_is y z others (zs ++ (runtime ++ after)) (sym e ∙ is) }

pub runtime_not_here : (text rest others given : List Stmt86) (y : Stmt86) (o : Option (Bor (List Stmt86))) → given ≡ runtime → rest ≡ y ∷ others → is_some o ≡ false → IsBehind rest given o → HasRuntime rest ↔ HasRuntime text → HasRuntime others ↔ HasRuntime text
runtime_not_here text rest others given y o is e none h inv =
    let later = runtime_later rest others y e (λ after same. none_behind rest given o none h after (same ∙ ap (λ l. l ++ after) (sym is))) in
    (λ r. inv.0 (later.1 r), λ r. later.0 (inv.1 r))
