-- Which labels stand in the statements of instructions: those of their own addresses.
use Rattle.std.proofs.Common.{◌≡◌, ◌≢◌, ℕ, ◌≤◌, ◌||◌, Bool, false, List, [], ◌∷◌, ◌++◌, refl, ap, arith}
use Rattle.std.specs.Prelude.{◌&&◌}
use Rattle.std.specs.List.{list_any}
use Rattle.std.proofs.lemmas.Bool.{cond_both, or_from, or_parts}
use Rattle.i80.specs.declared.Goal.TheVariants.{Bdos}
use Rattle.i80.specs.declared.Instr80.{Instr80}
use Rattle.i80.specs.declared.Instr80.TheVariants.{Jif, Call}
use Rattle.i86.specs.declared.Instr86.TheVariants.{Int224}
use Rattle.asm86_line_types.specs.declared.line.Label.{Label}
use Rattle.asm86_line_types.specs.declared.line.Label.TheVariants.{At, Skip}
use Rattle.asm86_line_types.specs.declared.line.Stmt86.{Stmt86}
use Rattle.asm86_line_types.specs.declared.line.Stmt86.TheVariants.{Mark, Run, Jcc}
use Rattle.asm86_line_types.specs.Layout.{same_label, marks}
use Rattle.asm80_types.specs.declared.program.Placed.{Placed}
use Rattle.asm80_types.specs.Program.{AreLaid}
use Rattle.asm80_types.proofs.Lookup.{length80-positive}
use Rattle.templates.specs.Template.{template, label_of_goal}
use Rattle.flow.specs.Blocks.{end_of}
use Rattle.flow.proofs.Cuts.{flat}
use Rattle.templates.specs.Style.{Style, is_pair, knows_function, jump_if, without_first_if, without_last_if, written_as, label_within, block_from, block_in_style, blocks_of}
use Rattle.templates_law.proofs.Match.PlainStanding.{other_number, template_marks}
use Rattle.templates_law.proofs.Match.Runs.{end_from, laid_up}
use Rattle.templates_law.proofs.Match.Leaving.{left_so}

-- a label does not stand among statements
abbrev pub Lacks : Label → List Stmt86 → Type 0
Lacks l xs = list_any (λ x. marks l x) xs ≡ false

pub lacks_both : (l : Label) (xs ys : List Stmt86) → Lacks l xs → Lacks l ys → Lacks l (xs ++ ys)
lacks_both l [] ys h g = g
lacks_both l (x ∷ xs) ys h g =
    let both = or_parts (marks l x) (list_any (λ x. marks l x) xs) h in
    or_from (marks l x) (list_any (λ x. marks l x) (xs ++ ys)) both.0 (lacks_both l xs ys both.1 g)

lacks_left : (l : Label) (first last : Bool) (xs : List Stmt86) → Lacks l xs → Lacks l (without_first_if first (without_last_if last xs))
lacks_left l = left_so (Lacks l) (record {
  Here = λ x. marks l x ≡ false;
  none = refl;
  parts = λ x xs h. or_parts (marks l x) (list_any (λ x. marks l x) xs) h;
  whole = λ x xs h k. or_from (marks l x) (list_any (λ x. marks l x) xs) h k;
})

-- an instruction's statements have no label but that past its own condition
pub written_lacks : (l : Label) (s : Style) (first last c : Bool) (x : Placed) → same_label (Skip x.at) l ≡ false → (i : Instr80) → Lacks l (written_as s first last c x i)
written_lacks l s first last c x e (Jif on goal) = cond_both (s.shortens x) (Jcc (jump_if on) (label_of_goal goal) ∷ []) (template (Jif on goal) x.at (s.saves x)) (Lacks l) (λ q. refl) (λ q. template_marks l x.at (s.saves x) e (Jif on goal))
written_lacks l s first last c x e (Call Bdos) = cond_both (c && s.directs x) (Run Int224 ∷ []) (template (Call Bdos) x.at (s.saves x)) (Lacks l) (λ q. refl) (λ q. refl)
written_lacks l s first last c x e i = lacks_left l first last (template i x.at (s.saves x)) (template_marks l x.at (s.saves x) e i)

-- a label of no instruction of a list
abbrev pub Free : Label → List Placed → Type 0
Free l [] = Unit {0}
Free l (x ∷ xs) = (same_label (At x.at) l ≡ false) × (same_label (Skip x.at) l ≡ false) × Free l xs

free_front : (l : Label) (xs ys : List Placed) → Free l (xs ++ ys) → Free l xs
free_front l [] ys f = tt
free_front l (x ∷ xs) ys f = (f.0, f.1, free_front l xs ys f.2)

free_rest : (l : Label) (xs ys : List Placed) → Free l (xs ++ ys) → Free l ys
free_rest l [] ys f = f
free_rest l (x ∷ xs) ys f = free_rest l xs ys f.2

label_lacks : (l : Label) (s : Style) (xs : List Placed) → Free l xs → Lacks l (label_within s xs)
label_lacks l s [] f = refl
label_lacks l s (x ∷ xs) f = cond_both s.all_labels (Mark (At x.at) ∷ []) [] (Lacks l) (λ q. ap (λ b. b || false) f.0) (λ q. refl)

block_lacks : (l : Label) (s : Style) (first c : Bool) (xs : List Placed) → Free l xs → Lacks l (block_from s first c xs)
block_lacks l s first c [] f = refl
block_lacks l s first c (x ∷ xs) f =
    lacks_both l (written_as s first (is_pair s x xs) c x x.instr) (label_within s xs ++ block_from s (is_pair s x xs) (knows_function c x.instr) xs) (written_lacks l s first (is_pair s x xs) c x f.1 x.instr)
    (lacks_both l (label_within s xs) (block_from s (is_pair s x xs) (knows_function c x.instr) xs) (label_lacks l s xs f.2) (block_lacks l s (is_pair s x xs) (knows_function c x.instr) xs f.2))

one_lacks : (l : Label) (s : Style) (b : List Placed) → Free l b → Lacks l (block_in_style s b)
one_lacks l s [] f = refl
one_lacks l s (x ∷ xs) f = or_from (same_label (At x.at) l) (list_any (λ x. marks l x) (block_from s false false (x ∷ xs))) f.0 (block_lacks l s false false (x ∷ xs) f)

pub blocks_lack : (l : Label) (s : Style) (bs : List (List Placed)) → Free l (flat bs) → Lacks l (blocks_of s bs)
blocks_lack l s [] f = refl
blocks_lack l s (b ∷ bs) f = lacks_both l (block_in_style s b) (blocks_of s bs) (one_lacks l s b (free_front l b (flat bs) f)) (blocks_lack l s bs (free_rest l b (flat bs) f))

-- a label that is of one address alone
abbrev pub IsOnlyOf : ℕ → Label → Type 0
IsOnlyOf a l = (b : ℕ) → b ≢ a → (same_label (At b) l ≡ false) × (same_label (Skip b) l ≡ false)

pub at_only : (a : ℕ) → IsOnlyOf a (At a)
at_only a b ne = (other_number b a ne, refl)

pub skip_only_of : (a : ℕ) → IsOnlyOf a (Skip a)
skip_only_of a b ne = (refl, other_number b a ne)

-- an address behind instructions is that of none of them
pub free_behind : (a : ℕ) (l : Label) (xs : List Placed) (from limit : ℕ) → IsOnlyOf a l → AreLaid from limit xs → end_from from xs ≤ a → Free l xs
free_behind a l [] from limit only laid le = tt
free_behind a l (x ∷ xs) from limit only laid le =
    let some = length80-positive x.instr in
    let up = laid_up xs (end_of x) limit laid.3 in
    let ne : x.at ≢ a = omega (arith, some, up, le) in
    let no = only x.at ne in
    (no.0, no.1, free_behind a l xs (end_of x) limit only laid.3 le)
