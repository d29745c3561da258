-- To which addresses control comes from elsewhere.
use Rattle.std.proofs.Common.{◌≡◌, ℕ, zero, suc, ◌<◌, true, ◌||◌, List, [], ◌∷◌, length, get_or, Option, Some, None, refl, ap, ◌∙◌, ⊎_elim, arith}
use Rattle.std.specs.Prelude.{◌==◌, filter_map, not}
use Rattle.std.specs.List.{Contains, cons_option}
use Rattle.std.proofs.lemmas.Bool.{or_left, or_right, or_cases, eq-eqb, eqb-true, ne_eqb}
use Rattle.base.specs.Addresses.{is_among}
use Rattle.i80.specs.declared.Instr80.{Instr80}
use Rattle.i80.specs.declared.Instr80.TheVariants.{Jmp, Jif, Call, Cif}
use Rattle.i80.specs.Columns.{ends80}
use Rattle.asm80_types.specs.declared.program.Placed.{Placed}
use Rattle.asm80_types.specs.Program.{Program, named_by}
use Rattle.asm80_types.specs.Taken.{taken_places}
use Rattle.flow.specs.Blocks.{target_of, target_placed, targets, is_entered, is_cut, end_of}

pub target_named : (i : Instr80) (t : ℕ) → target_of i ≡ Some t → named_by i ≡ Some t
target_named (Jmp g) t h = h
target_named (Jif c g) t h = h
target_named (Call g) t h = h
target_named (Cif c g) t h = h
target_named i t h = absurd (cc)

pub among_cons : (o : Option ℕ) (list : List ℕ) (a : ℕ) → is_among list a ≡ true → is_among (cons_option o list) a ≡ true
among_cons None list a h = h
among_cons (Some b) list a h = or_right (b == a) (is_among list a) h

pub among_some : (o : Option ℕ) (list : List ℕ) (a : ℕ) → o ≡ Some a → is_among (cons_option o list) a ≡ true
among_some None list a e = absurd (cc)
among_some (Some b) list a e = or_left (b == a) (is_among list a) (eq-eqb b a (let s : b ≡ a = cc in s))

among_targets : (xs : List Placed) (k t : ℕ) (d : Placed) → k < length xs → target_placed (get_or xs k d) ≡ Some t → is_among (filter_map target_placed xs) t ≡ true
among_targets [] k t d lt is = absurd (omega arith)
among_targets (x ∷ xs) zero t d lt is = among_some (target_placed x) (filter_map target_placed xs) t is
among_targets (x ∷ xs) (suc k) t d lt is = among_cons (target_placed x) (filter_map target_placed xs) t (among_targets xs k t d (omega arith) is)

among_at : (list : List ℕ) (k a d : ℕ) → k < length list → get_or list k d ≡ a → is_among list a ≡ true
among_at [] k a d lt is = absurd (omega arith)
among_at (b ∷ bs) zero a d lt is = or_left (b == a) (is_among bs a) (eq-eqb b a is)
among_at (b ∷ bs) (suc k) a d lt is = or_right (b == a) (is_among bs a) (among_at bs k a d (omega arith) is)

pub entered_target : (p : Program) (k t : ℕ) (d : Placed) → k < length p.instrs → target_of (get_or p.instrs k d).instr ≡ Some t → is_entered p t ≡ true
entered_target p k t d lt is = or_left (is_among (targets p) t) (is_among (taken_places p) t) (among_targets p.instrs k t d lt is)

pub entered_taken : (p : Program) (a : ℕ) → Contains (taken_places p) a → is_entered p a ≡ true
entered_taken p a h = or_right (is_among (targets p) a) (is_among (taken_places p) a) (among_at (taken_places p) h.0 a a h.1 h.2)

-- where a cut stands
pub cut_entered : (p : Program) (x y : Placed) → is_entered p y.at ≡ true → is_cut p x y ≡ true
cut_entered p x y h = or_right (ends80 x.instr) (not (end_of x == y.at) || is_entered p y.at) (or_right (not (end_of x == y.at)) (is_entered p y.at) h)

pub cut_ended : (p : Program) (x y : Placed) → ends80 x.instr ≡ true → is_cut p x y ≡ true
cut_ended p x y h = or_left (ends80 x.instr) (not (end_of x == y.at) || is_entered p y.at) h

pub cut_apart : (p : Program) (x y : Placed) → (end_of x ≡ y.at → ⊥) → is_cut p x y ≡ true
cut_apart p x y h = or_right (ends80 x.instr) (not (end_of x == y.at) || is_entered p y.at) (or_left (not (end_of x == y.at)) (is_entered p y.at) (ap not (ne_eqb (end_of x) y.at h)))

-- what is among targets is the target of one
target_step : (x : Placed) (xs : List Placed) (t : ℕ) (d : Placed) (o : Option ℕ) → target_placed x ≡ o → is_among (cons_option o (filter_map target_placed xs)) t ≡ true → (is_among (filter_map target_placed xs) t ≡ true → (k : ℕ) × (k < length xs) × (target_placed (get_or xs k d) ≡ Some t)) → (k : ℕ) × (k < length (x ∷ xs)) × (target_placed (get_or (x ∷ xs) k d) ≡ Some t)
target_step x xs t d None is h rest = let later = rest h in (suc later.0, omega (arith, later.1), later.2)
target_step x xs t d (Some b) is h rest =
    ⊎_elim
    (λ here. (0, omega arith, is ∙ ap Some (eqb-true b t here)))
    (λ there. let later = rest there in (suc later.0, omega (arith, later.1), later.2))
    (or_cases (b == t) (is_among (filter_map target_placed xs) t) h)

pub target_among : (xs : List Placed) (t : ℕ) (d : Placed) → is_among (filter_map target_placed xs) t ≡ true → (k : ℕ) × (k < length xs) × (target_placed (get_or xs k d) ≡ Some t)
target_among [] t d h = absurd (cc)
target_among (x ∷ xs) t d h = target_step x xs t d (target_placed x) refl h (target_among xs t d)

pub contained : (list : List ℕ) (a : ℕ) → is_among list a ≡ true → Contains list a
contained [] a h = absurd (cc)
contained (b ∷ bs) a h =
    let rest = contained bs a in
    ⊎_elim
    (λ here. (0, omega arith, eqb-true b a here))
    (λ there. let later = rest there in (suc later.0, omega (arith, later.1), later.2))
    (or_cases (b == a) (is_among bs a) h)
