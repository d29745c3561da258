-- States that stand for one another at the first instruction of a block, and the runs that are in them.
use Rattle.std.proofs.Common.{◌≡◌, ℕ, suc, ◌+◌, ◌*◌, ◌/◌, ◌%◌, ◌<◌, true, not, List, [], ◌∷◌, length, Option, Some, None, refl, sym, ap, subst, ◌∙◌, arith}
use Rattle.std.specs.Prelude.{slice_get}
use Rattle.std.proofs.lemmas.Bool.{and_parts}
use Rattle.cells.specs.declared.Place.{Place}
use Rattle.cells.specs.declared.Cell.TheVariants.{Lo, Hi}
use Rattle.cells.specs.declared.Rule.{Rule}
use Rattle.cells.specs.declared.Part.{Part}
use Rattle.cells.specs.declared.Part.TheVariants.{A, B, C, D, E, H, L, S, Z, Ac, P, Cy}
use Rattle.cells.specs.Parts.{has}
use Rattle.dialogue.specs.Run.{Run, Going}
use Rattle.asm86_line_types.specs.declared.line.Label.{Label}
use Rattle.asm80_types.specs.Program.{Program}
use Rattle.cpu80_tagged.specs.State.{State80}
use Rattle.cpu86.specs.State.{State86}
use Rattle.cpu86.specs.Call.{Stop}
use Rattle.sym_terms.specs.Term.{Term, High, Loaded16, Join, FlagByte, Unknown, same_term}
use Rattle.sym_terms.specs.Values80.{Env80, Load80, LoadedByte, LoadedWord, Byte, Val80}
use Rattle.sym_terms.specs.Values86.{Env86, Load86, LoadedByte as LoadedByte86, LoadedWord as LoadedWord86, Number, Val86}
use Rattle.sym_terms.proofs.Equal.{same_term-true}
use Rattle.sym_block_def.specs.Agree.{agrees, same_known, has_unknown}
use Rattle.sym_block_def.specs.BlockMatch.{Keeps, kept_at}
use Rattle.sym_block_def.specs.Stands.{IsHalf, Stands}
use Rattle.simulation_def.specs.States.{IsState80, IsState86}
use Rattle.simulation_def.specs.Linked.{IsFirstOf, StandsIn, places, Linked}
use Rattle.simulation_law.specs.Linked.{LoadsStand}
use Rattle.simulation_law.specs.Replayed.{MemoryStands}

pub record StatesStand (p : Program) (offset : Label → Option ℕ) (cut : List (ℕ × ℕ)) (keeps : Keeps) (t : State80) (u : State86) : Type 0 where
  pub first : IsFirstOf cut t.place
  pub at_label : places offset t.place ≡ Some u.ip
  pub segments : u.ss ≡ u.ds
  pub sp : u.sp ≡ t.sp
  pub parts : (q : Part) → has (kept_at keeps t.place) q ≡ true → StandsIn (places offset) t u q
  pub memory : MemoryStands p (places offset) t.mem u.mem
  pub state80 : IsState80 p t
  pub state86 : IsState86 u
  pub dma : u.dma ≡ t.dma

pub are_linked : (p : Program) (offset : Label → Option ℕ) (cut : List (ℕ × ℕ)) (keeps : Keeps) (x : Run State80 Rule) (y : Run State86 Stop) → x.status ≡ Going → y.status ≡ Going → StatesStand p offset cut keeps x.state y.state → y.dialogue ≡ x.dialogue → y.replies ≡ x.replies → Linked p offset cut keeps x y
are_linked p offset cut keeps x y g h s d r = record {
  going80 = g;
  going86 = h;
  first = s.first;
  at_label = s.at_label;
  segments = s.segments;
  sp = s.sp;
  parts = s.parts;
  cells = s.memory.cells;
  state80 = s.state80;
  state86 = s.state86;
  dma = s.dma;
  dialogue = d;
  replies = r;
}

-- parts are registers and flags alone
pub parts_on : (o : Place → Option ℕ) (t t' : State80) (u u' : State86) → t'.regs ≡ t.regs → t'.flags ≡ t.flags → u'.regs ≡ u.regs → u'.flags ≡ u.flags → (q : Part) → StandsIn o t u q → StandsIn o t' u' q
parts_on o t t' u u' e f g h q s = by_part q s
  where
    by_part : (q : Part) → StandsIn o t u q → StandsIn o t' u' q
    by_part A s = rw (e, g) s
    by_part B s = rw (e, g) s
    by_part C s = rw (e, g) s
    by_part D s = rw (e, g) s
    by_part E s = rw (e, g) s
    by_part H s = rw (e, g) s
    by_part L s = rw (e, g) s
    by_part S s = rw (f, h) s
    by_part Z s = rw (f, h) s
    by_part Ac s = rw (f, h) s
    by_part P s = rw (f, h) s
    by_part Cy s = rw (f, h) s

-- the two halves of a place's offset
pub halves_place : (offset : Label → Option ℕ) (q : Place) (h l : ℕ) → h < 256 → l < 256 → Stands (places offset) (Hi q) h → Stands (places offset) (Lo q) l → places offset q ≡ Some (256 * h + l)
halves_place offset q h l hf lf s t = by_offset (places offset q) refl s t
  where
    by_offset : (o : Option ℕ) → places offset q ≡ o → IsHalf (λ n. n / 256) o h → IsHalf (λ n. n % 256) o l → places offset q ≡ Some (256 * h + l)
    by_offset None e s t = absurd s
    by_offset (Some n) e s t = let whole : n ≡ 256 * h + l = omega (arith, s, t) in e ∙ ap Some whole

-- a place's cells stand for the halves of its offset
pub place_halves : (offset : Label → Option ℕ) (q : Place) (n : ℕ) → places offset q ≡ Some n → Stands (places offset) (Hi q) (n / 256) × Stands (places offset) (Lo q) (n % 256)
place_halves offset q n e = (subst (λ o. IsHalf (λ n. n / 256) o (n / 256)) (sym e) refl, subst (λ o. IsHalf (λ n. n % 256) o (n % 256)) (sym e) refl)

-- The word that a return loads is the next one: no term of what was loaded before names it.

get_none : {X : Type 0} → (xs : List X) → slice_get xs (length xs) ≡ None
get_none [] = refl
get_none (x ∷ xs) = get_none xs

pub as_many : (o : Place → Option ℕ) (xs : List Load80) (ys : List Load86) → LoadsStand o xs ys → length ys ≡ length xs
as_many o [] [] h = refl
as_many o (LoadedByte c ∷ xs) (LoadedByte86 n ∷ ys) h = ap suc (as_many o xs ys h.1)
as_many o (LoadedWord c d ∷ xs) (LoadedWord86 n ∷ ys) h = ap suc (as_many o xs ys h.1)
as_many o [] (y ∷ ys) h = absurd h
as_many o (LoadedByte c ∷ xs) [] h = absurd h
as_many o (LoadedByte c ∷ xs) (LoadedWord86 n ∷ ys) h = absurd h
as_many o (LoadedWord c d ∷ xs) [] h = absurd h
as_many o (LoadedWord c d ∷ xs) (LoadedByte86 n ∷ ys) h = absurd h

known_is : (s t : Term) → same_known s t ≡ true → s ≡ t
known_is s t h = same_term-true s t (and_parts (same_term s t) (not (has_unknown s)) h).0

-- of the 8080, the high half of a place
agrees_next : (e : Env80) (h : Term) (q : Place) (n : ℕ) → agrees h (High (Loaded16 n)) ≡ true → Val80 e h (Byte (Hi q)) → h ≡ High (Loaded16 n)
agrees_next e Unknown q n a v = let differ : Some v.0 ≡ None = v.1 in absurd (cc)
agrees_next e (Join x y) q n a v = absurd v
agrees_next e (FlagByte s z ac p cy) q n a v = absurd (cc)
agrees_next e h q n a v = known_is h (High (Loaded16 n)) a

pub not_next80 : (e : Env80) (h : Term) (q : Place) (n : ℕ) → n ≡ length e.loads → agrees h (High (Loaded16 n)) ≡ true → Val80 e h (Byte (Hi q)) → ⊥
not_next80 e h q n is a v =
    let w : Val80 e (High (Loaded16 n)) (Byte (Hi q)) = subst (λ z. Val80 e z (Byte (Hi q))) (agrees_next e h q n a v) v in
    let none : slice_get e.loads n ≡ None = ap (slice_get e.loads) is ∙ get_none e.loads in
    let differ : None ≡ Some (LoadedWord (Hi q) w.0) = sym none ∙ w.1 in
    absurd (cc)

pub not_next86 : (d : Env86) (x : Term) (b n : ℕ) → n ≡ length d.loads → agrees (High (Loaded16 n)) x ≡ true → Val86 d x (Number b) → ⊥
not_next86 d x b n is a v =
    let w : Val86 d (High (Loaded16 n)) (Number b) = subst (λ z. Val86 d z (Number b)) (sym (known_is (High (Loaded16 n)) x a)) v in
    let none : slice_get d.loads n ≡ None = ap (slice_get d.loads) is ∙ get_none d.loads in
    let differ : None ≡ Some (LoadedWord86 w.0) = sym none ∙ w.1 in
    absurd (cc)
