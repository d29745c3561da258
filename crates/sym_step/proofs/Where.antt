-- Exits by a condition, and the exit of an instruction that goes on to the next one.
use Rattle.std.proofs.Common.{◌≡◌, ◌∙◌, ◌⊎◌, ℕ, Bool, Some, inl, inr, refl, ap, sym, arith}
use Rattle.cells.specs.declared.Cond.{Cond}
use Rattle.cells.specs.declared.Cond.TheVariants.{Nz, Z, Nc, C as Carry, Po, Pe, P as Plus, M as Minus}
use Rattle.i80.specs.declared.Goal.{Goal}
use Rattle.i80.specs.declared.Instr80.{Instr80}
use Rattle.i80.specs.declared.Instr80.TheVariants.{Pchl, Jmp, Jif, Call, Cif, Ret, Rif, Rst0, In, Out}
use Rattle.asm80_types.specs.Program.{Program}
use Rattle.xlt_pool.specs.Contents.{Contents}
use Rattle.sym_terms.specs.declared.head.Term.{Term as TermId}
use Rattle.sym_terms.specs.Trees.{StandsFor, PoolGrows, AreTerms}
use Rattle.sym_terms.proofs.Interning.{still, more}
use Rattle.sym_block_def.specs.Outcome.{Way, One, Two}
use Rattle.sym_block_def.specs.Block80.{Symbolic80, goto, jump, call, return_by, flag_term, wanted, exit80}
use Rattle.sym_micro.specs.declared.outcome.Held.{Held as HeldIds}
use Rattle.sym_micro.specs.declared.outcome.Way.{Way as WayIds}
use Rattle.sym_micro.specs.declared.outcome.Exit.TheVariants.{Two as TwoIds}
use Rattle.sym_micro.specs.Stands.{trees_of_held, HeldIsGiven}
use Rattle.sym_micro.specs.Exits.{WayIs, FindsWay, FindsExit}
use Rattle.sym_micro.proofs.Found.{two_by}
use Rattle.sym_step.specs.Ways.{flag_id, taken80}

flag_stands : (pool : Contents) (h : HeldIds) (c : Cond) → HeldIsGiven pool h → StandsFor pool (flag_id h c) (flag_term (trees_of_held pool h) c)
flag_stands pool h Nz g = (g.z, refl)
flag_stands pool h Z g = (g.z, refl)
flag_stands pool h Nc g = (g.cy, refl)
flag_stands pool h Carry g = (g.cy, refl)
flag_stands pool h Po g = (g.p, refl)
flag_stands pool h Pe g = (g.p, refl)
flag_stands pool h Plus g = (g.s, refl)
flag_stands pool h Minus g = (g.s, refl)

pub where_is : (old new : Contents) (n : ℕ) (h : HeldIds) (c : Cond) (f : TermId) (value : Bool) (a b : WayIds) (v w : Way) → PoolGrows old new n → AreTerms new → HeldIsGiven old h → f ≡ flag_id h c → value ≡ wanted c → WayIs new v a → WayIs new w b
    → FindsExit old new n (Two (flag_term (trees_of_held old h) c) (wanted c) v w) (Some (TwoIds f value a b))
where_is old new n h c f value a b v w g terms given ef ev p q =
    two_by old new n f (flag_id h c) (flag_term (trees_of_held old h) c) value (wanted c) a b v w g terms (flag_stands old h c given) ef ev p q

-- a way for which no node joins
pub way_found : (pool : Contents) (n : ℕ) (tree : Way) (way : WayIds) → AreTerms pool → WayIs pool tree way → FindsWay pool pool n tree (Some way)
way_found pool n tree way terms w = record { grows = more pool pool 0 n (omega arith) (still pool); terms = terms; gives = w; enough = λ _. refl }

-- with a condition and without one
pub by_jump : (p : Program) (a : ℕ) (s : Symbolic80) (i : Instr80) (t : Goal) → (i ≡ Jmp t) ⊎ ((c : Cond) × (i ≡ Jif c t)) → jump p t ≡ taken80 p a s i
by_jump p a s i t (inl e) = ap (taken80 p a s) (sym e)
by_jump p a s i t (inr e) = ap (taken80 p a s) (sym e.1)

pub by_call : (p : Program) (a : ℕ) (s : Symbolic80) (i : Instr80) (t : Goal) → (i ≡ Call t) ⊎ ((c : Cond) × (i ≡ Cif c t)) → call p a t ≡ taken80 p a s i
by_call p a s i t (inl e) = ap (taken80 p a s) (sym e)
by_call p a s i t (inr e) = ap (taken80 p a s) (sym e.1)

pub by_return : (p : Program) (a : ℕ) (s : Symbolic80) (i : Instr80) → (i ≡ Ret) ⊎ ((c : Cond) × (i ≡ Rif c)) → return_by s ≡ taken80 p a s i
by_return p a s i (inl e) = ap (taken80 p a s) (sym e)
by_return p a s i (inr e) = ap (taken80 p a s) (sym e.1)

pub two_ways : (p : Program) (a : ℕ) (s : Symbolic80) (i : Instr80) (c : Cond) → ((t : Goal) × (i ≡ Jif c t)) ⊎ (((t : Goal) × (i ≡ Cif c t)) ⊎ (i ≡ Rif c)) → Two (flag_term s.held c) (wanted c) (taken80 p a s i) (goto p a) ≡ exit80 p a s i
two_ways p a s i c (inl e) = ap (λ j. Two (flag_term s.held c) (wanted c) (taken80 p a s j) (goto p a)) e.1 ∙ ap (exit80 p a s) (sym e.1)
two_ways p a s i c (inr (inl e)) = ap (λ j. Two (flag_term s.held c) (wanted c) (taken80 p a s j) (goto p a)) e.1 ∙ ap (exit80 p a s) (sym e.1)
two_ways p a s i c (inr (inr e)) = ap (λ j. Two (flag_term s.held c) (wanted c) (taken80 p a s j) (goto p a)) e ∙ ap (exit80 p a s) (sym e)

-- what has no condition
pub one_way : (p : Program) (a : ℕ) (s : Symbolic80) (i : Instr80) → ((c : Cond) (t : Goal) → i ≡ Jif c t → ⊥) → ((c : Cond) (t : Goal) → i ≡ Cif c t → ⊥) → ((c : Cond) → i ≡ Rif c → ⊥)
    → One (taken80 p a s i) ≡ exit80 p a s i
one_way p a s (Jif c t) h1 h2 h3 = absurd (h1 c t refl)
one_way p a s (Cif c t) h1 h2 h3 = absurd (h2 c t refl)
one_way p a s (Rif c) h1 h2 h3 = absurd (h3 c refl)
one_way p a s i h1 h2 h3 = refl

-- what none of the others is goes on
pub goes_straight : (p : Program) (a : ℕ) (s : Symbolic80) (i : Instr80) → (i ≡ Pchl → ⊥) → ((t : Goal) → i ≡ Jmp t → ⊥) → ((c : Cond) (t : Goal) → i ≡ Jif c t → ⊥) → ((t : Goal) → i ≡ Call t → ⊥) → ((c : Cond) (t : Goal) → i ≡ Cif c t → ⊥) → (i ≡ Ret → ⊥) → ((c : Cond) → i ≡ Rif c → ⊥) → (i ≡ Rst0 → ⊥) → ((n : ℕ) → i ≡ In n → ⊥) → ((n : ℕ) → i ≡ Out n → ⊥)
    → goto p a ≡ taken80 p a s i
goes_straight p a s Pchl h1 h2 h3 h4 h5 h6 h7 h8 h9 h10 = absurd (h1 refl)
goes_straight p a s (Jmp t) h1 h2 h3 h4 h5 h6 h7 h8 h9 h10 = absurd (h2 t refl)
goes_straight p a s (Jif c t) h1 h2 h3 h4 h5 h6 h7 h8 h9 h10 = absurd (h3 c t refl)
goes_straight p a s (Call t) h1 h2 h3 h4 h5 h6 h7 h8 h9 h10 = absurd (h4 t refl)
goes_straight p a s (Cif c t) h1 h2 h3 h4 h5 h6 h7 h8 h9 h10 = absurd (h5 c t refl)
goes_straight p a s Ret h1 h2 h3 h4 h5 h6 h7 h8 h9 h10 = absurd (h6 refl)
goes_straight p a s (Rif c) h1 h2 h3 h4 h5 h6 h7 h8 h9 h10 = absurd (h7 c refl)
goes_straight p a s Rst0 h1 h2 h3 h4 h5 h6 h7 h8 h9 h10 = absurd (h8 refl)
goes_straight p a s (In n) h1 h2 h3 h4 h5 h6 h7 h8 h9 h10 = absurd (h9 n refl)
goes_straight p a s (Out n) h1 h2 h3 h4 h5 h6 h7 h8 h9 h10 = absurd (h10 n refl)
goes_straight p a s i h1 h2 h3 h4 h5 h6 h7 h8 h9 h10 = refl
