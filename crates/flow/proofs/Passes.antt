-- One pass over the instructions finds the blocks.
use Rattle.std.proofs.Common.{◌≡◌, ℕ, suc, ◌+◌, Bool, true, false, cond, ◌||◌, List, [], ◌∷◌, ◌++◌, length, map, refl, sym, ap, ◌∙◌, zero-add, add-one, arith}
use Rattle.std.specs.Prelude.{◌==◌}
use Rattle.asm80_types.specs.declared.program.Placed.{Placed}
use Rattle.asm80_types.specs.Program.{Program}
use Rattle.flow.specs.Blocks.{is_cut, onto, cut_from, leader_of, extent}
use Rattle.flow.specs.Cut.{closed, blocks_from}

-- the blocks, the first of which has begun earlier
abbrev grown : ℕ → ℕ → List (ℕ × ℕ) → List (ℕ × ℕ)
grown leader more [] = []
grown leader more (b ∷ bs) = (leader, more + b.1) ∷ bs

abbrev extents : List (List Placed) → List (ℕ × ℕ)
extents bs = map extent bs

-- the leader of the first block is that of the first instruction
abbrev LedBy : ℕ → List (List Placed) → Type 0
LedBy a [] = Unit {0}
LedBy a (b ∷ bs) = leader_of b ≡ a

led-onto : (x : Placed) (bs : List (List Placed)) → LedBy x.at (onto x bs)
led-onto x [] = refl
led-onto x (b ∷ bs) = refl

led_step : (t : Bool) (x : Placed) (bs cs : List (List Placed)) → LedBy x.at (cond t ((x ∷ []) ∷ bs) (onto x cs))
led_step true x bs cs = refl
led_step false x bs cs = led-onto x cs

led_cut : (p : Program) (before : ℕ) (x : Placed) (xs : List Placed) → LedBy x.at (cut_from p before (x ∷ xs))
led_cut p before x [] = refl
led_cut p before x (y ∷ ys) = led_step (is_cut p x y || (suc before == 16)) x (cut_from p 0 (y ∷ ys)) (cut_from p (suc before) (y ∷ ys))

-- there is a first block
abbrev BeginsAny : List (List Placed) → Type 0
BeginsAny [] = ⊥
BeginsAny (b ∷ bs) = Unit {0}

any-onto : (x : Placed) (bs : List (List Placed)) → BeginsAny (onto x bs)
any-onto x [] = tt
any-onto x (b ∷ bs) = tt

any_step : (t : Bool) (x : Placed) (bs cs : List (List Placed)) → BeginsAny (cond t ((x ∷ []) ∷ bs) (onto x cs))
any_step true x bs cs = tt
any_step false x bs cs = any-onto x cs

any_cut : (p : Program) (before : ℕ) (x : Placed) (xs : List Placed) → BeginsAny (cut_from p before (x ∷ xs))
any_cut p before x [] = tt
any_cut p before x (y ∷ ys) = any_step (is_cut p x y || (suc before == 16)) x (cut_from p 0 (y ∷ ys)) (cut_from p (suc before) (y ∷ ys))

grown-zero : (a : ℕ) (bs : List (List Placed)) → LedBy a bs → grown a 0 (extents bs) ≡ extents bs
grown-zero a [] led = refl
grown-zero a (b ∷ bs) led = ap (λ n. (a, n) ∷ extents bs) (zero-add (length b)) ∙ ap (λ l. (l, length b) ∷ extents bs) (sym led)

-- an instruction that joins the block
grown-onto : (leader more : ℕ) (x y : Placed) (bs : List (List Placed)) → BeginsAny bs → grown leader (suc more) (extents bs) ≡ grown leader more (extents (onto x bs))
grown-onto leader more x y [] any = absurd any
grown-onto leader more x y (b ∷ bs) any = ap (λ n. (leader, n) ∷ extents bs) (omega arith)

pass_step : (t : Bool) (leader more : ℕ) (x y : Placed) (bs cs : List (List Placed)) (from : ℕ → ℕ → List (ℕ × ℕ)) → from y.at 1 ≡ extents bs → from leader (suc more + 1) ≡ grown leader (suc more) (extents cs) → BeginsAny cs → closed t leader (suc more) ++ from (cond t y.at leader) (cond t 1 (suc more + 1)) ≡ grown leader more (extents (cond t ((x ∷ []) ∷ bs) (onto x cs)))
pass_step true leader more x y bs cs from new old any = ap (λ bs'. (leader, suc more) ∷ bs') new ∙ ap (λ n. (leader, n) ∷ extents bs) (omega arith)
pass_step false leader more x y bs cs from new old any = old ∙ grown-onto leader more x y cs any

pub pass : (p : Program) (leader more : ℕ) (x : Placed) (xs : List Placed) → blocks_from p leader (suc more) x xs ≡ grown leader more (extents (cut_from p more (x ∷ xs)))
pass p leader more x [] = ap (λ n. (leader, n) ∷ []) (omega arith)
pass p leader more x (y ∷ ys) =
    pass_step (is_cut p x y || (suc more == 16)) leader more x y (cut_from p 0 (y ∷ ys)) (cut_from p (suc more) (y ∷ ys)) (λ l c. blocks_from p l c y ys)
    (pass p y.at 0 y ys ∙ grown-zero y.at (cut_from p 0 (y ∷ ys)) (led_cut p 0 y ys))
    (ap (λ c. blocks_from p leader c y ys) (add-one (suc more)) ∙ pass p leader (suc more) y ys)
    (any_cut p (suc more) y ys)

-- the pass from the first instruction on
pub pass_all : (p : Program) (x : Placed) (xs : List Placed) → blocks_from p x.at 1 x xs ≡ extents (cut_from p 0 (x ∷ xs))
pass_all p x xs = pass p x.at 0 x xs ∙ grown-zero x.at (cut_from p 0 (x ∷ xs)) (led_cut p 0 x xs)
