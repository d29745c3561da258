-- The walk from line to line, where no line ends it.
use Rattle.std.proofs.Common.{◌≡◌, ℕ, suc, ◌+◌, ◌≤◌, Bool, true, false, cond, List, [], ◌∷◌, ◌++◌, map, ap, ap₂, ◌∙◌, arith}
use Rattle.asm80_source_def.specs.Names.{Name}
use Rattle.asm80_source_def.specs.Walk.{Walk, WalkRow, ends, walk_after, size_of_statement, rows_from, walk_after_all}
use Rattle.cmd_sample.specs.Written.{Written, statement_at, statements_from}

-- where the walk is between two lines: no IF is open
abbrev pub walk_at : ℕ → List Name → Walk
walk_at at names = record { at = at; names = names; ifs = [] }

-- a line, with its address, its bytes, and the names before it
pub record Spot : Type 0 where
  pub at : ℕ
  pub size : ℕ
  pub names : List Name
  pub line : Written

abbrev pub spot : ℕ → ℕ → List Name → Written → Spot
spot at size names line = record { at = at; size = size; names = names; line = line }

abbrev pub walk_of : Spot → Walk
walk_of x = walk_at x.at x.names

abbrev pub row_of : ℕ → Spot → WalkRow
row_of l x = record { statement = statement_at l x.line; before = walk_of x }

-- lines from number l on
abbrev pub rows_of : ℕ → List Spot → List WalkRow
rows_of l [] = []
rows_of l (x ∷ xs) = row_of l x ∷ rows_of (suc l) xs

abbrev pub lines_of : List Spot → List Written
lines_of xs = map (λ (x : Spot). x.line) xs

-- the line goes on to the next place, behind its bytes, whatever its number
pub record Leads (x : Spot) (v : Walk) : Type 0 where
  pub goes_on : (l : ℕ) → ends (walk_of x) (statement_at l x.line) ≡ false
  pub leads : (l : ℕ) → walk_after (walk_of x) (statement_at l x.line) ≡ v
  pub size : (l : ℕ) → size_of_statement (statement_at l x.line) ≡ x.size
  pub next : x.at + x.size ≡ v.at

-- lines one after the other, from a place of the walk to another
pub data Goes : Walk → List Spot → Walk → Type 0 where
  stays : {w : Walk} → Goes w [] w
  steps : {x : Spot} {xs : List Spot} {v u : Walk} → Leads x v → Goes v xs u → Goes (walk_of x) (x ∷ xs) u

pub joined : {w v u : Walk} {xs ys : List Spot} → Goes w xs v → Goes v ys u → Goes w (xs ++ ys) u
joined stays h = h
joined (steps x g) h = steps x (joined g h)

pub grows : {w u : Walk} {xs : List Spot} → Goes w xs u → w.at ≤ u.at
grows stays = omega arith
grows (steps x g) = omega (arith, x.next, grows g)

-- the last line ends the walk
pub record Ends (z : Spot) (v : Walk) : Type 0 where
  pub ends : (l : ℕ) → ends (walk_of z) (statement_at l z.line) ≡ true
  pub leads : (l : ℕ) → walk_after (walk_of z) (statement_at l z.line) ≡ v

pub rows_along : (z : Spot) (v : Walk) {w : Walk} {xs : List Spot} → Ends z v → Goes w xs (walk_of z) → (l : ℕ) → rows_from w (statements_from l (lines_of (xs ++ z ∷ []))) ≡ rows_of l (xs ++ z ∷ [])
rows_along z v last stays l = ap (λ b. row_of l z ∷ cond b [] []) (last.ends l)
rows_along z v last (steps {x} {xs} x_leads g) l =
    ap₂ (λ (b : Bool) (y : Walk). row_of l x ∷ cond b [] (rows_from y (statements_from (suc l) (lines_of (xs ++ z ∷ []))))) (x_leads.goes_on l) (x_leads.leads l)
    ∙ ap (λ (rs : List WalkRow). row_of l x ∷ rs) (rows_along z v last g (suc l))

pub walk_along : (z : Spot) (v : Walk) {w : Walk} {xs : List Spot} → Ends z v → Goes w xs (walk_of z) → (l : ℕ) → walk_after_all w (statements_from l (lines_of (xs ++ z ∷ []))) ≡ v
walk_along z v last stays l = ap₂ (λ (b : Bool) (y : Walk). cond b y y) (last.ends l) (last.leads l)
walk_along z v last (steps {x} {xs} x_leads g) l =
    ap₂ (λ (b : Bool) (y : Walk). cond b y (walk_after_all y (statements_from (suc l) (lines_of (xs ++ z ∷ []))))) (x_leads.goes_on l) (x_leads.leads l)
    ∙ walk_along z v last g (suc l)
