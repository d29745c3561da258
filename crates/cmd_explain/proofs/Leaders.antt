-- The block of a leader, and the instructions at both its ends.
use Rattle.std.proofs.Common.{◌≡◌, ◌∙◌, ℕ, ◌-◌, ◌<◌, true, Option, Some, ap, subst, sym, arith}
use Rattle.std.specs.Option.{unwrap_or}
use Rattle.asm80_types.specs.Program.{Program, is_start}
use Rattle.asm80_types.proofs.Lookup.{start_is}
use Rattle.flow.specs.Blocks.{IsBlockOf, IsLeader, block_at, place_after, BlocksCut}
use Rattle.flow.proofs.Further.{instr_behind}

-- the block that was found for a leader
pub block_found : (p q : Program) → BlocksCut p → q ≡ p → (a : ℕ) → IsLeader p a → (found : Option ℕ) (count : ℕ) → found ≡ block_at q a → count ≡ unwrap_or found 0 → (block_at p a ≡ Some count) × IsBlockOf p a count
block_found p q cut same a leader found count f c =
    let b = cut.has_block a leader in
    let here : block_at p a ≡ Some b.0 = cut.found a b.0 b.1 in
    let is : count ≡ b.0 = c ∙ ap (λ o. unwrap_or o 0) (f ∙ ap (λ r. block_at r a) same ∙ here) in
    (here ∙ ap Some (sym is), subst (IsBlockOf p a) (sym is) b.1)

-- an instruction starts after so many of a block
start_within : (p : Program) (a n k : ℕ) → BlocksCut p → IsBlockOf p a n → k < n → is_start p (place_after p a k) ≡ true
start_within p a n k cut b lt = let i = instr_behind p a n k (cut.straight a n b) lt in start_is p (place_after p a k) i.0 i.1

pub first_starts : (p : Program) (a n : ℕ) → BlocksCut p → IsBlockOf p a n → is_start p a ≡ true
first_starts p a n cut b = let some = (cut.sizes a n b).0 in start_within p a n 0 cut b (omega (arith, some))

pub last_starts : (p : Program) (a n : ℕ) → BlocksCut p → IsBlockOf p a n → is_start p (place_after p a (n - 1)) ≡ true
last_starts p a n cut b = let some = (cut.sizes a n b).0 in start_within p a n (n - 1) cut b (omega (arith, some))

pub same_count : (o : Option ℕ) (n m : ℕ) → o ≡ Some n → o ≡ Some m → n ≡ m
same_count o n m e f = cc
