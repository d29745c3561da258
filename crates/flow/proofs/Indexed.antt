-- The blocks of a program by their place in the list of them, as one comes to them who goes from leader to leader.
use Rattle.std.proofs.Common.{◌≡◌, ◌∙◌, ℕ, suc, ◌+◌, ◌<◌, ◌≤◌, List, ◌∷◌, length, get_or, sym, ap, subst, arith}
use Rattle.std.specs.Prelude.{drop}
use Rattle.std.proofs.Math.Seq.{drop-cons}
use Rattle.std.proofs.lemmas.List.{get_or-map, get_or_default, length-map}
use Rattle.asm80_types.specs.Program.{Program}
use Rattle.flow.specs.Blocks.{blocks, leaders, IsBlockOf}

-- so many blocks stand before it
pub record IsBlockAt (p : Program) (i leader count : ℕ) : Type 0 where
  pub rest : drop i (blocks p) ≡ (leader, count) ∷ drop (i + 1) (blocks p)
  pub block : IsBlockOf p leader count

next_is : (i : ℕ) → suc i ≡ i + 1
next_is i = omega arith

leaders_count : (p : Program) → length (leaders p) ≡ length (blocks p)
leaders_count p = length-map (blocks p) (λ (b : ℕ × ℕ). b.0)

-- the block of a leader
block_of : (p : Program) (i d : ℕ) → i < length (leaders p) → (count : ℕ) × IsBlockAt p i (get_or (leaders p) i d) count
block_of p i d lt =
    let within : i < length (blocks p) = subst (λ n. i < n) (leaders_count p) lt in
    let b = get_or (blocks p) i (0, 0) in
    let leader : get_or (leaders p) i d ≡ b.0 = get_or-map (λ (b : ℕ × ℕ). b.0) (blocks p) i (0, 0) d within in
    let pair : ◌≡◌ {A = ℕ × ℕ} (get_or (leaders p) i d, b.1) b = λ j. (leader j, b.1) in (
      b.1,
      record {
        rest = drop-cons (blocks p) i (0, 0) within ∙ ((λ j. sym pair j ∷ drop (suc i) (blocks p)) ∙ ap (λ n. (get_or (leaders p) i d, b.1) ∷ drop n (blocks p)) (next_is i));
        block = (i, within, get_or_default (blocks p) i (get_or (leaders p) i d, b.1) (0, 0) within ∙ sym pair);
      },
    )

-- the block of an element of a list that is that of the leaders
pub block_at_index : (p : Program) (ls : List ℕ) (i d : ℕ) → ls ≡ leaders p → i < length ls → (count : ℕ) × IsBlockAt p i (get_or ls i d) count
block_at_index p ls i d e lt = block_in ls (sym e) lt
  where
    block_in : (ls : List ℕ) → leaders p ≡ ls → i < length ls → (count : ℕ) × IsBlockAt p i (get_or ls i d) count
    block_in ls e = subst (λ l. i < length l → (count : ℕ) × IsBlockAt p i (get_or l i d) count) e (block_of p i d)

pub all_passed : (p : Program) (ls : List ℕ) (i : ℕ) → ls ≡ leaders p → length ls ≤ i → length (blocks p) ≤ i
all_passed p ls i e le = let count = leaders_count p in let same = ap length e in omega (arith, count, same, le)
