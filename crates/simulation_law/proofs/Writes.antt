-- What a reply writes, on both machines: blocks within memory, at cells that the call may write.
use Rattle.std.proofs.Common.{◌≡◌, ◌≢◌, ℕ, ◌+◌, ◌≤◌, ◌<◌, ◌==◌, Bool, true, false, cond, List, [], ◌∷◌, length, Option, refl, sym, ap, subst, ◌∙◌, arith}
use Rattle.std.specs.Prelude.{All}
use Rattle.std.proofs.lemmas.List.Elements.{All-head, All-tail}
use Rattle.cells.specs.declared.Place.{Place}
use Rattle.cells.specs.declared.Cell.{Cell}
use Rattle.cells.specs.declared.Cell.TheVariants.{Num}
use Rattle.dialogue.specs.declared.blocks.Block.{Block}
use Rattle.dialogue.proofs.Within.{AreWithin}
use Rattle.dialogue.specs.ByteMemory.{put, put_bytes, put_blocks}
use Rattle.dialogue.specs.Words.{wrap}
use Rattle.asm80_types.specs.Program.{Program}
use Rattle.cpu80_tagged.specs.Memory.{put as put80}
use Rattle.cpu80_tagged.specs.Call.{put_bytes as put_bytes80, put_blocks as put_blocks80}
use Rattle.simulation_def.specs.States.{IsCell}
use Rattle.sym_sound.proofs.Machine86.Words.{eq_false}
use Rattle.simulation_law.specs.Replayed.{MemoryStands}
use Rattle.simulation_law.proofs.Replaying.{put_stands}
use Rattle.simulation_law.specs.Linking.{BlocksAreBytes}

-- what blocks do not reach

not_both : (b : Bool) → b ≡ true → b ≡ false → ⊥
not_both true e h = absurd (cc)
not_both false e h = absurd (cc)

bytes_past86 : (m : ℕ → ℕ) (at : ℕ) (bs : List ℕ) (a : ℕ) → at + length bs ≤ 0x10000 → ((k : ℕ) → at ≤ k → k < at + length bs → k ≢ a) → put_bytes m at bs a ≡ m a
bytes_past86 m at [] a le h = refl
bytes_past86 m at (b ∷ []) a le h = ap (λ t. cond t b (m a)) (eq_false a at (λ e. h at (omega arith) (omega arith) (sym e)))
bytes_past86 m at (b ∷ (c ∷ bs)) a le h =
    let next : wrap (at + 1) ≡ at + 1 = omega (arith, le) in
    ap (λ n. put_bytes (put m at b) n (c ∷ bs) a) next
    ∙ bytes_past86 (put m at b) (at + 1) (c ∷ bs) a (omega (arith, le)) (λ k low high. h k (omega (arith, low)) (omega (arith, high)))
    ∙ ap (λ t. cond t b (m a)) (eq_false a at (λ e. h at (omega arith) (omega arith) (sym e)))

pub blocks_past86 : (passes : ℕ → Bool) (m : ℕ → ℕ) (bs : List Block) (a : ℕ) → AreWithin passes bs → passes a ≡ false → put_blocks m bs a ≡ m a
blocks_past86 passes m [] a w h = refl
blocks_past86 passes m (b ∷ bs) a w h =
    blocks_past86 passes (put_bytes m b.at b.bytes) bs a w.2 h
    ∙ bytes_past86 m b.at b.bytes a w.0 (λ k low high e. not_both (passes a) (subst (λ n. passes n ≡ true) e (w.1 k low high)) h)

-- a cell depends on that cell before alone
bytes_same80 : (m n : ℕ → Cell) (at : ℕ) (bs : List ℕ) (a : ℕ) → m a ≡ n a → put_bytes80 m at bs a ≡ put_bytes80 n at bs a
bytes_same80 m n at [] a h = h
bytes_same80 m n at (b ∷ bs) a h = bytes_same80 (put80 m at (Num b)) (put80 n at (Num b)) (at + 1) bs a (ap (λ v. cond (a == at) (Num b) v) h)

pub blocks_same80 : (m n : ℕ → Cell) (bs : List Block) (a : ℕ) → m a ≡ n a → put_blocks80 m bs a ≡ put_blocks80 n bs a
blocks_same80 m n [] a h = h
blocks_same80 m n (b ∷ bs) a h = blocks_same80 (put_bytes80 m b.at b.bytes) (put_bytes80 n b.at b.bytes) bs a (bytes_same80 m n b.at b.bytes a h)

module _ (p : Program) (offset : Place → Option ℕ) where
  bytes_stand : (m : ℕ → Cell) (n : ℕ → ℕ) (at : ℕ) (bs : List ℕ) → at + length bs ≤ 0x10000 → All (λ n. n < 256) bs → MemoryStands p offset m n → MemoryStands p offset (put_bytes80 m at bs) (put_bytes n at bs)
  bytes_stand m n at [] le all h = h
  bytes_stand m n at (b ∷ []) le all h = put_stands p offset m n at (Num b) b h refl (All-head (λ n. n < 256) b [] all)
  bytes_stand m n at (b ∷ (c ∷ bs)) le all h =
      let next : wrap (at + 1) ≡ at + 1 = omega (arith, le) in
      subst (λ k. MemoryStands p offset (put_bytes80 (put80 m at (Num b)) (at + 1) (c ∷ bs)) (put_bytes (put n at b) k (c ∷ bs))) (sym next)
      (bytes_stand (put80 m at (Num b)) (put n at b) (at + 1) (c ∷ bs) (omega (arith, le)) (All-tail (λ n. n < 256) b (c ∷ bs) all) (put_stands p offset m n at (Num b) b h refl (All-head (λ n. n < 256) b (c ∷ bs) all)))

  pub blocks_stand : (passes : ℕ → Bool) (m : ℕ → Cell) (n : ℕ → ℕ) (bs : List Block) → AreWithin passes bs → BlocksAreBytes bs → MemoryStands p offset m n → MemoryStands p offset (put_blocks80 m bs) (put_blocks n bs)
  blocks_stand passes m n [] w y h = h
  blocks_stand passes m n (b ∷ bs) w y h = blocks_stand passes (put_bytes80 m b.at b.bytes) (put_bytes n b.at b.bytes) bs w.2 y.1 (bytes_stand m n b.at b.bytes w.0 y.0 h)

-- what cells hold
module _ (p : Program) where
  bytes_cells : (m : ℕ → Cell) (at : ℕ) (bs : List ℕ) (a : ℕ) → All (λ n. n < 256) bs → IsCell p (m a) → IsCell p (put_bytes80 m at bs a)
  bytes_cells m at [] a all h = h
  bytes_cells m at (b ∷ bs) a all h = bytes_cells (put80 m at (Num b)) (at + 1) bs a (All-tail (λ n. n < 256) b bs all) (by_place (a == at))
    where
      by_place : (k : Bool) → IsCell p (cond k (Num b) (m a))
      by_place true = All-head (λ n. n < 256) b bs all
      by_place false = h

  pub blocks_cells : (m : ℕ → Cell) (bs : List Block) (a : ℕ) → BlocksAreBytes bs → IsCell p (m a) → IsCell p (put_blocks80 m bs a)
  blocks_cells m [] a y h = h
  blocks_cells m (b ∷ bs) a y h = blocks_cells (put_bytes80 m b.at b.bytes) bs a y.1 (bytes_cells m b.at b.bytes a y.0 h)
