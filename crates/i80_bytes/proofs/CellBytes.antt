-- The cells of a program: what is in an instruction's, and that no data cell is one of them.
use Rattle.std.proofs.Common.{◌≡◌, ℕ, ◌+◌, ◌-◌, ◌<◌, ◌≤◌, ◌==◌, Bool, true, false, cond, List, [], ◌∷◌, Some, None, refl, sym, ap, subst, ◌∙◌, arith}
use Rattle.std.specs.Prelude.{◌||◌, slice_index}
use Rattle.std.proofs.lemmas.Bool.{or_parts, or_left, or_right, eqb-true}
use Rattle.std.proofs.lemmas.Bool.Decides.{nat_tests}
use Rattle.cells.specs.declared.Cell.{Cell}
use Rattle.i80.specs.Columns.{length80}
use Rattle.i80_bytes.specs.Enc80.{enc80}
use Rattle.asm80_types.specs.declared.program.Placed.{Placed}
use Rattle.asm80_types.specs.Program.{placed_in, covers, is_covered, cell_in, AreLaid, CellsAreLaid}
use Rattle.asm80_types.proofs.Lookup.{length80-positive, placed_above}
use Rattle.i80_bytes.specs.Cells.{code_byte}

placed_same : (y x : Placed) → Some y ≡ Some x → y ≡ x
placed_same y x e = cc

-- an instruction that is found starts where those of the list may
covers_own : (x : Placed) (a k : ℕ) → x.at ≡ a → k < length80 x.instr → covers x (a + k) ≡ true
covers_own x a k same lt = grind (arith, nat_tests)

covers_none_past : (x : Placed) (a : ℕ) → x.at + length80 x.instr ≤ a → covers x a ≡ false
covers_none_past x a le = grind (arith, nat_tests)

-- the cells of an instruction are of code
pub placed_covered : (xs : List Placed) (a k : ℕ) (x : Placed) → placed_in xs a ≡ Some x → k < length80 x.instr → is_covered xs (a + k) ≡ true
placed_covered [] a k x e lt = absurd (cc)
placed_covered (y ∷ ys) a k x e lt = by_place (y.at == a) refl e (λ f. placed_covered ys a k x f lt)
  where
    by_place : (t : Bool) → (y.at == a) ≡ t → cond t (Some y) (placed_in ys a) ≡ Some x → (placed_in ys a ≡ Some x → is_covered ys (a + k) ≡ true) → (covers y (a + k) || is_covered ys (a + k)) ≡ true
    by_place true h f later =
        let same = placed_same y x f in
        or_left (covers y (a + k)) (is_covered ys (a + k)) (covers_own y a k (eqb-true y.at a h) (subst (λ (z : Placed). k < length80 z.instr) (sym same) lt))
    by_place false h f later = or_right (covers y (a + k)) (is_covered ys (a + k)) (later f)

-- they hold its encoding
pub placed_byte : (xs : List Placed) (from limit a k : ℕ) (x : Placed) → AreLaid from limit xs → placed_in xs a ≡ Some x → k < length80 x.instr → code_byte xs (a + k) ≡ Some (slice_index (enc80 x.instr) k)
placed_byte [] from limit a k x l e lt = absurd (cc)
placed_byte (y ∷ ys) from limit a k x l e lt =
    by_place (y.at == a) refl e (λ f. placed_byte ys (y.at + length80 y.instr) limit a k x l.3 f lt)
  where
    by_place : (t : Bool) → (y.at == a) ≡ t → cond t (Some y) (placed_in ys a) ≡ Some x → (placed_in ys a ≡ Some x → code_byte ys (a + k) ≡ Some (slice_index (enc80 x.instr) k)) → code_byte (y ∷ ys) (a + k) ≡ Some (slice_index (enc80 x.instr) k)
    by_place true h f later =
        let same = placed_same y x f in
        let at = eqb-true y.at a h in
        let within : k < length80 y.instr = subst (λ (z : Placed). k < length80 z.instr) (sym same) lt in
        let index : a + k - y.at ≡ k = omega (arith, at) in
        ap (λ t. cond t (Some (slice_index (enc80 y.instr) (a + k - y.at))) (code_byte ys (a + k))) (covers_own y a k at within)
        ∙ ap (λ n. Some (slice_index (enc80 y.instr) n)) index
        ∙ ap (λ (z : Placed). Some (slice_index (enc80 z.instr) k)) same
    by_place false h f later =
        let above = placed_above ys (y.at + length80 y.instr) limit a x l.3 f in
        ap (λ t. cond t (Some (slice_index (enc80 y.instr) (a + k - y.at))) (code_byte ys (a + k))) (covers_none_past y (a + k) (omega (arith, above)))
        ∙ later f

-- a byte of code at an address is one of some instruction's encoding
pub record IsByteOf (xs : List Placed) (a b : ℕ) : Type 0 where
  pub at : ℕ
  pub placed : Placed
  pub found : placed_in xs at ≡ Some placed
  pub index : ℕ
  pub place : at + index ≡ a
  pub within : index < length80 placed.instr
  pub is : slice_index (enc80 placed.instr) index ≡ b

pub code_byte_is : (xs : List Placed) (from limit a b : ℕ) → AreLaid from limit xs → code_byte xs a ≡ Some b → IsByteOf xs a b
code_byte_is [] from limit a b l e = absurd (cc)
code_byte_is (y ∷ ys) from limit a b l e =
    by_cover (covers y a) refl e (code_byte_is ys (y.at + length80 y.instr) limit a b l.3)
  where
    number_same : (m n : ℕ) → Some m ≡ Some n → m ≡ n
    number_same m n e = cc

    first : (y.at == y.at) ≡ true
    first = grind (arith, nat_tests)

    -- one of the rest starts past the first
    not_first : (at : ℕ) (x : Placed) → placed_in ys at ≡ Some x → placed_in (y ∷ ys) at ≡ Some x
    not_first at x f =
        let above = placed_above ys (y.at + length80 y.instr) limit at x l.3 f in
        by_length above
      where
        by_length : y.at + length80 y.instr ≤ at → placed_in (y ∷ ys) at ≡ Some x
        by_length above =
            let some = length80-positive y.instr in
            let differs : (y.at == at) ≡ false = grind (arith, nat_tests) in
            ap (λ t. cond t (Some y) (placed_in ys at)) differs ∙ f

    by_cover : (t : Bool) → covers y a ≡ t → cond t (Some (slice_index (enc80 y.instr) (a - y.at))) (code_byte ys a) ≡ Some b → (code_byte ys a ≡ Some b → IsByteOf ys a b) → IsByteOf (y ∷ ys) a b
    by_cover true c h later = record {
      at = y.at;
      placed = y;
      found = ap (λ t. cond t (Some y) (placed_in ys y.at)) first;
      index = a - y.at;
      place = let low : y.at ≤ a = grind (arith, nat_tests) in omega (arith, low);
      within = let low : y.at ≤ a = grind (arith, nat_tests) in let high : a < y.at + length80 y.instr = grind (arith, nat_tests) in omega (arith, low, high);
      is = number_same (slice_index (enc80 y.instr) (a - y.at)) b h;
    }
    by_cover false c h later =
        let r = later h in
        record { at = r.at; placed = r.placed; found = not_first r.at r.placed r.found; index = r.index; place = r.place; within = r.within; is = r.is }

-- where the cells of code are
pub covered_range : (xs : List Placed) (from limit a : ℕ) → AreLaid from limit xs → is_covered xs a ≡ true → (from ≤ a) × (a < limit)
covered_range [] from limit a l e = absurd (cc)
covered_range (x ∷ xs) from limit a l e =
    by_cover (covers x a) refl e (covered_range xs (x.at + length80 x.instr) limit a l.3)
  where
    by_cover : (t : Bool) → covers x a ≡ t → (t || is_covered xs a) ≡ true → (is_covered xs a ≡ true → (x.at + length80 x.instr ≤ a) × (a < limit)) → (from ≤ a) × (a < limit)
    by_cover true h f later =
        let low : x.at ≤ a = grind (arith, nat_tests) in
        let high : a < x.at + length80 x.instr = grind (arith, nat_tests) in
        (omega (arith, l.0, low), omega (arith, l.1, high))
    by_cover false h f later =
        let r = later f in
        (omega (arith, l.0, r.0), r.1)

-- no code where nothing covers
pub code_byte_none : (xs : List Placed) (a : ℕ) → is_covered xs a ≡ false → code_byte xs a ≡ None
code_byte_none [] a e = refl
code_byte_none (x ∷ xs) a e =
    let both = or_parts (covers x a) (is_covered xs a) e in
    ap (λ t. cond t (Some (slice_index (enc80 x.instr) (a - x.at))) (code_byte xs a)) both.0 ∙ code_byte_none xs a both.1

-- a data cell is none of an instruction, and is below the limit
pub cell_apart : (instrs : List Placed) (cs : List (ℕ × Cell)) (from limit a : ℕ) (v : Cell) → CellsAreLaid instrs from limit cs → cell_in cs a ≡ Some v → (is_covered instrs a ≡ false) × (a < limit)
cell_apart instrs [] from limit a v l e = absurd (cc)
cell_apart instrs (c ∷ cs) from limit a v l e = by_place (c.0 == a) refl e (cell_apart instrs cs (c.0 + 1) limit a v l.3)
  where
    by_place : (t : Bool) → (c.0 == a) ≡ t → cond t (Some c.1) (cell_in cs a) ≡ Some v → (cell_in cs a ≡ Some v → (is_covered instrs a ≡ false) × (a < limit)) → (is_covered instrs a ≡ false) × (a < limit)
    by_place true h f later = let same = eqb-true c.0 a h in (ap (is_covered instrs) (sym same) ∙ l.2, subst (λ n. n < limit) same l.1)
    by_place false h f later = later f
