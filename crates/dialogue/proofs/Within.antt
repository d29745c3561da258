-- What a reply that fits writes is within memory, at cells that the call may write.
use Rattle.std.proofs.Common.{◌≡◌, ℕ, zero, suc, ◌+◌, ◌≤◌, ◌<◌, ◌==◌, Bool, true, false, cond, List, [], ◌∷◌, length, Option, Some, None, Ok, refl, ap, subst, ◌∙◌, arith}
use Rattle.std.specs.Prelude.{All, nat_le}
use Rattle.std.proofs.lemmas.Bool.{and_parts, leb-true, eqb-true, false≢true}
use Rattle.std.proofs.lemmas.List.Elements.{All-nil, All-cons, All-head, All-tail}
use Rattle.cells.specs.declared.Rule.{Rule}
use Rattle.cells.specs.declared.Rule.TheVariants.{P9, P10, P11}
use Rattle.dialogue.specs.declared.blocks.Block.{Block}
use Rattle.dialogue.specs.declared.request.Range.{Range}
use Rattle.dialogue.specs.declared.request.Shape.{Shape}
use Rattle.dialogue.specs.declared.request.Request.{Request}
use Rattle.dialogue.specs.declared.request.Reply.{Reply}
use Rattle.dialogue.specs.declared.table.Extent.{Extent}
use Rattle.dialogue.specs.Table.{Row, row_of, padded_to}
use Rattle.dialogue.specs.Shape.{Seen, argument_of, argument_address, is_readable, range_of, all_cells, is_within, range_within, ranges_within, has_room, ranges, shape_by, shape_by_row, shape_of}
use Rattle.dialogue.specs.Fits.{fills_range, writes_fit, line_bytes_fit, line_fits, fits_row, fits}
use Rattle.dialogue.proofs.Lines.{line_short}
use Rattle.dialogue.proofs.Tried.{ok_is, err_is_not, then_is, cond_ok}

-- each block is within memory, and its cells pass
abbrev pub AreWithin : (ℕ → Bool) → List Block → Type 0
AreWithin passes [] = Unit {0}
AreWithin passes (b ∷ bs) =
    (b.at + length b.bytes ≤ 0x10000) × ((a : ℕ) → b.at ≤ a → a < b.at + length b.bytes → passes a ≡ true) × AreWithin passes bs

abbrev Passes : (ℕ → Bool) → Range → Type 0
Passes passes r = is_within passes r ≡ true

-- the ranges of a shape

range_passes : (passes : ℕ → Bool) (rule : Rule) (o : Option Range) (r : Range) → range_within passes rule o ≡ Ok r → Passes passes r
range_passes passes rule None r h = absurd (err_is_not rule r h)
range_passes passes rule (Some q) r h = let told = cond_ok (is_within passes q) q r rule h in subst (Passes passes) told.1 told.0

ranges_pass : (passes : ℕ → Bool) (rule : Rule) (view : Seen) (de dma : ℕ) (xs : List Extent) (rs : List Range) → ranges_within passes rule view de dma xs ≡ Ok rs → All (Passes passes) rs
ranges_pass passes rule view de dma [] rs h = subst (λ q. All (Passes passes) q) (ok_is [] rs h) (All-nil (Passes passes))
ranges_pass passes rule view de dma (x ∷ xs) rs h =
    let a = then_is (range_within passes rule (range_of view de dma x)) _ rs h in
    let b = then_is (ranges_within passes rule view de dma xs) _ rs a.2 in
    subst (λ q. All (Passes passes) q) (ok_is _ rs b.2)
    (All-cons (Passes passes) a.0 b.0 (range_passes passes rule (range_of view de dma x) a.0 a.1) (ranges_pass passes rule view de dma xs b.0 b.1))

padded_pass : (passes : ℕ → Bool) (k : ℕ) (rs : List Range) → All (Passes passes) rs → All (Passes passes) (ranges (padded_to k rs))
padded_pass passes zero rs h = All-nil (Passes passes)
padded_pass passes (suc k) [] h = padded_pass passes k [] h
padded_pass passes (suc k) (r ∷ rs) h = All-cons (Passes passes) r (ranges (padded_to k rs)) (All-head (Passes passes) r rs h) (padded_pass passes k rs (All-tail (Passes passes) r rs h))

-- a call's ranges are such
pub call_writes : (f : ℕ) (d e : Option ℕ) (dma : ℕ) (view : Seen) (shape : Shape) → shape_of (Some f) d e dma view ≡ Ok shape → All (λ r. is_within view.writable r ≡ true) (ranges shape.writes)
call_writes f d e dma view shape h = by_row (row_of f) h
  where
    of_row : (row : Row) → shape_by f row d e dma view ≡ Ok shape → All (Passes view.writable) (ranges shape.writes)
    of_row row h =
        let a = then_is (argument_of row.argument d e) _ shape h in
        let r = then_is (ranges_within (is_readable view) P10 view (argument_address a.0) dma row.reads) _ shape a.2 in
        let x = then_is (has_room view (argument_address a.0) row.writes) _ shape r.2 in
        let w = then_is (ranges_within view.writable P11 view (argument_address a.0) dma x.0) _ shape x.2 in
        subst (λ (q : Shape). All (Passes view.writable) (ranges q.writes)) (ok_is _ shape w.2)
        (padded_pass view.writable 2 w.0 (ranges_pass view.writable P11 view (argument_address a.0) dma x.0 w.0 w.1))

    by_row : (o : Option Row) → shape_by_row f o d e dma view ≡ Ok shape → All (Passes view.writable) (ranges shape.writes)
    by_row None g = absurd (err_is_not P9 shape g)
    by_row (Some row) g = of_row row g

-- the blocks of a reply

cells_pass : (passes : ℕ → Bool) (k at a : ℕ) → all_cells passes k at ≡ true → at ≤ a → a < at + k → passes a ≡ true
cells_pass passes zero at a h low high = absurd (omega (arith, low, high))
cells_pass passes (suc k) at a h low high =
    let p = and_parts (passes at) (all_cells passes k (at + 1)) h in
    by_first (a == at) refl p.0 (λ later. cells_pass passes k (at + 1) a p.1 later (omega (arith, high)))
  where
    later : (a == at) ≡ false → at + 1 ≤ a
    later e = grind (arith, low, e)

    by_first : (b : Bool) → (a == at) ≡ b → passes at ≡ true → (at + 1 ≤ a → passes a ≡ true) → passes a ≡ true
    by_first true e here rest = ap passes (eqb-true a at e) ∙ here
    by_first false e here rest = rest (later e)

-- one block at a range, or in its first cells
in_range : (passes : ℕ → Bool) (r : Range) (b : Block) (bs : List Block) → Passes passes r → b.at ≡ r.at → length b.bytes ≤ r.len → AreWithin passes bs → AreWithin passes (b ∷ bs)
in_range passes r b bs h at len rest =
    let p = and_parts (nat_le (r.at + r.len) 0x10000) (all_cells passes r.len r.at) h in
    let le = leb-true (r.at + r.len) 0x10000 p.0 in
    (omega (arith, at, len, le), (λ a low high. cells_pass passes r.len r.at a p.1 (omega (arith, low, at)) (omega (arith, high, at, len))), rest)

writes_are : (passes : ℕ → Bool) (rs : List Range) (bs : List Block) → All (Passes passes) rs → writes_fit rs bs ≡ true → AreWithin passes bs
writes_are passes rs [] all h = tt
writes_are passes [] (b ∷ bs) all h = absurd (false≢true h)
writes_are passes (r ∷ rs) (b ∷ bs) all h =
    let rest = All-tail (Passes passes) r rs all in
    by_fill (fills_range r b) refl h (writes_are passes rs bs rest) (writes_are passes rs (b ∷ bs) rest)
  where
    by_fill : (k : Bool) → fills_range r b ≡ k → cond k (writes_fit rs bs) (writes_fit rs (b ∷ bs)) ≡ true → (writes_fit rs bs ≡ true → AreWithin passes bs) → (writes_fit rs (b ∷ bs) ≡ true → AreWithin passes (b ∷ bs)) → AreWithin passes (b ∷ bs)
    by_fill true e g next again =
        let p = and_parts (b.at == r.at) (length b.bytes == r.len) e in
        let same = eqb-true (length b.bytes) r.len p.1 in
        in_range passes r b bs (All-head (Passes passes) r rs all) (eqb-true b.at r.at p.0) (omega (arith, same)) (next g)
    by_fill false e g next again = again g

line_is : (passes : ℕ → Bool) (rs : List Range) (bs : List Block) → All (Passes passes) rs → line_fits rs bs ≡ true → AreWithin passes bs
line_is passes [] bs all h = absurd (false≢true h)
line_is passes (r ∷ rs) [] all h = tt
line_is passes (r ∷ rs) (b ∷ []) all h =
    let p = and_parts (b.at == r.at) (line_bytes_fit r.len b.bytes) h in
    in_range passes r b [] (All-head (Passes passes) r rs all) (eqb-true b.at r.at p.0) (line_short r.len b.bytes p.1) tt
line_is passes (r ∷ rs) (b ∷ (c ∷ bs)) all h = absurd (false≢true h)

by_kind : (passes : ℕ → Bool) (is_line : Bool) (rs : List Range) (bs : List Block) → All (Passes passes) rs → cond is_line (line_fits rs bs) (writes_fit rs bs) ≡ true → AreWithin passes bs
by_kind passes true rs bs all h = line_is passes rs bs all h
by_kind passes false rs bs all h = writes_are passes rs bs all h

by_row : (passes : ℕ → Bool) (o : Option Row) (q : Request) (y : Reply) → All (Passes passes) (ranges q.shape.writes) → fits_row o q y ≡ true → AreWithin passes y.writes
by_row passes None q y all h = absurd (false≢true h)
by_row passes (Some row) q y all h = by_kind passes (q.shape.function == 10) (ranges q.shape.writes) y.writes all (and_parts _ _ h).1

pub fit_within : (passes : ℕ → Bool) (q : Request) (y : Reply) → All (λ r. is_within passes r ≡ true) (ranges q.shape.writes) → fits q y ≡ true → AreWithin passes y.writes
fit_within passes q y all h = by_row passes (row_of q.shape.function) q y all h
