use Rattle.std.proofs.Common.{◌≡◌, ◌≤◌, ℕ, ◌+◌, Bool, true, false, cond, List, ◌∷◌, ◌++◌, ap, map, get_or, drop, drop-cons, append_assoc, add-one, sym, ◌∙◌, ⊎_elim, arith}
use Rattle.std.proofs.lemmas.Bool.{cases_lt, false≢true}
use Rattle.std.proofs.lemmas.List.{drop_all, map-append}
use Rattle.std.proofs.lemmas.Result.{IfOk-from_err, on_ok_weaker}
use Rattle.i80.specs.declared.Instr80.TheVariants.{Nop}
use Rattle.asm80_types.specs.declared.program.Placed.{Placed}
use Rattle.asm80_types.specs.Program.{Program}
use Rattle.flow.specs.Cut.{blocks_from, closed, ends_before}
use Rattle.flow.proofs.cut.Cut.add_from.Goals as goal

-- a part of each block, with one more instruction
goes_on : (t : (ℕ × ℕ) → ℕ) (p : Program) (leader count : ℕ) (x y : Placed) (ys zs : List Placed) (b : Bool) (old new all : List ℕ) (l k : ℕ) → b ≡ ends_before p count x y → l ≡ cond b y.at leader → k ≡ cond b 1 (count + 1) → new ≡ old ++ map t (closed b leader count) → zs ≡ y ∷ ys → old ++ map t (blocks_from p leader count x zs) ≡ all → new ++ map t (blocks_from p l k y ys) ≡ all
goes_on t p leader count x y ys zs b old new all l k is l_is k_is put left so_far =
    let behind = blocks_from p (cond b y.at leader) (cond b 1 (count + 1)) y ys in
    ap (λ xs. xs ++ map t (blocks_from p l k y ys)) put
    ∙ ap (λ n. (old ++ map t (closed b leader count)) ++ map t (blocks_from p n k y ys)) l_is
    ∙ ap (λ n. (old ++ map t (closed b leader count)) ++ map t (blocks_from p (cond b y.at leader) n y ys)) k_is
    ∙ append_assoc old (map t (closed b leader count)) (map t behind)
    ∙ ap (λ xs. old ++ xs) (sym (map-append t (closed b leader count) behind))
    ∙ ap (λ e. old ++ map t (closed e leader count ++ blocks_from p (cond e y.at leader) (cond e 1 (count + 1)) y ys)) is
    ∙ ap (λ zs. old ++ map t (blocks_from p leader count x zs)) (sym left)
    ∙ so_far

-- a block has at most 16 instructions
at_most : (b : Bool) (count k : ℕ) → count ≤ 16 → (count ≡ 16 → b ≡ true) → k ≡ cond b 1 (count + 1) → k ≤ 16
at_most true count k le full is = omega (arith, is)
at_most false count k le full is = ⊎_elim (λ lt. omega (arith, is, lt)) (λ ge. absurd (false≢true (full (omega (arith, le, ge))))) (cases_lt count 16)

abbrev none : Placed
none = record { at = 0; line = 0; instr = Nop }

pub loop-placed-preserved : goal.loop-placed-preserved
loop-placed-preserved c =
    let l = c.loop-placed in
    let xs = c.args.rest.now in
    let y = get_or xs l.placed-index none in
    let gone = c.in_ok-block.ensures in
    let left = drop-cons xs l.placed-index none c.loop-placed-test.true ∙ ap (λ n. y ∷ drop n xs) (sym (add-one l.placed-index)) in
    record {
      last = c.requires.rest l.placed-index none c.loop-placed-test.true;
      count = at_most c.ends_before-is_new.result l.block.count _ l.invariant.count c.ends_before-is_new.ensures.full gone.count;
      leaders = λ p marks. goes_on (λ b. b.0) p l.block.leader l.block.count l.last y (drop (l.placed-index + 1) xs) _ c.ends_before-is_new.result l.self.leaders.items _ _ _ _ (c.ends_before-is_new.ensures.value p marks) gone.leader gone.count gone.leaders left (l.invariant.leaders p marks);
      counts = λ p marks. goes_on (λ b. b.1) p l.block.leader l.block.count l.last y (drop (l.placed-index + 1) xs) _ c.ends_before-is_new.result l.self.counts.items _ _ _ _ (c.ends_before-is_new.ensures.value p marks) gone.leader gone.count gone.counts left (l.invariant.counts p marks);
    }

pub returns : goal.returns
returns c =
    let l = c.loop-placed in
    let done = drop_all l.placed-index c.args.rest.now c.loop-placed-test.false in
    record {
      leaders = λ p marks. on_ok_weaker c.push.result (λ pushed. pushed ∙ ap (λ xs. l.self.leaders.items ++ map (λ (b : ℕ × ℕ). b.0) (blocks_from p l.block.leader l.block.count l.last xs)) (sym done) ∙ l.invariant.leaders p marks) c.push.ensures.leaders;
      counts = λ p marks. on_ok_weaker c.push.result (λ pushed. pushed ∙ ap (λ xs. l.self.counts.items ++ map (λ (b : ℕ × ℕ). b.1) (blocks_from p l.block.leader l.block.count l.last xs)) (sym done) ∙ l.invariant.counts p marks) c.push.ensures.counts;
    }

pub returns-in_err-block : goal.returns-in_err-block
returns-in_err-block c = record {
  leaders = λ p marks. IfOk-from_err c.from_residual.result _ c.from_residual.ensures.0;
  counts = λ p marks. IfOk-from_err c.from_residual.result _ c.from_residual.ensures.0;
}
