use Rattle.std.proofs.Common.{◌≡◌, ℕ, ◌+◌, ◌-◌, ◌<◌, ◌≤◌, length, drop, slice_index_or, subst, arith}
use Rattle.std.proofs.lemmas.List.{at_drop_more}
use Rattle.asm86_line_types.specs.declared.line.Stmt86.TheVariants.{Cseg}
use Rattle.asm86_line_types.specs.Image.{offset_in}
use Rattle.sym_block_def.specs.Walk86.{after_label}
use Rattle.sym_run.specs.Places.{IsPlace}
use Rattle.sym_run.proofs.Stops.{place_more}
use Rattle.sym_run.proofs.index.places_of.Goals as goal

less_one : (n : ℕ) → 0 < n → n ≡ n - 1 + 1
less_one n h = omega arith

below : (n m : ℕ) → 0 < n → n ≤ m → n - 1 < m
below n m h k = omega arith

at_most : (n m : ℕ) → n < m → n ≤ m
at_most n m h = omega arith

none_left : (n : ℕ) → n ≤ 0 → n ≡ 0
none_left n h = omega arith

pub loop-at-preserved : goal.loop-at-preserved
loop-at-preserved c =
    let text = c.args.statements.now in
    let some = c.loop-at-test.true in
    let within = c.loop-at.invariant.0 in
    let k = c.loop-at.at - 1 in
    let here = less_one c.loop-at.at some in
    let lt = below c.loop-at.at (length text) some within in (
      at_most k (length text) lt,
      λ q. place_more text k q (slice_index_or text k Cseg) (offset_in c.loop-at.places q) (offset_in c.define.new.places q) lt (at_drop_more (λ xs. xs) text k Cseg lt) (c.in_ok-define.ensures q)
          (subst (λ n. IsPlace text (offset_in c.loop-at.places q) (after_label (drop n text) q)) here (c.loop-at.invariant.1 q)),
    )

pub returns : goal.returns
returns c = λ q. subst (λ n. IsPlace c.args.statements.now (offset_in c.loop-at.places q) (after_label (drop n c.args.statements.now) q)) (none_left c.loop-at.at c.loop-at-test.false) (c.loop-at.invariant.1 q)
