use Rattle.std.proofs.Common.{◌<◌, ◌^◌, All, ℕ, List, ◌++◌, get_or, ap, ◌∙◌, arith}
use Rattle.std.proofs.Math.Facts.{Fits-lt-pow}
use Rattle.std.proofs.lemmas.List.{take_all}
use Rattle.std.proofs.lemmas.List.Elements.{All-map, All-from_get_or}
use Rattle.cells.specs.declared.Cell.TheVariants.{Num}
use Rattle.asm80_source_def.specs.Items.{numbers}
use Rattle.asm80_values.specs.Forms.{HoldsByte}
use Rattle.asm80_values.proofs.data.push_numbers.Goals as goal
use Rattle.asm80_values.proofs.Laying.{numbers_more}

-- cells of bytes
numbers_hold : (bytes : List ℕ) → ((k : ℕ) → get_or bytes k 0 < 2 ^ 8) → All HoldsByte (numbers bytes)
numbers_hold bytes small = All-map HoldsByte Num bytes (All-from_get_or (λ n. n < 0x100) bytes 0 (λ k lt. omega (arith, small k)))

pub loop-byte-preserved : goal.loop-byte-preserved
loop-byte-preserved c = numbers_more c.args.bytes.now c.loop-byte.byte-index _ c.args.cells.now.items _ _ c.loop-byte-test.true c.loop-byte.invariant c.in_ok-push.ensures.items

pub returns-clause-cells : goal.returns-clause-cells
returns-clause-cells c = c.loop-byte.invariant ∙ ap (λ (ns : List ℕ). c.args.cells.now.items ++ numbers ns) (take_all _ _ c.loop-byte-test.false)

pub returns-clause-bytes : goal.returns-clause-bytes
returns-clause-bytes c = numbers_hold c.args.bytes.now (λ k. Fits-lt-pow (c.type_inv.bytes k))
