use Rattle.std.proofs.Common.{◌≡◌, ℕ, ◌+◌, ◌-◌, ◌%◌, ◌≤◌, ◌<◌, false, ltb, List, length, get_or, Some, None, sym, ap, subst, ◌∙◌, arith}
use Rattle.std.specs.Prelude.{MatchOption, IfSome, slice_index}
use Rattle.std.proofs.lemmas.Bool.Decides.{nat_tests}
use Rattle.i80.specs.declared.Instr80.{Instr80}
use Rattle.i80.specs.Columns.{length80}
use Rattle.i80_bytes.specs.Enc80.{enc80}
use Rattle.asm80_types.specs.declared.program.Placed.{Placed}
use Rattle.asm80_types.specs.Program.{Program, placed_in, instr_of_placed, instr_at}
use Rattle.i80_bytes.specs.Cells.{code_byte}
use Rattle.i80_bytes.specs.Text.{NoneFrom}
use Rattle.i80_bytes.proofs.Texts.{byte_is}
use Rattle.i80_bytes.proofs.text.byte_from.Goals as goal

-- the address from which the bytes are looked for
starts_here : (at index start : ℕ) → index < 3 → at < 65536 → start + index ≡ at → (at + (65536 - index)) % 65536 ≡ start
starts_here at index start few fits is = omega arith

none_starts : (p : Program) (at index start : ℕ) (x : Placed) → index < 3 → at < 65536 → None ≡ instr_at p ((at + (65536 - index)) % 65536) → start + index ≡ at → placed_in p.instrs start ≡ Some x → ⊥
none_starts p at index start x few fits none is found =
    let none_here : None ≡ Some x.instr = none ∙ ap (instr_at p) (starts_here at index start few fits is) ∙ ap instr_of_placed found in
    absurd (cc)

not_below : (k n : ℕ) → false ≡ ltb k n → k < n → ⊥
not_below k n e lt = absurd (grind (arith, nat_tests))

ends_before : (p : Program) (at index start : ℕ) (x : Placed) (i : Instr80) → index < 3 → at < 65536 → Some i ≡ instr_at p ((at + (65536 - index)) % 65536) → false ≡ ltb index (length80 i) → start + index ≡ at → placed_in p.instrs start ≡ Some x → index < length80 x.instr → ⊥
ends_before p at index start x i few fits some past is found within =
    let same : Some i ≡ Some x.instr = some ∙ ap (instr_at p) (starts_here at index start few fits is) ∙ ap instr_of_placed found in
    not_below index (length80 i) past (subst (λ o. IfSome o (λ j. index < length80 j)) (sym same) within)

pub returns-in-Some-clause-byte : goal.returns-in-Some-clause-byte
returns-in-Some-clause-byte c =
    let within = c.in_ok-instr.ensures.within in
    let low = c.in_ok-instr.ensures.small in
    let le : c.args.index ≤ c.args.at = omega (arith, within, low) in
    let same : (c.args.at + (65536 - c.args.index)) % 65536 ≡ c.args.at - c.args.index = omega (arith, le) in
    let some : instr_at c.args.program.now (c.args.at - c.args.index) ≡ Some c.in_ok-instr.instr = ap (instr_at c.args.program.now) (sym same) ∙ sym c.in_ok-instr.ensures.value in
    let found = c.in-Some.ensures.lookup.3 in
    let bytes : c.as_slice.result.now ≡ enc80 c.in_ok-instr.instr = c.as_slice.ensures.bytes ∙ c.encode80.ensures.bytes in
    let lt : c.args.index < length (enc80 c.in_ok-instr.instr) = subst (λ (xs : List ℕ). c.args.index < length xs) bytes (subst (λ k. k < length c.as_slice.result.now) c.from.ensures found.0) in
    let is : slice_index (enc80 c.in_ok-instr.instr) c.args.index ≡ c.in-Some.byte.now = sym (found.1 0 ∙ ap (λ k. get_or c.as_slice.result.now k 0) c.from.ensures ∙ ap (λ (xs : List ℕ). get_or xs c.args.index 0) bytes) in
    byte_is c.args.program.now c.args.at c.args.index c.in-Some.byte.now c.in_ok-instr.instr c.in_ok-instr.ensures.program le some lt is

pub returns-in_err-instr : goal.returns-in_err-instr
returns-in_err-instr c =
    let p = c.args.program.now in
    record {
      byte = subst (λ o. MatchOption o (NoneFrom p c.args.at c.args.index) (λ b. code_byte p.instrs c.args.at ≡ Some b)) (sym c.from_residual.ensures)
          (λ start x is found within. none_starts p c.args.at c.args.index start x c.requires c.ranges.at.fits c.in_err-instr.ensures.value is found);
      program = c.in_err-instr.ensures.program;
    }

pub returns-in-None : goal.returns-in-None
returns-in-None c =
    let p = c.args.program.now in
    let bytes : c.as_slice.result.now ≡ enc80 c.in_ok-instr.instr = c.as_slice.ensures.bytes ∙ c.encode80.ensures.bytes in
    let past : false ≡ ltb c.args.index (length80 c.in_ok-instr.instr) = c.in-None.ensures.lookup.0 ∙ ap (λ k. ltb k (length c.as_slice.result.now)) c.from.ensures ∙ ap (λ (xs : List ℕ). ltb c.args.index (length xs)) bytes ∙ ap (ltb c.args.index) c.encode80.ensures.length in
    record {
      byte = λ start x is found within. ends_before p c.args.at c.args.index start x c.in_ok-instr.instr c.requires c.ranges.at.fits c.in_ok-instr.ensures.value past is found within;
      program = c.in_ok-instr.ensures.program;
    }
