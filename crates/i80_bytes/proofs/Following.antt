-- What is fetched of the bytes of a program, as long as the cells of its instructions are unchanged, does what its instruction does.
use Rattle.std.proofs.Common.{◌≡◌, ℕ, ◌+◌, ◌-◌, ◌<◌, ◌≤◌, ◌==◌, Bool, true, false, cond, List, [], ◌∷◌, length, Option, Some, None, refl, sym, ap, subst, ◌∙◌, arith}
use Rattle.std.specs.Prelude.{IfSome, ◌&&◌, nat_le, nat_lt, slice_index, unwrap_or}
use Rattle.std.proofs.lemmas.Bool.{and_right}
use Rattle.std.proofs.lemmas.Bool.Decides.{nat_tests}
use Rattle.cells.specs.declared.Cell.{Cell}
use Rattle.i80.specs.declared.Word.TheVariants.{Num, Code}
use Rattle.i80.specs.declared.Goal.{Goal}
use Rattle.i80.specs.declared.Goal.TheVariants.{At, Boot, Bdos}
use Rattle.i80.specs.declared.Instr80.{Instr80}
use Rattle.i80.specs.declared.Instr80.TheVariants.{Nop, Lxi, Jmp, Jif, Call, Cif}
use Rattle.i80.specs.Columns.{length80}
use Rattle.i80_bytes.specs.Enc80.{enc80, address_of}
use Rattle.i80_bytes.specs.Decoded.{goal_at, as_told, IsPrefix, StandsFirst}
use Rattle.i80_bytes.proofs.Readers.{encoding_length}
use Rattle.dialogue.specs.Fill.{IsFill}
use Rattle.asm80_types.specs.declared.program.Placed.{Placed}
use Rattle.asm80_types.specs.Program.{Program, IsProgram, is_top, placed_in, instr_at, is_start, cell_at, if_instr}
use Rattle.asm80_types.proofs.Standing.{IsPlaced, is_placed, placed_is, start_range}
use Rattle.cpu80.specs.State.{UntaggedState, next}
use Rattle.cpu80.specs.Step.{Fetch, act_at, return_of}
use Rattle.cpu80.specs.Start.{byte_of_cell, system_byte}
use Rattle.cpu80.specs.Follows.{HoldsCode, TakesAs, TakesProgram, HasData, FetchFollows}
use Rattle.cpu80.proofs.Starting.{byte_in as byte_in_list, datum_small}
use Rattle.i80_bytes.specs.InMemory.{bytes_from, StandsAsTold, IsFetchOfBytes}
use Rattle.i80_bytes.specs.Start.{cells_over}
use Rattle.i80_bytes.specs.Cells.{code_byte, data_byte, or_else, program_byte, program_cells}
use Rattle.i80_bytes.specs.Follows.{BytesFollow}
use Rattle.i80_bytes.proofs.Small.{code_small}
use Rattle.i80_bytes.proofs.Lookup.{byte_of_program, none_past}
use Rattle.i80_bytes.proofs.CellBytes.{placed_covered, placed_byte, covered_range, code_byte_none, cell_apart}

-- bytes begin with a list of at most three
prefix : (xs : List ℕ) (b c d : ℕ) → length xs ≤ 3 → (0 < length xs → b ≡ slice_index xs 0) → (1 < length xs → c ≡ slice_index xs 1) → (2 < length xs → d ≡ slice_index xs 2) → IsPrefix xs (b ∷ (c ∷ (d ∷ [])))
prefix [] b c d le first second third = (b ∷ (c ∷ (d ∷ [])), refl)
prefix (x ∷ []) b c d le first second third = (c ∷ (d ∷ []), ap (λ n. n ∷ (c ∷ (d ∷ []))) (first (omega arith)))
prefix (x ∷ (y ∷ [])) b c d le first second third =
    (d ∷ [], ap (λ n. n ∷ (c ∷ (d ∷ []))) (first (omega arith)) ∙ ap (λ n. x ∷ (n ∷ (d ∷ []))) (second (omega arith)))
prefix (x ∷ (y ∷ (z ∷ []))) b c d le first second third = (
  [],
  ap (λ n. n ∷ (c ∷ (d ∷ []))) (first (omega arith))
      ∙ ap (λ n. x ∷ (n ∷ (d ∷ []))) (second (omega arith))
      ∙ ap (λ n. x ∷ (y ∷ (n ∷ []))) (third (omega arith)),
)
prefix (x ∷ (y ∷ (z ∷ (w ∷ rest)))) b c d le first second third = absurd (omega (arith, le))

length80_most : (i : Instr80) → length80 i ≤ 3
length80_most Nop = omega arith
length80_most i = omega arith

top_most : (t : ℕ) → is_top t ≡ true → (2 ≤ t) × (t ≤ 0x10000)
top_most t e = (grind (arith, e), grind (arith, e))

module _ (p : Program) (g : IsProgram p) where
  -- an instruction and what bytes tell of it do the same

  goal_told : (t : Goal) → IfSome (if_instr t) (λ a. is_start p a ≡ true) → goal_at (address_of t) ≡ t
  goal_told (At a) h =
      let above = (start_range p a g h).0 in
      let boot : (a == 0) ≡ false = grind (arith, nat_tests) in
      let bdos : (a == 5) ≡ false = grind (arith, nat_tests) in
      ap (λ t. cond t Boot (cond (a == 5) Bdos (At a))) boot ∙ ap (λ t. cond t Bdos (At a)) bdos
  goal_told Boot h = refl
  goal_told Bdos h = refl

  -- the same step, and the same return
  record DoAlike (u : UntaggedState) (at : ℕ) (j i : Instr80) : Type 0 where
    acts : (choice : ℕ) → act_at u at (Some j) choice ≡ act_at u at (Some i) choice
    returns : return_of u at (Some j) ≡ return_of u at (Some i)

  same_alike : (u : UntaggedState) (at : ℕ) (j i : Instr80) → j ≡ i → DoAlike u at j i
  same_alike u at j i e = record { acts = λ choice. ap (λ k. act_at u at (Some k) choice) e; returns = ap (λ k. return_of u at (Some k)) e }

  told_alike : (u : UntaggedState) (at : ℕ) (i : Instr80) → IsPlaced p at i → DoAlike u at (as_told i) i
  told_alike u at (Lxi pair (Num n)) h = same_alike u at (Lxi pair (Num n)) (Lxi pair (Num n)) refl
  told_alike u at (Lxi pair (Code a)) h = record { acts = λ choice. refl; returns = refl }
  told_alike u at (Jmp t) h = same_alike u at (Jmp (goal_at (address_of t))) (Jmp t) (ap Jmp (goal_told t h.named))
  told_alike u at (Jif c t) h = same_alike u at (Jif c (goal_at (address_of t))) (Jif c t) (ap (Jif c) (goal_told t h.named))
  told_alike u at (Call t) h = same_alike u at (Call (goal_at (address_of t))) (Call t) (ap Call (goal_told t h.named))
  told_alike u at (Cif c t) h = same_alike u at (Cif c (goal_at (address_of t))) (Cif c t) (ap (Cif c) (goal_told t h.named))
  told_alike u at i h = same_alike u at i i refl

  module _ (fill : List ℕ) (is_fill : IsFill fill) where
    abbrev under : ℕ → ℕ
    under = cells_over (program_cells p) fill

    under_is : (a : ℕ) → a < 0x10000 → under a ≡ unwrap_or (program_byte p a) (slice_index fill a)
    under_is a lt = byte_of_program p (λ b. slice_index fill b) a lt

    -- memory has the data, and is of bytes

    fill_small : (a : ℕ) → slice_index fill a < 256
    fill_small a = byte_in_list fill a is_fill.bytes

    program_small : (a : ℕ) (o : Option ℕ) (c : Option Cell) → code_byte p.instrs a ≡ o → cell_at p a ≡ c → unwrap_or (or_else o (data_byte c)) (slice_index fill a) < 256
    program_small a (Some b) c e h = code_small p g a b e
    program_small a None None e h = fill_small a
    program_small a None (Some v) e h = datum_small p g a v h

    under_small : (a : ℕ) → under a < 256
    under_small a = by_place (nat_lt a 0x10000) refl
      where
        by_place : (t : Bool) → nat_lt a 0x10000 ≡ t → under a < 256
        by_place true e =
            let lt : a < 0x10000 = grind (arith, nat_tests) in
            subst (λ n. n < 256) (sym (under_is a lt)) (program_small a (code_byte p.instrs a) (cell_at p a) refl refl)
        by_place false e =
            let le : 0x10000 ≤ a = grind (arith, nat_tests) in
            subst (λ n. n < 256) (sym (none_past p (λ b. slice_index fill b) a le)) (fill_small a)

    datum_under : (a : ℕ) (v : Cell) → cell_at p a ≡ Some v → under a ≡ byte_of_cell v 0
    datum_under a v e =
        let apart = cell_apart p.instrs p.cells 0x100 (p.top - 2) a v g.cells e in
        let top = top_most p.top g.top in
        let lt : a < 0x10000 = omega (arith, apart.1, top.1) in
        under_is a lt
        ∙ ap (λ o. unwrap_or (or_else o (data_byte (cell_at p a))) (slice_index fill a)) (code_byte_none p.instrs a apart.0)
        ∙ ap (λ o. unwrap_or (data_byte o) (slice_index fill a)) e

    has_data : HasData p under
    has_data = record { bytes = under_small; cells = datum_under }

    module _ (page : List ℕ) where
      abbrev held : ℕ → ℕ
      held = system_byte p.top page under

      -- what the system puts over memory is none of code
      held_is : (a : ℕ) → 0x100 ≤ a → a < p.top - 2 → held a ≡ under a
      held_is a low high =
          let six : (a == 6) ≡ false = grind (arith, nat_tests) in
          let seven : (a == 7) ≡ false = grind (arith, nat_tests) in
          let above : nat_lt a 0x100 ≡ false = grind (arith, nat_tests) in
          let in_page : (nat_le 0x5C a && nat_lt a 0x100) ≡ false = and_right (nat_le 0x5C a) (nat_lt a 0x100) above in
          let two : (a == p.top - 2) ≡ false = grind (arith, nat_tests) in
          let one : (a == p.top - 1) ≡ false = grind (arith, nat_tests) in
          rw (six, seven, in_page, two, one) refl

      -- the cells of an instruction hold its encoding
      held_code : (at k : ℕ) (x : Placed) → placed_in p.instrs at ≡ Some x → k < length80 x.instr → held (at + k) ≡ slice_index (enc80 x.instr) k
      held_code at k x e lt =
          let range = covered_range p.instrs 0x100 (p.top - 2) (at + k) g.instrs (placed_covered p.instrs at k x e lt) in
          let top = top_most p.top g.top in
          let small : at + k < 0x10000 = omega (arith, range.1, top.1) in
          held_is (at + k) range.0 range.1
          ∙ under_is (at + k) small
          ∙ ap (λ o. unwrap_or (or_else o (data_byte (cell_at p (at + k)))) (slice_index fill (at + k))) (placed_byte p.instrs 0x100 (p.top - 2) at k x g.instrs e lt)

      module _ (u : UntaggedState) (holds : HoldsCode p held u.mem) where
        memory_code : (at k a : ℕ) (x : Placed) → placed_in p.instrs at ≡ Some x → k < length80 x.instr → a ≡ at + k → u.mem a ≡ slice_index (enc80 x.instr) k
        memory_code at k a x e lt is =
            ap u.mem is ∙ holds.code (at + k) (placed_covered p.instrs at k x e lt) ∙ held_code at k x e lt

        stands : (at : ℕ) (x : Placed) → placed_in p.instrs at ≡ Some x → IsPlaced p at x.instr → StandsFirst (bytes_from u.mem at) x.instr
        stands at x e placed =
            let len = encoding_length x.instr in
            let most = length80_most x.instr in
            let below = placed.below in (
              placed.well_formed,
              prefix (enc80 x.instr) (u.mem at) (u.mem (next at)) (u.mem (next (next at))) (omega (arith, len, most))
                  (λ lt. memory_code at 0 at x e (omega (arith, lt, len)) (omega arith))
                  (λ lt. memory_code at 1 (next at) x e (omega (arith, lt, len)) (omega (arith, lt, len, below)))
                  (λ lt. memory_code at 2 (next (next at)) x e (omega (arith, lt, len)) (omega (arith, lt, len, below))),
            )

        fetched : (fetch : Fetch) (at : ℕ) (i : Instr80) → IsFetchOfBytes fetch → StandsFirst (bytes_from u.mem at) i → at < 0x10000 → fetch u at ≡ Some (as_told i)
        fetched fetch at i is first lt = by_fetch (fetch u at) refl (is u at holds.bytes lt)
          where
            by_fetch : (o : Option Instr80) → fetch u at ≡ o → StandsAsTold (bytes_from u.mem at) o → fetch u at ≡ Some (as_told i)
            by_fetch None e h = absurd (h i first)
            by_fetch (Some told) e h = e ∙ ap Some (sym (h.1 i first))

        taken : (fetch : Fetch) (at : ℕ) (i : Instr80) → IsFetchOfBytes fetch → instr_at p at ≡ Some i → TakesAs fetch u at i
        taken fetch at i is has =
            let placed = is_placed p at i g has in
            let x = placed_is (placed_in p.instrs at) i has in
            let first = subst (StandsFirst (bytes_from u.mem at)) x.2 (stands at x.0 x.1 (subst (IsPlaced p at) (sym x.2) placed)) in
            let gives = fetched fetch at i is first (omega (arith, placed.below)) in
            let alike = told_alike u at i placed in
            record { acts = λ choice. ap (λ o. act_at u at o choice) gives ∙ alike.acts choice; returns = ap (return_of u at) gives ∙ alike.returns }

      pub takes_program : (fetch : Fetch) → IsFetchOfBytes fetch → TakesProgram fetch p held
      takes_program fetch is u at i holds has = taken u holds fetch at i is has

pub follows : FetchFollows → BytesFollow
unfolding BytesFollow FetchFollows
follows any fetch p page fill choices replies n is_fetch g is_page is_fill bytes stayed =
    any p fetch (cells_over (program_cells p) fill) page fill choices replies n g is_page is_fill (has_data p g fill is_fill) (takes_program p g fill is_fill page fetch is_fetch) bytes stayed
