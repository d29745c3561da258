-- The cells of a program, address by address.
use Rattle.std.proofs.Common.{◌≡◌, ℕ, zero, suc, ◌+◌, ◌-◌, ◌<◌, ◌≤◌, List, [], ◌∷◌, ◌++◌, length, Option, Some, None, refl, sym, ap, subst, ◌∙◌, arith}
use Rattle.std.specs.Prelude.{MatchOption, filter_map, slice_index}
use Rattle.std.specs.List.{range_with_len, cons_option}
use Rattle.std.specs.Option.{option_or}
use Rattle.std.proofs.lemmas.List.Elements.{filter_map-append}
use Rattle.i80.specs.declared.Instr80.{Instr80}
use Rattle.i80.specs.declared.Instr80.TheVariants.{Nop}
use Rattle.i80.specs.Columns.{length80}
use Rattle.i80_bytes.specs.Enc80.{enc80}
use Rattle.i80_bytes.proofs.Readers.{encoding_length}
use Rattle.asm80_types.proofs.Standing.{placed_is}
use Rattle.asm80_types.specs.declared.program.Placed.{Placed}
use Rattle.asm80_types.specs.Program.{Program, IsProgram, placed_in, instr_at}
use Rattle.i80_bytes.specs.Cells.{code_byte, program_byte, with_address, program_cells}
use Rattle.i80_bytes.proofs.CellBytes.{placed_byte, IsByteOf, code_byte_is}
use Rattle.i80_bytes.specs.Text.{NoneFrom}

-- one address more
range_more : (a n : ℕ) → range_with_len a (suc n) ≡ range_with_len a n ++ (a + n) ∷ []
range_more a zero = let same : a ≡ a + 0 = omega arith in ap (λ k. k ∷ []) same
range_more a (suc n) =
    let same : a + 1 + n ≡ a + suc n = omega arith in
    ap (λ xs. a ∷ xs) (range_more (a + 1) n ∙ ap (λ k. range_with_len (a + 1) n ++ k ∷ []) same)

abbrev pub cells_below : Program → ℕ → List (ℕ × ℕ)
cells_below p n = filter_map (λ a. with_address a (program_byte p a)) (range_with_len 0 n)

cells_more : (p : Program) (n : ℕ) → cells_below p (suc n) ≡ cells_below p n ++ cons_option (with_address n (program_byte p n)) []
cells_more p n =
    ap (filter_map (λ a. with_address a (program_byte p a))) (range_more 0 n)
    ∙ filter_map-append (λ a. with_address a (program_byte p a)) (range_with_len 0 n) ((0 + n) ∷ [])
    ∙ ap (λ k. cells_below p n ++ cons_option (with_address k (program_byte p k)) []) (zero_add n)
  where
    zero_add : (n : ℕ) → 0 + n ≡ n
    zero_add n = omega arith

pub found_more : (p : Program) (cells : List (ℕ × ℕ)) (n b m : ℕ) → m ≡ suc n → cells ≡ cells_below p n → program_byte p n ≡ Some b → cells ++ (n, b) ∷ [] ≡ cells_below p m
found_more p cells n b m next e h =
    ap (λ xs. xs ++ (n, b) ∷ []) e
    ∙ ap (λ o. cells_below p n ++ cons_option (with_address n o) []) (sym h)
    ∙ sym (cells_more p n)
    ∙ ap (cells_below p) (sym next)

pub none_more : (p : Program) (cells : List (ℕ × ℕ)) (n m : ℕ) → m ≡ suc n → cells ≡ cells_below p n → program_byte p n ≡ None → cells ≡ cells_below p m
none_more p cells n m next e h =
    e
    ∙ sym (append_none (cells_below p n))
    ∙ ap (λ o. cells_below p n ++ cons_option (with_address n o) []) (sym h)
    ∙ sym (cells_more p n)
    ∙ ap (cells_below p) (sym next)
  where
    append_none : (xs : List (ℕ × ℕ)) → xs ++ [] ≡ xs
    append_none [] = refl
    append_none (x ∷ xs) = ap (λ ys. x ∷ ys) (append_none xs)

pub all_cells : (p : Program) (cells : List (ℕ × ℕ)) (n : ℕ) → n ≡ 0x10000 → cells ≡ cells_below p n → cells ≡ program_cells p
unfolding program_cells
all_cells p cells n whole e = e ∙ ap (cells_below p) whole

-- the byte of an instruction's cell

pub byte_is : (p : Program) (at index b : ℕ) (i : Instr80) → IsProgram p → index ≤ at → instr_at p (at - index) ≡ Some i → index < length (enc80 i) → slice_index (enc80 i) index ≡ b → code_byte p.instrs at ≡ Some b
byte_is p at index b i g le some lt is =
    let x = placed_is (placed_in p.instrs (at - index)) i some in
    let whole : at ≡ at - index + index = omega (arith, le) in
    let within : index < length80 x.0.instr = subst (λ j. index < length80 j) (sym x.2) (subst (λ n. index < n) (encoding_length i) lt) in
    ap (code_byte p.instrs) whole
    ∙ placed_byte p.instrs 0x100 (p.top - 2) (at - index) index x.0 g.instrs x.1 within
    ∙ ap (λ j. Some (slice_index (enc80 j) index)) x.2
    ∙ ap Some is

length80_most : (i : Instr80) → length80 i ≤ 3
length80_most Nop = omega arith
length80_most i = omega arith

-- one of the three places is the one
abbrev pub IsFrom : Program → ℕ → ℕ → Option ℕ → Type 0
IsFrom p at index r = MatchOption r (NoneFrom p at index) (λ b. code_byte p.instrs at ≡ Some b)

pub code_is : (p : Program) (at : ℕ) (q r s : Option ℕ) → IsProgram p → IsFrom p at 0 q → IsFrom p at 1 r → IsFrom p at 2 s → option_or (option_or q r) s ≡ code_byte p.instrs at
code_is p at (Some b) r s g h k l = sym h
code_is p at None (Some b) s g h k l = sym k
code_is p at None None (Some b) g h k l = sym l
code_is p at None None None g h k l = by_byte (code_byte p.instrs at) (λ b e. none b (code_byte_is p.instrs 0x100 (p.top - 2) at b g.instrs e))
  where
    by_index : (index start : ℕ) (x : Placed) → start + index ≡ at → placed_in p.instrs start ≡ Some x → index < length80 x.instr → ⊥
    by_index zero start x e found within = h start x e found within
    by_index (suc zero) start x e found within = k start x e found within
    by_index (suc (suc zero)) start x e found within = l start x e found within
    by_index (suc (suc (suc n))) start x e found within = let most = length80_most x.instr in absurd (omega (arith, most, within))

    none : (b : ℕ) → IsByteOf p.instrs at b → ⊥
    none b d = by_index d.index d.at d.placed d.place d.found d.within

    by_byte : (o : Option ℕ) → ((b : ℕ) → o ≡ Some b → ⊥) → None ≡ o
    by_byte None never = refl
    by_byte (Some b) never = absurd (never b refl)
