-- The statements of an instruction as they are written inside a block: those of its template, perhaps without a LAHF and a SAHF.
use Rattle.std.proofs.Common.{◌≡◌, ℕ, Bool, true, false, List, [], ◌∷◌, ◌++◌, refl, sym, ap, ◌∙◌}
use Rattle.std.specs.Prelude.{◌&&◌}
use Rattle.std.proofs.lemmas.Bool.{and_parts, cond_both, true≢false, false≢true}
use Rattle.i80.specs.declared.StackPair.TheVariants.{Psw}
use Rattle.i80.specs.declared.Goal.TheVariants.{Bdos as ToBdos}
use Rattle.i80.specs.declared.Instr80.{Instr80}
use Rattle.i80.specs.declared.Instr80.TheVariants.{Inx, Dcx, Dad, Pop, Jif, Call}
use Rattle.i80.specs.Columns.{ends80, is_well_formed}
use Rattle.i86.specs.declared.Instr86.TheVariants.{Sahf, Int224}
use Rattle.asm86_line_types.specs.declared.line.Stmt86.{Stmt86}
use Rattle.asm86_line_types.specs.declared.line.Stmt86.TheVariants.{Run, Jcc}
use Rattle.asm80_types.specs.declared.program.Placed.{Placed}
use Rattle.templates.specs.Template.{template, label_of_goal}
use Rattle.flow.specs.Saves.{is_word_sum}
use Rattle.templates.specs.Style.{Style, ends_by_sahf, begins_by_lahf, jump_if, without_last, without_first_if, without_last_if, written_as}
use Rattle.sym_block_def.specs.Symbolic86.{Symbolic86, effect86}
use Rattle.sym_block_def.specs.Sorts.{StatementIsCoded, StatementsAreCoded}
use Rattle.sym_block_def.specs.Walk86.{Surroundings, met, walk_through, walk_some}
use Rattle.templates_law.specs.Match.Rows.{saves, all_passed}
use Rattle.templates_law.specs.Match.Exits.{is_straight, AreStraight, TemplatesAreWalked}
use Rattle.templates_law.proofs.Match.Leaving.{left_so}

pub straight_as : (first last : Bool) (xs : List Stmt86) → AreStraight xs → AreStraight (without_first_if first (without_last_if last xs))
straight_as = left_so AreStraight (record { Here = λ x. is_straight x ≡ true; none = tt; parts = λ x xs h. h; whole = λ x xs h k. (h, k) })

pub coded_as : (first last : Bool) (xs : List Stmt86) → StatementsAreCoded xs → StatementsAreCoded (without_first_if first (without_last_if last xs))
coded_as = left_so StatementsAreCoded (record { Here = StatementIsCoded; none = tt; parts = λ x xs h. h; whole = λ x xs h k. (h, k) })

-- what goes on is written by its template
pub written_on : (s : Style) (first last c : Bool) (x : Placed) (i : Instr80) → ends80 i ≡ false → written_as s first last c x i ≡ without_first_if first (without_last_if last (template i x.at (s.saves x)))
written_on s first last c x (Jif on goal) e = absurd (true≢false e)
written_on s first last c x (Call goal) e = absurd (true≢false e)
written_on s first last c x i e = refl

-- what begins by a LAHF goes on, with a save
pub sum_saves : (i : Instr80) → is_word_sum i ≡ true → saves i ≡ true
sum_saves (Inx p) e = refl
sum_saves (Dcx p) e = refl
sum_saves (Dad p) e = refl
sum_saves i e = absurd (false≢true e)

sum_goes_on : (i : Instr80) → is_word_sum i ≡ true → ends80 i ≡ false
sum_goes_on (Inx p) e = refl
sum_goes_on (Dcx p) e = refl
sum_goes_on (Dad p) e = refl
sum_goes_on i e = absurd (false≢true e)

-- so what ends a block begins by none
pub end_begins : (first save : Bool) (i : Instr80) → (first ≡ true → begins_by_lahf save i ≡ true) → ends80 i ≡ true → first ≡ false
end_begins false save i h e = refl
end_begins true save i h e = sym e ∙ sum_goes_on i (and_parts save (is_word_sum i) (h refl)).1

-- AH as the flags, where the SAHF before was left out
abbrev pub ahead : Bool → Symbolic86 → Symbolic86
ahead true t = effect86 t Sahf
ahead false t = t

-- a SAHF at the end may be left for later
pub sahf_later : (i : Instr80) (at : ℕ) (save first : Bool) (t : Symbolic86) → ends_by_sahf save i ≡ true → effect86 (all_passed t (without_first_if first (without_last (template i at save)))) Sahf ≡ all_passed t (without_first_if first (template i at save))
sahf_later (Inx p) at true true t e = refl
sahf_later (Inx p) at true false t e = refl
sahf_later (Inx p) at false first t e = absurd (false≢true e)
sahf_later (Dcx p) at true true t e = refl
sahf_later (Dcx p) at true false t e = refl
sahf_later (Dcx p) at false first t e = absurd (false≢true e)
sahf_later (Pop Psw) at save true t e = refl
sahf_later (Pop Psw) at save false t e = refl
sahf_later i at save first t e = absurd (false≢true e)

-- A block's first instruction is walked as one, also without its SAHF
some_without : (i : Instr80) (at : ℕ) (save : Bool) (w : Surroundings) (room : ℕ) (rest : List Stmt86) (t : Symbolic86) → ends_by_sahf save i ≡ true → walk_some w room (met w (without_last (template i at save) ++ rest)) t ≡ walk_through w room (met w (without_last (template i at save) ++ rest)) t
some_without (Inx p) at true w room rest t e = refl
some_without (Inx p) at false w room rest t e = absurd (false≢true e)
some_without (Dcx p) at true w room rest t e = refl
some_without (Dcx p) at false w room rest t e = absurd (false≢true e)
some_without (Pop Psw) at save w room rest t e = refl
some_without i at save w room rest t e = absurd (false≢true e)

sahf_goes_on : (i : Instr80) (save : Bool) → ends_by_sahf save i ≡ true → ends80 i ≡ false
sahf_goes_on (Inx p) save e = refl
sahf_goes_on (Dcx p) save e = refl
sahf_goes_on (Pop p) save e = refl
sahf_goes_on i save e = absurd (false≢true e)

module _ (walks : TemplatesAreWalked) (s : Style) (x : Placed) (w : Surroundings) (room : ℕ) (rest : List Stmt86) (t : Symbolic86) where
  abbrev IsSome : List Stmt86 → Type 0
  IsSome xs = walk_some w room (met w (xs ++ rest)) t ≡ walk_through w room (met w (xs ++ rest)) t

  some_whole : (c : Bool) (i : Instr80) → is_well_formed i ≡ true → IsSome (written_as s false false c x i)
  some_whole c (Jif on goal) form = cond_both (s.shortens x) (Jcc (jump_if on) (label_of_goal goal) ∷ []) (template (Jif on goal) x.at (s.saves x)) IsSome (λ q. refl) (λ q. walks.some (Jif on goal) x.at (s.saves x) w room rest t form)
  some_whole c (Call ToBdos) form = cond_both (c && s.directs x) (Run Int224 ∷ []) (template (Call ToBdos) x.at (s.saves x)) IsSome (λ q. refl) (λ q. refl)
  some_whole c i form = walks.some i x.at (s.saves x) w room rest t form

  pub some_written : (last c : Bool) (i : Instr80) → is_well_formed i ≡ true → (last ≡ true → ends_by_sahf (s.saves x) i ≡ true) → IsSome (written_as s false last c x i)
  some_written false c i form h = some_whole c i form
  some_written true c i form h =
      ap (λ xs. walk_some w room (met w (xs ++ rest)) t) (written_on s false true c x i (sahf_goes_on i (s.saves x) (h refl)))
      ∙ some_without i x.at (s.saves x) w room rest t (h refl)
      ∙ sym (ap (λ xs. walk_through w room (met w (xs ++ rest)) t) (written_on s false true c x i (sahf_goes_on i (s.saves x) (h refl))))
