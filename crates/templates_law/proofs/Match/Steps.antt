-- One instruction inside a block: the terms of both machines agree behind it on what is needed there.
use Rattle.std.proofs.Common.{◌≡◌, ℕ, ◌+◌, ◌-◌, ◌≤◌, Bool, true, false, List, ◌++◌, drop, length, inl, inr, ◌⊎◌, refl, sym, ap, ◌∙◌, subst, arith}
use Rattle.std.specs.Prelude.{◌||◌}
use Rattle.std.proofs.lemmas.Bool.{and_parts, or_right, false≢true}
use Rattle.cells.specs.declared.Part.{Part}
use Rattle.cells.specs.declared.Part.TheVariants.{S, Z, Ac, P}
use Rattle.cells.specs.Parts.{Parts, has}
use Rattle.i80.specs.declared.Instr80.{Instr80}
use Rattle.i80.specs.declared.Instr80.TheVariants.{Inx, Dcx, Dad}
use Rattle.i80.specs.Columns.{ends80, defs80}
use Rattle.i86.specs.declared.Instr86.TheVariants.{Sahf}
use Rattle.asm86_line_types.specs.declared.line.Stmt86.{Stmt86}
use Rattle.asm80_types.specs.declared.program.Placed.{Placed}
use Rattle.asm80_types.specs.Program.{Program}
use Rattle.templates.specs.Template.{template}
use Rattle.flow.specs.Blocks.{end_of}
use Rattle.flow.specs.Need.{NeedsAreClosed}
use Rattle.flow.specs.Saves.{is_word_sum}
use Rattle.flow.specs.Solving.{Needs, AreAllNeeds}
use Rattle.templates.specs.Style.{Style, ends_by_sahf, begins_by_lahf, without_first_if, without_last_if}
use Rattle.templates.specs.Lean.{has_saved_flag}
use Rattle.sym_block_def.specs.Block80.{Symbolic80, effect80}
use Rattle.sym_block_def.specs.Symbolic86.{Symbolic86, effect86}
use Rattle.sym_block_def.specs.Walk86.{Surroundings, met, walk_through}
use Rattle.sym_block_def.specs.Sorts.{AreSorted80, AreSorted86, StepsKeepSorts}
use Rattle.templates_law.specs.Match.Meeting.{Among, Agree}
use Rattle.templates_law.specs.Match.Rows.{all_passed, unsaved, loses, Behind, RowsAgree, RowsKeepSorts, PairsMayGo}
use Rattle.templates_law.proofs.Match.Terms.{or_first}
use Rattle.templates_law.proofs.Match.Moves.{has_nothing}
use Rattle.templates_law.specs.Match.Exits.{AreStraight, room_for, StatementsArePassed}
use Rattle.templates_law.proofs.Match.PlainMatching.{nothing_lost, room_is}
use Rattle.templates_law.specs.Match.Own.{Respects}
use Rattle.templates_law.proofs.Match.Runs.{IsOf}
use Rattle.templates_law.proofs.Match.Needing.{used, passed_on}
use Rattle.templates_law.proofs.Match.Written.{coded_as, sum_saves, ahead, sahf_later}

-- none of the four flags
unsaved_not : (k : Parts) → (has_saved_flag k ≡ true → ⊥) → (q : Part) → Among k q → has unsaved q ≡ false
unsaved_not k none S c = absurd (none (or_first (has k S) (has k Z || (has k Ac || has k P)) c))
unsaved_not k none Z c = absurd (none (or_right (has k S) (has k Z || (has k Ac || has k P)) (or_first (has k Z) (has k Ac || has k P) c)))
unsaved_not k none Ac c = absurd (none (or_right (has k S) (has k Z || (has k Ac || has k P)) (or_right (has k Z) (has k Ac || has k P) (or_first (has k Ac) (has k P) c))))
unsaved_not k none P c = absurd (none (or_right (has k S) (has k Z || (has k Ac || has k P)) (or_right (has k Z) (has k Ac || has k P) (or_right (has k Ac) (has k P) c))))
unsaved_not k none q c = refl

-- a template without a save loses nothing that is needed
loses_none : (k : Parts) (save : Bool) (i : Instr80) → (is_word_sum i ≡ true → has_saved_flag k ≡ true → save ≡ true) → (q : Part) → Among k q → has (loses i save) q ≡ false
loses_none k true i h q c = nothing_lost i q
loses_none k false (Inx p) h q c = unsaved_not k (λ f. false≢true (h refl f)) q c
loses_none k false (Dcx p) h q c = unsaved_not k (λ f. false≢true (h refl f)) q c
loses_none k false (Dad p) h q c = unsaved_not k (λ f. false≢true (h refl f)) q c
loses_none k false i h q c = has_nothing q

module _ (p : Program) (n : Needs) (s : Style) (closed : NeedsAreClosed p) (are : AreAllNeeds p n) (respects : Respects p n s) where
  -- what is needed behind an instruction
  needed_behind : (x : Placed) → IsOf p x → ends80 x.instr ≡ false → (q : Part) → Among (n.at (end_of x)) q → Behind (n.at x.at) x.instr (s.saves x) q
  needed_behind x is e q c = record { known = by_def (has (defs80 x.instr) q) refl; stays = loses_none (n.at (end_of x)) (s.saves x) x.instr (respects.saves x is.found) q c }
    where
      by_def : (d : Bool) → has (defs80 x.instr) q ≡ d → Among (n.at x.at) q ⊎ Among (defs80 x.instr) q
      by_def true d = inr d
      by_def false d = inl (passed_on p n closed are x is q e d c)

  module _ (sorts : StepsKeepSorts) (rows : RowsAgree) (keep : RowsKeepSorts) (pairs : PairsMayGo) (x : Placed) (is : IsOf p x) (e : ends80 x.instr ≡ false) (st : Symbolic80) (t : Symbolic86) (sorted80 : AreSorted80 st) (sorted86 : AreSorted86 t) (first : Bool) (starts : first ≡ true → begins_by_lahf (s.saves x) x.instr ≡ true) (agree : Agree (Among (n.at x.at)) st (ahead first t)) where
    abbrev whole : List Stmt86
    whole = template x.instr x.at (s.saves x)

    ahead_sorted : (f : Bool) → AreSorted86 (ahead f t)
    ahead_sorted true = sorts.effect86 t Sahf tt sorted86
    ahead_sorted false = sorted86

    row : Agree (Among (n.at (end_of x))) (effect80 st x.instr) (all_passed (ahead first t) whole)
    row =
        rows (n.at x.at) (n.at (end_of x)) x.instr x.at (s.saves x) st (ahead first t) e is.form sorted80 (ahead_sorted first) (used p n closed are x is) (needed_behind x is e) agree

    -- without the LAHF where the SAHF before was left out
    begun : (f : Bool) → (f ≡ true → begins_by_lahf (s.saves x) x.instr ≡ true) → Agree (Among (n.at (end_of x))) (effect80 st x.instr) (all_passed (ahead f t) whole) → Agree (Among (n.at (end_of x))) (effect80 st x.instr) (all_passed t (without_first_if f whole))
    begun false h a = a
    begun true h a =
        let both = and_parts (s.saves x) (is_word_sum x.instr) (h refl) in
        subst (λ v. Agree (Among (n.at (end_of x))) (effect80 st x.instr) (all_passed t (drop 1 (template x.instr x.at v)))) (sym both.0)
        (pairs (n.at (end_of x)) x.instr x.at (effect80 st x.instr) t (sum_saves x.instr both.1)
        (subst (λ v. Agree (Among (n.at (end_of x))) (effect80 st x.instr) (all_passed (effect86 t Sahf) (template x.instr x.at v))) both.0 a))

    -- and without the SAHF
    pub agree_behind : (last : Bool) → (last ≡ true → ends_by_sahf (s.saves x) x.instr ≡ true) → Agree (Among (n.at (end_of x))) (effect80 st x.instr) (ahead last (all_passed t (without_first_if first (without_last_if last whole))))
    agree_behind false h = begun first starts row
    agree_behind true h = subst (λ u. Agree (Among (n.at (end_of x))) (effect80 st x.instr) u) (sym (sahf_later x.instr x.at (s.saves x) first t (h refl))) (begun first starts row)

    pub sorted_behind80 : AreSorted80 (effect80 st x.instr)
    sorted_behind80 = sorts.effect80 st x.instr is.coded sorted80

    pub sorted_behind86 : (last : Bool) → AreSorted86 (all_passed t (without_first_if first (without_last_if last whole)))
    sorted_behind86 last = keep.passed (without_first_if first (without_last_if last whole)) t (coded_as first last whole (keep.coded x.instr x.at (s.saves x) is.coded)) sorted86

-- statements that are few are passed, and room is left
pub record Passes (w : Surroundings) (xs rest : List Stmt86) (room least : ℕ) (t : Symbolic86) : Type 0 where
  pub left : ℕ
  pub enough : least ≤ left
  pub is : walk_through w room (met w (xs ++ rest)) t ≡ walk_through w left (met w rest) (all_passed t xs)

pub passes : StatementsArePassed → (w : Surroundings) (xs rest : List Stmt86) (room least : ℕ) (t : Symbolic86) → AreStraight xs → length xs ≤ 5 → 10 + least ≤ room → Passes w xs rest room least t
passes passed w xs rest room least t straight few enough = record {
  left = room - length xs;
  enough = omega (arith, few, enough);
  is = ap (λ m. walk_through w m (met w (xs ++ rest)) t) counted ∙ passed w xs rest (room - length xs) t straight;
}
  where
    counted : room ≡ room_for xs (room - length xs)
    counted = let is = room_is xs (room - length xs) in omega (arith, few, is, enough)
