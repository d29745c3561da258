-- The rows of the moves: bytes, words, loads and stores.
use Rattle.std.proofs.Common.{◌≡◌, ℕ, Bool, true, [], ◌∷◌, refl}
use Rattle.std.proofs.lemmas.Bool.{false≢true}
use Rattle.cells.specs.declared.Part.{Part}
use Rattle.cells.specs.declared.Part.TheVariants.{A, D, E, H, L}
use Rattle.cells.specs.Parts.{only, nothing, these}
use Rattle.i80.specs.declared.Reg.TheVariants.{A as RegA}
use Rattle.i80.specs.declared.Src.{Src}
use Rattle.i80.specs.declared.Src.TheVariants.{Reg as InReg, Mem}
use Rattle.i80.specs.declared.Pair.{Pair}
use Rattle.i80.specs.declared.Pair.TheVariants.{H as PairH}
use Rattle.i80.specs.declared.Word.{Word}
use Rattle.i80.specs.declared.Word.TheVariants.{Num as Number, Code as CodeAt}
use Rattle.i80.specs.declared.Instr80.TheVariants.{Nop, Mov, Mvi, Lxi, Lda, Sta, Lhld, Shld, Ldax, Stax, Xchg, Sphl}
use Rattle.i80.specs.Columns.{part_of_reg, pair, is_well_formed, read}
use Rattle.sym_terms.specs.Term.{Term, Num}
use Rattle.sym_block_def.specs.Outcome.{Held}
use Rattle.templates_law.specs.Match.Meeting.{Meets, one_word}
use Rattle.templates_law.proofs.Match.Terms.{meets_agree, meets_at, number_meets}
use Rattle.templates_law.proofs.Match.Words.{low_of_join, high_of_join, words_agree, number_words_meet}
use Rattle.templates_law.proofs.Match.Moves.{Adding, PartsMeet, old, agree_none, agree_reg, reg_meets, agree_pair, pair_meets, agree_sp, agree_beside, agree_load8, agree_load16, agree_store8, agree_store16, next_bytes_meet, next_words_meet}
use Rattle.templates_law.proofs.Match.Row.{Given, Agreeing, Row, in_second, itself, address}

four_written : {Kept : Part → Type 0} (x y : Held) (d d' e e' h h' l l' : Term) → PartsMeet Kept x y → Meets d d' → Meets e e' → Meets h h' → Meets l l' → PartsMeet (Adding Kept (these (D ∷ E ∷ H ∷ L ∷ []))) (record x { d = d; e = e; h = h; l = l }) (record y { d = d'; e = e'; h = h'; l = l' })
four_written x y d d' e e' h h' l l' m md me mh ml D c = md
four_written x y d d' e e' h h' l l' m md me mh ml E c = me
four_written x y d d' e e' h h' l l' m md me mh ml H c = mh
four_written x y d d' e e' h h' l l' m md me mh ml L c = ml
four_written x y d d' e e' h h' l l' m md me mh ml q c = m q (old c refl)

module _ (now : Agreeing) (save : Bool) where
  open now use {before, s, t, x, y, a}

  pub row_nop : Row now Nop save
  row_nop = agree_none s t a

  pub row_mov : (to from : Src) → is_well_formed (Mov to from) ≡ true → Given before (Mov to from) → Row now (Mov to from) save
  row_mov (InReg r) (InReg q) w k = agree_reg r s t _ _ (reg_meets q s t a (k (part_of_reg q) (in_second nothing _ (part_of_reg q) (itself q)))) a
  row_mov (InReg r) Mem w k = agree_reg r _ _ _ _ (next_bytes_meet s t a) (agree_load8 s t _ _ (address now (k H refl) (k L refl)) a)
  row_mov Mem (InReg q) w k =
      agree_none _ _
      (agree_store8 s t _ _ _ _ (address now (k H refl) (k L refl))
      (meets_agree _ _ (reg_meets q s t a (k (part_of_reg q) (in_second (read Mem) _ (part_of_reg q) (itself q))))) a)
  row_mov Mem Mem w k = absurd (false≢true w)

  pub row_mvi : (to : Src) (n : ℕ) → Given before (Mvi to n) → Row now (Mvi to n) save
  row_mvi (InReg r) n k = agree_reg r s t _ _ (number_meets n) a
  row_mvi Mem n k = agree_none _ _ (agree_store8 s t _ _ _ _ (address now (k H refl) (k L refl)) (meets_agree _ _ (number_meets n)) a)

  pub row_lxi : (p : Pair) (w : Word) → Row now (Lxi p w) save
  row_lxi p (Number w) = agree_pair p s t _ _ (number_words_meet w) a
  row_lxi p (CodeAt c) = agree_pair p s t _ _ (one_word refl refl) a

  pub row_lda : (n : ℕ) → Row now (Lda n) save
  row_lda n = agree_reg RegA _ _ _ _ (next_bytes_meet s t a) (agree_load8 s t (Num n) (Num n) (words_agree _ _ (number_words_meet n)) a)

  pub row_sta : (n : ℕ) → Given before (Sta n) → Row now (Sta n) save
  row_sta n k = agree_none _ _ (agree_store8 s t (Num n) (Num n) _ _ (words_agree _ _ (number_words_meet n)) (meets_agree _ _ (a.parts A (k A refl))) a)

  pub row_lhld : (n : ℕ) → Row now (Lhld n) save
  row_lhld n = agree_pair PairH _ _ _ _ (next_words_meet s t a) (agree_load16 s t (Num n) (Num n) (words_agree _ _ (number_words_meet n)) a)

  pub row_shld : (n : ℕ) → Given before (Shld n) → Row now (Shld n) save
  row_shld n k = agree_none _ _ (agree_store16 s t (Num n) (Num n) _ _ (words_agree _ _ (number_words_meet n)) (address now (k H refl) (k L refl)) a)

  -- SI takes the address
  pub row_ldax : (p : Pair) → Given before (Ldax p) → Row now (Ldax p) save
  row_ldax p k =
      agree_reg RegA _ _ _ _ (next_bytes_meet s t a)
      (agree_load8 s _ _ _ (words_agree _ _ (pair_meets p s t x y a k)) (agree_beside s t t.ah _ a))

  pub row_stax : (p : Pair) → Given before (Stax p) → Row now (Stax p) save
  row_stax p k =
      agree_none _ _
      (agree_store8 s _ _ _ _ _ (words_agree _ _ (pair_meets p s t x y a (λ q c. k q (in_second (only A) (pair p) q c))))
      (meets_agree _ _ (a.parts A (k A refl)))
      (agree_beside s t t.ah _ a))

  pub row_xchg : Given before Xchg → Row now Xchg save
  row_xchg k = record {
    parts = four_written s.held t.held _ _ _ _ _ _ _ _ a.parts
        (meets_at _ _ _ _ refl (high_of_join t.held.h t.held.l y.held.h y.held.l) (a.parts H (k H refl)))
        (meets_at _ _ _ _ refl (low_of_join t.held.h t.held.l y.held.l) (a.parts L (k L refl)))
        (meets_at _ _ _ _ refl (high_of_join t.held.d t.held.e y.held.d y.held.e) (a.parts D (k D refl)))
        (meets_at _ _ _ _ refl (low_of_join t.held.d t.held.e y.held.e) (a.parts E (k E refl)));
    sp = a.sp;
    actions = a.actions;
    loads = a.loads;
  }

  pub row_sphl : Given before Sphl → Row now Sphl save
  row_sphl k = agree_none _ _ (agree_sp s t _ _ (pair_meets PairH s t x y a k) a)
