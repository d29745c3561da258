-- The rows of the stack.
use Rattle.std.proofs.Common.{◌≡◌, ℕ, Bool, true, refl, ap, ◌∙◌}
use Rattle.std.proofs.lemmas.Bool.{or_right, and_from}
use Rattle.cells.specs.declared.Part.{Part}
use Rattle.cells.specs.declared.Part.TheVariants.{A, H, L, S, Z, Ac, P, Cy}
use Rattle.cells.specs.Parts.{only, union}
use Rattle.i80.specs.declared.Pair.TheVariants.{B as PairB, D as PairD, H as PairH}
use Rattle.i80.specs.declared.StackPair.{StackPair}
use Rattle.i80.specs.declared.StackPair.TheVariants.{B as StackB, D as StackD, H as StackH, Psw}
use Rattle.i80.specs.declared.Instr80.TheVariants.{Xthl, Push, Pop}
use Rattle.i80.specs.Columns.{five_flags}
use Rattle.sym_terms.specs.Term.{Term, Num, Loaded16, High, Low, Join, FlagByte}
use Rattle.sym_terms.specs.Making.{sum16, join, bit}
use Rattle.sym_block_def.specs.Outcome.{Held, with_flags_in}
use Rattle.sym_block_def.specs.Block80.{flag_byte}
use Rattle.sym_block_def.specs.Symbolic86.{next_word as next_word86}
use Rattle.sym_block_def.specs.Agree.{agrees, same_known}
use Rattle.templates_law.specs.Match.Meeting.{Meets, same, WordsMeet}
use Rattle.templates_law.proofs.Match.Terms.{meets_agree}
use Rattle.templates_law.proofs.Match.Words.{words_agree, sums_meet, number_words_meet}
use Rattle.templates_law.proofs.Match.Moves.{Adding, PartsMeet, old, agree_none, agree_pair, pair_meets, agree_sp, agree_beside, agree_load16, agree_store16, next_words_meet}
use Rattle.templates_law.proofs.Match.Row.{Given, Agreeing, Row, address}

-- A above the byte of flags
join_flag_byte : (h s z ac p cy : Term) → join h (FlagByte s z ac p cy) ≡ Join h (FlagByte s z ac p cy)
join_flag_byte (Num n) s z ac p cy = refl
join_flag_byte h s z ac p cy = refl

psw_agrees : (x y : Held) → Meets x.a y.a → Meets x.s y.s → Meets x.z y.z → Meets x.ac y.ac → Meets x.p y.p → Meets x.cy y.cy → agrees (join x.a (flag_byte x)) (join y.a (flag_byte y)) ≡ true
psw_agrees x y a s z ac p cy =
    ap (λ w. agrees w (join y.a (flag_byte y))) (join_flag_byte x.a x.s x.z x.ac x.p x.cy)
    ∙ ap (λ w. agrees (Join x.a (flag_byte x)) w) (join_flag_byte y.a y.s y.z y.ac y.p y.cy)
    ∙ or_right (same_known (Join x.a (flag_byte x)) (Join y.a (flag_byte y))) _
    (and_from (agrees x.a y.a) _ (meets_agree _ _ a)
    (or_right (same_known (flag_byte x) (flag_byte y)) _
    (and_from (agrees x.s y.s) _ (meets_agree _ _ s)
    (and_from (agrees x.z y.z) _ (meets_agree _ _ z)
    (and_from (agrees x.ac y.ac) _ (meets_agree _ _ ac)
    (and_from (agrees x.p y.p) (agrees x.cy y.cy) (meets_agree _ _ p) (meets_agree _ _ cy)))))))

-- A and the flags of a loaded word
psw_written : {Kept : Part → Type 0} (x y : Held) (k k' : ℕ) → k' ≡ k → PartsMeet Kept x y → PartsMeet (Adding Kept (union (only A) five_flags)) (with_flags_in (Low (Loaded16 k)) (record x { a = High (Loaded16 k) })) (with_flags_in (Low (Loaded16 k')) (record y { a = High (Loaded16 k') }))
psw_written x y k k' e m A c = same (ap (λ n. High (Loaded16 n)) e) refl
psw_written x y k k' e m S c = same (ap (λ n. bit (Low (Loaded16 n)) S) e) refl
psw_written x y k k' e m Z c = same (ap (λ n. bit (Low (Loaded16 n)) Z) e) refl
psw_written x y k k' e m Ac c = same (ap (λ n. bit (Low (Loaded16 n)) Ac) e) refl
psw_written x y k k' e m P c = same (ap (λ n. bit (Low (Loaded16 n)) P) e) refl
psw_written x y k k' e m Cy c = same (ap (λ n. bit (Low (Loaded16 n)) Cy) e) refl
psw_written x y k k' e m q c = m q (old c refl)

module _ (now : Agreeing) (save : Bool) where
  open now use {before, s, t, x, y, a}

  lowered : WordsMeet (sum16 s.sp (Num 0xFFFE)) (sum16 t.sp (Num 0xFFFE))
  lowered = sums_meet _ _ _ _ a.sp (number_words_meet 0xFFFE)

  raised : WordsMeet (sum16 s.sp (Num 2)) (sum16 t.sp (Num 2))
  raised = sums_meet _ _ _ _ a.sp (number_words_meet 2)

  pub row_push : (p : StackPair) → Given before (Push p) → Row now (Push p) save
  row_push StackB k = agree_none _ _ (agree_sp _ _ _ _ lowered (agree_store16 s t _ _ _ _ (words_agree _ _ lowered) (words_agree _ _ (pair_meets PairB s t x y a k)) a))
  row_push StackD k = agree_none _ _ (agree_sp _ _ _ _ lowered (agree_store16 s t _ _ _ _ (words_agree _ _ lowered) (words_agree _ _ (pair_meets PairD s t x y a k)) a))
  row_push StackH k = agree_none _ _ (agree_sp _ _ _ _ lowered (agree_store16 s t _ _ _ _ (words_agree _ _ lowered) (words_agree _ _ (pair_meets PairH s t x y a k)) a))
  row_push Psw k =
      agree_none _ _
      (agree_beside _ _ (flag_byte t.held) t.si
      (agree_sp _ _ _ _ lowered
      (agree_store16 s t _ _ _ _ (words_agree _ _ lowered)
      (psw_agrees s.held t.held (a.parts A (k A refl)) (a.parts S (k S refl)) (a.parts Z (k Z refl)) (a.parts Ac (k Ac refl)) (a.parts P (k P refl)) (a.parts Cy (k Cy refl))) a)))

  pub row_pop : (p : StackPair) → Row now (Pop p) save
  row_pop StackB = agree_pair PairB _ _ _ _ (next_words_meet s t a) (agree_sp _ _ _ _ raised (agree_load16 s t _ _ (words_agree _ _ a.sp) a))
  row_pop StackD = agree_pair PairD _ _ _ _ (next_words_meet s t a) (agree_sp _ _ _ _ raised (agree_load16 s t _ _ (words_agree _ _ a.sp) a))
  row_pop StackH = agree_pair PairH _ _ _ _ (next_words_meet s t a) (agree_sp _ _ _ _ raised (agree_load16 s t _ _ (words_agree _ _ a.sp) a))
  row_pop Psw =
      let b = agree_load16 s t _ _ (words_agree _ _ a.sp) a in
      record { parts = psw_written s.held t.held s.trace.loads t.trace.loads a.loads a.parts; sp = raised; actions = b.actions; loads = b.loads }

  pub row_xthl : Given before Xthl → Row now Xthl save
  row_xthl k =
      let back : WordsMeet (sum16 (sum16 s.sp (Num 2)) (Num 0xFFFE)) (sum16 (sum16 t.sp (Num 2)) (Num 0xFFFE)) = sums_meet _ _ _ _ raised (number_words_meet 0xFFFE) in
      agree_pair PairH _ _ _ _ (next_words_meet s t a)
      (agree_beside _ _ t.ah (next_word86 t)
      (agree_sp _ _ _ _ back
      (agree_store16 _ _ _ _ _ _ (words_agree _ _ back) (address now (k H refl) (k L refl)) (agree_load16 s t _ _ (words_agree _ _ a.sp) a))))
