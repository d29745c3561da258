-- States that agree, behind a write of a part or of SP, and behind a load or a store.
use Rattle.std.proofs.Common.{◌≡◌, suc, ◌⊎◌, inl, inr, Bool, true, false, List, [], ◌∷◌, ◌++◌, refl, sym, ap, ◌∙◌}
use Rattle.std.proofs.lemmas.Bool.{and_from, and_parts, or_cases, true≢false, false≢true}
use Rattle.cells.specs.declared.Part.{Part}
use Rattle.cells.specs.declared.Part.TheVariants.{A, B, C, D, E, H, L, S, Z, Ac, P, Cy}
use Rattle.cells.specs.Parts.{Parts, nothing, has, only, union}
use Rattle.cells.proofs.Unions.{has_union}
use Rattle.i80.specs.declared.Reg.{Reg as Register}
use Rattle.i80.specs.declared.Reg.TheVariants.{A as RegA, B as RegB, C as RegC, D as RegD, E as RegE, H as RegH, L as RegL}
use Rattle.i80.specs.declared.Pair.{Pair}
use Rattle.i80.specs.declared.Pair.TheVariants.{B as PairB, D as PairD, H as PairH, Sp as PairSp}
use Rattle.i80.specs.Columns.{part_of_reg, pair, five_flags}
use Rattle.templates.specs.Template.{reg_of, word_register}
use Rattle.sym_terms.specs.Term.{Term, Loaded8, Loaded16}
use Rattle.sym_block_def.specs.Outcome.{Action, Load8, Load16, Store8, Store16, Held, term_in, with_flags_of, with_count_flags_of}
use Rattle.sym_block_def.specs.Block80.{Symbolic80, reg_term, with_reg, pair_term, with_pair, with_held, load8, load16, store8, store16, next_byte, next_word}
use Rattle.sym_block_def.specs.Symbolic86.{Symbolic86, reg8_term, with_reg8, reg16_term, with_reg16, losing_flags, with_held as with_held86, load8 as load8_86, load16 as load16_86, store8 as store8_86, store16 as store16_86, next_byte as next_byte86, next_word as next_word86}
use Rattle.sym_block_def.specs.Sorts.{AreSorted80, AreSorted86}
use Rattle.sym_block_def.specs.Agree.{agrees, action_agrees, actions_agree}
use Rattle.templates_law.specs.Match.Meeting.{Meets, same, WordsMeet, one_word, Among, Agree}
use Rattle.templates_law.specs.Match.Rows.{unsaved}
use Rattle.templates_law.proofs.Match.Terms.{flags_meet}
use Rattle.templates_law.proofs.Match.Words.{joins_meet, highs_meet, lows_meet}

-- sets of parts

abbrev pub Adding : (Part → Type 0) → Parts → Part → Type 0
Adding Kept d q = Kept q ⊎ Among d q

-- what is not added was there before
pub old : {K : Type 0} {b : Bool} → K ⊎ (b ≡ true) → b ≡ false → K
old (inl c) e = c
old (inr c) e = absurd (true≢false (sym c ∙ e))

pub has_nothing : (q : Part) → has nothing q ≡ false
has_nothing A = refl
has_nothing q = refl

-- fewer parts
pub agree_on : {Kept Fewer : Part → Type 0} (s : Symbolic80) (t : Symbolic86) → ((q : Part) → Fewer q → Kept q) → Agree Kept s t → Agree Fewer s t
agree_on s t f a = record { parts = λ q c. a.parts q (f q c); sp = a.sp; actions = a.actions; loads = a.loads }

-- the same parts, with nothing added
pub agree_none : {Kept : Part → Type 0} (s : Symbolic80) (t : Symbolic86) → Agree Kept s t → Agree (Adding Kept nothing) s t
agree_none s t a = agree_on s t (λ q c. old c (has_nothing q)) a

-- added one after the other, and both
pub agree_both : {Kept : Part → Type 0} (d e : Parts) (s : Symbolic80) (t : Symbolic86) → Agree (Adding (Adding Kept d) e) s t → Agree (Adding Kept (union d e)) s t
agree_both {Kept} d e s t a = agree_on s t into a
  where
    by_one : (q : Part) → (has d q ≡ true) ⊎ (has e q ≡ true) → Adding (Adding Kept d) e q
    by_one q (inl c) = inl (inr c)
    by_one q (inr c) = inr c

    into : (q : Part) → Adding Kept (union d e) q → Adding (Adding Kept d) e q
    into q (inl c) = inl (inl c)
    into q (inr c) = by_one q (or_cases (has d q) (has e q) (sym (has_union d e q) ∙ c))

-- registers

abbrev pub PartsMeet : (Part → Type 0) → Held → Held → Type 0
PartsMeet Kept x y = (q : Part) → Kept q → Meets (term_in x q) (term_in y q)

reg_written : {Kept : Part → Type 0} (x y : Held) (r : Register) (t u : Term) → PartsMeet Kept x y → Meets t u → PartsMeet (Adding Kept (only (part_of_reg r))) (with_reg x r t) (with_reg y r u)
reg_written x y RegA t u m n A c = n
reg_written x y RegA t u m n q c = m q (old c refl)
reg_written x y RegB t u m n B c = n
reg_written x y RegB t u m n q c = m q (old c refl)
reg_written x y RegC t u m n C c = n
reg_written x y RegC t u m n q c = m q (old c refl)
reg_written x y RegD t u m n D c = n
reg_written x y RegD t u m n q c = m q (old c refl)
reg_written x y RegE t u m n E c = n
reg_written x y RegE t u m n q c = m q (old c refl)
reg_written x y RegH t u m n H c = n
reg_written x y RegH t u m n q c = m q (old c refl)
reg_written x y RegL t u m n L c = n
reg_written x y RegL t u m n q c = m q (old c refl)

pub agree_reg : {Kept : Part → Type 0} (r : Register) (s : Symbolic80) (t : Symbolic86) (v w : Term) → Meets v w → Agree Kept s t → Agree (Adding Kept (only (part_of_reg r))) (with_held s (with_reg s.held r v)) (with_reg8 t (reg_of r) w)
agree_reg RegA s t v w m a = record { parts = reg_written s.held t.held RegA v w a.parts m; sp = a.sp; actions = a.actions; loads = a.loads }
agree_reg RegB s t v w m a = record { parts = reg_written s.held t.held RegB v w a.parts m; sp = a.sp; actions = a.actions; loads = a.loads }
agree_reg RegC s t v w m a = record { parts = reg_written s.held t.held RegC v w a.parts m; sp = a.sp; actions = a.actions; loads = a.loads }
agree_reg RegD s t v w m a = record { parts = reg_written s.held t.held RegD v w a.parts m; sp = a.sp; actions = a.actions; loads = a.loads }
agree_reg RegE s t v w m a = record { parts = reg_written s.held t.held RegE v w a.parts m; sp = a.sp; actions = a.actions; loads = a.loads }
agree_reg RegH s t v w m a = record { parts = reg_written s.held t.held RegH v w a.parts m; sp = a.sp; actions = a.actions; loads = a.loads }
agree_reg RegL s t v w m a = record { parts = reg_written s.held t.held RegL v w a.parts m; sp = a.sp; actions = a.actions; loads = a.loads }

pub reg_meets : {Kept : Part → Type 0} (r : Register) (s : Symbolic80) (t : Symbolic86) → Agree Kept s t → Kept (part_of_reg r) → Meets (reg_term s.held r) (reg8_term t (reg_of r))
reg_meets RegA s t a c = a.parts A c
reg_meets RegB s t a c = a.parts B c
reg_meets RegC s t a c = a.parts C c
reg_meets RegD s t a c = a.parts D c
reg_meets RegE s t a c = a.parts E c
reg_meets RegH s t a c = a.parts H c
reg_meets RegL s t a c = a.parts L c

-- pairs, and SP

pair_b : {Kept : Part → Type 0} (x y : Held) (h h' l l' : Term) → PartsMeet Kept x y → Meets h h' → Meets l l' → PartsMeet (Adding Kept (pair PairB)) (record x { b = h; c = l }) (record y { b = h'; c = l' })
pair_b x y h h' l l' m mh ml B c = mh
pair_b x y h h' l l' m mh ml C c = ml
pair_b x y h h' l l' m mh ml q c = m q (old c refl)

pair_d : {Kept : Part → Type 0} (x y : Held) (h h' l l' : Term) → PartsMeet Kept x y → Meets h h' → Meets l l' → PartsMeet (Adding Kept (pair PairD)) (record x { d = h; e = l }) (record y { d = h'; e = l' })
pair_d x y h h' l l' m mh ml D c = mh
pair_d x y h h' l l' m mh ml E c = ml
pair_d x y h h' l l' m mh ml q c = m q (old c refl)

pair_h : {Kept : Part → Type 0} (x y : Held) (h h' l l' : Term) → PartsMeet Kept x y → Meets h h' → Meets l l' → PartsMeet (Adding Kept (pair PairH)) (record x { h = h; l = l }) (record y { h = h'; l = l' })
pair_h x y h h' l l' m mh ml H c = mh
pair_h x y h h' l l' m mh ml L c = ml
pair_h x y h h' l l' m mh ml q c = m q (old c refl)

pub agree_pair : {Kept : Part → Type 0} (p : Pair) (s : Symbolic80) (t : Symbolic86) (v w : Term) → WordsMeet v w → Agree Kept s t → Agree (Adding Kept (pair p)) (with_pair s p v) (with_reg16 t (word_register p) w)
agree_pair PairB s t v w m a = record { parts = pair_b s.held t.held _ _ _ _ a.parts (highs_meet v w m) (lows_meet v w m); sp = a.sp; actions = a.actions; loads = a.loads }
agree_pair PairD s t v w m a = record { parts = pair_d s.held t.held _ _ _ _ a.parts (highs_meet v w m) (lows_meet v w m); sp = a.sp; actions = a.actions; loads = a.loads }
agree_pair PairH s t v w m a = record { parts = pair_h s.held t.held _ _ _ _ a.parts (highs_meet v w m) (lows_meet v w m); sp = a.sp; actions = a.actions; loads = a.loads }
agree_pair PairSp s t v w m a = record { parts = λ q c. a.parts q (old c (has_nothing q)); sp = m; actions = a.actions; loads = a.loads }

pub pair_meets : {Kept : Part → Type 0} (p : Pair) (s : Symbolic80) (t : Symbolic86) → AreSorted80 s → AreSorted86 t → Agree Kept s t → ((q : Part) → Among (pair p) q → Kept q) → WordsMeet (pair_term s p) (reg16_term t (word_register p))
pair_meets PairB s t x y a k = joins_meet s.held.b t.held.b s.held.c t.held.c x.held.b x.held.c y.held.c (a.parts B (k B refl)) (a.parts C (k C refl))
pair_meets PairD s t x y a k = joins_meet s.held.d t.held.d s.held.e t.held.e x.held.d x.held.e y.held.e (a.parts D (k D refl)) (a.parts E (k E refl))
pair_meets PairH s t x y a k = joins_meet s.held.h t.held.h s.held.l t.held.l x.held.h x.held.l y.held.l (a.parts H (k H refl)) (a.parts L (k L refl))
pair_meets PairSp s t x y a k = a.sp

pub agree_sp : {Kept : Part → Type 0} (s : Symbolic80) (t : Symbolic86) (v w : Term) → WordsMeet v w → Agree Kept s t → Agree Kept (record s { sp = v }) (record t { sp = w })
agree_sp s t v w m a = record { parts = a.parts; sp = m; actions = a.actions; loads = a.loads }

-- AH and SI are no parts
pub agree_beside : {Kept : Part → Type 0} (s : Symbolic80) (t : Symbolic86) (x y : Term) → Agree Kept s t → Agree Kept s (record t { ah = x; si = y })
agree_beside s t x y a = record { parts = a.parts; sp = a.sp; actions = a.actions; loads = a.loads }

-- flags

flags_written : {Kept : Part → Type 0} (x y : Held) (r r' : Term) → PartsMeet Kept x y → Meets r r' → PartsMeet (Adding Kept five_flags) (with_flags_of r x) (with_flags_of r' y)
flags_written x y r r' m n S c = flags_meet S r r' n
flags_written x y r r' m n Z c = flags_meet Z r r' n
flags_written x y r r' m n Ac c = flags_meet Ac r r' n
flags_written x y r r' m n P c = flags_meet P r r' n
flags_written x y r r' m n Cy c = flags_meet Cy r r' n
flags_written x y r r' m n q c = m q (old c refl)

pub agree_flags : {Kept : Part → Type 0} (s : Symbolic80) (t : Symbolic86) (r r' : Term) → Meets r r' → Agree Kept s t → Agree (Adding Kept five_flags) (with_held s (with_flags_of r s.held)) (with_held86 t (with_flags_of r' t.held))
agree_flags s t r r' m a = record { parts = flags_written s.held t.held r r' a.parts m; sp = a.sp; actions = a.actions; loads = a.loads }

count_flags_written : {Kept : Part → Type 0} (x y : Held) (r r' : Term) → PartsMeet Kept x y → Meets r r' → PartsMeet (Adding Kept unsaved) (with_count_flags_of r x) (with_count_flags_of r' y)
count_flags_written x y r r' m n S c = flags_meet S r r' n
count_flags_written x y r r' m n Z c = flags_meet Z r r' n
count_flags_written x y r r' m n Ac c = flags_meet Ac r r' n
count_flags_written x y r r' m n P c = flags_meet P r r' n
count_flags_written x y r r' m n q c = m q (old c refl)

pub agree_count_flags : {Kept : Part → Type 0} (s : Symbolic80) (t : Symbolic86) (r r' : Term) → Meets r r' → Agree Kept s t → Agree (Adding Kept unsaved) (with_held s (with_count_flags_of r s.held)) (with_held86 t (with_count_flags_of r' t.held))
agree_count_flags s t r r' m a = record { parts = count_flags_written s.held t.held r r' a.parts m; sp = a.sp; actions = a.actions; loads = a.loads }

cy_written : {Kept : Part → Type 0} (x y : Held) (v w : Term) → PartsMeet Kept x y → Meets v w → PartsMeet (Adding Kept (only Cy)) (record x { cy = v }) (record y { cy = w })
cy_written x y v w m n Cy c = n
cy_written x y v w m n q c = m q (old c refl)

pub agree_cy : {Kept : Part → Type 0} (s : Symbolic80) (t : Symbolic86) (v w : Term) → Meets v w → Agree Kept s t → Agree (Adding Kept (only Cy)) (with_held s (record (s.held) { cy = v })) (with_held86 t (record (t.held) { cy = w }))
agree_cy s t v w m a = record { parts = cy_written s.held t.held v w a.parts m; sp = a.sp; actions = a.actions; loads = a.loads }

-- flags that are lost need not agree
flags_lost : {Kept : Part → Type 0} (x : Held) (t : Symbolic86) → PartsMeet Kept x t.held → PartsMeet (λ q. Kept q × (has unsaved q ≡ false)) x (losing_flags t).held
flags_lost x t m S c = absurd (true≢false c.1)
flags_lost x t m Z c = absurd (true≢false c.1)
flags_lost x t m Ac c = absurd (true≢false c.1)
flags_lost x t m P c = absurd (true≢false c.1)
flags_lost x t m A c = m A c.0
flags_lost x t m q c = m q c.0

pub agree_losing : {Kept : Part → Type 0} (s : Symbolic80) (t : Symbolic86) → Agree Kept s t → Agree (λ q. Kept q × (has unsaved q ≡ false)) s (losing_flags t)
agree_losing s t a = record { parts = flags_lost s.held t a.parts; sp = a.sp; actions = a.actions; loads = a.loads }

-- loads and stores

one_more : (xs ys : List Action) (x y : Action) → actions_agree xs ys ≡ true → action_agrees x y ≡ true → actions_agree (xs ++ x ∷ []) (ys ++ y ∷ []) ≡ true
one_more [] [] x y e f = and_from (action_agrees x y) true f refl
one_more (z ∷ xs) (w ∷ ys) x y e f =
    let both = and_parts (action_agrees z w) (actions_agree xs ys) e in
    and_from (action_agrees z w) _ both.0 (one_more xs ys x y both.1 f)
one_more xs ys x y e f = absurd (false≢true e)

pub agree_load8 : {Kept : Part → Type 0} (s : Symbolic80) (t : Symbolic86) (at at' : Term) → agrees at at' ≡ true → Agree Kept s t → Agree Kept (load8 s at) (load8_86 t at')
agree_load8 s t at at' e a = record { parts = a.parts; sp = a.sp; actions = one_more s.trace.actions t.trace.actions (Load8 at) (Load8 at') a.actions e; loads = ap suc a.loads }

pub agree_load16 : {Kept : Part → Type 0} (s : Symbolic80) (t : Symbolic86) (at at' : Term) → agrees at at' ≡ true → Agree Kept s t → Agree Kept (load16 s at) (load16_86 t at')
agree_load16 s t at at' e a = record { parts = a.parts; sp = a.sp; actions = one_more s.trace.actions t.trace.actions (Load16 at) (Load16 at') a.actions e; loads = ap suc a.loads }

pub agree_store8 : {Kept : Part → Type 0} (s : Symbolic80) (t : Symbolic86) (at at' v w : Term) → agrees at at' ≡ true → agrees v w ≡ true → Agree Kept s t → Agree Kept (store8 s at v) (store8_86 t at' w)
agree_store8 s t at at' v w e f a = record { parts = a.parts; sp = a.sp; actions = one_more s.trace.actions t.trace.actions (Store8 at v) (Store8 at' w) a.actions (and_from (agrees at at') (agrees v w) e f); loads = a.loads }

pub agree_store16 : {Kept : Part → Type 0} (s : Symbolic80) (t : Symbolic86) (at at' v w : Term) → agrees at at' ≡ true → agrees v w ≡ true → Agree Kept s t → Agree Kept (store16 s at v) (store16_86 t at' w)
agree_store16 s t at at' v w e f a = record { parts = a.parts; sp = a.sp; actions = one_more s.trace.actions t.trace.actions (Store16 at v) (Store16 at' w) a.actions (and_from (agrees at at') (agrees v w) e f); loads = a.loads }

-- what the next load brings
pub next_bytes_meet : {Kept : Part → Type 0} (s : Symbolic80) (t : Symbolic86) → Agree Kept s t → Meets (next_byte s) (next_byte86 t)
next_bytes_meet s t a = same (ap Loaded8 a.loads) refl

pub next_words_meet : {Kept : Part → Type 0} (s : Symbolic80) (t : Symbolic86) → Agree Kept s t → WordsMeet (next_word s) (next_word86 t)
next_words_meet s t a = one_word (ap Loaded16 a.loads) refl
