-- Actions that agree, one by one.
use Rattle.std.proofs.Common.{◌≡◌, ℕ, ◌+◌, ◌/◌, ◌%◌, ◌<◌, ◌==◌, Bool, true, false, cond, List, [], ◌∷◌, ◌++◌, Option, sym, ap, subst, ◌∙◌, arith, append_assoc}
use Rattle.std.proofs.lemmas.Bool.{and_parts}
use Rattle.std.proofs.lemmas.List.{append-nil}
use Rattle.cells.specs.declared.Place.{Place}
use Rattle.cells.specs.declared.Cell.{Cell}
use Rattle.cells.specs.declared.Cell.TheVariants.{Num as NumCell}
use Rattle.asm80_types.specs.Program.{Program}
use Rattle.cpu80_tagged.specs.Memory.{put as put80}
use Rattle.dialogue.specs.ByteMemory.{put, word_at}
use Rattle.dialogue.specs.Words.{word, wrap}
use Rattle.cpu86.specs.State.{put_word}
use Rattle.sym_terms.specs.Term.{Term, is_word}
use Rattle.sym_terms.specs.Values80.{Env80, Load80, LoadedByte, LoadedWord, word_of, Val80}
use Rattle.sym_terms.specs.Values86.{Env86, Load86, LoadedByte as LoadedByte86, LoadedWord as LoadedWord86, Number, Val86}
use Rattle.sym_terms.specs.Laws.{IsMadeAs}
use Rattle.sym_block_def.specs.Outcome.{Action, Load8, Load16, Store8, Store16}
use Rattle.sym_block_def.specs.Sorts.{ActionsAreSorted}
use Rattle.sym_block_def.specs.Agree.{agrees, action_agrees, actions_agree}
use Rattle.sym_block_def.specs.Stands.{Stands}
use Rattle.simulation_def.specs.Runs80.{with_load80, Replays80}
use Rattle.simulation_def.specs.Runs86.{with_load86, Replays86}
use Rattle.simulation_law.specs.Linked.{WordStands, LoadsStand, EnvsStand, AgreeingTermsStand}
use Rattle.simulation_law.specs.Replayed.{MemoryStands, ReplayedStand, AgreeingActionsStand}

-- one load more on either side
loads_snoc8 : (offset : Place → Option ℕ) (xs : List Load80) (ys : List Load86) (c : Cell) (n : ℕ) → LoadsStand offset xs ys → Stands offset c n → LoadsStand offset (xs ++ LoadedByte c ∷ []) (ys ++ LoadedByte86 n ∷ [])
loads_snoc8 offset [] [] c n h s = (s, tt)
loads_snoc8 offset (LoadedByte b ∷ xs) (LoadedByte86 m ∷ ys) c n h s = (h.0, loads_snoc8 offset xs ys c n h.1 s)
loads_snoc8 offset (LoadedWord x y ∷ xs) (LoadedWord86 m ∷ ys) c n h s = (h.0, loads_snoc8 offset xs ys c n h.1 s)
loads_snoc8 offset [] (y ∷ ys) c n h s = absurd h
loads_snoc8 offset (LoadedByte b ∷ xs) [] c n h s = absurd h
loads_snoc8 offset (LoadedWord x y ∷ xs) [] c n h s = absurd h
loads_snoc8 offset (LoadedByte b ∷ xs) (LoadedWord86 m ∷ ys) c n h s = absurd h
loads_snoc8 offset (LoadedWord x y ∷ xs) (LoadedByte86 m ∷ ys) c n h s = absurd h

loads_snoc16 : (offset : Place → Option ℕ) (xs : List Load80) (ys : List Load86) (p q : Cell) (w : ℕ) → LoadsStand offset xs ys → WordStands offset p q w → LoadsStand offset (xs ++ LoadedWord p q ∷ []) (ys ++ LoadedWord86 w ∷ [])
loads_snoc16 offset [] [] p q w h s = (s, tt)
loads_snoc16 offset (LoadedByte b ∷ xs) (LoadedByte86 m ∷ ys) p q w h s = (h.0, loads_snoc16 offset xs ys p q w h.1 s)
loads_snoc16 offset (LoadedWord x y ∷ xs) (LoadedWord86 m ∷ ys) p q w h s = (h.0, loads_snoc16 offset xs ys p q w h.1 s)
loads_snoc16 offset [] (y ∷ ys) p q w h s = absurd h
loads_snoc16 offset (LoadedByte b ∷ xs) [] p q w h s = absurd h
loads_snoc16 offset (LoadedWord x y ∷ xs) [] p q w h s = absurd h
loads_snoc16 offset (LoadedByte b ∷ xs) (LoadedWord86 m ∷ ys) p q w h s = absurd h
loads_snoc16 offset (LoadedWord x y ∷ xs) (LoadedByte86 m ∷ ys) p q w h s = absurd h

-- an address is one number
same_address : (offset : Place → Option ℕ) (n m : ℕ) → WordStands offset (NumCell (n / 256)) (NumCell (n % 256)) m → m ≡ n
same_address offset n m h = let high = h.0 in let low = h.1 in omega (arith, high, low)

module _ (p : Program) (offset : Place → Option ℕ) where
  -- a byte that is stored on both sides
  pub put_stands : (m : ℕ → Cell) (n : ℕ → ℕ) (at : ℕ) (c : Cell) (b : ℕ) → MemoryStands p offset m n → Stands offset c b → b < 256 → MemoryStands p offset (put80 m at c) (put n at b)
  put_stands m n at c b h s lt = record {
    cells = λ a la oa. by_place a (a == at) (h.cells a la oa);
    bytes = λ a. by_byte a (a == at);
  }
    where
      by_place : (a : ℕ) (t : Bool) → Stands offset (m a) (n a) → Stands offset (cond t c (m a)) (cond t b (n a))
      by_place a true f = s
      by_place a false f = f

      by_byte : (a : ℕ) (t : Bool) → cond t b (n a) < 256
      by_byte a true = lt
      by_byte a false = h.bytes a

  pub put_word_stands : (m : ℕ → Cell) (n : ℕ → ℕ) (at : ℕ) (x y : Cell) (w : ℕ) → MemoryStands p offset m n → WordStands offset x y w → w < 0x10000 → at + 1 < 0x10000 → MemoryStands p offset (put80 (put80 m at y) (at + 1) x) (put_word n at w)
  put_word_stands m n at x y w h s lw la =
      let next : wrap (at + 1) ≡ at + 1 = omega (arith, la) in
      let high : w / 256 < 256 = omega (arith, lw) in
      let low : w % 256 < 256 = omega arith in
      let stored = put_stands (put80 m at y) (put n at (w % 256)) (at + 1) x (w / 256) (put_stands m n at y (w % 256) h s.1 low) s.0 high in
      subst (λ k. MemoryStands p offset (put80 (put80 m at y) (at + 1) x) (put (put n at (w % 256)) k (w / 256))) (sym next) stored

  loaded8 : (e : Env80) (d : Env86) (c : Cell) (n : ℕ) → EnvsStand offset e d → Stands offset c n → EnvsStand offset (with_load80 e (LoadedByte c)) (with_load86 d (LoadedByte86 n))
  loaded8 e d c n v s = record { starts = v.starts; sp = v.sp; sp_fits = v.sp_fits; loads = loads_snoc8 offset e.loads d.loads c n v.loads s; offsets = v.offsets }

  loaded16 : (e : Env80) (d : Env86) (x y : Cell) (w : ℕ) → EnvsStand offset e d → WordStands offset x y w → EnvsStand offset (with_load80 e (LoadedWord x y)) (with_load86 d (LoadedWord86 w))
  loaded16 e d x y w v s = record { starts = v.starts; sp = v.sp; sp_fits = v.sp_fits; loads = loads_snoc16 offset e.loads d.loads x y w v.loads s; offsets = v.offsets }

  -- more after a load is more in one
  more : (e : Env80) (d : Env86) (x : Load80) (y : Load86) (xs : List Load80) (ys : List Load86) (m : ℕ → Cell) (n : ℕ → ℕ) → ReplayedStand p offset (with_load80 e x) (with_load86 d y) xs ys m n → ReplayedStand p offset e d (x ∷ xs) (y ∷ ys) m n
  more e d x y xs ys m n r = record {
    envs = subst (λ k. EnvsStand offset (record e { loads = e.loads ++ x ∷ xs }) (record d { loads = k })) (append_assoc d.loads (y ∷ []) ys) (subst (λ k. EnvsStand offset (record e { loads = k }) (record d { loads = (d.loads ++ y ∷ []) ++ ys })) (append_assoc e.loads (x ∷ []) xs) r.envs);
    memory = r.memory;
  }

  module _ (stand : AgreeingTermsStand) where
    address : (e : Env80) (d : Env86) (s t : Term) (n m : ℕ) → EnvsStand offset e d → IsMadeAs is_word t → agrees s t ≡ true → Val80 e s (word_of n) → Val86 d t (Number m) → m < 0x10000 → m ≡ n
    address e d s t n m v mt a vs vt lt = same_address offset n m (stand.word offset e d s t (NumCell (n / 256)) (NumCell (n % 256)) m v mt a vs vt lt)

    pub replayed : (e : Env80) (d : Env86) (xs ys : List Action) (ls : List Load80) (ks : List Load86) (m m' : ℕ → Cell) (n n' : ℕ → ℕ) → EnvsStand offset e d → MemoryStands p offset m n → ActionsAreSorted ys → actions_agree xs ys ≡ true → Replays80 p e m xs ls m' → Replays86 d n ys ks n' → ReplayedStand p offset e d ls ks m' n'
    replayed e d [] [] [] [] m m' n n' v h o a r q = record {
      envs = subst (λ k. EnvsStand offset (record e { loads = e.loads ++ [] }) (record d { loads = k })) (sym (append-nil d.loads)) (subst (λ k. EnvsStand offset (record e { loads = k }) d) (sym (append-nil e.loads)) v);
      memory = subst (λ (k : ℕ → ℕ). MemoryStands p offset m' k) (sym q) (subst (λ (k : ℕ → Cell). MemoryStands p offset k n) (sym r) h);
    }
    replayed e d [] [] (l ∷ ls) ks m m' n n' v h o a r q = absurd r
    replayed e d [] [] [] (k ∷ ks) m m' n n' v h o a r q = absurd q
    replayed e d (Load8 s ∷ xs) (Load8 t ∷ ys) (LoadedByte c ∷ ls) (LoadedByte86 b ∷ ks) m m' n n' v h o a r q =
        let both = and_parts (agrees s t) (actions_agree xs ys) a in
        let same = address e d s t r.0 q.0 v o.0 both.0 r.1.1 q.2 q.1 in
        let here = h.cells r.0 r.1.0 r.2 in
        let byte : n r.0 ≡ b = ap n (sym same) ∙ sym q.3 in
        let stands = subst (λ x. Stands offset x b) (sym r.3) (subst (λ x. Stands offset (m r.0) x) byte here) in
        more e d (LoadedByte c) (LoadedByte86 b) ls ks m' n' (replayed (with_load80 e (LoadedByte c)) (with_load86 d (LoadedByte86 b)) xs ys ls ks m m' n n' (loaded8 e d c b v stands) h o.1 both.1 r.4 q.4)
    replayed e d (Load16 s ∷ xs) (Load16 t ∷ ys) (LoadedWord x y ∷ ls) (LoadedWord86 w ∷ ks) m m' n n' v h o a r q =
        let both = and_parts (agrees s t) (actions_agree xs ys) a in
        let within = r.1.0 in
        let small : r.0 < 0x10000 = omega (arith, within) in
        let same = address e d s t r.0 q.0 v o.0 both.0 r.1.1 q.2 q.1 in
        let low = h.cells r.0 small r.2 in
        let high = h.cells (r.0 + 1) within r.3 in
        let next : wrap (r.0 + 1) ≡ r.0 + 1 = omega (arith, within) in
        let is : w ≡ word (n (r.0 + 1)) (n r.0) = q.3 ∙ ap (λ k. word_at n k) same ∙ ap (λ k. word (n k) (n r.0)) next in
        let lh = h.bytes (r.0 + 1) in
        let ll = h.bytes r.0 in
        let up : n (r.0 + 1) ≡ w / 256 = omega (arith, is, lh, ll) in
        let down : n r.0 ≡ w % 256 = omega (arith, is, lh, ll) in
        let stands : WordStands offset x y w = (subst (λ k. Stands offset k (w / 256)) (sym r.5) (subst (λ k. Stands offset (m (r.0 + 1)) k) up high), subst (λ k. Stands offset k (w % 256)) (sym r.4) (subst (λ k. Stands offset (m r.0) k) down low)) in
        more e d (LoadedWord x y) (LoadedWord86 w) ls ks m' n' (replayed (with_load80 e (LoadedWord x y)) (with_load86 d (LoadedWord86 w)) xs ys ls ks m m' n n' (loaded16 e d x y w v stands) h o.1 both.1 r.6 q.4)
    replayed e d (Store8 s v80 ∷ xs) (Store8 t v86 ∷ ys) ls ks m m' n n' v h o a r q =
        let both = and_parts (action_agrees (Store8 s v80) (Store8 t v86)) (actions_agree xs ys) a in
        let parts = and_parts (agrees s t) (agrees v80 v86) both.0 in
        let same = address e d s t r.0 q.0 v o.0.0 parts.0 r.2.1 q.4 q.2 in
        let stands = stand.byte offset e d v80 v86 r.1 q.1 v o.0.1 parts.1 r.3 q.5 q.3 in
        let stored = put_stands m n r.0 r.1 q.1 h stands q.3 in
        replayed e d xs ys ls ks (put80 m r.0 r.1) m' (put n q.0 q.1) n' v (subst (λ k. MemoryStands p offset (put80 m r.0 r.1) (put n k q.1)) (sym same) stored) o.1 both.1 r.5 q.6
    replayed e d (Store16 s v80 ∷ xs) (Store16 t v86 ∷ ys) ls ks m m' n n' v h o a r q =
        let both = and_parts (action_agrees (Store16 s v80) (Store16 t v86)) (actions_agree xs ys) a in
        let parts = and_parts (agrees s t) (agrees v80 v86) both.0 in
        let same = address e d s t r.0 q.0 v o.0.0 parts.0 r.3.1 q.4 q.2 in
        let stands = stand.word offset e d v80 v86 r.1 r.2 q.1 v o.0.1 parts.1 r.4 q.5 q.3 in
        let stored = put_word_stands m n r.0 r.1 r.2 q.1 h stands q.3 r.3.0 in
        replayed e d xs ys ls ks (put80 (put80 m r.0 r.2) (r.0 + 1) r.1) m' (put_word n q.0 q.1) n' v (subst (λ k. MemoryStands p offset (put80 (put80 m r.0 r.2) (r.0 + 1) r.1) (put_word n k q.1)) (sym same) stored) o.1 both.1 r.7 q.6
    replayed e d (Load8 s ∷ xs) (Load8 t ∷ ys) [] ks m m' n n' v h o a r q = absurd r
    replayed e d (Load8 s ∷ xs) (Load8 t ∷ ys) (LoadedWord x y ∷ ls) ks m m' n n' v h o a r q = absurd r
    replayed e d (Load8 s ∷ xs) (Load8 t ∷ ys) (LoadedByte c ∷ ls) [] m m' n n' v h o a r q = absurd q
    replayed e d (Load8 s ∷ xs) (Load8 t ∷ ys) (LoadedByte c ∷ ls) (LoadedWord86 w ∷ ks) m m' n n' v h o a r q = absurd q
    replayed e d (Load16 s ∷ xs) (Load16 t ∷ ys) [] ks m m' n n' v h o a r q = absurd r
    replayed e d (Load16 s ∷ xs) (Load16 t ∷ ys) (LoadedByte c ∷ ls) ks m m' n n' v h o a r q = absurd r
    replayed e d (Load16 s ∷ xs) (Load16 t ∷ ys) (LoadedWord x y ∷ ls) [] m m' n n' v h o a r q = absurd q
    replayed e d (Load16 s ∷ xs) (Load16 t ∷ ys) (LoadedWord x y ∷ ls) (LoadedByte86 b ∷ ks) m m' n n' v h o a r q = absurd q
    replayed e d xs ys ls ks m m' n n' v h o a r q = absurd (cc)

pub actions_stand : AgreeingTermsStand → AgreeingActionsStand
actions_stand stand p offset e d xs ys ls ks m m' n n' v h o a r q = replayed p offset stand e d xs ys ls ks m m' n n' v h o a r q
