-- Loads and stores one after the other.
use Rattle.std.proofs.Common.{◌≡◌, ℕ, ◌+◌, List, [], ◌∷◌, ◌++◌, sym, ap, subst}
use Rattle.std.proofs.lemmas.List.{append-nil}
use Rattle.std.proofs.Common.{append_assoc}
use Rattle.cells.specs.declared.Cell.{Cell}
use Rattle.asm80_types.specs.Program.{Program}
use Rattle.cpu80_tagged.specs.Memory.{put}
use Rattle.sym_terms.specs.Values80.{Env80, Load80, LoadedByte, LoadedWord}
use Rattle.sym_block_def.specs.Outcome.{Action, Load8, Load16, Store8, Store16}
use Rattle.simulation_def.specs.Runs80.{with_load80, Replays80}
use Rattle.sym_sound.proofs.Machine80.Values.{with_more}

-- more after a load is more in one
load_more : (e : Env80) (load : Load80) (more : List Load80) → with_more (with_load80 e load) more ≡ with_more e (load ∷ more)
load_more e load more = ap (λ l. record e { loads = l }) (append_assoc e.loads (load ∷ []) more)

no_more : (e : Env80) → with_more e [] ≡ e
no_more e = ap (λ l. record e { loads = l }) (append-nil e.loads)

-- two lists of actions, the second of which begins where the first has come to
pub replays_append : (p : Program) (e : Env80) (m m1 m2 : ℕ → Cell) (xs ys : List Action) (ls ks : List Load80) → Replays80 p e m xs ls m1 → Replays80 p (with_more e ls) m1 ys ks m2 → Replays80 p e m (xs ++ ys) (ls ++ ks) m2
replays_append p e m m1 m2 [] ys [] ks r q = subst (λ (n : ℕ → Cell). Replays80 p e n ys ks m2) r (subst (λ d. Replays80 p d m1 ys ks m2) (no_more e) q)
replays_append p e m m1 m2 [] ys (l ∷ ls) ks r q = absurd r
replays_append p e m m1 m2 (Load8 a ∷ xs) ys [] ks r q = absurd r
replays_append p e m m1 m2 (Load8 a ∷ xs) ys (LoadedWord h l ∷ ls) ks r q = absurd r
replays_append p e m m1 m2 (Load8 a ∷ xs) ys (LoadedByte c ∷ ls) ks r q =
    (r.0, r.1, r.2, r.3, replays_append p (with_load80 e (LoadedByte c)) m m1 m2 xs ys ls ks r.4 (subst (λ d. Replays80 p d m1 ys ks m2) (sym (load_more e (LoadedByte c) ls)) q))
replays_append p e m m1 m2 (Load16 a ∷ xs) ys [] ks r q = absurd r
replays_append p e m m1 m2 (Load16 a ∷ xs) ys (LoadedByte c ∷ ls) ks r q = absurd r
replays_append p e m m1 m2 (Load16 a ∷ xs) ys (LoadedWord h l ∷ ls) ks r q =
    (r.0, r.1, r.2, r.3, r.4, r.5, replays_append p (with_load80 e (LoadedWord h l)) m m1 m2 xs ys ls ks r.6 (subst (λ d. Replays80 p d m1 ys ks m2) (sym (load_more e (LoadedWord h l) ls)) q))
replays_append p e m m1 m2 (Store8 a v ∷ xs) ys ls ks r q =
    (r.0, r.1, r.2, r.3, r.4, replays_append p e (put m r.0 r.1) m1 m2 xs ys ls ks r.5 q)
replays_append p e m m1 m2 (Store16 a v ∷ xs) ys ls ks r q =
    (r.0, r.1, r.2, r.3, r.4, r.5, r.6, replays_append p e (put (put m r.0 r.2) (r.0 + 1) r.1) m1 m2 xs ys ls ks r.7 q)
