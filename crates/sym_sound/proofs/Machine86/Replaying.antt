-- Loads and stores one after the other.
use Rattle.std.proofs.Common.{◌≡◌, ℕ, List, [], ◌∷◌, ◌++◌, sym, ap, subst, append_assoc}
use Rattle.std.proofs.lemmas.List.{append-nil}
use Rattle.dialogue.specs.ByteMemory.{put}
use Rattle.cpu86.specs.State.{put_word}
use Rattle.sym_terms.specs.Values86.{Env86, Load86, LoadedByte, LoadedWord}
use Rattle.sym_block_def.specs.Outcome.{Action, Load8, Load16, Store8, Store16}
use Rattle.simulation_def.specs.Runs86.{with_load86, Replays86}
use Rattle.sym_sound.proofs.Machine86.Values.{with_more}

-- more after a load is more in one
load_more : (e : Env86) (load : Load86) (more : List Load86) → with_more (with_load86 e load) more ≡ with_more e (load ∷ more)
load_more e load more = ap (λ l. record e { loads = l }) (append_assoc e.loads (load ∷ []) more)

no_more : (e : Env86) → with_more e [] ≡ e
no_more e = ap (λ l. record e { loads = l }) (append-nil e.loads)

-- two lists of actions, the second of which begins where the first has come to
pub replays_append : (e : Env86) (m m1 m2 : ℕ → ℕ) (xs ys : List Action) (ls ks : List Load86) → Replays86 e m xs ls m1 → Replays86 (with_more e ls) m1 ys ks m2 → Replays86 e m (xs ++ ys) (ls ++ ks) m2
replays_append e m m1 m2 [] ys [] ks r q = subst (λ (n : ℕ → ℕ). Replays86 e n ys ks m2) r (subst (λ d. Replays86 d m1 ys ks m2) (no_more e) q)
replays_append e m m1 m2 [] ys (l ∷ ls) ks r q = absurd r
replays_append e m m1 m2 (Load8 a ∷ xs) ys [] ks r q = absurd r
replays_append e m m1 m2 (Load8 a ∷ xs) ys (LoadedWord w ∷ ls) ks r q = absurd r
replays_append e m m1 m2 (Load8 a ∷ xs) ys (LoadedByte b ∷ ls) ks r q =
    (r.0, r.1, r.2, r.3, replays_append (with_load86 e (LoadedByte b)) m m1 m2 xs ys ls ks r.4 (subst (λ d. Replays86 d m1 ys ks m2) (sym (load_more e (LoadedByte b) ls)) q))
replays_append e m m1 m2 (Load16 a ∷ xs) ys [] ks r q = absurd r
replays_append e m m1 m2 (Load16 a ∷ xs) ys (LoadedByte b ∷ ls) ks r q = absurd r
replays_append e m m1 m2 (Load16 a ∷ xs) ys (LoadedWord w ∷ ls) ks r q =
    (r.0, r.1, r.2, r.3, replays_append (with_load86 e (LoadedWord w)) m m1 m2 xs ys ls ks r.4 (subst (λ d. Replays86 d m1 ys ks m2) (sym (load_more e (LoadedWord w) ls)) q))
replays_append e m m1 m2 (Store8 a v ∷ xs) ys ls ks r q =
    (r.0, r.1, r.2, r.3, r.4, r.5, replays_append e (put m r.0 r.1) m1 m2 xs ys ls ks r.6 q)
replays_append e m m1 m2 (Store16 a v ∷ xs) ys ls ks r q =
    (r.0, r.1, r.2, r.3, r.4, r.5, replays_append e (put_word m r.0 r.1) m1 m2 xs ys ls ks r.6 q)
