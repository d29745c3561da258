-- Bytes written one after another.
use Rattle.std.proofs.Common.{◌≡◌, ℕ, ◌+◌, ◌==◌, Bool, true, false, cond, [], ◌∷◌, refl, ap, ◌∙◌, arith}
use mathlib.Core.Path.{fun_ext}
use Rattle.std.proofs.lemmas.Bool.Decides.{nat_tests}
use Rattle.dialogue.specs.ByteMemory.{put_bytes}
use Rattle.dialogue.specs.Words.{wrap}
use Rattle.cpu86.specs.System.{six_at}

-- bytes written back over bytes written: the lowest address is looked at last
kept : (b a a' : ℕ) (m : ℕ → ℕ) (rest : ℕ) → a' ≡ a → ((b == a') ≡ false → rest ≡ m b) → cond (b == a') (m a) rest ≡ m b
kept b a a' m rest e f = by_test (b == a') refl
  where
    by_test : (t : Bool) → (b == a') ≡ t → cond t (m a) rest ≡ m b
    by_test true g = let at : a ≡ b = grind (arith, nat_tests) in ap m at
    by_test false g = f g

passed : (b a v rest : ℕ) → (b == a) ≡ false → cond (b == a) v rest ≡ rest
passed b a v rest e = ap (λ t. cond t v rest) e

-- six bytes written over, and then back
pub put_back_six : (m : ℕ → ℕ) (a : ℕ) (u v w x y z : ℕ) → put_bytes (put_bytes m a (u ∷ (v ∷ (w ∷ (x ∷ (y ∷ (z ∷ []))))))) a (six_at m a) ≡ m
put_back_six m a u v w x y z = fun_ext (λ b.
    kept b (wrap (a + 5)) _ m _ (omega arith) (λ e5.
    kept b (wrap (a + 4)) _ m _ (omega arith) (λ e4.
    kept b (wrap (a + 3)) _ m _ (omega arith) (λ e3.
    kept b (wrap (a + 2)) _ m _ (omega arith) (λ e2.
    kept b (wrap (a + 1)) _ m _ refl (λ e1.
    kept b a a m _ refl (λ e0.
    passed b _ z _ e5 ∙ passed b _ y _ e4 ∙ passed b _ x _ e3 ∙ passed b _ w _ e2 ∙ passed b _ v _ e1 ∙ passed b _ u _ e0)))))))
