-- Results, and steps one after the other.
use Rattle.std.proofs.Common.{◌≡◌, Bool, true, false, cond, Result, Ok, Err, refl}
use Rattle.dialogue.specs.Tried.{try_then}

pub ok_is : {X R : Type 0} → (a b : X) → ◌≡◌ {A = Result X R} (Ok a) (Ok b) → a ≡ b
ok_is a b e = cc

pub err_is_not : {X R : Type 0} → (r : R) (x : X) → ◌≡◌ {A = Result X R} (Err r) (Ok x) → ⊥
err_is_not r x e = cc

-- where steps one after the other are not refused, the first is not
pub then_is : {X Y R : Type 0} → (r : Result X R) (f : X → Result Y R) (y : Y) → try_then r f ≡ Ok y → (x : X) × (r ≡ Ok x) × (f x ≡ Ok y)
then_is (Ok x) f y e = (x, refl, e)
then_is (Err r) f y e = absurd (err_is_not r y e)

-- where a test lets a value through, it holds
pub cond_ok : {X R : Type 0} → (b : Bool) (x y : X) (e : R) → cond b (Ok x) (Err e) ≡ Ok y → (b ≡ true) × (x ≡ y)
cond_ok true x y e h = (refl, cc)
cond_ok false x y e h = cc
