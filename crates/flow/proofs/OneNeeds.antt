-- What is needed at a place of a program is one set, and what is needed in a program one assignment.
use Rattle.std.proofs.Common.{◌≡◌, ◌↔◌, ℕ, Bool, true, false, refl, sym}
use Rattle.cells.specs.declared.Part.TheVariants.{A, B, C, D, E, H, L, S, Z, Ac, P, Cy}
use Rattle.cells.specs.Parts.{Parts}
use Rattle.asm80_types.specs.Program.{Program}
use Rattle.flow.specs.declared.node.Node.{Node}
use Rattle.flow.specs.declared.node.Node.TheVariants.{Start, Return}
use Rattle.flow.specs.Solving.{AreNeeds, Needs, AreAllNeeds}

bit_same : (a b : Bool) (X : Type 0) → (a ≡ true) ↔ X → (b ≡ true) ↔ X → a ≡ b
bit_same true true X f g = refl
bit_same true false X f g = sym (g.1 (f.0 refl))
bit_same false true X f g = f.1 (g.0 refl)
bit_same false false X f g = refl

pub needs_once : (p : Program) (q : Node) (x y : Parts) → AreNeeds p q x → AreNeeds p q y → x ≡ y
needs_once p q x y f g = λ i. record {
  a = bit_same x.a y.a _ (f A) (g A) i;
  b = bit_same x.b y.b _ (f B) (g B) i;
  c = bit_same x.c y.c _ (f C) (g C) i;
  d = bit_same x.d y.d _ (f D) (g D) i;
  e = bit_same x.e y.e _ (f E) (g E) i;
  h = bit_same x.h y.h _ (f H) (g H) i;
  l = bit_same x.l y.l _ (f L) (g L) i;
  s = bit_same x.s y.s _ (f S) (g S) i;
  z = bit_same x.z y.z _ (f Z) (g Z) i;
  ac = bit_same x.ac y.ac _ (f Ac) (g Ac) i;
  p = bit_same x.p y.p _ (f P) (g P) i;
  cy = bit_same x.cy y.cy _ (f Cy) (g Cy) i;
}

pub all_needs_once : (p : Program) (n m : Needs) → AreAllNeeds p n → AreAllNeeds p m → n ≡ m
all_needs_once p n m f g = λ i. record {
  at = λ (a : ℕ). needs_once p (Start a) (n.at a) (m.at a) (f.at a) (g.at a) i;
  returned = needs_once p Return n.returned m.returned f.returned g.returned i;
}
