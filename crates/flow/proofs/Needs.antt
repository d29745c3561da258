-- What is needed at a node, by its edges.
use Rattle.std.proofs.Common.{◌≡◌, ℕ, true, false, List, [], ◌∷◌, ◌++◌, refl, sym, ap, ◌∙◌, subst, inl, inr, ◌⊎◌, arith}
use Rattle.std.specs.Prelude.{All}
use Rattle.std.specs.List.{Contains}
use Rattle.std.proofs.lemmas.List.{get_or-map, length-map}
use Rattle.std.proofs.lemmas.List.Elements.{All-nil, All-cons, All-head, All-tail}
use Rattle.cells.specs.declared.Part.{Part}
use Rattle.cells.specs.Parts.{has}
use Rattle.asm80_types.specs.Program.{Program}
use Rattle.asm80_types.specs.Taken.{taken_places}
use Rattle.flow.specs.declared.node.Node.{Node}
use Rattle.flow.specs.declared.node.Node.TheVariants.{Start, Return}
use Rattle.flow.specs.Graph.{IsEdge}
use Rattle.flow.specs.Need.{Need, IsPath, LeadsTo, BeginsAt, uses_at, defines_at}

abbrev Keeps : Program → Part → Node → Type 0
Keeps p x r = has (defines_at p r) x ≡ false

pub need_here : (p : Program) (q : Node) (x : Part) → has (uses_at p q) x ≡ true → Need p q x
need_here p q x u = record { earlier = []; user = q; path = (tt, tt); begins = refl; uses = u; kept = All-nil (Keeps p x) }

leads : (p : Program) (q r : Node) (qs : List Node) → BeginsAt r qs → IsEdge p q r → LeadsTo p q qs
leads p q r [] b e = tt
leads p q r (s ∷ ss) b e = subst (IsEdge p q) b e

pub need_passes : (p : Program) (q r : Node) (x : Part) → IsEdge p q r → has (defines_at p q) x ≡ false → Need p r x → Need p q x
need_passes p q r x e d n = record {
  earlier = q ∷ n.earlier;
  user = n.user;
  path = (leads p q r (n.earlier ++ n.user ∷ []) n.begins e, n.path);
  begins = refl;
  uses = n.uses;
  kept = All-cons (Keeps p x) q n.earlier d n.kept;
}

-- the node that a path goes on to
goes_on : (p : Program) (e user : Node) (x : Part) (es : List Node) → LeadsTo p e (es ++ user ∷ []) → IsPath p (es ++ user ∷ []) → has (uses_at p user) x ≡ true → All (Keeps p x) es → (r : Node) × IsEdge p e r × Need p r x
goes_on p e user x [] to path u k = (user, to, need_here p user x u)
goes_on p e user x (f ∷ fs) to path u k = (f, to, record { earlier = f ∷ fs; user = user; path = path; begins = refl; uses = u; kept = k })

pub need_only_by : (p : Program) (q user : Node) (x : Part) (es : List Node) → IsPath p (es ++ user ∷ []) → BeginsAt q (es ++ user ∷ []) → has (uses_at p user) x ≡ true → All (Keeps p x) es → (has (uses_at p q) x ≡ true) ⊎ ((r : Node) × IsEdge p q r × (has (defines_at p q) x ≡ false) × Need p r x)
need_only_by p q user x [] path b u k = inl (subst (λ r. has (uses_at p r) x ≡ true) (sym b) u)
need_only_by p q user x (e ∷ es) path b u k =
    let on = goes_on p e user x es path.0 path.1 u (All-tail (Keeps p x) e es k) in
    inr (on.0, subst (λ s. IsEdge p s on.0) (sym b) on.1, subst (Keeps p x) (sym b) (All-head (Keeps p x) e es k), on.2)

pub need_only : (p : Program) (q : Node) (x : Part) → Need p q x → (has (uses_at p q) x ≡ true) ⊎ ((r : Node) × IsEdge p q r × (has (defines_at p q) x ≡ false) × Need p r x)
need_only p q x n = need_only_by p q n.user x n.earlier n.path n.begins n.uses n.kept

-- an edge leads from Return to each place that is taken
pub taken_edge : (p : Program) (a : ℕ) → Contains (taken_places p) a → IsEdge p Return (Start a)
taken_edge p a t =
    let e = get_or-map (λ (b : ℕ). Start b) (taken_places p) t.0 a (Start a) t.1 in
    let l = length-map (taken_places p) (λ (b : ℕ). Start b) in
    (t.0, omega (arith, l, t.1), e ∙ ap (λ (b : ℕ). Start b) t.2)
