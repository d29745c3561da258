-- Lines that are said one after the other.
use Rattle.std.proofs.Common.{◌≡◌, ℕ, ◌+◌, ◌<◌, ◌≤◌, List, [], ◌∷◌, ◌++◌, length, get_or, take, drop, map, sym, ap, ◌∙◌, subst, length-append, arith}
use Rattle.std.specs.Prelude.{All}
use Rattle.std.specs.List.{concat}
use Rattle.std.proofs.Math.Seq.{take-add, take-append_seam, drop-append_seam}
use Rattle.std.proofs.lemmas.List.{append-nil, take_more, take-append-drop, take-append-le, length-map, get_or-map}
use Rattle.std.proofs.lemmas.List.Elements.{All-get_or}
use Rattle.std.proofs.lemmas.List.Folds.{concat-append}
use Rattle.host.specs.Host.{HostState, Says, said_more}
use Rattle.host.proofs.HostLemmas.{said_more-said_more}
use Rattle.host_files.specs.Transfer.{CutsLine}

module _ {S : Type 0} (f : S → List ℕ) (xs : List S) (i : ℕ) (x : S) (lt : i < length xs) (is : x ≡ get_or xs i x) where
  -- the line at an index
  line_is : get_or (map f xs) i [] ≡ f x
  line_is = get_or-map f xs i x [] lt ∙ ap f (sym is)

  within : i < length (map f xs)
  within = omega (arith, lt, length-map xs f)

  pub line_said : (line : List ℕ) → line ≡ f x → All (λ (l : List ℕ). 0 < length l) (map f xs) → 0 < length line
  line_said line e h = subst (λ l. 0 < length l) (line_is ∙ sym e) (All-get_or (λ (l : List ℕ). 0 < length l) (map f xs) i [] within h)

  -- the lines up to it, and it
  pub upto : concat (take (i + 1) (map f xs)) ≡ concat (take i (map f xs)) ++ f x
  upto =
      ap concat (take_more (map f xs) i [] within)
      ∙ concat-append (take i (map f xs)) (get_or (map f xs) i [] ∷ [])
      ∙ ap (λ l. concat (take i (map f xs)) ++ l) (append-nil (get_or (map f xs) i []) ∙ line_is)

  all : concat (map f xs) ≡ (concat (take i (map f xs)) ++ f x) ++ concat (drop (i + 1) (map f xs))
  all =
      ap concat (sym (take-append-drop (i + 1) (map f xs)))
      ∙ concat-append (take (i + 1) (map f xs)) (drop (i + 1) (map f xs))
      ∙ ap (λ l. l ++ concat (drop (i + 1) (map f xs))) upto

  module _ (old mid new : HostState) (said : Says old mid (concat (take i (map f xs)))) where
    then_said : (bytes : List ℕ) → Says mid new bytes → Says old new (concat (take i (map f xs)) ++ bytes)
    then_said bytes s = s ∙ ap (λ o. said_more o bytes) said ∙ said_more-said_more old.said (concat (take i (map f xs))) bytes

    pub line_more : (line : List ℕ) → line ≡ f x → Says mid new line → Says old new (concat (take (i + 1) (map f xs)))
    line_more line e s = subst (Says old new) (ap (λ l. concat (take i (map f xs)) ++ l) e ∙ sym upto) (then_said line s)

    pub line_cut : (line : List ℕ) → line ≡ f x → CutsLine line mid new → CutsLine (concat (map f xs)) old new
    line_cut line e k =
        let front = concat (take i (map f xs)) in
        let rest = concat (drop (i + 1) (map f xs)) in
        let n = length front + k.count in
        let few : k.count < length (f x) = subst (λ l. k.count < length l) e k.short in
        let long : length (concat (map f xs)) ≡ length front + length (f x) + length rest = ap length all ∙ length-append (front ++ f x) rest ∙ ap (λ m. m + length rest) (length-append front (f x)) in
        let fits : n ≤ length (front ++ f x) = omega (arith, few, length-append front (f x)) in
        let part : take n (concat (map f xs)) ≡ front ++ take k.count (f x) =
        ap (take n) all
        ∙ take-append-le n (front ++ f x) rest fits
        ∙ take-add (length front) k.count (front ++ f x)
        ∙ ap (λ l. l ++ take k.count (drop (length front) (front ++ f x))) (take-append_seam front (f x))
        ∙ ap (λ l. front ++ take k.count l) (drop-append_seam front (f x)) in
        record {
          count = n;
          short = omega (arith, few, long);
          said = subst (Says old new) (ap (λ l. front ++ take k.count l) e ∙ sym part) (then_said (take k.count line) k.said);
        }
