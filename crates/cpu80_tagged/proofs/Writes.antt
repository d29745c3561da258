-- A reply's bytes in memory.
use Rattle.std.proofs.Common.{◌≡◌, ◌≢◌, ℕ, ◌+◌, ◌<◌, ◌==◌, List, length, get_or, set, drop, refl, sym, ap, ◌∙◌, arith, Bool, true, false, cond}
use mathlib.Core.Path.{fun_ext}
use Rattle.std.proofs.lemmas.List.{get_or-set_same, get_or-set_other, drop_more}
use Rattle.std.proofs.lemmas.Bool.Decides.{nat_tests}
use Rattle.cells.specs.declared.Cell.{Cell}
use Rattle.cells.specs.declared.Cell.TheVariants.{Num, Junk}
use Rattle.cpu80_tagged.specs.Memory.{put}
use Rattle.cpu80_tagged.specs.Call.{put_bytes}
use Rattle.cpu80_tagged.specs.Draft.{memory_of}

-- a write to the list is a write to the memory that it is
pub memory_of-set : (xs : List Cell) (i : ℕ) (v : Cell) → i < length xs → memory_of (set xs i v) ≡ put (memory_of xs) i v
memory_of-set xs i v h = fun_ext (λ a. by_test a (a == i) refl)
  where
    by_test : (a : ℕ) (b : Bool) → (a == i) ≡ b → get_or (set xs i v) a Junk ≡ cond b v (get_or xs a Junk)
    by_test a true e = let at : i ≡ a = grind (arith, nat_tests) in ap (λ n. get_or (set xs i v) n Junk) (sym at) ∙ get_or-set_same xs i v Junk h
    by_test a false e = let ne : a ≢ i = grind (arith, nat_tests) in get_or-set_other xs i a v Junk ne

pub put_more : (xs : List Cell) (bs : List ℕ) (at k : ℕ) → at + k < length xs → k < length bs → put_bytes (memory_of (set xs (at + k) (Num (get_or bs k 0)))) (at + (k + 1)) (drop (k + 1) bs) ≡ put_bytes (memory_of xs) (at + k) (drop k bs)
put_more xs bs at k h g =
    let e : at + (k + 1) ≡ at + k + 1 = omega arith in
    ap (λ m. put_bytes m (at + (k + 1)) (drop (k + 1) bs)) (memory_of-set xs (at + k) (Num (get_or bs k 0)) h)
    ∙ ap (λ a. put_bytes (put (memory_of xs) (at + k) (Num (get_or bs k 0))) a (drop (k + 1) bs)) e
    ∙ ap (put_bytes (memory_of xs) (at + k)) (sym (drop_more bs k 0 g))
