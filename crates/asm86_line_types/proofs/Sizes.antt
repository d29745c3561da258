-- The sizes of statements, and how often a label stands in them.
use Rattle.std.proofs.Common.{◌≡◌, ℕ, ◌+◌, List, [], ◌∷◌, ◌++◌, length, refl, arith}
use Rattle.asm86_line_types.specs.declared.line.Label.{Label}
use Rattle.asm86_line_types.specs.declared.line.Stmt86.{Stmt86}
use Rattle.asm86_line_types.specs.declared.line.Stmt86.TheVariants.{Cseg, Dseg, Org, Rb, Db, Dw, Mark, Run, MovOffset, Jmp, Jmps, Jcc, Call, EndText}
use Rattle.asm86_line_types.specs.Layout.{size_of, sizes_of, bytes_at}
use Rattle.asm86_line_types.specs.Image.{count_marks}

-- the bytes of a statement are as many as its size
pub length_bytes : (off : Label → ℕ) (at : ℕ) (x : Stmt86) → length (bytes_at off at x) ≡ size_of x
length_bytes off at Cseg = refl
length_bytes off at Dseg = refl
length_bytes off at (Org w) = refl
length_bytes off at (Rb w) = refl
length_bytes off at (Db n) = refl
length_bytes off at (Dw v) = refl
length_bytes off at (Mark k) = refl
length_bytes off at (Run i) = refl
length_bytes off at (MovOffset r k) = refl
length_bytes off at (Jmp k) = refl
length_bytes off at (Jmps k) = refl
length_bytes off at (Jcc j k) = refl
length_bytes off at (Call k) = refl
length_bytes off at EndText = refl

-- of two lists joined
pub sizes_of-append : (xs ys : List Stmt86) → sizes_of (xs ++ ys) ≡ sizes_of xs + sizes_of ys
sizes_of-append [] ys = omega arith
sizes_of-append (x ∷ xs) ys = let e = sizes_of-append xs ys in omega (arith, e)

pub count_marks-append : (l : Label) (xs ys : List Stmt86) → count_marks l (xs ++ ys) ≡ count_marks l xs + count_marks l ys
count_marks-append l [] ys = omega arith
count_marks-append l (x ∷ xs) ys = let e = count_marks-append l xs ys in omega (arith, e)
