use Rattle.std.proofs.Common.{◌≡◌, ℕ, ◌<◌, List, [], ◌∷◌, length, get_or, All, refl, subst, arith}
use Rattle.xlt_pool.specs.Contents.{Contents}
use Rattle.sym_terms.specs.declared.head.Term.{Term as TermId}
use Rattle.sym_terms.specs.Term.{FlagByte, is_bit}
use Rattle.sym_terms.specs.Trees.{entries_of, flag_byte_of, tree_in, IsA, Makes}
use Rattle.sym_terms.proofs.terms.Terms.flag_byte.Goals as goal

-- a list of five flags is read at its five places
read_flags : (held : Contents) (xs : List TermId) (d : TermId) → length xs ≡ 5 → FlagByte (tree_in held (get_or xs 0 d)) (tree_in held (get_or xs 1 d)) (tree_in held (get_or xs 2 d)) (tree_in held (get_or xs 3 d)) (tree_in held (get_or xs 4 d)) ≡ flag_byte_of (entries_of held.nodes) xs
read_flags held [] d e = absurd (omega arith)
read_flags held (s ∷ []) d e = absurd (omega arith)
read_flags held (s ∷ (z ∷ [])) d e = absurd (omega arith)
read_flags held (s ∷ (z ∷ (ac ∷ []))) d e = absurd (omega arith)
read_flags held (s ∷ (z ∷ (ac ∷ (p ∷ [])))) d e = absurd (omega arith)
read_flags held (s ∷ (z ∷ (ac ∷ (p ∷ (cy ∷ rest))))) d e = refl

flag_at : (held : Contents) (xs : List TermId) (k : ℕ) (d : TermId) → All (IsA is_bit held) xs → length xs ≡ 5 → k < 5 → IsA is_bit held (get_or xs k d)
flag_at held xs k d all five lt = all k d (omega (arith, five, lt))

pub flags-requires-clause-s : goal.flags-requires-clause-s
flags-requires-clause-s c = flag_at c.args.self.now c.args.flags 0 _ c.requires (omega arith) (omega arith)

pub flags-requires-clause-z : goal.flags-requires-clause-z
flags-requires-clause-z c = flag_at c.args.self.now c.args.flags 1 _ c.requires (omega arith) (omega arith)

pub flags-requires-clause-ac : goal.flags-requires-clause-ac
flags-requires-clause-ac c = flag_at c.args.self.now c.args.flags 2 _ c.requires (omega arith) (omega arith)

pub flags-requires-clause-p : goal.flags-requires-clause-p
flags-requires-clause-p c = flag_at c.args.self.now c.args.flags 3 _ c.requires (omega arith) (omega arith)

pub flags-requires-clause-cy : goal.flags-requires-clause-cy
flags-requires-clause-cy c = flag_at c.args.self.now c.args.flags 4 _ c.requires (omega arith) (omega arith)

pub returns : goal.returns
returns c =
    subst (λ tree. Makes c.args.self.now c.flags.new.self 2 tree c.flags.result) (read_flags c.args.self.now c.args.flags _ (omega arith)) c.flags.ensures

pub flags-requires-clause-terms : goal.flags-requires-clause-terms
flags-requires-clause-terms c = c.mark-mark.ensures.terms
