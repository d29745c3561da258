-- Heads without operands.
use Rattle.std.proofs.Common.{◌≡◌, true, false, List, refl}
use Rattle.std.proofs.lemmas.Bool.{false≢true}
use Rattle.xlt_pool.specs.Contents.{Contents}
use Rattle.sym_terms.specs.declared.head.Head.{Head}
use Rattle.sym_terms.specs.declared.head.Head.TheVariants.{Num, Start, StartSp, Loaded8, Loaded16, Code, Unknown}
use Rattle.sym_terms.specs.Term.{is_adjusted}
use Rattle.sym_terms.specs.Heads.{operands, is_leaf_head, is_flag_byte_head}
use Rattle.sym_terms.specs.Trees.{Entry, tree_of_head, AreGiven}

pub leaf_plain : (h : Head) → is_leaf_head h ≡ true → is_flag_byte_head h ≡ false
leaf_plain (Num n) e = refl
leaf_plain (Start part) e = refl
leaf_plain StartSp e = refl
leaf_plain (Loaded8 k) e = refl
leaf_plain (Loaded16 k) e = refl
leaf_plain (Code q high) e = refl
leaf_plain Unknown e = refl
leaf_plain h e = absurd (false≢true e)

pub leaf_given : (held : Contents) (h : Head) → is_leaf_head h ≡ true → AreGiven held (operands h)
leaf_given held (Num n) e = tt
leaf_given held (Start part) e = tt
leaf_given held StartSp e = tt
leaf_given held (Loaded8 k) e = tt
leaf_given held (Loaded16 k) e = tt
leaf_given held (Code q high) e = tt
leaf_given held Unknown e = tt
leaf_given held h e = absurd (false≢true e)

pub leaf_unadjusted : (entries : List Entry) (h : Head) → is_leaf_head h ≡ true → false ≡ is_adjusted (tree_of_head entries h)
leaf_unadjusted entries (Num n) e = refl
leaf_unadjusted entries (Start part) e = refl
leaf_unadjusted entries StartSp e = refl
leaf_unadjusted entries (Loaded8 k) e = refl
leaf_unadjusted entries (Loaded16 k) e = refl
leaf_unadjusted entries (Code q high) e = refl
leaf_unadjusted entries Unknown e = refl
leaf_unadjusted entries h e = absurd (false≢true e)
