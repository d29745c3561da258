-- The five flags of a FlagByte.
use Rattle.std.specs.Prelude.{◌≡◌, Bool, true, false}
use Rattle.cells.specs.declared.Part.{Part}
use Rattle.cells.specs.declared.Part.TheVariants.{S, Z, Ac, P}
use Rattle.xlt_pool.specs.Contents.{Contents}
use Rattle.sym_terms.specs.declared.head.Term.{Term as TermId}
use Rattle.sym_terms.specs.Term.{Term, Join, FlagByte, Turned, is_bit, is_byte}
use Rattle.sym_terms.specs.Trees.{tree_in, IsA}
use Rattle.sym_run.specs.declared.known.Five.{Five}

-- what is put together of bytes and flags otherwise than by an operation
abbrev pub is_byte_of_flags : Term → Bool
is_byte_of_flags (FlagByte s z ac p cy) = true
is_byte_of_flags t = false

abbrev pub is_put_together : Term → Bool
is_put_together (Join h l) = false
is_put_together (Turned c) = false
is_put_together t = true

pub record FiveAre (pool : Contents) (tree : Term) (f : Five) : Type 0 where
  pub s : IsA is_bit pool f.s
  pub z : IsA is_bit pool f.z
  pub ac : IsA is_bit pool f.ac
  pub p : IsA is_bit pool f.p
  pub cy : IsA is_bit pool f.cy
  pub is : tree ≡ FlagByte (tree_in pool f.s) (tree_in pool f.z) (tree_in pool f.ac) (tree_in pool f.p) (tree_in pool f.cy)

abbrev pub id_of_five : Five → Part → TermId
id_of_five f S = f.s
id_of_five f Z = f.z
id_of_five f Ac = f.ac
id_of_five f P = f.p
id_of_five f part = f.cy

-- a word of two bytes
pub record IsJoin (pool : Contents) (s h l : TermId) : Type 0 where
  pub high : IsA is_byte pool h
  pub low : IsA is_byte pool l
  pub is : tree_in pool s ≡ Join (tree_in pool h) (tree_in pool l)
