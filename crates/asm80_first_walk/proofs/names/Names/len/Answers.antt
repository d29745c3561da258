use Rattle.std.proofs.Common.{◌≡◌, ◌∙◌, ℕ, List, length, ap, sym, arith, Vec, Global}
use Rattle.std.specs.Vec.{vec_len}
use Rattle.asm80_first_walk.specs.Entries.{entry_in}
use Rattle.asm80_first_walk.proofs.Definitions.{length_is}
use Rattle.asm80_first_walk.proofs.names.Names.len.Goals as goal

len_of : (texts : Vec (List ℕ) Global) (n : ℕ) → length texts.items ≡ n → vec_len texts ≡ n
len_of texts n sized = omega (arith, sized, texts.ok)

pub returns : goal.returns
returns c =
    c.len.ensures
    ∙ len_of c.self.inside.order _ (sym (length_is (entry_in c.self.inside.entries.entries) c.self.inside.order.items c.self.invariant) ∙ ap length c.self.view_is)
