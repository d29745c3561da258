-- Where one block alone can come to a place in a text.
use Rattle.std.specs.Prelude.{◌≡◌, ℕ, Bool, true, false, not, ◌&&◌, List, [], ◌∷◌, ◌++◌, length, is_some, Some}
use Rattle.std.specs.List.{list_all}
use Rattle.asm86_line_types.specs.declared.line.Label.TheVariants.{At, Skip, User}
use Rattle.asm86_line_types.specs.declared.line.Stmt86.{Stmt86}
use Rattle.asm86_line_types.specs.declared.line.Stmt86.TheVariants.{Mark}
use Rattle.asm86_line_types.specs.declared.line.Line86.{Line86}
use Rattle.asm86_line_types.specs.Image.{statements}
use Rattle.asm80_types.specs.Program.{Program}
use Rattle.flow.specs.Blocks.{block_at}

-- a statement is the label of a block
pub record IsBlockLabel (p : Program) (x : Stmt86) (a : ℕ) : Type 0 where
  pub is_label : x ≡ Mark (At a)
  pub count : ℕ
  pub block : block_at p a ≡ Some count

-- it stands at a place in lines
pub record LabelStands (p : Program) (lines : List Line86) (at a : ℕ) : Type 0 where
  pub first : List Line86
  pub label : Line86
  pub rest : List Line86
  pub are : lines ≡ first ++ label ∷ rest
  pub here : length first ≡ at
  pub is : IsBlockLabel p label.stmt a

-- a statement at which no walk begins or comes in by a jump: neither the label of a block nor a K or U label
abbrev pub is_inner : Program → Stmt86 → Bool
is_inner p (Mark (At b)) = not (is_some (block_at p b))
is_inner p (Mark (Skip b)) = false
is_inner p (Mark (User b)) = false
is_inner p x = true

abbrev pub is_label : Stmt86 → Bool
is_label (Mark l) = true
is_label x = false

abbrev pub begins_with_label : List Stmt86 → Bool
begins_with_label [] = false
begins_with_label (x ∷ xs) = is_label x

-- Between the label of a block and a place there are inner statements alone, so that a walk comes to the place from that label alone. What
-- is left out at the place joins no label before it to one that follows, at which a call of another block would come back.
pub record IsApart (p : Program) (inner rest : List Line86) : Type 0 where
  pub are_inner : list_all (λ (line : Line86). is_inner p line.stmt) inner ≡ true
  pub parted : (list_all (λ (line : Line86). is_label line.stmt) inner && begins_with_label (statements rest)) ≡ false
