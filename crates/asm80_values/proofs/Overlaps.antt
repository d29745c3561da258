-- The first overlap of items, one item after the other.
use Rattle.std.proofs.Common.{◌≡◌, ℕ, suc, ◌+◌, ◌<◌, Bool, true, false, cond, List, [], ◌∷◌, ◌++◌, length, get_or, drop, Some, sym, ap, ◌∙◌, add-one, drop-cons}
use Rattle.std.specs.List.{list_any}
use Rattle.std.proofs.Math.Path.{fun_ext}
use Rattle.base.specs.Addresses.{has_address, IsSetOf}
use Rattle.asm80_source_def.specs.Layout.{is_filled}
use Rattle.asm80_values.specs.declared.item.Item.{Item}
use Rattle.asm80_values.specs.Items.{cells_of_item, overlap_from}

-- a set of flags finds what its addresses find
pub same_found : (flags : List Bool) (addresses xs : List ℕ) → IsSetOf flags addresses → list_any (has_address flags) xs ≡ list_any (is_filled addresses) xs
same_found flags addresses xs stands =
    let same : has_address flags ≡ is_filled addresses = fun_ext stands in
    ap (λ (test : ℕ → Bool). list_any test xs) same

module _ (flags : List Bool) (filled : List ℕ) (items : List Item) (k : ℕ) (x : Item) (stands : IsSetOf flags filled) (within : k < length items) (is : x ≡ get_or items k x) where
  rest : drop k items ≡ x ∷ drop (k + 1) items
  rest = drop-cons items k x within ∙ ap (λ (y : Item). y ∷ drop (suc k) items) (sym is) ∙ ap (λ n. x ∷ drop n items) (sym (add-one k))

  pub overlap_here : overlap_from [] items ≡ overlap_from filled (drop k items) → list_any (has_address flags) (cells_of_item x) ≡ true → overlap_from [] items ≡ Some x
  overlap_here before h =
      let found : list_any (is_filled filled) (cells_of_item x) ≡ true = sym (same_found flags filled (cells_of_item x) stands) ∙ h in
      before ∙ ap (overlap_from filled) rest ∙ ap (λ b. cond b (Some x) (overlap_from (cells_of_item x ++ filled) (drop (k + 1) items))) found

  pub overlap_later : overlap_from [] items ≡ overlap_from filled (drop k items) → list_any (has_address flags) (cells_of_item x) ≡ false → overlap_from [] items ≡ overlap_from (cells_of_item x ++ filled) (drop (k + 1) items)
  overlap_later before h =
      let found : list_any (is_filled filled) (cells_of_item x) ≡ false = sym (same_found flags filled (cells_of_item x) stands) ∙ h in
      before ∙ ap (overlap_from filled) rest ∙ ap (λ b. cond b (Some x) (overlap_from (cells_of_item x ++ filled) (drop (k + 1) items))) found
