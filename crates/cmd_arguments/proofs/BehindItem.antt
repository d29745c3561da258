-- What the items of words are, by the form of the first word.
use Rattle.std.proofs.Common.{◌≡◌, ◌≢◌, List, [], ◌∷◌, Some, None, refl, ap, subst, sym, ◌∙◌, map}
use Rattle.std.proofs.lemmas.Option.{some_pair_parts, none-some}
use Rattle.cmd_arguments.specs.declared.table.CommandName.{CommandName}
use Rattle.cmd_arguments.specs.Table.{Word}
use Rattle.cmd_arguments.specs.Items.{Item, Name, Sorts, none, marked, more, end_of_options}
use Rattle.cmd_arguments.proofs.FirstItem.{first_item}
use Rattle.cmd_arguments.proofs.Forms.{form_of_rule, no_item_at_mark}

-- where an item stands first, the items are that item and those of the words behind it
pub behind_item : {c : CommandName} {w : Word} {ws rest : List Word} {item : Item} {items : List Item} → Sorts c (w ∷ ws) items → first_item c w ws ≡ Some (item, rest) → (behind : List Item) × (items ≡ item ∷ behind) × Sorts c rest behind
behind_item {c} (marked {ws}) e = absurd (none-some _ (sym (no_item_at_mark c ws) ∙ e))
behind_item {c} (more {items = found} f s) e =
    let same = some_pair_parts _ _ _ _ (sym (form_of_rule f) ∙ e) in
    let P : List Word → Type 0 = λ ws. Sorts c ws found in
    (found, ap (λ i. i ∷ found) same.0, subst P same.1 s)

-- no words are no items
pub behind_nothing : {c : CommandName} {items : List Item} → Sorts c [] items → items ≡ []
behind_nothing none = refl
behind_nothing (more f s) = elim f [ ]

-- behind the mark all are names
pub behind_mark : {c : CommandName} {ws : List Word} {items : List Item} → Sorts c (end_of_options ∷ ws) items → items ≡ map Name ws
behind_mark marked = refl
behind_mark {c} {ws} (more f s) = absurd (none-some _ (sym (no_item_at_mark c ws) ∙ form_of_rule f))

-- no item and no mark: the words are no items
pub nothing_behind : {c : CommandName} {w : Word} {ws : List Word} {behind : List Item} → Sorts c (w ∷ ws) behind → first_item c w ws ≡ None → w ≢ end_of_options → ⊥
nothing_behind marked e other = other refl
nothing_behind (more f s) e other = none-some _ (sym e ∙ form_of_rule f)
