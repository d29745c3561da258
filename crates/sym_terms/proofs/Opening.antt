-- What is open in a made term, by its head.
use Rattle.std.proofs.Common.{◌≡◌, ◌||◌, List, true, refl, sym, ap, ap₂, ◌∙◌}
use Rattle.sym_terms.specs.declared.head.Term.{Term as TermId}
use Rattle.sym_terms.specs.declared.head.Head.{Head}
use Rattle.sym_terms.specs.declared.head.Head.TheVariants.{FlagByte as FlagByteHead, Join as JoinHead}
use Rattle.sym_terms.specs.Term.{Term, is_open, is_open_itself, shows_open}
use Rattle.sym_terms.specs.Making.{IsTermMade}
use Rattle.sym_terms.specs.Heads.{opens, number_of_id}
use Rattle.sym_terms.specs.Trees.{Entry, tree_at, tree_of_head}
use Rattle.sym_terms.proofs.Sorts.{open_shows}

pub opens_itself : (es : List Entry) (h : Head) → is_open_itself (tree_of_head es h) ≡ opens h
opens_itself es (FlagByteHead s z ac p cy) = refl
opens_itself es h = refl

shows_plain : (es : List Entry) (h : Head) → ((a b : TermId) → h ≡ JoinHead a b → ⊥) → shows_open (tree_of_head es h) ≡ opens h
shows_plain es (JoinHead a b) other = absurd (other a b refl)
shows_plain es h other = refl

-- of a head that is no Join, it shows in the head
pub open_plain : (es : List Entry) (t : Term) (h : Head) → IsTermMade t → t ≡ tree_of_head es h → ((a b : TermId) → h ≡ JoinHead a b → ⊥) → opens h ≡ is_open t
open_plain es t h made e other = sym (open_shows t made ∙ ap shows_open e ∙ shows_plain es h other)

-- of a Join, in the heads of its halves
pub open_join : (es : List Entry) (t : Term) (a b : TermId) (h l : Head) → IsTermMade t → t ≡ tree_of_head es (JoinHead a b) → tree_at es (number_of_id a) ≡ tree_of_head es h → tree_at es (number_of_id b) ≡ tree_of_head es l → (opens h || opens l) ≡ is_open t
open_join es t a b h l made e ea eb =
    sym (open_shows t made ∙ ap shows_open e ∙ ap₂ (λ x y. x || y) (ap is_open_itself ea ∙ opens_itself es h) (ap is_open_itself eb ∙ opens_itself es l))

-- the head of the high half may show it alone
pub open_first : (es : List Entry) (t : Term) (a b : TermId) (h : Head) → IsTermMade t → t ≡ tree_of_head es (JoinHead a b) → tree_at es (number_of_id a) ≡ tree_of_head es h → opens h ≡ true → true ≡ is_open t
open_first es t a b h made e ea is =
    sym (open_shows t made ∙ ap shows_open e ∙ ap (λ x. x || is_open_itself (tree_at es (number_of_id b))) (ap is_open_itself ea ∙ opens_itself es h ∙ is))
