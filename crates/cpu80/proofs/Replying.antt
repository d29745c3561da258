-- A reply to what a machine asks.
use Rattle.std.proofs.Common.{◌≡◌, ◌∙◌, ℕ, Bool, true, false, cond, Some, None, ap, subst, sym}
use Rattle.dialogue.specs.declared.request.Event.{Event}
use Rattle.dialogue.specs.declared.request.Reply.{Reply}
use Rattle.dialogue.specs.Calls.{Standing, replied_by}
use Rattle.dialogue.specs.Fits.{fits_event}
use Rattle.cpu80.specs.State.{UntaggedState}
use Rattle.cpu80.specs.Call.{Return}
use Rattle.cpu80.specs.Step.{Fetch, return_at, replied_to, replied_untagged}
use Rattle.cpu80.specs.declared.machine.Pending.{Pending}
use Rattle.cpu80.specs.Standing.{said_by}

module _ (fetch : Fetch) (u : UntaggedState) (e : Event) (y : Reply) (choice : ℕ) where
  abbrev by_fit : Bool → Bool × Standing UntaggedState
  by_fit b = cond b (true, record { state = replied_untagged fetch u e y choice; said = None }) (false, record { state = u; said = Some e })

  -- one that does not fit changes nothing
  pub not_taken : (p : Pending) → said_by p u.mem ≡ Some e → fits_event e y ≡ false → (false, record { state = u; said = said_by p u.mem }) ≡ replied_by (replied_untagged fetch) u y choice (said_by p u.mem)
  not_taken p asked differs =
      let at_event : by_fit false ≡ replied_by (replied_untagged fetch) u y choice (Some e) = ap by_fit (sym differs) in
      subst (λ o. (false, record { state = u; said = o }) ≡ replied_by (replied_untagged fetch) u y choice o) (sym asked) at_event

  -- one that fits goes on where the machine was to
  pub taken_by : (p : Pending) (back : Return) (t : UntaggedState) → said_by p u.mem ≡ Some e → return_at fetch u u.place ≡ Some back → fits_event e y ≡ true → t ≡ replied_to u (Some back) e y choice → (true, record { state = t; said = None }) ≡ replied_by (replied_untagged fetch) u y choice (said_by p u.mem)
  taken_by p back t asked returned fits is =
      let left : t ≡ replied_untagged fetch u e y choice = is ∙ ap (λ r. replied_to u r e y choice) (sym returned) in
      let at_event : by_fit true ≡ replied_by (replied_untagged fetch) u y choice (Some e) = ap by_fit (sym fits) in
      ap (λ (s : UntaggedState). (true, record { state = s; said = None })) left ∙ (at_event ∙ ap (replied_by (replied_untagged fetch) u y choice) (sym asked))
