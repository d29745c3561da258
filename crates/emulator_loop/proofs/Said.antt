-- What is said line by line.
use Rattle.std.proofs.Common.{◌≡◌, ℕ, List, [], ◌∷◌, ◌++◌, refl, sym, ap, ◌∙◌, append_assoc}
use Rattle.std.specs.Prelude.{Result, Ok, Err, IsErrAnd, IfErr}
use Rattle.std.proofs.lemmas.List.{append-nil}
use Rattle.dialogue.specs.declared.request.Event.{Event}
use Rattle.host.specs.Host.{HostState, said_more, Says}
use Rattle.host.proofs.HostLemmas.{said_more-said_more, said_more-nil}
use Rattle.emulator_loop.specs.declared.fault.TalkFault.{TalkFault}
use Rattle.emulator_loop.specs.Lines.{prefixed_line, event_lines}

pub event_lines-append : (prefix : List ℕ) (a b : List Event) → event_lines prefix (a ++ b) ≡ event_lines prefix a ++ event_lines prefix b
event_lines-append prefix [] b = refl
event_lines-append prefix (e ∷ es) b =
    ap (λ l. prefixed_line prefix e ++ l) (event_lines-append prefix es b)
    ∙ sym (append_assoc (prefixed_line prefix e) (event_lines prefix es) (event_lines prefix b))

pub event_lines-one : (prefix : List ℕ) (e : Event) → prefixed_line prefix e ≡ event_lines prefix (e ∷ [])
event_lines-one prefix e = sym (append-nil (prefixed_line prefix e))

pub says_nothing : (h : HostState) → Says h h []
says_nothing h = sym (said_more-nil h.said)

pub says_then : (a b c : HostState) (x y : List ℕ) → Says a b x → Says b c y → Says a c (x ++ y)
says_then a b c x y p q = q ∙ ap (λ s. said_more s y) p ∙ said_more-said_more a.said x y

-- what a fault is known to be by the one that was answered
pub on_fault : {T : Type 0} (r : Result T TalkFault) (P Q : TalkFault → Type 0) → IsErrAnd r P → ((fault : TalkFault) → P fault → Q fault) → IfErr r Q
on_fault (Ok x) P Q e f = absurd e
on_fault (Err fault) P Q e f = f fault e
