use Rattle.std.proofs.Common.{◌≡◌, ℕ, List, false, Option, Some, None, refl, ◌∙◌, ap, sym}
use Rattle.std.specs.Option.{is_some}
use Rattle.asm80_types.specs.declared.fault.ReadFault.{ReadFault}
use Rattle.base.specs.Held.{held_with_byte}
use Rattle.asm80_text.specs.Reader.{Reader}
use Rattle.asm80_text.proofs.Steps.{after_failed, after_ignored, after_byte, after_line, after_end, is_some_none}
use Rattle.asm80_text.proofs.reader.LineReader.step.Goals as goal
use Rattle.asm80_text.proofs.reader.LineReader.step.Goals.{then-is_some-via-then-is_some, then-is_some-via-else-is_some+then-self}

no_fault : (fault : Option ReadFault) → is_some fault ≡ false → fault ≡ None
no_fault None is = refl
no_fault (Some fault) is = absurd cc

pub returns-then-is_some-clause-grows : goal.returns-then-is_some-clause-grows
returns-then-is_some-clause-grows g c = λ ne stream h. elim c.then-is_some.branch [
  | then-is_some-via-then-is_some w ↦ after_failed g.N.Notation.spelling stream _ _ (λ e. is_some_none c.self.inside.fault (sym c.is_some.ensures ∙ w.if-is_some.true) (ap (λ (r : Reader). r.fault) c.self.view_is ∙ e)) h
  | then-is_some-via-else-is_some+then-self w ↦
      after_ignored g.N.Notation.spelling stream _ _ (sym (ap (λ (r : Reader). r.fault) c.self.view_is) ∙ no_fault c.self.inside.fault (sym c.is_some.ensures ∙ w.if-is_some.false)) (sym (ap (λ (r : Reader). r.is_closed) c.self.view_is) ∙ w.if-self.true) h
]

pub returns-then-b-eq10-clause-grows : goal.returns-then-b-eq10-clause-grows
returns-then-b-eq10-clause-grows g c = λ ne stream h.
    let open_yet = sym (ap (λ (r : Reader). r.is_closed) c.self.view_is) ∙ c.if-self.false in
    let sound = sym (ap (λ (r : Reader). r.fault) c.self.view_is) ∙ no_fault c.self.inside.fault (sym c.is_some.ensures ∙ c.if-is_some.false) in
    rw c.if-b-eq10.true (after_line g.N.Notation.spelling stream _ sound open_yet h _ ne c.end_line.ensures)

pub returns-then-b-eq-END_OF_FILE-clause-grows : goal.returns-then-b-eq-END_OF_FILE-clause-grows
returns-then-b-eq-END_OF_FILE-clause-grows g c = λ ne stream h.
    let open_yet = sym (ap (λ (r : Reader). r.is_closed) c.self.view_is) ∙ c.if-self.false in
    let sound = sym (ap (λ (r : Reader). r.fault) c.self.view_is) ∙ no_fault c.self.inside.fault (sym c.is_some.ensures ∙ c.if-is_some.false) in
    rw c.if-b-eq-END_OF_FILE.true (after_end g.N.Notation.spelling stream _ sound open_yet h _ ne c.end_stream.ensures)

pub returns-else-b-eq-END_OF_FILE-clause-grows : goal.returns-else-b-eq-END_OF_FILE-clause-grows
returns-else-b-eq-END_OF_FILE-clause-grows g c = λ ne stream h.
    let open_yet = sym (ap (λ (r : Reader). r.is_closed) c.self.view_is) ∙ c.if-self.false in
    let sound = sym (ap (λ (r : Reader). r.fault) c.self.view_is) ∙ no_fault c.self.inside.fault (sym c.is_some.ensures ∙ c.if-is_some.false) in
    let holding : Option (List ℕ) → Reader = λ held. record { statements = c.self.inside.statements.items; held = held; number = c.self.inside.number; is_closed = c.self.inside.is_closed; fault = c.self.inside.fault } in
    after_byte g.N.Notation.spelling stream _ sound open_yet h _ (c.if-b-eq10.false, c.if-b-eq-END_OF_FILE.false) _ (ap holding c.push.ensures ∙ ap (λ (r : Reader). record r { held = held_with_byte r.held c.args.b }) c.self.view_is)
