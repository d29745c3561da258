use Rattle.std.proofs.Common.{◌≡◌, ◌<◌, Some, None, [], length, refl, sym, ap, subst, ◌∙◌, arith}
use Rattle.base.specs.Held.{HoldsLine}
use Rattle.asm86.specs.Reader.{TextReader}
use Rattle.asm86.proofs.Listings.{read_alike, rest_read, no_rest, no_bytes, some_bytes}
use Rattle.asm86.proofs.reader.Text86.end_rest.Goals as goal

pub read-requires : goal.read-requires
read-requires c = record { fault = ap (λ (r : TextReader). r.fault) c.self.view_is ∙ c.requires; held = c.replace-held.ensures.after ∙ c.new.ensures }

pub refuse_long-requires : goal.refuse_long-requires
refuse_long-requires c = ap (λ (r : TextReader). r.fault) c.self.view_is ∙ c.requires

pub returns-then-not-is_empty : goal.returns-then-not-is_empty
returns-then-not-is_empty c = λ rest h.
    let held : c.args.self.now.held ≡ Some c.in-Some.line.now = sym (ap (λ (r : TextReader). r.held) c.self.view_is) ∙ sym c.replace-held.ensures.value ∙ c.in-Some.ensures in
    let line = c.in-Some.line.now in
    rest_read line rest c.args.self.now c.read.new.self (subst (λ o. HoldsLine o rest) held h) (sym c.is_empty.ensures ∙ c.if-not-is_empty.true)
    (read_alike line line (record { lines = c.self.inside.listing.lines.items; number = c.self.inside.listing.number; held = None; fault = None }) c.args.self.now c.read.new.self c.read.new.self.fault refl
    (ap (λ (r : TextReader). r.lines) c.self.view_is) (ap (λ (r : TextReader). r.number) c.self.view_is) c.read.ensures)

pub returns-else-not-is_empty : goal.returns-else-not-is_empty
returns-else-not-is_empty c = λ rest h.
    let held : c.args.self.now.held ≡ Some c.in-Some.line.now = sym (ap (λ (r : TextReader). r.held) c.self.view_is) ∙ sym c.replace-held.ensures.value ∙ c.in-Some.ensures in
    let line = c.in-Some.line.now in
    let none : line ≡ [] = no_bytes line (sym c.is_empty.ensures ∙ c.if-not-is_empty.false) in
    let same : c.replace-held.new.dest ≡ c.self.inside.held = c.replace-held.ensures.after ∙ c.new.ensures ∙ ap Some (sym none) ∙ sym c.in-Some.ensures ∙ c.replace-held.ensures.value in
    no_rest line rest c.args.self.now _ (subst (λ o. HoldsLine o rest) held h) none
    (ap (λ held. record { lines = c.self.inside.listing.lines.items; number = c.self.inside.listing.number; held = held; fault = c.self.inside.fault }) same ∙ c.self.view_is)

pub returns-in-None : goal.returns-in-None
returns-in-None c = λ rest h.
    let held : c.args.self.now.held ≡ None = sym (ap (λ (r : TextReader). r.held) c.self.view_is) ∙ sym c.replace-held.ensures.value ∙ c.in-None.ensures in
    let long : 256 < length rest = subst (λ o. HoldsLine o rest) held h in
    rest_read rest rest c.args.self.now c.refuse_long.new.self refl (some_bytes rest long)
    (read_alike rest rest (record { lines = c.self.inside.listing.lines.items; number = c.self.inside.listing.number; held = None; fault = None }) c.args.self.now c.refuse_long.new.self c.refuse_long.new.self.fault refl
    (ap (λ (r : TextReader). r.lines) c.self.view_is) (ap (λ (r : TextReader). r.number) c.self.view_is) (c.refuse_long.ensures rest (omega (arith, long))))
