use Rattle.std.proofs.Common.{◌≡◌, ℕ, List, ◌<◌, Some, None, length, refl, sym, ap, subst, ◌∙◌, tests, rules}
use Rattle.base.specs.Cut.{without_cr}
use Rattle.base.specs.Held.{HoldsLine}
use Rattle.asm86.specs.Reader.{TextReader}
use Rattle.asm86.proofs.Listings.{read_alike}
use Rattle.asm86.proofs.reader.Text86.end_line.Goals as goal

long_without_cr : (line : List ℕ) → 256 < length line → 255 < length (without_cr line)
long_without_cr line long = search (rules, tests)

pub read-requires : goal.read-requires
read-requires c = record { fault = ap (λ (r : TextReader). r.fault) c.self.view_is ∙ c.requires; held = c.replace-held.ensures.after ∙ c.new.ensures }

pub refuse_long-requires : goal.refuse_long-requires
refuse_long-requires c = ap (λ (r : TextReader). r.fault) c.self.view_is ∙ c.requires

pub returns-in-Some : goal.returns-in-Some
returns-in-Some c = λ line h.
    let held : c.args.self.now.held ≡ Some c.in-Some.line.now = sym (ap (λ (r : TextReader). r.held) c.self.view_is) ∙ sym c.replace-held.ensures.value ∙ c.in-Some.ensures in
    let is : c.in-Some.line.now ≡ line = subst (λ o. HoldsLine o line) held h in
    read_alike c.without_cr.result.now (without_cr line) (record { lines = c.self.inside.listing.lines.items; number = c.self.inside.listing.number; held = None; fault = None }) c.args.self.now c.read.new.self c.read.new.self.fault (c.without_cr.ensures ∙ ap without_cr is)
    (ap (λ (r : TextReader). r.lines) c.self.view_is) (ap (λ (r : TextReader). r.number) c.self.view_is) c.read.ensures

pub returns-in-None : goal.returns-in-None
returns-in-None c = λ line h.
    let held : c.args.self.now.held ≡ None = sym (ap (λ (r : TextReader). r.held) c.self.view_is) ∙ sym c.replace-held.ensures.value ∙ c.in-None.ensures in
    let long : 256 < length line = subst (λ o. HoldsLine o line) held h in
    read_alike (without_cr line) (without_cr line) (record { lines = c.self.inside.listing.lines.items; number = c.self.inside.listing.number; held = None; fault = None }) c.args.self.now c.refuse_long.new.self c.refuse_long.new.self.fault refl
    (ap (λ (r : TextReader). r.lines) c.self.view_is) (ap (λ (r : TextReader). r.number) c.self.view_is) (c.refuse_long.ensures (without_cr line) (long_without_cr line long))
