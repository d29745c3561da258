use Rattle.std.proofs.Common.{◌-◌, ◌∷◌, [], true, false, length, take, drop, ap, subst, sym, ◌∙◌, append_assoc}
use Rattle.std.proofs.lemmas.List.{append-nil}
use Rattle.asm86_line_reader.specs.Tokens.{Lexes, ends, comment, blank, token, faulty, token_at}
use Rattle.asm86_line_reader.proofs.Cut.{front_of, empty}
use Rattle.asm86_line_reader.proofs.tokens.tokens_of.Goals as goal

pub returns-then-b-eq59 : goal.returns-then-b-eq59
returns-then-b-eq59 c =
    let rest = c.loop-rest.rest.now in
    let is = front_of rest 0 c.in-len1-up.len_at_least ∙ ap (λ b. b ∷ take (length rest - 1) (drop 1 rest)) c.if-b-eq59.true in
    rw append-nil at (c.loop-rest.invariant [] true (subst (λ xs. Lexes xs [] true) (sym is) comment))

pub loop-rest-preserved-then-is_blank : goal.loop-rest-preserved-then-is_blank
loop-rest-preserved-then-is_blank c = λ ts sound x.
    let is = front_of c.loop-rest.rest.now 0 c.in-len1-up.len_at_least in
    c.loop-rest.invariant ts sound (subst (λ xs. Lexes xs ts sound) (sym is) (blank (sym c.is_blank.ensures ∙ c.if-is_blank.true) x))

pub returns-in_default-token_at : goal.returns-in_default-token_at
returns-in_default-token_at c =
    let is = front_of c.loop-rest.rest.now 0 c.in-len1-up.len_at_least in
    let none = sym (c.in_default-token_at.ensures.value ∙ ap token_at is) in
    (c.loop-rest.tokens.items, rw append-nil at (c.loop-rest.invariant [] false (subst (λ xs. Lexes xs [] false) (sym is) (faulty (sym c.is_blank.ensures ∙ c.if-is_blank.false) c.if-b-eq59.false none))))

pub loop-rest-preserved : goal.loop-rest-preserved
loop-rest-preserved c = λ ts sound x.
    let is = front_of c.loop-rest.rest.now 0 c.in-len1-up.len_at_least in
    let some = sym (c.in-Some.ensures.value ∙ ap token_at is) in
    rw (c.in_ok-push.ensures.items, append_assoc)
    (c.loop-rest.invariant (c.in-Some.token ∷ ts) sound (subst (λ xs. Lexes xs (c.in-Some.token ∷ ts) sound) (sym is) (token (sym c.is_blank.ensures ∙ c.if-is_blank.false) c.if-b-eq59.false some x)))

pub returns : goal.returns
returns c = rw append-nil at (c.loop-rest.invariant [] true (subst (λ xs. Lexes xs [] true) (sym (empty c.loop-rest.rest.now c.in_default.len_below)) ends))
