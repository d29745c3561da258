-- One statement more. Searches find all of this too, but take ten times as long.
use Rattle.std.proofs.Common.{◌∙◌, ◌∷◌, [], sym, refl, arith}
use Rattle.std.proofs.lemmas.List.{map-append}
use Rattle.std.proofs.lemmas.Result.{err_from_is_err_and}
use Rattle.asm86_line_types.specs.declared.line.Line86.{Line86}
use Rattle.asm86_line_types.specs.Image.{statements}
use Rattle.asm86.proofs.listing.Listing.push.Goals as goal

pub returns-then-not-pass : goal.returns-then-not-pass
returns-then-not-pass c =
    let xs = c.args.self.now.lines.items in
    (refl, refl, rw (map-append (λ (x : Line86). x.stmt) xs (record { line = c.args.number; stmt = c.args.stmt } ∷ [])) (sym (c.pass.ensures.verdict (statements xs) c.requires.place) ∙ c.if-not-pass.true))

pub returns : goal.returns
returns c =
    let xs = c.args.self.now.lines.items in (
      record {
        place = rw (c.in_ok-push.ensures.items, map-append (λ (x : Line86). x.stmt) xs (record { line = c.args.number; stmt = c.args.stmt } ∷ [])) (c.pass.ensures.moves (statements xs) c.requires.place c.if-not-pass.false);
        few = grind (arith, c.requires.few, c.in_ok-push.ensures.len, c.len.ensures, c.if-len-eq-MOST_STATEMENTS.false);
      },
      c.in_ok-push.ensures.items,
      refl,
    )

pub returns-in_err-push : goal.returns-in_err-push
returns-in_err-push c = let q = err_from_is_err_and c.from_residual.result c.from_residual.ensures.1 in rw (q.1, q.2) tt
