use Rattle.std.proofs.Common.{◌≡◌, ◌-◌, ◌≤◌, ◌∙◌, List, [], ◌∷◌, length, take, drop, get_or, sym, ap, arith}
use Rattle.std.proofs.lemmas.List.{take_all}
use Rattle.asm80_types.specs.Tree.{tree_of}
use Rattle.asm80_text.specs.declared.token.Token.{Token}
use Rattle.asm80_text.proofs.Cases.{term_first}
use Rattle.asm80_text.proofs.parser.term_alone.Goals as goal

front : (ts : List Token) (t : Token) → 1 ≤ length ts → t ≡ get_or ts 0 t → ts ≡ t ∷ take (length ts - 1) (drop 1 ts)
front [] t some is = absurd (omega (arith, some))
front (u ∷ ts) t some is = ap (λ k. k ∷ ts) (sym is) ∙ ap (λ k. t ∷ k) (sym (take_all (length (u ∷ ts) - 1) ts (omega arith)))

pub returns-in_ok-term-in-len1-up : goal.returns-in_ok-term-in-len1-up
returns-in_ok-term-in-len1-up c = (
  term_first c.args.tokens.now _ c.token-item.result (tree_of c.in_ok-term-in-len1-up.term) (front c.args.tokens.now c.token-item.result c.in-len1-up.len_at_least c.token-item.is) (sym c.in_ok-term-in-len1-up.ensures),
  c.goes_on.ensures c.if-goes_on.false,
)
