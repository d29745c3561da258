use Rattle.std.proofs.Common.{◌≡◌, ◌∙◌, ◌-◌, ◌++◌, suc, cond, IfOk, subst, sym, ap, arith}
use Rattle.std.proofs.lemmas.Result.{IfOk-weaker}
use Rattle.std.specs.String.{string_bytes}
use Rattle.sym_terms.specs.Trees.{tree_in, tree_of_head, entries_of}
use Rattle.block_explain.specs.Names.{sign_words, takes_carry}
use Rattle.block_explain.specs.Words.{two_words, three_words, in_brackets, words_to}
use Rattle.block_explain.proofs.Heads.{leaf_words}
use Rattle.block_explain.proofs.terms.+words.Goals as goal
use Rattle.block_explain.proofs.terms.+words.Goals.{alu_words-then-takes_carry+in_ok-operands, alu_words-else-takes_carry+in_ok-operands-2}

pub deep_words-returns-in-Num : goal.deep_words-returns-in-Num
deep_words-returns-in-Num t c =
    let es = entries_of c.args.terms.now.nodes in
    subst (λ x. IfOk c.shallow_words.result (λ text. string_bytes text ≡ x)) (leaf_words es c.args.depth c.args.head c.in-Num.is) (c.shallow_words.ensures es)

pub words_to-returns-then-depth-eq0 : goal.words_to-returns-then-depth-eq0
words_to-returns-then-depth-eq0 t c =
    let es = entries_of c.args.terms.now.nodes in
    let same : words_to 0 (tree_of_head es c.head-head.result) ≡ words_to c.args.depth (tree_in c.args.terms.now c.args.term) = ap (λ n. words_to n (tree_of_head es c.head-head.result)) (sym c.if-depth-eq0.true) ∙ ap (words_to c.args.depth) (sym c.head-head.ensures.tree) in
    subst (λ x. IfOk c.shallow_words.result (λ text. string_bytes text ≡ x)) same (c.shallow_words.ensures es)

pub words_to-returns-else-depth-eq0 : goal.words_to-returns-else-depth-eq0
words_to-returns-else-depth-eq0 t c =
    let es = entries_of c.args.terms.now.nodes in
    let none = c.if-depth-eq0.false in
    let depth : suc (c.args.depth - 1) ≡ c.args.depth = omega (arith, none) in
    let same : words_to (suc (c.args.depth - 1)) (tree_of_head es c.head-head.result) ≡ words_to c.args.depth (tree_in c.args.terms.now c.args.term) = ap (λ n. words_to n (tree_of_head es c.head-head.result)) depth ∙ ap (words_to c.args.depth) (sym c.head-head.ensures.tree) in
    subst (λ x. IfOk c.deep_words.result (λ text. string_bytes text ≡ x)) same c.deep_words.ensures

pub one_words-returns : goal.one_words-returns
one_words-returns t c = IfOk-weaker c.format.result _ _ (λ text e. e ∙ ap (λ t. c.args.what.now ++ (c.args.between.now ++ t)) c.in_ok-operand.ensures) c.format.ensures.ok

pub three_words-returns : goal.three_words-returns
three_words-returns t c =
    let first = words_to c.args.depth (tree_in c.args.terms.now c.args.a) in
    IfOk-weaker c.format.result _ _ (λ text e. e ∙ ap (λ t. t ++ (c.args.between.now ++ string_bytes c.in_ok-others.others)) c.in_ok-first.ensures ∙ ap (λ t. first ++ (c.args.between.now ++ t)) c.in_ok-others.ensures) c.format.ensures.ok

pub two_words-returns : goal.two_words-returns
two_words-returns t c =
    let others = words_to c.args.depth (tree_in c.args.terms.now c.args.b) in
    IfOk-weaker c.one_words.result _ _ (λ text e. e ∙ ap (λ t. t ++ (c.args.between.now ++ others)) (c.as_str.ensures.value ∙ c.in_ok-first.ensures)) c.one_words.ensures

pub alu_words-returns : goal.alu_words-returns
alu_words-returns t c =
    let first = words_to c.args.depth (tree_in c.args.terms.now c.args.a) in
    let second = words_to c.args.depth (tree_in c.args.terms.now c.args.b) in
    let carry = words_to c.args.depth (tree_in c.args.terms.now c.args.carry) in
    let sign = sign_words c.args.op in
    let operands : string_bytes c.if-takes_carry.operands ≡ cond (takes_carry c.args.op) (three_words sign first second carry) (two_words sign first second) = elim c.if-takes_carry.branch [
      | alu_words-then-takes_carry+in_ok-operands w ↦ ap string_bytes w.operands-is ∙ w.in_ok-operands.ensures ∙ ap (λ s. three_words s first second carry) c.sign_words-sign.ensures ∙ ap (λ b. cond b (three_words sign first second carry) (two_words sign first second)) (sym w.if-takes_carry.true ∙ c.takes_carry.ensures)
      | alu_words-else-takes_carry+in_ok-operands-2 w ↦ ap string_bytes w.operands-is ∙ w.in_ok-operands-2.ensures ∙ ap (λ s. two_words s first second) c.sign_words-sign.ensures ∙ ap (λ b. cond b (three_words sign first second carry) (two_words sign first second)) (sym w.if-takes_carry.false ∙ c.takes_carry.ensures)
    ] in
    IfOk-weaker c.in_brackets.result _ _ (λ text e. e ∙ ap in_brackets (c.as_str.ensures.value ∙ operands)) c.in_brackets.ensures
