use Rattle.std.proofs.Common.{◌≡◌, ◌∙◌, ap, subst, sym, Option, Some, None, le_refl, lit≤}
use Rattle.i80.specs.declared.Op.TheVariants.{Xra}
use Rattle.sym_terms.specs.declared.head.Term.{Term as TermId}
use Rattle.sym_terms.specs.Term.{Num, is_bit, is_byte}
use Rattle.sym_terms.specs.Making.{alu}
use Rattle.sym_terms.specs.Trees.{tree_in, Makes}
use Rattle.sym_terms.proofs.Interning.{then_grows}
use Rattle.xlt_pool.specs.Contents.{Contents}
use Rattle.sym_micro.specs.declared.micro.FlagSlot.TheVariants.{Cy}
use Rattle.sym_micro.specs.declared.run.Run.{Run}
use Rattle.sym_micro.specs.Machine.{with_flag}
use Rattle.sym_micro.specs.Stands.{machine_of, IsReady, GoesOn, Gives}
use Rattle.sym_micro.proofs.Sorted.{complement_sorted}
use Rattle.sym_micro.proofs.Ready.{gives_of, then_gives, failed, gave_flag}
use Rattle.sym_micro.proofs.performing.complement.Goals as goal

-- 0 and 1 are made first, then the other value
complemented : (old mid last new : Contents) (r : Run) (zero one : TermId) (made : Option TermId) → IsReady old r → Makes old mid 1 (Num 0) (Some zero) → Makes mid last 1 (Num 1) (Some one) → Makes last new 1 (alu Xra (tree_in last r.held.cy) (tree_in last one) (tree_in last zero)) made → Gives old new 3 (alu Xra (tree_in old r.held.cy) (Num 1) (Num 0)) made
complemented old mid last new r zero one made h first second m =
    let cy = r.held.cy in
    let grows = then_grows old mid last 1 1 first.grows second.grows in
    let tree = alu Xra (tree_in old cy) (Num 1) (Num 0) in
    let is_cy : tree_in last cy ≡ tree_in old cy = (grows.kept cy h.given.held.cy).1 in
    let is_zero : tree_in last zero ≡ Num 0 = (second.grows.kept zero first.gives.0).1 ∙ first.gives.1 in
    let is : alu Xra (tree_in last cy) (tree_in last one) (tree_in last zero) ≡ tree = (λ i. alu Xra (is_cy i) (second.gives.1 i) (is_zero i)) in
    then_gives old last new 2 1 tree made grows (subst (λ t. Gives last new 1 t made) is (gives_of last new 1 (alu Xra (tree_in last cy) (tree_in last one) (tree_in last zero)) made m))

pub alu-requires-clause-a : goal.alu-requires-clause-a
alu-requires-clause-a c =
    let old = c.args.terms.now in
    let mid = c.number.new.self in
    let last = c.number-2.new.self in
    let cy = c.args.run.now.held.cy in
    let grows = then_grows old mid last 1 1 c.in_ok-zero.ensures.grows c.in_ok-one.ensures.grows in
    let kept = grows.kept cy c.requires.given.held.cy in
    record {
      given = kept.0;
      of_sort = ap is_byte kept.1 ∙ (c.made_terms_have_sorts.ensures.bits_are_bytes (tree_in old cy) c.requires.sorted.held.cy).1;
    }

pub alu-requires-clause-b : goal.alu-requires-clause-b
alu-requires-clause-b c = record { given = c.in_ok-one.ensures.gives.0; of_sort = ap is_byte c.in_ok-one.ensures.gives.1 }

pub alu-requires-clause-carry : goal.alu-requires-clause-carry
alu-requires-clause-carry c =
    let kept = c.in_ok-one.ensures.grows.kept c.in_ok-zero.zero c.in_ok-zero.ensures.gives.0 in
    record { given = kept.0; of_sort = ap is_bit (kept.1 ∙ c.in_ok-zero.ensures.gives.1) }

pub returns-in_err-zero : goal.returns-in_err-zero
returns-in_err-zero c =
    let old = c.args.terms.now in
    let new = c.number.new.self in
    let r = c.args.run.now in
    let tree = alu Xra (tree_in old r.held.cy) (Num 1) (Num 0) in
    subst (λ x. GoesOn old new r r 3 0 (λ m. m ≡ with_flag (machine_of old r) Cy tree) x) (sym c.from_residual.ensures)
    (failed old new r 1 3 0 (Num 0) (λ m. m ≡ with_flag (machine_of old r) Cy tree) (lit≤ tt) c.requires (gives_of old new 1 (Num 0) None c.in_err-zero.ensures))

pub returns-in_err-one : goal.returns-in_err-one
returns-in_err-one c =
    let old = c.args.terms.now in
    let mid = c.number.new.self in
    let new = c.number-2.new.self in
    let r = c.args.run.now in
    let tree = alu Xra (tree_in old r.held.cy) (Num 1) (Num 0) in
    subst (λ x. GoesOn old new r r 3 0 (λ m. m ≡ with_flag (machine_of old r) Cy tree) x) (sym c.from_residual-in_err-one.ensures)
    (failed old new r 2 3 0 (Num 1) (λ m. m ≡ with_flag (machine_of old r) Cy tree) (lit≤ tt) c.requires
    (then_gives old mid new 1 1 (Num 1) None c.in_ok-zero.ensures.grows (gives_of mid new 1 (Num 1) None c.in_err-one.ensures)))

pub returns-in_err-term : goal.returns-in_err-term
returns-in_err-term c =
    let old = c.args.terms.now in
    let new = c.alu.new.self in
    let r = c.args.run.now in
    let tree = alu Xra (tree_in old r.held.cy) (Num 1) (Num 0) in
    subst (λ x. GoesOn old new r r 3 0 (λ m. m ≡ with_flag (machine_of old r) Cy tree) x) (sym c.from_residual-in_err-term.ensures)
    (failed old new r 3 3 0 tree (λ m. m ≡ with_flag (machine_of old r) Cy tree) (le_refl 3) c.requires
    (complemented old c.number.new.self c.number-2.new.self new r c.in_ok-zero.zero c.in_ok-one.one None c.requires c.in_ok-zero.ensures c.in_ok-one.ensures c.in_err-term.ensures))

pub returns : goal.returns
returns c =
    let old = c.args.terms.now in
    let new = c.alu.new.self in
    let r = c.args.run.now in
    let tree = alu Xra (tree_in old r.held.cy) (Num 1) (Num 0) in
    let t = c.in_ok-term.term in
    subst (λ x. GoesOn old new r x 3 0 (λ m. m ≡ with_flag (machine_of old r) Cy tree) (Some tt)) (sym c.set_flag.ensures)
    (gave_flag old new r Cy 3 tree t c.requires
    (complemented old c.number.new.self c.number-2.new.self new r c.in_ok-zero.zero c.in_ok-one.one (Some t) c.requires c.in_ok-zero.ensures c.in_ok-one.ensures c.in_ok-term.ensures)
    (complement_sorted c.made_terms_have_sorts.ensures (tree_in old r.held.cy) c.requires.sorted.held.cy))
