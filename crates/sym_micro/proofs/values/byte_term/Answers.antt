use Rattle.std.proofs.Common.{◌≡◌, ◌<◌, ap, refl, subst, sym, arith, Option, Some}
use Rattle.i80.specs.declared.Op.{Op}
use Rattle.i80.specs.declared.Op.TheVariants.{Cmp}
use Rattle.sym_terms.specs.declared.head.Term.{Term as TermId}
use Rattle.sym_terms.specs.Term.{Num}
use Rattle.sym_terms.specs.Making.{half_of}
use Rattle.sym_terms.specs.Trees.{tree_in, IsGiven, Makes}
use Rattle.xlt_pool.specs.Contents.{Contents}
use Rattle.sym_block_def.specs.Block80.{a_after}
use Rattle.sym_micro.specs.declared.micro.ByteValue.{ByteValue}
use Rattle.sym_micro.specs.declared.micro.ByteValue.TheVariants.{After}
use Rattle.sym_micro.specs.declared.run.Run.{Run}
use Rattle.sym_micro.specs.Machine.{byte_value, ByteIsCoded}
use Rattle.sym_micro.specs.Stands.{RunIsGiven, id_after, machine_of}
use Rattle.sym_micro.proofs.Ready.{byte_here, byte_tree_here, word_here, word_tree_here, made_already, makes_same}
use Rattle.sym_micro.proofs.values.byte_term.Goals as goal

of_arm : {value arm : ByteValue} (old new : Contents) (r : Run) (made : Option TermId) → value ≡ arm → Makes old new 1 (byte_value (machine_of old r) arm) made → Makes old new 1 (byte_value (machine_of old r) value) made
of_arm old new r made is h = makes_same old new _ _ made (ap (byte_value (machine_of old r)) (sym is)) h

-- what A holds after an operation
after_given : (pool : Contents) (r : Run) (op : Op) → RunIsGiven pool r → IsGiven pool (id_after op r)
after_given pool r Cmp given = given.held.a
after_given pool r op given = given.result

after_tree : (pool : Contents) (r : Run) (op : Op) → tree_in pool (id_after op r) ≡ a_after op (tree_in pool r.held.a) (tree_in pool r.result)
after_tree pool r Cmp = refl
after_tree pool r op = refl

pub returns-in-Of : goal.returns-in-Of
returns-in-Of c =
    let old = c.args.terms.now in
    let r = c.args.run.now in
    let slot = c.in-Of.slot in
    let here = byte_here old r slot c.byte.result c.requires c.byte.ensures in
    record { made = of_arm old old r (Some c.byte.result) c.in-Of.is (made_already old _ c.byte.result c.requires.terms here.given (byte_tree_here old r slot c.byte.result c.byte.ensures)); coded = subst ByteIsCoded (sym c.in-Of.is) tt }

pub returns-in-Number : goal.returns-in-Number
returns-in-Number c =
    let small : c.in-Number.n < 0x100 = omega arith in
    let made = makes_same c.args.terms.now c.number.new.self _ _ c.number.result (ap Num c.from.ensures) c.number.ensures in
    record { made = of_arm c.args.terms.now c.number.new.self c.args.run.now c.number.result c.in-Number.is made; coded = subst ByteIsCoded (sym c.in-Number.is) small }

pub returns-in-Start : goal.returns-in-Start
returns-in-Start c =
    record { made = of_arm c.args.terms.now c.start_term.new.terms c.args.run.now c.start_term.result c.in-Start.is c.start_term.ensures; coded = subst ByteIsCoded (sym c.in-Start.is) tt }

pub returns-in-Code : goal.returns-in-Code
returns-in-Code c =
    record { made = of_arm c.args.terms.now c.code.new.self c.args.run.now c.code.result c.in-Code.is c.code.ensures; coded = subst ByteIsCoded (sym c.in-Code.is) tt }

pub half-requires : goal.half-requires
half-requires c = word_here c.args.terms.now c.args.run.now c.in-Half.slot c.word.result c.requires c.word.ensures

pub returns-in-Half : goal.returns-in-Half
returns-in-Half c =
    let old = c.args.terms.now in
    let r = c.args.run.now in
    let same = ap (half_of c.in-Half.high) (word_tree_here old r c.in-Half.slot c.word.result c.word.ensures) in
    record { made = of_arm old c.half.new.self r c.half.result c.in-Half.is (makes_same old c.half.new.self _ _ c.half.result same c.half.ensures); coded = subst ByteIsCoded (sym c.in-Half.is) tt }

pub returns-in-Loaded : goal.returns-in-Loaded
returns-in-Loaded c =
    record { made = of_arm c.args.terms.now c.loaded.new.self c.args.run.now c.loaded.result c.in-Loaded.is c.loaded.ensures; coded = subst ByteIsCoded (sym c.in-Loaded.is) tt }

pub returns-in-Result : goal.returns-in-Result
returns-in-Result c =
    let old = c.args.terms.now in
    let r = c.args.run.now in
    record { made = of_arm old old r (Some r.result) c.in-Result.is (made_already old _ r.result c.requires.terms c.requires.given.result refl); coded = subst ByteIsCoded (sym c.in-Result.is) tt }

pub returns-in-After : goal.returns-in-After
returns-in-After c =
    let old = c.args.terms.now in
    let r = c.args.run.now in
    let op = c.in-After.op in
    let made = made_already old _ (id_after op r) c.requires.terms (after_given old r op c.requires.given) (after_tree old r op) in
    record { made = of_arm old old r (Some c.after.result) c.in-After.is (subst (λ t. Makes old old 1 (byte_value (machine_of old r) (After op)) (Some t)) (sym c.after.ensures) made); coded = subst ByteIsCoded (sym c.in-After.is) tt }

pub returns-in-Turned : goal.returns-in-Turned
returns-in-Turned c =
    let old = c.args.terms.now in
    let r = c.args.run.now in
    record { made = of_arm old old r (Some r.turned) c.in-Turned.is (made_already old _ r.turned c.requires.terms c.requires.given.turned refl); coded = subst ByteIsCoded (sym c.in-Turned.is) tt }
