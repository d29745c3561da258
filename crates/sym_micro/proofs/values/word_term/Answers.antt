use Rattle.std.proofs.Common.{◌≡◌, ◌∙◌, ◌<◌, ap, refl, subst, sym, arith, Option, Some}
use Rattle.sym_terms.specs.declared.head.Term.{Term as TermId}
use Rattle.sym_terms.specs.Making.{join}
use Rattle.sym_terms.specs.Trees.{tree_in, Makes}
use Rattle.xlt_pool.specs.Contents.{Contents}
use Rattle.sym_micro.specs.declared.micro.WordValue.{WordValue}
use Rattle.sym_micro.specs.declared.micro.WordValue.TheVariants.{Of as OfWide, Pointed}
use Rattle.sym_micro.specs.declared.run.Run.{Run}
use Rattle.sym_micro.specs.Machine.{byte_in, word_value, WordIsCoded}
use Rattle.sym_micro.specs.Stands.{machine_of}
use Rattle.sym_micro.proofs.Ready.{byte_here, byte_tree_here, made_already, makes_same}
use Rattle.sym_micro.proofs.values.word_term.Goals as goal

of_arm : {value arm : WordValue} (old new : Contents) (r : Run) (made : Option TermId) → value ≡ arm → Makes old new 1 (word_value (machine_of old r) arm) made → Makes old new 1 (word_value (machine_of old r) value) made
of_arm old new r made is h = makes_same old new _ _ made (ap (word_value (machine_of old r)) (sym is)) h

pub join-requires-clause-high : goal.join-requires-clause-high
join-requires-clause-high c = byte_here c.args.terms.now c.args.run.now c.in-Join.high c.byte.result c.requires c.byte.ensures

pub join-requires-clause-low : goal.join-requires-clause-low
join-requires-clause-low c = byte_here c.args.terms.now c.args.run.now c.in-Join.low c.byte-in-Join.result c.requires c.byte-in-Join.ensures

pub returns-in-Of80 : goal.returns-in-Of80
returns-in-Of80 c =
    let is = c.in-Of.is ∙ ap OfWide c.in-Of80.is in
    record { made = of_arm c.args.terms.now c.pair_term.new.terms c.args.run.now c.pair_term.result is c.pair_term.ensures; coded = subst WordIsCoded (sym is) tt }

pub returns-in-Of86 : goal.returns-in-Of86
returns-in-Of86 c =
    let is = c.in-Of.is ∙ ap OfWide c.in-Of86.is in
    record { made = of_arm c.args.terms.now c.word_86_term.new.terms c.args.run.now c.word_86_term.result is c.word_86_term.ensures; coded = subst WordIsCoded (sym is) tt }

pub returns-in-Bx : goal.returns-in-Bx
returns-in-Bx c =
    let is = c.in-Pointed.is ∙ ap Pointed c.in-Bx.is in
    record { made = of_arm c.args.terms.now c.pair_term-in-Bx.new.terms c.args.run.now c.pair_term-in-Bx.result is c.pair_term-in-Bx.ensures; coded = subst WordIsCoded (sym is) tt }

pub returns-in-Si : goal.returns-in-Si
returns-in-Si c =
    let old = c.args.terms.now in
    let r = c.args.run.now in
    let is = c.in-Pointed.is ∙ ap Pointed c.in-Si.is in
    record { made = of_arm old old r (Some r.si) is (made_already old _ r.si c.requires.terms c.requires.given.si refl); coded = subst WordIsCoded (sym is) tt }

pub returns-in-Number : goal.returns-in-Number
returns-in-Number c =
    let small : c.in-Number.n < 0x10000 = omega arith in
    record { made = of_arm c.args.terms.now c.number.new.self c.args.run.now c.number.result c.in-Number.is c.number.ensures; coded = subst WordIsCoded (sym c.in-Number.is) small }

pub returns-in-StartSp : goal.returns-in-StartSp
returns-in-StartSp c =
    record { made = of_arm c.args.terms.now c.start_sp.new.self c.args.run.now c.start_sp.result c.in-StartSp.is c.start_sp.ensures; coded = subst WordIsCoded (sym c.in-StartSp.is) tt }

pub returns-in-Turned : goal.returns-in-Turned
returns-in-Turned c =
    record { made = of_arm c.args.terms.now c.turn.new.self c.args.run.now c.turn.result c.in-Turned.is c.turn.ensures; coded = subst WordIsCoded (sym c.in-Turned.is) tt }

pub returns-in-Loaded : goal.returns-in-Loaded
returns-in-Loaded c =
    record { made = of_arm c.args.terms.now c.loaded.new.self c.args.run.now c.loaded.result c.in-Loaded.is c.loaded.ensures; coded = subst WordIsCoded (sym c.in-Loaded.is) tt }

pub returns-in-Unknown : goal.returns-in-Unknown
returns-in-Unknown c =
    record { made = of_arm c.args.terms.now c.unknown.new.self c.args.run.now c.unknown.result c.in-Unknown.is c.unknown.ensures; coded = subst WordIsCoded (sym c.in-Unknown.is) tt }

pub returns-in-Join : goal.returns-in-Join
returns-in-Join c =
    let old = c.args.terms.now in
    let r = c.args.run.now in
    let low = byte_tree_here old r c.in-Join.low c.byte-in-Join.result c.byte-in-Join.ensures in
    let same = ap (λ h. join h (tree_in old c.byte-in-Join.result)) (byte_tree_here old r c.in-Join.high c.byte.result c.byte.ensures) ∙ ap (join (byte_in (machine_of old r) c.in-Join.high)) low in
    record { made = of_arm old c.join.new.self r c.join.result c.in-Join.is (makes_same old c.join.new.self _ _ c.join.result same c.join.ensures); coded = subst WordIsCoded (sym c.in-Join.is) tt }
