use Rattle.std.proofs.Common.{◌≡◌, ◌∙◌, List, ap, refl, sym, cond, Option, Some}
use Rattle.sym_terms.specs.declared.head.Term.{Term as TermId}
use Rattle.sym_terms.specs.Term.{Start, Unknown}
use Rattle.sym_terms.specs.Making.{flag, bit}
use Rattle.sym_terms.specs.declared.head.Head.{Head}
use Rattle.sym_terms.specs.declared.head.Head.TheVariants.{Turned}
use Rattle.sym_terms.specs.Trees.{Entry, entries_of, tree_of_head, tree_in, Makes}
use Rattle.xlt_pool.specs.Contents.{Contents}
use Rattle.sym_block_def.specs.Symbolic86.{brought_back}
use Rattle.sym_micro.specs.declared.micro.FlagSlot.{FlagSlot}
use Rattle.sym_micro.specs.declared.micro.FlagValue.{FlagValue}
use Rattle.sym_micro.specs.declared.run.Run.{Run}
use Rattle.sym_micro.specs.Machine.{byte_in, flag_value}
use Rattle.sym_micro.specs.Stands.{machine_of}
use Rattle.sym_micro.proofs.Ready.{byte_here, byte_tree_here, word_here, word_tree_here, made_already, makes_same}
use Rattle.sym_micro.proofs.values.flag_term.Goals as goal

of_arm : {value arm : FlagValue} (old new : Contents) (r : Run) (slot : FlagSlot) (made : Option TermId) → value ≡ arm → Makes old new 1 (flag_value (machine_of old r) slot arm) made → Makes old new 1 (flag_value (machine_of old r) slot value) made
of_arm old new r slot made is h = makes_same old new _ _ made (ap (flag_value (machine_of old r) slot) (sym is)) h

-- only a rotated word has a carry that was rotated into it
not_turned : (es : List Entry) (h : Head) → ((x : TermId) → h ≡ Turned x → ⊥) → brought_back (tree_of_head es h) ≡ Unknown
not_turned es (Turned x) not = absurd (not x refl)
not_turned es h not = refl

pub bit-requires-clause-byte : goal.bit-requires-clause-byte
bit-requires-clause-byte c = byte_here c.args.terms.now c.args.run.now c.in-InByte.byte c.byte.result c.requires c.byte.ensures

pub returns-in-Start : goal.returns-in-Start
returns-in-Start c =
    let old = c.args.terms.now in
    let made = makes_same old c.start_term.new.terms _ _ c.start_term.result (ap (λ p. cond c.in-Start.known (Start p) Unknown) c.part_of-part.ensures.part) c.start_term.ensures in
    of_arm old c.start_term.new.terms c.args.run.now c.args.slot c.start_term.result c.in-Start.is made

pub returns-in-OfResult : goal.returns-in-OfResult
returns-in-OfResult c =
    let old = c.args.terms.now in
    let made = makes_same old c.flag.new.self _ _ c.flag.result (ap (λ p. flag p (tree_in old c.args.run.now.result)) c.part_of-part.ensures.part) c.flag.ensures in
    of_arm old c.flag.new.self c.args.run.now c.args.slot c.flag.result c.in-OfResult.is made

pub returns-in-OfTurned : goal.returns-in-OfTurned
returns-in-OfTurned c = of_arm c.args.terms.now c.flag-in-OfTurned.new.self c.args.run.now c.args.slot c.flag-in-OfTurned.result c.in-OfTurned.is c.flag-in-OfTurned.ensures

pub returns-in-InByte : goal.returns-in-InByte
returns-in-InByte c =
    let old = c.args.terms.now in
    let r = c.args.run.now in
    let same =
    ap (λ b. bit b c.part_of-part.result) (byte_tree_here old r c.in-InByte.byte c.byte.result c.byte.ensures)
    ∙ ap (bit (byte_in (machine_of old r) c.in-InByte.byte)) c.part_of-part.ensures.part
    in
    of_arm old c.bit.new.self r c.args.slot c.bit.result c.in-InByte.is (makes_same old c.bit.new.self _ _ c.bit.result same c.bit.ensures)

pub returns-in-Unknown : goal.returns-in-Unknown
returns-in-Unknown c = of_arm c.args.terms.now c.unknown-in-Unknown.new.self c.args.run.now c.args.slot c.unknown-in-Unknown.result c.in-Unknown.is c.unknown-in-Unknown.ensures

pub flag-requires : goal.flag-requires
flag-requires c = record { given = c.requires.given.result; of_sort = c.requires.sorted.result.leaves c.part_of-part.result c.part_of-part.ensures.flag }

pub flag-requires-in-OfTurned : goal.flag-requires-in-OfTurned
flag-requires-in-OfTurned c = record { given = c.requires.given.turned; of_sort = c.requires.sorted.turned.leaves }

pub head-requires : goal.head-requires
head-requires c = (word_here c.args.terms.now c.args.run.now c.in-BroughtBack.word c.word.result c.requires c.word.ensures).given

pub returns-in-Turned : goal.returns-in-Turned
returns-in-Turned c =
    let old = c.args.terms.now in
    let r = c.args.run.now in
    let carry = c.in-Turned.carry in
    let same = sym (ap brought_back c.in-Turned.ensures.tree) ∙ ap brought_back (word_tree_here old r c.in-BroughtBack.word c.word.result c.word.ensures) in
    of_arm old old r c.args.slot (Some carry) c.in-BroughtBack.is (made_already old _ carry c.requires.terms c.in-Turned.ensures.operands.0 same)

pub returns-in_default : goal.returns-in_default
returns-in_default c =
    let old = c.args.terms.now in
    let r = c.args.run.now in
    let same =
    sym (not_turned (entries_of old.nodes) c.head.result c.in_default.not-Turned)
    ∙ ap brought_back (sym c.head.ensures.tree ∙ word_tree_here old r c.in-BroughtBack.word c.word.result c.word.ensures)
    in
    of_arm old c.unknown.new.self r c.args.slot c.unknown.result c.in-BroughtBack.is (makes_same old c.unknown.new.self _ _ c.unknown.result same c.unknown.ensures)
