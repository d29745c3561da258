-- What each arm calls ensures it of the arm's micro-operation, which saves a long search.
use Rattle.std.proofs.Common.{◌≡◌, ℕ, ◌+◌, ◌<◌, ◌≤◌, ◌∙◌, ap, ap₂, refl, subst, sym, arith, length, Option}
use Rattle.xlt_pool.specs.Contents.{Contents}
use Rattle.sym_block_def.specs.Outcome.{Action, Load8, Load16, Store8, Store16}
use Rattle.sym_micro.specs.declared.micro.Micro.{Micro}
use Rattle.sym_micro.specs.declared.micro.Micro.TheVariants.{Flags}
use Rattle.sym_micro.specs.declared.run.Run.{Run}
use Rattle.sym_micro.specs.Machine.{micro, weight, moves, acts_at}
use Rattle.sym_micro.specs.Stands.{machine_of, GoesOn}
use Rattle.sym_micro.proofs.Ready.{byte_here, byte_tree_here, word_here, word_tree_here}
use Rattle.sym_micro.proofs.performing.perform_one.Goals as goal

of_arm : {step arm : Micro} (old new : Contents) (r s : Run) (made : Option (Unit {0})) → step ≡ arm → GoesOn old new r s (weight arm) (moves arm) (λ m. m ≡ micro (machine_of old r) arm) made → GoesOn old new r s (weight step) (moves step) (λ m. m ≡ micro (machine_of old r) step) made
of_arm old new r s made is h = subst (λ (k : Micro). GoesOn old new r s (weight k) (moves k) (λ m. m ≡ micro (machine_of old r) k) made) (sym is) h

-- the action of the ids is that of their trees
by_trees : {x y : Action} (old : Contents) (r s : Run) (made : Option (Unit {0})) → x ≡ y → GoesOn old old r s 0 1 (λ m. m ≡ acts_at (machine_of old r) x) made → GoesOn old old r s 0 1 (λ m. m ≡ acts_at (machine_of old r) y) made
by_trees old r s made same h = subst (λ a. GoesOn old old r s 0 1 (λ m. m ≡ acts_at (machine_of old r) a) made) same h

-- there is room for the action of a load or a store
room_for : {step arm : Micro} (n : ℕ) → step ≡ arm → moves arm ≡ 1 → n + moves step ≤ 512 → n < 512
room_for {arm = arm} n is one h =
    let fits : n + moves arm ≤ 512 = subst (λ (k : Micro). n + moves k ≤ 512) is h in
    omega arith

pub returns-in-Byte : goal.returns-in-Byte
returns-in-Byte c = of_arm c.args.terms.now c.give_byte.new.terms c.args.run.now c.give_byte.new.run c.give_byte.result c.in-Byte.is c.give_byte.ensures

pub returns-in-Word : goal.returns-in-Word
returns-in-Word c = of_arm c.args.terms.now c.give_word.new.terms c.args.run.now c.give_word.new.run c.give_word.result c.in-Word.is c.give_word.ensures

pub returns-in-Flag : goal.returns-in-Flag
returns-in-Flag c = of_arm c.args.terms.now c.give_flag.new.terms c.args.run.now c.give_flag.new.run c.give_flag.result c.in-Flag.is c.give_flag.ensures

pub returns-in-All : goal.returns-in-All
returns-in-All c =
    of_arm c.args.terms.now c.give_five_flags.new.terms c.args.run.now c.give_five_flags.new.run c.give_five_flags.result (c.in-Flags.is ∙ ap (λ flags. Flags flags c.in-Flags.value) c.in-All.is) c.give_five_flags.ensures

pub returns-in-AllButCy : goal.returns-in-AllButCy
returns-in-AllButCy c =
    of_arm c.args.terms.now c.give_four_flags.new.terms c.args.run.now c.give_four_flags.new.run c.give_four_flags.result (c.in-Flags.is ∙ ap (λ flags. Flags flags c.in-Flags.value) c.in-AllButCy.is) c.give_four_flags.ensures

pub returns-in-Put : goal.returns-in-Put
returns-in-Put c = of_arm c.args.terms.now c.put.new.terms c.args.run.now c.put.new.run c.put.result c.in-Put.is c.put.ensures

pub returns-in-Sum : goal.returns-in-Sum
returns-in-Sum c = of_arm c.args.terms.now c.give_sum.new.terms c.args.run.now c.give_sum.new.run c.give_sum.result c.in-Sum.is c.give_sum.ensures

pub returns-in-FlagByte : goal.returns-in-FlagByte
returns-in-FlagByte c = of_arm c.args.terms.now c.give_flag_byte.new.terms c.args.run.now c.give_flag_byte.new.run c.give_flag_byte.result c.in-FlagByte.is c.give_flag_byte.ensures

pub returns-in-Complement : goal.returns-in-Complement
returns-in-Complement c = of_arm c.args.terms.now c.complement.new.terms c.args.run.now c.complement.new.run c.complement.result c.in-Complement.is c.complement.ensures

pub returns-in-Operate : goal.returns-in-Operate
returns-in-Operate c = of_arm c.args.terms.now c.operate.new.terms c.args.run.now c.operate.new.run c.operate.result c.in-Operate.is c.operate.ensures

pub returns-in-Adjust : goal.returns-in-Adjust
returns-in-Adjust c = of_arm c.args.terms.now c.adjust.new.terms c.args.run.now c.adjust.new.run c.adjust.result c.in-Adjust.is c.adjust.ensures

pub returns-in-Turn : goal.returns-in-Turn
returns-in-Turn c = of_arm c.args.terms.now c.turn.new.terms c.args.run.now c.turn.new.run c.turn.result c.in-Turn.is c.turn.ensures

pub act-requires : goal.act-requires
act-requires c =
    let old = c.args.terms.now in
    let r = c.args.run.now in
    record {
      ready = c.requires.ready;
      given = (word_here old r c.in-Load8.address c.word.result c.requires.ready c.word.ensures).given;
      room = room_for (length r.actions.items) c.in-Load8.is refl c.requires.room;
    }

pub returns-in-Load8 : goal.returns-in-Load8
returns-in-Load8 c =
    let old = c.args.terms.now in
    let r = c.args.run.now in
    let s = c.act.new.run in
    let same = ap Load8 (word_tree_here old r c.in-Load8.address c.word.result c.word.ensures) in
    of_arm old old r s c.act.result c.in-Load8.is (by_trees old r s c.act.result same c.act.ensures)

pub act-requires-in-Load16 : goal.act-requires-in-Load16
act-requires-in-Load16 c =
    let old = c.args.terms.now in
    let r = c.args.run.now in
    record {
      ready = c.requires.ready;
      given = (word_here old r c.in-Load16.address c.word-in-Load16.result c.requires.ready c.word-in-Load16.ensures).given;
      room = room_for (length r.actions.items) c.in-Load16.is refl c.requires.room;
    }

pub returns-in-Load16 : goal.returns-in-Load16
returns-in-Load16 c =
    let old = c.args.terms.now in
    let r = c.args.run.now in
    let s = c.act-in-Load16.new.run in
    let same = ap Load16 (word_tree_here old r c.in-Load16.address c.word-in-Load16.result c.word-in-Load16.ensures) in
    of_arm old old r s c.act-in-Load16.result c.in-Load16.is (by_trees old r s c.act-in-Load16.result same c.act-in-Load16.ensures)

pub act-requires-in-Store8 : goal.act-requires-in-Store8
act-requires-in-Store8 c =
    let old = c.args.terms.now in
    let r = c.args.run.now in
    record {
      ready = c.requires.ready;
      given = ((word_here old r c.in-Store8.address c.word-in-Store8.result c.requires.ready c.word-in-Store8.ensures).given, (byte_here old r c.in-Store8.byte c.byte.result c.requires.ready c.byte.ensures).given);
      room = room_for (length r.actions.items) c.in-Store8.is refl c.requires.room;
    }

pub returns-in-Store8 : goal.returns-in-Store8
returns-in-Store8 c =
    let old = c.args.terms.now in
    let r = c.args.run.now in
    let s = c.act-in-Store8.new.run in
    let same = ap₂ Store8 (word_tree_here old r c.in-Store8.address c.word-in-Store8.result c.word-in-Store8.ensures) (byte_tree_here old r c.in-Store8.byte c.byte.result c.byte.ensures) in
    of_arm old old r s c.act-in-Store8.result c.in-Store8.is (by_trees old r s c.act-in-Store8.result same c.act-in-Store8.ensures)

pub act-requires-in-Store16 : goal.act-requires-in-Store16
act-requires-in-Store16 c =
    let old = c.args.terms.now in
    let r = c.args.run.now in
    record {
      ready = c.requires.ready;
      given = ((word_here old r c.in-Store16.address c.word-in-Store16.result c.requires.ready c.word-in-Store16.ensures).given, (word_here old r c.in-Store16.word c.word-in-Store16-2.result c.requires.ready c.word-in-Store16-2.ensures).given);
      room = room_for (length r.actions.items) c.in-Store16.is refl c.requires.room;
    }

pub returns-in-Store16 : goal.returns-in-Store16
returns-in-Store16 c =
    let old = c.args.terms.now in
    let r = c.args.run.now in
    let s = c.act-in-Store16.new.run in
    let same = ap₂ Store16 (word_tree_here old r c.in-Store16.address c.word-in-Store16.result c.word-in-Store16.ensures) (word_tree_here old r c.in-Store16.word c.word-in-Store16-2.result c.word-in-Store16-2.ensures) in
    of_arm old old r s c.act-in-Store16.result c.in-Store16.is (by_trees old r s c.act-in-Store16.result same c.act-in-Store16.ensures)
