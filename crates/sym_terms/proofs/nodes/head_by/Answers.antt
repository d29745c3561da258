-- Each arm makes the head of the arm's kind, which saves a long search.
use Rattle.std.proofs.Common.{◌≡◌, ◌∙◌, ◌==◌, ◌⊎◌, inl, inr, ap, refl, sym}
use Rattle.xlt_pool.specs.declared.node.Node.{Node}
use Rattle.sym_terms.specs.declared.head.Head.{Head}
use Rattle.sym_terms.specs.declared.head.Head.TheVariants.{Start as StartHead, Alu as AluHead, Flag as FlagHead, Sum16 as Sum16Head, High as HighHead, Low as LowHead, Join as JoinHead, Bit as BitHead, Turn as TurnHead, Turned as TurnedHead, Adjust as AdjustHead, Code as CodeHead, Unknown as UnknownHead}
use Rattle.sym_terms.specs.declared.numbers.Kind.{Kind}
use Rattle.sym_terms.specs.declared.numbers.Kind.TheVariants.{FlagByte, Rest, Unknown}
use Rattle.sym_terms.specs.Heads.{head_by}
use Rattle.sym_terms.proofs.nodes.head_by.Goals as goal

of_arm : {kind arm : Kind} {head : Head} (node : Node) → kind ≡ arm → head ≡ head_by arm node → head ≡ head_by kind node
of_arm node is h = h ∙ ap (λ k. head_by k node) (sym is)

no_head : (kind : Kind) (node : Node) → (kind ≡ FlagByte) ⊎ ((kind ≡ Rest) ⊎ (kind ≡ Unknown)) → UnknownHead ≡ head_by kind node
no_head kind node (inl is) = ap (λ k. head_by k node) (sym is)
no_head kind node (inr (inl is)) = ap (λ k. head_by k node) (sym is)
no_head kind node (inr (inr is)) = ap (λ k. head_by k node) (sym is)

pub returns-in-Num : goal.returns-in-Num
returns-in-Num c = of_arm c.args.node c.in-Num.is refl

pub returns-in-Start : goal.returns-in-Start
returns-in-Start c = of_arm c.args.node c.in-Start.is (λ i. StartHead (c.part_of.ensures i))

pub returns-in-StartSp : goal.returns-in-StartSp
returns-in-StartSp c = of_arm c.args.node c.in-StartSp.is refl

pub returns-in-Loaded8 : goal.returns-in-Loaded8
returns-in-Loaded8 c = of_arm c.args.node c.in-Loaded8.is refl

pub returns-in-Loaded16 : goal.returns-in-Loaded16
returns-in-Loaded16 c = of_arm c.args.node c.in-Loaded16.is refl

pub returns-in-Alu : goal.returns-in-Alu
returns-in-Alu c = of_arm c.args.node c.in-Alu.is (λ i. AluHead (c.op_of.ensures i) (c.term.ensures i) (c.term-in-Alu.ensures i) (c.term-in-Alu-2.ensures i))

pub returns-in-Flag : goal.returns-in-Flag
returns-in-Flag c = of_arm c.args.node c.in-Flag.is (λ i. FlagHead (c.part_of-in-Flag.ensures i) (c.term-in-Flag.ensures i))

pub returns-in-Sum16 : goal.returns-in-Sum16
returns-in-Sum16 c = of_arm c.args.node c.in-Sum16.is (λ i. Sum16Head (c.term-in-Sum16.ensures i) (c.term-in-Sum16-2.ensures i))

pub returns-in-High : goal.returns-in-High
returns-in-High c = of_arm c.args.node c.in-High.is (λ i. HighHead (c.term-in-High.ensures i))

pub returns-in-Low : goal.returns-in-Low
returns-in-Low c = of_arm c.args.node c.in-Low.is (λ i. LowHead (c.term-in-Low.ensures i))

pub returns-in-Join : goal.returns-in-Join
returns-in-Join c = of_arm c.args.node c.in-Join.is (λ i. JoinHead (c.term-in-Join.ensures i) (c.term-in-Join-2.ensures i))

pub returns-in-Bit : goal.returns-in-Bit
returns-in-Bit c = of_arm c.args.node c.in-Bit.is (λ i. BitHead (c.term-in-Bit.ensures i) (c.part_of-in-Bit.ensures i))

pub returns-in-Turn : goal.returns-in-Turn
returns-in-Turn c = of_arm c.args.node c.in-Turn.is (λ i. TurnHead c.args.node.num (c.term-in-Turn.ensures i) (c.term-in-Turn-2.ensures i))

pub returns-in-Turned : goal.returns-in-Turned
returns-in-Turned c = of_arm c.args.node c.in-Turned.is (λ i. TurnedHead (c.term-in-Turned.ensures i))

pub returns-in-Adjust : goal.returns-in-Adjust
returns-in-Adjust c = of_arm c.args.node c.in-Adjust.is (λ i. AdjustHead (c.term-in-Adjust.ensures i) (c.term-in-Adjust-2.ensures i) (c.term-in-Adjust-3.ensures i))

pub returns-in-Code : goal.returns-in-Code
returns-in-Code c = of_arm c.args.node c.in-Code.is (λ i. CodeHead (c.place_of.ensures i) (c.args.node.a == 1))

pub returns-in-FlagByte : goal.returns-in-FlagByte
returns-in-FlagByte c = no_head c.args.kind c.args.node c.in-FlagByte.is
