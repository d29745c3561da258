-- What the micro-operations make of nothing, one by one, which saves a long search.
use Rattle.std.proofs.Common.{◌≡◌, ◌∙◌, List, [], ◌∷◌, ap, subst, lit≤}
use Rattle.cells.specs.declared.Part.TheVariants.{A as PartA, B as PartB, C as PartC, D as PartD, E as PartE, H as PartH, L as PartL, S as PartS, Z as PartZ, Ac as PartAc, P as PartP, Cy as PartCy}
use Rattle.cells.specs.Parts.{Parts, has}
use Rattle.i80.specs.declared.Reg.TheVariants.{A, B, C, D, E, H, L}
use Rattle.i80.specs.declared.Pair.TheVariants.{Sp}
use Rattle.sym_block_def.specs.Symbolic86.{start86}
use Rattle.sym_micro.specs.declared.micro.Micro.{Micro}
use Rattle.sym_micro.specs.declared.micro.Micro.TheVariants.{Byte, Word, Flag, Put}
use Rattle.sym_micro.specs.declared.micro.ByteSlot.TheVariants.{Of80 as Byte80}
use Rattle.sym_micro.specs.declared.micro.FlagSlot.TheVariants.{S, Z, Ac, P, Cy}
use Rattle.sym_micro.specs.declared.micro.WordSlot.TheVariants.{W}
use Rattle.sym_micro.specs.declared.micro.Wide.TheVariants.{Of80 as Wide80}
use Rattle.sym_micro.specs.declared.micro.ByteValue.TheVariants.{Start as StartByte}
use Rattle.sym_micro.specs.declared.micro.FlagValue.TheVariants.{Start as StartFlag}
use Rattle.sym_micro.specs.declared.micro.WordValue.TheVariants.{StartSp}
use Rattle.sym_micro.specs.Machine.{as86, micros, weights, all_moves}
use Rattle.sym_micro.specs.Stands.{machine_of, GoesOn}
use Rattle.sym_micro.proofs.Ready.{goes_on_as}
use Rattle.sym_micro.proofs.starting.start.Goals as goal

abbrev starting : Parts → List Micro
starting keep =
    Byte (Byte80 A) (StartByte (has keep PartA) PartA)
    ∷ (Byte (Byte80 B) (StartByte (has keep PartB) PartB)
    ∷ (Byte (Byte80 C) (StartByte (has keep PartC) PartC)
    ∷ (Byte (Byte80 D) (StartByte (has keep PartD) PartD)
    ∷ (Byte (Byte80 E) (StartByte (has keep PartE) PartE)
    ∷ (Byte (Byte80 H) (StartByte (has keep PartH) PartH)
    ∷ (Byte (Byte80 L) (StartByte (has keep PartL) PartL)
    ∷ (Flag S (StartFlag (has keep PartS))
    ∷ (Flag Z (StartFlag (has keep PartZ))
    ∷ (Flag Ac (StartFlag (has keep PartAc))
    ∷ (Flag P (StartFlag (has keep PartP))
    ∷ (Flag Cy (StartFlag (has keep PartCy)) ∷ (Word W StartSp ∷ (Put (Wide80 Sp) W ∷ [])))))))))))))

pub returns : goal.returns
returns c =
    let old = c.args.terms.now in
    let new = c.perform_each.new.terms in
    let r = c.args.run.now in
    let s = c.perform_each.new.run in
    let steps = starting c.args.keep in
    let performed : GoesOn old new r s (weights steps) (all_moves steps) (λ m. m ≡ micros (machine_of old r) steps) c.perform_each.result =
    subst (λ l. GoesOn old new r s (weights l) (all_moves l) (λ m. m ≡ micros (machine_of old r) l) c.perform_each.result)
    (λ i.
    c.start_byte.ensures i
    ∷ (c.start_byte-2.ensures i
    ∷ (c.start_byte-3.ensures i
    ∷ (c.start_byte-4.ensures i
    ∷ (c.start_byte-5.ensures i
    ∷ (c.start_byte-6.ensures i
    ∷ (c.start_byte-7.ensures i
    ∷ (c.start_flag.ensures i
    ∷ (c.start_flag-2.ensures i
    ∷ (c.start_flag-3.ensures i ∷ (c.start_flag-4.ensures i ∷ (c.start_flag-5.ensures i ∷ (Word W StartSp ∷ (Put (Wide80 Sp) W ∷ []))))))))))))))
    c.perform_each.ensures
    in
    goes_on_as old new r s 15 15 0 0 (λ m. m ≡ micros (machine_of old r) steps) (λ m. as86 m ≡ start86 c.args.keep) c.perform_each.result (lit≤ tt) (lit≤ tt) performed
    (λ m e. ap as86 e ∙ ap (λ k. as86 (micros k steps)) c.requires.machine)
