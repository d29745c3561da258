-- What is decoded stands first in the bytes, and nothing else does.
use Rattle.std.proofs.Common.{◌≡◌, Some, None, sym, ◌∙◌}
use Rattle.std.proofs.Math.Facts.{Fits-lt-pow}
use Rattle.i80_bytes.specs.Decoder.{decoded80}
use Rattle.i80_bytes.proofs.Readers.{sound, is_the_one, none_stands, encoding_length}
use Rattle.i80_bytes.proofs.decoding.decode80.Goals as goal

pub returns-in-None-clause-decoded : goal.returns-in-None-clause-decoded
returns-in-None-clause-decoded c =
    let none : decoded80 c.args.bytes.now ≡ None = sym c.instruction_in.ensures ∙ c.in-None.is in
    none_stands c.args.bytes.now none

pub returns-in-Some-clause-decoded : goal.returns-in-Some-clause-decoded
returns-in-Some-clause-decoded c =
    let found : decoded80 c.args.bytes.now ≡ Some c.in-Some.instr = sym c.instruction_in.ensures ∙ c.in-Some.is in
    is_the_one c.args.bytes.now c.in-Some.instr c.length.result (λ k. Fits-lt-pow (c.type_inv.bytes k)) found (c.length.ensures ∙ sym (encoding_length c.in-Some.instr))

pub length-requires : goal.length-requires
length-requires c =
    let found : decoded80 c.args.bytes.now ≡ Some c.in-Some.instr = sym c.instruction_in.ensures ∙ c.in-Some.is in
    (sound c.args.bytes.now c.in-Some.instr (λ k. Fits-lt-pow (c.type_inv.bytes k)) found).0

pub returns-in-Some-clause-well_formed : goal.returns-in-Some-clause-well_formed
returns-in-Some-clause-well_formed c =
    let found : decoded80 c.args.bytes.now ≡ Some c.in-Some.instr = sym c.instruction_in.ensures ∙ c.in-Some.is in
    (sound c.args.bytes.now c.in-Some.instr (λ k. Fits-lt-pow (c.type_inv.bytes k)) found).0
