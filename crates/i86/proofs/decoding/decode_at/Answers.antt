-- What is decoded is the one reader of the code, whose items are bytes.
use Rattle.std.proofs.Common.{◌≡◌, Some, None}
use Rattle.std.proofs.Math.Facts.{Fits-lt-pow}
use Rattle.i86.specs.Decoder.{decoded}
use Rattle.i86.proofs.Readers.{decoded_is_only_reader, is_the_one, none_stands}
use Rattle.i86.proofs.decoding.decode_at.Goals as goal

pub returns-in-None-clause-stands : goal.returns-in-None-clause-stands
returns-in-None-clause-stands c =
    let none : decoded c.args.code.now c.args.at ≡ None = cc in
    none_stands c.args.code.now c.args.at (λ k. Fits-lt-pow (c.type_inv.code k)) none

pub returns-in-None-clause-reader : goal.returns-in-None-clause-reader
returns-in-None-clause-reader c = decoded_is_only_reader c.args.code.now (λ k. Fits-lt-pow (c.type_inv.code k))

pub returns-in-Some-clause-stands : goal.returns-in-Some-clause-stands
returns-in-Some-clause-stands c =
    let found : decoded c.args.code.now c.args.at ≡ Some c.in-Some.instr = cc in
    is_the_one c.args.code.now c.args.at c.in-Some.instr c.length_of.result (λ k. Fits-lt-pow (c.type_inv.code k)) found c.length_of.ensures.length

pub returns-in-Some-clause-reader : goal.returns-in-Some-clause-reader
returns-in-Some-clause-reader c = decoded_is_only_reader c.args.code.now (λ k. Fits-lt-pow (c.type_inv.code k))
