use Rattle.std.proofs.Common.{◌≡◌, ◌+◌, ◌-◌, ◌<◌, Result, Ok, Err, sym, subst, arith}
use Rattle.std.specs.Prelude.{IsErrAnd, MatchResult}
use Rattle.std.proofs.lemmas.List.Elements.{All-from_get_or}
use Rattle.base.specs.Prefixes.{CannotGoOn}
use Rattle.cmd_file.specs.CommandFile.{IsCommandFile, IsCommandFileBytes}
use Rattle.cmd_file.specs.Header.{groups_end}
use Rattle.cmd_file.specs.Reading.{IsCmdFaultOf}
use Rattle.cmd_file.specs.declared.fault.CmdFault.TheVariants.{Memory}
use Rattle.cmd_file.proofs.Stops.{short_stops, long_stops, read_whole, groups_cut}
use Rattle.cmd_file.proofs.file.CmdFile.read.Goals as goal

pub returns-then-bytes-data_end : goal.returns-then-bytes-data_end
returns-then-bytes-data_end c =
    let bytes = c.args.bytes.now in
    let code = c.group_size-code_end.ensures in
    let more = c.group_size.ensures in
    short_stops bytes (All-from_get_or (λ b. b < 256) bytes 0 (λ i lt. (c.type_inv.bytes i).fits)) c.in_ok-check_header.ensures (omega (arith, code, more, c.if-bytes-data_end.true))

pub returns-then-bytes-most : goal.returns-then-bytes-most
returns-then-bytes-most c =
    let bytes = c.args.bytes.now in
    let code = c.group_size-code_end.ensures in
    let more = c.group_size.ensures in
    let at : groups_end bytes + 127 ≡ 128 + c.group_size-code_end.result + c.group_size.result + 128 - 1 = omega (arith, code, more) in
    subst (CannotGoOn IsCommandFileBytes bytes) at
    (long_stops bytes (All-from_get_or (λ b. b < 256) bytes 0 (λ i lt. (c.type_inv.bytes i).fits)) c.in_ok-check_header.ensures (omega (arith, at, c.if-bytes-most.true)))

pub returns : goal.returns
returns c =
    let bytes = c.args.bytes.now in
    let code = c.group_size-code_end.ensures in
    let more = c.group_size.ensures in
    subst (IsCommandFile bytes)
    (groups_cut bytes c.in_ok-code.code.items c.in_ok-data.data.items c.group_size-code_end.result c.group_size.result code more c.in_ok-code.ensures.items c.in_ok-data.ensures.items)
    (read_whole bytes (All-from_get_or (λ b. b < 256) bytes 0 (λ i lt. (c.type_inv.bytes i).fits)) c.in_ok-check_header.ensures
    (omega (arith, code, more, c.if-bytes-data_end.false))
    (omega (arith, code, more, c.if-bytes-most.false)))

-- the fault of a call, handed on
faulty : {T E : Type 0} (P : T → Type 0) (Q : E → Type 0) (r : Result T E) (fault : E) → IsErrAnd r (λ e. e ≡ fault) → Q fault → MatchResult r P Q
faulty P Q (Ok x) fault is q = absurd is
faulty P Q (Err e) fault is q = subst Q (sym is) q

pub returns-in_err-check_header : goal.returns-in_err-check_header
returns-in_err-check_header c =
    let bytes = c.args.bytes.now in
    faulty (IsCommandFile bytes) (IsCmdFaultOf bytes) c.from_residual.result c.in_err-check_header.field-0.0 c.from_residual.ensures.1 c.in_err-check_header.ensures

pub returns-in_err-code : goal.returns-in_err-code
returns-in_err-code c =
    let bytes = c.args.bytes.now in
    faulty (IsCommandFile bytes) (IsCmdFaultOf bytes) c.from_residual-in_err-code.result Memory c.from_residual-in_err-code.ensures.1 tt

pub returns-in_err-data : goal.returns-in_err-data
returns-in_err-data c =
    let bytes = c.args.bytes.now in
    faulty (IsCommandFile bytes) (IsCmdFaultOf bytes) c.from_residual-in_err-data.result Memory c.from_residual-in_err-data.ensures.1 tt
