use Rattle.std.proofs.Common.{◌≡◌, ◌-◌, ◌++◌, length, take, replicate, vec_len, sym, ap, ◌∙◌, subst, arith}
use Rattle.cmd_file.specs.CommandFile.{CommandFile, IsCommandFile}
use Rattle.cmd_file.specs.Written.{zero_filled, written}
use Rattle.cmd_file.proofs.ReadBack.{written_is_file, filled_is_written}
use Rattle.cmd_file.proofs.file.CmdFile.write.Goals as goal

-- the file by its slices
abbrev file_is : goal.In_ok-fill → CommandFile
file_is c = record { code = c.code_part-code.result.now; «data» = c.data_part-data.result.now }

is_file : (c : goal.In_ok-fill) → file_is c ≡ c.args.self.now
is_file c = λ i. record { code = c.code_part-code.ensures.value i; «data» = c.data_part-data.ensures.value i }

is_written : (c : goal.In_ok-fill) → c.fill.new.bytes.items ≡ written (file_is c)
is_written c =
    let first = ap length c.to_bytes.ensures in
    let second = ap length c.to_bytes-2.ensures in
    let a = c.in_ok-bytes.ensures.len in
    let b = c.in_ok-extend_from_slice.ensures.len in
    filled_is_written (file_is c) c.to_bytes.result c.to_bytes-2.result c.resize.new.self.items c.fill.new.bytes.items (vec_len c.extend_from_slice.new.self) c.to_bytes.ensures c.to_bytes-2.ensures (omega (arith, first, second, a, b))
    (c.in_ok-resize.ensures.items ∙ ap (λ l. take 128 l ++ replicate (128 - vec_len c.extend_from_slice.new.self) 0) (c.in_ok-extend_from_slice.ensures.items ∙ ap (λ l. l ++ c.to_bytes-2.result) c.in_ok-bytes.ensures.items))
    (c.in_ok-fill.ensures ∙ ap (zero_filled 128) (c.in_ok-extend_from_slice-3.ensures.items ∙ ap (λ l. l ++ c.data_part-data.result.now) c.in_ok-extend_from_slice-2.ensures.items))

pub returns-clause-written : goal.returns-clause-written
returns-clause-written c = is_written c ∙ ap written (is_file c)

pub returns-clause-reads_back : goal.returns-clause-reads_back
returns-clause-reads_back c =
    subst (λ bytes. IsCommandFile bytes c.args.self.now) (sym (is_written c ∙ ap written (is_file c)))
    (subst (λ file. IsCommandFile (written file) file) (is_file c)
    (written_is_file (file_is c) (record {
      code_part = c.code_part-code.ensures.part;
      data_part = c.data_part-data.ensures.part;
      code_small = c.code_part-code.ensures.bytes;
      data_small = c.data_part-data.ensures.bytes;
    })))
