-- What each call tells a caller that knows a host alone. Searches find it too, but take long.
use Rattle.std.proofs.Common.{◌++◌, [], take, length, Some, unwrap_or, refl, ap, ◌∙◌, inr}
use Rattle.std.proofs.lemmas.Result.{IfOk-weaker, IfErr-weaker}
use Rattle.host.specs.MemHost.{file_in_mem_host, told_of, state_of_mem_host}
use Rattle.host.proofs.Counting.{failures_kept, wants_kept, no_write_fault, write_fault, write_alone}
use Rattle.host.proofs.MemTells.{rewritten_told, appended_told, others_kept, piece_some, piece_within, no_less, reads_kept, read_failed, read_missing, read_counted, read_alone_told, bytes_read}
use Rattle.host.proofs.mem.MemHostHost.TheImpl.Goals as goal

pub read-tells : goal.read-tells
read-tells c =
    let h = c.ensures in
    let a = state_of_mem_host c.args.self.now in
    let b = state_of_mem_host c.new.self.now in
    let file = file_in_mem_host c.args.self.now c.args.name.now in
    let read = bytes_read file c.result c.args.at c.args.into.now c.new.into.now c.requires (λ none. h.failed.1 (inr none)) h.count h.bytes in
    record {
      only = record { files = λ name. ap told_of (h.files name); said = ap Some h.said; writes = h.write_faults; reads = reads_kept file c.result _ _ h.read_faults; memory = no_less h.memory_faults };
      bound = IfOk-weaker c.result _ _ (λ k both. both.0) read;
      bytes = IfOk-weaker c.result _ _ (λ k both. both.1) read;
      counted = read_counted a b file c.result h.read_faults h.write_faults h.memory_faults;
      failed = read_failed a b c.args.name.now file c.result refl h.read_faults;
      memory = λ is. absurd (h.memory is);
      alone = read_alone_told a b c.result h.memory_faults h.memory;
      missing = read_missing file c.result _ _ h.read_faults;
    }

pub begin-tells : goal.begin-tells
begin-tells c =
    let h = c.ensures in
    let a = state_of_mem_host c.args.self.now in
    let b = state_of_mem_host c.new.self.now in
    let file = file_in_mem_host c.args.self.now c.args.name.now in
    record {
      only = record {
        files = others_kept c.args.self.now c.new.self.now c.args.name.now c.result (λ _. []) h.ok h.fault;
        said = ap Some h.said;
        reads = h.read_faults;
        writes = failures_kept c.result _ _ h.write_faults;
        memory = wants_kept c.result _ _ h.memory_faults;
      };
      empty = IfOk-weaker c.result _ _ (λ _ put. ap told_of put.file ∙ rewritten_told file []) h.ok;
      counted = no_write_fault a b c.result h.read_faults h.write_faults h.memory_faults;
      fault = IfErr-weaker c.result _ _ (λ _ kept. record { files = λ name. ap told_of (kept name); said = ap Some h.said }) h.fault;
      failed = write_fault a b c.result h.write_faults h.memory_faults;
      alone = write_alone a b c.result h.read_faults h.write_faults h.memory_faults;
    }

pub append-tells : goal.append-tells
append-tells c =
    let h = c.ensures in
    let a = state_of_mem_host c.args.self.now in
    let b = state_of_mem_host c.new.self.now in
    let file = file_in_mem_host c.args.self.now c.args.name.now in
    let bytes = c.args.bytes.now in
    record {
      only = record {
        files = others_kept c.args.self.now c.new.self.now c.args.name.now c.result (λ k. unwrap_or file [] ++ take k bytes) h.ok h.fault;
        said = ap Some h.said;
        reads = h.read_faults;
        writes = failures_kept c.result _ _ h.write_faults;
        memory = wants_kept c.result _ _ h.memory_faults;
      };
      some = IfOk-weaker c.result _ _ (λ k is. piece_some (length bytes) k c.requires is) h.count;
      bound = IfOk-weaker c.result _ _ (λ k is. piece_within (length bytes) k is) h.count;
      bytes = IfOk-weaker c.result _ _ (λ k put. ap told_of put.file ∙ appended_told file (take k bytes)) h.ok;
      counted = no_write_fault a b c.result h.read_faults h.write_faults h.memory_faults;
      fault = IfErr-weaker c.result _ _ (λ _ kept. record { files = λ name. ap told_of (kept name); said = ap Some h.said }) h.fault;
      failed = write_fault a b c.result h.write_faults h.memory_faults;
      alone = write_alone a b c.result h.read_faults h.write_faults h.memory_faults;
    }

pub say-tells : goal.say-tells
say-tells c =
    let h = c.ensures in
    let a = state_of_mem_host c.args.self.now in
    let b = state_of_mem_host c.new.self.now in
    let bytes = c.args.bytes.now in
    record {
      only = record {
        files = λ name. ap told_of (h.files name);
        reads = h.read_faults;
        writes = failures_kept c.result _ _ h.write_faults;
        memory = wants_kept c.result _ _ h.memory_faults;
      };
      some = IfOk-weaker c.result _ _ (λ k is. piece_some (length bytes) k c.requires is) h.count;
      bound = IfOk-weaker c.result _ _ (λ k is. piece_within (length bytes) k is) h.count;
      bytes = IfOk-weaker c.result _ _ (λ k is. ap Some is) h.ok;
      counted = no_write_fault a b c.result h.read_faults h.write_faults h.memory_faults;
      fault = IfErr-weaker c.result _ _ (λ _ said. record { files = λ name. ap told_of (h.files name); said = ap Some said }) h.fault;
      failed = write_fault a b c.result h.write_faults h.memory_faults;
      alone = write_alone a b c.result h.read_faults h.write_faults h.memory_faults;
    }
