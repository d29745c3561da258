-- What `get` told of the file, put where the clauses name it: searches find it too, but take long.
use Rattle.std.proofs.Common.{◌≡◌, ℕ, ◌-◌, List, ◌++◌, min, take, drop, length, Option, Some, None, option_map, IfSome, Ok, Err, Vec, Global, arith, refl, ap, sym, subst, ◌∙◌, inl, inr}
use Rattle.std.proofs.lemmas.Bool.{false≢true}
use Rattle.std.specs.BTreeMap.{get_by_text}
use Rattle.host.specs.declared.HostFault.TheVariants.{Failed, Memory}
use Rattle.host.specs.declared.mem.MemHost.{MemHost}
use Rattle.host.specs.Host.{one_more}
use Rattle.host.specs.MemHost.{file_in_mem_host, said_of, fails_of, calls_of, read_faults_of, write_faults_of, memory_faults_of, read_count_after, piece_of}
use Rattle.host.proofs.MemCalls.{unlike, failed_not_wanted, counted_on}
use Rattle.host.proofs.mem.MemHostHost.read.Goals as goal

abbrev bytes_of : Option (Vec ℕ Global) → Option (List ℕ)
bytes_of held = option_map (λ v. v.items) held

told : (old new : MemHost) (name : List ℕ) (calls : ℕ) (held : Option (Vec ℕ Global)) → new ≡ record old { calls = calls } → held ≡ get_by_text new.files name → file_in_mem_host old name ≡ bytes_of held
told old new name calls held change is = ap (λ (h : MemHost). file_in_mem_host h name) (sym change) ∙ ap bytes_of (sym is)

-- there is no such file
pub returns-in_default : goal.returns-in_default
returns-in_default c =
    let old = c.args.self.now in
    let change = c.next_fails-fails.ensures.calls in
    let missing : file_in_mem_host old c.args.name.now ≡ None = told old _ c.args.name.now _ _ change c.in_default.ensures.value in
    record {
      failed = (λ _. inr missing, λ _. refl);
      memory = failed_not_wanted;
      count = tt;
      bytes = tt;
      unread = refl;
      files = λ name. ap (λ (h : MemHost). file_in_mem_host h name) change;
      said = ap said_of change;
      call = record { calls = ap calls_of change; fails = ap fails_of change };
      read_faults = ap read_faults_of change ∙ ap (λ file. read_count_after {T = ℕ} file (Err Failed) (read_faults_of old)) (sym missing);
      write_faults = ap write_faults_of change;
      memory_faults = ap memory_faults_of change;
    }

-- the call is listed
pub returns-then-fails : goal.returns-then-fails
returns-then-fails c =
    let old = c.args.self.now in
    let change = c.next_fails-fails.ensures.calls in
    let found : file_in_mem_host old c.args.name.now ≡ Some c.in-Some.held.now.items = told old _ c.args.name.now _ _ change c.in-Some.ensures.value in
    record {
      failed = (λ _. inl (c.next_fails-fails.ensures.fails.0 c.if-fails.true), λ _. refl);
      memory = failed_not_wanted;
      count = tt;
      bytes = tt;
      unread = refl;
      files = λ name. ap (λ (h : MemHost). file_in_mem_host h name) change;
      said = ap said_of change;
      call = record { calls = ap calls_of change; fails = ap fails_of change };
      read_faults =
          counted_on _ c.saturating_add-self.result (omega arith) c.saturating_add-self.ensures
          ∙ ap (λ (h : MemHost). one_more (read_faults_of h)) change
          ∙ ap (λ file. read_count_after {T = ℕ} file (Err Failed) (read_faults_of old)) (sym found);
      write_faults = ap write_faults_of change;
      memory_faults = ap memory_faults_of change;
    }

-- the file is there, and the call is not listed
pub returns : goal.returns
returns c =
    let old = c.args.self.now in
    let change = c.next_fails-fails.ensures.calls in
    let k = c.copy_piece.result in
    let found : file_in_mem_host old c.args.name.now ≡ Some c.in-Some.held.now.items = told old _ c.args.name.now _ _ change c.in-Some.ensures.value in
    record {
      failed = (λ is. absurd (unlike k Failed is), λ cause. elim cause [ inl listed ↦ absurd (false≢true (c.if-fails.ensures.fails.1 listed)) | inr missing ↦ (let none = sym found ∙ missing in cc) ]);
      memory = unlike k Memory;
      count =
          subst (λ file. IfSome file (λ held. k ≡ piece_of (min (length c.args.into.now) (length held - c.args.at)))) (sym found)
          (c.copy_piece.ensures.count ∙ ap (λ (held : List ℕ). piece_of (min (length c.args.into.now) (length held - c.args.at))) c.as_slice.ensures.value);
      bytes =
          subst (λ file. IfSome file (λ held. c.copy_piece.new.into ≡ take k (drop c.args.at held) ++ drop k c.args.into.now)) (sym found)
          (c.copy_piece.ensures.bytes ∙ ap (λ (held : List ℕ). take k (drop c.args.at held) ++ drop k c.args.into.now) c.as_slice.ensures.value);
      unread = tt;
      files = λ name. ap (λ (h : MemHost). file_in_mem_host h name) change;
      said = ap said_of change;
      call = record { calls = ap calls_of change; fails = ap fails_of change };
      read_faults = ap read_faults_of change ∙ ap (λ file. read_count_after file (Ok k) (read_faults_of old)) (sym found);
      write_faults = ap write_faults_of change;
      memory_faults = ap memory_faults_of change;
    }
