use Rattle.std.proofs.Common.{◌≢◌, refl, sym, ap, ◌∙◌, arith}
use Rattle.std.proofs.lemmas.Result.{IfOk-weaker, on_err_weaker, IfOk-from_err, MatchResult-from_err}
use Rattle.dialogue.specs.Fits.{fits}
use Rattle.bdos_small.specs.Files.{Changed, Searched, open_file, close_file, read_sequential, read_random}
use Rattle.bdos_small.specs.Small.{small_of, replying, with_search, with_disk, file_answer}
use Rattle.bdos_small.proofs.ForConsole.{file_by, still}
use Rattle.bdos_small.proofs.Lawful.{size_is_last, fcb_long, record_21, record_34, name_23}
use Rattle.bdos_small.proofs.FileFits.{open_fits, close_fits, first_fits, delete_fits, read_fits, read_random_fits, write_fits, write_random_fits, make_fits, rename_fits, size_fits}
use Rattle.bdos_small.proofs.bdos.Bdos.file_reply.Goals as goal

pub open_file-requires : goal.open_file-requires
open_file-requires c = fcb_long c.args.request.now c.requires.lawful c.requires.takes

pub close_file-requires : goal.close_file-requires
close_file-requires c = fcb_long c.args.request.now c.requires.lawful c.requires.takes

pub search_first-requires : goal.search_first-requires
search_first-requires c = fcb_long c.args.request.now c.requires.lawful c.requires.takes

pub delete_file-requires : goal.delete_file-requires
delete_file-requires c = fcb_long c.args.request.now c.requires.lawful c.requires.takes

pub read_sequential-requires : goal.read_sequential-requires
read_sequential-requires c = fcb_long c.args.request.now c.requires.lawful c.requires.takes

pub write_sequential-requires-clause-fcb : goal.write_sequential-requires-clause-fcb
write_sequential-requires-clause-fcb c = fcb_long c.args.request.now c.requires.lawful c.requires.takes

pub make_file-requires : goal.make_file-requires
make_file-requires c = fcb_long c.args.request.now c.requires.lawful c.requires.takes

pub rename_file-requires-clause-fcb : goal.rename_file-requires-clause-fcb
rename_file-requires-clause-fcb c = fcb_long c.args.request.now c.requires.lawful c.requires.takes

pub read_random-requires : goal.read_random-requires
read_random-requires c = fcb_long c.args.request.now c.requires.lawful c.requires.takes

pub write_random-requires-clause-fcb : goal.write_random-requires-clause-fcb
write_random-requires-clause-fcb c = fcb_long c.args.request.now c.requires.lawful c.requires.takes

pub file_size-requires : goal.file_size-requires
file_size-requires c = fcb_long c.args.request.now c.requires.lawful c.requires.takes

pub write_sequential-requires-clause-whole : goal.write_sequential-requires-clause-whole
write_sequential-requires-clause-whole c = record_21 c.args.request.now c.requires.lawful c.in-21.is

pub write_random-requires-clause-whole : goal.write_random-requires-clause-whole
write_random-requires-clause-whole c = record_34 c.args.request.now c.requires.lawful c.in-34.is

pub rename_file-requires-clause-other : goal.rename_file-requires-clause-other
rename_file-requires-clause-other c = name_23 c.args.request.now c.requires.lawful c.in-23.is

pub returns-in-15 : goal.returns-in-15
returns-in-15 c =
    let q = c.args.request.now in
    let s = c.args.self.now in
    record {
      answer = IfOk-weaker c.open_file.result _ _ (λ y e. ap (replying s) (e ∙ ap (λ t. open_file t.disk q) c.self.view_is) ∙ sym (file_by s q 15 c.in-15.is)) c.open_file.ensures.answer;
      fits = IfOk-weaker c.open_file.result _ _ (λ y e. ap (fits q) e ∙ open_fits q c.requires.lawful c.in-15.is c.self.inside.disk c.open_file.ensures.disk) c.open_file.ensures.answer;
      memory = still c.open_file.result refl;
    }

pub returns-in-20 : goal.returns-in-20
returns-in-20 c =
    let q = c.args.request.now in
    let s = c.args.self.now in
    record {
      answer = IfOk-weaker c.read_sequential.result _ _ (λ y e. ap (replying s) (e ∙ ap (λ t. read_sequential t.disk q) c.self.view_is) ∙ sym (file_by s q 20 c.in-20.is)) c.read_sequential.ensures.answer;
      fits = IfOk-weaker c.read_sequential.result _ _ (λ y e. ap (fits q) e ∙ read_fits q c.requires.lawful c.in-20.is c.self.inside.disk c.read_sequential.ensures.disk) c.read_sequential.ensures.answer;
      memory = still c.read_sequential.result refl;
    }

pub returns-in-33 : goal.returns-in-33
returns-in-33 c =
    let q = c.args.request.now in
    let s = c.args.self.now in
    record {
      answer = IfOk-weaker c.read_random.result _ _ (λ y e. ap (replying s) (e ∙ ap (λ t. read_random t.disk q) c.self.view_is) ∙ sym (file_by s q 33 c.in-33.is)) c.read_random.ensures.answer;
      fits = IfOk-weaker c.read_random.result _ _ (λ y e. ap (fits q) e ∙ read_random_fits q c.requires.lawful c.in-33.is c.self.inside.disk c.read_random.ensures.disk) c.read_random.ensures.answer;
      memory = still c.read_random.result refl;
    }

pub returns-in_default-clause-fits : goal.returns-in_default-clause-fits
returns-in_default-clause-fits c =
    let q = c.args.request.now in
    let f = q.shape.function in
    let a : f ≢ 15 = λ e. omega arith in
    let b : f ≢ 16 = λ e. omega arith in
    let d : f ≢ 17 = λ e. omega arith in
    let g : f ≢ 19 = λ e. omega arith in
    let h : f ≢ 20 = λ e. omega arith in
    let i : f ≢ 21 = λ e. omega arith in
    let j : f ≢ 22 = λ e. omega arith in
    let k : f ≢ 23 = λ e. omega arith in
    let m : f ≢ 33 = λ e. omega arith in
    let n : f ≢ 34 = λ e. omega arith in
    let is = size_is_last f c.requires.takes a b d g h i j k m n in
    IfOk-weaker c.file_size.result _ _ (λ y e. ap (fits q) e ∙ size_fits q c.requires.lawful is c.self.inside.disk) c.file_size.ensures

pub returns-in-16 : goal.returns-in-16
returns-in-16 c =
    let q = c.args.request.now in
    let s = c.args.self.now in
    record {
      answer = ap (replying s) (c.close_file.ensures ∙ ap (λ t. close_file t.disk q) c.self.view_is) ∙ sym (file_by s q 16 c.in-16.is);
      fits = ap (fits q) c.close_file.ensures ∙ close_fits q c.requires.lawful c.in-16.is c.self.inside.disk;
      memory = tt;
    }

pub returns-in_ok-reply-in-17 : goal.returns-in_ok-reply-in-17
returns-in_ok-reply-in-17 c =
    let q = c.args.request.now in
    let v = small_of c.self.inside.disk c.self.inside.console c.self.inside.search in
    record {
      answer = ap (with_search v) c.in_ok-reply-in-17.ensures.answer ∙ sym (file_by v q 17 c.in-17.is) ∙ ap (λ t. file_answer t q) c.self.view_is;
      fits = ap (λ (x : Searched). fits q x.reply) c.in_ok-reply-in-17.ensures.answer ∙ first_fits q c.requires.lawful c.in-17.is c.self.inside.disk c.in_ok-reply-in-17.ensures.disk;
      memory = tt;
    }

pub returns-in_err-reply-in-17 : goal.returns-in_err-reply-in-17
returns-in_err-reply-in-17 c =
    let r = c.from_residual in
    record {
      answer = IfOk-from_err r.result _ r.ensures.0;
      fits = IfOk-from_err r.result _ r.ensures.0;
      memory = MatchResult-from_err r.result _ _ r.ensures.0 (λ _. refl);
    }

pub returns-in-19 : goal.returns-in-19
returns-in-19 c =
    let q = c.args.request.now in
    let v = small_of c.self.inside.disk c.self.inside.console c.self.inside.search in
    record {
      answer = ap (with_disk v) c.delete_file.ensures ∙ sym (file_by v q 19 c.in-19.is) ∙ ap (λ t. file_answer t q) c.self.view_is;
      fits = ap (λ (x : Changed). fits q x.reply) c.delete_file.ensures ∙ delete_fits q c.requires.lawful c.in-19.is c.self.inside.disk;
      memory = tt;
    }

pub returns-in-21 : goal.returns-in-21
returns-in-21 c =
    let q = c.args.request.now in
    let v = small_of c.self.inside.disk c.self.inside.console c.self.inside.search in
    record {
      answer = IfOk-weaker c.write_sequential.result _ _ (λ y e. ap (with_disk v) e ∙ sym (file_by v q 21 c.in-21.is) ∙ ap (λ t. file_answer t q) c.self.view_is) c.write_sequential.ensures.answer;
      fits = IfOk-weaker c.write_sequential.result _ _ (λ y e. ap (λ (x : Changed). fits q x.reply) e ∙ write_fits q c.requires.lawful c.in-21.is c.self.inside.disk) c.write_sequential.ensures.answer;
      memory = on_err_weaker c.write_sequential.result (λ e. ap (λ d. small_of d c.self.inside.console c.self.inside.search) e ∙ c.self.view_is) c.write_sequential.ensures.memory;
    }

pub returns-in-22 : goal.returns-in-22
returns-in-22 c =
    let q = c.args.request.now in
    let v = small_of c.self.inside.disk c.self.inside.console c.self.inside.search in
    record {
      answer = IfOk-weaker c.make_file.result _ _ (λ y e. ap (with_disk v) e ∙ sym (file_by v q 22 c.in-22.is) ∙ ap (λ t. file_answer t q) c.self.view_is) c.make_file.ensures.answer;
      fits = IfOk-weaker c.make_file.result _ _ (λ y e. ap (λ (x : Changed). fits q x.reply) e ∙ make_fits q c.requires.lawful c.in-22.is (fcb_long q c.requires.lawful c.requires.takes) c.self.inside.disk) c.make_file.ensures.answer;
      memory = on_err_weaker c.make_file.result (λ e. ap (λ d. small_of d c.self.inside.console c.self.inside.search) e ∙ c.self.view_is) c.make_file.ensures.memory;
    }

pub returns-in-23 : goal.returns-in-23
returns-in-23 c =
    let q = c.args.request.now in
    let v = small_of c.self.inside.disk c.self.inside.console c.self.inside.search in
    record {
      answer = IfOk-weaker c.rename_file.result _ _ (λ y e. ap (with_disk v) e ∙ sym (file_by v q 23 c.in-23.is) ∙ ap (λ t. file_answer t q) c.self.view_is) c.rename_file.ensures.answer;
      fits = IfOk-weaker c.rename_file.result _ _ (λ y e. ap (λ (x : Changed). fits q x.reply) e ∙ rename_fits q c.requires.lawful c.in-23.is c.self.inside.disk) c.rename_file.ensures.answer;
      memory = on_err_weaker c.rename_file.result (λ e. ap (λ d. small_of d c.self.inside.console c.self.inside.search) e ∙ c.self.view_is) c.rename_file.ensures.memory;
    }

pub returns-in-34 : goal.returns-in-34
returns-in-34 c =
    let q = c.args.request.now in
    let v = small_of c.self.inside.disk c.self.inside.console c.self.inside.search in
    record {
      answer = IfOk-weaker c.write_random.result _ _ (λ y e. ap (with_disk v) e ∙ sym (file_by v q 34 c.in-34.is) ∙ ap (λ t. file_answer t q) c.self.view_is) c.write_random.ensures.answer;
      fits = IfOk-weaker c.write_random.result _ _ (λ y e. ap (λ (x : Changed). fits q x.reply) e ∙ write_random_fits q c.requires.lawful c.in-34.is c.self.inside.disk) c.write_random.ensures.answer;
      memory = on_err_weaker c.write_random.result (λ e. ap (λ d. small_of d c.self.inside.console c.self.inside.search) e ∙ c.self.view_is) c.write_random.ensures.memory;
    }
