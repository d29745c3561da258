use Rattle.std.proofs.Common.{◌≡◌, ℕ, List, ◌+◌, ◌<◌, ◌≤◌, ◌^◌, [], ◌++◌, None, length, drop, sym, ap, ◌∙◌, subst, arith}
use Rattle.std.proofs.lemmas.List.{take_rest, append-nil, drop_all, drop-drop, length-append, length-drop}
use Rattle.bdos_small.specs.Spelled.{BreaksAt}
use Rattle.bdos_small.specs.DiskFile.{disk_mark, word_bytes, files_bytes, disk_file, IsBadAt}
use Rattle.bdos_small.specs.Reading.{AreFiles, StopsBy}
use Rattle.bdos_small.proofs.Whole.{stops_behind, stops_weaker, bad_mark, bad_count, bad_files, bad_behind, whole_disk}
use Rattle.bdos_small.proofs.reading.read_disk.Goals as goal

pub returns-in-Err : goal.returns-in-Err
returns-in-Err c = bad_mark c.args.bytes.now c.in-Err.place c.in-Err.ensures

pub returns-in-Err-read_word : goal.returns-in-Err-read_word
returns-in-Err-read_word c =
    let bytes = c.args.bytes.now in
    bad_count bytes (drop 8 bytes) c.in_default.ensures.0 c.in-Err-read_word.place (subst (λ l. BreaksAt (λ n. n ≤ 64) word_bytes l c.in-Err-read_word.place) (take_rest bytes 8) c.in-Err-read_word.ensures)

pub returns-in-Err-read_files : goal.returns-in-Err-read_files
returns-in-Err-read_files c =
    let bytes = c.args.bytes.now in
    let n = c.in-Ok.count in
    let counted : drop 8 bytes ≡ word_bytes n ++ drop 10 bytes = subst (λ l. l ≡ word_bytes n ++ drop 2 l) (take_rest bytes 8) c.in-Ok.ensures.1 ∙ ap (λ l. word_bytes n ++ l) (drop-drop 2 8 bytes) in
    let e : bytes ≡ disk_mark ++ (word_bytes n ++ drop 10 bytes) = c.in_default.ensures.0 ∙ ap (λ l. disk_mark ++ l) counted in
    let here = subst (λ l. StopsBy (BreaksAt (AreFiles None n 8000) files_bytes l) c.in-Err-read_files.stop) (take_rest bytes 10) c.in-Err-read_files.ensures in
    subst (StopsBy (IsBadAt bytes)) (sym c.after.ensures)
    (stops_behind (BreaksAt (AreFiles None n 8000) files_bytes (drop 10 bytes)) (IsBadAt bytes) 10 c.in-Err-read_files.stop here (bad_files bytes (drop 10 bytes) n c.in-Ok.ensures.0 e))

pub returns-then-end-bytes : goal.returns-then-end-bytes
returns-then-end-bytes c =
    let bytes = c.args.bytes.now in
    let n = c.in-Ok.count in
    let d = c.in-Ok-read_files.read.0.items in
    let used = c.in-Ok-read_files.read.1 in
    let rest = drop used (drop 10 bytes) in
    let counted : drop 8 bytes ≡ word_bytes n ++ drop 10 bytes = subst (λ l. l ≡ word_bytes n ++ drop 2 l) (take_rest bytes 8) c.in-Ok.ensures.1 ∙ ap (λ l. word_bytes n ++ l) (drop-drop 2 8 bytes) in
    let files : drop 10 bytes ≡ files_bytes d ++ rest = subst (λ l. l ≡ files_bytes d ++ drop used l) (take_rest bytes 10) c.in-Ok-read_files.ensures.1 in
    let e : bytes ≡ disk_mark ++ (word_bytes n ++ (files_bytes d ++ rest)) = c.in_default.ensures.0 ∙ ap (λ l. disk_mark ++ l) (counted ∙ ap (λ l. word_bytes n ++ l) files) in
    let disk = whole_disk bytes rest d n c.in-Ok.ensures.0 c.in-Ok-read_files.ensures.0 e in
    let within = subst (λ (l : List ℕ). used ≤ length l) (take_rest bytes 10) c.in-Ok-read_files.ensures.2 in
    let long : length (disk_file d) ≡ 10 + used = omega (arith, ap length disk.1, length-append (disk_file d) rest, length-drop used (drop 10 bytes), length-drop 10 bytes, within, c.if-end-bytes.true) in
    subst (IsBadAt bytes) long (bad_behind bytes rest d disk.0 disk.1 (omega (arith, long, c.if-end-bytes.true)))

pub after-requires : goal.after-requires
after-requires c =
    let bytes = c.args.bytes.now in
    let Is = AreFiles None c.in-Ok.count 8000 in
    let here = subst (λ l. StopsBy (BreaksAt Is files_bytes l) c.in-Err-read_files.stop) (take_rest bytes 10) c.in-Err-read_files.ensures in
    stops_weaker (BreaksAt Is files_bytes (drop 10 bytes)) (λ k. 10 + k < 2 ^ 64) c.in-Err-read_files.stop here (λ k b. omega (arith, b.within, length-drop 10 bytes))

pub returns : goal.returns
returns c =
    let bytes = c.args.bytes.now in
    let n = c.in-Ok.count in
    let d = c.in-Ok-read_files.read.0.items in
    let used = c.in-Ok-read_files.read.1 in
    let rest = drop used (drop 10 bytes) in
    let counted : drop 8 bytes ≡ word_bytes n ++ drop 10 bytes = subst (λ l. l ≡ word_bytes n ++ drop 2 l) (take_rest bytes 8) c.in-Ok.ensures.1 ∙ ap (λ l. word_bytes n ++ l) (drop-drop 2 8 bytes) in
    let files : drop 10 bytes ≡ files_bytes d ++ rest = subst (λ l. l ≡ files_bytes d ++ drop used l) (take_rest bytes 10) c.in-Ok-read_files.ensures.1 in
    let e : bytes ≡ disk_mark ++ (word_bytes n ++ (files_bytes d ++ rest)) = c.in_default.ensures.0 ∙ ap (λ l. disk_mark ++ l) (counted ∙ ap (λ l. word_bytes n ++ l) files) in
    let disk = whole_disk bytes rest d n c.in-Ok.ensures.0 c.in-Ok-read_files.ensures.0 e in
    let none : rest ≡ [] = drop-drop used 10 bytes ∙ drop_all (10 + used) bytes c.if-end-bytes.false in
    (disk.0, disk.1 ∙ ap (λ l. disk_file d ++ l) none ∙ append-nil (disk_file d))
