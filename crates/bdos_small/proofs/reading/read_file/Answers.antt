use Rattle.std.proofs.Common.{◌≡◌, ◌+◌, ◌-◌, ◌*◌, ◌<◌, ◌≤◌, ◌++◌, length, take, drop, refl, ap, ◌∙◌, subst, arith}
use Rattle.std.proofs.lemmas.List.{length-drop, drop-drop, take_rest}
use Rattle.bdos_small.specs.Spelled.{BreaksAt}
use Rattle.bdos_small.proofs.Going.{name_parts}
use Rattle.bdos_small.specs.DiskFile.{word_bytes, files_bytes}
use Rattle.bdos_small.specs.Reading.{AreFiles}
use Rattle.bdos_small.proofs.Steps.{name_breaks, count_breaks, records_break, named_front, next_file}
use Rattle.bdos_small.proofs.Whole.{memory_stops}
use Rattle.bdos_small.proofs.reading.read_file.Goals as goal

pub returns-in-Err : goal.returns-in-Err
returns-in-Err c = name_breaks c.args.last.now c.args.after c.args.room c.requires.few c.args.bytes.now c.in-Err.place c.in-Err.ensures.read

pub returns-in-Err-read_word : goal.returns-in-Err-read_word
returns-in-Err-read_word c =
    let last = c.args.last.now in
    let after = c.args.after in
    let room = c.args.room in
    let bytes = c.args.bytes.now in
    let name = c.in-Ok.name in
    let k = c.in-Err-read_word.place in
    let named = c.in-Ok.ensures.read.0 in
    let long : length name ≡ 11 = (name_parts name named.lawful).0 in
    subst (λ n. BreaksAt (AreFiles last (after + 1) room) files_bytes bytes (n + k)) long
    (count_breaks last after room c.requires.few name named bytes (drop 11 bytes) (named_front last after name bytes c.in-Ok.ensures.read.1) k (subst (λ l. BreaksAt (λ n. n ≤ room) word_bytes l k) (take_rest bytes 11) c.in-Err-read_word.ensures))

pub returns-then-bytes-end : goal.returns-then-bytes-end
returns-then-bytes-end c =
    let last = c.args.last.now in
    let after = c.args.after in
    let room = c.args.room in
    let bytes = c.args.bytes.now in
    let name = c.in-Ok.name in
    let count = c.in-Ok-read_word.count in
    let counted : drop 11 bytes ≡ word_bytes count ++ drop 13 bytes = subst (λ l. l ≡ word_bytes count ++ drop 2 l) (take_rest bytes 11) c.in-Ok-read_word.ensures.1 ∙ ap (λ l. word_bytes count ++ l) (drop-drop 2 11 bytes) in
    let front = named_front last after name bytes c.in-Ok.ensures.read.1 ∙ ap (λ l. name ++ l) counted in
    let short : length (drop 13 bytes) < 128 * count = omega (arith, length-drop 13 bytes, length-drop 11 bytes, ap length counted, c.if-bytes-end.true) in
    records_break last after room c.requires.few name c.in-Ok.ensures.read.0 count c.in-Ok-read_word.ensures.0 bytes (drop 13 bytes) front short

pub returns-in_err-records : goal.returns-in_err-records
returns-in_err-records c = memory_stops _ _ c.from_residual.result c.from_residual.ensures.1

pub returns : goal.returns
returns c =
    let last = c.args.last.now in
    let after = c.args.after in
    let bytes = c.args.bytes.now in
    let name = c.in-Ok.name in
    let count = c.in-Ok-read_word.count in
    let counted : drop 11 bytes ≡ word_bytes count ++ drop 13 bytes = subst (λ l. l ≡ word_bytes count ++ drop 2 l) (take_rest bytes 11) c.in-Ok-read_word.ensures.1 ∙ ap (λ l. word_bytes count ++ l) (drop-drop 2 11 bytes) in
    let size : 13 + count * 128 - 13 ≡ count * 128 = omega arith in
    next_file last after c.args.room bytes name count (13 + count * 128) c.in_ok-records.records.items c.in-Ok.ensures.read.0 (named_front last after name bytes c.in-Ok.ensures.read.1) c.in-Ok.ensures.long c.in-Ok-read_word.ensures.0 counted c.in_ok-records.ensures.count c.in_ok-records.ensures.records (c.in_ok-records.ensures.bytes ∙ ap (λ n. take n (drop 13 bytes)) size) refl (omega arith)
