use Rattle.std.proofs.Common.{◌≡◌, ℕ, ◌*◌, List, ◌∷◌, ◌++◌, length, set, replicate, ap, ◌∙◌, arith}
use Rattle.std.proofs.lemmas.List.{set-append_right}
use Rattle.bdos_small.specs.Fcb.{records_from}
use Rattle.bdos_small.proofs.fcb.opened_fcb.Goals as goal

pub returns : goal.returns
returns c =
    let drive = c.args.drive in
    let ex = c.args.ex in
    let r = c.records_from.result in
    let n : List ℕ = c.copy_from_slice.new.self in
    let same : n ≡ c.args.name = c.copy_from_slice.ensures.after ∙ c.bytes.ensures.value in
    let size : length n ≡ 11 = ap length c.copy_from_slice.ensures.after ∙ c.bytes.ensures.len in
    let start : c.from.result * 128 ≡ 128 * ex = omega (arith, c.from.ensures) in
    let records : r ≡ records_from (128 * ex) c.args.count = c.records_from.ensures ∙ ap (λ s. records_from s c.args.count) start in
    let behind : List ℕ = ex ∷ replicate 19 0 in
    ap (λ l. drive ∷ set l 14 r) (set-append_right n (replicate 20 0) 11 11 ex size (omega arith))
    ∙ ap (λ l. drive ∷ l) (set-append_right n behind 11 14 r size (omega arith))
    ∙ ap (λ m. drive ∷ (m ++ (ex ∷ (0 ∷ (0 ∷ (r ∷ replicate 16 0)))))) same
    ∙ ap (λ m. drive ∷ (c.args.name ++ (ex ∷ (0 ∷ (0 ∷ (m ∷ replicate 16 0)))))) records
