use Rattle.std.proofs.Common.{◌≡◌, ℕ, List, ◌++◌, length, get_or, take, drop, sym, ap, ◌∙◌, arith, length-drop}
use Rattle.std.specs.Global.{Vec}
use Rattle.std.specs.Vec.{with_items}
use Rattle.std.proofs.lemmas.List.{length-take}
use Rattle.cpu86.proofs.Overlay.{overlay}
use Rattle.cpu86.proofs.initial_memory.filled.Goals as goal

-- the page in the place of the bytes from 5CH on
abbrev laid : List ℕ → List ℕ → List ℕ
laid r p = take 92 r ++ (p ++ drop 164 (drop 92 r))

pub returns : goal.returns
returns c =
    ap (λ (r : List ℕ). λ (a : ℕ). get_or (take c.in_ok-bytes.bytes.len (laid r c.copy_from_slice.new.self ++ drop (length (laid r c.copy_from_slice.new.self)) c.in_ok-bytes.bytes.items)) a 0) (c.as_mut_slice.ensures.value ∙ c.in_ok-bytes.ensures.items)
    ∙ ap (λ (p : List ℕ). λ (a : ℕ). get_or (take c.in_ok-bytes.bytes.len (laid c.args.fill.now p ++ drop (length (laid c.args.fill.now p)) c.in_ok-bytes.bytes.items)) a 0) c.copy_from_slice.ensures.after
    ∙ overlay c.args.fill.now c.args.page.now c.requires.fill c.requires.page c.in_ok-bytes.bytes.len _ (c.in_ok-bytes.ensures.len ∙ c.requires.fill)

cut : (bytes page : List ℕ) → length bytes ≡ 0x10000 → length page ≡ 164 → length (take 164 (drop 92 bytes)) ≡ length page
cut bytes page full part = omega (arith, length-take 164 (drop 92 bytes), length-drop 92 bytes)

pub copy_from_slice-requires : goal.copy_from_slice-requires
copy_from_slice-requires c =
    cut c.as_mut_slice.result.now c.args.page.now (ap length (c.as_mut_slice.ensures.value ∙ c.in_ok-bytes.ensures.items) ∙ c.requires.fill) c.requires.page

-- what was written in place is as long as it was
kept : (bytes : Vec ℕ) (written : List ℕ) (n : ℕ) → bytes.len ≡ n → length (with_items bytes written).items ≡ n
kept bytes written n e = sym (with_items bytes written).ok.0 ∙ e

pub invariant_of-result : goal.invariant_of-result
invariant_of-result c = record { full = kept c.in_ok-bytes.bytes _ 0x10000 (c.in_ok-bytes.ensures.len ∙ c.requires.fill) }
