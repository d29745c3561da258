-- What the nodes of a list stand for, one after the other.
use Rattle.std.proofs.Common.{◌≡◌, ℕ, zero, suc, ◌+◌, List, [], ◌∷◌, ◌++◌, length, take, Some, sym, ap, subst, ◌∙◌, arith, length-append, append_assoc, append-nil}
use Rattle.std.specs.List.{slice_get, fold}
use Rattle.std.proofs.lemmas.List.Sums.{fold_push}
use Rattle.std.proofs.Math.Seq.{take-append_seam}
use Rattle.xlt_pool.specs.declared.node.Node.{Node}
use Rattle.sym_terms.specs.Trees.{Entry, entry_of, entries_of}
use Rattle.sym_terms.proofs.Places.{get_last, cut_whole}

abbrev with_entry : List Entry → Node → List Entry
with_entry es n = es ++ entry_of es n ∷ []

pub entries_push : (nodes : List Node) (n : Node) → entries_of (nodes ++ n ∷ []) ≡ entries_of nodes ++ entry_of (entries_of nodes) n ∷ []
unfolding entries_of
entries_push nodes n = fold_push with_entry [] nodes n

-- entries so far stay
stays : (nodes : List Node) (es : List Entry) → (more : List Entry) × (fold with_entry es nodes ≡ es ++ more)
stays [] es = ([], sym (append-nil es))
stays (n ∷ nodes) es =
    let rest = stays nodes (with_entry es n) in
    (entry_of es n ∷ rest.0, rest.1 ∙ append_assoc es (entry_of es n ∷ []) rest.0)

length_from : (nodes : List Node) (es : List Entry) → length (fold with_entry es nodes) ≡ length es + length nodes
length_from [] es = let e : length es ≡ length es + 0 = omega arith in e
length_from (n ∷ nodes) es =
    let rest : length (fold with_entry (with_entry es n) nodes) ≡ length (with_entry es n) + length nodes = length_from nodes (with_entry es n) in
    let one : length (with_entry es n) ≡ length es + 1 = length-append es (entry_of es n ∷ []) in
    let all : length (fold with_entry (with_entry es n) nodes) ≡ length es + suc (length nodes) = omega arith in
    all

pub length-entries_of : (nodes : List Node) → length (entries_of nodes) ≡ length nodes
unfolding entries_of
length-entries_of nodes = let e : length (fold with_entry [] nodes) ≡ 0 + length nodes = length_from nodes [] in omega arith

cut_from : (nodes : List Node) (es : List Entry) (k : ℕ) → fold with_entry es (take k nodes) ≡ take (length es + k) (fold with_entry es nodes)
cut_from [] es zero = sym (cut_whole es (length es + 0) (omega arith))
cut_from [] es (suc k) = sym (cut_whole es (length es + suc k) (omega arith))
cut_from (n ∷ nodes) es zero =
    let s = stays (n ∷ nodes) es in
    let none : length es + 0 ≡ length es = omega arith in
    sym (take-append_seam es s.0) ∙ ap (take (length es)) (sym s.1) ∙ ap (λ j. take j (fold with_entry es (n ∷ nodes))) (sym none)
cut_from (n ∷ nodes) es (suc k) =
    let one : length (with_entry es n) ≡ length es + 1 = length-append es (entry_of es n ∷ []) in
    let more : length (with_entry es n) + k ≡ length es + suc k = omega arith in
    cut_from nodes (with_entry es n) k ∙ ap (λ j. take j (fold with_entry es (n ∷ nodes))) more

pub entries_cut : (nodes : List Node) (k : ℕ) → entries_of (take k nodes) ≡ take k (entries_of nodes)
unfolding entries_of
entries_cut nodes k = let none : 0 + k ≡ k = omega arith in cut_from nodes [] k ∙ ap (λ j. take j (fold with_entry [] nodes)) none

entry_from : (nodes : List Node) (es : List Entry) (k : ℕ) (n : Node) → slice_get nodes k ≡ Some n → slice_get (fold with_entry es nodes) (length es + k) ≡ Some (entry_of (take (length es + k) (fold with_entry es nodes)) n)
entry_from [] es k n h = absurd (cc)
entry_from (m ∷ nodes) es zero n h =
    let same : m ≡ n = cc in
    let none : length es + 0 ≡ length es = omega arith in
    let s = stays nodes (with_entry es m) in
    let whole : fold with_entry es (m ∷ nodes) ≡ es ++ (entry_of es m ∷ s.0) = s.1 ∙ append_assoc es (entry_of es m ∷ []) s.0 in
    let found : slice_get (fold with_entry es (m ∷ nodes)) (length es) ≡ Some (entry_of es m) = ap (λ l. slice_get l (length es)) whole ∙ get_last es s.0 (entry_of es m) in
    let front : take (length es) (fold with_entry es (m ∷ nodes)) ≡ es = ap (take (length es)) whole ∙ take-append_seam es (entry_of es m ∷ s.0) in
    subst (λ j. slice_get (fold with_entry es (m ∷ nodes)) j ≡ Some (entry_of (take j (fold with_entry es (m ∷ nodes))) n)) (sym none)
    (found ∙ ap (λ l. Some (entry_of l m)) (sym front) ∙ ap (λ v. Some (entry_of (take (length es) (fold with_entry es (m ∷ nodes))) v)) same)
entry_from (m ∷ nodes) es (suc k) n h =
    let one : length (with_entry es m) ≡ length es + 1 = length-append es (entry_of es m ∷ []) in
    let more : length (with_entry es m) + k ≡ length es + suc k = omega arith in
    subst (λ j. slice_get (fold with_entry es (m ∷ nodes)) j ≡ Some (entry_of (take j (fold with_entry es (m ∷ nodes))) n)) more (entry_from nodes (with_entry es m) k n h)

pub entry_at : (nodes : List Node) (k : ℕ) (n : Node) → slice_get nodes k ≡ Some n → slice_get (entries_of nodes) k ≡ Some (entry_of (take k (entries_of nodes)) n)
unfolding entries_of
entry_at nodes k n h =
    let none : 0 + k ≡ k = omega arith in
    subst (λ j. slice_get (fold with_entry [] nodes) j ≡ Some (entry_of (take j (fold with_entry [] nodes)) n)) none (entry_from nodes [] k n h)
