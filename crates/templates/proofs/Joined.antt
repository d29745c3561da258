-- The text of a block, one instruction after the other, and of blocks.
use Rattle.std.proofs.Common.{◌≡◌, ℕ, ◌+◌, ◌<◌, ◌≤◌, Bool, false, List, [], ◌∷◌, ◌++◌, length, take, drop, drop-cons, get_or, Option, Some, All, refl, sym, ap, subst, ◌∙◌, append_assoc, add-one, length-append, arith}
use Rattle.std.proofs.lemmas.List.{get_or-map, length-map}
use Rattle.std.specs.Prelude.{unwrap_or}
use Rattle.std.proofs.Math.Seq.{take-append_seam, drop-append_seam}
use Rattle.std.specs.List.{Contains}
use Rattle.std.proofs.lemmas.List.Elements.{Contains-get_or, All-drop}
use Rattle.asm86_line_types.specs.declared.line.Label.TheVariants.{At}
use Rattle.asm86_line_types.specs.declared.line.Stmt86.{Stmt86}
use Rattle.asm86_line_types.specs.declared.line.Stmt86.TheVariants.{Mark}
use Rattle.asm80_types.specs.declared.program.Placed.{Placed}
use Rattle.asm80_types.specs.Program.{Program}
use Rattle.flow.specs.Blocks.{cut_from, extent, leader_of, blocks, leaders, block_at, BlocksCut}
use Rattle.flow.specs.Solving.{Needs}
use Rattle.flow.proofs.Cuts.{flat}
use Rattle.templates.specs.Style.{Style, is_pair, knows_function, written_in_style, label_within, block_from, block_in_style, blocks_of}
use Rattle.templates.specs.Lean.{long_style}
use Rattle.templates.specs.Jumps.{style_by}
use Rattle.templates.specs.declared.places.Jumps.{Jumps}

no_label : (n : Needs) (j : Jumps) (xs : List Placed) → label_within (style_by n j) xs ≡ []
no_label n j [] = refl
no_label n j (x ∷ xs) = refl

-- the text of a block from an instruction on: what stands for it, and the text from the next one on
split_one : (n : Needs) (j : Jumps) (first known last next : Bool) (x : Placed) (rest after : List Placed) → rest ≡ x ∷ after → last ≡ is_pair (long_style n) x after → next ≡ knows_function known x.instr → block_from (style_by n j) first known rest ≡ written_in_style (style_by n j) first last known x ++ block_from (style_by n j) last next after
split_one n j first known last next x rest after r l k =
    let s = style_by n j in
    ap (block_from s first known) r
    ∙ ap (λ ls. written_in_style s first (is_pair s x after) known x ++ (ls ++ block_from s (is_pair s x after) (knows_function known x.instr) after)) (no_label n j after)
    ∙ ap (λ b. written_in_style s first b known x ++ block_from s b (knows_function known x.instr) after) (sym l)
    ∙ ap (λ b. written_in_style s first last known x ++ block_from s last b after) (sym k)

pub put_one : (n : Needs) (j : Jumps) (text new whole : List Stmt86) (first known last next : Bool) (x : Placed) (rest after : List Placed) → rest ≡ x ∷ after → last ≡ is_pair (long_style n) x after → next ≡ knows_function known x.instr → new ≡ text ++ written_in_style (style_by n j) first last known x → text ++ block_from (style_by n j) first known rest ≡ whole → new ++ block_from (style_by n j) last next after ≡ whole
put_one n j text new whole first known last next x rest after r l k put so_far =
    let s = style_by n j in
    ap (λ t. t ++ block_from s last next after) put
    ∙ append_assoc text (written_in_style s first last known x) (block_from s last next after)
    ∙ ap (λ b. text ++ b) (sym (split_one n j first known last next x rest after r l k))
    ∙ so_far

-- a block's label and its instructions are the block
pub put_label : (s : Style) (text marked new : List Stmt86) (x : Placed) (block rest : List Placed) → block ≡ x ∷ rest → marked ≡ text ++ Mark (At x.at) ∷ [] → new ≡ marked ++ block_from s false false block → new ≡ text ++ block_in_style s block
put_label s text marked new x block rest b m e =
    let whole : Mark (At x.at) ∷ block_from s false false block ≡ block_in_style s block =
    subst (λ ys. Mark (At x.at) ∷ block_from s false false ys ≡ block_in_style s ys) (sym b) refl
    in
    e
    ∙ ap (λ t. t ++ block_from s false false block) m
    ∙ append_assoc text (Mark (At x.at) ∷ []) (block_from s false false block)
    ∙ ap (λ t. text ++ t) whole

-- of instructions, those behind the first
pub all_behind : (P : Placed → Type 0) (x : Placed) (rest after : List Placed) → rest ≡ x ∷ after → All P rest → All P after
all_behind P x rest after r h = subst (All P) (ap (drop 1) r) (All-drop P 1 rest h)

-- of instructions, the first
pub first_of : (P : Placed → Type 0) (x : Placed) (rest after : List Placed) → rest ≡ x ∷ after → All P rest → P x
first_of P x rest after r h = subst (All P) r h 0 x (omega arith)

extent_at : (p : Program) (k : ℕ) → k < length (cut_from p 0 p.instrs) → get_or (blocks p) k (0, 0) ≡ extent (get_or (cut_from p 0 p.instrs) k [])
extent_at p k lt = get_or-map extent (cut_from p 0 p.instrs) k [] (0, 0) lt

-- the number of instructions of the block of a leader
pub count_at : (p : Program) → BlocksCut p → (k : ℕ) → k < length (leaders p) → block_at p (get_or (leaders p) k 0) ≡ Some (length (get_or (cut_from p 0 p.instrs) k []))
count_at p law k lt =
    let cut = cut_from p 0 p.instrs in
    let sizes = length-map (blocks p) (λ (b : ℕ × ℕ). b.0) in
    let sizes_2 = length-map cut extent in
    let within : k < length cut = omega (arith, lt, sizes, sizes_2) in
    let within_2 : k < length (blocks p) = omega (arith, lt, sizes) in
    let e = extent_at p k within in
    let a = leader_of (get_or cut k []) in
    let n = length (get_or cut k []) in
    let leader : get_or (leaders p) k 0 ≡ a = get_or-map (λ (b : ℕ × ℕ). b.0) (blocks p) k (0, 0) 0 within_2 ∙ ap (λ (b : ℕ × ℕ). b.0) e in
    let block : Contains (blocks p) (a, n) = subst (λ (b : ℕ × ℕ). Contains (blocks p) b) e (Contains-get_or (blocks p) k (0, 0) within_2) in
    ap (block_at p) leader ∙ law.found a n block

-- the block at a place among them, where some instructions are those of the blocks from that place on
pub record IsNextBlock (p : Program) (k count : ℕ) (rest : List Placed) : Type 0 where
  pub block : take count rest ≡ get_or (cut_from p 0 p.instrs) k []
  pub behind : drop count rest ≡ flat (drop (k + 1) (cut_from p 0 p.instrs))
  pub next : drop k (cut_from p 0 p.instrs) ≡ get_or (cut_from p 0 p.instrs) k [] ∷ drop (k + 1) (cut_from p 0 p.instrs)
  pub within : count ≤ length rest

pub next_block : (p : Program) → BlocksCut p → (k count : ℕ) (found : Option ℕ) (rest : List Placed) → k < length (leaders p) → rest ≡ flat (drop k (cut_from p 0 p.instrs)) → count ≡ unwrap_or found 0 → found ≡ block_at p (get_or (leaders p) k 0) → IsNextBlock p k count rest
next_block p law k count found rest lt r c f =
    let cut = cut_from p 0 p.instrs in
    let b = get_or cut k [] in
    let sizes = length-map (blocks p) (λ (b : ℕ × ℕ). b.0) in
    let sizes_2 = length-map cut extent in
    let within : k < length cut = omega (arith, lt, sizes, sizes_2) in
    let next : drop k cut ≡ b ∷ drop (k + 1) cut = rw add-one (drop-cons cut k [] within) in
    let size : count ≡ length b = c ∙ ap (λ (o : Option ℕ). unwrap_or o 0) (f ∙ count_at p law k lt) in
    let split : rest ≡ b ++ flat (drop (k + 1) cut) = r ∙ ap flat next in
    let lengths = ap length split in
    let sum = length-append b (flat (drop (k + 1) cut)) in
    record {
      block = ap (λ (m : ℕ). take m rest) size ∙ ap (take (length b)) split ∙ take-append_seam b (flat (drop (k + 1) cut));
      behind = ap (λ (m : ℕ). drop m rest) size ∙ ap (drop (length b)) split ∙ drop-append_seam b (flat (drop (k + 1) cut));
      next = next;
      within = omega (arith, size, lengths, sum);
    }

-- a block more
pub put_next : (s : Style) (bs : List (List Placed)) (k : ℕ) (text new whole : List Stmt86) → drop k bs ≡ get_or bs k [] ∷ drop (k + 1) bs → new ≡ text ++ block_in_style s (get_or bs k []) → text ++ blocks_of s (drop k bs) ≡ whole → new ++ blocks_of s (drop (k + 1) bs) ≡ whole
put_next s bs k text new whole next put so_far =
    ap (λ t. t ++ blocks_of s (drop (k + 1) bs)) put
    ∙ append_assoc text (block_in_style s (get_or bs k [])) (blocks_of s (drop (k + 1) bs))
    ∙ ap (λ ds. text ++ blocks_of s ds) (sym next)
    ∙ so_far

-- the same where the leaders and the number are those of a graph of the program
pub next_found : (p q : Program) → q ≡ p → BlocksCut p → (k count : ℕ) (items : List ℕ) (found : Option ℕ) (rest : List Placed) → items ≡ leaders q → k < length items → rest ≡ flat (drop k (cut_from p 0 p.instrs)) → count ≡ unwrap_or found 0 → found ≡ block_at q (get_or items k 0) → IsNextBlock p k count rest
next_found p q same law k count items found rest is lt r c f =
    let e = is ∙ ap leaders same in
    next_block p law k count found rest (subst (λ xs. k < length xs) e lt) r c (f ∙ ap (λ o. block_at o (get_or items k 0)) same ∙ ap (λ xs. block_at p (get_or xs k 0)) e)
