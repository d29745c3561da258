-- What a reply leaves of the state, part by part.
use Rattle.std.proofs.Common.{◌≡◌, ℕ, List, length, ap, ◌∙◌}
use Rattle.std.specs.Vec.{with_items}
use Rattle.std.proofs.lemmas.List.{with_items_is}
use Rattle.cells.specs.declared.Cell.{Cell}
use Rattle.cells.specs.declared.Flags.{Flags}
use Rattle.cells.specs.declared.Place.{Place}
use Rattle.cpu80_tagged.specs.State.{Regs80, State80}
use Rattle.cpu80_tagged.specs.Call.{answered, put_blocks}
use Rattle.cpu80_tagged.specs.Draft.{memory_of}
use Rattle.cpu80_tagged.specs.Sight.{closed_in}
use Rattle.cpu80_tagged.specs.Reply.{spoiled_cells}
use Rattle.cpu80_tagged.specs.declared.area.CellUse.{CellUse}
use Rattle.cpu80_tagged.proofs.processor.Cpu80.take.Goals as goal

abbrev state : Regs80 → Flags → ℕ → (ℕ → Cell) → Place → ℕ → State80
state r f sp m place d = record { regs = r; flags = f; sp = sp; mem = m; place = place; dma = d }

same_state : {r s : Regs80} {f g : Flags} {m n : ℕ → Cell} {d e : ℕ} (sp : ℕ) (place : Place) → r ≡ s → f ≡ g → m ≡ n → d ≡ e → state r f sp m place d ≡ state s g sp n place e
same_state {r} {s} {f} {g} {m} {n} {d} {e} sp place rs fg mn de =
    ap (λ x. state x f sp m place d) rs ∙ ap (λ x. state s x sp m place d) fg ∙ ap (λ x. state s g sp x place d) mn ∙ ap (state s g sp n place) de

pub put_blocks-requires-clause-full : goal.put_blocks-requires-clause-full
put_blocks-requires-clause-full c = ap length c.as_mut_slice.ensures.value ∙ c.args.self.now.full

pub spoil-requires-clause-full : goal.spoil-requires-clause-full
spoil-requires-clause-full c =
    let memory = c.args.self.now.memory in
    let same : length c.put_blocks.new.memory ≡ length c.as_mut_slice.result.now = c.put_blocks.auto.memory in
    ap length c.as_mut_slice-2.ensures.value
    ∙ ap length (with_items_is memory c.put_blocks.new.memory (same ∙ c.as_mut_slice.ensures.len))
    ∙ same
    ∙ ap length c.as_mut_slice.ensures.value
    ∙ c.args.self.now.full

pub spoil-requires-clause-all : goal.spoil-requires-clause-all
spoil-requires-clause-all c = ap length c.as_slice-2.ensures.value ∙ c.args.self.now.all_used

pub returns-clause-state : goal.returns-clause-state
returns-clause-state c =
    let sp = c.args.self.now.sp in
    let written = with_items c.args.self.now.memory c.put_blocks.new.memory in
    let put : memory_of written.items ≡ put_blocks (memory_of c.args.self.now.memory.items) c.args.reply.now.writes =
    ap memory_of (with_items_is c.args.self.now.memory c.put_blocks.new.memory (c.put_blocks.auto.memory ∙ c.as_mut_slice.ensures.len))
    ∙ c.put_blocks.ensures
    ∙ ap (λ (m : List Cell). put_blocks (memory_of m) c.as_slice.result.now) c.as_mut_slice.ensures.value
    ∙ ap (put_blocks (memory_of c.args.self.now.memory.items)) c.as_slice.ensures in
    let spoiled =
    ap memory_of (with_items_is written c.spoil.new.memory (c.spoil.auto.memory ∙ c.as_mut_slice-2.ensures.len))
    ∙ c.spoil.ensures
    ∙ ap (λ (u : List CellUse). spoiled_cells 8 (closed_in u) sp (memory_of c.as_mut_slice-2.result.now)) c.as_slice-2.ensures.value
    ∙ ap (λ (m : List Cell). spoiled_cells 8 (closed_in c.args.self.now.uses.items) sp (memory_of m)) c.as_mut_slice-2.ensures.value
    ∙ ap (spoiled_cells 8 (closed_in c.args.self.now.uses.items) sp) put in
    same_state c.args.back.sp c.args.back.place (c.answered-self.ensures ∙ ap (λ k. answered k c.args.reply.now.answer) c.answer_of.ensures) c.unknown-self.ensures spoiled c.dma_after-self.ensures
