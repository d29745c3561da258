use Rattle.std.proofs.Common.{◌≡◌, ◌∙◌, ℕ, ◌*◌, Some, Err, refl, ap, subst, sym}
use Rattle.asm86_line_types.specs.declared.line.Label.{Label}
use Rattle.sym_block_def.specs.declared.reason.Reason.TheVariants.{Missing, Length}
use Rattle.sym_block_def.specs.Symbolic86.{Symbolic86}
use Rattle.sym_block_def.specs.Walk86.{Surroundings, walk_some, walk_through, walk_behind}
use Rattle.sym_micro.specs.Machine.{as86}
use Rattle.sym_micro.specs.Stands.{machine_of}
use Rattle.sym_run.specs.declared.around.Met.{Met}
use Rattle.sym_run.specs.declared.around.Met.TheVariants.{EndsAt, Instruction, Nothing}
use Rattle.sym_run.specs.Around.{surroundings_of, met_of}
use Rattle.sym_run.specs.Ends.{WalksTo}
use Rattle.sym_run.proofs.Steps.{ends_here}
use Rattle.sym_run.proofs.walk.walk_label.Goals as goal

-- a walk that meets no label first
begins : (w : Surroundings) (room : ℕ) (s : Symbolic86) (found : Met) → ((l : Label) → found ≡ EndsAt l → ⊥) → walk_some w room (met_of found) s ≡ walk_through w room (met_of found) s
begins w room s (EndsAt l) h = absurd (h l refl)
begins w room s (Instruction x rest) h = refl
begins w room s Nothing h = refl

pub returns-in_default : goal.returns-in_default
returns-in_default c =
    let old = c.args.terms.now in
    let r = c.args.run.now in
    let n = 24 * c.args.room in
    subst (λ found. WalksTo old old r n (walk_behind (surroundings_of c.args.around.now) c.args.room (as86 (machine_of old r)) found) (Some (Err Missing))) c.in_default.ensures (ends_here old r n (Err Missing) (Err Missing) c.requires.ready refl)

pub returns-in-EndsAt : goal.returns-in-EndsAt
returns-in-EndsAt c =
    let old = c.args.terms.now in
    let r = c.args.run.now in
    let n = 24 * c.args.room in
    let w = surroundings_of c.args.around.now in
    let start = as86 (machine_of old r) in
    let same = ap (λ m. walk_some w c.args.room m start) c.in-EndsAt.ensures ∙ ap (walk_behind w c.args.room start) c.in-Some.ensures in
    subst (λ x. WalksTo old old r n x (Some (Err Length))) same (ends_here old r n (Err Length) (Err Length) c.requires.ready refl)

pub returns-in_default-meets : goal.returns-in_default-meets
returns-in_default-meets c =
    let old = c.args.terms.now in
    let w = surroundings_of c.args.around.now in
    let room = c.args.room in
    let start = as86 (machine_of old c.args.run.now) in
    let is = c.meets.ensures in
    let same =
    sym (ap (λ m. walk_through w room m start) is)
    ∙ sym (begins w room start c.meets.result c.in_default-meets.not-EndsAt)
    ∙ ap (λ m. walk_some w room m start) is
    ∙ ap (walk_behind w room start) c.in-Some.ensures
    in
    subst (λ x. WalksTo old c.walk_from.new.terms c.walk_from.new.run (24 * room) x c.walk_from.result) same c.walk_from.ensures
