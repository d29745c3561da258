use Rattle.std.proofs.Common.{◌≡◌, ℕ, ◌+◌, ◌^◌, ◌<◌, ◌≤◌, ◌&&◌, Bool, true, false, cond, List, [], ◌∷◌, ◌++◌, length, length-append, refl, sym, ap, subst, ◌∙◌, arith, rules, Result, Ok, Err, OnOk}
use Rattle.std.proofs.lemmas.Bool.{false≢true, and_from}
use Rattle.cells.specs.declared.Cond.{Cond}
use Rattle.i80.specs.declared.Goal.{Goal}
use Rattle.i80.specs.declared.Goal.TheVariants.{At, Boot, Bdos}
use Rattle.i80.specs.declared.Instr80.{Instr80}
use Rattle.i80.specs.declared.Instr80.TheVariants.{Inx, Dcx, Dad, Jif, Call}
use Rattle.i86.specs.declared.Jump.{Jump}
use Rattle.asm86_line_types.specs.declared.line.Label.{Label}
use Rattle.asm86_line_types.specs.declared.line.Stmt86.{Stmt86}
use Rattle.asm86_line_types.specs.declared.line.Stmt86.TheVariants.{Jcc, Run}
use Rattle.i86.specs.declared.Instr86.TheVariants.{Int224}
use Rattle.asm80_types.specs.declared.program.Placed.{Placed}
use Rattle.flow.specs.Saves.{is_word_sum}
use Rattle.templates.specs.Template.{template, label_of_goal}
use Rattle.templates.specs.Lean.{saves_by_need}
use Rattle.templates.specs.Jumps.{style_by}
use Rattle.templates.specs.Style.{Style, jump_if, without_last, without_first_if, without_last_if, written_as, written_in_style}
use Rattle.templates.proofs.written.put_written.Goals as goal
use Rattle.templates.proofs.written.put_written.Goals.{then-is_word_sum, else-is_word_sum, else-context-via-then-context+else-loses_nothing, else-context-via-else-context, in_default-via-in-Call+in_default, in_default-via-in_default}

same_text : {E : Type 0} (r : Result (Unit {0}) E) (new text xs ys : List Stmt86) → xs ≡ ys → OnOk r (new ≡ text ++ xs) → OnOk r (new ≡ text ++ ys)
same_text r new text xs ys same e = subst (λ zs. OnOk r (new ≡ text ++ zs)) same e

-- a text with some statements more
longer : {E : Type 0} (r : Result (Unit {0}) E) (new text xs : List Stmt86) → length xs ≤ 12 → OnOk r (new ≡ text ++ xs) → OnOk r (length new ≤ length text + 12)
longer (Ok v) new text xs few e = omega (arith, few, ap length e, length-append text xs)
longer (Err v) new text xs few e = tt

one_longer : {E : Type 0} (r : Result (Unit {0}) E) (new text : List Stmt86) (x : Stmt86) → OnOk r (new ≡ text ++ x ∷ []) → OnOk r (length new ≤ length text + 12)
one_longer r new text x e = longer r new text (x ∷ []) (omega arith) e

all_longer : {E : Type 0} (r : Result (Unit {0}) E) (new text xs whole : List Stmt86) → xs ≡ whole → length whole ≤ 12 → OnOk r (new ≡ text ++ xs) → OnOk r (length new ≤ length text + 12)
all_longer r new text xs whole e few put = longer r new text xs (subst (λ ys. length ys ≤ 12) (sym e) few) put

few_without_last : (xs : List Stmt86) → length (without_last xs) ≤ length xs
few_without_last [] = omega arith
few_without_last (x ∷ []) = omega arith
few_without_last (x ∷ (y ∷ ys)) = omega (arith, few_without_last (y ∷ ys))

few_without_last_if : (last : Bool) (xs : List Stmt86) → length xs ≤ 12 → length (without_last_if last xs) ≤ 12
few_without_last_if true xs few = omega (arith, few_without_last xs, few)
few_without_last_if false xs few = few

few_without_first_if : (first : Bool) (xs : List Stmt86) → length xs ≤ 12 → length (without_first_if first xs) ≤ 12
few_without_first_if true [] few = few
few_without_first_if true (x ∷ xs) few = omega (arith, few)
few_without_first_if false xs few = few

-- a conditional jump, which is short or not
short_jump : (s : Style) (first last known : Bool) (x : Placed) (on : Cond) (g : Goal) (jump : Jump) (to : Label) → x.instr ≡ Jif on g → true ≡ s.shortens x → jump ≡ jump_if on → to ≡ label_of_goal g → Jcc jump to ∷ [] ≡ written_in_style s first last known x
short_jump s first last known x on g jump to is short by goal =
    ap (λ j. Jcc j to ∷ []) by
    ∙ ap (λ t. Jcc (jump_if on) t ∷ []) goal
    ∙ ap (λ b. cond b (Jcc (jump_if on) (label_of_goal g) ∷ []) (template (Jif on g) x.at (s.saves x))) short
    ∙ ap (λ i. written_as s first last known x i) (sym is)

long_jump : (s : Style) (first last known save : Bool) (x : Placed) (on : Cond) (g : Goal) → x.instr ≡ Jif on g → false ≡ s.shortens x → template x.instr x.at save ≡ written_in_style s first last known x
long_jump s first last known save x on g is long =
    ap (λ i. template i x.at save) is
    ∙ ap (λ b. cond b (Jcc (jump_if on) (label_of_goal g) ∷ []) (template (Jif on g) x.at (s.saves x))) long
    ∙ ap (λ i. written_as s first last known x i) (sym is)

-- a call of the system, which is direct or not
direct_call : (s : Style) (first last known : Bool) (x : Placed) → x.instr ≡ Call Bdos → known ≡ true → s.directs x ≡ true → Run Int224 ∷ [] ≡ written_in_style s first last known x
direct_call s first last known x is knows direct =
    ap (λ b. cond b (Run Int224 ∷ []) (template (Call Bdos) x.at (s.saves x))) (sym (and_from known (s.directs x) knows direct))
    ∙ ap (λ i. written_as s first last known x i) (sym is)

long_call : (s : Style) (first last known save : Bool) (x : Placed) → x.instr ≡ Call Bdos → known && s.directs x ≡ false → template x.instr x.at save ≡ written_in_style s first last known x
long_call s first last known save x is long =
    ap (λ i. template i x.at save) is
    ∙ ap (λ b. cond b (Run Int224 ∷ []) (template (Call Bdos) x.at (s.saves x))) (sym long)
    ∙ ap (λ i. written_as s first last known x i) (sym is)

never : (a : Bool) → a && false ≡ false
never true = refl
never false = refl

-- an instruction that is neither a conditional jump nor a call of the system
other : (s : Style) (first last known save : Bool) (x : Placed) (i : Instr80) → ((on : Cond) (g : Goal) → i ≡ Jif on g → ⊥) → (i ≡ Call Bdos → ⊥) → (is_word_sum i ≡ true → save ≡ s.saves x) → without_first_if first (without_last_if last (template i x.at save)) ≡ written_as s first last known x i
other s first last known save x (Jif on g) not_jif not_bdos h = absurd (not_jif on g refl)
other s first last known save x (Call (At a)) not_jif not_bdos h = refl
other s first last known save x (Call Boot) not_jif not_bdos h = refl
other s first last known save x (Call Bdos) not_jif not_bdos h = absurd (not_bdos refl)
other s first last known save x (Inx p) not_jif not_bdos h = ap (λ b. without_first_if first (without_last_if last (template (Inx p) x.at b))) (h refl)
other s first last known save x (Dcx p) not_jif not_bdos h = ap (λ b. without_first_if first (without_last_if last (template (Dcx p) x.at b))) (h refl)
other s first last known save x (Dad p) not_jif not_bdos h = ap (λ b. without_first_if first (without_last_if last (template (Dad p) x.at b))) (h refl)
other s first last known save x i not_jif not_bdos h = refl

-- a text has room for twelve statements more
room : (n k : ℕ) → n < 2 ^ 20 → k ≤ 12 → n + k < 2 ^ 32
room n k far few = omega arith

room_for_one : (n : ℕ) → n < 2 ^ 20 → n + 1 < 2 ^ 32
room_for_one n far = omega arith

pub push-requires : goal.push-requires
push-requires c = room_for_one _ c.requires.room

pub append-requires : goal.append-requires
append-requires c = let whole = c.as_slice.ensures in room _ _ c.requires.room (subst (λ xs. length xs ≤ 12) (sym whole.value) whole.most)

pub push-requires-then-loses_nothing : goal.push-requires-then-loses_nothing
push-requires-then-loses_nothing c = room_for_one _ c.requires.room

pub append-requires-else-context : goal.append-requires-else-context
append-requires-else-context c = let whole = c.as_slice-else-context.ensures in room _ _ c.requires.room (subst (λ xs. length xs ≤ 12) (sym whole.value) whole.most)

pub append-requires-in_default : goal.append-requires-in_default
append-requires-in_default c =
    let context = c.args.context in
    let whole = c.as_slice-in_default.ensures in
    let made = c.without_first_if.ensures ∙ ap (without_first_if context.first) (c.without_last_if.ensures ∙ ap (without_last_if context.last) whole.value) in
    room _ _ c.requires.room (subst (λ xs. length xs ≤ 12) (sym made) (few_without_first_if context.first _ (few_without_last_if context.last _ whole.most)))

pub returns-then-shorten-clause-value : goal.returns-then-shorten-clause-value
returns-then-shorten-clause-value c = λ n _.
    let by = short_jump (style_by n c.args.jumps.now) c.args.context.first c.args.context.last c.args.context.known c.args.placed.now _ _ _ _ c.in-Jif.is c.if-shorten.ensures c.jump_if.ensures c.label_of.ensures in
    same_text c.push.result _ _ _ _ by c.push.ensures

pub returns-then-shorten-clause-most : goal.returns-then-shorten-clause-most
returns-then-shorten-clause-most c = one_longer c.push.result _ _ _ c.push.ensures

pub returns-else-shorten-clause-value : goal.returns-else-shorten-clause-value
returns-else-shorten-clause-value c = λ n _.
    let by = long_jump (style_by n c.args.jumps.now) c.args.context.first c.args.context.last c.args.context.known c.if-is_word_sum.save c.args.placed.now _ _ c.in-Jif.is c.if-shorten.ensures in
    same_text c.append.result _ _ _ _ (c.as_slice.ensures.value ∙ c.template-whole.ensures ∙ by) c.append.ensures

pub returns-else-shorten-clause-most : goal.returns-else-shorten-clause-most
returns-else-shorten-clause-most c = all_longer c.append.result _ _ _ _ c.as_slice.ensures.value c.as_slice.ensures.most c.append.ensures

pub returns-then-loses_nothing-clause-value : goal.returns-then-loses_nothing-clause-value
returns-then-loses_nothing-clause-value c = λ n all.
    let context = c.args.context in
    let is = c.in-Call-Bdos.is ∙ ap Call (rw c.in-Call-Bdos.is at c.in-Call-Bdos.field-0-is) in
    let by = direct_call (style_by n c.args.jumps.now) context.first context.last context.known c.args.placed.now is c.if-context.true (sym (c.loses_nothing.ensures n all) ∙ c.if-loses_nothing.true) in
    same_text c.push-then-loses_nothing.result _ _ _ _ by c.push-then-loses_nothing.ensures

pub returns-then-loses_nothing-clause-most : goal.returns-then-loses_nothing-clause-most
returns-then-loses_nothing-clause-most c = one_longer c.push-then-loses_nothing.result _ _ _ c.push-then-loses_nothing.ensures

pub returns-else-context-clause-value : goal.returns-else-context-clause-value
returns-else-context-clause-value c = λ n all.
    let s = style_by n c.args.jumps.now in
    let context = c.args.context in
    let x = c.args.placed.now in
    let is = c.in-Call-Bdos.is ∙ ap Call (rw c.in-Call-Bdos.is at c.in-Call-Bdos.field-0-is) in
    let long : context.known && s.directs x ≡ false =
    elim c.else-context.branch [
      | else-context-via-then-context+else-loses_nothing w ↦ ap (λ b. context.known && b) (sym (w.loses_nothing.ensures n all) ∙ w.if-loses_nothing.false) ∙ never context.known
      | else-context-via-else-context w ↦ ap (λ b. b && s.directs x) w.if-context.false
    ]
    in
    let by = long_call s context.first context.last context.known c.if-is_word_sum.save x is long in
    same_text c.append-else-context.result _ _ _ _ (c.as_slice-else-context.ensures.value ∙ c.template-whole.ensures ∙ by) c.append-else-context.ensures

pub returns-else-context-clause-most : goal.returns-else-context-clause-most
returns-else-context-clause-most c =
    all_longer c.append-else-context.result _ _ _ _ c.as_slice-else-context.ensures.value c.as_slice-else-context.ensures.most c.append-else-context.ensures

not_bdos : (c : goal.After-append-in_default) → c.args.placed.now.instr ≡ Call Bdos → ⊥
not_bdos c = elim c.in_default.branch [ in_default-via-in-Call+in_default w ↦ search rules | in_default-via-in_default w ↦ search rules ]

pub returns-in_default-clause-value : goal.returns-in_default-clause-value
returns-in_default-clause-value c = λ n all.
    let s = style_by n c.args.jumps.now in
    let x = c.args.placed.now in
    let save : is_word_sum x.instr ≡ true → c.if-is_word_sum.save ≡ saves_by_need n x =
    elim c.if-is_word_sum.branch [ then-is_word_sum w ↦ (λ _. w.save-is ∙ w.saves-save.ensures n all) | else-is_word_sum w ↦ (λ e. absurd (false≢true (w.if-is_word_sum.ensures ∙ e))) ]
    in
    let not_jif : (on : Cond) (g : Goal) → x.instr ≡ Jif on g → ⊥ =
    elim c.in_default.branch [ in_default-via-in-Call+in_default w ↦ w.in_default.not-Jif | in_default-via-in_default w ↦ w.in_default.not-Jif ]
    in
    let put : c.without_first_if.result.now ≡ written_in_style s c.args.context.first c.args.context.last c.args.context.known x =
    c.without_first_if.ensures
    ∙ ap (λ xs. without_first_if c.args.context.first xs) c.without_last_if.ensures
    ∙ ap (λ xs. without_first_if c.args.context.first (without_last_if c.args.context.last xs)) (c.as_slice-in_default.ensures.value ∙ c.template-whole.ensures)
    ∙ other s c.args.context.first c.args.context.last c.args.context.known _ x x.instr not_jif (not_bdos c) save
    in
    same_text c.append-in_default.result _ _ _ _ put c.append-in_default.ensures

pub returns-in_default-clause-most : goal.returns-in_default-clause-most
returns-in_default-clause-most c =
    let context = c.args.context in
    let whole = c.as_slice-in_default.ensures in
    let front = few_without_last_if context.last _ whole.most in
    let made = c.without_first_if.ensures ∙ ap (without_first_if context.first) (c.without_last_if.ensures ∙ ap (without_last_if context.last) whole.value) in
    all_longer c.append-in_default.result _ _ _ _ made (few_without_first_if context.first _ front) c.append-in_default.ensures
