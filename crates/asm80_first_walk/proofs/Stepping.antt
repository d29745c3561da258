-- What a step of the code leaves is the state behind its statement.
use Rattle.std.proofs.Common.{◌≡◌, ℕ, List, [], ◌∷◌, ◌++◌, Bool, true, false, Option, Some, None, refl, sym, ap, ◌∙◌}
use Rattle.std.specs.Prelude.{cond, reverse}
use Rattle.std.specs.Option.{option_or}
use Rattle.asm80_types.specs.Tree.{Statement}
use Rattle.asm80_source_def.specs.declared.operation.Operation.{Operation}
use Rattle.asm80_source_def.specs.declared.operation.Operation.TheVariants.{Org, End, Equ, Set, If, Ds}
use Rattle.asm80_source_def.specs.declared.rule.AsmRule.{AsmRule}
use Rattle.asm80_source_def.specs.declared.rule.AsmRule.TheVariants.{V1, V2, V4, V5, V6, V7}
use Rattle.asm80_source_def.specs.declared.meaning.Meaning.{Meaning}
use Rattle.asm80_source_def.specs.declared.meaning.NameKind.{NameKind}
use Rattle.asm80_source_def.specs.Names.{Name, clashes, overflows}
use Rattle.asm80_source_def.specs.Walk.{Walk, operation_in, is_taken, is_true, scope, directive_meaning, names_after, address_after, after_by, kind_of_label, label_meaning_by}
use Rattle.asm80_source_def.specs.FirstFaults.{rule_if, rule_of_taken, with_line, breaks_v1, breaks_v4, breaks_v5, label_clashes, label_overflows}
use Rattle.asm80_first_walk.specs.State.{State, taken_flags, walk_of, nested_ifs, breaks_nesting, sure_rule, taken_row, Steps, rule_of_values, is_evaluated, rule_above, rule_at_end}
use Rattle.asm80_first_walk.proofs.Nesting.{flags_skipped, flags_taken, refusals_nested}

-- ---- a statement that is skipped

skipped_walk : (old : State) (s : Statement) (b : Bool) → false ≡ b → record { at = old.at; names = old.names; ifs = reverse (taken_flags (nested_ifs old.ifs old.fault s.line false (operation_in s))) } ≡ after_by b (walk_of old) s
skipped_walk old s true e = absurd cc
skipped_walk old s false e = ap (λ (ifs : List Bool). record { at = old.at; names = old.names; ifs = ifs }) (flags_skipped old.ifs old.fault s.line (operation_in s))

pub skips : (index : ℕ) (s : Statement) (old new : State) → is_taken (walk_of old) s ≡ false → new ≡ record old { ifs = nested_ifs old.ifs old.fault s.line false (operation_in s); fault = option_or old.fault (with_line s.line (rule_if (breaks_nesting (walk_of old) s (operation_in s)) V6 None)) } → Steps index s old new
skips index s old new e is = rw is (record {
  walk = skipped_walk old s (is_taken (walk_of old) s) (sym e);
  refusals = refusals_nested old s false (operation_in s);
  fault = rw e refl;
  rows = rw e refl;
})

-- ---- a statement that is taken

or_none : {X : Type 0} (x : Option X) → x ≡ option_or x None
or_none None = refl
or_none (Some x) = refl

values_split : (w : Walk) (s : Statement) (o : Option Operation) → rule_if (breaks_v1 w s o) V1 (rule_if (breaks_v4 w s o) V4 None) ≡ option_or (cond (is_evaluated o) (rule_of_values (scope w) s.args) None) (rule_at_end w.at (names_after w s) s.args o)
values_split w s (Some End) = refl
values_split w s (Some Equ) = or_none _
values_split w s (Some Set) = or_none _
values_split w s (Some Org) = or_none _
values_split w s (Some Ds) = or_none _
values_split w s (Some If) = or_none _
values_split w s o = refl

if_split : (b : Bool) (rule : AsmRule) (x y z : Option AsmRule) → x ≡ option_or y z → rule_if b rule x ≡ option_or (rule_if b rule y) z
if_split true rule x y z e = refl
if_split false rule x y z e = e

rules_joined : (deep clash full form : Bool) (rule : Option AsmRule) → option_or (option_or (rule_if deep V6 None) (rule_if clash V2 (rule_if full V7 None))) (rule_if form V5 rule) ≡ rule_if deep V6 (rule_if clash V2 (rule_if full V7 (rule_if form V5 rule)))
rules_joined true clash full form rule = refl
rules_joined false true full form rule = refl
rules_joined false false true form rule = refl
rules_joined false false false form rule = refl

pub above_joined : (w : Walk) (s : Statement) (o : Option Operation) (nesting label operand either all : Option AsmRule) → nesting ≡ rule_if (breaks_nesting w s o) V6 None → label ≡ rule_if (label_clashes w s s.label) V2 (rule_if (label_overflows w s s.label) V7 None) → operand ≡ rule_if (breaks_v5 s o) V5 (cond (is_evaluated o) (rule_of_values (scope w) s.args) None) → either ≡ option_or nesting label → all ≡ option_or either operand → all ≡ rule_above w s o
above_joined w s o nesting label operand either all a b c d e =
    let joined = rules_joined (breaks_nesting w s o) (label_clashes w s s.label) (label_overflows w s s.label) (breaks_v5 s o) (cond (is_evaluated o) (rule_of_values (scope w) s.args) None) in
    (rw (d, a, b, c) at e) ∙ joined

rules_split : (w : Walk) (s : Statement) → is_taken w s ≡ true → sure_rule w s ≡ option_or (rule_above w s (operation_in s)) (rule_at_end w.at (names_after w s) s.args (operation_in s))
rules_split w s e =
    let o = operation_in s in
    let z = rule_at_end w.at (names_after w s) s.args o in
    let values = cond (is_evaluated o) (rule_of_values (scope w) s.args) None in
    let v1 = rule_if (breaks_v1 w s o) V1 (rule_if (breaks_v4 w s o) V4 None) in
    let a = values_split w s o in
    let b = if_split (breaks_v5 s o) V5 v1 values z a in
    let c = if_split (label_overflows w s s.label) V7 _ _ z b in
    let d = if_split (label_clashes w s s.label) V2 _ _ z c in
    ap (λ (b : Bool). rule_if (breaks_nesting w s o) V6 (cond b (rule_of_taken w s) None)) e ∙ if_split (breaks_nesting w s o) V6 _ _ z d

taken_walk : (old : State) (s : Statement) (b : Bool) → true ≡ b → record { at = address_after (walk_of old) s; names = names_after (walk_of old) s; ifs = reverse (taken_flags (nested_ifs old.ifs old.fault s.line (is_true (directive_meaning (walk_of old) s).value) (operation_in s))) } ≡ after_by b (walk_of old) s
taken_walk old s false e = absurd cc
taken_walk old s true e = ap (λ (ifs : List Bool). record { at = address_after (walk_of old) s; names = names_after (walk_of old) s; ifs = ifs }) (flags_taken old old.fault s (operation_in s))

pub takes : (index : ℕ) (s : Statement) (old new : State) → is_taken (walk_of old) s ≡ true → new ≡ record { at = address_after (walk_of old) s; names = names_after (walk_of old) s; ifs = nested_ifs old.ifs old.fault s.line (is_true (directive_meaning (walk_of old) s).value) (operation_in s); fault = option_or old.fault (with_line s.line (option_or (rule_above (walk_of old) s (operation_in s)) (rule_at_end old.at (names_after (walk_of old) s) s.args (operation_in s)))); rows = old.rows ++ taken_row index (walk_of old) s ∷ [] } → Steps index s old new
takes index s old new e is = rw is (record {
  walk = taken_walk old s (is_taken (walk_of old) s) (sym e);
  refusals = refusals_nested old s (is_true (directive_meaning (walk_of old) s).value) (operation_in s);
  fault = ap (λ (rule : Option AsmRule). option_or old.fault (with_line s.line rule)) (sym (rules_split (walk_of old) s e));
  rows = rw e refl;
})

-- ---- the code's changes, one after the other

pub skips_through : (index : ℕ) (s : Statement) (old mid new : State) (rule : Option AsmRule) (o : Option Operation) → o ≡ operation_in s → is_taken (walk_of old) s ≡ false → rule ≡ rule_if (breaks_nesting (walk_of old) s o) V6 None → mid ≡ record old { ifs = nested_ifs old.ifs old.fault s.line false o } → new ≡ record mid { fault = option_or mid.fault (with_line s.line rule) } → Steps index s old new
skips_through index s old mid new rule o e t r m n =
    let all = n ∙ ap (λ (x : State). record x { fault = option_or x.fault (with_line s.line rule) }) m in
    skips index s old new t (rw (r, e) at all)

pub takes_through : (index : ℕ) (s : Statement) (old kept named nested noted new : State) (o : Option Operation) (rule rule_before rule_end : Option AsmRule) (m : Meaning) (next : ℕ) → o ≡ operation_in s → is_taken (walk_of old) s ≡ true → m ≡ directive_meaning (walk_of old) s → next ≡ address_after (walk_of old) s → rule ≡ option_or rule_before rule_end → rule_before ≡ rule_above (walk_of old) s o → rule_end ≡ rule_at_end named.at named.names s.args o → kept ≡ record old { rows = old.rows ++ record { statement = index; at = old.at; operation = o; meaning = m } ∷ [] } → named ≡ record kept { names = names_after (walk_of kept) s } → nested ≡ record named { ifs = nested_ifs named.ifs named.fault s.line (is_true m.value) o } → noted ≡ record nested { fault = option_or nested.fault (with_line s.line rule) } → new ≡ record noted { at = next } → Steps index s old new
takes_through index s old kept named nested noted new o rule rule_before rule_end m next sameop t mean to both first second e1 e2 e3 e4 e5 =
    let a = e2 ∙ ap (λ (x : State). record x { names = names_after (walk_of x) s }) e1 in
    let b = e3 ∙ ap (λ (x : State). record x { ifs = nested_ifs x.ifs x.fault s.line (is_true m.value) o }) a in
    let c = e4 ∙ ap (λ (x : State). record x { fault = option_or x.fault (with_line s.line rule) }) b in
    let d = e5 ∙ ap (λ (x : State). record x { at = next }) c in
    let last = second ∙ ap (λ (x : State). rule_at_end x.at x.names s.args o) a in
    takes index s old new t (rw (to, both, first, last, mean, sameop) at d)

pub rule_of_label : (names : List Name) (w : Walk) (s : Statement) (text : List ℕ) (kind : NameKind) (rule : Option AsmRule) → names ≡ w.names → s.label ≡ Some text → kind ≡ kind_of_label (operation_in s) → ((m : Meaning) → rule ≡ rule_if (clashes names (record { text = text; kind = kind; meaning = m })) V2 (rule_if (overflows names (record { text = text; kind = kind; meaning = m })) V7 None)) → rule ≡ rule_if (label_clashes w s s.label) V2 (rule_if (label_overflows w s s.label) V7 None)
rule_of_label names w s text kind rule same label kinds h =
    let k = h (label_meaning_by w s (operation_in s)) in
    rw label (rw (same, kinds) at k)
