use Rattle.std.proofs.Common.{◌≡◌, ◌==◌, ◌||◌, Bool, true, List, length, sym, ap, ◌∙◌, arith}
use Rattle.std.proofs.lemmas.Bool.Decides.{nat_tests}
use Rattle.asm80_types.specs.declared.arg.Arg.{Arg}
use Rattle.asm80_types.specs.Tree.{operand_of}
use Rattle.asm80_source_def.specs.Layout.{misses, computes, loads_code}
use Rattle.asm80_values.specs.Settings.{setting_of}
use Rattle.asm80_values.proofs.ByKind.{any_more, any_same, any_of_none, no_stray}
use Rattle.asm80_values.proofs.profile.+strays.Goals as goal
use Rattle.asm80_values.proofs.profile.+strays.Goals.{strays_among-then-misses, strays_among-else-misses, strays_among-then-computes, strays_among-else-computes}

-- a test that is true says that there are none
none_there : (args : List Arg) (b : Bool) → b ≡ (length args == 0) → b ≡ true → length args ≡ 0
none_there args b is empty = grind (arith, nat_tests)

pub strays_among-returns-then-not-is_value_kind-clause-misses : goal.strays_among-returns-then-not-is_value_kind-clause-misses
strays_among-returns-then-not-is_value_kind-clause-misses t c =
    let t = setting_of c.args.setting.now in
    any_same c.args.kinds.now c.args.args.now _ _ _ _ c.in-Some-Some.ensures.cases.0 c.in-Some-Some.ensures'.cases.0 (misses t) _ (no_stray t c.in-Some-Some.kind.now (operand_of c.in-Some-Some.arg.now) c.if-not-is_value_kind.ensures).0 c.strays_behind-rest.ensures.misses

pub strays_among-returns-then-not-is_value_kind-clause-computes : goal.strays_among-returns-then-not-is_value_kind-clause-computes
strays_among-returns-then-not-is_value_kind-clause-computes t c =
    let t = setting_of c.args.setting.now in
    any_same c.args.kinds.now c.args.args.now _ _ _ _ c.in-Some-Some.ensures.cases.0 c.in-Some-Some.ensures'.cases.0 (computes t) _ (no_stray t c.in-Some-Some.kind.now (operand_of c.in-Some-Some.arg.now) c.if-not-is_value_kind.ensures).1 c.strays_behind-rest.ensures.computes

pub strays_among-returns-then-not-is_value_kind-clause-loads_code : goal.strays_among-returns-then-not-is_value_kind-clause-loads_code
strays_among-returns-then-not-is_value_kind-clause-loads_code t c =
    let t = setting_of c.args.setting.now in
    any_same c.args.kinds.now c.args.args.now _ _ _ _ c.in-Some-Some.ensures.cases.0 c.in-Some-Some.ensures'.cases.0 (loads_code t) _ (no_stray t c.in-Some-Some.kind.now (operand_of c.in-Some-Some.arg.now) c.if-not-is_value_kind.ensures).2 c.strays_behind-rest.ensures.loads_code

pub strays_among-returns-then-loads_code-clause-misses : goal.strays_among-returns-then-loads_code-clause-misses
strays_among-returns-then-loads_code-clause-misses t c =
    let later = c.strays_behind-rest.result.misses in
    let joined : c.if-misses.result ≡ (c.misses.result || later) = elim c.if-misses.branch [
      | strays_among-then-misses w ↦ w.result-is ∙ w.if-misses.true ∙ ap (λ (b : Bool). b || later) (sym w.if-misses.true)
      | strays_among-else-misses w ↦ w.result-is ∙ ap (λ (b : Bool). b || later) (sym w.if-misses.false)
    ] in
    any_more c.args.kinds.now c.args.args.now _ _ _ _ c.in-Some-Some.ensures.cases.0 c.in-Some-Some.ensures'.cases.0 (misses (setting_of c.args.setting.now)) c.if-misses.result _ _ joined c.misses.ensures c.strays_behind-rest.ensures.misses

pub strays_among-returns-then-loads_code-clause-computes : goal.strays_among-returns-then-loads_code-clause-computes
strays_among-returns-then-loads_code-clause-computes t c =
    let later = c.strays_behind-rest.result.computes in
    let joined : c.if-computes.result ≡ (c.computes.result || later) = elim c.if-computes.branch [
      | strays_among-then-computes w ↦ w.result-is ∙ w.if-computes.true ∙ ap (λ (b : Bool). b || later) (sym w.if-computes.true)
      | strays_among-else-computes w ↦ w.result-is ∙ ap (λ (b : Bool). b || later) (sym w.if-computes.false)
    ] in
    any_more c.args.kinds.now c.args.args.now _ _ _ _ c.in-Some-Some.ensures.cases.0 c.in-Some-Some.ensures'.cases.0 (computes (setting_of c.args.setting.now)) c.if-computes.result _ _ joined c.computes.ensures c.strays_behind-rest.ensures.computes

pub strays_among-returns-then-loads_code-clause-loads_code : goal.strays_among-returns-then-loads_code-clause-loads_code
strays_among-returns-then-loads_code-clause-loads_code t c =
    any_more c.args.kinds.now c.args.args.now _ _ _ _ c.in-Some-Some.ensures.cases.0 c.in-Some-Some.ensures'.cases.0 (loads_code (setting_of c.args.setting.now)) _ _ _ (c.if-loads_code.true ∙ ap (λ (b : Bool). b || c.strays_behind-rest.result.loads_code) (sym c.if-loads_code.true)) c.loads_code.ensures c.strays_behind-rest.ensures.loads_code

pub strays_among-returns-else-loads_code-clause-misses : goal.strays_among-returns-else-loads_code-clause-misses
strays_among-returns-else-loads_code-clause-misses t c =
    let later = c.strays_behind-rest.result.misses in
    let joined : c.if-misses.result ≡ (c.misses.result || later) = elim c.if-misses.branch [
      | strays_among-then-misses w ↦ w.result-is ∙ w.if-misses.true ∙ ap (λ (b : Bool). b || later) (sym w.if-misses.true)
      | strays_among-else-misses w ↦ w.result-is ∙ ap (λ (b : Bool). b || later) (sym w.if-misses.false)
    ] in
    any_more c.args.kinds.now c.args.args.now _ _ _ _ c.in-Some-Some.ensures.cases.0 c.in-Some-Some.ensures'.cases.0 (misses (setting_of c.args.setting.now)) c.if-misses.result _ _ joined c.misses.ensures c.strays_behind-rest.ensures.misses

pub strays_among-returns-else-loads_code-clause-computes : goal.strays_among-returns-else-loads_code-clause-computes
strays_among-returns-else-loads_code-clause-computes t c =
    let later = c.strays_behind-rest.result.computes in
    let joined : c.if-computes.result ≡ (c.computes.result || later) = elim c.if-computes.branch [
      | strays_among-then-computes w ↦ w.result-is ∙ w.if-computes.true ∙ ap (λ (b : Bool). b || later) (sym w.if-computes.true)
      | strays_among-else-computes w ↦ w.result-is ∙ ap (λ (b : Bool). b || later) (sym w.if-computes.false)
    ] in
    any_more c.args.kinds.now c.args.args.now _ _ _ _ c.in-Some-Some.ensures.cases.0 c.in-Some-Some.ensures'.cases.0 (computes (setting_of c.args.setting.now)) c.if-computes.result _ _ joined c.computes.ensures c.strays_behind-rest.ensures.computes

pub strays_among-returns-else-loads_code-clause-loads_code : goal.strays_among-returns-else-loads_code-clause-loads_code
strays_among-returns-else-loads_code-clause-loads_code t c =
    any_more c.args.kinds.now c.args.args.now _ _ _ _ c.in-Some-Some.ensures.cases.0 c.in-Some-Some.ensures'.cases.0 (loads_code (setting_of c.args.setting.now)) _ _ _ (ap (λ (b : Bool). b || c.strays_behind-rest.result.loads_code) (sym c.if-loads_code.false)) c.loads_code.ensures c.strays_behind-rest.ensures.loads_code

pub strays_among-returns-in_default-clause-misses : goal.strays_among-returns-in_default-clause-misses
strays_among-returns-in_default-clause-misses t c = any_of_none (misses (setting_of c.args.setting.now)) c.args.kinds.now c.args.args.now c.in_default.ensures'.cases

pub strays_among-returns-in_default-clause-computes : goal.strays_among-returns-in_default-clause-computes
strays_among-returns-in_default-clause-computes t c = any_of_none (computes (setting_of c.args.setting.now)) c.args.kinds.now c.args.args.now c.in_default.ensures'.cases

pub strays_among-returns-in_default-clause-loads_code : goal.strays_among-returns-in_default-clause-loads_code
strays_among-returns-in_default-clause-loads_code t c = any_of_none (loads_code (setting_of c.args.setting.now)) c.args.kinds.now c.args.args.now c.in_default.ensures'.cases

pub strays_behind-returns-then-is_empty-clause-misses : goal.strays_behind-returns-then-is_empty-clause-misses
strays_behind-returns-then-is_empty-clause-misses t c = any_of_none (misses (setting_of c.args.setting.now)) c.args.kinds.now c.args.args.now (none_there c.args.args.now c.is_empty.result c.is_empty.ensures c.if-is_empty.true)

pub strays_behind-returns-then-is_empty-clause-computes : goal.strays_behind-returns-then-is_empty-clause-computes
strays_behind-returns-then-is_empty-clause-computes t c = any_of_none (computes (setting_of c.args.setting.now)) c.args.kinds.now c.args.args.now (none_there c.args.args.now c.is_empty.result c.is_empty.ensures c.if-is_empty.true)

pub strays_behind-returns-then-is_empty-clause-loads_code : goal.strays_behind-returns-then-is_empty-clause-loads_code
strays_behind-returns-then-is_empty-clause-loads_code t c = any_of_none (loads_code (setting_of c.args.setting.now)) c.args.kinds.now c.args.args.now (none_there c.args.args.now c.is_empty.result c.is_empty.ensures c.if-is_empty.true)
