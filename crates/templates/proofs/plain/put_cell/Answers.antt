use Rattle.std.proofs.Common.{◌≡◌, ◌≢◌, ℕ, ◌+◌, ◌^◌, ◌<◌, ◌≤◌, List, [], ◌∷◌, ◌++◌, length, ap, sym, ◌∙◌, append_assoc, append-nil, length-append, arith, rules, tests}
use Rattle.std.proofs.lemmas.List.{length_push}
use Rattle.std.proofs.lemmas.Result.{on_ok_weaker, IfOk-from_err}
use Rattle.asm86_line_types.specs.declared.line.Stmt86.{Stmt86}
use Rattle.asm86_line_types.specs.declared.line.Stmt86.TheVariants.{Org}
use Rattle.templates.specs.Plain.{org_at}
use Rattle.templates.proofs.plain.put_cell.Goals as goal
use Rattle.templates.proofs.plain.put_cell.Goals.{then-at-next+in_ok-push, else-at-next}

with_org : (next at : ℕ) → at ≢ next → Org at ∷ [] ≡ org_at next at
with_org next at apart = search (rules, tests)

without_org : (next at : ℕ) → at ≡ next → [] ≡ org_at next at
without_org next at same = search (rules, tests)

one_at_most : (next at : ℕ) → length (org_at next at) ≤ 1
one_at_most next at = search (rules, tests)

two_at_most : (old org new text : List Stmt86) (s : Stmt86) → length org ≤ 1 → text ≡ old ++ org → new ≡ text ++ s ∷ [] → length new ≤ length old + 2
two_at_most old org new text s few e put = omega (arith, few, ap length e, length-append old org, ap length put, length_push text s)

none_more : (old org text : List Stmt86) → length org ≤ 1 → text ≡ old ++ org → length text ≤ length old + 2
none_more old org text few e = omega (arith, few, ap length e, length-append old org)

room : (old org text : List Stmt86) → length org ≤ 1 → text ≡ old ++ org → length old < 2 ^ 24 → length text + 1 < 2 ^ 32
room old org text few e small = omega (arith, few, ap length e, length-append old org, small)

pub push-requires-in-Some : goal.push-requires-in-Some
push-requires-in-Some c =
    let old = c.args.text.now in
    let org : c.if-at-next.text ≡ old ++ org_at c.args.next c.args.at =
    elim c.if-at-next.branch [
      | then-at-next+in_ok-push w ↦ w.text-is ∙ w.in_ok-push.ensures ∙ ap (λ z. old ++ z) (with_org c.args.next c.args.at w.if-at-next.true)
      | else-at-next w ↦ w.text-is ∙ sym (append-nil old) ∙ ap (λ z. old ++ z) (without_org c.args.next c.args.at w.if-at-next.false)
    ]
    in
    room old _ c.if-at-next.text (one_at_most c.args.next c.args.at) org c.requires

pub returns-in-Some : goal.returns-in-Some
returns-in-Some c =
    let old = c.args.text.now in
    let org : c.if-at-next.text ≡ old ++ org_at c.args.next c.args.at =
    elim c.if-at-next.branch [
      | then-at-next+in_ok-push w ↦ w.text-is ∙ w.in_ok-push.ensures ∙ ap (λ z. old ++ z) (with_org c.args.next c.args.at w.if-at-next.true)
      | else-at-next w ↦ w.text-is ∙ sym (append-nil old) ∙ ap (λ z. old ++ z) (without_org c.args.next c.args.at w.if-at-next.false)
    ]
    in
    let put = c.push-in-Some in
    record {
      value = on_ok_weaker put.result
          (λ e. e ∙ ap (λ t. t ++ c.in-Some.statement ∷ []) org ∙ append_assoc old (org_at c.args.next c.args.at) (c.in-Some.statement ∷ []) ∙ ap (λ z. old ++ (org_at c.args.next c.args.at ++ z)) c.in-Some.ensures)
          put.ensures;
      most = on_ok_weaker put.result (two_at_most old _ put.new.self c.if-at-next.text c.in-Some.statement (one_at_most c.args.next c.args.at) org) put.ensures;
    }

pub returns-in-None : goal.returns-in-None
returns-in-None c =
    let old = c.args.text.now in
    let org : c.if-at-next.text ≡ old ++ org_at c.args.next c.args.at =
    elim c.if-at-next.branch [
      | then-at-next+in_ok-push w ↦ w.text-is ∙ w.in_ok-push.ensures ∙ ap (λ z. old ++ z) (with_org c.args.next c.args.at w.if-at-next.true)
      | else-at-next w ↦ w.text-is ∙ sym (append-nil old) ∙ ap (λ z. old ++ z) (without_org c.args.next c.args.at w.if-at-next.false)
    ]
    in
    record {
      value = org ∙ ap (λ z. old ++ z) (sym (append-nil (org_at c.args.next c.args.at)) ∙ ap (λ z. org_at c.args.next c.args.at ++ z) c.in-None.ensures);
      most = none_more old _ c.if-at-next.text (one_at_most c.args.next c.args.at) org;
    }

pub returns-in_err-push : goal.returns-in_err-push
returns-in_err-push c =
    let r = c.from_residual in
    record {
      value = IfOk-from_err r.result _ r.ensures.0;
      most = IfOk-from_err r.result _ r.ensures.0;
    }
