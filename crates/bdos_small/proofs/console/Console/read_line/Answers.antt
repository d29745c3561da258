use Rattle.std.proofs.Common.{◌≡◌, ◌+◌, ◌==◌, List, ℕ, ◌≤◌, length, drop, refl, sym, ap, subst, ◌∙◌, arith}
use Rattle.std.proofs.lemmas.Bool.{false≢true}
use Rattle.std.proofs.lemmas.List.{length-take}
use Rattle.std.proofs.lemmas.Result.{IfOk-from_err, MatchResult-from_err}
use Rattle.dialogue.specs.Shape.{argument_address}
use Rattle.dialogue.specs.Lawful.{first_byte}
use Rattle.bdos_small.specs.Console.{line_read, line_left}
use Rattle.bdos_small.proofs.ConsoleReplies.{line_answer, line_answer_fits, line_ends}
use Rattle.bdos_small.proofs.console.Console.read_line.Goals as goal

pub returns-in_err-bytes : goal.returns-in_err-bytes
returns-in_err-bytes c =
    let r = c.from_residual in
    record {
      answer = IfOk-from_err r.result _ r.ensures.0;
      fits = IfOk-from_err r.result _ r.ensures.0;
      memory = MatchResult-from_err r.result _ _ r.ensures.0 (λ _. refl);
      wanted = MatchResult-from_err r.result _ _ r.ensures.0 (λ _. λ e. absurd (false≢true (sym c.if-is_empty.false ∙ c.is_empty.ensures ∙ ap (λ (xs : List ℕ). length xs == 0) (c.left.ensures ∙ c.self.view_is ∙ e))));
    }

pub returns-in_err-reply : goal.returns-in_err-reply
returns-in_err-reply c =
    let r = c.from_residual-in_err-reply in
    record {
      answer = IfOk-from_err r.result _ r.ensures.0;
      fits = IfOk-from_err r.result _ r.ensures.0;
      memory = MatchResult-from_err r.result _ _ r.ensures.0 (λ _. refl);
      wanted = MatchResult-from_err r.result _ _ r.ensures.0 (λ _. λ e. absurd (false≢true (sym c.if-is_empty.false ∙ c.is_empty.ensures ∙ ap (λ (xs : List ℕ). length xs == 0) (c.left.ensures ∙ c.self.view_is ∙ e))));
    }

pub returns : goal.returns
returns c =
    let q = c.args.request.now in
    let input = c.args.self.now in
    let mx = first_byte q.blocks in
    let bytes = c.in_ok-bytes.ensures in
    let shown : c.left-2.result.now ≡ input = c.left-2.ensures ∙ c.self.view_is in
    let line = c.in_ok-bytes.field-0.bytes.items in
    let reads : line ≡ line_read mx input =
    bytes.bytes ∙ ap (λ m. line_read m c.left-2.result.now) c.room_of.ensures ∙ ap (line_read mx) shown in
    let rest : c.skip.new.self ≡ line_left mx input =
    c.skip.ensures ∙ ap (drop c.in_ok-bytes.field-0.used) (sym c.left-2.ensures) ∙ bytes.left ∙ ap (λ m. line_left m c.left-2.result.now) c.room_of.ensures ∙ ap (line_left mx) shown in
    record {
      answer = line_answer q input line c.skip.new.self c.requires.lawful c.requires.line reads c.in_ok-reply.reply c.in_ok-reply.ensures (λ e. absurd (false≢true (sym c.if-is_empty.false ∙ c.is_empty.ensures ∙ ap (λ (xs : List ℕ). length xs == 0) (c.left.ensures ∙ c.self.view_is ∙ e)))) rest;
      fits = line_answer_fits q input line input c.requires.lawful c.requires.line reads c.in_ok-reply.reply c.in_ok-reply.ensures;
      memory = tt;
      wanted = tt;
    }

pub skip-requires : goal.skip-requires
skip-requires c = subst (λ (xs : List ℕ). c.in_ok-bytes.field-0.used ≤ length xs) c.left-2.ensures c.in_ok-bytes.ensures.within

pub written-requires : goal.written-requires
written-requires c = omega (arith, ap length c.in_ok-bytes.ensures.bytes, length-take {A = ℕ})

pub returns-then-is_empty : goal.returns-then-is_empty
returns-then-is_empty c =
    let q = c.args.request.now in
    let none = sym c.is_empty.ensures ∙ c.if-is_empty.true in
    record {
      answer = line_ends (argument_address q.shape.arg + 1) (first_byte q.blocks) c.args.self.now (ap (λ (xs : List ℕ). length xs == 0) (sym (c.left.ensures ∙ c.self.view_is)) ∙ none);
      fits = tt;
      memory = tt;
      wanted = tt;
    }
