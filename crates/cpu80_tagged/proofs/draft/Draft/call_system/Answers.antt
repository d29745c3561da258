use Rattle.std.proofs.Common.{◌≡◌, ◌≢◌, ◌∙◌, ℕ, true, false, cond, Option, Some, None, Result, Ok, refl, sym, ap, ◌||◌, ◌==◌, arith}
use Rattle.std.specs.Option.{is_some, option_map}
use Rattle.std.specs.Result.{is_ok}
use Rattle.std.proofs.lemmas.Bool.Decides.{nat_tests}
use Rattle.std.proofs.lemmas.Result.{err_from_is_err_and}
use Rattle.cells.specs.declared.Cell.{Cell}
use Rattle.cells.specs.declared.Cell.TheVariants.{Num}
use Rattle.cells.specs.declared.Rule.{Rule}
use Rattle.cells.specs.declared.Rule.TheVariants.{P9, P12}
use Rattle.dialogue.specs.Table.{row_of, laid_out}
use Rattle.dialogue.specs.Shape.{shape_of}
use Rattle.dialogue.specs.Run.{Ends, Stops}
use Rattle.asm80_types.specs.Program.{Program}
use Rattle.cpu80_tagged.specs.State.{State80, num_of}
use Rattle.cpu80_tagged.specs.Call.{Return, is_just_below, seen_by_tagged, ask, ask_after, call_by, call_system}
use Rattle.cpu80_tagged.specs.Draft.{state_of_draft}
use Rattle.cpu80_tagged.specs.Turn.{returns_in, return_of_turn, shape_at}
use Rattle.cpu80_tagged.proofs.draft.Draft.call_system.Goals as goal

in_table : {A B : Type 0} (f : A → B) (o : Option A) (r : Option B) → r ≡ option_map f o → is_some r ≡ true → is_some o ≡ true
in_table f None r e t = ap is_some (sym e) ∙ t
in_table f (Some x) r e t = refl

no_reset : (v : Cell) (n : ℕ) → v ≡ Num n → n ≢ 0 → num_of v ≡ Some 0 → ⊥
no_reset v n e more z = more (let same : Some n ≡ Some 0 = sym (ap num_of e) ∙ z in cc)

-- a call of a function of the table other than 0, by its return
called : (p : Program) (s : State80) (back : Result Return Rule) (n : ℕ) → s.regs.c ≡ Num n → is_some (row_of n) ≡ true → n ≢ 0 → ask_after p s n back ≡ call_system p s back
called p s back n e row more =
    let zero : (n == 0) ≡ false = grind (arith, nat_tests) in
    sym (ap (λ v. call_by p s back (num_of v)) e ∙ ap (λ b. cond b (cond (n == 0) Ends (ask_after p s n back)) (Stops P9)) row ∙ ap (λ b. cond b Ends (ask_after p s n back)) zero)

-- it asks by its shape where SP leaves the word at 6 alone
asks : (p : Program) (s : State80) (n : ℕ) (back : Return) → s.regs.c ≡ Num n → is_just_below s.sp 6 ≡ false → is_just_below s.sp 7 ≡ false → ask p s back.is_popped (shape_at p s back.is_popped) ≡ ask_after p s n (Ok back)
asks p s n back e six seven =
    ap (λ v. ask p s back.is_popped (shape_of (num_of v) (num_of s.regs.d) (num_of s.regs.e) s.dma (seen_by_tagged p s back.is_popped))) e
    ∙ sym (ap (λ b. cond (b || is_just_below s.sp 7) (Stops P12) (ask p s back.is_popped (shape_of (Some n) (num_of s.regs.d) (num_of s.regs.e) s.dma (seen_by_tagged p s back.is_popped)))) six
    ∙ ap (λ b. cond b (Stops P12) (ask p s back.is_popped (shape_of (Some n) (num_of s.regs.d) (num_of s.regs.e) s.dma (seen_by_tagged p s back.is_popped)))) seven)

pub returns-in_err-back : goal.returns-in_err-back
returns-in_err-back c =
    let p = c.args.area.now.program.now in
    let s = state_of_draft c.args.self.now in
    let function = c.in-Num.function in
    let row = in_table laid_out (row_of function) c.row_of.result c.row_of.ensures.row c.if-is_none.ensures in
    let e = err_from_is_err_and c.from_residual.result c.from_residual.ensures.1 in
    record {
      answer = rw (e.1, e.2) (ap (λ b. ask_after p s function (returns_in b)) (sym c.in_err-back.was)
          ∙ called p s (returns_in c.args.back) function c.in-Num.is row c.if-function-eq-SYSTEM_RESET.false);
      asking = rw e.1 tt;
    }

pub returns-in_err-shape : goal.returns-in_err-shape
returns-in_err-shape c =
    let p = c.args.area.now.program.now in
    let s = state_of_draft c.args.self.now in
    let function = c.in-Num.function in
    let row = in_table laid_out (row_of function) c.row_of.result c.row_of.ensures.row c.if-is_none.ensures in
    let e = err_from_is_err_and c.from_residual-in_err-shape.result c.from_residual-in_err-shape.ensures.1 in
    record {
      answer = rw (e.1, e.2) (ap (ask p s c.in_ok-back.back.is_popped) c.in_err-shape.ensures
          ∙ asks p s function (return_of_turn c.in_ok-back.back) c.in-Num.is (sym c.is_just_below.ensures ∙ c.if-is_just_below.false) (sym c.is_just_below-else-is_just_below.ensures ∙ c.if-is_just_below-2.false)
          ∙ ap (λ b. ask_after p s function (returns_in b)) (sym c.in_ok-back.was)
          ∙ called p s (returns_in c.args.back) function c.in-Num.is row c.if-function-eq-SYSTEM_RESET.false);
      asking = rw e.1 tt;
    }

pub returns : goal.returns
returns c =
    let p = c.args.area.now.program.now in
    let s = state_of_draft c.args.self.now in
    let function = c.in-Num.function in
    let row = in_table laid_out (row_of function) c.row_of.result c.row_of.ensures.row c.if-is_none.ensures in
    record {
      answer =
          asks p s function (return_of_turn c.in_ok-back.back) c.in-Num.is (sym c.is_just_below.ensures ∙ c.if-is_just_below.false) (sym c.is_just_below-else-is_just_below.ensures ∙ c.if-is_just_below-2.false)
          ∙ ap (λ b. ask_after p s function (returns_in b)) (sym c.in_ok-back.was)
          ∙ called p s (returns_in c.args.back) function c.in-Num.is row c.if-function-eq-SYSTEM_RESET.false;
      asking = (ap returns_in c.in_ok-back.was, (ap is_ok (sym c.in_ok-shape.ensures), no_reset s.regs.c function c.in-Num.is c.if-function-eq-SYSTEM_RESET.false));
    }
