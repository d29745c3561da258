-- How a line goes on and ends is lemmas of Lines. Searches find which of them ends it, but take long.
use Rattle.std.proofs.Common.{◌≡◌, ◌≢◌, ◌+◌, length, get_or, ◌==◌, false, subst, sym, arith}
use Rattle.std.proofs.lemmas.Bool.{ne_eqb, eq-eqb, not_from_false, not_from_true}
use Rattle.std.proofs.lemmas.Grind.{common_steps}
use Rattle.bdos_small.specs.Console.{is_lf}
use Rattle.bdos_small.proofs.Lines.{Stands, stands_full, stands_done, stands_lf, stands_skipped, stands_kept}
use Rattle.bdos_small.proofs.line.read_line.Goals.{then-byte-ne-CARRIAGE_RETURN+in_ok-push, else-byte-ne-CARRIAGE_RETURN}
use Rattle.bdos_small.proofs.line.read_line.Goals as goal

-- one more byte, kept or not
pub loop-used-preserved : goal.loop-used-preserved
loop-used-preserved c =
    let room = c.args.room in
    let input = c.args.input.now in
    let so_far = c.loop-used.bytes.items in
    let i = c.loop-used.used in
    let b = get_or input i 0 in
    let ne : length so_far ≢ room = λ e. c.if-len-from.false (grind (arith, common_steps)) in
    let other : is_lf b ≡ false = ne_eqb b 10 c.if-byte-eq-LINE_FEED.false in
    let on = c.loop-used.invariant in
    let lt = c.loop-used-test.true in
    elim c.if-byte-ne-CARRIAGE_RETURN.branch [
      | then-byte-ne-CARRIAGE_RETURN+in_ok-push w ↦
          subst (λ bytes. Stands room input bytes.items (i + 1)) (sym w.bytes-is) (subst (λ l. Stands room input l (i + 1)) (sym w.in_ok-push.ensures.items) (stands_kept room input so_far i 0 lt on ne other (not_from_false (b == 13) (ne_eqb b 13 w.if-byte-ne-CARRIAGE_RETURN.true))))
      | else-byte-ne-CARRIAGE_RETURN w ↦
          subst (λ bytes. Stands room input bytes.items (i + 1)) (sym w.bytes-is) (stands_skipped room input so_far i 0 lt on ne other (not_from_true (b == 13) (eq-eqb b 13 w.if-byte-ne-CARRIAGE_RETURN.false)))
    ]

pub returns-then-len-from-clause-bytes : goal.returns-then-len-from-clause-bytes
returns-then-len-from-clause-bytes c =
    let so_far = c.loop-used.bytes.items in
    let full : length so_far ≡ c.args.room = omega (arith, c.loop-used.bytes.ok) in
    (stands_full c.args.room c.args.input.now so_far c.loop-used.used 0 c.loop-used.invariant full).bytes

pub returns-then-byte-eq-LINE_FEED-clause-bytes : goal.returns-then-byte-eq-LINE_FEED-clause-bytes
returns-then-byte-eq-LINE_FEED-clause-bytes c =
    let so_far = c.loop-used.bytes.items in
    let ne : length so_far ≢ c.args.room = λ e. c.if-len-from.false (omega (arith, c.loop-used.bytes.ok)) in
    (stands_lf c.args.room c.args.input.now so_far c.loop-used.used 0 c.loop-used-test.true c.loop-used.invariant ne (eq-eqb (get_or c.args.input.now c.loop-used.used 0) 10 c.if-byte-eq-LINE_FEED.true)).bytes

pub returns-clause-bytes : goal.returns-clause-bytes
returns-clause-bytes c = (stands_done c.args.room c.args.input.now c.loop-used.bytes.items c.loop-used.used 0 c.loop-used.invariant c.loop-used-test.false).bytes

pub returns-then-len-from-clause-left : goal.returns-then-len-from-clause-left
returns-then-len-from-clause-left c =
    let so_far = c.loop-used.bytes.items in
    let full : length so_far ≡ c.args.room = omega (arith, c.loop-used.bytes.ok) in
    (stands_full c.args.room c.args.input.now so_far c.loop-used.used 0 c.loop-used.invariant full).left

pub returns-then-byte-eq-LINE_FEED-clause-left : goal.returns-then-byte-eq-LINE_FEED-clause-left
returns-then-byte-eq-LINE_FEED-clause-left c =
    let so_far = c.loop-used.bytes.items in
    let ne : length so_far ≢ c.args.room = λ e. c.if-len-from.false (omega (arith, c.loop-used.bytes.ok)) in
    (stands_lf c.args.room c.args.input.now so_far c.loop-used.used 0 c.loop-used-test.true c.loop-used.invariant ne (eq-eqb (get_or c.args.input.now c.loop-used.used 0) 10 c.if-byte-eq-LINE_FEED.true)).left

pub returns-clause-left : goal.returns-clause-left
returns-clause-left c = (stands_done c.args.room c.args.input.now c.loop-used.bytes.items c.loop-used.used 0 c.loop-used.invariant c.loop-used-test.false).left
