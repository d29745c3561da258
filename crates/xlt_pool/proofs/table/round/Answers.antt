use Rattle.std.proofs.Common.{◌≡◌, ◌+◌, ◌-◌, ◌%◌, ◌<◌, ap, sym, ◌∙◌, arith}
use Rattle.std.proofs.Math.Nat.{add-mod_right, mod-eq_of_lt}
use Rattle.xlt_pool.proofs.table.round.Goals as goal

pub returns-then-distance-slots-clause-value : goal.returns-then-distance-slots-clause-value
returns-then-distance-slots-clause-value c = sym (mod-eq_of_lt (let near : c.args.home + c.args.distance < c.args.slots = omega (arith, c.if-distance-slots.true, c.requires.home) in near))

pub returns-else-distance-slots-clause-value : goal.returns-else-distance-slots-clause-value
returns-else-distance-slots-clause-value c =
    let home = c.args.home in
    let distance = c.args.distance in
    let slots = c.args.slots in
    let at = distance - (slots - home) in
    let within : distance - (slots - home) < slots = omega (arith, c.requires.distance) in
    let sum : home + distance ≡ distance - (slots - home) + slots = omega (arith, c.if-distance-slots.false, c.requires.home) in
    sym (ap (λ n. n % slots) sum ∙ add-mod_right at slots ∙ mod-eq_of_lt within)
