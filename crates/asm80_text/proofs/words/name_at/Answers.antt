use Rattle.std.proofs.Common.{◌≡◌, ◌∷◌, [], ◌++◌, length, take, refl, sym, ap, ◌∙◌, arith}
use Rattle.std.proofs.lemmas.List.{take_more_set, length-set, length-take-le}
use Rattle.asm80_text.specs.Letters.{word_bytes}
use Rattle.asm80_text.proofs.Names.{is_name}
use Rattle.asm80_text.proofs.Significant.{all_kept, all_past, goes_past, keeps_one, passes_dollar, too_many}
use Rattle.asm80_text.proofs.words.name_at.Goals as goal

pub loop-b-init : goal.loop-b-init
loop-b-init c = record { room = refl; len = omega arith; kept = refl; rest = refl }

pub loop-b-preserved-then-b-eq36 : goal.loop-b-preserved-then-b-eq36
loop-b-preserved-then-b-eq36 c = record {
  room = c.loop-b.invariant.room;
  len = c.loop-b.invariant.len;
  kept = passes_dollar c.args.bytes.now c.loop-b.rest.now c.in-Some.after.now (take c.loop-b.len c.loop-b.kept) c.in-Some.b c.loop-b.invariant.kept c.in-Some.ensures.0 c.in-Some.ensures.1 c.if-b-eq36.true;
  rest = goes_past c.args.bytes.now c.loop-b.rest.now c.in-Some.after.now c.in-Some.b c.loop-b.invariant.rest c.in-Some.ensures.0 c.in-Some.ensures.1;
}

pub returns-then-len-eq16 : goal.returns-then-len-eq16
returns-then-len-eq16 c =
    let more = too_many c.args.bytes.now c.loop-b.rest.now c.in-Some.after.now (take c.loop-b.len c.loop-b.kept) c.in-Some.b c.loop-b.invariant.kept c.in-Some.ensures.0 c.in-Some.ensures.1 c.if-b-eq36.false in
    let kept : length (take c.loop-b.len c.loop-b.kept) ≡ c.loop-b.len = length-take-le c.loop-b.len c.loop-b.kept (omega arith) in
    omega (arith, more, kept)

pub loop-b-preserved : goal.loop-b-preserved
loop-b-preserved c = record {
  room = length-set c.loop-b.kept c.loop-b.len c.upper.result ∙ c.loop-b.invariant.room;
  len = omega arith;
  kept =
      keeps_one c.args.bytes.now c.loop-b.rest.now c.in-Some.after.now (take c.loop-b.len c.loop-b.kept) c.in-Some.b c.loop-b.invariant.kept c.in-Some.ensures.0 c.in-Some.ensures.1 c.if-b-eq36.false
      ∙ ap (λ xs. xs ++ word_bytes c.in-Some.after.now) (ap (λ x. take c.loop-b.len c.loop-b.kept ++ x ∷ []) (sym c.upper.ensures) ∙ sym (take_more_set c.loop-b.kept c.loop-b.len c.upper.result (omega arith)));
  rest = goes_past c.args.bytes.now c.loop-b.rest.now c.in-Some.after.now c.in-Some.b c.loop-b.invariant.rest c.in-Some.ensures.0 c.in-Some.ensures.1;
}

pub of-requires : goal.of-requires
of-requires c =
    let whole = all_kept c.args.bytes.now c.loop-b.rest.now (take c.loop-b.len c.loop-b.kept) c.loop-b.invariant.kept c.in_default.ensures in
    let len : length (take c.loop-b.len c.loop-b.kept) ≡ c.loop-b.len = length-take-le c.loop-b.len c.loop-b.kept (omega arith) in
    rw whole (is_name c.args.bytes.now c.requires (omega (arith, ap length whole, len)))

pub returns : goal.returns
returns c = (
  c.of.ensures ∙ all_kept c.args.bytes.now c.loop-b.rest.now (take c.loop-b.len c.loop-b.kept) c.loop-b.invariant.kept c.in_default.ensures,
  all_past c.args.bytes.now c.loop-b.rest.now c.loop-b.invariant.rest c.in_default.ensures,
)
