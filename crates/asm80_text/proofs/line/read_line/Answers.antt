use Rattle.std.proofs.Common.{Result, Ok, Err, List, All, Bor, ◌∙◌, [], refl, ap, sym, subst, ◌∷◌}
use Rattle.std.proofs.lemmas.Bool.{false≢true}
use Rattle.std.proofs.lemmas.Result.{err_from_is_err_and}
use Rattle.std.specs.Prelude.{OnOk}
use Rattle.std.specs.List.{list_any}
use Rattle.std.proofs.lemmas.List.{append-nil}
use Rattle.std.proofs.lemmas.List.Elements.{All-nil, All-push}
use Rattle.asm80_types.specs.declared.fault.ReadFault.{ReadFault}
use Rattle.asm80_text.specs.declared.token.Token.{Token}
use Rattle.asm80_text.specs.Tokens.{IsLawful}
use Rattle.asm80_text.specs.Line.{is_bang, parts_of, late, long, remark}
use Rattle.asm80_text.proofs.Once.{line_from_text}
use Rattle.asm80_text.proofs.Several.{one_part, targets}
use Rattle.asm80_text.proofs.line.read_line.Goals as goal

on_ok_known : {P : Type 0} (r : Result (Unit {0}) ReadFault) → P → OnOk r P
on_ok_known (Ok u) known = known
on_ok_known (Err fault) known = tt

pub returns-then-number-gt-MOST_LINES : goal.returns-then-number-gt-MOST_LINES
returns-then-number-gt-MOST_LINES g c =
    record {
      value = (refl, refl, late c.if-number-gt-MOST_LINES.true);
      few = tt;
      well_formed = c.requires;
    }

pub returns-then-line-gt-LONGEST_LINE : goal.returns-then-line-gt-LONGEST_LINE
returns-then-line-gt-LONGEST_LINE g c =
    record {
      value = (refl, refl, long c.if-number-gt-MOST_LINES.false c.if-line-gt-LONGEST_LINE.true);
      few = tt;
      well_formed = c.requires;
    }

pub returns-then-is_remark : goal.returns-then-is_remark
returns-then-is_remark g c =
    record {
      value = ([], sym (append-nil c.args.found.now.items), remark c.if-number-gt-MOST_LINES.false c.if-line-gt-LONGEST_LINE.false (c.is_remark.ensures.0 c.if-is_remark.true));
      few = c.if-number-gt-MOST_LINES.false;
      well_formed = c.requires;
    }

pub returns-then-has_bang : goal.returns-then-has_bang
returns-then-has_bang g c =
    record {
      value = line_from_text g.N.Notation.spelling c.args.number c.args.line.now c.tokens_of.new.tokens.items _ c.in_ok-fault.fault c.args.found.now.items c.read_text.new.found.items c.read_text.result
          c.if-number-gt-MOST_LINES.false c.if-line-gt-LONGEST_LINE.false (λ remark. false≢true (sym c.if-is_remark.false ∙ c.is_remark.ensures.1 remark)) c.in_ok-fault.ensures.tokens
          (ap targets c.deref-then-has_bang-2.ensures.value ∙ c.in_ok-parts.ensures.parts ∙ ap parts_of c.deref-then-has_bang.ensures.value) c.read_text.ensures.value;
      few = on_ok_known c.read_text.result c.if-number-gt-MOST_LINES.false;
      well_formed = c.read_text.ensures.well_formed;
    }

pub returns : goal.returns
returns g c =
    record {
      value = line_from_text g.N.Notation.spelling c.args.number c.args.line.now c.tokens_of.new.tokens.items _ c.in_ok-fault.fault c.args.found.now.items c.read_text-2.new.found.items c.read_text-2.result
          c.if-number-gt-MOST_LINES.false c.if-line-gt-LONGEST_LINE.false (λ remark. false≢true (sym c.if-is_remark.false ∙ c.is_remark.ensures.1 remark)) c.in_ok-fault.ensures.tokens
          (ap (λ ts. ts ∷ []) c.as_slice.ensures.value ∙ one_part c.tokens_of.new.tokens.items (ap (list_any is_bang) (sym c.deref.ensures.value) ∙ sym c.has_bang.ensures ∙ c.if-has_bang.false)) c.read_text-2.ensures.value;
      few = on_ok_known c.read_text-2.result c.if-number-gt-MOST_LINES.false;
      well_formed = c.read_text-2.ensures.well_formed;
    }

pub read_text-requires-clause-lawful : goal.read_text-requires-clause-lawful
read_text-requires-clause-lawful g c =
    let Lawful : Bor (List Token) → Type 0 = λ part. All (IsLawful g.N.Notation.spelling) part.now in
    subst (All Lawful) (sym c.deref-then-has_bang-2.ensures.value) c.in_ok-parts.ensures.lawful

pub read_text-requires-2-clause-lawful : goal.read_text-requires-2-clause-lawful
read_text-requires-2-clause-lawful g c =
    let Lawful : Bor (List Token) → Type 0 = λ part. All (IsLawful g.N.Notation.spelling) part.now in
    All-push Lawful [] c.as_slice.result (All-nil Lawful) (subst (All (IsLawful g.N.Notation.spelling)) (sym c.as_slice.ensures.value) c.in_ok-fault.ensures.lawful)

pub returns-in_err-fault : goal.returns-in_err-fault
returns-in_err-fault g c =
    let p = err_from_is_err_and c.from_residual.result c.from_residual.ensures.1 in
    record { value = rw (p.1, p.2) tt; few = rw p.1 tt; well_formed = c.requires }

pub returns-in_err-parts : goal.returns-in_err-parts
returns-in_err-parts g c =
    let p = err_from_is_err_and c.from_residual-in_err-parts.result c.from_residual-in_err-parts.ensures.1 in
    record { value = rw (p.1, p.2) tt; few = rw p.1 tt; well_formed = c.requires }
