use Rattle.std.proofs.Common.{List, All, map, sym, subst, ◌∙◌, Bor}
use Rattle.std.proofs.lemmas.List.{take_all}
use Rattle.std.proofs.lemmas.List.Elements.{All-take}
use Rattle.asm80_types.specs.declared.stmt.Stmt80.{Stmt80}
use Rattle.asm80_types.specs.Tree.{statement_of}
use Rattle.asm80_types.specs.WellFormed.{IsWellFormed, AreWellFormed}
use Rattle.asm80_text.specs.declared.token.Token.{Token}
use Rattle.asm80_text.specs.Tokens.{IsLawful}
use Rattle.asm80_text.specs.Statement.{AreStatements}
use Rattle.asm80_text.proofs.Several.{adds_on, fails_at, nothing_added, targets}
use Rattle.asm80_text.proofs.parts.statements.Goals as goal

pub loop-part-init : goal.loop-part-init
loop-part-init g c = record { so_far = nothing_added g.N.Notation.spelling c.args.line c.args.found.now.items; well_formed = c.requires.well_formed }

pub returns-in-Err-clause-value : goal.returns-in-Err-clause-value
returns-in-Err-clause-value g c =
    fails_at g.N.Notation.spelling c.args.line c.args.parts.now c.loop-part.part-index c.part-item.result c.in-Err.fault c.args.found.now.items c.loop-part.found.items c.add.new.found.items c.truncate.new.self.items c.len-before.result c.loop-part-test.true c.part-item.is c.loop-part.invariant.so_far c.in-Err.ensures.value (c.len-before.ensures ∙ c.args.found.now.ok.0) c.truncate.ensures.items

pub loop-part-preserved : goal.loop-part-preserved
loop-part-preserved g c = record {
  so_far = adds_on g.N.Notation.spelling c.args.line c.args.parts.now c.loop-part.part-index c.part-item.result c.args.found.now.items c.loop-part.found.items c.add.new.found.items c.loop-part-test.true c.part-item.is c.loop-part.invariant.so_far c.in_default.ensures.value;
  well_formed = c.add.ensures.well_formed;
}

pub add-requires-clause-lawful : goal.add-requires-clause-lawful
add-requires-clause-lawful g c =
    let Lawful : Bor (List Token) → Type 0 = λ part. All (IsLawful g.N.Notation.spelling) part.now in
    subst Lawful (sym c.part-item.is) (c.requires.lawful c.loop-part.part-index c.part-item.result c.loop-part-test.true)

pub returns-in-Err-clause-well_formed : goal.returns-in-Err-clause-well_formed
returns-in-Err-clause-well_formed g c =
    subst AreWellFormed (sym c.truncate.ensures.items) (All-take (λ (s : Stmt80). IsWellFormed (statement_of s)) c.len-before.result c.add.new.found.items c.add.ensures.well_formed)

pub returns-clause-value : goal.returns-clause-value
returns-clause-value g c =
    let added = c.loop-part.invariant.so_far in
    let Are : List (Bor (List Token)) → Type 0 = λ parts. AreStatements g.N.Notation.spelling c.args.line (targets parts) (map statement_of added.more) in
    (added.more, added.added, subst Are (take_all _ _ c.loop-part-test.false) added.are)

pub returns-clause-well_formed : goal.returns-clause-well_formed
returns-clause-well_formed g c = c.loop-part.invariant.well_formed
