-- Nothing is known of the registers, and no action stands: written out, which saves a long search.
use Rattle.std.proofs.Common.{◌≡◌, ◌∙◌, ◌≤◌, List, [], length, ap, subst, sym, arith}
use Rattle.cells.specs.declared.Part.TheVariants.{Cy as PartCy}
use Rattle.sym_terms.specs.Term.{is_bit, is_byte, is_word, leaves_flag}
use Rattle.sym_terms.specs.Laws.{IsMadeAs}
use Rattle.sym_terms.specs.Trees.{tree_in}
use Rattle.sym_micro.specs.declared.outcome.Action.{Action as ActionId}
use Rattle.sym_micro.specs.Stands.{trees_of_actions, ActionsAreGiven}
use Rattle.sym_micro.proofs.starting.clear.Goals as goal

none_yet : (xs : List ActionId) → xs ≡ [] → (0 ≤ length xs) × (length xs ≤ 512)
none_yet xs empty = let none : length xs ≡ 0 = ap length empty in (omega arith, omega arith)

pub returns : goal.returns
returns c =
    let pool = c.args.terms.now in
    let actions = c.clear.new.self.items in
    let empty = c.clear.ensures.items in
    let given = c.requires.unknown.0 in
    let is = c.requires.unknown.1 in
    let made = c.requires.terms.made c.args.unknown given in
    let bit : IsMadeAs is_bit (tree_in pool c.args.unknown) = (made, ap is_bit is) in
    let byte : IsMadeAs is_byte (tree_in pool c.args.unknown) = (made, ap is_byte is) in
    let word : IsMadeAs is_word (tree_in pool c.args.unknown) = (made, ap is_word is) in
    let same_trace = ap (trees_of_actions pool) empty in
    record {
      ready = record {
        terms = c.requires.terms;
        given = record { held = record { a = given; b = given; c = given; d = given; e = given; h = given; l = given; s = given; z = given; ac = given; p = given; cy = given }; ah = given; si = given; sp = given; t = given; u = given; v = given; w = given; x = given; result = given; turned = given; actions = subst (ActionsAreGiven pool) (sym empty) tt };
        sorted = record {
          held = record { a = byte; b = byte; c = byte; d = byte; e = byte; h = byte; l = byte; s = bit; z = bit; ac = bit; p = bit; cy = bit };
          ah = byte;
          si = word;
          sp = word;
          t = byte;
          u = byte;
          v = word;
          w = word;
          x = word;
          result = record { byte = byte; leaves = λ part flag. ap (leaves_flag part) is ∙ flag };
          turned = record { byte = byte; leaves = ap (leaves_flag PartCy) is };
        };
        capacity = c.clear.ensures.capacity ∙ c.requires.capacity;
        few = (none_yet actions empty).0;
        room = (none_yet actions empty).1;
      };
      machine = λ i. record {
        held = record { a = is i; b = is i; c = is i; d = is i; e = is i; h = is i; l = is i; s = is i; z = is i; ac = is i; p = is i; cy = is i };
        ah = is i;
        si = is i;
        sp = is i;
        t = is i;
        u = is i;
        v = is i;
        w = is i;
        x = is i;
        result = is i;
        turned = is i;
        trace = record { actions = same_trace i; loads = 0 };
      };
      empty = empty;
    }
