-- A run that goes on: its ids stand for what they stood for, and a register more has an id.
use Rattle.std.proofs.Common.{◌≡◌, ℕ, suc, ◌+◌, ◌≤◌, ◌<◌, List, [], ◌∷◌, ◌++◌, length, Option, Some, None, refl, sym, ap, ap₂, subst, ◌∙◌, arith, lit≤, length-append}
use Rattle.std.specs.Vec.{vec_capacity}
use Rattle.i80.specs.declared.Reg.{Reg as Register}
use Rattle.i80.specs.declared.Reg.TheVariants.{A as RegA, B as RegB, C as RegC, D as RegD, E as RegE, H as RegH, L as RegL}
use Rattle.i86.specs.declared.Reg8.TheVariants.{Al, Cl, Dl, Bl, Ah, Ch, Dh, Bh}
use Rattle.xlt_pool.specs.Contents.{Contents}
use Rattle.sym_terms.specs.declared.head.Term.{Term as TermId}
use Rattle.sym_terms.specs.Term.{Term, is_bit, is_byte, is_word}
use Rattle.sym_terms.specs.Laws.{IsMadeAs}
use Rattle.sym_terms.specs.Trees.{tree_in, IsGiven, IsA, AreTerms, PoolGrows, Makes}
use Rattle.sym_terms.proofs.Interning.{still, more, then_grows}
use Rattle.sym_block_def.specs.Outcome.{Action}
use Rattle.sym_micro.specs.declared.outcome.Action.{Action as ActionId}
use Rattle.sym_micro.specs.declared.outcome.Action.TheVariants.{Load8 as Load8Id, Load16 as Load16Id, Store8 as Store8Id, Store16 as Store16Id}
use Rattle.sym_micro.specs.declared.outcome.Held.{Held as HeldIds}
use Rattle.sym_micro.specs.declared.run.Run.{Run}
use Rattle.sym_micro.specs.declared.micro.ByteSlot.{ByteSlot}
use Rattle.sym_micro.specs.declared.micro.ByteSlot.TheVariants.{Of80 as Byte80, Of86 as Byte86, T, U}
use Rattle.sym_micro.specs.declared.micro.FlagSlot.{FlagSlot}
use Rattle.sym_micro.specs.declared.micro.FlagSlot.TheVariants.{S, Z, Ac, P, Cy}
use Rattle.sym_micro.specs.declared.micro.WordSlot.{WordSlot}
use Rattle.sym_micro.specs.declared.micro.WordSlot.TheVariants.{V, W, X}
use Rattle.sym_micro.specs.Machine.{Machine, byte_in, with_byte, word_in, with_word, with_flag}
use Rattle.sym_micro.specs.Stands.{id_of_reg, id_of_byte, id_of_word, run_with_reg, run_with_byte, run_with_word, run_with_flag, trees_of_held, tree_of_action, trees_of_actions, machine_of, HeldIsGiven, ActionIsGiven, ActionsAreGiven, RunIsGiven, IsResult, IsTurned, IsSorted, IsReady, GoesOn, Gives, Runs}
use Rattle.sym_micro.proofs.Sorted.{byte_sorted, with_byte_sorted, with_word_sorted, with_flag_sorted, with_result_sorted, with_turned_sorted}

module _ (old new : Contents) (n : ℕ) (g : PoolGrows old new n) where
  given_still : (t : TermId) → IsGiven old t → IsGiven new t
  given_still t h = (g.kept t h).0

  same_tree : (t : TermId) → IsGiven old t → tree_in new t ≡ tree_in old t
  same_tree t h = (g.kept t h).1

  held_given : (x : HeldIds) → HeldIsGiven old x → HeldIsGiven new x
  held_given x h = record {
    a = given_still x.a h.a;
    b = given_still x.b h.b;
    c = given_still x.c h.c;
    d = given_still x.d h.d;
    e = given_still x.e h.e;
    h = given_still x.h h.h;
    l = given_still x.l h.l;
    s = given_still x.s h.s;
    z = given_still x.z h.z;
    ac = given_still x.ac h.ac;
    p = given_still x.p h.p;
    cy = given_still x.cy h.cy;
  }

  action_given : (x : ActionId) → ActionIsGiven old x → ActionIsGiven new x
  action_given (Load8Id a) h = given_still a h
  action_given (Load16Id a) h = given_still a h
  action_given (Store8Id a v) h = (given_still a h.0, given_still v h.1)
  action_given (Store16Id a v) h = (given_still a h.0, given_still v h.1)

  pub actions_given : (xs : List ActionId) → ActionsAreGiven old xs → ActionsAreGiven new xs
  actions_given [] h = tt
  actions_given (x ∷ xs) h = (action_given x h.0, actions_given xs h.1)

  pub run_given : (r : Run) → RunIsGiven old r → RunIsGiven new r
  run_given r h = record {
    held = held_given r.held h.held;
    ah = given_still r.ah h.ah;
    si = given_still r.si h.si;
    sp = given_still r.sp h.sp;
    t = given_still r.t h.t;
    u = given_still r.u h.u;
    v = given_still r.v h.v;
    w = given_still r.w h.w;
    x = given_still r.x h.x;
    result = given_still r.result h.result;
    turned = given_still r.turned h.turned;
    actions = actions_given r.actions.items h.actions;
  }

  same_held : (x : HeldIds) → HeldIsGiven old x → trees_of_held new x ≡ trees_of_held old x
  same_held x h = λ i. record {
    a = same_tree x.a h.a i;
    b = same_tree x.b h.b i;
    c = same_tree x.c h.c i;
    d = same_tree x.d h.d i;
    e = same_tree x.e h.e i;
    h = same_tree x.h h.h i;
    l = same_tree x.l h.l i;
    s = same_tree x.s h.s i;
    z = same_tree x.z h.z i;
    ac = same_tree x.ac h.ac i;
    p = same_tree x.p h.p i;
    cy = same_tree x.cy h.cy i;
  }

  same_action : (x : ActionId) → ActionIsGiven old x → tree_of_action new x ≡ tree_of_action old x
  same_action (Load8Id a) h = λ i. Action.Load8 (same_tree a h i)
  same_action (Load16Id a) h = λ i. Action.Load16 (same_tree a h i)
  same_action (Store8Id a v) h = λ i. Action.Store8 (same_tree a h.0 i) (same_tree v h.1 i)
  same_action (Store16Id a v) h = λ i. Action.Store16 (same_tree a h.0 i) (same_tree v h.1 i)

  pub same_actions : (xs : List ActionId) → ActionsAreGiven old xs → trees_of_actions new xs ≡ trees_of_actions old xs
  same_actions [] h = refl
  same_actions (x ∷ xs) h = ap₂ ◌∷◌ (same_action x h.0) (same_actions xs h.1)

  pub same_machine : (r : Run) → RunIsGiven old r → machine_of new r ≡ machine_of old r
  same_machine r h = λ i. record {
    held = same_held r.held h.held i;
    ah = same_tree r.ah h.ah i;
    si = same_tree r.si h.si i;
    sp = same_tree r.sp h.sp i;
    t = same_tree r.t h.t i;
    u = same_tree r.u h.u i;
    v = same_tree r.v h.v i;
    w = same_tree r.w h.w i;
    x = same_tree r.x h.x i;
    result = same_tree r.result h.result i;
    turned = same_tree r.turned h.turned i;
    trace = record { actions = same_actions r.actions.items h.actions i; loads = r.loads };
  }

  -- what was ready is ready still
  pub ready_still : (r : Run) → AreTerms new → IsReady old r → IsReady new r
  ready_still r terms h = record {
    terms = terms;
    given = run_given r h.given;
    sorted = subst IsSorted (sym (same_machine r h.given)) h.sorted;
    capacity = h.capacity;
    few = h.few;
    room = h.room;
  }

-- A register more has an id: no load or store joins.
gave_to : (old new : Contents) (r s : Run) (n : ℕ) (tree : Term) (t : TermId) (put : Machine → Term → Machine) → s.actions ≡ r.actions → s.loads ≡ r.loads → machine_of new s ≡ put (machine_of new r) (tree_in new t) → (RunIsGiven new r → IsGiven new t → RunIsGiven new s) → (IsSorted (machine_of new r) → IsSorted (put (machine_of new r) (tree_in new t))) → IsReady old r → Gives old new n tree (Some t) → GoesOn old new r s n 0 (λ m. m ≡ put (machine_of old r) tree) (Some tt)
gave_to old new r s n tree t put actions loads is given sorted h g =
    let before : IsReady new r = ready_still old new n g.grows r g.terms h in
    let same_length : length s.actions.items ≡ length r.actions.items = ap (λ a. length a.items) actions in
    let few : r.loads ≤ length r.actions.items = h.few in
    let room : length r.actions.items ≤ 512 = h.room in
    record {
      grows = g.grows;
      ready = record {
        terms = g.terms;
        given = given before.given g.gives.0;
        sorted = subst IsSorted (sym is) (sorted before.sorted);
        capacity = ap vec_capacity actions ∙ h.capacity;
        few = omega arith;
        room = omega arith;
      };
      few = omega arith;
      gives = is ∙ ap₂ put (same_machine old new n g.grows r h.given) g.gives.1;
      enough = λ _. refl;
    }

-- Byte registers

reg_given : (pool : Contents) (r : Run) (reg : Register) (t : TermId) → RunIsGiven pool r → IsGiven pool t → RunIsGiven pool (run_with_reg r reg t)
reg_given pool r RegA t h q = record { held = record { a = q; b = h.held.b; c = h.held.c; d = h.held.d; e = h.held.e; h = h.held.h; l = h.held.l; s = h.held.s; z = h.held.z; ac = h.held.ac; p = h.held.p; cy = h.held.cy }; ah = h.ah; si = h.si; sp = h.sp; t = h.t; u = h.u; v = h.v; w = h.w; x = h.x; result = h.result; turned = h.turned; actions = h.actions }
reg_given pool r RegB t h q = record { held = record { a = h.held.a; b = q; c = h.held.c; d = h.held.d; e = h.held.e; h = h.held.h; l = h.held.l; s = h.held.s; z = h.held.z; ac = h.held.ac; p = h.held.p; cy = h.held.cy }; ah = h.ah; si = h.si; sp = h.sp; t = h.t; u = h.u; v = h.v; w = h.w; x = h.x; result = h.result; turned = h.turned; actions = h.actions }
reg_given pool r RegC t h q = record { held = record { a = h.held.a; b = h.held.b; c = q; d = h.held.d; e = h.held.e; h = h.held.h; l = h.held.l; s = h.held.s; z = h.held.z; ac = h.held.ac; p = h.held.p; cy = h.held.cy }; ah = h.ah; si = h.si; sp = h.sp; t = h.t; u = h.u; v = h.v; w = h.w; x = h.x; result = h.result; turned = h.turned; actions = h.actions }
reg_given pool r RegD t h q = record { held = record { a = h.held.a; b = h.held.b; c = h.held.c; d = q; e = h.held.e; h = h.held.h; l = h.held.l; s = h.held.s; z = h.held.z; ac = h.held.ac; p = h.held.p; cy = h.held.cy }; ah = h.ah; si = h.si; sp = h.sp; t = h.t; u = h.u; v = h.v; w = h.w; x = h.x; result = h.result; turned = h.turned; actions = h.actions }
reg_given pool r RegE t h q = record { held = record { a = h.held.a; b = h.held.b; c = h.held.c; d = h.held.d; e = q; h = h.held.h; l = h.held.l; s = h.held.s; z = h.held.z; ac = h.held.ac; p = h.held.p; cy = h.held.cy }; ah = h.ah; si = h.si; sp = h.sp; t = h.t; u = h.u; v = h.v; w = h.w; x = h.x; result = h.result; turned = h.turned; actions = h.actions }
reg_given pool r RegH t h q = record { held = record { a = h.held.a; b = h.held.b; c = h.held.c; d = h.held.d; e = h.held.e; h = q; l = h.held.l; s = h.held.s; z = h.held.z; ac = h.held.ac; p = h.held.p; cy = h.held.cy }; ah = h.ah; si = h.si; sp = h.sp; t = h.t; u = h.u; v = h.v; w = h.w; x = h.x; result = h.result; turned = h.turned; actions = h.actions }
reg_given pool r RegL t h q = record { held = record { a = h.held.a; b = h.held.b; c = h.held.c; d = h.held.d; e = h.held.e; h = h.held.h; l = q; s = h.held.s; z = h.held.z; ac = h.held.ac; p = h.held.p; cy = h.held.cy }; ah = h.ah; si = h.si; sp = h.sp; t = h.t; u = h.u; v = h.v; w = h.w; x = h.x; result = h.result; turned = h.turned; actions = h.actions }

pub byte_given : (pool : Contents) (r : Run) (slot : ByteSlot) (t : TermId) → RunIsGiven pool r → IsGiven pool t → RunIsGiven pool (run_with_byte r slot t)
byte_given pool r (Byte80 reg) t h q = reg_given pool r reg t h q
byte_given pool r (Byte86 Ah) t h q = record { held = h.held; ah = q; si = h.si; sp = h.sp; t = h.t; u = h.u; v = h.v; w = h.w; x = h.x; result = h.result; turned = h.turned; actions = h.actions }
byte_given pool r (Byte86 Al) t h q = reg_given pool r RegA t h q
byte_given pool r (Byte86 Cl) t h q = reg_given pool r RegC t h q
byte_given pool r (Byte86 Dl) t h q = reg_given pool r RegE t h q
byte_given pool r (Byte86 Bl) t h q = reg_given pool r RegL t h q
byte_given pool r (Byte86 Ch) t h q = reg_given pool r RegB t h q
byte_given pool r (Byte86 Dh) t h q = reg_given pool r RegD t h q
byte_given pool r (Byte86 Bh) t h q = reg_given pool r RegH t h q
byte_given pool r T t h q = record { held = h.held; ah = h.ah; si = h.si; sp = h.sp; t = q; u = h.u; v = h.v; w = h.w; x = h.x; result = h.result; turned = h.turned; actions = h.actions }
byte_given pool r U t h q = record { held = h.held; ah = h.ah; si = h.si; sp = h.sp; t = h.t; u = q; v = h.v; w = h.w; x = h.x; result = h.result; turned = h.turned; actions = h.actions }

pub byte_machine : (pool : Contents) (r : Run) (slot : ByteSlot) (t : TermId) → machine_of pool (run_with_byte r slot t) ≡ with_byte (machine_of pool r) slot (tree_in pool t)
byte_machine pool r (Byte80 RegA) t = refl
byte_machine pool r (Byte80 RegB) t = refl
byte_machine pool r (Byte80 RegC) t = refl
byte_machine pool r (Byte80 RegD) t = refl
byte_machine pool r (Byte80 RegE) t = refl
byte_machine pool r (Byte80 RegH) t = refl
byte_machine pool r (Byte80 RegL) t = refl
byte_machine pool r (Byte86 Al) t = refl
byte_machine pool r (Byte86 Cl) t = refl
byte_machine pool r (Byte86 Dl) t = refl
byte_machine pool r (Byte86 Bl) t = refl
byte_machine pool r (Byte86 Ah) t = refl
byte_machine pool r (Byte86 Ch) t = refl
byte_machine pool r (Byte86 Dh) t = refl
byte_machine pool r (Byte86 Bh) t = refl
byte_machine pool r T t = refl
byte_machine pool r U t = refl

byte_trace : (r : Run) (slot : ByteSlot) (t : TermId) → ((run_with_byte r slot t).actions ≡ r.actions) × ((run_with_byte r slot t).loads ≡ r.loads)
byte_trace r (Byte80 RegA) t = (refl, refl)
byte_trace r (Byte80 RegB) t = (refl, refl)
byte_trace r (Byte80 RegC) t = (refl, refl)
byte_trace r (Byte80 RegD) t = (refl, refl)
byte_trace r (Byte80 RegE) t = (refl, refl)
byte_trace r (Byte80 RegH) t = (refl, refl)
byte_trace r (Byte80 RegL) t = (refl, refl)
byte_trace r (Byte86 Al) t = (refl, refl)
byte_trace r (Byte86 Cl) t = (refl, refl)
byte_trace r (Byte86 Dl) t = (refl, refl)
byte_trace r (Byte86 Bl) t = (refl, refl)
byte_trace r (Byte86 Ah) t = (refl, refl)
byte_trace r (Byte86 Ch) t = (refl, refl)
byte_trace r (Byte86 Dh) t = (refl, refl)
byte_trace r (Byte86 Bh) t = (refl, refl)
byte_trace r T t = (refl, refl)
byte_trace r U t = (refl, refl)

pub gave_byte : (old new : Contents) (r : Run) (slot : ByteSlot) (n : ℕ) (tree : Term) (t : TermId) → IsReady old r → Gives old new n tree (Some t) → IsMadeAs is_byte tree → GoesOn old new r (run_with_byte r slot t) n 0 (λ m. m ≡ with_byte (machine_of old r) slot tree) (Some tt)
gave_byte old new r slot n tree t h g s =
    gave_to old new r (run_with_byte r slot t) n tree t (λ m q. with_byte m slot q) (byte_trace r slot t).0 (byte_trace r slot t).1 (byte_machine new r slot t)
    (byte_given new r slot t) (λ k. with_byte_sorted (machine_of new r) slot (tree_in new t) k (subst (IsMadeAs is_byte) (sym g.gives.1) s)) h g

-- Word registers

pub word_given : (pool : Contents) (r : Run) (slot : WordSlot) (t : TermId) → RunIsGiven pool r → IsGiven pool t → RunIsGiven pool (run_with_word r slot t)
word_given pool r V t h q = record { held = h.held; ah = h.ah; si = h.si; sp = h.sp; t = h.t; u = h.u; v = q; w = h.w; x = h.x; result = h.result; turned = h.turned; actions = h.actions }
word_given pool r W t h q = record { held = h.held; ah = h.ah; si = h.si; sp = h.sp; t = h.t; u = h.u; v = h.v; w = q; x = h.x; result = h.result; turned = h.turned; actions = h.actions }
word_given pool r X t h q = record { held = h.held; ah = h.ah; si = h.si; sp = h.sp; t = h.t; u = h.u; v = h.v; w = h.w; x = q; result = h.result; turned = h.turned; actions = h.actions }

pub word_machine : (pool : Contents) (r : Run) (slot : WordSlot) (t : TermId) → machine_of pool (run_with_word r slot t) ≡ with_word (machine_of pool r) slot (tree_in pool t)
word_machine pool r V t = refl
word_machine pool r W t = refl
word_machine pool r X t = refl

word_trace : (r : Run) (slot : WordSlot) (t : TermId) → ((run_with_word r slot t).actions ≡ r.actions) × ((run_with_word r slot t).loads ≡ r.loads)
word_trace r V t = (refl, refl)
word_trace r W t = (refl, refl)
word_trace r X t = (refl, refl)

pub gave_word : (old new : Contents) (r : Run) (slot : WordSlot) (n : ℕ) (tree : Term) (t : TermId) → IsReady old r → Gives old new n tree (Some t) → IsMadeAs is_word tree → GoesOn old new r (run_with_word r slot t) n 0 (λ m. m ≡ with_word (machine_of old r) slot tree) (Some tt)
gave_word old new r slot n tree t h g s =
    gave_to old new r (run_with_word r slot t) n tree t (λ m q. with_word m slot q) (word_trace r slot t).0 (word_trace r slot t).1 (word_machine new r slot t)
    (word_given new r slot t) (λ k. with_word_sorted (machine_of new r) slot (tree_in new t) k (subst (IsMadeAs is_word) (sym g.gives.1) s)) h g

-- Flag registers

pub flag_given : (pool : Contents) (r : Run) (slot : FlagSlot) (t : TermId) → RunIsGiven pool r → IsGiven pool t → RunIsGiven pool (run_with_flag r slot t)
flag_given pool r S t h q = record { held = record { a = h.held.a; b = h.held.b; c = h.held.c; d = h.held.d; e = h.held.e; h = h.held.h; l = h.held.l; s = q; z = h.held.z; ac = h.held.ac; p = h.held.p; cy = h.held.cy }; ah = h.ah; si = h.si; sp = h.sp; t = h.t; u = h.u; v = h.v; w = h.w; x = h.x; result = h.result; turned = h.turned; actions = h.actions }
flag_given pool r Z t h q = record { held = record { a = h.held.a; b = h.held.b; c = h.held.c; d = h.held.d; e = h.held.e; h = h.held.h; l = h.held.l; s = h.held.s; z = q; ac = h.held.ac; p = h.held.p; cy = h.held.cy }; ah = h.ah; si = h.si; sp = h.sp; t = h.t; u = h.u; v = h.v; w = h.w; x = h.x; result = h.result; turned = h.turned; actions = h.actions }
flag_given pool r Ac t h q = record { held = record { a = h.held.a; b = h.held.b; c = h.held.c; d = h.held.d; e = h.held.e; h = h.held.h; l = h.held.l; s = h.held.s; z = h.held.z; ac = q; p = h.held.p; cy = h.held.cy }; ah = h.ah; si = h.si; sp = h.sp; t = h.t; u = h.u; v = h.v; w = h.w; x = h.x; result = h.result; turned = h.turned; actions = h.actions }
flag_given pool r P t h q = record { held = record { a = h.held.a; b = h.held.b; c = h.held.c; d = h.held.d; e = h.held.e; h = h.held.h; l = h.held.l; s = h.held.s; z = h.held.z; ac = h.held.ac; p = q; cy = h.held.cy }; ah = h.ah; si = h.si; sp = h.sp; t = h.t; u = h.u; v = h.v; w = h.w; x = h.x; result = h.result; turned = h.turned; actions = h.actions }
flag_given pool r Cy t h q = record { held = record { a = h.held.a; b = h.held.b; c = h.held.c; d = h.held.d; e = h.held.e; h = h.held.h; l = h.held.l; s = h.held.s; z = h.held.z; ac = h.held.ac; p = h.held.p; cy = q }; ah = h.ah; si = h.si; sp = h.sp; t = h.t; u = h.u; v = h.v; w = h.w; x = h.x; result = h.result; turned = h.turned; actions = h.actions }

pub flag_machine : (pool : Contents) (r : Run) (slot : FlagSlot) (t : TermId) → machine_of pool (run_with_flag r slot t) ≡ with_flag (machine_of pool r) slot (tree_in pool t)
flag_machine pool r S t = refl
flag_machine pool r Z t = refl
flag_machine pool r Ac t = refl
flag_machine pool r P t = refl
flag_machine pool r Cy t = refl

flag_trace : (r : Run) (slot : FlagSlot) (t : TermId) → ((run_with_flag r slot t).actions ≡ r.actions) × ((run_with_flag r slot t).loads ≡ r.loads)
flag_trace r S t = (refl, refl)
flag_trace r Z t = (refl, refl)
flag_trace r Ac t = (refl, refl)
flag_trace r P t = (refl, refl)
flag_trace r Cy t = (refl, refl)

pub gave_flag : (old new : Contents) (r : Run) (slot : FlagSlot) (n : ℕ) (tree : Term) (t : TermId) → IsReady old r → Gives old new n tree (Some t) → IsMadeAs is_bit tree → GoesOn old new r (run_with_flag r slot t) n 0 (λ m. m ≡ with_flag (machine_of old r) slot tree) (Some tt)
gave_flag old new r slot n tree t h g s =
    gave_to old new r (run_with_flag r slot t) n tree t (λ m q. with_flag m slot q) (flag_trace r slot t).0 (flag_trace r slot t).1 (flag_machine new r slot t)
    (flag_given new r slot t) (λ k. with_flag_sorted (machine_of new r) slot (tree_in new t) k (subst (IsMadeAs is_bit) (sym g.gives.1) s)) h g

pub gave_result : (old new : Contents) (r : Run) (n : ℕ) (tree : Term) (t : TermId) → IsReady old r → Gives old new n tree (Some t) → IsResult tree → GoesOn old new r (record r { result = t }) n 0 (λ m. m ≡ record (machine_of old r) { result = tree }) (Some tt)
gave_result old new r n tree t h g s =
    gave_to old new r (record r { result = t }) n tree t (λ m q. record m { result = q }) refl refl refl
    with_given (λ k. with_result_sorted (machine_of new r) (tree_in new t) k (subst IsResult (sym g.gives.1) s)) h g
  where
    with_given : RunIsGiven new r → IsGiven new t → RunIsGiven new (record r { result = t })
    with_given h q = record { held = h.held; ah = h.ah; si = h.si; sp = h.sp; t = h.t; u = h.u; v = h.v; w = h.w; x = h.x; result = q; turned = h.turned; actions = h.actions }

pub gave_turned : (old new : Contents) (r : Run) (n : ℕ) (tree : Term) (t : TermId) → IsReady old r → Gives old new n tree (Some t) → IsTurned tree → GoesOn old new r (record r { turned = t }) n 0 (λ m. m ≡ record (machine_of old r) { turned = tree }) (Some tt)
gave_turned old new r n tree t h g s =
    gave_to old new r (record r { turned = t }) n tree t (λ m q. record m { turned = q }) refl refl refl
    with_given (λ k. with_turned_sorted (machine_of new r) (tree_in new t) k (subst IsTurned (sym g.gives.1) s)) h g
  where
    with_given : RunIsGiven new r → IsGiven new t → RunIsGiven new (record r { turned = t })
    with_given h q = record { held = h.held; ah = h.ah; si = h.si; sp = h.sp; t = h.t; u = h.u; v = h.v; w = h.w; x = h.x; result = h.result; turned = q; actions = h.actions }

-- terms one after another

pub gives_of : (old new : Contents) (n : ℕ) (tree : Term) (made : Option TermId) → Makes old new n tree made → Gives old new n tree made
gives_of old new n tree None m = record { grows = m.grows; gives = m.gives.full; enough = m.room; terms = m.terms }
gives_of old new n tree (Some t) m = record { grows = m.grows; gives = m.gives; enough = m.room; terms = m.terms }

pub then_gives : (old mid new : Contents) (j k : ℕ) (tree : Term) (made : Option TermId) → PoolGrows old mid j → Gives mid new k tree made → Gives old new (j + k) tree made
then_gives old mid new j k tree made g m = record {
  grows = then_grows old mid new j k g m.grows;
  gives = m.gives;
  enough = λ h.
      let few : length g.added ≤ j = g.few in
      let spare : mid.spare + length g.added ≡ old.spare = g.spare in
      m.enough (omega arith);
  terms = m.terms;
}

-- runs one after another

pub failed : (old new : Contents) (r : Run) (n k a : ℕ) (tree : Term) (Here : Machine → Type 0) → n ≤ k → IsReady old r → Gives old new n tree None → GoesOn old new r r k a Here None
failed old new r n k a tree Here le h m = record {
  grows = more old new n k le m.grows;
  ready = ready_still old new n m.grows r m.terms h;
  few = omega arith;
  gives = m.gives;
  enough = λ q. m.enough (omega arith);
}

pub then_goes_on : (old mid new : Contents) (r s t : Run) (j k a b : ℕ) (Here There Both : Machine → Type 0) (made : Option (Unit {0})) → GoesOn old mid r s j a Here (Some tt) → GoesOn mid new s t k b There made → ((m : Machine) → There m → Both m) → GoesOn old new r t (j + k) (a + b) Both made
then_goes_on old mid new r s t j k a b Here There Both None g h f = record {
  grows = then_grows old mid new j k g.grows h.grows;
  ready = h.ready;
  few = let x : length s.actions.items ≤ length r.actions.items + a = g.few in let y : length t.actions.items ≤ length s.actions.items + b = h.few in omega arith;
  gives = h.gives;
  enough = λ q.
      let few : length g.grows.added ≤ j = g.grows.few in
      let spare : mid.spare + length g.grows.added ≡ old.spare = g.grows.spare in
      h.enough (omega arith);
}
then_goes_on old mid new r s t j k a b Here There Both (Some u) g h f = record {
  grows = then_grows old mid new j k g.grows h.grows;
  ready = h.ready;
  few = let x : length s.actions.items ≤ length r.actions.items + a = g.few in let y : length t.actions.items ≤ length s.actions.items + b = h.few in omega arith;
  gives = f (machine_of new t) h.gives;
  enough = λ _. refl;
}

pub both_go_on : (old mid new : Contents) (r s t : Run) (j k a b : ℕ) (f g : Machine → Machine) (made : Option (Unit {0})) → GoesOn old mid r s j a (λ m. m ≡ f (machine_of old r)) (Some tt) → GoesOn mid new s t k b (λ m. m ≡ g (machine_of mid s)) made → GoesOn old new r t (j + k) (a + b) (λ m. m ≡ g (f (machine_of old r))) made
both_go_on old mid new r s t j k a b f g made x y =
    then_goes_on old mid new r s t j k a b (λ m. m ≡ f (machine_of old r)) (λ m. m ≡ g (machine_of mid s)) (λ m. m ≡ g (f (machine_of old r))) made x y (λ m e. e ∙ ap g x.gives)

-- where the first of them fails, all do
pub fails_first : (old new : Contents) (r s : Run) (j k a b : ℕ) (Here There : Machine → Type 0) → j ≤ k → a ≤ b → GoesOn old new r s j a Here None → GoesOn old new r s k b There None
fails_first old new r s j k a b Here There le le' g = record {
  grows = more old new j k le g.grows;
  ready = g.ready;
  few = let x : length s.actions.items ≤ length r.actions.items + a = g.few in omega arith;
  gives = g.gives;
  enough = λ q. g.enough (omega arith);
}

-- what is known of a run may be said otherwise
pub goes_on_as : (old new : Contents) (r s : Run) (j k a b : ℕ) (Here There : Machine → Type 0) (made : Option (Unit {0})) → j ≤ k → a ≤ b → GoesOn old new r s j a Here made → ((m : Machine) → Here m → There m) → GoesOn old new r s k b There made
goes_on_as old new r s j k a b Here There None le le' g f = fails_first old new r s j k a b Here There le le' g
goes_on_as old new r s j k a b Here There (Some u) le le' g f = record {
  grows = more old new j k le g.grows;
  ready = g.ready;
  few = let x : length s.actions.items ≤ length r.actions.items + a = g.few in omega arith;
  gives = f (machine_of new s) g.gives;
  enough = λ _. refl;
}

pub stays : (pool : Contents) (r : Run) → IsReady pool r → GoesOn pool pool r r 0 0 (λ m. m ≡ machine_of pool r) (Some tt)
stays pool r h = record { grows = still pool; ready = h; few = omega arith; gives = refl; enough = λ _. refl }

-- a load or a store joins

pub action_appended : (pool : Contents) (xs : List ActionId) (x : ActionId) → ActionsAreGiven pool xs → ActionIsGiven pool x → ActionsAreGiven pool (xs ++ x ∷ [])
action_appended pool [] x h q = (q, tt)
action_appended pool (y ∷ ys) x h q = (h.0, action_appended pool ys x h.1 q)

pub actions_appended : (pool : Contents) (xs : List ActionId) (x : ActionId) → trees_of_actions pool (xs ++ x ∷ []) ≡ trees_of_actions pool xs ++ tree_of_action pool x ∷ []
actions_appended pool [] x = refl
actions_appended pool (y ∷ ys) x = ap (λ l. tree_of_action pool y ∷ l) (actions_appended pool ys x)

-- what a register's id stands for
byte_tree : (pool : Contents) (r : Run) (slot : ByteSlot) → tree_in pool (id_of_byte r slot) ≡ byte_in (machine_of pool r) slot
byte_tree pool r (Byte80 RegA) = refl
byte_tree pool r (Byte80 RegB) = refl
byte_tree pool r (Byte80 RegC) = refl
byte_tree pool r (Byte80 RegD) = refl
byte_tree pool r (Byte80 RegE) = refl
byte_tree pool r (Byte80 RegH) = refl
byte_tree pool r (Byte80 RegL) = refl
byte_tree pool r (Byte86 Al) = refl
byte_tree pool r (Byte86 Cl) = refl
byte_tree pool r (Byte86 Dl) = refl
byte_tree pool r (Byte86 Bl) = refl
byte_tree pool r (Byte86 Ah) = refl
byte_tree pool r (Byte86 Ch) = refl
byte_tree pool r (Byte86 Dh) = refl
byte_tree pool r (Byte86 Bh) = refl
byte_tree pool r T = refl
byte_tree pool r U = refl

pub byte_is : (old new : Contents) (n : ℕ) (r : Run) (slot : ByteSlot) (t : TermId) → PoolGrows old new n → RunIsGiven old r → t ≡ id_of_byte r slot → tree_in new t ≡ byte_in (machine_of old r) slot
byte_is old new n r slot t g h e = ap (tree_in new) e ∙ byte_tree new r slot ∙ ap (λ m. byte_in m slot) (same_machine old new n g r h)

-- a byte register is no word register
v_kept : (m : Machine) (b : ByteSlot) (q : Term) → (with_byte m b q).v ≡ m.v
v_kept m (Byte80 r) q = refl
v_kept m (Byte86 r) q = refl
v_kept m T q = refl
v_kept m U q = refl

w_kept : (m : Machine) (b : ByteSlot) (q : Term) → (with_byte m b q).w ≡ m.w
w_kept m (Byte80 r) q = refl
w_kept m (Byte86 r) q = refl
w_kept m T q = refl
w_kept m U q = refl

x_kept : (m : Machine) (b : ByteSlot) (q : Term) → (with_byte m b q).x ≡ m.x
x_kept m (Byte80 r) q = refl
x_kept m (Byte86 r) q = refl
x_kept m T q = refl
x_kept m U q = refl

pub word_kept : (m : Machine) (b : ByteSlot) (q : Term) (w : WordSlot) → word_in (with_byte m b q) w ≡ word_in m w
word_kept m b q V = v_kept m b q
word_kept m b q W = w_kept m b q
word_kept m b q X = x_kept m b q

-- a run with an action more, and perhaps a load more
pub moved : (pool : Contents) (r s : Run) (x : ActionId) → s ≡ record r { actions = s.actions; loads = s.loads } → s.actions.items ≡ r.actions.items ++ x ∷ [] → vec_capacity s.actions ≡ vec_capacity r.actions → s.loads ≤ suc r.loads → IsReady pool r → ActionIsGiven pool x → length r.actions.items < 512
    → GoesOn pool pool r s 0 1 (λ m. m ≡ record (machine_of pool r) { trace = record { actions = trees_of_actions pool r.actions.items ++ tree_of_action pool x ∷ []; loads = s.loads } }) (Some tt)
moved pool r s x same items capacity loads h q below = record {
  grows = still pool;
  ready = record {
    terms = h.terms;
    given = subst (RunIsGiven pool) (sym same) (record { held = h.given.held; ah = h.given.ah; si = h.given.si; sp = h.given.sp; t = h.given.t; u = h.given.u; v = h.given.v; w = h.given.w; x = h.given.x; result = h.given.result; turned = h.given.turned; actions = subst (ActionsAreGiven pool) (sym items) (action_appended pool r.actions.items x h.given.actions q) });
    sorted = subst (λ (k : Run). IsSorted (machine_of pool k)) (sym same) (record { held = h.sorted.held; ah = h.sorted.ah; si = h.sorted.si; sp = h.sorted.sp; t = h.sorted.t; u = h.sorted.u; v = h.sorted.v; w = h.sorted.w; x = h.sorted.x; result = h.sorted.result; turned = h.sorted.turned });
    capacity = capacity ∙ h.capacity;
    few = let few : r.loads ≤ length r.actions.items = h.few in omega (arith, longer);
    room = omega (arith, longer);
  };
  few = omega (arith, longer);
  gives =
      ap (machine_of pool) same
      ∙ ap (λ (l : List Action). record (machine_of pool r) { trace = record { actions = l; loads = s.loads } })
      (ap (trees_of_actions pool) items ∙ actions_appended pool r.actions.items x);
  enough = λ _. refl;
}
  where
    longer : length s.actions.items ≡ length r.actions.items + 1
    longer = ap length items ∙ length-append r.actions.items (x ∷ [])

-- a run that began, and goes on
pub began : (old mid new : Contents) (r s : Run) (j k a : ℕ) (Here : Machine → Type 0) (made : Option (Unit {0})) → PoolGrows old mid j → r.actions.items ≡ [] → GoesOn mid new r s k a Here made → Runs old new s (j + k) a Here made
began old mid new r s j k a Here None g empty h = record {
  grows = then_grows old mid new j k g h.grows;
  terms = h.ready.terms;
  capacity = h.ready.capacity;
  gives = h.gives;
  enough = λ q.
      let few : length g.added ≤ j = g.few in
      let spare : mid.spare + length g.added ≡ old.spare = g.spare in
      h.enough (omega arith);
}
began old mid new r s j k a Here (Some u) g empty h = record {
  grows = then_grows old mid new j k g h.grows;
  terms = h.ready.terms;
  capacity = h.ready.capacity;
  gives = record {
    ready = h.ready;
    few =
        let none : length r.actions.items ≡ 0 = ap length empty in
        let few : length s.actions.items ≤ length r.actions.items + a = h.few in
        omega arith;
    is = h.gives;
  };
  enough = λ _. refl;
}

-- a run from its beginning on that goes on
pub then_runs : (old mid new : Contents) (r s : Run) (j k a b : ℕ) (Here There Both : Machine → Type 0) (made : Option (Unit {0})) → Runs old mid r j a Here (Some tt) → GoesOn mid new r s k b There made → ((m : Machine) → There m → Both m) → Runs old new s (j + k) (a + b) Both made
then_runs old mid new r s j k a b Here There Both None g h f = record {
  grows = then_grows old mid new j k g.grows h.grows;
  terms = h.ready.terms;
  capacity = h.ready.capacity;
  gives = h.gives;
  enough = λ q.
      let few : length g.grows.added ≤ j = g.grows.few in
      let spare : mid.spare + length g.grows.added ≡ old.spare = g.grows.spare in
      h.enough (omega arith);
}
then_runs old mid new r s j k a b Here There Both (Some u) g h f = record {
  grows = then_grows old mid new j k g.grows h.grows;
  terms = h.ready.terms;
  capacity = h.ready.capacity;
  gives = record {
    ready = h.ready;
    few =
        let first : length r.actions.items ≤ a = g.gives.few in
        let second : length s.actions.items ≤ length r.actions.items + b = h.few in
        omega arith;
    is = f (machine_of new s) h.gives;
  };
  enough = λ _. refl;
}

pub run_as : (old new : Contents) (r : Run) (j k a b : ℕ) (Here There : Machine → Type 0) (made : Option (Unit {0})) → j ≤ k → a ≤ b → Runs old new r j a Here made → ((m : Machine) → Here m → There m) → Runs old new r k b There made
run_as old new r j k a b Here There None le le' g f = record {
  grows = more old new j k le g.grows;
  terms = g.terms;
  capacity = g.capacity;
  gives = g.gives;
  enough = λ q. g.enough (omega arith);
}
run_as old new r j k a b Here There (Some u) le le' g f = record {
  grows = more old new j k le g.grows;
  terms = g.terms;
  capacity = g.capacity;
  gives = record {
    ready = g.gives.ready;
    few = let few : length r.actions.items ≤ a = g.gives.few in omega arith;
    is = f (machine_of new r) g.gives.is;
  };
  enough = λ _. refl;
}

held_id_given : (pool : Contents) (x : HeldIds) (r : Register) → HeldIsGiven pool x → IsGiven pool (id_of_reg x r)
held_id_given pool x RegA h = h.a
held_id_given pool x RegB h = h.b
held_id_given pool x RegC h = h.c
held_id_given pool x RegD h = h.d
held_id_given pool x RegE h = h.e
held_id_given pool x RegH h = h.h
held_id_given pool x RegL h = h.l

byte_id_given : (pool : Contents) (r : Run) (slot : ByteSlot) → RunIsGiven pool r → IsGiven pool (id_of_byte r slot)
byte_id_given pool r (Byte80 q) h = held_id_given pool r.held q h.held
byte_id_given pool r (Byte86 Ah) h = h.ah
byte_id_given pool r (Byte86 Al) h = h.held.a
byte_id_given pool r (Byte86 Cl) h = h.held.c
byte_id_given pool r (Byte86 Dl) h = h.held.e
byte_id_given pool r (Byte86 Bl) h = h.held.l
byte_id_given pool r (Byte86 Ch) h = h.held.b
byte_id_given pool r (Byte86 Dh) h = h.held.d
byte_id_given pool r (Byte86 Bh) h = h.held.h
byte_id_given pool r T h = h.t
byte_id_given pool r U h = h.u

-- the id of a byte register stands for a byte, as it is and once more terms have joined
pub byte_here : (pool : Contents) (r : Run) (slot : ByteSlot) (t : TermId) → IsReady pool r → t ≡ id_of_byte r slot → IsA is_byte pool t
byte_here pool r slot t h e = record {
  given = subst (IsGiven pool) (sym e) (byte_id_given pool r slot h.given);
  of_sort = ap (λ x. is_byte (tree_in pool x)) e ∙ ap is_byte (byte_tree pool r slot) ∙ (byte_sorted (machine_of pool r) slot h.sorted).1;
}

pub byte_later : (old new : Contents) (n : ℕ) (r : Run) (slot : ByteSlot) (t : TermId) → PoolGrows old new n → IsReady old r → t ≡ id_of_byte r slot → IsA is_byte new t
byte_later old new n r slot t g h e =
    let here = byte_here old r slot t h e in
    let kept = g.kept t here.given in
    record {
      given = kept.0;
      of_sort = ap is_byte kept.1 ∙ here.of_sort;
    }

pub byte_tree_here : (pool : Contents) (r : Run) (slot : ByteSlot) (t : TermId) → t ≡ id_of_byte r slot → tree_in pool t ≡ byte_in (machine_of pool r) slot
byte_tree_here pool r slot t e = ap (tree_in pool) e ∙ byte_tree pool r slot

-- so it is with the id of a word
word_id_given : (pool : Contents) (r : Run) (slot : WordSlot) → RunIsGiven pool r → IsGiven pool (id_of_word r slot)
word_id_given pool r V h = h.v
word_id_given pool r W h = h.w
word_id_given pool r X h = h.x

word_sorted : (m : Machine) (slot : WordSlot) → IsSorted m → IsMadeAs is_word (word_in m slot)
word_sorted m V h = h.v
word_sorted m W h = h.w
word_sorted m X h = h.x

word_tree : (pool : Contents) (r : Run) (slot : WordSlot) → tree_in pool (id_of_word r slot) ≡ word_in (machine_of pool r) slot
word_tree pool r V = refl
word_tree pool r W = refl
word_tree pool r X = refl

pub word_here : (pool : Contents) (r : Run) (slot : WordSlot) (t : TermId) → IsReady pool r → t ≡ id_of_word r slot → IsA is_word pool t
word_here pool r slot t h e = record {
  given = subst (IsGiven pool) (sym e) (word_id_given pool r slot h.given);
  of_sort = ap (λ x. is_word (tree_in pool x)) e ∙ ap is_word (word_tree pool r slot) ∙ (word_sorted (machine_of pool r) slot h.sorted).1;
}

pub word_tree_here : (pool : Contents) (r : Run) (slot : WordSlot) (t : TermId) → t ≡ id_of_word r slot → tree_in pool t ≡ word_in (machine_of pool r) slot
word_tree_here pool r slot t e = ap (tree_in pool) e ∙ word_tree pool r slot

-- SP and SI are given what a word register holds
word_read : (pool : Contents) (r : Run) (slot : WordSlot) (t : TermId) → IsReady pool r → t ≡ id_of_word r slot → Gives pool pool 2 (word_in (machine_of pool r) slot) (Some t)
word_read pool r slot t h e = record {
  grows = more pool pool 0 2 (lit≤ tt) (still pool);
  gives = ((word_here pool r slot t h e).given, word_tree_here pool r slot t e);
  enough = λ _. refl;
  terms = h.terms;
}

pub sp_moved : (pool : Contents) (r : Run) (slot : WordSlot) (t : TermId) → IsReady pool r → t ≡ id_of_word r slot → GoesOn pool pool r (record r { sp = t }) 2 0 (λ m. m ≡ record (machine_of pool r) { sp = word_in (machine_of pool r) slot }) (Some tt)
sp_moved pool r slot t h e =
    gave_to pool pool r (record r { sp = t }) 2 (word_in (machine_of pool r) slot) t (λ m q. record m { sp = q }) refl refl refl
    (λ k q. record { held = k.held; ah = k.ah; si = k.si; sp = q; t = k.t; u = k.u; v = k.v; w = k.w; x = k.x; result = k.result; turned = k.turned; actions = k.actions })
    (λ k. record { held = k.held; ah = k.ah; si = k.si; sp = subst (IsMadeAs is_word) (sym (word_tree_here pool r slot t e)) (word_sorted (machine_of pool r) slot h.sorted); t = k.t; u = k.u; v = k.v; w = k.w; x = k.x; result = k.result; turned = k.turned })
    h (word_read pool r slot t h e)

pub si_moved : (pool : Contents) (r : Run) (slot : WordSlot) (t : TermId) → IsReady pool r → t ≡ id_of_word r slot → GoesOn pool pool r (record r { si = t }) 2 0 (λ m. m ≡ record (machine_of pool r) { si = word_in (machine_of pool r) slot }) (Some tt)
si_moved pool r slot t h e =
    gave_to pool pool r (record r { si = t }) 2 (word_in (machine_of pool r) slot) t (λ m q. record m { si = q }) refl refl refl
    (λ k q. record { held = k.held; ah = k.ah; si = q; sp = k.sp; t = k.t; u = k.u; v = k.v; w = k.w; x = k.x; result = k.result; turned = k.turned; actions = k.actions })
    (λ k. record { held = k.held; ah = k.ah; si = subst (IsMadeAs is_word) (sym (word_tree_here pool r slot t e)) (word_sorted (machine_of pool r) slot h.sorted); sp = k.sp; t = k.t; u = k.u; v = k.v; w = k.w; x = k.x; result = k.result; turned = k.turned })
    h (word_read pool r slot t h e)

-- a term that is given need not be made
pub made_already : (pool : Contents) (tree : Term) (t : TermId) → AreTerms pool → IsGiven pool t → tree_in pool t ≡ tree → Makes pool pool 1 tree (Some t)
made_already pool tree t h given is = record { grows = more pool pool 0 1 (omega arith) (still pool); gives = (given, is); room = λ _. refl; terms = h }

-- a maker of a term makes an equal one
pub makes_same : (old new : Contents) (x y : Term) (made : Option TermId) → x ≡ y → Makes old new 1 x made → Makes old new 1 y made
makes_same old new x y made same h = subst (λ t. Makes old new 1 t made) same h
