-- What is needed at an instruction: what it uses, what is needed behind it and it does not define, and what is kept by the ways that
-- it goes, where it ends a block.
use Rattle.std.proofs.Common.{◌≡◌, ℕ, suc, Bool, true, false, cond, List, [], ◌∷◌, Option, Some, None, inl, inr, ◌⊎◌, ⊎_elim, refl, sym, ap, ◌∙◌, subst, arith}
use Rattle.std.specs.Prelude.{is_some, ◌||◌}
use Rattle.std.specs.List.{Contains}
use Rattle.std.proofs.lemmas.Bool.{or_cases, or_parts, true≢false, false≢true}
use Rattle.cells.specs.declared.Part.{Part}
use Rattle.cells.specs.declared.Part.TheVariants.{A, B, L}
use Rattle.cells.specs.declared.Place.TheVariants.{At as AtPlace}
use Rattle.cells.specs.Parts.{Parts, nothing, has, only, union}
use Rattle.cells.proofs.Unions.{has_union}
use Rattle.i80.specs.declared.Goal.TheVariants.{At as ToInstr, Boot as ToBoot, Bdos as ToBdos}
use Rattle.i80.specs.declared.Instr80.{Instr80}
use Rattle.i80.specs.declared.Instr80.TheVariants.{Pchl, Jmp, Jif, Call as CallTo, Cif, Ret, Rif, Rst0, In as InFrom, Out as OutTo}
use Rattle.i80.specs.Columns.{ends80, uses80, defs80, flag_of_condition, asked_of}
use Rattle.asm80_types.specs.declared.program.Placed.{Placed}
use Rattle.asm80_types.specs.Program.{Program, instr_at, instr_of_placed, placed_in, is_start}
use Rattle.flow.specs.declared.node.Node.{Node}
use Rattle.flow.specs.declared.node.Node.TheVariants.{Start, Return}
use Rattle.flow.specs.Blocks.{block_at, end_of}
use Rattle.flow.specs.Graph.{edges, edge_to, edges_at}
use Rattle.flow.specs.Need.{Need, NeedsAreClosed, parts_at}
use Rattle.flow.specs.Solving.{Needs, AreAllNeeds}
use Rattle.sym_block_def.specs.Outcome.{Way, Goto, Call, Sys, SysReturn, Boot, Leave, In, Out, One}
use Rattle.sym_block_def.specs.Block80.{Symbolic80, goto, call, return_by, asking, exit80}
use Rattle.sym_block_def.specs.BlockMatch.{without_a, kept_with_a, kept_after_way, kept_by_exit, lost_by}
use Rattle.simulation_def.specs.Needed.{needed_by}
use Rattle.templates_law.specs.Match.Meeting.{Among}
use Rattle.templates_law.proofs.Match.Moves.{has_nothing}
use Rattle.templates_law.proofs.Match.Row.{in_second}
use Rattle.templates_law.proofs.Match.Runs.{IsOf, instr_is}

-- what goes on has one edge, to the next place
edges_on : (next : List Node) (i : Instr80) → ends80 i ≡ false → edges next i ≡ next
edges_on next Pchl e = absurd (true≢false e)
edges_on next (Jmp g) e = absurd (true≢false e)
edges_on next (Jif c g) e = absurd (true≢false e)
edges_on next (CallTo g) e = absurd (true≢false e)
edges_on next (Cif c g) e = absurd (true≢false e)
edges_on next Ret e = absurd (true≢false e)
edges_on next (Rif c) e = absurd (true≢false e)
edges_on next Rst0 e = absurd (true≢false e)
edges_on next i e = refl

one_edge : (q : Node) → Contains (q ∷ []) q
one_edge q = (0, omega arith, refl)

first_edge : (q : Node) (rs : List Node) → Contains (q ∷ rs) q
first_edge q rs = (0, omega arith, refl)

later_edge : (r q : Node) (rs : List Node) → Contains rs q → Contains (r ∷ rs) q
later_edge r q rs h = (suc h.0, omega (arith, h.1), h.2)

-- IN keeps all but A, and OUT keeps A too

without_a_kept : (k : Parts) (q : Part) → Among (without_a k) q → Among k q × (has (only A) q ≡ false)
without_a_kept k A h = absurd (false≢true h)
without_a_kept k q h = (h, refl)

with_a_kept : (k : Parts) (q : Part) → Among (kept_with_a k) q → Among (only A) q ⊎ Among k q
with_a_kept k A h = inl refl
with_a_kept k q h = inr h

module _ (p : Program) (n : Needs) (closed : NeedsAreClosed p) (are : AreAllNeeds p n) where
  -- nothing is needed where no instruction starts
  need_started : (a : ℕ) (q : Part) → Among (n.at a) q → is_start p a ≡ true
  need_started a q c = by_found (placed_in p.instrs a) refl
    where
      by_found : (o : Option Placed) → placed_in p.instrs a ≡ o → is_some o ≡ true
      by_found (Some x) e = refl
      by_found None e =
          let here : instr_at p a ≡ None = ap instr_of_placed e in
          absurd (⊎_elim
          (λ u. let used : has nothing q ≡ true = sym (ap (λ o. has (parts_at uses80 o) q) here) ∙ u in true≢false (sym used ∙ has_nothing q))
          (λ on. let edge : Contains (edges_at p a None) on.0 = subst (λ o. Contains (edges_at p a o) on.0) here on.1 in omega (arith, edge.1))
          (closed.only (Start a) q ((are.at a q).0 c)))

  module _ (x : Placed) (is : IsOf p x) where
    pub used : (q : Part) → Among (uses80 x.instr) q → Among (n.at x.at) q
    used q c = (are.at x.at q).1 (closed.uses (Start x.at) q (ap (λ o. has (parts_at uses80 o) q) (instr_is p x is) ∙ c))

    by_edge : (r : Node) (q : Part) → Contains (edges (edge_to p (end_of x)) x.instr) r → has (defs80 x.instr) q ≡ false → Need p r q → Among (n.at x.at) q
    by_edge r q e d k =
        (are.at x.at q).1 (closed.passes (Start x.at) r q (subst (λ o. Contains (edges_at p x.at o) r) (sym (instr_is p x is)) e) (ap (λ o. has (parts_at defs80 o) q) (instr_is p x is) ∙ d) k)

    next_edge : is_start p (end_of x) ≡ true → edge_to p (end_of x) ≡ Start (end_of x) ∷ []
    next_edge e = ap (λ b. cond b (Start (end_of x) ∷ []) []) e

    pub passed_on : (q : Part) → ends80 x.instr ≡ false → has (defs80 x.instr) q ≡ false → Among (n.at (end_of x)) q → Among (n.at x.at) q
    passed_on q e d c =
        by_edge (Start (end_of x)) q
        (subst (λ rs. Contains rs (Start (end_of x))) (sym (edges_on (edge_to p (end_of x)) x.instr e ∙ next_edge (need_started (end_of x) q c))) (one_edge (Start (end_of x)))) d
        ((are.at (end_of x) q).0 c)

  -- what is kept at a place is needed there
  kept_at_leader : (a : ℕ) (q : Part) → Among ((needed_by p n).at a) q → Among (n.at a) q
  kept_at_leader a q c = by_block (is_some (block_at p a)) c
    where
      by_block : (b : Bool) → has (cond b (n.at a) nothing) q ≡ true → Among (n.at a) q
      by_block true h = h
      by_block false h = absurd (true≢false (sym h ∙ has_nothing q))

  pub goto_kept : (a : ℕ) (q : Part) → Among (kept_after_way (needed_by p n) (goto p a)) q → Among (n.at a) q
  goto_kept a q c = by_start (is_start p a) c
    where
      by_start : (b : Bool) → has (kept_after_way (needed_by p n) (cond b (Goto (AtPlace a)) Leave)) q ≡ true → Among (n.at a) q
      by_start true h = kept_at_leader a q h
      by_start false h = absurd (true≢false (sym h ∙ has_nothing q))

  module _ (a : ℕ) (before : Parts) where
    abbrev Uses : Instr80 → Type 0
    Uses i = (q : Part) → Among (uses80 i) q → Among before q

    abbrev Edges : Instr80 → Type 0
    Edges i = (r : Node) (q : Part) → Contains (edges (edge_to p a) i) r → has (defs80 i) q ≡ false → Need p r q → Among before q

    -- the way to the next place
    next_kept : (q : Part) → Among (kept_after_way (needed_by p n) (goto p a)) q → Contains (edge_to p a) (Start a) × Need p (Start a) q
    next_kept q c =
        let k = goto_kept a q c in
        let e = need_started a q k in
        (subst (λ rs. Contains rs (Start a)) (sym (ap (λ b. cond b (Start a ∷ []) []) e)) (one_edge (Start a)), (are.at a q).0 k)

    to_target : (i : Instr80) (t : ℕ) (rs : List Node) (q : Part) → edges (edge_to p a) i ≡ Start t ∷ rs → Edges i → has (defs80 i) q ≡ false → Among (n.at t) q → Among before q
    to_target i t rs q e edge d k = edge (Start t) q (subst (λ ns. Contains ns (Start t)) (sym e) (first_edge (Start t) rs)) d ((are.at t q).0 k)

    to_return : (i : Instr80) (rs : List Node) (q : Part) → edges (edge_to p a) i ≡ Return ∷ rs → Edges i → has (defs80 i) q ≡ false → Among n.returned q → Among before q
    to_return i rs q e edge d k = edge Return q (subst (λ ns. Contains ns Return) (sym e) (first_edge Return rs)) d ((are.returned q).0 k)

    -- to the next place, that edge alone, or behind another
    to_next : (i : Instr80) (q : Part) → edges (edge_to p a) i ≡ edge_to p a → Edges i → has (defs80 i) q ≡ false → Among (kept_after_way (needed_by p n) (goto p a)) q → Among before q
    to_next i q e edge d c = let k = next_kept q c in edge (Start a) q (subst (λ ns. Contains ns (Start a)) (sym e) k.0) d k.1

    past_first : (i : Instr80) (r : Node) (q : Part) → edges (edge_to p a) i ≡ r ∷ edge_to p a → Edges i → has (defs80 i) q ≡ false → Among (kept_after_way (needed_by p n) (goto p a)) q → Among before q
    past_first i r q e edge d c = let k = next_kept q c in edge (Start a) q (subst (λ ns. Contains ns (Start a)) (sym e) (later_edge r (Start a) (edge_to p a) k.0)) d k.1

    none_kept : (q : Part) → Among nothing q → Among before q
    none_kept q c = absurd (true≢false (sym c ∙ has_nothing q))

    -- a call of an instruction
    called : (i : Instr80) (t : ℕ) (rs : List Node) (q : Part) → edges (edge_to p a) i ≡ Start t ∷ rs → Edges i → has (defs80 i) q ≡ false → Among (kept_after_way (needed_by p n) (call p a (ToInstr t))) q → Among before q
    called i t rs q e edge d c = by_start (is_start p a) c
      where
        by_start : (b : Bool) → has (kept_after_way (needed_by p n) (cond b (Call (AtPlace t) (AtPlace a)) Leave)) q ≡ true → Among before q
        by_start true h = to_target i t rs q e edge d (kept_at_leader t q h)
        by_start false h = none_kept q h

    -- a port
    asked_in : (port : ℕ) (q : Part) → Edges (InFrom port) → Among (kept_after_way (needed_by p n) (asking p a (In port))) q → Among before q
    asked_in port q edge c = by_start (is_start p a) refl c
      where
        by_start : (b : Bool) → is_start p a ≡ b → has (kept_after_way (needed_by p n) (cond b (In port (AtPlace a)) Leave)) q ≡ true → Among before q
        by_start true e h =
            let k = without_a_kept ((needed_by p n).at a) q h in
            edge (Start a) q (subst (λ ns. Contains ns (Start a)) (sym (ap (λ b. cond b (Start a ∷ []) []) e)) (one_edge (Start a))) k.1 ((are.at a q).0 (kept_at_leader a q k.0))
        by_start false e h = none_kept q h

    asked_out : (port : ℕ) (q : Part) → Uses (OutTo port) → Edges (OutTo port) → Among (kept_after_way (needed_by p n) (asking p a (Out port))) q → Among before q
    asked_out port q using edge c = by_start (is_start p a) refl c
      where
        by_start : (b : Bool) → is_start p a ≡ b → has (kept_after_way (needed_by p n) (cond b (Out port (AtPlace a)) Leave)) q ≡ true → Among before q
        by_start true e h =
            ⊎_elim (using q)
            (λ k. edge (Start a) q (subst (λ ns. Contains ns (Start a)) (sym (ap (λ b. cond b (Start a ∷ []) []) e)) (one_edge (Start a))) (has_nothing q) ((are.at a q).0 (kept_at_leader a q k)))
            (with_a_kept ((needed_by p n).at a) q h)
        by_start false e h = none_kept q h

    -- either of two ways
    of_two : (v w : Way) (q : Part) → (Among (kept_after_way (needed_by p n) v) q → Among before q) → (Among (kept_after_way (needed_by p n) w) q → Among before q) → Among (union (kept_after_way (needed_by p n) v) (kept_after_way (needed_by p n) w)) q → Among before q
    of_two v w q f g c = ⊎_elim f g (or_cases (has (kept_after_way (needed_by p n) v) q) (has (kept_after_way (needed_by p n) w) q) (sym (has_union (kept_after_way (needed_by p n) v) (kept_after_way (needed_by p n) w) q) ∙ c))

    pub end_kept : (i : Instr80) → ends80 i ≡ true → Uses i → Edges i → (s : Symbolic80) (q : Part) → Among (kept_by_exit (needed_by p n) (exit80 p a s i)) q → Among before q
    end_kept Pchl e using edge s q c = to_return Pchl [] q refl edge (has_nothing q) c
    end_kept (Jmp (ToInstr t)) e using edge s q c = to_target (Jmp (ToInstr t)) t [] q refl edge (has_nothing q) (goto_kept t q c)
    end_kept (Jmp ToBoot) e using edge s q c = none_kept q c
    end_kept (Jmp ToBdos) e using edge s q c = using q c
    end_kept (Jif on (ToInstr t)) e using edge s q c =
        of_two (goto p t) (goto p a) q (λ k. to_target (Jif on (ToInstr t)) t (edge_to p a) q refl edge (has_nothing q) (goto_kept t q k)) (past_first (Jif on (ToInstr t)) (Start t) q refl edge (has_nothing q)) c
    end_kept (Jif on ToBoot) e using edge s q c = of_two Boot (goto p a) q (none_kept q) (to_next (Jif on ToBoot) q refl edge (has_nothing q)) c
    end_kept (Jif on ToBdos) e using edge s q c =
        of_two SysReturn (goto p a) q (λ k. using q (in_second (flag_of_condition on) (asked_of ToBdos) q k)) (past_first (Jif on ToBdos) Return q refl edge (has_nothing q)) c
    end_kept (CallTo (ToInstr t)) e using edge s q c = called (CallTo (ToInstr t)) t [] q refl edge (has_nothing q) c
    end_kept (CallTo ToBoot) e using edge s q c = none_kept q c
    end_kept (CallTo ToBdos) e using edge s q c = using q c
    end_kept (Cif on (ToInstr t)) e using edge s q c =
        of_two (call p a (ToInstr t)) (goto p a) q (called (Cif on (ToInstr t)) t (edge_to p a) q refl edge (has_nothing q)) (past_first (Cif on (ToInstr t)) (Start t) q refl edge (has_nothing q)) c
    end_kept (Cif on ToBoot) e using edge s q c = of_two Boot (goto p a) q (none_kept q) (to_next (Cif on ToBoot) q refl edge (has_nothing q)) c
    end_kept (Cif on ToBdos) e using edge s q c =
        of_two (Sys (AtPlace a)) (goto p a) q (λ k. using q (in_second (flag_of_condition on) (asked_of ToBdos) q k)) (to_next (Cif on ToBdos) q refl edge (has_nothing q)) c
    end_kept Ret e using edge s q c = to_return Ret [] q refl edge (has_nothing q) c
    end_kept (Rif on) e using edge s q c =
        of_two (return_by s) (goto p a) q (to_return (Rif on) (edge_to p a) q refl edge (has_nothing q)) (past_first (Rif on) Return q refl edge (has_nothing q)) c
    end_kept Rst0 e using edge s q c = none_kept q c
    end_kept (InFrom port) e using edge s q c = asked_in port q edge c
    end_kept (OutTo port) e using edge s q c = asked_out port q using edge c
    end_kept i e using edge s q c = absurd (false≢true e)

  -- what an instruction that ends a block keeps is needed at it
  pub kept_needed : (x : Placed) → IsOf p x → ends80 x.instr ≡ true → (s : Symbolic80) (q : Part) → Among (kept_by_exit (needed_by p n) (exit80 p (end_of x) s x.instr)) q → Among (n.at x.at) q
  kept_needed x is e s q c = end_kept (end_of x) (n.at x.at) x.instr e (used x is) (λ r q. by_edge x is r q) s q c

  -- INT 224 loses nothing that is needed behind it
  pub none_lost : (a : ℕ) → (has (n.at a) B || has (n.at a) L) ≡ false → (q : Part) → has (lost_by (needed_by p n) (One (Sys (AtPlace a)))) q ≡ false
  none_lost a e q =
      let both = or_parts (has (n.at a) B) (has (n.at a) L) e in
      by_part (kept_not (is_some (block_at p a)) B both.0) (kept_not (is_some (block_at p a)) L both.1) q
    where
      kept_not : (b : Bool) (q : Part) → has (n.at a) q ≡ false → has (cond b (n.at a) nothing) q ≡ false
      kept_not true q h = h
      kept_not false q h = has_nothing q

      by_part : has ((needed_by p n).at a) B ≡ false → has ((needed_by p n).at a) L ≡ false → (q : Part) → has (lost_by (needed_by p n) (One (Sys (AtPlace a)))) q ≡ false
      by_part b l B = b
      by_part b l L = l
      by_part b l q = refl
