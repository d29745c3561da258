-- What interning a node does to the terms.
use Rattle.std.proofs.Common.{◌≡◌, ℕ, ◌+◌, ◌≤◌, Bool, List, [], ◌∷◌, ◌++◌, length, Option, Some, None, IsSome, true, false, refl, sym, ap, subst, ap₂, ◌∙◌, arith, inl, inr, ◌⊎◌, MatchOption, append-nil, append_assoc, length-append}
use Rattle.std.specs.List.{slice_get}
use Rattle.std.proofs.lemmas.Bool.{true≢false}
use Rattle.std.proofs.lemmas.Option.{get_or_from_slice_get}
use Rattle.xlt_pool.specs.declared.node.Node.{Node}
use Rattle.xlt_pool.specs.declared.node.Id.{Id}
use Rattle.xlt_pool.specs.Contents.{Contents, IsFound, IsAdded, HasNoRoom}
use Rattle.sym_terms.specs.declared.head.Term.{Term as TermId}
use Rattle.sym_terms.specs.Term.{Term, Num, Sum16, FlagByte, Unknown, is_adjusted}
use Rattle.sym_terms.specs.Making.{IsTermMade}
use Rattle.sym_terms.specs.declared.head.Head.{Head}
use Rattle.sym_terms.specs.declared.head.Head.TheVariants.{FlagByte as FlagByteHead, Sum16 as Sum16Head}
use Rattle.sym_terms.specs.Heads.{operands, is_flag_byte_head, node_of, marked_node, rest_node, number_of_id}
use Rattle.sym_terms.specs.Trees.{Entry, Tree, Rest, term_of_entry, tree_in, MakesRest, tree_at, tree_of_head, AreTrees, AreGiven, entry_of, entries_of, StandsFor, PoolGrows, Makes}
use Rattle.sym_terms.specs.Forms.{HasRest, IsFormed, IsTermList}
use Rattle.sym_terms.proofs.Places.{get_front, get_last}
use Rattle.sym_terms.proofs.Entries.{entries_push, length-entries_of}
use Rattle.sym_terms.proofs.Heads.{entry_back, second_in, third_in, fourth_in, fifth_in}
use Rattle.sym_terms.proofs.Marks.{entry_marked}
use Rattle.sym_terms.proofs.Growing.{has_node, read, node_entry, new_entry, list_with, are_terms}

-- there is no room, and nothing stands for this
pub record IsOut (new : Contents) (entry : Entry) : Type 0 where
  pub full : new.spare ≡ 0
  pub absent : (i : ℕ) → slice_get (entries_of new.nodes) i ≡ Some entry → ⊥

pub record Interns (old new : Contents) (entry : Entry) (result : Option Id) : Type 0 where
  pub list : IsTermList new.nodes
  pub grows : PoolGrows old new 1
  pub gives : MatchOption result (IsOut new entry) (λ id. slice_get (entries_of new.nodes) id.0 ≡ Some entry)
  pub room : 1 ≤ old.spare → IsSome result

-- an id stands for a term where that is its entry
pub from_entry : (held : Contents) (t : TermId) (tree : Term) → slice_get (entries_of held.nodes) (number_of_id t) ≡ Some (Tree tree) → StandsFor held t tree
from_entry held t tree h =
    let is : tree_in held t ≡ tree = ap term_of_entry (get_or_from_slice_get (entries_of held.nodes) (number_of_id t) (Tree tree) (Tree Unknown) h) in
    (h ∙ ap (λ x. Some (Tree x)) (sym is), is)

pub to_entry : (held : Contents) (t : TermId) (tree : Term) → StandsFor held t tree → slice_get (entries_of held.nodes) (number_of_id t) ≡ Some (Tree tree)
to_entry held t tree h = h.0 ∙ ap (λ x. Some (Tree x)) h.1

-- nothing joins
pub still : (held : Contents) → PoolGrows held held 0
still held = record {
  added = [];
  nodes = sym (append-nil held.nodes);
  few = omega arith;
  spare = omega arith;
  kept = λ t h. (h, refl);
}

pub more : (old new : Contents) (j k : ℕ) → j ≤ k → PoolGrows old new j → PoolGrows old new k
more old new j k h g = record {
  added = g.added;
  nodes = g.nodes;
  few = let few : length g.added ≤ j = g.few in omega arith;
  spare = g.spare;
  kept = g.kept;
}

pub interns : (old new : Contents) (n : Node) (result : Option Id) → IsTermList old.nodes → IsFormed (entries_of old.nodes) n → ((t : Term) → entry_of (entries_of old.nodes) n ≡ Tree t → IsTermMade t)
    → MatchOption result (HasNoRoom old n new) (λ id. IsFound old n id.0 new ⊎ IsAdded old n id.0 new) → Interns old new (entry_of (entries_of old.nodes) n) result
interns old new n None list formed made r =
    subst (λ c. Interns old c (entry_of (entries_of old.nodes) n) None) (sym r.unchanged)
    (record {
      list = list;
      grows = more old old 0 1 (omega arith) (still old);
      gives = record { full = r.full; absent = new_entry old.nodes list n formed r.absent };
      room = λ h. absurd (let full : old.spare ≡ 0 = r.full in omega arith);
    })
interns old new n (Some id) list formed made (inl f) =
    subst (λ c. Interns old c (entry_of (entries_of old.nodes) n) (Some id)) (sym f.unchanged)
    (record {
      list = list;
      grows = more old old 0 1 (omega arith) (still old);
      gives = node_entry old.nodes list id.0 n f.stands;
      room = λ h. refl;
    })
interns old new n (Some id) list formed made (inr a) = record {
  list = subst (λ l. IsTermList l) (sym a.nodes) (list_with old.nodes list n formed a.absent made);
  grows = record {
    added = n ∷ [];
    nodes = a.nodes;
    few = omega arith;
    spare = let s : new.spare + 1 ≡ old.spare = a.spare in omega arith;
    kept = λ t h. from_entry new t (tree_in old t) (ap (λ l. slice_get l (number_of_id t)) entries ∙ get_front (entries_of old.nodes) (entry_of (entries_of old.nodes) n ∷ []) (Tree (tree_in old t)) (number_of_id t) h);
  };
  gives =
      let last : id.0 ≡ length (entries_of old.nodes) = a.last ∙ sym (length-entries_of old.nodes) in
      ap (λ l. slice_get l id.0) entries
      ∙ ap (λ k. slice_get (entries_of old.nodes ++ entry_of (entries_of old.nodes) n ∷ []) k) last
      ∙ get_last (entries_of old.nodes) [] (entry_of (entries_of old.nodes) n);
  room = λ h. refl;
}
  where
    entries : entries_of new.nodes ≡ entries_of old.nodes ++ entry_of (entries_of old.nodes) n ∷ []
    entries = ap entries_of a.nodes ∙ entries_push old.nodes n

-- a term that was made, or for which there is no room
pub makes : (old new : Contents) (tree : Term) (result : Option Id) (made : Option TermId) → Interns old new (Tree tree) result → MatchOption result (made ≡ None) (λ id. made ≡ Some (record { 0 = id })) → Makes old new 1 tree made
makes old new tree None made i e =
    subst (λ m. Makes old new 1 tree m) (sym e)
    (record {
      grows = i.grows;
      gives = record { full = i.gives.full; absent = λ t h. i.gives.absent (number_of_id t) (to_entry new t tree h) };
      room = i.room;
      terms = are_terms new i.list;
    })
makes old new tree (Some id) made i e =
    subst (λ m. Makes old new 1 tree m) (sym e)
    (record {
      grows = i.grows;
      gives = from_entry new (record { 0 = id }) tree i.gives;
      room = λ h. refl;
      terms = are_terms new i.list;
    })

pub no_rest : (es : List Entry) (h : Head) (r : ℕ) → is_flag_byte_head h ≡ false → HasRest es h r
no_rest es (FlagByteHead s z ac p cy) r plain = absurd (true≢false plain)
no_rest es h r plain = tt

-- the node of a head, marked
pub interns_head : (old new : Contents) (h : Head) (further : ℕ) (m : Bool) (plain n : Node) (result : Option Id) → plain ≡ node_of h further → m ≡ is_adjusted (tree_of_head (entries_of old.nodes) h) → n ≡ marked_node m plain → IsTermList old.nodes → HasRest (entries_of old.nodes) h further → AreGiven old (operands h) → IsTermMade (tree_of_head (entries_of old.nodes) h)
    → MatchOption result (HasNoRoom old n new) (λ id. IsFound old n id.0 new ⊎ IsAdded old n id.0 new) → Interns old new (Tree (tree_of_head (entries_of old.nodes) h)) result
interns_head old new h further m plain n result ep em en list rest given made r =
    let e = en ∙ ap₂ marked_node em ep in
    let entry : entry_of (entries_of old.nodes) n ≡ Tree (tree_of_head (entries_of old.nodes) h) =
    ap (entry_of (entries_of old.nodes)) e
    ∙ entry_marked (entries_of old.nodes) (is_adjusted (tree_of_head (entries_of old.nodes) h)) h further
    ∙ entry_back (entries_of old.nodes) h further rest in
    subst (λ x. Interns old new x result) entry
    (interns old new n result list (inl (record { head = h; further = further; is = e; given = given; rest = rest }))
    (λ t f. subst IsTermMade (ap term_of_entry (sym entry ∙ f)) made)
    r)

-- the further node of a FlagByte
pub interns_rest : (old new : Contents) (ac p cy : TermId) (n : Node) (result : Option Id) → n ≡ rest_node ac p cy → IsTermList old.nodes → AreGiven old (ac ∷ p ∷ cy ∷ [])
    → MatchOption result (HasNoRoom old n new) (λ id. IsFound old n id.0 new ⊎ IsAdded old n id.0 new)
    → Interns old new (Rest (tree_at (entries_of old.nodes) (number_of_id ac)) (tree_at (entries_of old.nodes) (number_of_id p)) (tree_at (entries_of old.nodes) (number_of_id cy))) result
interns_rest old new ac p cy n result e list given r =
    let entry : entry_of (entries_of old.nodes) n ≡ Rest (tree_at (entries_of old.nodes) (number_of_id ac)) (tree_at (entries_of old.nodes) (number_of_id p)) (tree_at (entries_of old.nodes) (number_of_id cy)) = ap (entry_of (entries_of old.nodes)) e in
    subst (λ x. Interns old new x result) entry
    (interns old new n result list (inr (record { ac = ac; p = p; cy = cy; is = e; given = given }))
    (λ t f. let both : Rest (tree_at (entries_of old.nodes) (number_of_id ac)) (tree_at (entries_of old.nodes) (number_of_id p)) (tree_at (entries_of old.nodes) (number_of_id cy)) ≡ Tree t = sym entry ∙ f in absurd (cc))
    r)

abbrev is_flag_byte : Term → Bool
is_flag_byte (FlagByte s z ac p cy) = true
is_flag_byte t = false

abbrev is_sum : Term → Bool
is_sum (Sum16 a b) = true
is_sum t = false

-- a FlagByte has a further node with its last three flags
flag_byte_has_rest : (held : Contents) → IsTermList held.nodes → (t : TermId) (s z x y w : Term) → StandsFor held t (FlagByte s z x y w) → (r : ℕ) × (slice_get (entries_of held.nodes) r ≡ Some (Rest x y w))
flag_byte_has_rest held list t s z x y w h =
    let entry = to_entry held t (FlagByte s z x y w) h in
    let n = has_node held.nodes (number_of_id t) (Tree (FlagByte s z x y w)) entry in
    let r = read held.nodes list (number_of_id t) n.0 (FlagByte s z x y w) n.1 entry in
    (r.node.further, by_head r.node.head r.node.further r.is r.node.rest)
  where
    by_head : (g : Head) (k : ℕ) → FlagByte s z x y w ≡ tree_of_head (entries_of held.nodes) g → HasRest (entries_of held.nodes) g k → slice_get (entries_of held.nodes) k ≡ Some (Rest x y w)
    by_head (FlagByteHead s' z' ac p cy) k e q =
        let is_x : tree_at (entries_of held.nodes) (number_of_id ac) ≡ x = sym (ap third_in e) in
        let is_y : tree_at (entries_of held.nodes) (number_of_id p) ≡ y = sym (ap fourth_in e) in
        let is_w : tree_at (entries_of held.nodes) (number_of_id cy) ≡ w = sym (ap fifth_in e) in
        q
        ∙ ap (λ v. Some (Rest v (tree_at (entries_of held.nodes) (number_of_id p)) (tree_at (entries_of held.nodes) (number_of_id cy)))) is_x
        ∙ ap (λ v. Some (Rest x v (tree_at (entries_of held.nodes) (number_of_id cy)))) is_y
        ∙ ap (λ v. Some (Rest x y v)) is_w
    by_head g k e q = absurd (true≢false (ap is_flag_byte e))

pub makes_rest : (old new : Contents) (x y w : Term) (result : Option Id) → Interns old new (Rest x y w) result → MakesRest old new x y w result
makes_rest old new x y w None i = record {
  grows = i.grows;
  full = λ _. i.gives.full;
  absent = λ _ t s z h. let r = flag_byte_has_rest new i.list t s z x y w h in i.gives.absent r.0 r.1;
  gives = tt;
  room = i.room;
  terms = are_terms new i.list;
}
makes_rest old new x y w (Some id) i = record {
  grows = i.grows;
  full = λ h. absurd (cc);
  absent = λ h. absurd (cc);
  gives = i.gives;
  room = λ h. refl;
  terms = are_terms new i.list;
}

-- one maker after another

pub then_grows : (old mid new : Contents) (j k : ℕ) → PoolGrows old mid j → PoolGrows mid new k → PoolGrows old new (j + k)
then_grows old mid new j k g h = record {
  added = g.added ++ h.added;
  nodes = h.nodes ∙ ap (λ l. l ++ h.added) g.nodes ∙ append_assoc old.nodes g.added h.added;
  few =
      let first : length g.added ≤ j = g.few in
      let second : length h.added ≤ k = h.few in
      omega (arith, length-append g.added h.added);
  spare =
      let first : mid.spare + length g.added ≡ old.spare = g.spare in
      let second : new.spare + length h.added ≡ mid.spare = h.spare in
      omega (arith, length-append g.added h.added);
  kept = λ t p. let a = g.kept t p in let b = h.kept t a.0 in (b.0, b.1 ∙ a.1);
}

pub then_makes : (old mid new : Contents) (tree : Term) (made : Option TermId) → PoolGrows old mid 1 → Makes mid new 1 tree made → Makes old new 2 tree made
then_makes old mid new tree made g m = record {
  grows = then_grows old mid new 1 1 g m.grows;
  gives = m.gives;
  room = λ h.
      let few : length g.added ≤ 1 = g.few in
      let spare : mid.spare + length g.added ≡ old.spare = g.spare in
      m.room (omega arith);
  terms = m.terms;
}

-- where there is no room for a number, there is none for a sum with it
pub no_sum : (old new : Contents) (a : Term) (n : ℕ) → Makes old new 1 (Num n) None → Makes old new 2 (Sum16 a (Num n)) None
no_sum old new a n m = record {
  grows = more old new 1 2 (omega arith) m.grows;
  gives = record { full = m.gives.full; absent = λ t h. let g = m.terms.heads t h.0 in by_head g.head (sym h.1 ∙ g.is) g.given };
  room = λ h. m.room (omega arith);
  terms = m.terms;
}
  where
    by_head : (g : Head) → Sum16 a (Num n) ≡ tree_of_head (entries_of new.nodes) g → AreTrees (entries_of new.nodes) (operands g) → ⊥
    by_head (Sum16Head x y) e q =
        let is : tree_at (entries_of new.nodes) (number_of_id y) ≡ Num n = sym (ap second_in e) in
        m.gives.absent y (q.1.0, is)
    by_head g e q = absurd (true≢false (ap is_sum e))
