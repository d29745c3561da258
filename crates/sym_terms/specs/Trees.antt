-- The terms that the nodes of a pool stand for.
use Rattle.std.specs.Prelude.{◌≡◌, ◌≤◌, ℕ, ◌+◌, Bool, true, List, [], ◌∷◌, ◌++◌, length, fold, Option, Some, IsSome, IsNone, MatchOption, slice_get, slice_index_or}
use Rattle.xlt_pool.specs.declared.node.Node.{Node}
use Rattle.xlt_pool.specs.declared.node.Id.{Id}
use Rattle.xlt_pool.specs.Contents.{Contents}
use Rattle.sym_terms.specs.declared.head.Term.{Term as TermId}
use Rattle.sym_terms.specs.declared.head.Head.{Head}
use Rattle.sym_terms.specs.declared.head.Head.TheVariants.{Num as NumHead, Start as StartHead, StartSp as StartSpHead, Loaded8 as Loaded8Head, Loaded16 as Loaded16Head, Alu as AluHead, Flag as FlagHead, Sum16 as Sum16Head, High as HighHead, Low as LowHead, Join as JoinHead, FlagByte as FlagByteHead, Bit as BitHead, Turn as TurnHead, Turned as TurnedHead, Adjust as AdjustHead, Code as CodeHead, Unknown as UnknownHead}
use Rattle.sym_terms.specs.declared.numbers.Kind.{Kind}
use Rattle.sym_terms.specs.declared.numbers.Kind.TheVariants.{FlagByte as FlagByteKind, Rest as RestKind}
use Rattle.sym_terms.specs.Numbers.{kind_of}
use Rattle.sym_terms.specs.Term.{Term, Num, Start, StartSp, Loaded8, Loaded16, Alu, Flag, Sum16, High, Low, Join, FlagByte, Bit, Turn, Turned, Adjust, Code, Unknown}
use Rattle.sym_terms.specs.Making.{IsTermMade}
use Rattle.sym_terms.specs.Heads.{head_by, number_of_id, operands}

-- what a node stands for: a term, or the last three flags of a FlagByte
pub data Entry : Type 0 where
  Tree : (term : Term) → Entry
  Rest : (ac p cy : Term) → Entry

abbrev pub term_of_entry : Entry → Term
term_of_entry (Tree t) = t
term_of_entry (Rest ac p cy) = Unknown

abbrev pub tree_at : List Entry → ℕ → Term
tree_at es id = term_of_entry (slice_index_or es id (Tree Unknown))

-- ids stand for terms
abbrev pub IsTree : List Entry → TermId → Type 0
IsTree es t = slice_get es (number_of_id t) ≡ Some (Tree (tree_at es (number_of_id t)))

abbrev pub AreTrees : List Entry → List TermId → Type 0
AreTrees es [] = Unit {0}
AreTrees es (t ∷ ts) = IsTree es t × AreTrees es ts

-- a head, put together of the terms of its operands
abbrev pub tree_of_head : List Entry → Head → Term
tree_of_head es (NumHead n) = Num n
tree_of_head es (StartHead part) = Start part
tree_of_head es StartSpHead = StartSp
tree_of_head es (Loaded8Head k) = Loaded8 k
tree_of_head es (Loaded16Head k) = Loaded16 k
tree_of_head es (AluHead op a b c) = Alu op (tree_at es (number_of_id a)) (tree_at es (number_of_id b)) (tree_at es (number_of_id c))
tree_of_head es (FlagHead part r) = Flag part (tree_at es (number_of_id r))
tree_of_head es (Sum16Head a b) = Sum16 (tree_at es (number_of_id a)) (tree_at es (number_of_id b))
tree_of_head es (HighHead w) = High (tree_at es (number_of_id w))
tree_of_head es (LowHead w) = Low (tree_at es (number_of_id w))
tree_of_head es (JoinHead h l) = Join (tree_at es (number_of_id h)) (tree_at es (number_of_id l))
tree_of_head es (FlagByteHead s z ac p cy) = FlagByte (tree_at es (number_of_id s)) (tree_at es (number_of_id z)) (tree_at es (number_of_id ac)) (tree_at es (number_of_id p)) (tree_at es (number_of_id cy))
tree_of_head es (BitHead b part) = Bit (tree_at es (number_of_id b)) part
tree_of_head es (TurnHead kind a c) = Turn kind (tree_at es (number_of_id a)) (tree_at es (number_of_id c))
tree_of_head es (TurnedHead c) = Turned (tree_at es (number_of_id c))
tree_of_head es (AdjustHead a ac cy) = Adjust (tree_at es (number_of_id a)) (tree_at es (number_of_id ac)) (tree_at es (number_of_id cy))
tree_of_head es (CodeHead q high) = Code q high
tree_of_head es UnknownHead = Unknown

-- two flags with the last three
abbrev pub flags_with : Term → Term → Entry → Term
flags_with s z (Rest ac p cy) = FlagByte s z ac p cy
flags_with s z (Tree t) = Unknown

-- what a node stands for, where this is what those before it stand for
abbrev pub entry_by : Kind → List Entry → Node → Entry
entry_by FlagByteKind es n = Tree (flags_with (tree_at es n.a) (tree_at es n.b) (slice_index_or es n.c (Tree Unknown)))
entry_by RestKind es n = Rest (tree_at es n.a) (tree_at es n.b) (tree_at es n.c)
entry_by kind es n = Tree (tree_of_head es (head_by kind n))

abbrev pub entry_of : List Entry → Node → Entry
entry_of es n = entry_by (kind_of n.op) es n

-- what all nodes stand for, one after the other
unfoldable pub entries_of : List Node → List Entry
entries_of nodes = fold (λ es n. es ++ entry_of es n ∷ []) [] nodes

-- the FlagByte of five ids
abbrev pub flag_byte_of : List Entry → List TermId → Term
flag_byte_of es (s ∷ z ∷ ac ∷ p ∷ cy ∷ ts) = FlagByte (tree_at es (number_of_id s)) (tree_at es (number_of_id z)) (tree_at es (number_of_id ac)) (tree_at es (number_of_id p)) (tree_at es (number_of_id cy))
flag_byte_of es ts = Unknown

-- the term of an id
abbrev pub tree_in : Contents → TermId → Term
tree_in held t = tree_at (entries_of held.nodes) (number_of_id t)

-- ids are given: they stand for terms
abbrev pub IsGiven : Contents → TermId → Type 0
IsGiven held t = IsTree (entries_of held.nodes) t

abbrev pub AreGiven : Contents → List TermId → Type 0
AreGiven held ts = AreTrees (entries_of held.nodes) ts

-- an id is given, and stands for this term
abbrev pub StandsFor : Contents → TermId → Term → Type 0
StandsFor held t tree = IsGiven held t × (tree_in held t ≡ tree)

-- an id is given, and its term is of a sort
pub record IsA (sort : Term → Bool) (held : Contents) (t : TermId) : Type 0 where
  pub given : IsGiven held t
  pub of_sort : sort (tree_in held t) ≡ true

-- a term has a head, whose operands are given
pub record HasHead (held : Contents) (tree : Term) : Type 0 where
  pub head : Head
  pub is : tree ≡ tree_of_head (entries_of held.nodes) head
  pub given : AreGiven held (operands head)

-- the terms are made, no two ids stand for one term, and each term's operands are given
pub record AreTerms (held : Contents) : Type 0 where
  pub made : (t : TermId) → IsGiven held t → IsTermMade (tree_in held t)
  pub shared : (s t : TermId) → IsGiven held s → IsGiven held t → tree_in held s ≡ tree_in held t → s ≡ t
  pub heads : (t : TermId) → IsGiven held t → HasHead held (tree_in held t)

-- at most so many nodes join, and each id that was given keeps its term
pub record PoolGrows (old new : Contents) (count : ℕ) : Type 0 where
  pub added : List Node
  pub nodes : new.nodes ≡ old.nodes ++ added
  pub few : length added ≤ count
  pub spare : new.spare + length added ≡ old.spare
  pub kept : (t : TermId) → IsGiven old t → StandsFor new t (tree_in old t)

-- there is no room, and no id stands for the term
pub record HasNoRoomFor (held : Contents) (tree : Term) : Type 0 where
  pub full : held.spare ≡ 0
  pub absent : (t : TermId) → ¬ StandsFor held t tree

-- The further node of a FlagByte. Where there is no room for it, there is none for a FlagByte with these last three flags.
pub record MakesRest (old new : Contents) (ac p cy : Term) (made : Option Id) : Type 0 where
  pub grows : PoolGrows old new 1
  pub full : IsNone made → new.spare ≡ 0
  pub absent : IsNone made → (t : TermId) (s z : Term) → ¬ StandsFor new t (FlagByte s z ac p cy)
  pub gives : MatchOption made (Unit {0}) (λ id. slice_get (entries_of new.nodes) id.0 ≡ Some (Rest ac p cy))
  pub room : 1 ≤ old.spare → IsSome made
  pub terms : AreTerms new

-- A maker answers the id of a term, for which it adds at most so many nodes. There is none only where there is no room for it; with
-- so much room there always is one.
pub record Makes (old new : Contents) (count : ℕ) (tree : Term) (made : Option TermId) : Type 0 where
  pub grows : PoolGrows old new count
  pub gives : MatchOption made (HasNoRoomFor new tree) (λ t. StandsFor new t tree)
  pub room : count ≤ old.spare → IsSome made
  pub terms : AreTerms new
