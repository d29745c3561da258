-- What of two outcomes does not agree: the first load or store, the first terms of two exits.
use Rattle.std.specs.Prelude.{Bool, cond, List, [], ◌∷◌, Option, Some, None}
use Rattle.sym_terms.specs.Term.{Term, same_bool}
use Rattle.sym_block_def.specs.Outcome.{Action, Load8, Load16, Store8, Store16, Way, ByTerms, Exit, One, Two}
use Rattle.sym_block_def.specs.Agree.{agrees, action_agrees}
use Rattle.block_explain.specs.Smallest.{TermPair, pair}

-- a load or a store on either side, where there is one
pub record ActionPair : Type 0 where
  pub ours : Option Action
  pub theirs : Option Action

-- the first two that do not agree, or the first one without a partner
abbrev pub first_apart : List Action → List Action → ActionPair
first_apart (x ∷ xs) (y ∷ ys) = cond (action_agrees x y) (first_apart xs ys) (record { ours = Some x; theirs = Some y })
first_apart (x ∷ xs) [] = record { ours = Some x; theirs = None }
first_apart [] (y ∷ ys) = record { ours = None; theirs = Some y }
first_apart [] [] = record { ours = None; theirs = None }

-- two terms, where they do not agree
abbrev pub if_apart : Term → Term → Option TermPair
if_apart s t = cond (agrees s t) None (Some (pair s t))

-- the first pair that is there
abbrev pub first_of : Option TermPair → Option TermPair → Option TermPair
first_of (Some p) q = Some p
first_of None q = q

-- of two of one kind the first terms that do not agree, the address before the value
abbrev pub action_terms : Option Action → Option Action → Option TermPair
action_terms (Some (Load8 a)) (Some (Load8 b)) = if_apart a b
action_terms (Some (Load16 a)) (Some (Load16 b)) = if_apart a b
action_terms (Some (Store8 a v)) (Some (Store8 b w)) = first_of (if_apart a b) (if_apart v w)
action_terms (Some (Store16 a v)) (Some (Store16 b w)) = first_of (if_apart a b) (if_apart v w)
action_terms x y = None

-- of two ways by terms the first that do not agree, the high byte before the low one
abbrev pub way_terms : Way → Way → Option TermPair
way_terms (ByTerms h l) (ByTerms x y) = first_of (if_apart h x) (if_apart l y)
way_terms a b = None

-- of the ways of two exits, which are paired as they have to agree
abbrev pub ways_terms : Bool → Way → Way → Way → Way → Option TermPair
ways_terms same a b x y = cond same (first_of (way_terms a x) (way_terms b y)) (first_of (way_terms a y) (way_terms b x))

-- of two exits of one form the first terms that do not agree, the flags before the ways
abbrev pub exit_terms : Exit → Exit → Option TermPair
exit_terms (One a) (One x) = way_terms a x
exit_terms (Two f v a b) (Two g w x y) = first_of (if_apart f g) (ways_terms (same_bool v w) a b x y)
exit_terms x y = None
