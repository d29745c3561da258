-- When a term of the 8080 agrees with one of the 8086: where the 8080 knows nothing; where both are one term in which nothing is
-- unknown; a word by its halves; a byte of flags by its flags.
use Rattle.std.specs.Prelude.{◌==◌, ◌&&◌, ◌||◌, not, Bool, true, false, List, [], ◌∷◌}
use Rattle.cells.specs.declared.Part.TheVariants.{S, Z, Ac, P, Cy}
use Rattle.cells.specs.Places.{same_place}
use Rattle.sym_terms.specs.Term.{Term, Num, Start, StartSp, Loaded8, Loaded16, Alu, Flag, Sum16, High, Low, Join, FlagByte, Bit, Turn, Turned, Adjust, Code, Unknown, same_bool, same_term}
use Rattle.sym_terms.specs.Making.{high, low, bit}
use Rattle.sym_block_def.specs.Outcome.{Action, Load8, Load16, Store8, Store16, Way, Goto, ByTerms, Call, Sys, SysReturn, Boot, Leave, In, Out, Exit, One, Two}

-- an Unknown stands in it
abbrev pub has_unknown : Term → Bool
has_unknown (Num n) = false
has_unknown (Start part) = false
has_unknown StartSp = false
has_unknown (Loaded8 k) = false
has_unknown (Loaded16 k) = false
has_unknown (Alu op a b c) = has_unknown a || (has_unknown b || has_unknown c)
has_unknown (Flag part r) = has_unknown r
has_unknown (Sum16 a b) = has_unknown a || has_unknown b
has_unknown (High w) = has_unknown w
has_unknown (Low w) = has_unknown w
has_unknown (Join h l) = has_unknown h || has_unknown l
has_unknown (FlagByte s z ac p cy) = has_unknown s || (has_unknown z || (has_unknown ac || (has_unknown p || has_unknown cy)))
has_unknown (Bit b part) = has_unknown b
has_unknown (Turn kind a c) = has_unknown a || has_unknown c
has_unknown (Turned c) = has_unknown c
has_unknown (Adjust a ac cy) = has_unknown a || (has_unknown ac || has_unknown cy)
has_unknown (Code q high) = false
has_unknown Unknown = true

abbrev pub same_known : Term → Term → Bool
same_known s t = same_term s t && not (has_unknown s)

abbrev pub agrees : Term → Term → Bool
agrees Unknown t = true
agrees (Join h l) t = same_known (Join h l) t || (agrees h (high t) && agrees l (low t))
agrees (FlagByte s z ac p cy) t =
    same_known (FlagByte s z ac p cy) t
    || (agrees s (bit t S) && (agrees z (bit t Z) && (agrees ac (bit t Ac) && (agrees p (bit t P) && agrees cy (bit t Cy)))))
agrees s t = same_known s t

-- loads and stores: the same kinds in the same order
abbrev pub action_agrees : Action → Action → Bool
action_agrees (Load8 a) (Load8 b) = agrees a b
action_agrees (Load16 a) (Load16 b) = agrees a b
action_agrees (Store8 a v) (Store8 b w) = agrees a b && agrees v w
action_agrees (Store16 a v) (Store16 b w) = agrees a b && agrees v w
action_agrees x y = false

abbrev pub actions_agree : List Action → List Action → Bool
actions_agree [] [] = true
actions_agree (x ∷ xs) (y ∷ ys) = action_agrees x y && actions_agree xs ys
actions_agree xs ys = false

-- a way that leaves the profile agrees with every way; another with one of the same kind, port and places, and terms that agree
abbrev pub way_agrees : Way → Way → Bool
way_agrees Leave y = true
way_agrees (Goto q) (Goto r) = same_place q r
way_agrees (ByTerms h l) (ByTerms x y) = agrees h x && agrees l y
way_agrees (Call q back) (Call r back') = same_place q r && same_place back back'
way_agrees (Sys back) (Sys back') = same_place back back'
way_agrees SysReturn SysReturn = true
way_agrees Boot Boot = true
way_agrees (In port next) (In port' next') = (port == port') && same_place next next'
way_agrees (Out port next) (Out port' next') = (port == port') && same_place next next'
way_agrees x y = false

-- two ways by the same value of the flag agree in their order, by opposite values crosswise
abbrev pub ways_agree : Bool → Way → Way → Way → Way → Bool
ways_agree true a b x y = way_agrees a x && way_agrees b y
ways_agree false a b x y = way_agrees a y && way_agrees b x

abbrev pub exit_agrees : Exit → Exit → Bool
exit_agrees (One Leave) y = true
exit_agrees (One way) (One way') = way_agrees way way'
exit_agrees (Two f v a b) (Two g w x y) = agrees f g && ways_agree (same_bool v w) a b x y
exit_agrees x y = false
