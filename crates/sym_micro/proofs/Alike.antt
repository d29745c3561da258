-- What lists of micro-operations leave of any register, as the processors see it. What a register is given depends on which one it is, so
-- each equation is seen by cases.
use Rattle.std.proofs.Common.{◌≡◌, ◌∙◌, ℕ, ◌≤◌, true, false, [], ◌∷◌, Option, refl, ap, lit≤}
use Rattle.cells.specs.declared.Place.{Place}
use Rattle.i80.specs.declared.Op.{Op}
use Rattle.i80.specs.declared.Op.TheVariants.{Add, Adc, Xra}
use Rattle.i86.specs.declared.Rotate.{Rotate}
use Rattle.xlt_pool.specs.Contents.{Contents}
use Rattle.sym_block_def.specs.Block80.{Symbolic80}
use Rattle.sym_block_def.specs.Symbolic86.{Symbolic86, store8, code_word}
use Rattle.sym_micro.specs.declared.run.Run.{Run}
use Rattle.sym_micro.specs.declared.micro.ByteSlot.{ByteSlot}
use Rattle.sym_micro.specs.declared.micro.ByteSlot.TheVariants.{Of80 as Byte80, Of86 as Byte86, T, U}
use Rattle.sym_micro.specs.declared.micro.FlagSlot.TheVariants.{Cy}
use Rattle.sym_micro.specs.declared.micro.FlagSet.TheVariants.{AllButCy}
use Rattle.sym_micro.specs.declared.micro.FlagValue.TheVariants.{OfResult, OfTurned}
use Rattle.sym_micro.specs.declared.micro.WordSlot.TheVariants.{V, W, X}
use Rattle.sym_micro.specs.declared.micro.Wide.{Wide}
use Rattle.sym_micro.specs.declared.micro.Wide.TheVariants.{Of80 as Wide80, Of86 as Wide86}
use Rattle.sym_micro.specs.declared.micro.ByteValue.TheVariants.{Of as OfByte, Number as NumberByte, Code as CodeByte, Half, Result, Turned as TurnedByte, Loaded as LoadedByte}
use Rattle.sym_micro.specs.declared.micro.WordValue.{WordValue}
use Rattle.sym_micro.specs.declared.micro.WordValue.TheVariants.{Of as OfWide, Number as NumberWord, Join as JoinWord, Loaded as LoadedWord}
use Rattle.sym_micro.specs.declared.micro.Micro.TheVariants.{Byte, Word, Flag as FlagMicro, Flags as FlagsMicro, Put, Sum, Operate, Turn, Load8 as LoadByte, Load16 as LoadWord, Store8 as StoreByte}
use Rattle.sym_micro.specs.Machine.{Machine, as80, as86, byte_in, with_wide, word_value, micros}
use Rattle.sym_micro.specs.Alike.{counted, rotated, complemented, word_added, number_added, byte_loaded, word_loaded}
use Rattle.sym_micro.specs.Stands.{GoesOn}
use Rattle.sym_micro.proofs.Ready.{goes_on_as}

-- what the 8080 sees of what the 8086 sees
abbrev pub seen_80 : Symbolic86 → Symbolic80
seen_80 s = record { held = s.held; sp = s.sp; trace = s.trace }

-- what a list leaves may be said otherwise, of what the one sees and of what the other does

pub on_86 : {old new : Contents} {r s : Run} {made : Option (Unit {0})} {x y : Symbolic86} → x ≡ y → GoesOn old new r s 24 2 (λ m. as86 m ≡ x) made → GoesOn old new r s 24 2 (λ m. as86 m ≡ y) made
on_86 {old} {new} {r} {s} {made} {x} {y} e g = goes_on_as old new r s 24 24 2 2 (λ m. as86 m ≡ x) (λ m. as86 m ≡ y) made (lit≤ tt) (lit≤ tt) g (λ m h. h ∙ e)

pub on_80 : {old new : Contents} {r s : Run} {made : Option (Unit {0})} {x y : Symbolic86} → x ≡ y → GoesOn old new r s 24 2 (λ m. as86 m ≡ x) made → GoesOn old new r s 24 2 (λ m. as80 m ≡ seen_80 y) made
on_80 {old} {new} {r} {s} {made} {x} {y} e g = goes_on_as old new r s 24 24 2 2 (λ m. as86 m ≡ x) (λ m. as80 m ≡ seen_80 y) made (lit≤ tt) (lit≤ tt) g (λ m h. ap seen_80 (h ∙ e))

pub all_on_86 : {old new : Contents} {r s : Run} {made : Option (Unit {0})} {x : Machine} {y : Symbolic86} (j k a b : ℕ) → j ≤ k → a ≤ b → as86 x ≡ y → GoesOn old new r s j a (λ m. m ≡ x) made → GoesOn old new r s k b (λ m. as86 m ≡ y) made
all_on_86 {old} {new} {r} {s} {made} {x} {y} j k a b le le' e g = goes_on_as old new r s j k a b (λ m. m ≡ x) (λ m. as86 m ≡ y) made le le' g (λ m h. ap as86 h ∙ e)

pub all_on_80 : {old new : Contents} {r s : Run} {made : Option (Unit {0})} {x : Machine} {y : Symbolic86} (j k a b : ℕ) → j ≤ k → a ≤ b → as86 x ≡ y → GoesOn old new r s j a (λ m. m ≡ x) made → GoesOn old new r s k b (λ m. as80 m ≡ seen_80 y) made
all_on_80 {old} {new} {r} {s} {made} {x} {y} j k a b le le' e g = goes_on_as old new r s j k a b (λ m. m ≡ x) (λ m. as80 m ≡ seen_80 y) made le le' g (λ m h. ap seen_80 (ap as86 h ∙ e))

-- arithmetic

pub counts : (m : Machine) (op : Op) (on : ByteSlot) → as86 (micros m (Byte T (OfByte on) ∷ (Byte U (NumberByte 1) ∷ (Operate op T U ∷ (Byte on Result ∷ (FlagsMicro AllButCy OfResult ∷ [])))))) ≡ as86 (counted m op on)
counts m op (Byte80 r) = refl
counts m op (Byte86 r) = refl
counts m op T = refl
counts m op U = refl

pub rotates : (m : Machine) (kind : Rotate) (on : ByteSlot) → as86 (micros m (Turn kind on ∷ (Byte on TurnedByte ∷ (FlagMicro Cy OfTurned ∷ [])))) ≡ as86 (rotated m kind on)
rotates m kind (Byte80 r) = refl
rotates m kind (Byte86 r) = refl
rotates m kind T = refl
rotates m kind U = refl

pub complements : (m : Machine) (on : ByteSlot) → as86 (micros m (Byte T (OfByte on) ∷ (Byte U (NumberByte 255) ∷ (Operate Xra T U ∷ (Byte on Result ∷ []))))) ≡ as86 (complemented m on)
complements m (Byte80 r) = refl
complements m (Byte86 r) = refl
complements m T = refl
complements m U = refl

-- the halves of two words are added, and the words, whose sum one of them is given
pub adds_words : (m : Machine) (to from : Wide)
    → as86
    (micros m (Word W (OfWide to) ∷ (Word V (OfWide from) ∷ (Sum X W V ∷ (Put to X ∷ (Byte T (Half W false) ∷ (Byte U (Half V false) ∷ (Operate Add T U ∷ (FlagMicro Cy OfResult ∷ (Byte T (Half W true) ∷ (Byte U (Half V true) ∷ (Operate Adc T U ∷ (FlagMicro Cy OfResult ∷ [])))))))))))))
    ≡ as86 (word_added m to from)
adds_words m (Wide80 p) (Wide80 q) = refl
adds_words m (Wide80 p) (Wide86 q) = refl
adds_words m (Wide86 p) (Wide80 q) = refl
adds_words m (Wide86 p) (Wide86 q) = refl

pub adds_number : (m : Machine) (to : Wide) (n : ℕ) → as86 (micros m (Word W (OfWide to) ∷ (Word V (NumberWord n) ∷ (Sum W W V ∷ (Put to W ∷ []))))) ≡ as86 (number_added m to n)
adds_number m (Wide80 p) n = refl
adds_number m (Wide86 r) n = refl

-- moves

pub moves_word : (m : Machine) (to : Wide) (value : WordValue) → as86 (micros m (Word W value ∷ (Put to W ∷ []))) ≡ as86 (with_wide m to (word_value m value))
moves_word m (Wide80 p) value = refl
moves_word m (Wide86 r) value = refl

pub moves_code : (m : Machine) (to : Wide) (place : Place) → as86 (micros m (Byte T (CodeByte place true) ∷ (Byte U (CodeByte place false) ∷ (Word W (JoinWord T U) ∷ (Put to W ∷ []))))) ≡ as86 (with_wide m to (code_word place))
moves_code m (Wide80 p) place = refl
moves_code m (Wide86 r) place = refl

pub loads_byte : (m : Machine) (to : ByteSlot) (at : WordValue) → as86 (micros m (Word W at ∷ (Byte T LoadedByte ∷ (LoadByte W ∷ (Byte to (OfByte T) ∷ []))))) ≡ as86 (byte_loaded m to (word_value m at))
loads_byte m (Byte80 r) at = refl
loads_byte m (Byte86 r) at = refl
loads_byte m T at = refl
loads_byte m U at = refl

pub loads_word : (m : Machine) (to : Wide) (at : WordValue) → as86 (micros m (Word W at ∷ (Word V LoadedWord ∷ (LoadWord W ∷ (Put to V ∷ []))))) ≡ as86 (word_loaded m to (word_value m at))
loads_word m (Wide80 p) at = refl
loads_word m (Wide86 r) at = refl

pub stores_byte : (m : Machine) (at : WordValue) (from : ByteSlot) → as86 (micros m (Word W at ∷ (StoreByte W from ∷ []))) ≡ store8 (as86 m) (word_value m at) (byte_in m from)
stores_byte m at (Byte80 r) = refl
stores_byte m at (Byte86 r) = refl
stores_byte m at T = refl
stores_byte m at U = refl
