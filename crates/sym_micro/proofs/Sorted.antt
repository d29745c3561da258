-- Micro-operations keep the terms of the registers made and of their sorts.
use Rattle.std.proofs.Common.{◌≡◌, ℕ, ◌<◌, ◌||◌, ◌&&◌, Bool, true, false, cond, refl, ap, lit<}
use Rattle.std.proofs.lemmas.Bool.{lt-ltb}
use Rattle.cells.specs.declared.Part.{Part}
use Rattle.cells.specs.declared.Part.TheVariants.{Cy as PartCy}
use Rattle.i80.specs.declared.Op.{Op}
use Rattle.i80.specs.declared.Op.TheVariants.{Adc, Sbb, Xra, Cmp}
use Rattle.i80.specs.declared.Reg.{Reg as Register}
use Rattle.i80.specs.declared.Reg.TheVariants.{A as RegA, B as RegB, C as RegC, D as RegD, E as RegE, H as RegH, L as RegL}
use Rattle.i80.specs.declared.Pair.{Pair}
use Rattle.i80.specs.declared.Pair.TheVariants.{B as PairB, D as PairD, H as PairH, Sp as PairSp}
use Rattle.i86.specs.declared.Reg8.TheVariants.{Al, Cl, Dl, Bl, Ah, Ch, Dh, Bh}
use Rattle.i86.specs.declared.Reg16.TheVariants.{Ax, Cx, Dx, Bx, Sp, Si}
use Rattle.i86.specs.declared.Ptr.{Ptr}
use Rattle.i86.specs.declared.Ptr.TheVariants.{Bx as PtrBx, Si as PtrSi}
use Rattle.i86.specs.declared.Rotate.{Rotate}
use Rattle.i86.specs.declared.Rotate.TheVariants.{Rol, Ror, Rcl, Rcr}
use Rattle.sym_terms.specs.Term.{Term, Num, Start, Alu, Turn, Turned, Adjust, Unknown, is_flag, is_bit, is_byte, is_word, is_open, leaves_flag}
use Rattle.sym_terms.specs.Making.{alu, half_of, turn, turn_or_turned, adjust}
use Rattle.sym_terms.specs.Laws.{IsMadeAs, MadeTermsHaveSorts}
use Rattle.sym_terms.proofs.Sorts.{byte_sorted as byte_number_sorted, leaves_open}
use Rattle.sym_block_def.specs.Outcome.{Held}
use Rattle.sym_block_def.specs.Block80.{operation, carry_in, a_after, flag_byte}
use Rattle.sym_block_def.specs.Symbolic86.{pointed, turn_kind, turn_carry, brought_back}
use Rattle.sym_block_def.specs.Sorts.{HeldIsSorted}
use Rattle.sym_micro.specs.declared.micro.ByteSlot.{ByteSlot}
use Rattle.sym_micro.specs.declared.micro.ByteSlot.TheVariants.{Of80 as Byte80, Of86 as Byte86, T, U}
use Rattle.sym_micro.specs.declared.micro.FlagSlot.{FlagSlot}
use Rattle.sym_micro.specs.declared.micro.FlagSlot.TheVariants.{S, Z, Ac, P, Cy}
use Rattle.sym_micro.specs.declared.micro.WordSlot.{WordSlot}
use Rattle.sym_micro.specs.declared.micro.WordSlot.TheVariants.{V, W, X}
use Rattle.sym_micro.specs.declared.micro.Wide.{Wide}
use Rattle.sym_micro.specs.declared.micro.Wide.TheVariants.{Of80 as Wide80, Of86 as Wide86}
use Rattle.sym_micro.specs.declared.micro.ByteValue.{ByteValue}
use Rattle.sym_micro.specs.declared.micro.ByteValue.TheVariants.{Of as OfByte, Number as NumberByte, Start as StartByte, Code as CodeByte, Half, Result, After, Turned as TurnedByte, Loaded as LoadedByte}
use Rattle.sym_micro.specs.declared.micro.WordValue.{WordValue}
use Rattle.sym_micro.specs.declared.micro.WordValue.TheVariants.{Of as OfWide, Pointed, Number as NumberWord, Join as JoinWord, StartSp as StartSpWord, Turned as TurnedWord, Loaded as LoadedWord, Unknown as UnknownWord}
use Rattle.sym_micro.specs.declared.micro.FlagValue.{FlagValue}
use Rattle.sym_micro.specs.declared.micro.FlagValue.TheVariants.{Number as NumberFlag, Start as StartFlag, OfResult, OfTurned, InByte, BroughtBack, Unknown as UnknownFlag}
use Rattle.sym_micro.specs.Machine.{Machine, as86, byte_in, with_byte, word_in, with_word, with_flag, part_of_flag, wide_in, byte_value, word_value, flag_value, ByteIsCoded, WordIsCoded}
use Rattle.sym_micro.specs.Stands.{IsResult, IsTurned, IsSorted}

zero_bit : IsMadeAs is_bit (Num 0)
zero_bit = (lit< tt, refl)

one_bit : IsMadeAs is_bit (Num 1)
one_bit = (lit< tt, refl)

one_byte : IsMadeAs is_byte (Num 1)
one_byte = (lit< tt, refl)

-- registers

pub byte_sorted : (m : Machine) (r : ByteSlot) → IsSorted m → IsMadeAs is_byte (byte_in m r)
byte_sorted m (Byte80 RegA) h = h.held.a
byte_sorted m (Byte80 RegB) h = h.held.b
byte_sorted m (Byte80 RegC) h = h.held.c
byte_sorted m (Byte80 RegD) h = h.held.d
byte_sorted m (Byte80 RegE) h = h.held.e
byte_sorted m (Byte80 RegH) h = h.held.h
byte_sorted m (Byte80 RegL) h = h.held.l
byte_sorted m (Byte86 Ah) h = h.ah
byte_sorted m (Byte86 Al) h = h.held.a
byte_sorted m (Byte86 Cl) h = h.held.c
byte_sorted m (Byte86 Dl) h = h.held.e
byte_sorted m (Byte86 Bl) h = h.held.l
byte_sorted m (Byte86 Ch) h = h.held.b
byte_sorted m (Byte86 Dh) h = h.held.d
byte_sorted m (Byte86 Bh) h = h.held.h
byte_sorted m T h = h.t
byte_sorted m U h = h.u

pub word_sorted : (m : Machine) (r : WordSlot) → IsSorted m → IsMadeAs is_word (word_in m r)
word_sorted m V h = h.v
word_sorted m W h = h.w
word_sorted m X h = h.x

with_reg_sorted : (m : Machine) (r : Register) (q : Term) → IsSorted m → IsMadeAs is_byte q → IsSorted (with_byte m (Byte80 r) q)
with_reg_sorted m RegA q h p = record { held = record { a = p; b = h.held.b; c = h.held.c; d = h.held.d; e = h.held.e; h = h.held.h; l = h.held.l; s = h.held.s; z = h.held.z; ac = h.held.ac; p = h.held.p; cy = h.held.cy }; ah = h.ah; si = h.si; sp = h.sp; t = h.t; u = h.u; v = h.v; w = h.w; x = h.x; result = h.result; turned = h.turned }
with_reg_sorted m RegB q h p = record { held = record { a = h.held.a; b = p; c = h.held.c; d = h.held.d; e = h.held.e; h = h.held.h; l = h.held.l; s = h.held.s; z = h.held.z; ac = h.held.ac; p = h.held.p; cy = h.held.cy }; ah = h.ah; si = h.si; sp = h.sp; t = h.t; u = h.u; v = h.v; w = h.w; x = h.x; result = h.result; turned = h.turned }
with_reg_sorted m RegC q h p = record { held = record { a = h.held.a; b = h.held.b; c = p; d = h.held.d; e = h.held.e; h = h.held.h; l = h.held.l; s = h.held.s; z = h.held.z; ac = h.held.ac; p = h.held.p; cy = h.held.cy }; ah = h.ah; si = h.si; sp = h.sp; t = h.t; u = h.u; v = h.v; w = h.w; x = h.x; result = h.result; turned = h.turned }
with_reg_sorted m RegD q h p = record { held = record { a = h.held.a; b = h.held.b; c = h.held.c; d = p; e = h.held.e; h = h.held.h; l = h.held.l; s = h.held.s; z = h.held.z; ac = h.held.ac; p = h.held.p; cy = h.held.cy }; ah = h.ah; si = h.si; sp = h.sp; t = h.t; u = h.u; v = h.v; w = h.w; x = h.x; result = h.result; turned = h.turned }
with_reg_sorted m RegE q h p = record { held = record { a = h.held.a; b = h.held.b; c = h.held.c; d = h.held.d; e = p; h = h.held.h; l = h.held.l; s = h.held.s; z = h.held.z; ac = h.held.ac; p = h.held.p; cy = h.held.cy }; ah = h.ah; si = h.si; sp = h.sp; t = h.t; u = h.u; v = h.v; w = h.w; x = h.x; result = h.result; turned = h.turned }
with_reg_sorted m RegH q h p = record { held = record { a = h.held.a; b = h.held.b; c = h.held.c; d = h.held.d; e = h.held.e; h = p; l = h.held.l; s = h.held.s; z = h.held.z; ac = h.held.ac; p = h.held.p; cy = h.held.cy }; ah = h.ah; si = h.si; sp = h.sp; t = h.t; u = h.u; v = h.v; w = h.w; x = h.x; result = h.result; turned = h.turned }
with_reg_sorted m RegL q h p = record { held = record { a = h.held.a; b = h.held.b; c = h.held.c; d = h.held.d; e = h.held.e; h = h.held.h; l = p; s = h.held.s; z = h.held.z; ac = h.held.ac; p = h.held.p; cy = h.held.cy }; ah = h.ah; si = h.si; sp = h.sp; t = h.t; u = h.u; v = h.v; w = h.w; x = h.x; result = h.result; turned = h.turned }

pub with_byte_sorted : (m : Machine) (r : ByteSlot) (q : Term) → IsSorted m → IsMadeAs is_byte q → IsSorted (with_byte m r q)
with_byte_sorted m (Byte80 r) q h p = with_reg_sorted m r q h p
with_byte_sorted m (Byte86 Ah) q h p = record { held = h.held; ah = p; si = h.si; sp = h.sp; t = h.t; u = h.u; v = h.v; w = h.w; x = h.x; result = h.result; turned = h.turned }
with_byte_sorted m (Byte86 Al) q h p = with_reg_sorted m RegA q h p
with_byte_sorted m (Byte86 Cl) q h p = with_reg_sorted m RegC q h p
with_byte_sorted m (Byte86 Dl) q h p = with_reg_sorted m RegE q h p
with_byte_sorted m (Byte86 Bl) q h p = with_reg_sorted m RegL q h p
with_byte_sorted m (Byte86 Ch) q h p = with_reg_sorted m RegB q h p
with_byte_sorted m (Byte86 Dh) q h p = with_reg_sorted m RegD q h p
with_byte_sorted m (Byte86 Bh) q h p = with_reg_sorted m RegH q h p
with_byte_sorted m T q h p = record { held = h.held; ah = h.ah; si = h.si; sp = h.sp; t = p; u = h.u; v = h.v; w = h.w; x = h.x; result = h.result; turned = h.turned }
with_byte_sorted m U q h p = record { held = h.held; ah = h.ah; si = h.si; sp = h.sp; t = h.t; u = p; v = h.v; w = h.w; x = h.x; result = h.result; turned = h.turned }

pub with_word_sorted : (m : Machine) (r : WordSlot) (q : Term) → IsSorted m → IsMadeAs is_word q → IsSorted (with_word m r q)
with_word_sorted m V q h p = record { held = h.held; ah = h.ah; si = h.si; sp = h.sp; t = h.t; u = h.u; v = p; w = h.w; x = h.x; result = h.result; turned = h.turned }
with_word_sorted m W q h p = record { held = h.held; ah = h.ah; si = h.si; sp = h.sp; t = h.t; u = h.u; v = h.v; w = p; x = h.x; result = h.result; turned = h.turned }
with_word_sorted m X q h p = record { held = h.held; ah = h.ah; si = h.si; sp = h.sp; t = h.t; u = h.u; v = h.v; w = h.w; x = p; result = h.result; turned = h.turned }

pub with_flag_sorted : (m : Machine) (r : FlagSlot) (q : Term) → IsSorted m → IsMadeAs is_bit q → IsSorted (with_flag m r q)
with_flag_sorted m S q h p = record { held = record { a = h.held.a; b = h.held.b; c = h.held.c; d = h.held.d; e = h.held.e; h = h.held.h; l = h.held.l; s = p; z = h.held.z; ac = h.held.ac; p = h.held.p; cy = h.held.cy }; ah = h.ah; si = h.si; sp = h.sp; t = h.t; u = h.u; v = h.v; w = h.w; x = h.x; result = h.result; turned = h.turned }
with_flag_sorted m Z q h p = record { held = record { a = h.held.a; b = h.held.b; c = h.held.c; d = h.held.d; e = h.held.e; h = h.held.h; l = h.held.l; s = h.held.s; z = p; ac = h.held.ac; p = h.held.p; cy = h.held.cy }; ah = h.ah; si = h.si; sp = h.sp; t = h.t; u = h.u; v = h.v; w = h.w; x = h.x; result = h.result; turned = h.turned }
with_flag_sorted m Ac q h p = record { held = record { a = h.held.a; b = h.held.b; c = h.held.c; d = h.held.d; e = h.held.e; h = h.held.h; l = h.held.l; s = h.held.s; z = h.held.z; ac = p; p = h.held.p; cy = h.held.cy }; ah = h.ah; si = h.si; sp = h.sp; t = h.t; u = h.u; v = h.v; w = h.w; x = h.x; result = h.result; turned = h.turned }
with_flag_sorted m P q h k = record { held = record { a = h.held.a; b = h.held.b; c = h.held.c; d = h.held.d; e = h.held.e; h = h.held.h; l = h.held.l; s = h.held.s; z = h.held.z; ac = h.held.ac; p = k; cy = h.held.cy }; ah = h.ah; si = h.si; sp = h.sp; t = h.t; u = h.u; v = h.v; w = h.w; x = h.x; result = h.result; turned = h.turned }
with_flag_sorted m Cy q h p = record { held = record { a = h.held.a; b = h.held.b; c = h.held.c; d = h.held.d; e = h.held.e; h = h.held.h; l = h.held.l; s = h.held.s; z = h.held.z; ac = h.held.ac; p = h.held.p; cy = p }; ah = h.ah; si = h.si; sp = h.sp; t = h.t; u = h.u; v = h.v; w = h.w; x = h.x; result = h.result; turned = h.turned }

pub with_result_sorted : (m : Machine) (q : Term) → IsSorted m → IsResult q → IsSorted (record m { result = q })
with_result_sorted m q h p = record { held = h.held; ah = h.ah; si = h.si; sp = h.sp; t = h.t; u = h.u; v = h.v; w = h.w; x = h.x; result = p; turned = h.turned }

pub with_turned_sorted : (m : Machine) (q : Term) → IsSorted m → IsTurned q → IsSorted (record m { turned = q })
with_turned_sorted m q h p = record { held = h.held; ah = h.ah; si = h.si; sp = h.sp; t = h.t; u = h.u; v = h.v; w = h.w; x = h.x; result = h.result; turned = p }

-- results

turn_leaves : (x : Bool) (kind : ℕ) (a c : Term) → leaves_flag PartCy (cond x Unknown (Turn kind a c)) ≡ true
turn_leaves true kind a c = refl
turn_leaves false kind a c = refl

kind_below : (kind : Rotate) → turn_kind kind < 4
kind_below Rol = lit< tt
kind_below Ror = lit< tt
kind_below Rcl = lit< tt
kind_below Rcr = lit< tt

-- none of the four is the rotation of a word
pub turn_is : (kind : Rotate) (a c : Term) → turn_or_turned (turn_kind kind) a c ≡ turn (turn_kind kind) a c
turn_is Rol a c = refl
turn_is Ror a c = refl
turn_is Rcl a c = refl
turn_is Rcr a c = refl

pub flag_is : (f : FlagSlot) → is_flag (part_of_flag f) ≡ true
flag_is S = refl
flag_is Z = refl
flag_is Ac = refl
flag_is P = refl
flag_is Cy = refl

pub carry_in_sorted : (op : Op) (cy : Term) → IsMadeAs is_bit cy → IsMadeAs is_bit (carry_in op cy)
carry_in_sorted Adc cy h = h
carry_in_sorted Sbb cy h = h
carry_in_sorted op cy h = zero_bit

pub turn_carry_sorted : (kind : Rotate) (cf : Term) → IsMadeAs is_bit cf → IsMadeAs is_bit (turn_carry kind cf)
turn_carry_sorted Rol cf h = zero_bit
turn_carry_sorted Ror cf h = zero_bit
turn_carry_sorted Rcl cf h = h
turn_carry_sorted Rcr cf h = h

brought_back_sorted : (w : Term) → IsMadeAs is_word w → IsMadeAs is_bit (brought_back w)
brought_back_sorted (Turned c) h = h.0
brought_back_sorted w h = (tt, refl)

start_sorted : (known : Bool) (part : Part) → IsMadeAs is_byte (cond known (Start part) Unknown)
start_sorted true part = (tt, refl)
start_sorted false part = (tt, refl)

start_flag_sorted : (known : Bool) (f : FlagSlot) → IsMadeAs is_bit (cond known (Start (part_of_flag f)) Unknown)
start_flag_sorted true f = (tt, flag_is f)
start_flag_sorted false f = (tt, refl)

number_flag_sorted : (set : Bool) → IsMadeAs is_bit (Num (cond set 1 0))
number_flag_sorted true = one_bit
number_flag_sorted false = zero_bit

after_sorted : (m : Machine) (op : Op) → IsSorted m → IsMadeAs is_byte (a_after op m.held.a m.result)
after_sorted m Cmp h = h.held.a
after_sorted m op h = h.result.byte

module _ (k : MadeTermsHaveSorts) where
  pub operated_sorted : (op : Op) (a b cy : Term) → IsMadeAs is_byte a → IsMadeAs is_byte b → IsMadeAs is_bit cy → IsResult (alu (operation op) a b (carry_in op cy))
  operated_sorted op a b cy p q r =
      let c = carry_in op cy in
      record { byte = k.alu (operation op) a b c p q (carry_in_sorted op cy r); leaves = λ part h. leaves_open (is_open a || (is_open b || is_open c)) (Alu (operation op) a b c) part h refl }

  pub adjusted_sorted : (a ac cy : Term) → IsMadeAs is_byte a → IsMadeAs is_bit ac → IsMadeAs is_bit cy → IsResult (adjust a ac cy)
  adjusted_sorted a ac cy p q r = record { byte = k.adjust a ac cy p q r; leaves = λ part h. leaves_open (is_open a || (is_open ac || is_open cy)) (Adjust a ac cy) part h refl }

  pub turned_sorted : (kind : Rotate) (a cy : Term) → IsMadeAs is_byte a → IsMadeAs is_bit cy → IsTurned (turn (turn_kind kind) a (turn_carry kind cy))
  turned_sorted kind a cy p q =
      let c = turn_carry kind cy in
      record { byte = k.turn (turn_kind kind) a c (kind_below kind) p (turn_carry_sorted kind cy q); leaves = turn_leaves (is_open a || is_open c) (turn_kind kind) a c }

  pub complement_sorted : (t : Term) → IsMadeAs is_bit t → IsMadeAs is_bit (alu Xra t (Num 1) (Num 0))
  complement_sorted t h = ((k.alu Xra t (Num 1) (Num 0) (k.bits_are_bytes t h) one_byte zero_bit).0, by_test (is_open t || false))
    where
      by_test : (x : Bool) → is_bit (cond x Unknown (Alu Xra t (Num 1) (Num 0))) ≡ true
      by_test true = refl
      by_test false = ap (λ b. b && true) h.1

  half_sorted : (is_high : Bool) (w : Term) → IsMadeAs is_word w → IsMadeAs is_byte (half_of is_high w)
  half_sorted true w h = k.high w h
  half_sorted false w h = k.low w h

  pair_sorted : (m : Machine) (pair : Pair) → IsSorted m → IsMadeAs is_word (wide_in m (Wide80 pair))
  pair_sorted m PairB h = k.join m.held.b m.held.c h.held.b h.held.c
  pair_sorted m PairD h = k.join m.held.d m.held.e h.held.d h.held.e
  pair_sorted m PairH h = k.join m.held.h m.held.l h.held.h h.held.l
  pair_sorted m PairSp h = h.sp

  pub wide_sorted : (m : Machine) (r : Wide) → IsSorted m → IsMadeAs is_word (wide_in m r)
  wide_sorted m (Wide80 pair) h = pair_sorted m pair h
  wide_sorted m (Wide86 Ax) h = k.join m.ah m.held.a h.ah h.held.a
  wide_sorted m (Wide86 Cx) h = pair_sorted m PairB h
  wide_sorted m (Wide86 Dx) h = pair_sorted m PairD h
  wide_sorted m (Wide86 Bx) h = pair_sorted m PairH h
  wide_sorted m (Wide86 Sp) h = h.sp
  wide_sorted m (Wide86 Si) h = h.si

  pointed_sorted : (m : Machine) (p : Ptr) → IsSorted m → IsMadeAs is_word (pointed (as86 m) p)
  pointed_sorted m PtrBx h = pair_sorted m PairH h
  pointed_sorted m PtrSi h = h.si

  -- values

  pub byte_value_sorted : (m : Machine) (value : ByteValue) → ByteIsCoded value → IsSorted m → IsMadeAs is_byte (byte_value m value)
  byte_value_sorted m (OfByte r) c h = byte_sorted m r h
  byte_value_sorted m (NumberByte n) c h = byte_number_sorted n c
  byte_value_sorted m (StartByte known part) c h = start_sorted known part
  byte_value_sorted m (CodeByte place is_high) c h = (tt, refl)
  byte_value_sorted m (Half w is_high) c h = half_sorted is_high (word_in m w) (word_sorted m w h)
  byte_value_sorted m Result c h = h.result.byte
  byte_value_sorted m (After op) c h = after_sorted m op h
  byte_value_sorted m TurnedByte c h = h.turned.byte
  byte_value_sorted m LoadedByte c h = (tt, refl)

  pub word_value_sorted : (m : Machine) (value : WordValue) → WordIsCoded value → IsSorted m → IsMadeAs is_word (word_value m value)
  word_value_sorted m (OfWide r) c h = wide_sorted m r h
  word_value_sorted m (Pointed p) c h = pointed_sorted m p h
  word_value_sorted m (NumberWord n) c h = (c, lt-ltb n 0x10000 c)
  word_value_sorted m (JoinWord x y) c h = k.join (byte_in m x) (byte_in m y) (byte_sorted m x h) (byte_sorted m y h)
  word_value_sorted m StartSpWord c h = (tt, refl)
  word_value_sorted m TurnedWord c h = k.turned m.held.cy h.held.cy
  word_value_sorted m LoadedWord c h = (tt, refl)
  word_value_sorted m UnknownWord c h = (tt, refl)

  pub flag_value_sorted : (m : Machine) (f : FlagSlot) (value : FlagValue) → IsSorted m → IsMadeAs is_bit (flag_value m f value)
  flag_value_sorted m f (NumberFlag set) h = number_flag_sorted set
  flag_value_sorted m f (StartFlag known) h = start_flag_sorted known f
  flag_value_sorted m f OfResult h = k.flag (part_of_flag f) m.result (h.result.byte.0, h.result.leaves (part_of_flag f) (flag_is f))
  flag_value_sorted m f OfTurned h = k.flag PartCy m.turned (h.turned.byte.0, h.turned.leaves)
  flag_value_sorted m f (InByte r) h = k.bit (byte_in m r) (part_of_flag f) (byte_sorted m r h) (flag_is f)
  flag_value_sorted m f (BroughtBack w) h = brought_back_sorted (word_in m w) (word_sorted m w h)
  flag_value_sorted m f UnknownFlag h = (tt, refl)

  pub flag_byte_sorted : (x : Held) → HeldIsSorted x → IsMadeAs is_byte (flag_byte x)
  flag_byte_sorted x h = k.flag_byte x.s x.z x.ac x.p x.cy h.s h.z h.ac h.p h.cy
