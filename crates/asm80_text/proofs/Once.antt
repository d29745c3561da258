-- A line gives one thing.
use Rattle.std.proofs.Common.{◌≡◌, ℕ, ◌≤◌, List, Bool, true, false, Option, Result, Ok, Err, length, refl, ap, arith}
use Rattle.asm80_types.specs.declared.fault.LineRule.{LineRule}
use Rattle.asm80_types.specs.declared.fault.ReadFault.{ReadFault}
use Rattle.asm80_types.specs.declared.fault.ReadFault.TheVariants.{Syntax, Memory}
use Rattle.asm80_types.specs.declared.stmt.Stmt80.{Stmt80}
use Rattle.asm80_text.specs.declared.token.Token.{Token}
use Rattle.asm80_text.specs.Spelling.{Spelling}
use Rattle.asm80_text.specs.Coherent.{IsCoherent}
use Rattle.asm80_text.specs.Tokens.{Lexes}
use Rattle.asm80_types.specs.Tree.{Statement}
use Rattle.asm80_text.proofs.Lexing.{one_reading}
use Rattle.asm80_text.specs.Line.{parts_of, PartsGive, deep, malformed, formed, TextGives, reserved, faulty, sound, LineGives, late, long, remark, told, IsRemark}
use Rattle.asm80_text.specs.Results.{ReadsText, ReadsLine}
use Rattle.asm80_text.proofs.Alone.{one_list_of_statements}

true_false : (b : Bool) → b ≡ true → b ≡ false → ⊥
true_false b e f = cc

module _ (spelling : Spelling) (coherent : IsCoherent spelling) where
  one_give : {n : ℕ} {parts : List (List Token)} {r s : Result (List Statement) LineRule} → PartsGive spelling n parts r → PartsGive spelling n parts s → r ≡ s
  one_give (deep a) (deep b) = refl
  one_give (deep a) (malformed b n) = absurd (true_false _ a b)
  one_give (deep a) (formed b x) = absurd (true_false _ a b)
  one_give (malformed a n) (deep b) = absurd (true_false _ b a)
  one_give (malformed a n) (malformed b m) = refl
  one_give (malformed a n) (formed {ss = ss} b x) = absurd (n ss x)
  one_give (formed a x) (deep b) = absurd (true_false _ b a)
  one_give (formed {ss = ss} a x) (malformed b m) = absurd (m ss x)
  one_give (formed a x) (formed b y) = ap (λ (k : List Statement). Ok k) (one_list_of_statements spelling coherent x y)

  one_text : {n : ℕ} {parts : List (List Token)} {f : Option LineRule} {r s : Result (List Statement) LineRule} → TextGives spelling n parts f r → TextGives spelling n parts f s → r ≡ s
  one_text (reserved a) (reserved b) = refl
  one_text (reserved a) (faulty b) = absurd (true_false _ a b)
  one_text (reserved a) (sound b x) = absurd (true_false _ a b)
  one_text (faulty a) (reserved b) = absurd (true_false _ b a)
  one_text (faulty a) (faulty b) = refl
  one_text (sound a x) (reserved b) = absurd (true_false _ b a)
  one_text (sound a x) (sound b y) = one_give x y

  pub one_line : {n : ℕ} {line : List ℕ} {r s : Result (List Statement) LineRule} → LineGives spelling n line r → LineGives spelling n line s → r ≡ s
  one_line (late a) (late b) = refl
  one_line (late a) (long b c) = absurd (omega arith)
  one_line (late a) (remark b c d) = absurd (omega arith)
  one_line (late a) (told b c d x y) = absurd (omega arith)
  one_line (long a k) (late b) = absurd (omega arith)
  one_line (long a k) (long b c) = refl
  one_line (long a k) (remark b c d) = absurd (omega arith)
  one_line (long a k) (told b c d x y) = absurd (omega arith)
  one_line (remark a l k) (late b) = absurd (omega arith)
  one_line (remark a l k) (long b c) = absurd (omega arith)
  one_line (remark a l k) (remark b c d) = refl
  one_line (remark a l k) (told b c d x y) = absurd (d k)
  one_line (told a l k x y) (late b) = absurd (omega arith)
  one_line (told a l k x y) (long b c) = absurd (omega arith)
  one_line (told a l k x y) (remark b c d) = absurd (k d)
  one_line (told a l k x y) (told b c d z w) = let h = one_reading x z in one_text y (rw (← h.0, ← h.1) at w)

-- ---- what a function read

pub line_from_text : (s : Spelling) (n : ℕ) (line : List ℕ) (ts : List Token) (parts : List (List Token)) (f : Option LineRule) (old new : List Stmt80) (r : Result (Unit {0}) ReadFault) → n ≤ 32768 → length line ≤ 255 → (IsRemark line → ⊥) → Lexes s line ts f → parts ≡ parts_of ts → ReadsText s n parts f old new r → ReadsLine s n line old new r
line_from_text s n line ts parts f old new (Ok u) a b c x e h = (h.0, h.1, told a b c x (rw e at h.2))
line_from_text s n line ts parts f old new (Err Memory) a b c x e h = tt
line_from_text s n line ts parts f old new (Err (Syntax m r)) a b c x e h = (h.0, h.1, told a b c x (rw e at h.2))
