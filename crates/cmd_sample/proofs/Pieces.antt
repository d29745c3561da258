-- The lines of the made source are of simple words.
use Rattle.std.proofs.Common.{◌≡◌, ℕ, zero, suc, ◌+◌, ◌*◌, ◌<◌, ◌≤◌, List, [], ◌∷◌, ◌++◌, Bool, true, length, refl, subst, arith, inl, inr, ◌&&◌, length-append}
use Rattle.std.specs.Prelude.{codes, map}
use Rattle.std.specs.List.{list_all, flat_map, AllByRecursion}
use Rattle.std.specs.Fmt.{decimal}
use Rattle.std.proofs.lemmas.List.{length-map}
use Rattle.std.proofs.lemmas.Bool.Decides.{nat_tests}
use Rattle.asm80_types.specs.Name.{IsNameByte}
use Rattle.asm80_text.specs.Letters.{is_upper}
use Rattle.asm80_text.specs.Numbers.{total, value_in, number_of}
use Rattle.asm80_types.specs.Words.{operations, registers}
use Rattle.asm80_text.specs.Words.{word_token}
use Rattle.asm80_text.specs.Intel.{intel_spelling}
use Rattle.asm80_text.specs.Grammar.{alone, tighter, digits, number, name, register}
use Rattle.asm80_text.specs.declared.token.Token.{Token}
use Rattle.asm80_text.specs.declared.token.Token.TheVariants.{Digits, Num, Word, Register, Operation}
use Rattle.asm80_text.specs.Statement.{value}
use Rattle.cmd_sample.specs.Written as written
use Rattle.cmd_sample.specs.Sample.{up_to, turns_of, letter_of, byte_of, call, routine, begin, sample_lines}
use Rattle.cmd_sample.proofs.Each.{each_append, each_by, each_map, each_flat_map}
use Rattle.cmd_sample.proofs.Decimals.{IsDigit, decimal_digits, decimal_some, decimal_short, decimal_total}
use Rattle.cmd_sample.proofs.Lexemes.{Lexeme, IsCapital, name_of_digit, name_lexeme, number_lexeme, digits_lexeme}
use Rattle.cmd_sample.proofs.Names.{word_with_digit, letter_and_digits}
use Rattle.cmd_sample.proofs.Rows.{IsSimple, IsPlainLine}

-- ---- words of capital letters

capital : (b : ℕ) → is_upper b ≡ true → IsCapital b
capital b h = (grind (arith, nat_tests), grind (arith, nat_tests))

parts : (x y : Bool) → (x && y) ≡ true → (x ≡ true) × (y ≡ true)
parts x y e = (grind arith, grind arith)

capitals : (w : List ℕ) → list_all is_upper w ≡ true → AllByRecursion IsNameByte w
capitals [] h = tt
capitals (b ∷ w) h = let both = parts (is_upper b) (list_all is_upper w) h in (inr (capital b both.0), capitals w both.1)

capitals_lexeme : (b : ℕ) (w : List ℕ) (t : Token) → list_all is_upper (b ∷ w) ≡ true → length w ≤ 15 → word_token intel_spelling (b ∷ w) ≡ t → Lexeme (b ∷ w) t
capitals_lexeme b w t h le e =
    let both = parts (is_upper b) (list_all is_upper w) h in
    subst (Lexeme (b ∷ w)) e (name_lexeme b w (capital b both.0) (capitals w both.1) le)

-- an operation
abbrev IsOperation : List ℕ → Type 0
IsOperation w = Lexeme w (Operation w)

org : IsOperation (codes "ORG")
unfolding word_token operations
org = capitals_lexeme _ _ _ refl (omega arith) refl

call_operation : IsOperation (codes "CALL")
unfolding word_token operations
call_operation = capitals_lexeme _ _ _ refl (omega arith) refl

jmp : IsOperation (codes "JMP")
unfolding word_token operations
jmp = capitals_lexeme _ _ _ refl (omega arith) refl

lxi : IsOperation (codes "LXI")
unfolding word_token operations
lxi = capitals_lexeme _ _ _ refl (omega arith) refl

mvi : IsOperation (codes "MVI")
unfolding word_token operations
mvi = capitals_lexeme _ _ _ refl (omega arith) refl

inx : IsOperation (codes "INX")
unfolding word_token operations
inx = capitals_lexeme _ _ _ refl (omega arith) refl

dcr : IsOperation (codes "DCR")
unfolding word_token operations
dcr = capitals_lexeme _ _ _ refl (omega arith) refl

jnz : IsOperation (codes "JNZ")
unfolding word_token operations
jnz = capitals_lexeme _ _ _ refl (omega arith) refl

dad : IsOperation (codes "DAD")
unfolding word_token operations
dad = capitals_lexeme _ _ _ refl (omega arith) refl

db : IsOperation (codes "DB")
unfolding word_token operations
db = capitals_lexeme _ _ _ refl (omega arith) refl

end_operation : IsOperation (codes "END")
unfolding word_token operations
end_operation = capitals_lexeme _ _ _ refl (omega arith) refl

-- ---- operands

-- a register
register_simple : (b : ℕ) → is_upper b ≡ true → word_token intel_spelling (b ∷ []) ≡ Register (b ∷ []) → IsSimple (written.name (b ∷ []))
register_simple b h e = record {
  token = Register (b ∷ []);
  lexeme = capitals_lexeme b [] (Register (b ∷ [])) (rw h refl) (omega arith) e;
  operand = λ ts. value (alone (tighter (alone (tighter (alone (tighter (alone (tighter (alone (tighter (alone register)))))))))));
  quiet = record { no_bang = refl; no_opening = λ n. refl };
  no_colon = λ ts. refl;
}

register_b : IsSimple (written.name (codes "B"))
unfolding word_token operations registers
register_b = register_simple _ refl refl

register_c : IsSimple (written.name (codes "C"))
unfolding word_token operations registers
register_c = register_simple _ refl refl

register_e : IsSimple (written.name (codes "E"))
unfolding word_token operations registers
register_e = register_simple _ refl refl

register_h : IsSimple (written.name (codes "H"))
unfolding word_token operations registers
register_h = register_simple _ refl refl

-- a label: a letter and a number
label_lexeme : (b k : ℕ) → is_upper b ≡ true → k < 65536 → Lexeme (b ∷ decimal k) (Word (b ∷ decimal k))
label_lexeme b k h lt =
    let ds = decimal_digits k lt in
    subst (Lexeme (b ∷ decimal k)) (word_with_digit (b ∷ decimal k) (letter_and_digits b (decimal k) ds (decimal_some k lt)))
    (name_lexeme b (decimal k) (capital b h) (each_by IsDigit IsNameByte name_of_digit (decimal k) ds) (omega (arith, decimal_short k lt)))

label_simple : (b k : ℕ) → is_upper b ≡ true → k < 65536 → IsSimple (written.name (b ∷ decimal k))
label_simple b k h lt = record {
  token = Word (b ∷ decimal k);
  lexeme = label_lexeme b k h lt;
  operand = λ ts. value (alone (tighter (alone (tighter (alone (tighter (alone (tighter (alone (tighter (alone name)))))))))));
  quiet = record { no_bang = refl; no_opening = λ n. refl };
  no_colon = λ ts. refl;
}

number_simple : (n : ℕ) → n < 65536 → IsSimple (written.number n)
number_simple n lt = record {
  token = Digits n;
  lexeme = digits_lexeme (decimal n) n (decimal_digits n lt) (decimal_some n lt) (omega (arith, decimal_short n lt)) (decimal_total n lt) lt;
  operand = λ ts. value (alone (tighter (alone (tighter (alone (tighter (alone (tighter (alone (tighter (alone digits)))))))))));
  quiet = record { no_bang = refl; no_opening = λ n. refl };
  no_colon = λ ts. refl;
}

begin_simple : IsSimple begin
unfolding number_of value_in total
begin_simple = record {
  token = Num 0x100;
  lexeme = number_lexeme 49 (codes "00H") 0x100 (omega arith, omega arith) (inl (omega arith, omega arith), (inl (omega arith, omega arith), (inr (omega arith, omega arith), tt))) (omega arith) refl;
  operand = λ ts. value (alone (tighter (alone (tighter (alone (tighter (alone (tighter (alone (tighter (alone number)))))))))));
  quiet = record { no_bang = refl; no_opening = λ n. refl };
  no_colon = λ ts. refl;
}

-- ---- lines

bare_line : (op : List ℕ) (as' : List written.Argument) → IsOperation op → AllByRecursion IsSimple as' → length as' ≤ 2 → IsPlainLine (written.unlabelled op as')
bare_line op as' o h few = record { label = tt; operation = o; arguments = h; few = few }

label_line : (label op : List ℕ) (as' : List written.Argument) → Lexeme label (Word label) → IsOperation op → AllByRecursion IsSimple as' → length as' ≤ 2 → IsPlainLine (written.labelled label op as')
label_line label op as' l o h few = record { label = l; operation = o; arguments = h; few = few }

call_plain : (k : ℕ) → k ≤ 500 → IsPlainLine (call k)
call_plain k le = bare_line _ _ call_operation (label_simple 82 k refl (omega arith), tt) (omega arith)

routine_plain : (k : ℕ) → k ≤ 500 → AllByRecursion IsPlainLine (routine k)
routine_plain k le =
    let lt : k < 65536 = omega arith in (
      label_line _ _ _ (label_lexeme 82 k refl lt) lxi (register_h, (label_simple 87 k refl lt, tt)) (omega arith),
      (
        bare_line _ _ mvi (register_b, (number_simple (turns_of k) (omega arith), tt)) (omega arith),
        (
          label_line _ _ _ (label_lexeme 81 k refl lt) inx (register_h, tt) (omega arith),
          (
            bare_line _ _ dcr (register_b, tt) (omega arith),
            (
              bare_line _ _ inx (register_h, tt) (omega arith),
              (
                bare_line _ _ jnz (label_simple 81 k refl lt, tt) (omega arith),
                (
                  bare_line _ _ dad (register_h, tt) (omega arith),
                  (
                    bare_line _ _ mvi (register_e, (number_simple (letter_of k) (omega arith), tt)) (omega arith),
                    (
                      bare_line _ _ mvi (register_c, (number_simple 2 (omega arith), tt)) (omega arith),
                      (
                        bare_line _ _ jmp (number_simple 5 (omega arith), tt) (omega arith),
                        (
                          label_line _ _ _ (label_lexeme 87 k refl lt) db (number_simple (byte_of k) (omega arith), tt) (omega arith),
                          tt,
                        ),
                      ),
                    ),
                  ),
                ),
              ),
            ),
          ),
        ),
      ),
    )

-- ---- the whole

up_to_within : (n m : ℕ) → n ≤ m → AllByRecursion (λ k. k ≤ m) (up_to n)
up_to_within zero m le = tt
up_to_within (suc n) m le = each_append (λ k. k ≤ m) (up_to n) (suc n ∷ []) (up_to_within n m (omega arith)) (omega arith, tt)

pub sample_plain : (K : ℕ) → K ≤ 500 → AllByRecursion IsPlainLine (sample_lines K)
sample_plain K le =
    let ks = up_to_within K 500 le in
    let behind : AllByRecursion IsPlainLine (flat_map routine (up_to K) ++ written.unlabelled (codes "END") [] ∷ []) =
    each_append IsPlainLine (flat_map routine (up_to K)) _ (each_flat_map (λ k. k ≤ 500) IsPlainLine routine routine_plain (up_to K) ks) (bare_line _ _ end_operation tt (omega arith), tt) in (
      bare_line _ _ org (begin_simple, tt) (omega arith),
      each_append IsPlainLine (map call (up_to K)) _ (each_map (λ k. k ≤ 500) IsPlainLine call call_plain (up_to K) ks)
          (bare_line _ _ jmp (number_simple 0 (omega arith), tt) (omega arith), behind),
    )

-- ---- how many there are

length_up_to : (n : ℕ) → length (up_to n) ≡ n
length_up_to zero = refl
length_up_to (suc n) = omega (arith, length-append (up_to n) (suc n ∷ []), length_up_to n)

length_routines : (ks : List ℕ) → length (flat_map routine ks) ≡ 11 * length ks
length_routines [] = omega arith
length_routines (k ∷ ks) = omega (arith, length-append (routine k) (flat_map routine ks), length_routines ks)

pub sample_length : (K : ℕ) → length (sample_lines K) ≡ 3 + 12 * K
sample_length K =
    let calls = map call (up_to K) in
    let routines = flat_map routine (up_to K) in
    let last = written.unlabelled (codes "END") [] ∷ [] in
    omega (arith, length-append calls (written.unlabelled (codes "JMP") (written.number 0 ∷ []) ∷ (routines ++ last)), length-append routines last, length-map (up_to K) call, length_routines (up_to K), length_up_to K)
