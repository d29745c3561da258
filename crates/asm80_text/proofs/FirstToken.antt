-- The token at the front of bytes, by the first byte.
use Rattle.std.proofs.Common.{◌≡◌, ℕ, List, ◌∷◌, ◌<◌, ◌≤◌, length, Result, Bor, sym, ap, subst, arith}
use Rattle.std.specs.Prelude.{IfOk}
use Rattle.std.proofs.lemmas.Result.{IfOk-weaker}
use Rattle.asm80_text.specs.declared.token.Token.{Token}
use Rattle.asm80_text.specs.declared.fault.ScanFault.{ScanFault}
use Rattle.asm80_text.specs.Spelling.{Spelling}
use Rattle.asm80_text.specs.TokenResults.{Finds, FindsFirst}
use Rattle.asm80_text.specs.Tokens.{string_at, token_at}

-- a string behind its opening quote
pub finds_string : (s : Spelling) (bytes rest : List ℕ) (b : ℕ) (r : Result (Token × Bor (List ℕ)) ScanFault) → bytes ≡ b ∷ rest → b ≡ 39 → Finds (string_at rest) r → FindsFirst s bytes r
unfolding token_at
finds_string s bytes rest b r begins is found =
    let First : List ℕ → Type 0 = λ bs. FindsFirst s bs r in
    let At : ℕ → Type 0 = λ n. Finds (token_at s n rest) r in
    subst First (sym begins) (subst At (sym is) found)

pub shorter_by_one : (bytes rest : List ℕ) (b : ℕ) → bytes ≡ b ∷ rest → length rest < length bytes
shorter_by_one bytes rest b begins = omega (arith, ap length begins)

pub shorter_behind :
    (bytes rest : List ℕ) (b : ℕ) (r : Result (Token × Bor (List ℕ)) ScanFault) → bytes ≡ b ∷ rest → IfOk r (λ x. length x.1.now ≤ length rest)
    → IfOk r (λ x. length x.1.now < length bytes)
shorter_behind bytes rest b r begins small =
    let one : length rest < length bytes = shorter_by_one bytes rest b begins in
    IfOk-weaker r (λ x. length x.1.now ≤ length rest) (λ x. length x.1.now < length bytes) (λ x le. omega (arith, le, one)) small
