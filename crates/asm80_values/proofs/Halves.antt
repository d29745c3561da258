-- The data cells in the order of their addresses: each is found at its address, and beside each half of a code address stands
-- its other half.
use Rattle.std.proofs.Common.{◌≡◌, ℕ, ◌+◌, ◌-◌, ◌%◌, ◌≤◌, ◌==◌, Bool, true, false, List, [], ◌∷◌, length, get_or, All, Some, refl, sym, ap, ◌∙◌, arith}
use Rattle.std.proofs.lemmas.Bool.Decides.{nat_tests}
use Rattle.std.proofs.lemmas.List.Elements.{All-nil, All-head, All-tail, All-cons}
use Rattle.cells.specs.declared.Cell.{Cell}
use Rattle.cells.specs.declared.Cell.TheVariants.{Num, Lo, Hi}
use Rattle.cells.specs.declared.Place.TheVariants.{At as AtPlace}
use Rattle.asm80_types.specs.Program.{Program, cell_in, cell_at, is_start, IsDatum, AreData}
use Rattle.asm80_values.specs.Forms.{HoldsByte}
use Rattle.asm80_source_def.specs.Items.{laid_from}
use Rattle.asm80_values.specs.Programs.{AreHalved}
use Rattle.asm80_values.proofs.Times.{one, held_times, held_least}

-- ---- cells at their addresses

one_zero : (b : Bool) → one b ≡ 0 → b ≡ false
one_zero true h = absurd (omega arith)
one_zero false h = refl

-- where no address stands twice, each cell is found
pub all_found : (cs : List (ℕ × Cell)) → ((a : ℕ) → held_times a cs ≤ 1) → All (λ c. cell_in cs c.0 ≡ Some c.1) cs
all_found [] times = All-nil (λ (c : ℕ × Cell). cell_in [] c.0 ≡ Some c.1)
all_found (c ∷ cs) times =
    let itself : (c.0 == c.0) ≡ true = grind (arith, nat_tests) in
    let rest : All (λ (d : ℕ × Cell). cell_in cs d.0 ≡ Some d.1) cs = all_found cs (λ a. omega (arith, times a)) in
    let later : All (λ (d : ℕ × Cell). cell_in (c ∷ cs) d.0 ≡ Some d.1) cs = λ k d lt.
    (let same : ((get_or cs k d).0 == (get_or cs k d).0) ≡ true = grind (arith, nat_tests) in
    let least : 1 ≤ held_times (get_or cs k d).0 cs = rw same at (held_least (get_or cs k d).0 cs k d lt) in
    let once : one (c.0 == (get_or cs k d).0) + held_times (get_or cs k d).0 cs ≤ 1 = times (get_or cs k d).0 in
    let differs : (c.0 == (get_or cs k d).0) ≡ false = one_zero (c.0 == (get_or cs k d).0) (omega arith) in
    rw differs (rest k d lt)) in
    All-cons (λ (d : ℕ × Cell). cell_in (c ∷ cs) d.0 ≡ Some d.1) c cs (rw itself refl) later

-- ---- halves

-- what a cell of data is, its number's range aside
abbrev pub IsHalf : Program → ℕ → Cell → Type 0
IsHalf p a (Num n) = Unit {0}
IsHalf p a c = IsDatum p a c

datum : (p : Program) (a : ℕ) (c : Cell) → HoldsByte c → IsHalf p a c → IsDatum p a c
datum p a (Num n) byte h = byte
datum p a c byte h = h

pub are_data : (p : Program) (cs : List (ℕ × Cell)) → All (λ c. HoldsByte c.1) cs → All (λ c. IsHalf p c.0 c.1) cs → AreData p cs
are_data p [] bytes halves = tt
are_data p (c ∷ cs) bytes halves = (
  datum p c.0 c.1 (All-head (λ (d : ℕ × Cell). HoldsByte d.1) c cs bytes) (All-head (λ (d : ℕ × Cell). IsHalf p d.0 d.1) c cs halves),
  are_data p cs (All-tail (λ (d : ℕ × Cell). HoldsByte d.1) c cs bytes) (All-tail (λ (d : ℕ × Cell). IsHalf p d.0 d.1) c cs halves),
)

pub halved_weaker : (s t : ℕ → Bool) → ((a : ℕ) → s a ≡ true → t a ≡ true) → (cs : List Cell) → AreHalved s cs → AreHalved t cs
halved_weaker s t keep [] h = tt
halved_weaker s t keep (Num n ∷ cs) h = halved_weaker s t keep cs h
halved_weaker s t keep (Lo (AtPlace q) ∷ (Hi (AtPlace r) ∷ cs)) h = (keep q h.0, h.1, halved_weaker s t keep cs h.2)
halved_weaker s t keep cs h = absurd h

low_half : (p : Program) (a b q r : ℕ) → b ≡ a + 1 → r ≡ q → is_start p q ≡ true → cell_at p b ≡ Some (Hi (AtPlace r)) → IsDatum p a (Lo (AtPlace q))
low_half p a b q r next same start high = (start, ap (cell_at p) (sym next) ∙ high ∙ ap (λ n. Some (Hi (AtPlace n))) same)

high_half : (p : Program) (a b q r : ℕ) → b ≡ a + 1 → r ≡ q → is_start p q ≡ true → cell_at p a ≡ Some (Lo (AtPlace q)) → IsDatum p b (Hi (AtPlace r))
high_half p a b q r next same start low =
    let before : b - 1 ≡ a = omega arith in
    (ap (is_start p) same ∙ start, omega arith, ap (cell_at p) before ∙ low ∙ ap (λ n. Some (Lo (AtPlace n))) (sym same))

-- the data of an item
pub laid_halves :
    (p : Program) (at : ℕ) (cs : List Cell) → at + length cs ≤ 0x10000 → AreHalved (is_start p) cs → All (λ c. cell_at p c.0 ≡ Some c.1) (laid_from at cs)
    → All (λ c. IsHalf p c.0 c.1) (laid_from at cs)
laid_halves p at [] fits h found = All-nil (λ (c : ℕ × Cell). IsHalf p c.0 c.1)
laid_halves p at (Num n ∷ cs) fits h found =
    All-cons (λ (c : ℕ × Cell). IsHalf p c.0 c.1) (at % 0x10000, Num n) (laid_from (at + 1) cs) tt
    (laid_halves p (at + 1) cs (omega arith) h (All-tail (λ (c : ℕ × Cell). cell_at p c.0 ≡ Some c.1) (at % 0x10000, Num n) (laid_from (at + 1) cs) found))
laid_halves p at (Lo (AtPlace q) ∷ (Hi (AtPlace r) ∷ cs)) fits h found =
    let next : (at + 1) % 0x10000 ≡ at % 0x10000 + 1 = omega arith in
    let low : ℕ × Cell = (at % 0x10000, Lo (AtPlace q)) in
    let high : ℕ × Cell = ((at + 1) % 0x10000, Hi (AtPlace r)) in
    let behind : List (ℕ × Cell) = laid_from (at + 1 + 1) cs in
    let later = All-tail (λ (c : ℕ × Cell). cell_at p c.0 ≡ Some c.1) low (high ∷ behind) found in
    let low_found : cell_at p (at % 0x10000) ≡ Some (Lo (AtPlace q)) = All-head (λ (c : ℕ × Cell). cell_at p c.0 ≡ Some c.1) low (high ∷ behind) found in
    let high_found : cell_at p ((at + 1) % 0x10000) ≡ Some (Hi (AtPlace r)) = All-head (λ (c : ℕ × Cell). cell_at p c.0 ≡ Some c.1) high behind later in
    All-cons (λ (c : ℕ × Cell). IsHalf p c.0 c.1) low (high ∷ behind) (low_half p (at % 0x10000) ((at + 1) % 0x10000) q r next h.1 h.0 high_found)
    (All-cons (λ (c : ℕ × Cell). IsHalf p c.0 c.1) high behind (high_half p (at % 0x10000) ((at + 1) % 0x10000) q r next h.1 h.0 low_found)
    (laid_halves p (at + 1 + 1) cs (omega arith) h.2 (All-tail (λ (c : ℕ × Cell). cell_at p c.0 ≡ Some c.1) high behind later)))
laid_halves p at cs fits h found = absurd h
