-- The functions that are the console's, and what is answered to one.
use Rattle.std.proofs.Common.{◌≡◌, ◌≢◌, ◌∙◌, ◌==◌, ℕ, ◌<◌, ◌≤◌, List, true, false, refl, ap, arith}
use Rattle.std.specs.Prelude.{Option, Result, Ok, Err, OnErr}
use Rattle.std.proofs.lemmas.Bool.Decides.{nat_tests}
use Rattle.std.proofs.lemmas.Bool.{ne_eqb, or_from, cond-true, cond-false}
use Rattle.dialogue.specs.declared.request.Request.{Request}
use Rattle.bdos_small.specs.Calls.{takes_fcb}
use Rattle.bdos_small.specs.declared.console.Answer.{Answer}
use Rattle.bdos_small.specs.declared.console.Answer.TheVariants.{Reply, InputEnded, NoDrive}
use Rattle.bdos_small.specs.declared.directory.Search.{Search}
use Rattle.bdos_small.specs.Stored.{Stored}
use Rattle.bdos_small.specs.Console.{console_answer, TakesInputByReply}
use Rattle.bdos_small.specs.Small.{Small, small_of, replying, with_search, with_input, file_answer, fcb_answer, small_answer, ChangesByReply}
use Rattle.bdos_small.specs.Files.{search_next, set_random_record}

pub record IsConsoles (f : ℕ) : Type 0 where
  pub no_fcb : takes_fcb f ≡ false
  pub no_search : (f == 18) ≡ false
  pub no_record : (f == 36) ≡ false

-- a function is the console's that is none from 15 to 23 and none from 33 to 36
console_ones : (f : ℕ) → ((g : ℕ) → 15 ≤ g → g < 24 → f ≢ g) → ((g : ℕ) → 33 ≤ g → g < 37 → f ≢ g) → IsConsoles f
console_ones f low high =
    let not_low : (g : ℕ) → 15 ≤ g → g < 24 → (f == g) ≡ false = λ g from upto. ne_eqb f g (low g from upto) in
    let not_high : (g : ℕ) → 33 ≤ g → g < 37 → (f == g) ≡ false = λ g from upto. ne_eqb f g (high g from upto) in
    record {
      no_fcb = or_from (f == 15) _ (not_low 15 (omega arith) (omega arith)) (or_from (f == 16) _ (not_low 16 (omega arith) (omega arith)) (or_from (f == 17) _ (not_low 17 (omega arith) (omega arith)) (or_from (f == 19) _ (not_low 19 (omega arith) (omega arith)) (or_from (f == 20) _ (not_low 20 (omega arith) (omega arith)) (or_from (f == 21) _ (not_low 21 (omega arith) (omega arith)) (or_from (f == 22) _ (not_low 22 (omega arith) (omega arith)) (or_from (f == 23) _ (not_low 23 (omega arith) (omega arith)) (or_from (f == 33) _ (not_high 33 (omega arith) (omega arith)) (or_from (f == 34) _ (not_high 34 (omega arith) (omega arith)) (or_from (f == 35) _ (not_high 35 (omega arith) (omega arith)) refl))))))))));
      no_search = not_low 18 (omega arith) (omega arith);
      no_record = not_high 36 (omega arith) (omega arith);
    }

pub first_ones : (f : ℕ) → f < 15 → IsConsoles f
first_ones f h = console_ones f (λ g from upto e. omega arith) (λ g from upto e. omega arith)

pub middle_ones : (f : ℕ) → 24 ≤ f → f < 33 → IsConsoles f
middle_ones f h k = console_ones f (λ g from upto e. omega arith) (λ g from upto e. omega arith)

pub last_ones : (f : ℕ) → 36 < f → IsConsoles f
last_ones f h = console_ones f (λ g from upto e. omega arith) (λ g from upto e. omega arith)

pub by_console : (s : Small) (q : Request) → IsConsoles q.shape.function → small_answer s q ≡ with_input s (console_answer s.input q)
by_console s q h =
    let f = q.shape.function in
    cond-false (takes_fcb f) _ _ h.no_fcb
    ∙ (cond-false (f == 18) _ _ h.no_search
    ∙ cond-false (f == 36) _ _ h.no_record)

-- the functions from 15 to 23 but for 18, and those from 33 to 35, name a file
takes_them : (f : ℕ) → (f < 15 → ⊥) → f ≢ 18 → (23 < f → f < 33 → ⊥) → (35 < f → ⊥) → takes_fcb f ≡ true
takes_them f a b d g = grind (arith, nat_tests)

pub by_file : (s : Small) (q : Request) → (q.shape.function < 15 → ⊥) → q.shape.function ≢ 18 → (23 < q.shape.function → q.shape.function < 33 → ⊥) → (35 < q.shape.function → ⊥) → small_answer s q ≡ fcb_answer s q
by_file s q a b d g = cond-true (takes_fcb q.shape.function) _ _ (takes_them q.shape.function a b d g)

-- what is answered to function 18, and to function 36
pub by_search : (s : Small) (q : Request) → q.shape.function ≡ 18 → small_answer s q ≡ with_search s (search_next s.disk s.search q)
by_search s q e =
    let f = q.shape.function in
    cond-false (takes_fcb f) _ _ (ap takes_fcb e) ∙ cond-true (f == 18) _ _ (ap (λ n. n == 18) e)

pub by_record : (s : Small) (q : Request) → q.shape.function ≡ 36 → small_answer s q ≡ replying s (set_random_record q)
by_record s q e =
    let f = q.shape.function in
    cond-false (takes_fcb f) _ _ (ap takes_fcb e)
    ∙ (cond-false (f == 18) _ _ (ap (λ n. n == 18) e)
    ∙ cond-true (f == 36) _ _ (ap (λ n. n == 36) e))

-- a BDOS changes as its console does
pub changes_by_reply : (a : Answer) (disk : List Stored) (search : Option Search) (before after : List ℕ) → TakesInputByReply a before after → ChangesByReply a (small_of disk before search) (small_of disk after search)
changes_by_reply (Reply y) disk search before after h = tt
changes_by_reply InputEnded disk search before after h = ap (λ input. small_of disk input search) h
changes_by_reply NoDrive disk search before after h = ap (λ input. small_of disk input search) h

-- the answer to a call of a function of files that is known
pub file_by : (s : Small) (q : Request) (k : ℕ) → q.shape.function ≡ k → file_answer s q ≡ file_answer s (record q { shape = record q.shape { function = k } })
file_by s q k is = ap (λ f. file_answer s (record q { shape = record q.shape { function = f } })) is

-- what stands, whether an error is answered or not
pub still : {T E P : Type 0} (r : Result T E) → P → OnErr r P
still (Ok x) p = tt
still (Err e) p = p
