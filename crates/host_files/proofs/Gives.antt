-- The bytes of a file that were given so far to what takes them.
use Rattle.std.proofs.Common.{◌≡◌, ℕ, ◌+◌, ◌<◌, ◌≤◌, List, [], ◌++◌, length, take, refl, ap, ◌∙◌, sym, subst, append_assoc, append-nil, length-append, arith}
use Rattle.std.proofs.Math.Seq.{take-add}
use Rattle.std.proofs.lemmas.List.{length-take, take_all}
use Rattle.host.specs.Host.{FileTold, Untold, Missing, Holds, IsFile, ReadsFile}
use Rattle.host_files.specs.Transfer.{IsLonger, GivesFile}

-- these bytes begin the file, where the host tells it; a file that is not there counts as empty
abbrev pub IsStartOfFile : FileTold → List ℕ → Type 0
IsStartOfFile Untold bytes = Unit {0}
IsStartOfFile Missing bytes = bytes ≡ []
IsStartOfFile (Holds held) bytes = bytes ≡ take (length bytes) held

-- the first bytes of the file, so many, were given
pub record Gives {S : Type 0} (has : S → List ℕ → Type 0) (told : FileTold) (at : ℕ) (old new : S) : Type 0 where
  pub bytes : List ℕ
  pub count : length bytes ≡ at
  pub start : IsStartOfFile told bytes
  pub given : (before : List ℕ) → has old before → has new (before ++ bytes)

-- none
start_none : (told : FileTold) → IsStartOfFile told []
start_none Untold = tt
start_none Missing = refl
start_none (Holds held) = refl

pub gives_none : {S : Type 0} (has : S → List ℕ → Type 0) (told : FileTold) (s : S) → Gives has told 0 s s
gives_none has told s = record {
  bytes = [];
  count = refl;
  start = start_none told;
  given = λ before h. subst (has s) (sym (append-nil before)) h;
}

-- one more piece
start_more : (told : FileTold) (bytes into : List ℕ) (k : ℕ) → k ≤ length into → IsStartOfFile told bytes → ReadsFile told (length bytes) k into → IsStartOfFile told (bytes ++ take k into)
start_more Untold bytes into k le s r = tt
start_more Missing bytes into k le s r = absurd r
start_more (Holds held) bytes into k le s r =
    let size : length (bytes ++ take k into) ≡ length bytes + k = omega (arith, length-append bytes (take k into), length-take k into, le) in
    ap (λ x. x ++ take k into) s ∙ ap (λ x. take (length bytes) held ++ x) r.same ∙ sym (take-add (length bytes) k held) ∙ ap (λ n. take n held) (sym size)

pub gives_more : {S : Type 0} (has : S → List ℕ → Type 0) (told : FileTold) (at k : ℕ) (into : List ℕ) (old mid new : S) → Gives has told at old mid → k ≤ length into → ReadsFile told at k into →
    ((before : List ℕ) → has mid before → has new (before ++ take k into)) → Gives has told (at + k) old new
gives_more has told at k into old mid new g le r step =
    let count = g.count in
    record {
      bytes = g.bytes ++ take k into;
      count = omega (arith, count, length-append g.bytes (take k into), length-take k into, le);
      start = start_more told g.bytes into k le g.start (subst (λ n. ReadsFile told n k into) (sym count) r);
      given = λ before h. subst (has new) (append_assoc before g.bytes (take k into)) (step (before ++ g.bytes) (g.given before h));
    }

-- more bytes were given than the limit
longer : (told : FileTold) (limit : ℕ) (bytes : List ℕ) → limit < length bytes → IsStartOfFile told bytes → IsLonger told limit
longer Untold limit bytes over s = (bytes, tt, over)
longer Missing limit bytes over s = absurd (omega (arith, ap length s, over))
longer (Holds held) limit bytes over s =
    (held, refl, omega (arith, over, ap length s, length-take (length bytes) held))

pub gives_longer : {S : Type 0} {has : S → List ℕ → Type 0} {told : FileTold} {at : ℕ} {old new : S} (limit : ℕ) → Gives has told at old new → limit < at → IsLonger told limit
gives_longer {told = told} limit g over = longer told limit g.bytes (subst (λ n. limit < n) (sym g.count) over) g.start

-- all bytes were given: no more are read behind them
whole : (told : FileTold) (bytes into : List ℕ) → IsStartOfFile told bytes → ReadsFile told (length bytes) 0 into → IsFile told bytes
whole Untold bytes into s r = tt
whole Missing bytes into s r = absurd r
whole (Holds held) bytes into s r = sym (s ∙ take_all (length bytes) held (r.ends.0 refl))

pub gives_whole : {S : Type 0} {has : S → List ℕ → Type 0} {told : FileTold} {at : ℕ} {old new : S} (limit : ℕ) (into : List ℕ) → Gives has told at old new → at ≤ limit → ReadsFile told at 0 into → GivesFile has told limit old new
gives_whole {told = told} limit into g within r = record {
  bytes = g.bytes;
  whole = whole told g.bytes into g.start (subst (λ n. ReadsFile told n 0 into) (sym g.count) r);
  within = subst (λ n. n ≤ limit) (sym g.count) within;
  given = g.given;
}
