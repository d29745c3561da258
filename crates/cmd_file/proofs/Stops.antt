-- Where bytes cannot go on to be a command file.
use Rattle.std.proofs.Common.{◌≡◌, ℕ, suc, ◌+◌, ◌-◌, ◌<◌, ◌≤◌, false, List, ◌∷◌, ◌++◌, length, take, drop, get_or, replicate, refl, sym, ap, ◌∙◌, subst, inl, inr, arith, append_assoc, lit<}
use Rattle.std.specs.List.{All}
use Rattle.std.proofs.lemmas.Bool.{cases_lt, both_ways}
use Rattle.std.proofs.lemmas.List.{length-append, length-take-le, length-replicate, take-append-drop, take_all, take_at, get_or-take, get_or_append_left}
use Rattle.std.proofs.lemmas.List.Elements.{All-take, All-append, All-replicate}
use Rattle.base.specs.Prefixes.{IsPrefixOf, CannotGoOn}
use Rattle.base.proofs.Fronts.{AreFronts, stops_at}
use Rattle.cmd_file.specs.CommandFile.{IsCommandFile, IsCommandFileBytes}
use Rattle.cmd_file.specs.Header.{may_stand, FitsBelow, code_size, data_size, groups_end, HasHeader}
use Rattle.cmd_file.proofs.Fitting.{fits_past, fits_front, front_fits, lacks, completed, length-completed, completed_small, completed_fits}
use Rattle.cmd_file.proofs.Files.{IsSpelt, groups_in, spelt_is_file, file_is_spelt}

-- what a command file begins with
record IsFront (front : List ℕ) : Type 0 where
  pub small : All (λ b. b < 256) front
  pub fits : FitsBelow (length front) front
  pub most : length front ≤ groups_end front + 127

-- the lengths in the header are among its first twelve bytes
same_end : (front rest : List ℕ) → 12 ≤ length front → groups_end (front ++ rest) ≡ groups_end front
same_end front rest long =
    let a = get_or_append_left front rest 0 1 (omega (arith, long)) in
    let b = get_or_append_left front rest 0 2 (omega (arith, long)) in
    let c = get_or_append_left front rest 0 10 (omega (arith, long)) in
    let d = get_or_append_left front rest 0 11 (omega (arith, long)) in
    omega arith

-- a front is one of the file that has zeros in all other places
goes_on : (front : List ℕ) → IsFront front → (whole : List ℕ) × IsCommandFileBytes whole × IsPrefixOf front whole
goes_on front is =
    let header = completed front in
    let more = groups_end header - length header in
    let whole = header ++ replicate more 0 in
    let size : length header ≡ length front + (72 - length front) = length-completed front in
    let end : groups_end whole ≡ groups_end header = same_end header (replicate more 0) (omega (arith, size)) in
    let all : length whole ≡ length header + more = length-append header (replicate more 0) ∙ ap (λ n. length header + n) (length-replicate {A = ℕ} more 0) in
    let room : length header ≤ groups_end header + 127 = elim (cases_lt (length front) 72) [
      | inl lt ↦ omega (arith, size, lt)
      | inr le ↦ omega (arith, size, le, is.most, same_end front (lacks front) (omega (arith, le)))
    ] in
    let spelt : IsSpelt whole = record {
      small = All-append (λ b. b < 256) header (replicate more 0) (completed_small front is.small) (All-replicate (λ b. b < 256) more 0 (lit< tt));
      fits = fits_front 72 header (replicate more 0) (omega (arith, size)) (completed_fits front is.small is.fits);
      least = omega (arith, end, all);
      most = omega (arith, end, all, room);
    } in
    (whole, (groups_in whole, spelt_is_file whole spelt), (lacks front ++ replicate more 0, append_assoc front (lacks front) (replicate more 0)))

begins : (front whole : List ℕ) → IsCommandFileBytes whole → IsPrefixOf front whole → IsFront front
begins front whole is begin =
    let rest = begin.0 in
    let spelt : IsSpelt (front ++ rest) = subst IsSpelt begin.1 (file_is_spelt whole is.0 is.1).0 in
    record {
      small = subst (All (λ b. b < 256)) (take_at front rest (length front) refl) (All-take (λ b. b < 256) (length front) (front ++ rest) spelt.small);
      fits = front_fits (length front) front rest (omega arith) (fits_past 72 (length front) (front ++ rest) (omega arith) spelt.fits);
      most = elim (cases_lt (length front) 12) [
        | inl lt ↦ omega (arith, lt)
        | inr le ↦ omega (arith, spelt.most, same_end front rest le, length-append front rest)
      ];
    }

fronts : AreFronts IsCommandFileBytes IsFront
fronts = record { goes_on = goes_on; begins = begins }

same_end_take : (bytes : List ℕ) (k : ℕ) → 12 ≤ k → k ≤ length bytes → groups_end (take k bytes) ≡ groups_end bytes
same_end_take bytes k long le = sym (same_end (take k bytes) (drop k bytes) (omega (arith, long, length-take-le k bytes le))) ∙ ap groups_end (take-append-drop k bytes)

fits_take : (n k : ℕ) (bytes : List ℕ) → n ≤ k → k ≤ length bytes → FitsBelow n bytes → FitsBelow n (take k bytes)
fits_take n k bytes below le fits =
    front_fits n (take k bytes) (drop k bytes) (omega (arith, below, length-take-le k bytes le)) (subst (FitsBelow n) (sym (take-append-drop k bytes)) fits)

-- a byte of the header that cannot stand, or is not there
pub header_stops : (bytes : List ℕ) (k : ℕ) → All (λ b. b < 256) bytes → k < 72 → k ≤ length bytes → FitsBelow k bytes → (k < length bytes → may_stand k (get_or (0 ∷ bytes) k 0) (get_or bytes k 0) ≡ false) → CannotGoOn IsCommandFileBytes bytes k
header_stops bytes k small header within fits stops =
    stops_at fronts bytes k within
    (record {
      small = All-take (λ b. b < 256) k bytes small;
      fits = subst (λ n. FitsBelow n (take k bytes)) (sym (length-take-le k bytes within)) (fits_take k k bytes (omega arith) within fits);
      most = omega (arith, length-take-le k bytes within, header);
    })
    (λ lt is.
    let long : k < length (take (k + 1) bytes) = omega (arith, length-take-le (k + 1) bytes (omega (arith, lt))) in
    let same : may_stand k (get_or (0 ∷ take (k + 1) bytes) k 0) (get_or (take (k + 1) bytes) k 0) ≡ may_stand k (get_or (0 ∷ bytes) k 0) (get_or bytes k 0) =
    ap (λ before. may_stand k before (get_or (take (k + 1) bytes) k 0)) (get_or-take (suc (k + 1)) (0 ∷ bytes) k 0 (omega arith))
    ∙ ap (may_stand k (get_or (0 ∷ bytes) k 0)) (get_or-take (k + 1) bytes k 0 (omega arith))
    in both_ways _ (stops lt) (sym same ∙ is.fits k long))
    (λ end is. let least = (file_is_spelt bytes is.0 is.1).0.least in absurd (omega (arith, least, end, header)))

module _ (bytes : List ℕ) (small : All (λ b. b < 256) bytes) (h : HasHeader bytes) where
  -- the groups are not all there
  pub short_stops : length bytes < groups_end bytes → CannotGoOn IsCommandFileBytes bytes (length bytes)
  short_stops short =
      stops_at fronts bytes (length bytes) (omega arith)
      (subst IsFront (sym (take_all (length bytes) bytes (omega arith))) (record {
        small = small;
        fits = fits_past 72 (length bytes) bytes (omega arith) h.fits;
        most = omega (arith, short);
      }))
      (λ lt is. absurd (omega (arith, lt)))
      (λ end is. let least = (file_is_spelt bytes is.0 is.1).0.least in absurd (omega (arith, least, short)))

  -- too much follows the groups
  pub long_stops : groups_end bytes + 127 < length bytes → CannotGoOn IsCommandFileBytes bytes (groups_end bytes + 127)
  long_stops long =
      let k = groups_end bytes + 127 in
      let within : k ≤ length bytes = omega (arith, long) in
      stops_at fronts bytes k within
      (record {
        small = All-take (λ b. b < 256) k bytes small;
        fits = fits_past 72 (length (take k bytes)) (take k bytes) (omega arith) (fits_take 72 k bytes (omega arith) within h.fits);
        most = omega (arith, length-take-le k bytes within, same_end_take bytes k (omega arith) within);
      })
      (λ lt is. absurd (omega (arith, is.most, length-take-le (k + 1) bytes (omega (arith, lt)), same_end_take bytes (k + 1) (omega arith) (omega (arith, lt)))))
      (λ end is. absurd (omega (arith, end, long)))

  pub read_whole : groups_end bytes ≤ length bytes → length bytes ≤ groups_end bytes + 127 → IsCommandFile bytes (groups_in bytes)
  read_whole least most = spelt_is_file bytes (record { small = small; fits = h.fits; least = least; most = most })

-- the groups as they are cut out of the bytes
pub groups_cut : (bytes code more : List ℕ) (m n : ℕ) → m ≡ code_size bytes → n ≡ data_size bytes → code ≡ take (128 + m - 128) (drop 128 bytes) → more ≡ take (128 + m + n - (128 + m)) (drop (128 + m) bytes) → groups_in bytes ≡ record { code = code; «data» = more }
groups_cut bytes code more m n e f c d =
    let code_size_is : 128 + m - 128 ≡ code_size bytes = omega (arith, e) in
    let data_size_is : 128 + m + n - (128 + m) ≡ data_size bytes = omega (arith, f) in
    let code_is = c ∙ ap (λ k. take k (drop 128 bytes)) code_size_is in
    let data_is = d ∙ ap (λ k. take k (drop (128 + m) bytes)) data_size_is ∙ ap (λ k. take (data_size bytes) (drop (128 + k) bytes)) e in
    λ i. record { code = sym code_is i; «data» = sym data_is i }
