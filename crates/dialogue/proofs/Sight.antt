-- The shape and the request of a call, by two sights of memory.
use Rattle.std.proofs.Common.{◌≡◌, refl, sym, ◌∙◌, ap, subst, ℕ, zero, suc, ◌+◌, ◌-◌, ◌≤◌, ◌<◌, Bool, true, false, cond, List, [], ◌∷◌, drop, arith}
use Rattle.std.proofs.lemmas.Bool.{false≢true, leb-true, and_from, and_parts}
use Rattle.std.specs.Prelude.{Option, Some, None, Result, Ok, Err, map, unwrap_or, is_some, ◌==◌, ◌&&◌, nat_le, not}
use Rattle.cells.specs.declared.Rule.{Rule}
use Rattle.cells.specs.declared.Rule.TheVariants.{P10, P11}
use Rattle.dialogue.specs.declared.request.ArgWord.{ArgWord}
use Rattle.dialogue.specs.declared.request.ArgWord.TheVariants.{Byte}
use Rattle.dialogue.specs.declared.request.Range.{Range}
use Rattle.dialogue.specs.declared.request.Shape.{Shape}
use Rattle.dialogue.specs.Tried.{try_then}
use Rattle.dialogue.specs.declared.table.Argument.{Argument}
use Rattle.dialogue.specs.declared.table.Argument.TheVariants.{NoArgument, InE, DirectInE, InDE}
use Rattle.dialogue.specs.declared.table.Extent.{Extent}
use Rattle.dialogue.specs.declared.table.Extent.TheVariants.{F, Dma, Text, Line}
use Rattle.dialogue.specs.Table.{Row, call_table, row_of, padded_to}
use Rattle.dialogue.specs.Shape.{Seen, argument_of, argument_address, is_readable, line_room, text_length, text_length_by, text_range, range_of, all_cells, is_within, range_within, ranges_within, has_room, ranges, bytes_seen, block_seen, request_of, shape_by, shape_by_row}
use Rattle.dialogue.proofs.Rows.{entry_at-passes}
use Rattle.dialogue.proofs.Tried.{ok_is, err_is_not, then_is, cond_ok}
use Rattle.dialogue.specs.Sight.{SeesMore, KnowsMore, WhoSeesMoreAsksTheSame}

then_from : {X Y R : Type 0} (r : Result X R) (f : X → Result Y R) (x : X) (y : Y) → r ≡ Ok x → f x ≡ Ok y → try_then r f ≡ Ok y
then_from r f x y e h = ap (λ z. try_then z f) e ∙ h

-- a line buffer's extent, which is the first of those written alone
abbrev has_line : List Extent → Bool
has_line [] = false
has_line (F i k ∷ xs) = has_line xs
has_line (Dma ∷ xs) = has_line xs
has_line (Text ∷ xs) = has_line xs
has_line (Line ∷ xs) = true

abbrev line_is_first : Row → Bool
line_is_first row = not (has_line row.reads) && not (has_line (drop 1 row.writes))

rows_have_it : (function : ℕ) (row : Row) → row_of function ≡ Some row → line_is_first row ≡ true
unfolding row_of
rows_have_it function row found = entry_at-passes line_is_first call_table function row refl found

not_true : (b : Bool) → not b ≡ true → b ≡ true → ⊥
not_true true e h = absurd (false≢true e)
not_true false e h = absurd (false≢true h)

-- the argument

arg_same : (k : Argument) (d e d' e' : Option ℕ) (arg : ArgWord) → KnowsMore d d' → KnowsMore e e' → argument_of k d e ≡ Ok arg → argument_of k d' e' ≡ Ok arg
arg_same NoArgument d e d' e' arg kd ke h = h
arg_same InE d None d' e' arg kd ke h = absurd (err_is_not _ _ h)
arg_same InE d (Some n) d' e' arg kd ke h = subst (λ o. argument_of InE d' o ≡ Ok arg) (sym (ke n refl).1) h
arg_same DirectInE d None d' e' arg kd ke h = absurd (err_is_not _ _ h)
arg_same DirectInE d (Some n) d' e' arg kd ke h = subst (λ o. argument_of DirectInE d' o ≡ Ok arg) (sym (ke n refl).1) h
arg_same InDE None e d' e' arg kd ke h = absurd (err_is_not _ _ h)
arg_same InDE (Some m) None d' e' arg kd ke h = absurd (err_is_not _ _ h)
arg_same InDE (Some m) (Some n) d' e' arg kd ke h =
    subst (λ o. argument_of InDE o e' ≡ Ok arg) (sym (kd m refl).1) (subst (λ o. argument_of InDE (Some m) o ≡ Ok arg) (sym (ke n refl).1) h)

arg_small : (k : Argument) (d e d' e' : Option ℕ) (arg : ArgWord) → KnowsMore d d' → KnowsMore e e' → argument_of k d e ≡ Ok arg → argument_address arg < 0x10000
arg_small NoArgument d e d' e' arg kd ke h = subst (λ w. argument_address w < 0x10000) (ok_is _ arg h) (omega arith)
arg_small InE d None d' e' arg kd ke h = absurd (err_is_not _ _ h)
arg_small InE d (Some n) d' e' arg kd ke h = subst (λ w. argument_address w < 0x10000) (ok_is _ arg h) (omega arith)
arg_small DirectInE d None d' e' arg kd ke h = absurd (err_is_not _ _ h)
arg_small DirectInE d (Some n) d' e' arg kd ke h = by_byte (n == 0xFE) h
  where
    by_byte : (b : Bool) → cond b (Err P10) (Ok (Byte n)) ≡ Ok arg → argument_address arg < 0x10000
    by_byte true h = absurd (err_is_not _ _ h)
    by_byte false h = subst (λ w. argument_address w < 0x10000) (ok_is _ arg h) (omega arith)
arg_small InDE None e d' e' arg kd ke h = absurd (err_is_not _ _ h)
arg_small InDE (Some m) None d' e' arg kd ke h = absurd (err_is_not _ _ h)
arg_small InDE (Some m) (Some n) d' e' arg kd ke h =
    let hm = (kd m refl).0 in
    let hn = (ke n refl).0 in
    subst (λ w. argument_address w < 0x10000) (ok_is _ arg h) (omega (arith, hm, hn))

module _ (s t : Seen) (more : SeesMore s t) where
  -- cells that pass

  all_same : (P Q : ℕ → Bool) → ((a : ℕ) → a < 0x10000 → P a ≡ true → Q a ≡ true) → (k at : ℕ) → at + k ≤ 0x10000 → all_cells P k at ≡ true → all_cells Q k at ≡ true
  all_same P Q each zero at le h = refl
  all_same P Q each (suc k) at le h =
      let p = and_parts (P at) (all_cells P k (at + 1)) h in
      and_from (Q at) (all_cells Q k (at + 1)) (each at (omega (arith, le)) p.0) (all_same P Q each k (at + 1) (omega (arith, le)) p.1)

  readable_same : (a : ℕ) → a < 0x10000 → is_readable s a ≡ true → is_readable t a ≡ true
  readable_same a lt h = by_byte (s.byte a) refl h
    where
      by_byte : (o : Option ℕ) → s.byte a ≡ o → is_some o ≡ true → is_readable t a ≡ true
      by_byte None e h = absurd (false≢true h)
      by_byte (Some n) e h = ap is_some (more.byte a n lt e)

  within_end : (P : ℕ → Bool) (r : Range) → is_within P r ≡ true → r.at + r.len ≤ 0x10000
  within_end P r h = leb-true _ _ (and_parts (nat_le (r.at + r.len) 0x10000) (all_cells P r.len r.at) h).0

  within_same : (P Q : ℕ → Bool) → ((a : ℕ) → a < 0x10000 → P a ≡ true → Q a ≡ true) → (r : Range) → is_within P r ≡ true → is_within Q r ≡ true
  within_same P Q each r h =
      let p = and_parts (nat_le (r.at + r.len) 0x10000) (all_cells P r.len r.at) h in
      and_from _ _ p.0 (all_same P Q each r.len r.at (within_end P r h) p.1)

  -- the bytes of cells that are read
  bytes_same : (k at : ℕ) → at + k ≤ 0x10000 → all_cells (is_readable s) k at ≡ true → bytes_seen t k at ≡ bytes_seen s k at
  bytes_same zero at le h = refl
  bytes_same (suc k) at le h =
      let p = and_parts (is_readable s at) (all_cells (is_readable s) k (at + 1)) h in
      by_byte (bytes_same k (at + 1) (omega (arith, le)) p.1) (s.byte at) refl p.0
    where
      by_byte : bytes_seen t k (at + 1) ≡ bytes_seen s k (at + 1) → (o : Option ℕ) → s.byte at ≡ o → is_some o ≡ true → unwrap_or (t.byte at) 0 ∷ bytes_seen t k (at + 1) ≡ unwrap_or (s.byte at) 0 ∷ bytes_seen s k (at + 1)
      by_byte rest None e h = absurd (false≢true h)
      by_byte rest (Some n) e h =
          ap (λ o. unwrap_or o 0 ∷ bytes_seen t k (at + 1)) (more.byte at n (omega (arith, le)) e ∙ sym e)
          ∙ ap (λ bs. unwrap_or (s.byte at) 0 ∷ bs) rest

  -- the length of a text

  first_text : (b : ℕ) (o : Option ℕ) → (b == 0x24) ≡ true → text_length_by (Some b) o ≡ Some 0
  first_text b None e = ap (λ z. cond z (Some 0) None) e
  first_text b (Some m) e = ap (λ z. cond z (Some 0) (Some (suc m))) e

  later_text : (b : ℕ) (o q : Option ℕ) (n : ℕ) → (b == 0x24) ≡ false → ((m : ℕ) → o ≡ Some m → q ≡ Some m) → text_length_by (Some b) o ≡ Some n → text_length_by (Some b) q ≡ Some n
  later_text b None q n e more h = absurd (is_none (ap (λ z. cond z (Some 0) None) (sym e) ∙ h))
    where
      is_none : ◌≡◌ {A = Option ℕ} None (Some n) → ⊥
      is_none e = false≢true (ap is_some e)
  later_text b (Some m) q n e more h = subst (λ q. text_length_by (Some b) q ≡ Some n) (sym (more m refl)) h

  text_same : (k at n : ℕ) → at + k ≤ 0x10000 → text_length s k at ≡ Some n → text_length t k at ≡ Some n
  text_same zero at n le h = absurd (false≢true (ap is_some h))
  text_same (suc k) at n le h = by_byte (λ m g. text_same k (at + 1) m (omega (arith, le)) g) (s.byte at) refl h
    where
      by_dollar : ((m : ℕ) → text_length s k (at + 1) ≡ Some m → text_length t k (at + 1) ≡ Some m) → (b : ℕ) (z : Bool) → (b == 0x24) ≡ z → text_length_by (Some b) (text_length s k (at + 1)) ≡ Some n → text_length_by (Some b) (text_length t k (at + 1)) ≡ Some n
      by_dollar rest b true e h = first_text b (text_length t k (at + 1)) e ∙ sym (first_text b (text_length s k (at + 1)) e) ∙ h
      by_dollar rest b false e h = later_text b (text_length s k (at + 1)) (text_length t k (at + 1)) n e rest h

      by_byte : ((m : ℕ) → text_length s k (at + 1) ≡ Some m → text_length t k (at + 1) ≡ Some m) → (o : Option ℕ) → s.byte at ≡ o → text_length_by o (text_length s k (at + 1)) ≡ Some n → text_length_by (t.byte at) (text_length t k (at + 1)) ≡ Some n
      by_byte rest None e h = absurd (false≢true (ap is_some h))
      by_byte rest (Some b) e h =
          subst (λ o. text_length_by o (text_length t k (at + 1)) ≡ Some n) (sym (more.byte at b (omega (arith, le)) e)) (by_dollar rest b (b == 0x24) refl h)

  -- the range of an extent

  module _ (de dma : ℕ) (small : de < 0x10000) where
    abbrev Room : Type 0
    Room = line_room t de ≡ line_room s de

    range_same : (x : Extent) (r : Range) → (has_line (x ∷ []) ≡ true → Room) → range_of s de dma x ≡ Some r → range_of t de dma x ≡ Some r
    range_same (F i k) r room h = h
    range_same Dma r room h = h
    range_same Line r room h = ap (λ n. Some (record { at = de + 1; len = n + 1 })) (room refl) ∙ h
    range_same Text r room h = by_length (text_length s (0x10000 - de) de) refl h
      where
        by_length : (o : Option ℕ) → text_length s (0x10000 - de) de ≡ o → text_range de o ≡ Some r → text_range de (text_length t (0x10000 - de) de) ≡ Some r
        by_length None e h = absurd (false≢true (ap is_some h))
        by_length (Some n) e h = ap (text_range de) (text_same (0x10000 - de) de n (omega (arith, small)) e) ∙ h

    within_range : (P Q : ℕ → Bool) (rule : Rule) → ((a : ℕ) → a < 0x10000 → P a ≡ true → Q a ≡ true) → (x : Extent) (r : Range) → (has_line (x ∷ []) ≡ true → Room) → range_within P rule (range_of s de dma x) ≡ Ok r → (range_within Q rule (range_of t de dma x) ≡ Ok r) × (is_within P r ≡ true)
    within_range P Q rule each x r room h = by_range (range_of s de dma x) refl h
      where
        by_range : (o : Option Range) → range_of s de dma x ≡ o → range_within P rule o ≡ Ok r → (range_within Q rule (range_of t de dma x) ≡ Ok r) × (is_within P r ≡ true)
        by_range None e h = absurd (err_is_not _ _ h)
        by_range (Some q) e h =
            let c = cond_ok (is_within P q) q r rule h in (
              ap (range_within Q rule) (range_same x q room e) ∙ ap (λ b. cond b (Ok q) (Err rule)) (within_same P Q each q c.0) ∙ ap Ok c.1,
              subst (λ r. is_within P r ≡ true) c.1 c.0,
            )

    -- all of them are within
    abbrev AllWithin : (ℕ → Bool) → List Range → Type 0
    AllWithin P [] = Unit {0}
    AllWithin P (r ∷ rs) = (is_within P r ≡ true) × AllWithin P rs

    head_line : (x : Extent) (xs : List Extent) → has_line (x ∷ []) ≡ true → has_line (x ∷ xs) ≡ true
    head_line (F i k) xs h = absurd (false≢true h)
    head_line Dma xs h = absurd (false≢true h)
    head_line Text xs h = absurd (false≢true h)
    head_line Line xs h = refl

    tail_line : (x : Extent) (xs : List Extent) → has_line xs ≡ true → has_line (x ∷ xs) ≡ true
    tail_line (F i k) xs h = h
    tail_line Dma xs h = h
    tail_line Text xs h = h
    tail_line Line xs h = refl

    ranges_same : (P Q : ℕ → Bool) (rule : Rule) → ((a : ℕ) → a < 0x10000 → P a ≡ true → Q a ≡ true) → (xs : List Extent) (rs : List Range) → (has_line xs ≡ true → Room) → ranges_within P rule s de dma xs ≡ Ok rs → (ranges_within Q rule t de dma xs ≡ Ok rs) × AllWithin P rs
    ranges_same P Q rule each [] rs room h = (h, subst (AllWithin P) (ok_is [] rs h) tt)
    ranges_same P Q rule each (x ∷ xs) rs room h =
        let a = then_is (range_within P rule (range_of s de dma x)) _ rs h in
        let b = then_is (ranges_within P rule s de dma xs) _ rs a.2 in
        let first = within_range P Q rule each x a.0 (λ g. room (head_line x xs g)) a.1 in
        let rest = ranges_same P Q rule each xs b.0 (λ g. room (tail_line x xs g)) b.1 in (
          then_from (range_within Q rule (range_of t de dma x)) _ a.0 rs first.0 (then_from (ranges_within Q rule t de dma xs) _ b.0 rs rest.0 b.2),
          subst (AllWithin P) (ok_is (a.0 ∷ b.0) rs b.2) (first.1, rest.1),
        )

    -- the blocks that are read
    blocks_same : (k : ℕ) (rs : List Range) → AllWithin (is_readable s) rs → map (block_seen t) (ranges (padded_to k rs)) ≡ map (block_seen s) (ranges (padded_to k rs))
    blocks_same zero rs h = refl
    blocks_same (suc k) [] h = blocks_same k [] tt
    blocks_same (suc k) (r ∷ rs) h =
        let all = and_parts (nat_le (r.at + r.len) 0x10000) (all_cells (is_readable s) r.len r.at) h.0 in
        ap (λ bs. record { at = r.at; bytes = bs } ∷ map (block_seen t) (ranges (padded_to k rs))) (bytes_same r.len r.at (within_end (is_readable s) r h.0) all.1)
        ∙ ap (λ bs. block_seen s r ∷ bs) (blocks_same k rs h.1)

    -- room for a line

    room_same : (xs ys : List Extent) → has_room s de xs ≡ Ok ys → not (has_line (drop 1 xs)) ≡ true → (has_room t de xs ≡ Ok ys) × (has_line ys ≡ true → Room)
    room_same [] ys h first = (h, λ g. absurd (not_true (has_line []) refl (ap has_line (ok_is [] ys h) ∙ g)))
    room_same (F i k ∷ xs) ys h first = (h, λ g. absurd (not_true (has_line xs) first (ap has_line (ok_is (F i k ∷ xs) ys h) ∙ g)))
    room_same (Dma ∷ xs) ys h first = (h, λ g. absurd (not_true (has_line xs) first (ap has_line (ok_is (Dma ∷ xs) ys h) ∙ g)))
    room_same (Text ∷ xs) ys h first = (h, λ g. absurd (not_true (has_line xs) first (ap has_line (ok_is (Text ∷ xs) ys h) ∙ g)))
    room_same (Line ∷ xs) ys h first = by_byte (s.byte de) refl h
      where
        by_byte : (o : Option ℕ) → s.byte de ≡ o → cond (unwrap_or o 0 == 0) (Err P10) (Ok (Line ∷ xs)) ≡ Ok ys → (has_room t de (Line ∷ xs) ≡ Ok ys) × (has_line ys ≡ true → Room)
        by_byte None e h = absurd (err_is_not _ _ h)
        by_byte (Some n) e h =
            let g = more.byte de n small e in
            (ap (λ o. cond (unwrap_or o 0 == 0) (Err P10) (Ok (Line ∷ xs))) g ∙ h, λ _. ap (λ o. unwrap_or o 0) (g ∙ sym e))

shape_same : (function dma : ℕ) (row : Row) (d e d' e' : Option ℕ) (s t : Seen) (shape : Shape) → line_is_first row ≡ true → SeesMore s t → KnowsMore d d' → KnowsMore e e' → shape_by function row d e dma s ≡ Ok shape → (shape_by function row d' e' dma t ≡ Ok shape) × (request_of shape t ≡ request_of shape s)
shape_same function dma row d e d' e' s t shape first more kd ke h =
    let f = and_parts (not (has_line row.reads)) (not (has_line (drop 1 row.writes))) first in
    let a = then_is (argument_of row.argument d e) _ shape h in
    let de = argument_address a.0 in
    let small = arg_small row.argument d e d' e' a.0 kd ke a.1 in
    let b = then_is (ranges_within (is_readable s) P10 s de dma row.reads) _ shape a.2 in
    let reads = ranges_same s t more de dma small (is_readable s) (is_readable t) P10 (readable_same s t more) row.reads b.0 (λ g. absurd (not_true (has_line row.reads) f.0 g)) b.1 in
    let c = then_is (has_room s de row.writes) _ shape b.2 in
    let room = room_same s t more de dma small row.writes c.0 c.1 f.1 in
    let w = then_is (ranges_within s.writable P11 s de dma c.0) _ shape c.2 in
    let writes = ranges_same s t more de dma small s.writable t.writable P11 more.writable c.0 w.0 room.1 w.1 in (
      then_from (argument_of row.argument d' e') _ a.0 shape (arg_same row.argument d e d' e' a.0 kd ke a.1)
          (then_from (ranges_within (is_readable t) P10 t de dma row.reads) _ b.0 shape reads.0
          (then_from (has_room t de row.writes) _ c.0 shape room.0
          (then_from (ranges_within t.writable P11 t de dma c.0) _ w.0 shape writes.0 w.2))),
      subst (λ z. request_of z t ≡ request_of z s) (ok_is _ shape w.2)
          (ap (λ bs. record { shape = record { function = function; arg = a.0; reads = padded_to 3 b.0; writes = padded_to 2 w.0 }; blocks = bs }) (blocks_same s t more de dma small 3 b.0 reads.1)),
    )

pub asks_same : WhoSeesMoreAsksTheSame
asks_same function dma d e d' e' s t shape more kd ke h = by_row (row_of function) refl h
  where
    by_row : (o : Option Row) → row_of function ≡ o → shape_by_row function o d e dma s ≡ Ok shape → (shape_by_row function (row_of function) d' e' dma t ≡ Ok shape) × (request_of shape t ≡ request_of shape s)
    by_row None g h = absurd (err_is_not _ _ h)
    by_row (Some row) g h =
        let r = shape_same function dma row d e d' e' s t shape (rows_have_it function row g) more kd ke h in
        (ap (λ o. shape_by_row function o d' e' dma t) g ∙ r.0, r.1)
