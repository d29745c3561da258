-- The names as an order of texts beside a map, by the definitions of names.
use Rattle.std.proofs.Common.{◌≡◌, ℕ, suc, List, [], ◌∷◌, ◌++◌, length, filter, nat_lt, not, ◌||◌, ◌&&◌, Bool, true, false, cond, Option, Some, None, refl, sym, ap, ◌∙◌, true≢false}
use Rattle.std.proofs.lemmas.Map.Views.{any-filter_same}
use Rattle.std.proofs.lemmas.Slice.Eq.{bytes_eq-Decides}
use Rattle.std.specs.Option.{option_map, MatchOption}
use Rattle.std.specs.Prelude.{is_some}
use Rattle.std.specs.Str.{bytes_eq}
use Rattle.asm80_source_def.specs.Names.{Name, named, most_names, is_settable, renamed, clashes_with, clashes, overflows_by, overflows, defined_by, defined}
use Rattle.asm80_first_walk.specs.declared.names.Entry.{Entry}
use Rattle.asm80_first_walk.specs.Entries.{name_of_entry, name_before, names_in, has_text, AreInOrder, not_settable}
use Rattle.asm80_first_walk.proofs.Keys.{key_flips}

-- ---- definitions that are not made

not_made_by_clash : (names : List Name) (n : Name) (o : Option Name) → clashes_with n o ≡ true → names ≡ defined_by names n o
not_made_by_clash names n None h = absurd (true≢false (sym h))
not_made_by_clash names n (Some old) h = rw h refl

no_room : (names more : List Name) (b : Bool) → cond b false true ≡ true → names ≡ cond b more names
no_room names more true h = absurd (true≢false (sym h))
no_room names more false h = refl

not_made_by_room : (names : List Name) (n : Name) (o : Option Name) → overflows_by names o ≡ true → names ≡ defined_by names n o
not_made_by_room names n None h = no_room names _ (nat_lt (length names) most_names) h
not_made_by_room names n (Some old) h = absurd (true≢false (sym h))

pub not_made : (names : List Name) (n : Name) → (clashes names n || overflows names n) ≡ true → names ≡ defined names n
not_made names n h = by (clashes names n) refl h
  where
    by : (t : Bool) → clashes names n ≡ t → (t || overflows names n) ≡ true → names ≡ defined names n
    by true c h = not_made_by_clash names n (named names n.text) c
    by false c h = not_made_by_room names n (named names n.text) h

-- ---- texts and the test of them

same_text : (a b : List ℕ) → bytes_eq a b ≡ true → a ≡ b
same_text a b h = (bytes_eq-Decides a b).0 h

itself : (a : List ℕ) → bytes_eq a a ≡ true
itself a = (bytes_eq-Decides a a).1 refl

neither : (a b : Bool) → (a || b) ≡ false → (a ≡ false) × (b ≡ false)
neither true b h = absurd (true≢false h)
neither false b h = (refl, h)

or_true : (a : Bool) → (a || true) ≡ true
or_true true = refl
or_true false = refl

has_one_more : (texts : List (List ℕ)) (k text : List ℕ) → has_text (texts ++ k ∷ []) text ≡ (bytes_eq k text || has_text texts text)
has_one_more [] k text = refl
has_one_more (t ∷ texts) k text = ap (λ b. bytes_eq t text || b) (has_one_more texts k text) ∙ swap (bytes_eq t text) (bytes_eq k text) (has_text texts text)
  where
    swap : (a b c : Bool) → (a || (b || c)) ≡ (b || (a || c))
    swap true true c = refl
    swap true false c = refl
    swap false b c = refl

-- ---- look-ups

module _ (m : List ℕ → Option Entry) where
  abbrev as_name : List ℕ → Option Entry → Option Name
  as_name k o = option_map (λ (v : Entry). name_of_entry (k, v)) o

  none_either_way : (k : List ℕ) (b : Bool) → cond b (as_name k None) None ≡ as_name k None
  none_either_way k true = refl
  none_either_way k false = refl

  named_in : (texts : List (List ℕ)) (k : List ℕ) → named (names_in m texts) k ≡ cond (has_text texts k) (as_name k (m k)) None
  named_in [] k = refl
  named_in (t ∷ texts) k = by (m t) refl (bytes_eq t k) refl (named_in texts k)
    where
      by : (o : Option Entry) → m t ≡ o → (b : Bool) → bytes_eq t k ≡ b → named (names_in m texts) k ≡ cond (has_text texts k) (as_name k (m k)) None → named (name_before t o (names_in m texts)) k ≡ cond (b || has_text texts k) (as_name k (m k)) None
      by None e true h rest =
          let none : m k ≡ None = ap m (sym (same_text t k h)) ∙ e in
          rest ∙ ap (λ o. cond (has_text texts k) (as_name k o) None) none ∙ none_either_way k (has_text texts k) ∙ sym (ap (as_name k) none)
      by None e false h rest = rest
      by (Some v) e true h rest =
          let same = same_text t k h in
          rw h (ap (λ x. Some (name_of_entry (x, v))) same ∙ sym (ap (as_name k) (ap m (sym same) ∙ e)))
      by (Some v) e false h rest = rw h rest

  pub found : (texts : List (List ℕ)) → AreInOrder m texts → (k : List ℕ) → named (names_in m texts) k ≡ option_map (λ (v : Entry). name_of_entry (k, v)) (m k)
  found texts order k = named_in texts k ∙ ap (λ b. cond b (as_name k (m k)) None) (order k) ∙ by (m k)
    where
      by : (o : Option Entry) → cond (is_some o) (as_name k o) None ≡ as_name k o
      by None = refl
      by (Some v) = refl

  length_by : (texts : List (List ℕ)) → ((t : List ℕ) → has_text texts t ≡ true → is_some (m t) ≡ true) → length (names_in m texts) ≡ length texts
  length_by [] known = refl
  length_by (t ∷ texts) known =
      by (m t) (known t (ap (λ b. b || has_text texts t) (itself t)))
      (length_by texts (λ u h. known u (ap (λ b. bytes_eq t u || b) h ∙ or_true (bytes_eq t u))))
    where
      by : (o : Option Entry) → is_some o ≡ true → length (names_in m texts) ≡ length texts → length (name_before t o (names_in m texts)) ≡ length (t ∷ texts)
      by None h rest = absurd (true≢false (sym h))
      by (Some v) h rest = ap suc rest

  pub length_is : (texts : List (List ℕ)) → AreInOrder m texts → length (names_in m texts) ≡ length texts
  length_is texts order = length_by texts (λ t h. sym (order t) ∙ h)

-- ---- definitions in the map

module _ (m n : List ℕ → Option Entry) (k : List ℕ) (v : Entry) (put : (t : List ℕ) → n t ≡ cond (bytes_eq k t) (Some v) (m t)) where
  abbrev pub name : Name
  name = name_of_entry (k, v)

  before_more : (t : List ℕ) (o : Option Entry) (names more : List Name) → name_before t o (names ++ more) ≡ name_before t o names ++ more
  before_more t None names more = refl
  before_more t (Some e) names more = refl

  put_new : (texts : List (List ℕ)) → has_text texts k ≡ false → names_in n (texts ++ k ∷ []) ≡ names_in m texts ++ name ∷ []
  put_new [] h = ap (λ o. name_before k o []) (put k ∙ ap (λ b. cond b (Some v) (m k)) (itself k))
  put_new (t ∷ texts) h =
      let apart = neither (bytes_eq t k) (has_text texts k) h in
      let same : n t ≡ m t = put t ∙ ap (λ b. cond b (Some v) (m t)) (key_flips k t ∙ apart.0) in
      ap (λ o. name_before t o (names_in n (texts ++ k ∷ []))) same
      ∙ ap (λ xs. name_before t (m t) xs) (put_new texts apart.1)
      ∙ before_more t (m t) (names_in m texts) (name ∷ [])

  put_again : (texts : List (List ℕ)) → is_some (m k) ≡ true → names_in n texts ≡ renamed (names_in m texts) name
  put_again [] known = refl
  put_again (t ∷ texts) known = by (bytes_eq k t) refl (m t) refl (put_again texts known)
    where
      by : (b : Bool) → bytes_eq k t ≡ b → (o : Option Entry) → m t ≡ o → names_in n texts ≡ renamed (names_in m texts) name → name_before t (n t) (names_in n texts) ≡ renamed (name_before t o (names_in m texts)) name
      by true h None e rest = absurd (true≢false (sym known ∙ ap (λ o. is_some o) (ap m (same_text k t h) ∙ e)))
      by true h (Some old) e rest =
          let same : k ≡ t = same_text k t h in
          ap (λ o. name_before t o (names_in n texts)) (put t ∙ ap (λ b. cond b (Some v) (m t)) h)
          ∙ ap (λ x. name_of_entry (x, v) ∷ names_in n texts) (sym same)
          ∙ ap (λ xs. name ∷ xs) rest
          ∙ ap (λ b. cond b name (name_of_entry (t, old)) ∷ renamed (names_in m texts) name) (sym (key_flips t k ∙ h))
      by false h None e rest = ap (λ o. name_before t o (names_in n texts)) (put t ∙ ap (λ b. cond b (Some v) (m t)) h ∙ e) ∙ rest
      by false h (Some old) e rest =
          ap (λ o. name_before t o (names_in n texts)) (put t ∙ ap (λ b. cond b (Some v) (m t)) h ∙ e)
          ∙ ap (λ xs. name_of_entry (t, old) ∷ xs) rest
          ∙ ap (λ b. cond b name (name_of_entry (t, old)) ∷ renamed (names_in m texts) name) (sym (key_flips t k ∙ h))

  pub order_new : (texts : List (List ℕ)) → AreInOrder m texts → AreInOrder n (texts ++ k ∷ [])
  order_new texts order t =
      has_one_more texts k t
      ∙ ap (λ b. bytes_eq k t || b) (order t)
      ∙ by (bytes_eq k t)
      ∙ sym (ap (λ o. is_some o) (put t))
    where
      by : (b : Bool) → (b || is_some (m t)) ≡ is_some (cond b (Some v) (m t))
      by true = refl
      by false = refl

  pub order_again : (texts : List (List ℕ)) → AreInOrder m texts → is_some (m k) ≡ true → AreInOrder n texts
  order_again texts order known t = by (bytes_eq k t) refl ∙ sym (ap (λ o. is_some o) (put t))
    where
      by : (b : Bool) → bytes_eq k t ≡ b → has_text texts t ≡ is_some (cond b (Some v) (m t))
      by true h = order t ∙ ap (λ x. is_some (m x)) (sym (same_text k t h)) ∙ known
      by false h = order t

  -- a definition that is made: of a text that the map has not, and of one that it has
  pub made_new : (texts : List (List ℕ)) → AreInOrder m texts → (clashes (names_in m texts) name || overflows (names_in m texts) name) ≡ false → is_some (m k) ≡ false → names_in n (texts ++ k ∷ []) ≡ defined (names_in m texts) name
  made_new texts order h none =
      let nothing = found m texts order k ∙ ap (λ o. option_map (λ (x : Entry). name_of_entry (k, x)) o) (empty (m k) none) in
      let room = (neither (clashes (names_in m texts) name) _ h).1 in
      put_new texts (order k ∙ none)
      ∙ by (nat_lt (length (names_in m texts)) most_names) (sym (ap (λ o. overflows_by (names_in m texts) o) nothing) ∙ room)
      ∙ sym (ap (λ o. defined_by (names_in m texts) name o) nothing)
    where
      empty : (o : Option Entry) → is_some o ≡ false → o ≡ None
      empty None e = refl
      empty (Some x) e = absurd (true≢false e)

      by : (b : Bool) → cond b false true ≡ false → (names_in m texts ++ name ∷ []) ≡ cond b (names_in m texts ++ name ∷ []) (names_in m texts)
      by true e = refl
      by false e = absurd (true≢false e)

  pub made_again : (texts : List (List ℕ)) → AreInOrder m texts → (clashes (names_in m texts) name || overflows (names_in m texts) name) ≡ false → is_some (m k) ≡ true → names_in n texts ≡ defined (names_in m texts) name
  made_again texts order h known = by (m k) refl known
    where
      by : (o : Option Entry) → m k ≡ o → is_some o ≡ true → names_in n texts ≡ defined (names_in m texts) name
      by None e s = absurd (true≢false (sym s))
      by (Some old) e s =
          let there = found m texts order k ∙ ap (λ o. option_map (λ (x : Entry). name_of_entry (k, x)) o) e in
          let fits = sym (ap (λ o. clashes_with name o) there) ∙ (neither (clashes (names_in m texts) name) _ h).0 in
          put_again texts known ∙ rw (there, fits) refl

-- ---- the names that are kept

module _ (m n : List ℕ → Option Entry) (keeps : (t : List ℕ) → n t ≡ not_settable (m t)) where
  pub names_kept : (texts : List (List ℕ)) → names_in n (filter (λ t. is_some (n t)) texts) ≡ filter (λ (x : Name). not (is_settable x.kind)) (names_in m texts)
  names_kept [] = refl
  names_kept (t ∷ texts) = by (m t) (keeps t) (names_kept texts)
    where
      kept : (o : Option Entry) → n t ≡ o → names_in n (filter (λ u. is_some (n u)) (t ∷ texts)) ≡ name_before t o (names_in n (filter (λ u. is_some (n u)) texts))
      kept None e = ap (λ o. names_in n (cond (is_some o) (t ∷ filter (λ u. is_some (n u)) texts) (filter (λ u. is_some (n u)) texts))) e
      kept (Some x) e =
          ap (λ o. names_in n (cond (is_some o) (t ∷ filter (λ u. is_some (n u)) texts) (filter (λ u. is_some (n u)) texts))) e
          ∙ ap (λ o. name_before t o (names_in n (filter (λ u. is_some (n u)) texts))) e

      by : (o : Option Entry) → n t ≡ not_settable o → names_in n (filter (λ u. is_some (n u)) texts) ≡ filter (λ (x : Name). not (is_settable x.kind)) (names_in m texts) → names_in n (filter (λ u. is_some (n u)) (t ∷ texts)) ≡ filter (λ (x : Name). not (is_settable x.kind)) (name_before t o (names_in m texts))
      by None e rest = kept None e ∙ rest
      by (Some x) e rest = by_kind (is_settable x.kind) e
        where
          by_kind : (b : Bool) → n t ≡ cond b None (Some x) → names_in n (filter (λ u. is_some (n u)) (t ∷ texts)) ≡ cond (not b) (name_of_entry (t, x) ∷ filter (λ (y : Name). not (is_settable y.kind)) (names_in m texts)) (filter (λ (y : Name). not (is_settable y.kind)) (names_in m texts))
          by_kind true e = kept None e ∙ rest
          by_kind false e = kept (Some x) e ∙ ap (λ xs. name_of_entry (t, x) ∷ xs) rest

  pub order_kept : (texts : List (List ℕ)) → AreInOrder m texts → AreInOrder n (filter (λ t. is_some (n t)) texts)
  order_kept texts order t =
      any-filter_same (λ u. bytes_eq u t) (λ u. is_some (n u)) (is_some (n t)) (λ u h. ap (λ x. is_some (n x)) (same_text u t h)) texts
      ∙ ap (λ b. is_some (n t) && b) (order t)
      ∙ ap (λ o. is_some o && is_some (m t)) (keeps t)
      ∙ by (m t)
      ∙ sym (ap (λ o. is_some o) (keeps t))
    where
      by : (o : Option Entry) → (is_some (not_settable o) && is_some o) ≡ is_some (not_settable o)
      by None = refl
      by (Some x) = by_kind (is_settable x.kind)
        where
          by_kind : (b : Bool) → (is_some (cond b None (Some x)) && true) ≡ is_some (cond b None (Some x))
          by_kind true = refl
          by_kind false = refl

-- nothing is left of SET where all that the map has is in order
pub all_forgotten : (m : List ℕ → Option Entry) (texts : List (List ℕ)) → AreInOrder m texts → (t : List ℕ) → cond (has_text texts t) (not_settable (m t)) (m t) ≡ not_settable (m t)
all_forgotten m texts order t = ap (λ b. cond b (not_settable (m t)) (m t)) (order t) ∙ by (m t)
  where
    by : (o : Option Entry) → cond (is_some o) (not_settable o) o ≡ not_settable o
    by None = refl
    by (Some x) = refl

-- ---- what a look-up answers

pub answers : (names : List Name) (text : List ℕ) (r : Option Entry) → named names text ≡ option_map (λ (v : Entry). name_of_entry (text, v)) r → MatchOption r (named names text ≡ None) (λ (v : Entry). named names text ≡ Some (name_of_entry (text, v)))
answers names text None h = h
answers names text (Some v) h = h
