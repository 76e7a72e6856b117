-- What an index of a network says after a change of its live messages or its held identifiers.
use Rattle.office.proofs.Common.{◌≡◌, ◌∙◌, ◌<◌, ◌&&◌, ◌||◌, ◌++◌, Bool, true, false, not, cond, ℕ, zero, suc, List, []}
use Rattle.office.proofs.Common.{◌∷◌, Option, Some, None, length, get_or, set, map, filter, find, inl, inr, refl, sym}
use Rattle.office.proofs.Common.{ap, arith, Err, Ok, OnOk, Result, option_map, get, filter_map, insert, list_any}
use Rattle.office.proofs.Common.{remove, is_eq, bytes_eq, false_from_ne_true, false≢true, or_parts, slice_get_cases}
use Rattle.office.proofs.Common.{bytes_eq-Decides, text_cmp, dbc_number, IdentForm, Standard, Extended, Ident}
use Rattle.office.proofs.Common.{AreNamedApart, is_taken, LiveMessage, Net, live_name, live_named, number_in}
use Rattle.office.proofs.Common.{same_ident, same_ident-true, same_ident-from}
use Rattle.std.proofs.Common.{◌==◌}
use Rattle.std.specs.Prelude.{is_ok}
use Rattle.std.specs.BTreeMap.{BTreeMap}
use Rattle.std.specs.List.{cons_option}
use Rattle.std.proofs.lemmas.Bool.{and_parts, eq-eqb, eqb-true}
use Rattle.std.proofs.lemmas.List.Folds.{list_any-append}
use Rattle.std.proofs.lemmas.Map.Text.{is_eq-slice_cmp}
use Rattle.base.proofs.AscendingLists.{remove_at}
use Rattle.can_id.specs.declared.ident.Ident.TheVariants as id
use Rattle.dbc_words.specs.Named.{has_name}
use Rattle.dbc_words.proofs.Naming.{any-insert, names-remove}
use Rattle.office_rules.specs.Facts.{taken_numbers}
use Rattle.office.specs.Indexed.{IsIndex, IsIndexIfThere, IsRemovable, indexed_alike, indexed_numbers}
use Rattle.office.specs.Indexed.{has_form_and_number, live_number}
use Rattle.office.specs.declared.net_index.NetIndex.{NetIndex}

-- Lists.

module _ {A : Type 0} (p : A → Bool) where
  -- what is inserted is found where nothing was
  pub find-inserted : (xs : List A) (i : ℕ) (x : A) → p x ≡ true → find p xs ≡ None → find p (insert xs i x) ≡ Some x
  find-inserted xs zero x t none = ap (λ b. cond b (Some x) (find p xs)) t
  find-inserted [] (suc i) x t none = ap (λ b. cond b (Some x) None) t
  find-inserted (y ∷ ys) (suc i) x t none = by_test (p y) (find-inserted ys i x t) none
    where
      some_none : (a : A) → ◌≡◌ {A = Option A} (Some a) None → ⊥
      some_none a h = cc

      by_test : (b : Bool) → (find p ys ≡ None → find p (insert ys i x) ≡ Some x) → cond b (Some y) (find p ys) ≡ None
          → cond b (Some y) (find p (insert ys i x)) ≡ Some x
      by_test true later h = absurd (some_none y h)
      by_test false later h = later h

  -- and else makes no difference
  pub find-beside : (xs : List A) (i : ℕ) (x : A) → p x ≡ false → find p (insert xs i x) ≡ find p xs
  find-beside xs zero x f = ap (λ b. cond b (Some x) (find p xs)) f
  find-beside [] (suc i) x f = ap (λ b. cond b (Some x) None) f
  find-beside (y ∷ ys) (suc i) x f = ap (λ o. cond (p y) (Some y) o) (find-beside ys i x f)

  -- nor does what is removed, where it doesn't pass
  pub find-without : (xs : List A) (i : ℕ) (d : A) → p (get_or xs i d) ≡ false → i < length xs
      → find p (remove xs i) ≡ find p xs
  find-without [] i d f w = absurd (let v : i < 0 = w in omega (arith, v))
  find-without (x ∷ xs) zero d f w = sym (ap (λ b. cond b (Some x) (find p xs)) f)
  find-without (x ∷ xs) (suc i) d f w = ap (λ o. cond (p x) (Some x) o) (find-without xs i d f (omega (arith, w)))

  pub none_found : (xs : List A) → list_any p xs ≡ false → find p xs ≡ None
  none_found [] h = refl
  none_found (x ∷ xs) h = by_test (p x) (none_found xs) h
    where
      by_test : (b : Bool) → (list_any p xs ≡ false → find p xs ≡ None) → (b || list_any p xs) ≡ false
          → cond b (Some x) (find p xs) ≡ None
      by_test true later t = absurd (false≢true (sym t))
      by_test false later t = later t

  swap_or : (a b c : Bool) → (a || (b || c)) ≡ (b || (a || c))
  swap_or true true c = refl
  swap_or true false c = refl
  swap_or false b c = refl

  -- one of the list passes, or one of the others
  pub any-remove : (xs : List A) (i : ℕ) (d : A) → i < length xs
      → list_any p xs ≡ (p (get_or xs i d) || list_any p (remove xs i))
  any-remove [] i d w = absurd (let v : i < 0 = w in omega (arith, v))
  any-remove (x ∷ xs) zero d w = refl
  any-remove (x ∷ xs) (suc i) d w = ap (λ b. p x || b) (any-remove xs i d (omega (arith, w)))
      ∙ swap_or (p x) (p (get_or xs i d)) (list_any p (remove xs i))

  -- one that passes as what it replaces makes no difference
  pub any-replaced : (xs : List A) (i : ℕ) (d x : A) → i < length xs → p x ≡ p (get_or xs i d)
      → list_any p (set xs i x) ≡ list_any p xs
  any-replaced [] i d x w e = absurd (let v : i < 0 = w in omega (arith, v))
  any-replaced (y ∷ ys) zero d x w e = ap (λ b. b || list_any p ys) e
  any-replaced (y ∷ ys) (suc i) d x w e = ap (λ b. p y || b) (any-replaced ys i d x (omega (arith, w)) e)

  -- also in what is found, by a number that it has too
  pub found-replaced : (key : A → ℕ) (xs : List A) (i : ℕ) (d x : A) → i < length xs → p x ≡ p (get_or xs i d)
      → key x ≡ key (get_or xs i d)
      → option_map key (find p (set xs i x)) ≡ option_map key (find p xs)
  found-replaced key [] i d x w e k = absurd (let v : i < 0 = w in omega (arith, v))
  found-replaced key (y ∷ ys) zero d x w e k = by_test (p y) (p x) e refl
    where
      by_test : (b c : Bool) → c ≡ b → find p ys ≡ find p ys
          → option_map key (cond c (Some x) (find p ys)) ≡ option_map key (cond b (Some y) (find p ys))
      by_test true c h u = ap (λ t. option_map key (cond t (Some x) (find p ys))) h ∙ ap Some k
      by_test false c h u = ap (λ t. option_map key (cond t (Some x) (find p ys))) h
  found-replaced key (y ∷ ys) (suc i) d x w e k = by_test (p y) (found-replaced key ys i d x (omega (arith, w)) e k)
    where
      by_test : (b : Bool) → option_map key (find p (set ys i x)) ≡ option_map key (find p ys)
          → option_map key (cond b (Some y) (find p (set ys i x))) ≡ option_map key (cond b (Some y) (find p ys))
      by_test true h = refl
      by_test false h = h

-- Names.

abbrev pub named : List ℕ → LiveMessage → Bool
named name m = bytes_eq m.message.name name

pub nothing_mapped : (o : Option LiveMessage) → None ≡ option_map live_number o → o ≡ None
nothing_mapped None h = refl
nothing_mapped (Some m) h = absurd (none_some (live_number m) h)
  where
    none_some : (a : ℕ) → ◌≡◌ {A = Option ℕ} None (Some a) → ⊥
    none_some a h = cc

-- the names of the messages of a list
abbrev pub AreNames : BTreeMap (List ℕ) ℕ → List LiveMessage → Type 0
AreNames names live = (name : List ℕ) → get text_cmp names name ≡ option_map live_number (live_named live name)

same_text : (a b : List ℕ) → is_eq (text_cmp a b) ≡ bytes_eq a b
same_text a b = is_eq-slice_cmp a b

module _ (names more : BTreeMap (List ℕ) ℕ) (live : List LiveMessage) (are : AreNames names live) where
  pub names-inserted : (at : ℕ) (m : LiveMessage) → get text_cmp names m.message.name ≡ None
      → ((q : List ℕ) → get text_cmp more q ≡ cond (is_eq (text_cmp m.message.name q)) (Some (live_number m))
      (get text_cmp names q)) → AreNames more (insert live at m)
  names-inserted at m new put name = put name ∙ ap (λ b. cond b (Some (live_number m)) (get text_cmp names name))
      (same_text m.message.name name) ∙ by_test (bytes_eq m.message.name name) refl
    where
      none : live_named live m.message.name ≡ None
      none = nothing_mapped (live_named live m.message.name) (sym new ∙ are m.message.name)

      by_test : (b : Bool) → bytes_eq m.message.name name ≡ b → cond b (Some (live_number m)) (get text_cmp names name)
          ≡ option_map live_number (live_named (insert live at m) name)
      by_test true e =
          sym (ap (option_map live_number)
          (find-inserted (named name) live at m e
          (ap (live_named live) (sym ((bytes_eq-Decides m.message.name name).0 e)) ∙ none)))
      by_test false e = are name ∙ sym (ap (option_map live_number) (find-beside (named name) live at m e))

  pub names-first : (m : LiveMessage)
      → ((q : List ℕ) → get text_cmp more q ≡ cond (is_eq (text_cmp m.message.name q)) (Some (live_number m))
      (get text_cmp names q)) → AreNames more (m ∷ live)
  names-first m put name = put name ∙ ap (λ b. cond b (Some (live_number m)) (get text_cmp names name))
      (same_text m.message.name name) ∙ by_test (bytes_eq m.message.name name)
    where
      by_test : (b : Bool) → cond b (Some (live_number m)) (get text_cmp names name) ≡ option_map live_number
          (cond b (Some m) (live_named live name))
      by_test true = refl
      by_test false = are name

  pub names-removed : (at : ℕ) (gone : List ℕ) → at < length live
      → ((d : LiveMessage) → ◌≡◌ {A = List ℕ} (live_name (get_or live at d)) gone) → AreNamedApart live_name live
      → ((q : List ℕ) → get text_cmp more q ≡ cond (is_eq (text_cmp gone q)) None (get text_cmp names q))
      → AreNames more (remove live at)
  names-removed at gone within there apart taken name =
      taken name ∙ ap (λ b. cond b None (get text_cmp names name)) (same_text gone name)
      ∙ elim (slice_get_cases live at).1 [
        | inl h ↦ by_test h.0 (bytes_eq gone name) refl
        | inr past ↦ absurd (let w = past.0 in omega arith)
      ]
    where
      by_test : (d : LiveMessage) (b : Bool) → bytes_eq gone name ≡ b
          → cond b None (get text_cmp names name) ≡ option_map live_number (live_named (remove live at) name)
      by_test d true e =
          sym (ap (option_map live_number) (none_found (named name) (remove live at)
          (names-remove live_name live at d name within apart
          ∙ ap (λ n. not (bytes_eq n name) && has_name live_name live name) (there d)
          ∙ ap (λ b. not b && has_name live_name live name) e)))
      by_test d false e = are name
          ∙ sym (ap (option_map live_number)
          (find-without (named name) live at d (ap (λ n. bytes_eq n name) (there d) ∙ e) within))

-- Numbers.

-- the identifier of the message has the form and this number
abbrev pub has_number : IdentForm → ℕ → LiveMessage → Bool
has_number form n m = has_form_and_number form n m.message.ident

pub taken_among : (form : IdentForm) (n : ℕ) (xs : List Ident)
    → is_taken n (filter_map (number_in form) xs) ≡ list_any (has_form_and_number form n) xs
taken_among form n [] = refl
taken_among form n (x ∷ xs) = by_number (number_in form x) (taken_among form n xs)
  where
    by_number : (o : Option ℕ) → is_taken n (filter_map (number_in form) xs) ≡ list_any (has_form_and_number form n) xs
        → ◌≡◌ {A = Bool} (is_taken n (cons_option o (filter_map (number_in form) xs)))
        (elim o [ None ↦ false | Some m ↦ m == n ] || list_any (has_form_and_number form n) xs)
    by_number None h = h
    by_number (Some m) h = ap (λ b. m == n || b) h

any_idents : (q : Ident → Bool) (live : List LiveMessage)
    → list_any q (map (λ m. m.message.ident) live) ≡ list_any (λ m. q m.message.ident) live
any_idents q [] = refl
any_idents q (m ∷ live) = ap (λ b. q m.message.ident || b) (any_idents q live)

-- a number may not be given out where a live message or a held identifier has it
pub taken_is : (net : Net) (form : IdentForm) (n : ℕ)
    → is_taken n (taken_numbers net form)
    ≡ (list_any (has_number form n) net.live || list_any (has_form_and_number form n) net.held)
taken_is net form n =
    taken_among form n (map (λ m. m.message.ident) net.live ++ net.held)
    ∙ list_any-append (has_form_and_number form n) (map (λ m. m.message.ident) net.live) net.held
    ∙ ap (λ b. b || list_any (has_form_and_number form n) net.held) (any_idents (has_form_and_number form n) net.live)

pub or_assoc : (a b c : Bool) → ((a || b) || c) ≡ (a || (b || c))
or_assoc true b c = refl
or_assoc false b c = refl

-- the numbers of an index with one message more
pub taken-inserted : (net : Net) (at : ℕ) (m : LiveMessage) (form : IdentForm) (n : ℕ)
    → is_taken n (taken_numbers (record net { live = insert net.live at m }) form)
    ≡ (has_form_and_number form n m.message.ident || is_taken n (taken_numbers net form))
taken-inserted net at m form n =
    taken_is (record net { live = insert net.live at m }) form n
    ∙ ap (λ b. b || list_any (has_form_and_number form n) net.held) (any-insert (has_number form n) net.live at m)
    ∙ or_assoc (has_number form n m) (list_any (has_number form n) net.live)
    (list_any (has_form_and_number form n) net.held)
    ∙ sym (ap (λ b. has_form_and_number form n m.message.ident || b) (taken_is net form n))

-- the numbers don't hang on the names
pub numbers_apart : (a b : NetIndex) → a.standard ≡ b.standard → a.extended ≡ b.extended → (form : IdentForm)
    → indexed_numbers a form ≡ indexed_numbers b form
numbers_apart a b standard extended Standard = standard
numbers_apart a b standard extended Extended = extended

pub ok_holds : {A E P : Type 0} (r : Result A E) → OnOk r P → is_ok r ≡ true → P
ok_holds (Ok x) h t = h
ok_holds (Err e) h t = absurd (false≢true t)

-- the index after a message is inserted
pub index-inserted : (before after : NetIndex) (net : Net) (at : ℕ) (m : LiveMessage) → IsIndex before net
    → get text_cmp before.names m.message.name ≡ None
    → ((q : List ℕ) → get text_cmp after.names q ≡ cond (is_eq (text_cmp m.message.name q)) (Some (live_number m))
    (get text_cmp before.names q))
    → ((form : IdentForm) (n : ℕ)
    → is_taken n (indexed_numbers after form)
    ≡ (has_form_and_number form n m.message.ident || is_taken n (indexed_numbers before form)))
    → IsIndex after (record net { live = insert net.live at m })
index-inserted before after net at m is new put more = record {
  names = names-inserted before.names after.names net.live is.names at m new put;
  numbers = λ form n. more form n ∙ ap (λ b. has_form_and_number form n m.message.ident || b) (is.numbers form n)
      ∙ sym (taken-inserted net at m form n);
}

-- Two identifiers of one form and one number are the same.
is_number_once : (form : IdentForm) (n : ℕ) (i j : Ident) → has_form_and_number form n i ≡ true
    → has_form_and_number form n j ≡ true → j ≡ i
is_number_once Standard n (id.Std a) (id.Std b) h k = ap (λ v. id.Std v) (eqb-true b n k ∙ sym (eqb-true a n h))
is_number_once Standard n (id.Std a) (id.Ext b) h k = absurd (false≢true k)
is_number_once Standard n (id.Ext a) j h k = absurd (false≢true h)
is_number_once Extended n (id.Ext a) (id.Ext b) h k = ap (λ v. id.Ext v) (eqb-true b n k ∙ sym (eqb-true a n h))
is_number_once Extended n (id.Ext a) (id.Std b) h k = absurd (false≢true k)
is_number_once Extended n (id.Std a) j h k = absurd (false≢true h)

-- what passes one test passes the other, so where none passes the one, none passes the other
none_either : {A : Type 0} (p q : A → Bool) → ((x : A) → q x ≡ true → p x ≡ true) → (xs : List A)
    → list_any p xs ≡ false → list_any q xs ≡ false
none_either p q to [] h = refl
none_either p q to (x ∷ xs) h =
    let parts = or_parts (p x) (list_any p xs) h in
    ap (λ b. b || list_any q xs) (false_from_ne_true (q x) (λ t. false≢true (sym parts.0 ∙ to x t)))
    ∙ none_either p q to xs parts.1

-- nothing of a number is left where all of the number are taken out
none_left : {A : Type 0} (key : A → ℕ) (p : A → Bool) (k : ℕ) → ((x : A) → p x ≡ true → key x ≡ k) → (xs : List A)
    → list_any p (filter (λ x. not (key x == k)) xs) ≡ false
none_left key p k of_number [] = refl
none_left key p k of_number (x ∷ xs) = by_test (key x == k) refl (none_left key p k of_number xs)
  where
    by_test : (b : Bool) → key x == k ≡ b → list_any p (filter (λ y. not (key y == k)) xs) ≡ false
        → list_any p (cond (not b) (x ∷ filter (λ y. not (key y == k)) xs) (filter (λ y. not (key y == k)) xs)) ≡ false
    by_test true e h = h
    by_test false e h = ap (λ b. b || list_any p (filter (λ y. not (key y == k)) xs))
        (false_from_ne_true (p x) (λ t. false≢true (sym e ∙ eq-eqb (key x) k (of_number x t)))) ∙ h

module _ (net : Net) (at : ℕ) (name : List ℕ) (i : Ident) (gone : IsRemovable net at name i) where
  abbrev left : Net
  left = record net { live = remove net.live at }

  -- the number of the message that is removed is taken no more, and every other one as before
  numbers-removed : (form : IdentForm) (n : ℕ)
      → is_taken n (taken_numbers left form)
      ≡ (not (has_form_and_number form n i) && is_taken n (taken_numbers net form))
  numbers-removed form n = taken_is left form n ∙ by_test (has_form_and_number form n i) refl
      ∙ sym (ap (λ b. not (has_form_and_number form n i) && b) (taken_is net form n))
    where
      own : has_form_and_number form n i ≡ true → list_any (has_number form n) (remove net.live at) ≡ false
      own t =
          ap (list_any (has_number form n)) (remove_at live_number net.live (dbc_number i) at gone.found.there)
          ∙ none_left live_number (has_number form n) (dbc_number i)
          (λ m h. ap dbc_number (is_number_once form n i m.message.ident t h)) net.live

      held : has_form_and_number form n i ≡ true → list_any (has_form_and_number form n) net.held ≡ false
      held t = none_either (λ j. same_ident j i) (has_form_and_number form n)
          (λ j h. same_ident-from j i (is_number_once form n i j t h)) net.held gone.free

      by_test : (b : Bool) → has_form_and_number form n i ≡ b
          → (list_any (has_number form n) (remove net.live at) || list_any (has_form_and_number form n) net.held)
          ≡ (not (has_form_and_number form n i)
          && (list_any (has_number form n) net.live || list_any (has_form_and_number form n) net.held))
      by_test true e =
          ap (λ b. b || list_any (has_form_and_number form n) net.held) (own e) ∙ held e
          ∙ sym (ap (λ b. not b &&
          (list_any (has_number form n) net.live || list_any (has_form_and_number form n) net.held)) e)
      by_test false e = elim (slice_get_cases net.live at).1 [
        | inl h ↦
            ap (λ b. b || list_any (has_form_and_number form n) net.held)
            (sym (any-remove (has_number form n) net.live at h.0 gone.found.there.within
            ∙ ap (λ b. b || list_any (has_number form n) (remove net.live at))
            (ap (has_form_and_number form n) (gone.found.same h.0) ∙ e)))
            ∙ sym (ap (λ b. not b &&
            (list_any (has_number form n) net.live || list_any (has_form_and_number form n) net.held)) e)
        | inr past ↦ absurd (let w = gone.found.there.within in let v = past.0 in omega arith)
      ]

  pub index-removed : (before after : NetIndex) → IsIndex before net
      → ((q : List ℕ) → get text_cmp after.names q ≡ cond (is_eq (text_cmp name q)) None (get text_cmp before.names q))
      → ((form : IdentForm) (n : ℕ)
      → is_taken n (indexed_numbers after form)
      ≡ (not (has_form_and_number form n i) && is_taken n (indexed_numbers before form)))
      → IsIndex after left
  index-removed before after is taken less = record {
    names = names-removed before.names after.names net.live is.names at name gone.found.there.within gone.named
        gone.apart taken;
    numbers = λ form n. less form n ∙ ap (λ b. not (has_form_and_number form n i) && b) (is.numbers form n)
        ∙ sym (numbers-removed form n);
  }

  -- where the identifier is held from then on, its number stays taken
  numbers-moved : (gap : ℕ) (form : IdentForm) (n : ℕ)
      → is_taken n (taken_numbers (record net { live = remove net.live at; held = insert net.held gap i }) form)
      ≡ is_taken n (taken_numbers net form)
  numbers-moved gap form n =
      taken_is (record net { live = remove net.live at; held = insert net.held gap i }) form n
      ∙ ap (λ b. list_any (has_number form n) (remove net.live at) || b)
      (any-insert (has_form_and_number form n) net.held gap i)
      ∙ swap (list_any (has_number form n) (remove net.live at)) (has_form_and_number form n i)
      (list_any (has_form_and_number form n) net.held)
      ∙ ap (λ b. b || list_any (has_form_and_number form n) net.held) (elim (slice_get_cases net.live at).1 [
        | inl h ↦
            sym (any-remove (has_number form n) net.live at h.0 gone.found.there.within
            ∙ ap (λ b. b || list_any (has_number form n) (remove net.live at))
            (ap (has_form_and_number form n) (gone.found.same h.0)))
        | inr past ↦ absurd (let w = gone.found.there.within in let v = past.0 in omega arith)
      ])
      ∙ sym (taken_is net form n)
    where
      swap : (a b c : Bool) → (a || (b || c)) ≡ ((b || a) || c)
      swap true true c = refl
      swap true false c = refl
      swap false true c = refl
      swap false false c = refl

  pub index-moved : (before after : NetIndex) (gap : ℕ) → IsIndex before net
      → ((q : List ℕ) → get text_cmp after.names q ≡ cond (is_eq (text_cmp name q)) None (get text_cmp before.names q))
      → after.standard ≡ before.standard → after.extended ≡ before.extended
      → IsIndex after (record net { live = remove net.live at; held = insert net.held gap i })
  index-moved before after gap is taken standard extended = record {
    names = names-removed before.names after.names net.live is.names at name gone.found.there.within gone.named
        gone.apart taken;
    numbers = λ form n. ap (is_taken n) (numbers_apart after before standard extended form) ∙ is.numbers form n
        ∙ sym (numbers-moved gap form n);
  }

-- the index of a network of which a message is replaced by one of the same name and identifier
pub index-replaced : (o : Option NetIndex) (net : Net) (at : ℕ) (d m : LiveMessage) → at < length net.live
    → indexed_alike (get_or net.live at d) m ≡ true → IsIndexIfThere o net
    → IsIndexIfThere o (record net { live = set net.live at m })
index-replaced None net at d m within alike is = tt
index-replaced (Some index) net at d m within alike is =
    let old : LiveMessage = get_or net.live at d in
    let parts = and_parts (bytes_eq old.message.name m.message.name) (same_ident old.message.ident m.message.ident)
    alike in
    let named_alike : old.message.name ≡ m.message.name =
    (bytes_eq-Decides old.message.name m.message.name).0 parts.0 in
    let ident : old.message.ident ≡ m.message.ident = same_ident-true old.message.ident m.message.ident parts.1 in
    record {
      names = λ name. is.names name
          ∙ sym (found-replaced (named name) live_number net.live at d m within
          (ap (λ n. bytes_eq n name) (sym named_alike)) (ap dbc_number (sym ident)));
      numbers = λ form n.
          is.numbers form n ∙ taken_is net form n
          ∙ ap (λ b. b || list_any (has_form_and_number form n) net.held)
          (sym (any-replaced (has_number form n) net.live at d m within
          (ap (has_form_and_number form n) (sym ident))))
          ∙ sym (taken_is (record net { live = set net.live at m }) form n);
    }
