-- What is remembered after a look is so in the tables, if what was before it is.
use Rattle.store_looks.proofs.Common.{◌≡◌, Bool, ℕ, List, Option, Some, None, ap, sym, subst, ◌∙◌, IsTrue, SpnBook}
use Rattle.store_looks.proofs.Common.{LookForm, NetLook, Net, view_of, View, net_shown, shown_of, Tables}
use Rattle.std.proofs.Common.{◌⊎◌, inl, inr}
use Rattle.office_types.specs.declared.look.Look.TheVariants as look
use Rattle.store_looks.specs.Seen.{IsTextOn, IsTrueOf, Known, MayRemember, OnNetAndBook, whole_view}

-- this is all of the network of the name
abbrev pub IsWhole : List ℕ → Option View → Tables → Type 0
IsWhole name seen t = OnNetAndBook name (λ net book found. found ≡ whole_view net book) seen t

kept : (name : List ℕ) (is_whole : Bool) (seen : Option View) (old new : Known) (t : Tables)
    → (IsTrue is_whole → IsWhole name seen t) → MayRemember name is_whole seen old new → IsTrueOf old t
    → IsTrueOf new t
kept name is_whole seen old new t whole (inl same) truth = subst (λ known. IsTrueOf known t) (sym same) truth
kept name is_whole seen old new t whole (inr (inl none)) truth = subst (λ known. IsTrueOf known t) (sym none) tt
kept name is_whole seen old new t whole (inr (inr it)) truth =
    subst (λ known. IsTrueOf known t) (sym it.1.2)
    (subst (λ found. IsWhole name found t) it.1.1 (whole it.0))

-- between, texts may have been taken
pub still_true : (name : List ℕ) (is_whole : Bool) (seen : Option View) (old between new : Known) (t : Tables)
    → (IsTrue is_whole → IsWhole name seen t) → (between ≡ old) ⊎ (between ≡ None)
    → MayRemember name is_whole seen between new → IsTrueOf old t → IsTrueOf new t
still_true name is_whole seen old between new t whole (inl same) may truth =
    kept name is_whole seen between new t whole may (subst (λ known. IsTrueOf known t) (sym same) truth)
still_true name is_whole seen old between new t whole (inr none) may truth =
    kept name is_whole seen between new t whole may (subst (λ known. IsTrueOf known t) (sym none) tt)

-- ---- the texts of what is remembered

seen_is : (name : List ℕ) (view : View) (known : Known) (t : Tables) → known ≡ Some (name, view) → IsTrueOf known t
    → IsWhole name (Some view) t
seen_is name view known t is truth = subst (λ k. IsTrueOf k t) is truth

net_shown_is : (form : LookForm) (l : NetLook) (view : View) (net : Option Net) (book : SpnBook)
    → Some view ≡ whole_view net book
    → shown_of form l view ≡ net_shown form net book l
net_shown_is form l view None book whole = absurd (cc)
net_shown_is form l view (Some net) book whole =
    let same : view ≡ view_of net book = cc in
    ap (shown_of form l) same

pub look_on : (name : List ℕ) (l : NetLook) (form : LookForm) (view : View) (known : Known) (t : Tables)
    (text : Option (List ℕ))
    → known ≡ Some (name, view) → IsTrueOf known t → text ≡ shown_of form l view
    → IsTextOn (look.Net name l form) text t
look_on name l form view known t text is truth same net at book in_book =
    same ∙ net_shown_is form l view net book (seen_is name view known t is truth net at book in_book)
