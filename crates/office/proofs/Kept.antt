-- What is kept of first arrivals: how it is found, and how it goes on with a history.
use Rattle.office.proofs.Common.{◌≡◌, Bool, true, false, cond, ◌&&◌, List, [], ◌∷◌, ◌++◌, drop, get_or, map, find}
use Rattle.office.proofs.Common.{Option, Some, None, refl, sym, ap, subst, ◌∙◌, lookup, bytes_eq, false≢true}
use Rattle.office.proofs.Common.{map-append, Reply, Office, Step, Answered, first_of}
use Rattle.office_history.specs.declared.arrival.Answer.TheVariants as answer
use Rattle.office_history.specs.History.{IsAnsweredAs, first_arrivals}
use Rattle.office_history.specs.Laws.{HistoriesGrow}
use Rattle.office_history.proofs.Histories.{first_again, first_new}
use Rattle.office_history.proofs.Pairs.{has_pair, pair_found, turned}
use Rattle.office.specs.declared.first.First.{First}
use Rattle.office.specs.declared.first.Pair.{Pair}
use Rattle.office.specs.Keyed.{HoldsHistory, Kept, Keyed, entry_kept, kept_of, pair_eq}

-- ---- what is found under a pair

abbrev IsFound : Option First → Option Answered → Type 0
IsFound None None = Unit {0}
IsFound None (Some came) = ⊥
IsFound (Some first) None = ⊥
IsFound (Some first) (Some came) = (came.content ≡ first.content.items) × (came.answer ≡ answer.Reply first.reply)

by_test : (t u : Bool) → t ≡ u → (f : First) (b : Answered) → IsFound (Some f) (Some b)
    → (r : Option First) (s : Option Answered) → IsFound r s
    → IsFound (cond t (Some f) r) (cond u (Some b) s)
by_test true true same f b hit r s rest = hit
by_test true false same f b hit r s rest = absurd (false≢true (sym same))
by_test false true same f b hit r s rest = absurd (false≢true same)
by_test false false same f b hit r s rest = rest

by_none : (r : Option First) (s : Option Answered) → IsFound r s → r ≡ None → s ≡ None
by_none None None found none = refl
by_none None (Some came) found none = absurd found
by_none (Some first) None found none = absurd found
by_none (Some first) (Some came) found none = absurd (cc)

by_new : (r : Option First) (s : Option Answered) → IsFound r s → s ≡ None → r ≡ None
by_new None None found new = refl
by_new None (Some came) found new = absurd found
by_new (Some first) None found new = absurd found
by_new (Some first) (Some came) found new = absurd (cc)

by_some : (r : Option First) (s : Option Answered) (f : First) → IsFound r s → r ≡ Some f
    → (came : Answered) × (s ≡ Some came) × (came.content ≡ f.content.items) × (came.answer ≡ answer.Reply f.reply)
by_some None None f found some = absurd (cc)
by_some None (Some came) f found some = absurd found
by_some (Some first) None f found some = absurd found
by_some (Some first) (Some came) f found some =
    let same : first ≡ f = cc in (
      came,
      refl,
      subst (λ (x : First). came.content ≡ x.content.items) same found.0,
      subst (λ (x : First). came.answer ≡ answer.Reply x.reply) same found.1,
    )

module _ (p : Pair) (a : Answered) (team : a.team ≡ p.team) (key : a.key ≡ p.key) where
  -- the pair is that of an entry as it is that of the arrival of which the entry is kept
  same_tests : (e : Pair × First) (b : Answered) → entry_kept e ≡ kept_of b → pair_eq p e.0 ≡ has_pair a b
  same_tests e b same =
      ap (λ t. bytes_eq t e.0.team && bytes_eq p.key e.0.key) (sym team)
      ∙ ap (λ t. bytes_eq a.team t && bytes_eq p.key e.0.key) (ap (λ (k : Kept). k.team) same)
      ∙ ap (λ t. bytes_eq a.team b.team && bytes_eq t e.0.key) (sym key)
      ∙ ap (λ t. bytes_eq a.team b.team && bytes_eq a.key t) (ap (λ (k : Kept). k.key) same)
      ∙ turned a b

  found_among : (es : List (Pair × First)) (came : List Answered) → map entry_kept es ≡ map kept_of came
      → IsFound (lookup (pair_eq p) es) (find (has_pair a) came)
  found_among [] [] same = tt {0}
  found_among [] (b ∷ came) same = absurd (cc)
  found_among (e ∷ es) [] same = absurd (cc)
  found_among (e ∷ es) (b ∷ came) same =
      let heads : entry_kept e ≡ kept_of b = ap (λ (l : List Kept). get_or l 0 (kept_of b)) same in
      let tails : map entry_kept es ≡ map kept_of came = ap (λ (l : List Kept). drop 1 l) same in
      by_test (pair_eq p e.0) (has_pair a b) (same_tests e b heads) e.1 b
      (sym (ap (λ (k : Kept). k.content) heads), sym (ap (λ (k : Kept). k.answer) heads))
      (lookup (pair_eq p) es) (find (has_pair a) came) (found_among es came tails)

  module _ (h : List Answered) (es : List (Pair × First)) (same : map entry_kept es ≡ map kept_of (first_arrivals h))
    where
      found : IsFound (lookup (pair_eq p) es) (first_of h a)
      found = subst (IsFound (lookup (pair_eq p) es)) (pair_found a h) (found_among es (first_arrivals h) same)

      -- where no entry has the pair, none of the pair came first
      pub none_came : lookup (pair_eq p) es ≡ None → first_of h a ≡ None
      none_came none = by_none (lookup (pair_eq p) es) (first_of h a) found none

      pub none_kept : first_of h a ≡ None → lookup (pair_eq p) es ≡ None
      none_kept new = by_new (lookup (pair_eq p) es) (first_of h a) found new

      -- an entry that has the pair is that of the pair's first arrival
      pub first_came : (f : First) → lookup (pair_eq p) es ≡ Some f
          → (came : Answered) × (first_of h a ≡ Some came) × (came.content ≡ f.content.items)
          × (came.answer ≡ answer.Reply f.reply)
      first_came f some = by_some (lookup (pair_eq p) es) (first_of h a) f found some

-- ---- how it goes on

pub entry_of : (p : Pair) (f : First) (a : Answered) → a.team ≡ p.team → a.key ≡ p.key → f.content.items ≡ a.content
    → a.answer ≡ answer.Reply f.reply
    → entry_kept (p, f) ≡ kept_of a
entry_of p f a team key content reported =
    λ i. record { team = sym team i; key = sym key i; content = content i; answer = sym reported i }

last_kept : (h : List Answered) (a : Answered) (es : List (Pair × First)) (e : Pair × First) → first_of h a ≡ None
    → entry_kept e ≡ kept_of a
    → map entry_kept es ≡ map kept_of (first_arrivals h)
    → map entry_kept (es ++ e ∷ []) ≡ map kept_of (first_arrivals (h ++ a ∷ []))
last_kept h a es e new is same =
    map-append entry_kept es (e ∷ []) ∙ ap (λ (l : List Kept). l ++ entry_kept e ∷ []) same
    ∙ ap (λ (k : Kept). map kept_of (first_arrivals h) ++ k ∷ []) is
    ∙ sym (ap (map kept_of) (first_new h a new) ∙ map-append kept_of (first_arrivals h) (a ∷ []))

-- a first arrival is answered by a step, and its entry comes last
pub first_holds : HistoriesGrow → (h : List Answered) (a : Answered) (reply : Reply) (before after : Office)
    (es left : List (Pair × First)) (e : Pair × First)
    → HoldsHistory h (record { office = before; kept = map entry_kept es }) → first_of h a ≡ None
    → a.answer ≡ answer.Reply reply → Step a.profile before a.team a.command reply after
    → entry_kept e ≡ kept_of a → left ≡ es ++ e ∷ []
    → HoldsHistory (h ++ a ∷ []) (record { office = after; kept = map entry_kept left })
first_holds grow h a reply before after es left e holds new reported step is last = record {
  legal = grow.first h before after a reply holds.legal new reported step;
  kept = ap (map entry_kept) last ∙ last_kept h a es e new is holds.kept;
}

-- a repeat changes nothing
pub again_holds : HistoriesGrow → (h : List Answered) (a came : Answered) (o : Keyed) → HoldsHistory h o
    → first_of h a ≡ Some came → IsAnsweredAs a came
    → HoldsHistory (h ++ a ∷ []) o
again_holds grow h a came o holds is answered = record {
  legal = grow.again h o.office a came holds.legal is answered;
  kept = holds.kept ∙ ap (map kept_of) (sym (first_again h a came is));
}
