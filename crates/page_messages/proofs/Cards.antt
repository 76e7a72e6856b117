-- The cards of messages, one after another.
use Rattle.page_messages.proofs.Common.{◌≡◌, ◌+◌, ◌<◌, ◌==◌, ◌∙◌, ℕ, Bool, true, false, List, [], length, take, get_or}
use Rattle.page_messages.proofs.Common.{refl, sym, ap, arith, subst, MatchBool, enumerate_from, length-enumerate_from}
use Rattle.page_messages.proofs.Common.{Becomes, Writing, adding, messages_of, Marks}
use Rattle.std.proofs.lemmas.List.FromFn.{get_or-enumerate_from}
use Rattle.page_parts.specs.declared.subject.Subject.{Subject}
use Rattle.page_messages.specs.Each.{AreCards, IsEach, each_html}
use Rattle.page_messages.specs.Layouts.{Adds, AreFor}
use Rattle.page_messages.proofs.Adding.{adds_more, nothing_added}

-- in a loop that adds something for each item of a list and its index
pub adds_numbered : {X : Type 0} (Is : ℕ × X → List ℕ → Type 0) (xs : List X) (i : ℕ) (x : X) (a b c : Writing)
    → i < length xs → x ≡ get_or xs i x → Adds (AreFor Is (take i (enumerate_from 0 xs))) b a → Adds (Is (i, x)) c b
    → Adds (AreFor Is (take (i + 1) (enumerate_from 0 xs))) c a
adds_numbered Is xs i x a b c within is done one =
    let all = enumerate_from 0 xs in
    let below : i < length all = omega (arith, length-enumerate_from 0 xs) in
    let same : 0 + i ≡ i = omega arith in
    let here : (i, x) ≡ get_or all i (i, x) =
    sym (get_or-enumerate_from 0 xs i (i, x) within ∙ ap (λ k. (k, get_or xs i x)) same ∙ ap (λ y. (i, y)) (sym is)) in
    adds_more Is all i (i, x) a b c below here done one

module _ (subject : Subject) (marks : Marks) where
  abbrev IsPart : List ℕ → Bool → Type 0
  IsPart bytes is_none = MatchBool is_none (bytes ≡ [])
      ((cards : List ℕ) × AreCards subject marks (enumerate_from 0 (messages_of subject)) cards
      × (bytes ≡ each_html cards))

  -- no part where there is no message
  pub no_card : (page : Writing) → (length (messages_of subject) == 0) ≡ true → Adds (IsEach subject marks) page page
  no_card page e = ([], subst (IsPart []) (sym e) refl, nothing_added page)

  -- the part with these cards
  pub all_cards : (cards : List ℕ) (page new : Writing) → (length (messages_of subject) == 0) ≡ false
      → AreCards subject marks (enumerate_from 0 (messages_of subject)) cards
      → Becomes new (adding (each_html cards) page) → Adds (IsEach subject marks) new page
  all_cards cards page new e are is =
      (each_html cards, subst (IsPart (each_html cards)) (sym e) (cards, are, refl), is)
