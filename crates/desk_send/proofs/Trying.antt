-- Tries, one after the other.
use Rattle.desk_send.proofs.Common.{◌≡◌, ◌++◌, ◌∷◌, ℕ, zero, suc, Bool, true, false, List, [], Result, Ok, Err, refl}
use Rattle.desk_send.proofs.Common.{sym, subst, append_assoc, append-nil, Answer}
use Rattle.desk_send.specs.Desks.{AreStill, Asked, Desks, Takes, TakesNone, Turn, turn}
use Rattle.desk_send.specs.Replies.{Comes, EndsWith, GoesOn, HasCome, IsStep, Shows, is_again}
use Rattle.desk_send.specs.declared.sending.SendFault.{SendFault}
use Rattle.desk_send.specs.declared.sending.SendFault.TheVariants.{Memory, NoReply}
use Rattle.desk_send.specs.declared.sending.Step.{Step}
use Rattle.desk_send.specs.declared.sending.Step.TheVariants as step

pub still_on : (first before after : Desks) → AreStill first before → AreStill before after → AreStill first after
still_on first before after early late = λ port request came may. early port request came (late port request came may)

-- ---- the record

pub takes_on : (first before after : Desks) (xs ys : List Turn) → Takes first before xs → Takes before after ys
    → Takes first after (xs ++ ys)
takes_on first before after xs ys early late =
    λ earlier was. subst after.taken (append_assoc earlier xs ys) (late (earlier ++ xs) (early earlier was))

pub none_then : (first before after : Desks) (ys : List Turn) → TakesNone first before → Takes before after ys
    → Takes first after ys
none_then first before after ys early late = λ earlier was. late earlier (early earlier was)

pub takes_nothing : (desks : Desks) → Takes desks desks []
takes_nothing desks = λ earlier was. subst desks.taken (sym (append-nil earlier)) was

-- ---- one try after the other

-- a try after a moment in which nothing was sent
pub shows_later : (first before after : Desks) (port : ℕ) (request : List ℕ) (came : Asked) (shown : Step)
    → AreStill first before → TakesNone first before → before.sent port request came
    → Takes before after (turn port request came ∷ []) → IsStep came shown
    → Shows first after port request shown
shows_later first before after port request came shown still none may takes is =
    (came, still port request came may, none_then first before after _ none takes, is)

goes_more : (again : Bool) (later : List Turn) (Next Then : Type 0) (came : Asked) (r : Result Answer SendFault)
    → (Next → Then) → GoesOn again later Next came r → GoesOn again later Then came r
goes_more true later Next Then came r more next = more next
goes_more false later Next Then came r more ends = ends

-- what comes of a request where less may come
pub comes_more : (first mid : Desks) (port : ℕ) (request : List ℕ) → AreStill first mid → (tries : ℕ)
    (turns : List Turn) (r : Result Answer SendFault) → Comes mid port request tries turns r
    → Comes first port request tries turns r
comes_more first mid port request still zero turns r is = is
comes_more first mid port request still (suc tries) turns r is =
    let next = goes_more (is_again is.0) is.1 (Comes mid port request tries is.1 r)
    (Comes first port request tries is.1 r) is.0 r (comes_more first mid port request still tries is.1 r) is.4 in
    (is.0, is.1, is.2, still port request is.0 is.3, next)

module _ (first : Desks) (port : ℕ) (request : List ℕ) where
  -- a try after which the request is sent again
  comes_again : (left more : ℕ) (came : Asked) (later : List Turn) (r : Result Answer SendFault) → suc left ≡ more
      → first.sent port request came → is_again came ≡ true → Comes first port request left later r
      → Comes first port request more (turn port request came ∷ later) r
  comes_again left more came later r one may again next =
      let here : Comes first port request (suc left) (turn port request came ∷ later) r =
      let goes_on = subst (λ b. GoesOn b later (Comes first port request left later r) came r) (sym again) next in
      (came, later, refl, may, goes_on) in
      subst (λ n. Comes first port request n (turn port request came ∷ later) r) one here

  -- the last one
  comes_now : (left more : ℕ) (came : Asked) (r : Result Answer SendFault) → suc left ≡ more
      → first.sent port request came → is_again came ≡ false → EndsWith came r
      → Comes first port request more (turn port request came ∷ []) r
  comes_now left more came r one may over ends =
      let here : Comes first port request (suc left) (turn port request came ∷ []) r =
      let ended = subst (λ b. GoesOn b [] (Comes first port request left [] r) came r) (sym over) (refl, ends) in
      (came, [], refl, may, ended) in
      subst (λ n. Comes first port request n (turn port request came ∷ []) r) one here

  -- the turns so far, after which what comes in the tries that are left comes in all of them
  abbrev pub SoFar : Desks → ℕ → ℕ → Type 0
  SoFar now left tries = (turns : List Turn) × Takes first now turns
      × ((later : List Turn) (r : Result Answer SendFault) → Comes first port request left later r
      → Comes first port request tries (turns ++ later) r)

  pub begins : (tries : ℕ) → SoFar first tries tries
  begins tries = ([], takes_nothing first, λ later r comes. comes)

  pub none_left : (now : Desks) (left tries : ℕ) → left ≡ 0 → SoFar now left tries
      → HasCome first now port request tries (Err NoReply)
  none_left now left tries none so_far =
      let last : Comes first port request left [] (Err NoReply) =
      subst (λ n. Comes first port request n [] (Err NoReply)) (sym none) (refl, refl) in
      let all = subst (λ ts. Comes first port request tries ts (Err NoReply)) (append-nil so_far.0)
      (so_far.2 [] (Err NoReply) last) in
      (so_far.0, so_far.1, all)

  module _ (mid after : Desks) (left more tries : ℕ) (one : suc left ≡ more) (still : AreStill first mid)
      (so_far : SoFar mid more tries) where
    pub tried_again : Shows mid after port request step.Again → SoFar after left tries
    tried_again shown =
        let t = turn port request shown.0 in (
          so_far.0 ++ t ∷ [],
          takes_on first mid after so_far.0 (t ∷ []) so_far.1 shown.2,
          λ later r next. subst (λ ts. Comes first port request tries ts r) (sym (append_assoc so_far.0 (t ∷ []) later))
              (so_far.2 (t ∷ later) r
              (comes_again left more shown.0 later r one (still port request shown.0 shown.1) shown.3 next)),
        )

    tried_last : (came : Asked) (r : Result Answer SendFault) → mid.sent port request came
        → Takes mid after (turn port request came ∷ []) → is_again came ≡ false → EndsWith came r
        → HasCome first after port request tries r
    tried_last came r may takes over ends =
        let t = turn port request came in (
          so_far.0 ++ t ∷ [],
          takes_on first mid after so_far.0 (t ∷ []) so_far.1 takes,
          so_far.2 (t ∷ []) r (comes_now left more came r one (still port request came may) over ends),
        )

    pub tried_to_an_answer : (a : Answer) → Shows mid after port request (step.Answered a)
        → HasCome first after port request tries (Ok a)
    tried_to_an_answer a shown = tried_last shown.0 (Ok a) shown.1 shown.2 shown.3.0 shown.3.1

    pub tried_in_vain : Shows mid after port request step.Over → HasCome first after port request tries (Err NoReply)
    tried_in_vain shown = tried_last shown.0 (Err NoReply) shown.1 shown.2 shown.3.0 shown.3.1

    pub tried_out_of_memory : Shows mid after port request step.OutOfMemory
        → HasCome first after port request tries (Err Memory)
    tried_out_of_memory shown = tried_last shown.0 (Err Memory) shown.1 shown.2 shown.3.0 shown.3.1
