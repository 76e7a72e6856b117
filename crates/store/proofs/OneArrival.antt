-- What an arrival makes of tables that hold a history.
use Rattle.store.proofs.Common.{◌≡◌, inl, inr, ℕ, false, List, [], ◌∷◌, ◌++◌, Option, None, Some, refl, sym, ap, subst}
use Rattle.store.proofs.Common.{◌∙◌, option_map, IfSome, cases_Bool, All-contains, All-push, reply_parts, Change}
use Rattle.store.proofs.Common.{Decision, Net, Office, HaveOwnBlocks, IsDecision, IsHeadFirst, all_applied, IsNet}
use Rattle.store.proofs.Common.{Refusing, Profile, Two, net_named, Contains-found, Tables, Answered, first_of}
use Rattle.store.proofs.Common.{HistoriesLeaveOffices, IsInRange, histories_grow, kept_row, part_rows, Follows, IsNetAt}
use Rattle.store.proofs.Common.{IsBookIn, same_net}
use Rattle.std.specs.List.{All}
use Rattle.std.specs.Str.{bytes_eq}
use Rattle.std.proofs.lemmas.Slice.Eq.{bytes_eq-Decides}
use Rattle.office_rules.specs.Change.{NetAndBook, left_after}
use Rattle.office_rules.specs.Outcome.{Changing, Outcome}
use Rattle.office_rules.specs.Step.{Step, office_after, step_outcome}
use Rattle.office_law.specs.Histories.{net_after}
use Rattle.office_law.proofs.NetsApart.{nets_apart}
use Rattle.office_history.specs.declared.arrival.Answer.TheVariants as answer
use Rattle.office_history.specs.History.{IsAnsweredAs, IsLegal}
use Rattle.store_changes.specs.Kept.{AreKept, AreKeptParts}
use Rattle.store_changes.proofs.Kept.{again_kept, again_parts, first_kept, first_parts}
use Rattle.store_rows.proofs.Changes.{others_follow}
use Rattle.store.specs.Holds.{Holds}

-- ---- a first arrival

abbrev pub before_of : Office → List ℕ → NetAndBook
before_of o name = record { net = net_named o name; book = o.book }

-- what an outcome leaves of the network and of the book is what it leaves of the office
net_left : (o : Office) (name : List ℕ) (out : Outcome) → (left_after (before_of o name) out).net ≡ net_after
    (net_named o name) out
net_left o name (Refusing r) = refl
net_left o name (Changing r net e) = refl

book_left : (o : Office) (name : List ℕ) (out : Outcome)
    → (left_after (before_of o name) out).book ≡ (office_after o out).book
book_left o name (Refusing r) = refl
book_left o name (Changing r net e) = refl

-- a network of the office that a history leaves keeps what each network of an office does
pub net_of_office : HistoriesLeaveOffices → (h : List Answered) (o : Office) (name : List ℕ) → All IsInRange h
    → IsLegal h o → IfSome (net_named o name) IsNet
net_of_office laws h o name ranged legal = if_found (net_named o name) refl
  where
    if_found : (found : Option Net) → net_named o name ≡ found → IfSome found IsNet
    if_found None named = tt
    if_found (Some net) named = All-contains IsNet o.nets net (laws.kept h o ranged legal).nets
        (Contains-found (λ (n : Net). bytes_eq n.name name) o.nets net named)

-- the rows of each network after a step stand for it: its own follow it, and the others stay
nets_after : (o after : Office) (name : List ℕ) (t u : Tables) (changed : NetAndBook)
    → Follows name t u (before_of o name) changed → changed.net ≡ net_named after name
    → ((other : List ℕ) → bytes_eq name other ≡ false → net_named after other ≡ net_named o other)
    → ((other : List ℕ) → IsNetAt other t (net_named o other)) → (other : List ℕ)
    → IsNetAt other u (net_named after other)
nets_after o after name t u changed follows own others nets other = elim (cases_Bool (bytes_eq name other)) [
  | inl same ↦ subst (λ n. IsNetAt n u (net_named after n)) ((bytes_eq-Decides name other).0 same)
      (subst (IsNetAt name u) own (follows.here (nets name)))
  | inr apart ↦ subst (IsNetAt other u) (sym (others other apart)) (others_follow name t u (before_of o name) changed
      follows other apart (net_named o other) (nets other))
]

abbrev pub with_reply : Answered → Decision → Tables → Tables
with_reply a d t = record t {
  reply = t.reply ++ kept_row a.team a.key a.content d.reply ∷ [];
  part = t.part ++
      part_rows a.team a.key 1 (reply_parts d.reply);
}

-- the changes were written, from the network and the book on which they were decided
abbrev pub AreFollowed : List ℕ → NetAndBook → List Change → Tables → Tables → Type 0
AreFollowed name before changes t u =
    IsHeadFirst before.net changes → HaveOwnBlocks changes → Follows name t u before (all_applied name changes before)

pub first_holds : HistoriesLeaveOffices → (h : List Answered) (a : Answered) (d : Decision) (t u v : Tables)
    (holds : Holds h t) → a.profile ≡ Two → IsInRange a → first_of h a ≡ None → a.answer ≡ answer.Reply d.reply
    → IsDecision a.team (before_of holds.holds.office a.command.net) a.command d
    → AreFollowed a.command.net (before_of holds.holds.office a.command.net) d.changes t u
    → v ≡ with_reply a d u → Holds (h ++ a ∷ []) v
first_holds laws h a d t u v holds today ranged new reported decision followed kept =
    let o = holds.holds.office in
    let name = a.command.net in
    let decides = decision.decides in
    let out = step_outcome o a.team decision.reading a.command in
    let after = office_after o out in
    let follows = followed decides.head_first decides.own_blocks in
    let apart = nets_apart o a.team decision.reading a.command in
    let sorted = (laws.kept h o holds.holds.in_range holds.holds.legal).rising in
    let step : Step Two o a.team a.command d.reply after =
    record { reading = decision.reading; read = decision.read; answered = decides.reply; left = refl } in
    let own = ap (λ (e : NetAndBook). e.net) decides.changes ∙ net_left o name out ∙ sym (apart.own sorted) in
    let nets = nets_after o after name t u _ follows own apart.others holds.holds.nets in
    let book = subst (IsBookIn u) (ap (λ (e : NetAndBook). e.book) decides.changes ∙ book_left o name out)
    (follows.book holds.holds.book) in
    subst (Holds (h ++ a ∷ [])) (sym kept) (record {
      holds = record {
        office = after;
        legal = histories_grow.first h o after a d.reply holds.holds.legal new reported
            (subst (λ (p : Profile). Step p o a.team a.command d.reply after) (sym today) step);
        in_range = All-push IsInRange h a holds.holds.in_range ranged;
        book = record { blocks = book.blocks; used = book.used };
        nets = λ other. same_net other u (with_reply a d u) (net_named after other)
            (record { rest = refl; live = refl }) (nets other);
        replies = subst (λ rows. AreKept (h ++ a ∷ []) (rows ++ kept_row a.team a.key a.content d.reply ∷ []))
            (sym follows.replies) (first_kept h a d.reply t.reply new reported holds.holds.replies);
        parts = subst (λ rows. AreKeptParts (h ++ a ∷ []) (rows ++ part_rows a.team a.key 1 (reply_parts d.reply)))
            (sym follows.parts) (first_parts h a d.reply t.part new reported holds.holds.parts);
        profile = follows.profile ∙ holds.holds.profile;
      };
      emptied = follows.bodies ∙ holds.emptied;
      under = tt;
    })

-- ---- a repeat

-- something comes of a value only where there is one
pub some_of : {X Y : Type 0} (f : X → Y) (found : Option X) (y : Y) → Some y ≡ option_map f found
    → (x : X) × (found ≡ Some x) × (y ≡ f x)
some_of f None y same = absurd (cc)
some_of f (Some x) y same = (x, refl, cc)

pub again_holds : (h : List Answered) (a first : Answered) (t : Tables) → Holds h t → IsInRange a
    → first_of h a ≡ Some first → IsAnsweredAs a first → Holds (h ++ a ∷ []) t
again_holds h a first t holds ranged found reported = record {
  holds = record {
    office = holds.holds.office;
    legal = histories_grow.again h holds.holds.office a first holds.holds.legal found reported;
    in_range = All-push IsInRange h a holds.holds.in_range ranged;
    book = holds.holds.book;
    nets = holds.holds.nets;
    replies = again_kept h a first t.reply found holds.holds.replies;
    parts = again_parts h a first t.part found holds.holds.parts;
    profile = holds.holds.profile;
  };
  emptied = holds.emptied;
  under = tt;
}
