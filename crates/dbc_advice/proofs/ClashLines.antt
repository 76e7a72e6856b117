-- The lines of the reasons of one more message.
use Rattle.dbc_advice.proofs.Common.{◌≡◌, ◌+◌, ◌-◌, ◌<◌, ◌≤◌, ℕ, List, [], ◌∷◌, ◌++◌, inl, inr, length, map, take, drop}
use Rattle.dbc_advice.proofs.Common.{get_or, sym, ap, ◌∙◌, subst, arith, append_assoc, append-nil, length-append}
use Rattle.dbc_advice.proofs.Common.{enumerate_from, flat_map, codes, flat_map-append, at_drop_all, at_drop_more}
use Rattle.dbc_advice.proofs.Common.{length-map, map-append, take-append-le, take_all, take_more, Place, places_of}
use Rattle.dbc_advice.proofs.Common.{Message}
use Rattle.std.proofs.lemmas.List.{length-drop, length-take-le, take-append-drop}
use Rattle.dbc_advice.specs.Clashes.{AreClashLines, AreCutLines, Clashing, IsClashLine, clashes_of, message_clashes}
use Rattle.dbc_advice.specs.Limits.{clashes_reported, reasons_reported}
use Rattle.dbc_advice.specs.Reasons.{AreReasons, reasons_at, reasons_from}
use Rattle.dbc_advice.specs.ReportedLine.{AreLinesOf, more_text}
use Rattle.dbc_advice.specs.declared.reasons.ClashReason.{ClashReason}
use Rattle.dbc_advice.proofs.ReportedLines.{is_more, lines_append, lines_map, no_more}

-- no more reasons than are reported are all
pub all_reasons : (bytes : ℕ) (places : List Place) (reasons : List ClashReason) → AreReasons bytes places reasons
    → length reasons ≤ reasons_reported → reasons ≡ reasons_from bytes places 0
all_reasons bytes places reasons are few = elim are.enough [
  | inl le ↦
      let none : reasons_from bytes places are.looked_at ≡ [] =
      at_drop_all (λ ps. flat_map (reasons_at bytes places) (enumerate_from are.looked_at ps)) places
      are.looked_at le in
      sym (append-nil reasons) ∙ ap (λ rs. reasons ++ rs) (sym none) ∙ are.are
  | inr lt ↦ absurd (omega (arith, few, lt))
]

-- of the messages up to one more
pub clashes_more : (ms : List Message) (i : ℕ) (m : Message) → i < length ms → m ≡ get_or ms i m
    → clashes_of (take (i + 1) ms) ≡ clashes_of (take i ms) ++ message_clashes m
clashes_more ms i m lt item =
    ap clashes_of (take_more ms i m lt ∙ ap (λ (x : Message). take i ms ++ x ∷ []) (sym item))
    ∙ flat_map-append message_clashes (take i ms) (m ∷ [])
    ∙ ap (λ cs. clashes_of (take i ms) ++ cs) (append-nil (message_clashes m))

-- of all messages: those before, that one, and those after it
pub clashes_split : (ms : List Message) (i : ℕ) (m : Message) → i < length ms → m ≡ get_or ms i m
    → clashes_of ms ≡ clashes_of (take i ms) ++ (message_clashes m ++ clashes_of (drop (i + 1) ms))
clashes_split ms i m lt item =
    ap clashes_of (sym (take-append-drop i ms)) ∙ flat_map-append message_clashes (take i ms) (drop i ms)
    ∙ ap (λ cs. clashes_of (take i ms) ++ cs)
    (at_drop_more clashes_of ms i m lt ∙ ap (λ (x : Message). message_clashes x ++ clashes_of (drop (i + 1) ms))
    (sym item))

-- how many they are
pub count_more : (ms : List Message) (i reported : ℕ) (m : Message) (reasons : List ClashReason) → i < length ms
    → m ≡ get_or ms i m
    → AreReasons m.length (places_of m.signals) reasons → length reasons ≤ reasons_reported
    → length (clashes_of (take i ms)) ≡ reported → length (clashes_of (take (i + 1) ms)) ≡ reported + length reasons
count_more ms i reported m reasons lt item are few before =
    let here : length (message_clashes m) ≡ length reasons =
    length-map (reasons_from m.length (places_of m.signals) 0) (λ (r : ClashReason). (m, r))
    ∙ ap length (sym (all_reasons m.length (places_of m.signals) reasons are few)) in
    let both : length (clashes_of (take i ms) ++ message_clashes m) ≡ length (clashes_of (take i ms)) + length
    (message_clashes m) = length-append (clashes_of (take i ms)) (message_clashes m) in
    let whole : length (clashes_of (take (i + 1) ms)) ≡ length (clashes_of (take i ms) ++ message_clashes m) =
    ap length (clashes_more ms i m lt item) in
    omega (arith, here, both, whole, before)

-- where there is no room for all reasons of a message: those before, the first ones of its own, and then others
module _ (ms : List Message) (i reported room : ℕ) (m : Message) (reasons : List ClashReason) (lt : i < length ms)
    (item : m ≡ get_or ms i m) (are : AreReasons m.length (places_of m.signals) reasons)
    (count : length (clashes_of (take i ms)) ≡ reported) (few : reported ≤ clashes_reported)
    (room_is : room ≡ clashes_reported - reported) (full : room < length reasons) where
  abbrev others : List ClashReason
  others = reasons_from m.length (places_of m.signals) are.looked_at

  abbrev left : List ClashReason
  left = drop room reasons ++ others

  abbrev shown : List Clashing
  shown = clashes_of (take i ms) ++ map (λ (r : ClashReason). (m, r)) (take room reasons)

  abbrev tail : List Clashing
  tail = map (λ (r : ClashReason). (m, r)) left ++ clashes_of (drop (i + 1) ms)

  whole : clashes_of ms ≡ shown ++ tail
  whole =
      let f : ClashReason → Clashing = λ r. (m, r) in
      let C : List Clashing = clashes_of (take i ms) in
      let D : List Clashing = clashes_of (drop (i + 1) ms) in
      let here : List Clashing = map f (take room reasons) in
      let parts : message_clashes m ≡ here ++ map f left =
      ap (λ rs. map f rs) (sym are.are ∙ ap (λ rs. rs ++ others) (sym (take-append-drop room reasons))
      ∙ append_assoc (take room reasons) (drop room reasons) others)
      ∙ map-append f (take room reasons) left in
      clashes_split ms i m lt item ∙ ap (λ cs. C ++ (cs ++ D)) parts
      ∙ ap (λ cs. C ++ cs) (append_assoc here (map f left) D) ∙ sym (append_assoc C here tail)

  shown_count : length shown ≡ clashes_reported
  shown_count =
      let f : ClashReason → Clashing = λ r. (m, r) in
      let C : List Clashing = clashes_of (take i ms) in
      let here : List Clashing = map f (take room reasons) in
      let n1 : length (take room reasons) ≡ room = length-take-le room reasons (omega (arith, full)) in
      let n2 : length here ≡ length (take room reasons) = length-map (take room reasons) f in
      let n3 : length shown ≡ length C + length here = length-append C here in
      omega (arith, n1, n2, n3, count, few, room_is)

  -- the first of all reasons are those
  pub cut_clashes : take clashes_reported (clashes_of ms) ≡ shown
  cut_clashes =
      ap (λ cs. take clashes_reported cs) whole
      ∙ take-append-le clashes_reported shown tail (omega (arith, shown_count))
      ∙ take_all clashes_reported shown (omega (arith, shown_count))

  -- and there are more
  pub more_clashes : clashes_reported < length (clashes_of ms)
  more_clashes =
      let f : ClashReason → Clashing = λ r. (m, r) in
      let D : List Clashing = clashes_of (drop (i + 1) ms) in
      let d1 : length (drop room reasons) ≡ length reasons - room = length-drop room reasons in
      let d2 : length left ≡ length (drop room reasons) + length others = length-append (drop room reasons) others in
      let d3 : length (map f left) ≡ length left = length-map left f in
      let d4 : length tail ≡ length (map f left) + length D = length-append (map f left) D in
      let d5 : length (clashes_of ms) ≡ length (shown ++ tail) = ap length whole in
      let d6 : length (shown ++ tail) ≡ length shown + length tail = length-append shown tail in
      omega (arith, shown_count, d1, d2, d3, d4, d5, d6, full)

module _ (file text : List ℕ) where
  -- all reasons of one more message
  pub message_more : (ms : List Message) (i : ℕ) (old lines new : List ℕ) (m : Message) (reasons : List ClashReason)
      → i < length ms → m ≡ get_or ms i m
      → AreReasons m.length (places_of m.signals) reasons → length reasons ≤ reasons_reported
      → AreLinesOf (IsClashLine file text) (clashes_of (take i ms)) old
      → AreLinesOf (λ (r : ClashReason). IsClashLine file text (m, r)) reasons lines → new ≡ old ++ lines
      → AreLinesOf (IsClashLine file text) (clashes_of (take (i + 1) ms)) new
  message_more ms i old lines new m reasons lt item are few before here e =
      let all : map (λ (r : ClashReason). (m, r)) reasons ≡ message_clashes m =
      ap (λ (rs : List ClashReason). map (λ (r : ClashReason). (m, r)) rs)
      (all_reasons m.length (places_of m.signals) reasons are few) in
      let pairs : AreLinesOf (IsClashLine file text) (message_clashes m) lines =
      subst (λ cs. AreLinesOf (IsClashLine file text) cs lines) all
      (lines_map (IsClashLine file text) (λ (r : ClashReason). (m, r)) reasons lines here) in
      let P : List Clashing → Type 0 = λ cs. AreLinesOf (IsClashLine file text) cs new in
      let Q : List ℕ → Type 0 = λ v. AreLinesOf (IsClashLine file text) (clashes_of (take i ms) ++ message_clashes m)
      v in
      subst P (sym (clashes_more ms i m lt item))
      (subst Q (sym e) (lines_append (IsClashLine file text) (clashes_of (take i ms)) (message_clashes m) old lines
      before pairs))

  -- after all messages
  pub all_reported : (ms : List Message) (i reported : ℕ) (lines : List ℕ) → length ms ≤ i
      → AreLinesOf (IsClashLine file text) (clashes_of (take i ms)) lines
      → length (clashes_of (take i ms)) ≡ reported → reported ≤ clashes_reported → AreClashLines file text ms lines
  all_reported ms i reported lines over are count few =
      let all : take i ms ≡ ms = take_all i ms over in
      let counted : length (clashes_of ms) ≡ reported = ap (λ (xs : List Message). length (clashes_of xs)) (sym all)
      ∙ count in
      let enough : length (clashes_of ms) ≤ clashes_reported = omega (arith, counted, few) in
      let same : clashes_of (take i ms) ≡ take clashes_reported (clashes_of ms) = ap clashes_of all
      ∙ sym (take_all clashes_reported (clashes_of ms) enough) in
      record {
        lines = lines;
        are = subst (λ cs. AreLinesOf (IsClashLine file text) cs lines) same are;
        whole = sym (append-nil lines)
            ∙ ap (λ v. lines ++ v) (sym
            (no_more file clashes_reported (length (clashes_of ms)) (codes "clashes") enough));
      }

  -- where there is no room for all reasons of a message
  pub cut_reported : (ms : List Message) (i reported room : ℕ) (old last new : List ℕ) (m : Message)
      (reasons first : List ClashReason) → i < length ms → m ≡ get_or ms i m
      → AreReasons m.length (places_of m.signals) reasons
      → AreLinesOf (IsClashLine file text) (clashes_of (take i ms)) old
      → length (clashes_of (take i ms)) ≡ reported → reported ≤ clashes_reported → room ≡ clashes_reported - reported
      → room < length reasons
      → first ≡ take room reasons → AreCutLines file text m first last → new ≡ old ++ last
      → AreClashLines file text ms new
  cut_reported ms i reported room old last new m reasons first lt item are before count few room_is full first_is cut
      e =
      let f : ClashReason → Clashing = λ r. (m, r) in
      let C : List Clashing = clashes_of (take i ms) in
      let here : List Clashing = map f (take room reasons) in
      let same : take clashes_reported (clashes_of ms) ≡ C ++ here =
      cut_clashes ms i reported room m reasons lt item are count few room_is full in
      let more : clashes_reported < length (clashes_of ms) =
      more_clashes ms i reported room m reasons lt item are count few room_is full in
      let lines : AreLinesOf (IsClashLine file text) here cut.lines =
      lines_map (IsClashLine file text) f (take room reasons) cut.lines
      (subst (λ rs. AreLinesOf (λ (r : ClashReason). IsClashLine file text (m, r)) rs cut.lines) first_is cut.are) in
      record {
        lines = old ++ cut.lines;
        are = subst (λ cs. AreLinesOf (IsClashLine file text) cs (old ++ cut.lines)) (sym same)
            (lines_append (IsClashLine file text) C here old cut.lines before lines);
        whole = e ∙ ap (λ v. old ++ v)
            (cut.whole ∙ ap (λ v. cut.lines ++ v)
            (sym (is_more file clashes_reported (length (clashes_of ms)) (codes "clashes") more)))
            ∙ sym (append_assoc old cut.lines
            (more_text file clashes_reported (length (clashes_of ms)) (codes "clashes")));
      }
