use Rattle.page_messages.proofs.Common.{◌≡◌, ◌++◌, ◌∙◌, ℕ, List, [], ◌∷◌, Bor, ap, append_assoc, codes, map, refl}
use Rattle.page_messages.proofs.Common.{subst, flat_map, take_all, end_tag, escaped, start_tag, Becomes, Writing}
use Rattle.page_messages.proofs.Common.{adding, ending, item_added, next}
use Rattle.markup.specs.Html.{valued}
use Rattle.markup.specs.declared.tag.Tag.TheVariants as tag
use Rattle.page_parts.specs.Frames.{heads_html, with_table}
use Rattle.page_messages.specs.Signals.{Listed, listed_of, signal_heads, signal_row}
use Rattle.page_messages.specs.declared.shown.Shown.{Shown}
use Rattle.page_messages.proofs.signals.put_table.Goals as goal

-- a row of each signal that is shown is a row of each that is listed
rows_of : (f : Listed → List ℕ) (xs : List Shown)
    → flat_map (λ (s : Shown). f (listed_of s)) xs ≡ flat_map f (map listed_of xs)
rows_of f [] = refl
rows_of f (x ∷ xs) = ap (λ v. f (listed_of x) ++ v) (rows_of f xs)

table_text : (t a b c heads d e f rows g h : List ℕ)
    → (((((t ++ a) ++ (b ++ (c ++ (heads ++ (d ++ e))))) ++ f) ++ rows) ++ g) ++ h
    ≡ t ++ (a ++ (b ++ (c ++ (heads ++ (d ++ (e ++ (f ++ (rows ++ (g ++ h)))))))))
table_text t a b c heads d e f rows g h = simp append_assoc

pub loop-signal-preserved : goal.loop-signal-preserved
loop-signal-preserved c =
    item_added (λ (s : Shown). signal_row c.args.columns c.args.bytes (listed_of s)) c.args.shown.now
    c.loop-signal.signal-index c.signal-item.result _ _ _ c.loop-signal-test.true c.signal-item.is c.loop-signal.invariant
    c.put_signal_row.ensures

pub returns : goal.returns
returns c =
    let shown = c.args.shown.now in
    let columns = c.args.columns in
    let row = signal_row columns c.args.bytes in
    let page = c.args.page.now in
    let begun = c.open_table.new.page in
    let drawn = c.loop-signal.page in
    let table : Writing → Writing = with_table (codes "sig") (signal_heads columns) in
    let heads : map (λ (head : Bor (List ℕ)). head.now) c.deref.result.now ≡ signal_heads columns =
    ap (map (λ (head : Bor (List ℕ)). head.now)) c.deref.ensures.value ∙ c.in_ok-heads.ensures in
    let first : Becomes begun (table page) =
    subst (λ (v : List (List ℕ)). Becomes begun (with_table (codes "sig") v page)) heads c.open_table.ensures in
    let all = flat_map row (map listed_of shown) in
    let rows : Becomes drawn (adding all begun) =
    subst (λ (v : List ℕ). Becomes drawn (adding v begun))
    (ap (flat_map (λ (s : Shown). row (listed_of s)))
    (take_all c.loop-signal.signal-index shown c.loop-signal-test.false) ∙ rows_of row shown) c.loop-signal.invariant in
    let written : Becomes c.close-2.new.self (ending (ending (adding all (table page)))) =
    next page (λ w. ending (adding all (table w))) ending (λ w. refl)
    (next page (λ w. adding all (table w)) ending (λ w. refl) (next page table (adding all) (λ w. refl) first rows)
    c.close.ensures) c.close-2.ensures in
    λ kept. written kept ∙ ap (λ v. record page { text = v }) (table_text page.text
    (start_tag tag.Table (valued (codes " class=\"") (escaped (codes "sig")))) (start_tag tag.TableHead [])
    (start_tag tag.Row []) (heads_html (signal_heads columns)) (end_tag tag.Row) (end_tag tag.TableHead)
    (start_tag tag.TableBody []) all (end_tag tag.TableBody) (end_tag tag.Table))
