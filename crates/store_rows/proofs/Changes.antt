-- What each change makes of rows, and what it does at its network and in the book, agree.
use Rattle.store_rows.proofs.Common.{◌≡◌, ℕ, ◌+◌, ◌<◌, pos, true, false, not, ◌&&◌, List, [], ◌∷◌, ◌++◌, length, Option}
use Rattle.store_rows.proofs.Common.{Some, None, refl, sym, ap, subst, ◌∙◌, arith, AllByRecursion, bytes_eq, is_eq}
use Rattle.store_rows.proofs.Common.{nat_cmp, ordering_then, tied_itself, Less, Equal, Int, Text, Row, column}
use Rattle.store_rows.proofs.Common.{value_cmp, value_cmp_total, put, text_cmp, IsIdentifier, dbc_number, Ident, Sheet}
use Rattle.store_rows.proofs.Common.{form_number, is_spn, Spn, SpnBlock, SpnBook, GrantedBlock, Head, Net, NetAndBook}
use Rattle.store_rows.proofs.Common.{Tables, has_text, has_number, net_row, block_row, held_row, spn_row, approval_row}
use Rattle.store_rows.proofs.Common.{frozen_row, is_of_net, is_of_form, has_net_and_number, net_order, blocks_order}
use Rattle.store_rows.proofs.Common.{blocks_of_form_order, held_order, spns_order, approvals_order, releases_order}
use Rattle.std.proofs.Common.{◌≤◌}
use Rattle.std.specs.Prelude.{filter}
use Rattle.office_types.specs.Book.{by_net}
use Rattle.office_types.specs.State.{by_first, by_ident}
use Rattle.office_types.specs.declared.change.Change.{Change}
use Rattle.office_types.specs.declared.change.Change.TheVariants.{SetHead, SetMessage, RemoveMessage, AddSignal}
use Rattle.office_types.specs.declared.change.Change.TheVariants.{RemoveSignal, SetSpn, SetValues, SetBlock}
use Rattle.office_types.specs.declared.change.Change.TheVariants.{SetSpnBlock, Hold, EnterSpn, SetApproval}
use Rattle.office_types.specs.declared.change.Change.TheVariants.{ClearApprovals, AddRelease}
use Rattle.office_rules.specs.Change.{applied, all_applied, changed_net, headed, IsHeadFirst}
use Rattle.office_rules.specs.Opening.{with_block}
use Rattle.office_rules.specs.Retiring.{with_held}
use Rattle.office_rules.specs.Reviewing.{with_approval, with_release}
use Rattle.store_statements.specs.Rows.{is_block, has_two_texts, is_number}
use Rattle.store_statements.specs.declared.row.NetRow.{NetRow}
use Rattle.store_statements.specs.declared.row.BlockRow.{BlockRow}
use Rattle.store_statements.specs.declared.row.FrozenRow.{FrozenRow}
use Rattle.store_rows.specs.Listed.{AreListed}
use Rattle.store_rows.specs.Live.{AreLiveRows}
use Rattle.store_rows.specs.LiveWritten.{with_live, without_live}
use Rattle.store_rows.specs.NetIn.{IsNetAt, IsRestAt, RestRows, live_in, rest_of}
use Rattle.store_rows.specs.Rows.{IsRowOf, IsNetRow, IsBlockRow, IsSpnBlockRow, IsHeldRow, IsApprovalRow, IsFrozenRow}
use Rattle.store_rows.specs.Rows.{is_granted, next_release, numbered}
use Rattle.store_rows.specs.Written.{IsWritten, with_net_row, with_block_row, with_held_row, with_spn_row}
use Rattle.store_rows.specs.Written.{with_approval_row, without_approval_rows, with_frozen_row}
use Rattle.store_rows.specs.Follows.{Follows, HasSame, AreWritten}
use Rattle.store_rows.proofs.Keys.{and_left, and_right, and_none, not_true, one_value, own_text, other_text, other_net}
use Rattle.store_rows.proofs.Keys.{own_net, text_order, number_order, number_below, own_number, other_form, spn_apart}
use Rattle.store_rows.proofs.Keys.{tied_both, net_total, blocks_total, blocks_of_form_total, held_total, spns_total}
use Rattle.store_rows.proofs.Keys.{approvals_total}
use Rattle.store_rows.proofs.Listing.{last_listed, none_listed}
use Rattle.store_rows.proofs.LiveFollows.{adds_signal, removes_message, sets_message, takes_signal_out}
use Rattle.store_rows.proofs.NamedFollows.{sets_spn, sets_values}
use Rattle.store_rows.proofs.Setting.{left_others, left_none, added_here, added_elsewhere, set_elsewhere, set_in}
use Rattle.store_rows.proofs.Setting.{set_keyed}

-- the network, where it is there, with the book
abbrev at_net : Net → SpnBook → NetAndBook
at_net net book = record { net = Some net; book = book }

-- the same rows stand for the same network
pub same_net : (name : List ℕ) (t t2 : Tables) (net : Option Net) → HasSame name t t2 → IsNetAt name t net
    → IsNetAt name t2 net
same_net name t t2 net same at = record {
  rest = subst (λ rows. IsRestAt name rows net) (sym same.rest) at.rest;
  live = subst (λ rows. AreLiveRows name rows (live_in net)) (sym same.live) at.live;
}

-- rows of other tables alone differ
pub all_same : (name : List ℕ) (t : Tables) → HasSame name t t
all_same name t = record { rest = refl; live = refl }

-- ---- the head

heads_alike : (name : List ℕ) (h other : Head) (it : NetRow) (row : Row) → IsNetRow name h it
    → IsRowOf net_row (IsNetRow name) other row → Equal ≡ net_order (net_row it) row
heads_alike name h other it row is shown =
    let same : it.name.now ≡ shown.0.name.now = is.net ∙ sym shown.1.net in
    subst (λ r. Equal ≡ net_order (net_row it) r) (sym shown.2)
    (sym (ap (λ n. value_cmp (Text it.name.now) (Text n)) (sym same) ∙ tied_itself value_cmp_total (Text it.name.now)))

sets_heads : (name : List ℕ) (h : Head) (it : NetRow) (rows : List Row) (heads : List Head) → IsNetRow name h it
    → AreListed net_order (IsRowOf net_row (IsNetRow name)) (filter (is_of_net name) rows) heads
    → AreListed net_order (IsRowOf net_row (IsNetRow name))
    (filter (is_of_net name) (filter (λ row. not (is_of_net it.name.now row)) rows ++ net_row it ∷ []))
    (put (λ _ _. Equal) h heads)
sets_heads name h it rows heads is listed =
    set_in net_total (λ _ _. Equal) (is_of_net name) (is_of_net it.name.now) h (net_row it) rows heads
    (own_text it.name.now name is.net)
    (λ x here. refl) (it, is, refl) (λ other row shown. heads_alike name h other it row is shown) listed

pub sets_head : (name : List ℕ) (h : Head) (it : NetRow) (net : Option Net) (book : SpnBook) (t : Tables)
    → IsNetRow name h it
    → Follows name t (with_net_row it t) (record { net = net; book = book })
    (record { net = Some (headed name h net); book = book })
sets_head name h it net book t is = record {
  here = here net;
  book = λ at. record { blocks = at.blocks; used = at.used };
  others = λ other apart. record {
    rest = ap (λ l. record (rest_of other t) { head = l })
        (set_elsewhere (is_of_net other) (is_of_net it.name.now) (net_row it) t.net
        (other_text it.name.now name other is.net apart) (other_net it.name.now name other is.net apart));
    live = refl;
  };
  replies = refl;
  parts = refl;
  profile = refl;
  bodies = refl;
}
  where
    here : (net : Option Net) → IsNetAt name t net → IsNetAt name (with_net_row it t) (Some (headed name h net))
    here None at = record {
      rest = record {
        named = refl;
        head = sets_heads name h it t.net [] is
            (subst (λ l. AreListed net_order (IsRowOf net_row (IsNetRow name)) l [])
            (sym (ap (λ (r : RestRows). r.head) at.rest)) none_listed);
        blocks = subst (λ l. AreListed blocks_order (IsRowOf block_row (IsBlockRow name)) l [])
            (sym (ap (λ (r : RestRows). r.blocks) at.rest)) none_listed;
        held = subst (λ l. AreListed held_order (IsHeldRow name) l []) (sym (ap (λ (r : RestRows). r.held) at.rest))
            none_listed;
        approvals = subst (λ l. AreListed approvals_order (IsApprovalRow name) l [])
            (sym (ap (λ (r : RestRows). r.approvals) at.rest)) none_listed;
        releases = subst (λ l. AreListed releases_order (IsRowOf frozen_row (IsFrozenRow name)) l [])
            (sym (ap (λ (r : RestRows). r.releases) at.rest)) none_listed;
      };
      live = at.live;
    }
    here (Some net) at = record {
      rest = record {
        named = at.rest.named;
        head = sets_heads name h it t.net (net.head ∷ []) is at.rest.head;
        blocks = at.rest.blocks;
        held = at.rest.held;
        approvals = at.rest.approvals;
        releases = at.rest.releases;
      };
      live = at.live;
    }

-- ---- blocks

-- a row of the key, where the network is the row's
block_key : (net : List ℕ) (form first : ℕ) (x : Row) → is_of_net net x ≡ true
    → is_block net form first x
    ≡ is_eq (ordering_then (value_cmp (column x 1) (Int (pos form))) (value_cmp (column x 2) (Int (pos first))))
block_key net form first x here =
    ap (λ b. b && (has_number 1 form x && has_number 2 first x)) here
    ∙ sym (tied_both (value_cmp (column x 1) (Int (pos form))) (value_cmp (column x 2) (Int (pos first))))

other_key : (net : List ℕ) (form first : ℕ) (x : Row) → has_number 1 form x ≡ false → is_block net form first x ≡ false
other_key net form first x apart = ap (λ b. is_of_net net x && (b && has_number 2 first x)) apart
    ∙ and_none (is_of_net net x)

pub sets_block : (name : List ℕ) (g : GrantedBlock) (it : BlockRow) (net : Net) (book : SpnBook) (t : Tables)
    → IsBlockRow name g it → is_spn g.block.form ≡ false
    → Follows name t (with_block_row it t) (at_net net book) (at_net (with_block net g) book)
sets_block name g it net book t is own =
    let removed = is_block it.net.now it.form it.first in
    let spn = form_number Spn in
    let not_spn : is_of_form spn (block_row it) ≡ false = other_form g.block.form it.form is.form own in
    let granted : (text : List ℕ) (x : Row) → is_granted text x ≡ true → is_of_net text x ≡ true =
    λ text x h. and_left (is_of_net text x) (not (is_of_form spn x)) h in
    record {
      here = λ at. record {
        rest = record {
          named = at.rest.named;
          head = at.rest.head;
          blocks = set_in blocks_total by_first (is_granted name) removed g (block_row it) t.block net.blocks
              (ap (λ b. is_of_net name (block_row it) && not b) not_spn
              ∙ ap (λ b. b && true) (own_text it.net.now name is.net))
              (λ x here. block_key it.net.now it.form it.first x
              (own_net it.net.now name is.net x (granted name x here))) (it, is, refl)
              (λ other row shown. subst (λ r. by_first g other ≡ blocks_order (block_row it) r) (sym shown.2)
              (ap (λ c. ordering_then c (nat_cmp g.block.first other.block.first))
              (number_order (form_number g.block.form) (form_number other.block.form) it.form shown.0.form is.form
              shown.1.form)
              ∙ ap (ordering_then (value_cmp (Int (pos it.form)) (Int (pos shown.0.form))))
              (number_order g.block.first other.block.first it.first shown.0.first is.first shown.1.first)))
              at.rest.blocks;
          held = at.rest.held;
          approvals = at.rest.approvals;
          releases = at.rest.releases;
        };
        live = at.live;
      };
      book = λ at. record {
        blocks = subst (λ l. AreListed blocks_of_form_order (IsRowOf block_row IsSpnBlockRow) l book.blocks)
            (sym (set_elsewhere (is_of_form spn) removed (block_row it) t.block not_spn
            (λ x here. other_key it.net.now it.form it.first x
            (one_value (column x 1) (Int (pos spn)) (Int (pos it.form)) here
            (spn_apart g.block.form it.form is.form own))))) at.blocks;
        used = at.used;
      };
      others = λ other apart. record {
        rest = ap (λ l. record (rest_of other t) { blocks = l })
            (set_elsewhere (is_granted other) removed (block_row it) t.block
            (ap (λ b. b && not (is_of_form spn (block_row it))) (other_text it.net.now name other is.net apart))
            (λ x here. ap (λ b. b && (has_number 1 it.form x && has_number 2 it.first x))
            (other_net it.net.now name other is.net apart x (granted other x here))));
        live = refl;
      };
      replies = refl;
      parts = refl;
      profile = refl;
      bodies = refl;
    }

-- ---- blocks of suspect parameter numbers

-- no network has such a row among its own blocks
spn_elsewhere : (b : SpnBlock) (it : BlockRow) (t : Tables) → IsSpnBlockRow b it → (name : List ℕ)
    → HasSame name t (with_block_row it t)
spn_elsewhere b it t is name =
    let spn = form_number Spn in
    let is_spn_row : is_of_form spn (block_row it) ≡ true = own_number it.form spn is.form in
    record {
      rest = ap (λ l. record (rest_of name t) { blocks = l })
          (set_elsewhere (is_granted name) (is_block it.net.now it.form it.first) (block_row it) t.block
          (ap (λ c. is_of_net name (block_row it) && not c) is_spn_row ∙ and_none (is_of_net name (block_row it)))
          (λ x here. other_key it.net.now it.form it.first x
          (ap (λ n. has_number 1 n x) is.form
          ∙ not_true (is_of_form spn x) (and_right (is_of_net name x) (not (is_of_form spn x)) here))));
      live = refl;
    }

pub sets_spn_block : (name : List ℕ) (b : SpnBlock) (it : BlockRow) (net : Option Net) (book : SpnBook) (t : Tables)
    → IsSpnBlockRow b it
    → Follows name t (with_block_row it t) (record { net = net; book = book })
    (record { net = net; book = record book { blocks = put by_net b book.blocks } })
sets_spn_block name b it net book t is =
    let spn = form_number Spn in
    record {
      here = same_net name t (with_block_row it t) net (spn_elsewhere b it t is name);
      book = λ at. record {
        blocks = set_in blocks_of_form_total by_net (is_of_form spn) (is_block it.net.now it.form it.first) b
            (block_row it) t.block book.blocks
            (own_number it.form spn is.form)
            (λ x here. ap (λ c. has_text 0 it.net.now x && (c && has_number 2 it.first x))
            (ap (λ n. has_number 1 n x) is.form ∙ here)
            ∙ sym (tied_both (value_cmp (column x 0) (Text it.net.now)) (value_cmp (column x 2) (Int (pos it.first)))))
            (it, is, refl)
            (λ other row shown. subst (λ r. by_net b other ≡ blocks_of_form_order (block_row it) r) (sym shown.2)
            (ap (λ c. ordering_then c (nat_cmp b.first other.first))
            (text_order b.net other.net it.net.now shown.0.net.now is.net shown.1.net)
            ∙ ap (ordering_then (value_cmp (Text it.net.now) (Text shown.0.net.now)))
            (number_order b.first other.first it.first shown.0.first is.first shown.1.first))) at.blocks;
        used = at.used;
      };
      others = λ other apart. spn_elsewhere b it t is other;
      replies = refl;
      parts = refl;
      profile = refl;
      bodies = refl;
    }

-- ---- held identifiers

pub holds : (name : List ℕ) (i : Ident) (net : Net) (book : SpnBook) (t : Tables) → IsIdentifier i
    → Follows name t (with_held_row name (dbc_number i) t) (at_net net book) (at_net (with_held net i) book)
holds name i net book t is =
    let number = dbc_number i in
    let row = held_row name number in
    let removed = has_net_and_number name number in
    record {
      here = λ at. record {
        rest = record {
          named = at.rest.named;
          head = at.rest.head;
          blocks = at.rest.blocks;
          held = set_in held_total by_ident (is_of_net name) removed i row t.held net.held (own_text name name refl)
              (λ x here. ap (λ b. b && has_number 1 number x) here) (is, refl)
              (λ other x shown. subst (λ r. by_ident i other ≡ held_order row r) (sym shown.1)
              (number_order number (dbc_number other) number (dbc_number other) refl refl)) at.rest.held;
          approvals = at.rest.approvals;
          releases = at.rest.releases;
        };
        live = at.live;
      };
      book = λ at. record { blocks = at.blocks; used = at.used };
      others = λ other apart. record {
        rest = ap (λ l. record (rest_of other t) { held = l })
            (set_elsewhere (is_of_net other) removed row t.held (other_text name name other refl apart)
            (λ x here. ap (λ b. b && has_number 1 number x) (other_net name name other refl apart x here)));
        live = refl;
      };
      replies = refl;
      parts = refl;
      profile = refl;
      bodies = refl;
    }

-- ---- used numbers

pub enters_spn : (name : List ℕ) (n : ℕ) (net : Option Net) (book : SpnBook) (t : Tables)
    → Follows name t (with_spn_row n t) (record { net = net; book = book })
    (record { net = net; book = record book { used = put nat_cmp n book.used } })
enters_spn name n net book t = record {
  here = same_net name t (with_spn_row n t) net (record { rest = refl; live = refl });
  book = λ at. record {
    blocks = at.blocks;
    used = set_keyed spns_total nat_cmp (is_number n) n (spn_row n) t.spn book.used (λ x. refl) (λ x. refl) refl
        (λ other x shown. subst (λ r. nat_cmp n other ≡ spns_order (spn_row n) r) (sym shown)
        (number_order n other n other refl refl)) at.used;
  };
  others = λ other apart. record { rest = refl; live = refl };
  replies = refl;
  parts = refl;
  profile = refl;
  bodies = refl;
}

-- ---- approvals

pub sets_approval : (name team : List ℕ) (net : Net) (book : SpnBook) (t : Tables)
    → Follows name t (with_approval_row name team t) (at_net net book) (at_net (with_approval net team) book)
sets_approval name team net book t =
    let row = approval_row name team in
    let removed = has_two_texts name team in
    record {
      here = λ at. record {
        rest = record {
          named = at.rest.named;
          head = at.rest.head;
          blocks = at.rest.blocks;
          held = at.rest.held;
          approvals = set_in approvals_total text_cmp (is_of_net name) removed team row t.approval net.approvals
              (own_text name name refl)
              (λ x here. ap (λ b. b && has_text 1 team x) here) refl
              (λ other x shown. subst (λ r. text_cmp team other ≡ approvals_order row r) (sym shown)
              (text_order team other team other refl refl)) at.rest.approvals;
          releases = at.rest.releases;
        };
        live = at.live;
      };
      book = λ at. record { blocks = at.blocks; used = at.used };
      others = λ other apart. record {
        rest = ap (λ l. record (rest_of other t) { approvals = l })
            (set_elsewhere (is_of_net other) removed row t.approval (other_text name name other refl apart)
            (λ x here. ap (λ b. b && has_text 1 team x) (other_net name name other refl apart x here)));
        live = refl;
      };
      replies = refl;
      parts = refl;
      profile = refl;
      bodies = refl;
    }

pub clears_approvals : (name : List ℕ) (net : Net) (book : SpnBook) (t : Tables)
    → Follows name t (without_approval_rows name t) (at_net net book) (at_net (record net { approvals = [] }) book)
clears_approvals name net book t = record {
  here = λ at. record {
    rest = record {
      named = at.rest.named;
      head = at.rest.head;
      blocks = at.rest.blocks;
      held = at.rest.held;
      approvals = subst (λ l. AreListed approvals_order (IsApprovalRow name) l [])
          (sym (left_none (is_of_net name) t.approval)) none_listed;
      releases = at.rest.releases;
    };
    live = at.live;
  };
  book = λ at. record { blocks = at.blocks; used = at.used };
  others = λ other apart. record {
    rest = ap (λ l. record (rest_of other t) { approvals = l })
        (left_others (is_of_net other) (is_of_net name) (other_net name name other refl apart) t.approval);
    live = refl;
  };
  replies = refl;
  parts = refl;
  profile = refl;
  bodies = refl;
}

-- ---- releases

numbered_last : (first : ℕ) (releases : List Sheet) (s : Sheet)
    → numbered first (releases ++ s ∷ []) ≡ numbered first releases ++ (first + length releases, s) ∷ []
numbered_last first [] s =
    let alone : ℕ → List (ℕ × Sheet) = λ n. (n, s) ∷ [] in
    let same : first ≡ first + 0 = omega arith in
    ap alone same
numbered_last first (r ∷ releases) s =
    let more : List (ℕ × Sheet) → List (ℕ × Sheet) = λ l. (first, r) ∷ l in
    let with_last : ℕ → List (ℕ × Sheet) = λ n. numbered (first + 1) releases ++ (n, s) ∷ [] in
    let same : first + 1 + length releases ≡ first + length (r ∷ releases) = omega arith in
    ap more (numbered_last (first + 1) releases s ∙ ap with_last same)

-- each has a number below one that is past them all
numbered_below : (name : List ℕ) (it : FrozenRow) (first : ℕ) (releases : List Sheet)
    → first + length releases ≤ it.number
    → AllByRecursion (λ b. (x : Row) → IsRowOf frozen_row (IsFrozenRow name) b x
    → releases_order x (frozen_row it) ≡ Less) (numbered first releases)
numbered_below name it first [] high = tt
numbered_below name it first (r ∷ releases) high = (
  λ x shown. subst (λ y. releases_order y (frozen_row it) ≡ Less) (sym shown.2)
      (number_below shown.0.number it.number (lower shown.0.number shown.1.number)),
  numbered_below name it (first + 1) releases (omega (arith, high)),
)
  where
    lower : (n : ℕ) → n ≡ first → n < it.number
    lower n same = omega (arith, same, high)

pub adds_release : (name : List ℕ) (s : Sheet) (it : FrozenRow) (net : Net) (book : SpnBook) (t : Tables)
    → IsFrozenRow name (next_release net, s) it
    → Follows name t (with_frozen_row it t) (at_net net book) (at_net (with_release net s) book)
adds_release name s it net book t is =
    let next : 1 + length net.releases ≡ next_release net = omega arith in
    let high : 1 + length net.releases ≤ it.number = let same = is.number in omega (arith, same) in
    let with_last : ℕ → List (ℕ × Sheet) = λ n. numbered 1 net.releases ++ (n, s) ∷ [] in
    let last : numbered 1 (net.releases ++ s ∷ []) ≡ numbered 1 net.releases ++ (next_release net, s) ∷ [] =
    numbered_last 1 net.releases s ∙ ap with_last next in
    record {
      here = λ at. record {
        rest = record {
          named = at.rest.named;
          head = at.rest.head;
          blocks = at.rest.blocks;
          held = at.rest.held;
          approvals = at.rest.approvals;
          releases = subst (λ l. AreListed releases_order (IsRowOf frozen_row (IsFrozenRow name)) l
              (numbered 1 (net.releases ++ s ∷ [])))
              (sym (added_here (is_of_net name) (frozen_row it) t.frozen (own_text it.net.now name is.net)))
              (subst (λ l. AreListed releases_order (IsRowOf frozen_row (IsFrozenRow name))
              (filter (is_of_net name) t.frozen ++ frozen_row it ∷ []) l) (sym last)
              (last_listed (next_release net, s) (frozen_row it) (filter (is_of_net name) t.frozen)
              (numbered 1 net.releases) (it, is, refl)
              (numbered_below name it 1 net.releases high) at.rest.releases));
        };
        live = at.live;
      };
      book = λ at. record { blocks = at.blocks; used = at.used };
      others = λ other apart. record {
        rest = ap (λ l. record (rest_of other t) { releases = l })
            (added_elsewhere (is_of_net other) (frozen_row it) t.frozen
            (other_text it.net.now name other is.net apart));
        live = refl;
      };
      replies = refl;
      parts = refl;
      profile = refl;
      bodies = refl;
    }

-- ---- any change, and changes one after the other

follows_to : (name : List ℕ) (t made t2 : Tables) (before after : NetAndBook) → t2 ≡ made
    → Follows name t made before after → Follows name t t2 before after
follows_to name t made t2 before after is h = subst (λ u. Follows name t u before after) (sym is) h

-- tables that follow a change; where the network isn't there, only a head is set
pub change_follows : (name : List ℕ) (c : Change) (net : Option Net) (book : SpnBook) (t t2 : Tables)
    → IsHeadFirst net (c ∷ []) → IsWritten name c net t t2
    → Follows name t t2 (record { net = net; book = book }) (applied name c (record { net = net; book = book }))
change_follows name (SetHead h) net book t t2 there w =
    follows_to name t (with_net_row w.0 t) t2 _ _ w.2 (sets_head name h w.0 net book t w.1)
change_follows name (SetMessage m) None book t t2 there w = absurd there
change_follows name (SetMessage m) (Some net) book t t2 there w =
    follows_to name t (with_live name m t) t2 _ _ w.1 (sets_message name m net book t w.0)
change_follows name (RemoveMessage i) None book t t2 there w = absurd there
change_follows name (RemoveMessage i) (Some net) book t t2 there w =
    follows_to name t (without_live name (dbc_number i) t) t2 _ _ w.1 (removes_message name i net book t w.0)
change_follows name (AddSignal message s) None book t t2 there w = absurd there
change_follows name (AddSignal message s) (Some net) book t t2 there w = adds_signal name message s net book t t2 w
change_follows name (RemoveSignal path) None book t t2 there w = absurd there
change_follows name (RemoveSignal path) (Some net) book t t2 there w = takes_signal_out name path net book t t2 w
change_follows name (SetSpn path n) None book t t2 there w = absurd there
change_follows name (SetSpn path n) (Some net) book t t2 there w = sets_spn name path n net book t t2 w
change_follows name (SetValues path values) None book t t2 there w = absurd there
change_follows name (SetValues path values) (Some net) book t t2 there w = sets_values name path values net book t t2 w
change_follows name (SetBlock g) None book t t2 there w = absurd there
change_follows name (SetBlock g) (Some net) book t t2 there w =
    follows_to name t (with_block_row w.0 t) t2 _ _ w.3 (sets_block name g w.0 net book t w.1 w.2)
change_follows name (SetSpnBlock b) None book t t2 there w = absurd there
change_follows name (SetSpnBlock b) (Some net) book t t2 there w =
    follows_to name t (with_block_row w.0 t) t2 _ _ w.2 (sets_spn_block name b w.0 (Some net) book t w.1)
change_follows name (Hold i) None book t t2 there w = absurd there
change_follows name (Hold i) (Some net) book t t2 there w =
    follows_to name t (with_held_row name (dbc_number i) t) t2 _ _ w.1 (holds name i net book t w.0)
change_follows name (EnterSpn n) None book t t2 there w = absurd there
change_follows name (EnterSpn n) (Some net) book t t2 there w =
    follows_to name t (with_spn_row n t) t2 _ _ w (enters_spn name n (Some net) book t)
change_follows name (SetApproval team) None book t t2 there w = absurd there
change_follows name (SetApproval team) (Some net) book t t2 there w =
    follows_to name t (with_approval_row name team t) t2 _ _ w (sets_approval name team net book t)
change_follows name ClearApprovals None book t t2 there w = absurd there
change_follows name ClearApprovals (Some net) book t t2 there w =
    follows_to name t (without_approval_rows name t) t2 _ _ w (clears_approvals name net book t)
change_follows name (AddRelease s) None book t t2 there w = absurd there
change_follows name (AddRelease s) (Some net) book t t2 there w =
    follows_to name t (with_frozen_row w.0 t) t2 _ _ w.2 (adds_release name s w.0 net book t w.1)

-- after it the network is there
pub there_after : (name : List ℕ) (c : Change) (net : Option Net) (cs : List Change) → IsHeadFirst net (c ∷ cs)
    → IsHeadFirst (changed_net name c net) cs
there_after name (SetHead h) None cs there = tt
there_after name (SetMessage m) None cs there = absurd there
there_after name (RemoveMessage i) None cs there = absurd there
there_after name (AddSignal message s) None cs there = absurd there
there_after name (RemoveSignal path) None cs there = absurd there
there_after name (SetSpn path n) None cs there = absurd there
there_after name (SetValues path values) None cs there = absurd there
there_after name (SetBlock g) None cs there = absurd there
there_after name (SetSpnBlock b) None cs there = absurd there
there_after name (Hold i) None cs there = absurd there
there_after name (EnterSpn n) None cs there = absurd there
there_after name (SetApproval team) None cs there = absurd there
there_after name ClearApprovals None cs there = absurd there
there_after name (AddRelease s) None cs there = absurd there
there_after name (SetHead h) (Some net) cs there = tt
there_after name (SetMessage m) (Some net) cs there = tt
there_after name (RemoveMessage i) (Some net) cs there = tt
there_after name (AddSignal message s) (Some net) cs there = tt
there_after name (RemoveSignal path) (Some net) cs there = tt
there_after name (SetSpn path n) (Some net) cs there = tt
there_after name (SetValues path values) (Some net) cs there = tt
there_after name (SetBlock g) (Some net) cs there = tt
there_after name (SetSpnBlock b) (Some net) cs there = tt
there_after name (Hold i) (Some net) cs there = tt
there_after name (EnterSpn n) (Some net) cs there = tt
there_after name (SetApproval team) (Some net) cs there = tt
there_after name ClearApprovals (Some net) cs there = tt
there_after name (AddRelease s) (Some net) cs there = tt

-- a first change is as good alone
pub first_alone : (c : Change) (net : Option Net) (cs : List Change) → IsHeadFirst net (c ∷ cs)
    → IsHeadFirst net (c ∷ [])
first_alone (SetHead h) None cs there = tt
first_alone (SetMessage m) None cs there = absurd there
first_alone (RemoveMessage i) None cs there = absurd there
first_alone (AddSignal message s) None cs there = absurd there
first_alone (RemoveSignal path) None cs there = absurd there
first_alone (SetSpn path n) None cs there = absurd there
first_alone (SetValues path values) None cs there = absurd there
first_alone (SetBlock g) None cs there = absurd there
first_alone (SetSpnBlock b) None cs there = absurd there
first_alone (Hold i) None cs there = absurd there
first_alone (EnterSpn n) None cs there = absurd there
first_alone (SetApproval team) None cs there = absurd there
first_alone ClearApprovals None cs there = absurd there
first_alone (AddRelease s) None cs there = absurd there
first_alone c (Some net) cs there = tt

pub follows_none : (name : List ℕ) (t : Tables) (e : NetAndBook) → Follows name t t e e
follows_none name t e = record {
  here = λ at. at;
  book = λ at. at;
  others = λ other apart. all_same other t;
  replies =
      refl;
  parts = refl;
  profile = refl;
  bodies = refl;
}

pub follows_then : (name : List ℕ) (t u v : Tables) (a b c : NetAndBook) → Follows name t u a b → Follows name u v b c
    → Follows name t v a c
follows_then name t u v a b c f g = record {
  here = λ at. g.here (f.here at);
  book = λ at. g.book (f.book at);
  others = λ other apart. record {
    rest = (g.others other apart).rest ∙ (f.others other apart).rest;
    live =
        (g.others other apart).live ∙ (f.others other apart).live;
  };
  replies = g.replies ∙ f.replies;
  parts = g.parts ∙ f.parts;
  profile = g.profile ∙ f.profile;
  bodies = g.bodies ∙ f.bodies;
}

-- the network under another name is the one that it was
pub others_follow : (name : List ℕ) (t t2 : Tables) (before after : NetAndBook) → Follows name t t2 before after
    → (other : List ℕ) → bytes_eq name other ≡ false
    → (net : Option Net) → IsNetAt other t net → IsNetAt other t2 net
others_follow name t t2 before after h other apart net at = same_net other t t2 net (h.others other apart) at

pub changes_follow : (name : List ℕ) (cs : List Change) (e : NetAndBook) (t t2 : Tables) → IsHeadFirst e.net cs
    → AreWritten name cs e t t2
    → Follows name t t2 e (all_applied name cs e)
changes_follow name [] e t t2 there w = follows_to name t t t2 e e w (follows_none name t e)
changes_follow name (c ∷ cs) e t t2 there w =
    follows_then name t w.0 t2 e (applied name c e) (all_applied name cs (applied name c e))
    (change_follows name c e.net e.book t w.0 (first_alone c e.net cs there) w.1)
    (changes_follow name cs (applied name c e) w.0 t2 (there_after name c e.net cs there) w.2)
