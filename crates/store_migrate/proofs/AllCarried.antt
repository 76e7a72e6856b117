-- Tables that hold a history hold it in another form, once the live messages are carried over or the profile is
-- renewed.
use Rattle.store_migrate.proofs.Common.{◌≡◌, ℕ, List, [], ◌∷◌, filter, map, refl, sym, ap, subst, arith, Row, put_row}
use Rattle.store_migrate.proofs.Common.{Net, One, Two, Tables, mark_row, Answered, AreListed, AreLiveRows, HasBodies}
use Rattle.store_migrate.proofs.Common.{HasRows, live_in, IsRowOf, none_listed}
use Rattle.std.specs.Ordering.{match_ordering}
use Rattle.office_types.specs.Block.{form_number}
use Rattle.office_types.specs.declared.block.BlockForm.TheVariants.{Spn}
use Rattle.office_rules.specs.Step.{net_named}
use Rattle.store_statements.specs.Rows.{block_row, is_of_form}
use Rattle.store_statements.specs.Shown.{blocks_of_form_order, spns_order}
use Rattle.office_history.specs.Laws.{HistoriesLeaveOffices}
use Rattle.store_rows.specs.Live.{LiveRows, live_rows}
use Rattle.store_rows.specs.NetIn.{LiveForm, rest_of}
use Rattle.store_rows.specs.Rows.{IsSpnBlockRow, IsSpnRow}
use Rattle.store_rows.proofs.Keys.{number_below}
use Rattle.store_rows.proofs.NetIn.{carried}
use Rattle.store_changes.specs.Kept.{AreKept, AreKeptParts}
use Rattle.store_net.specs.Nets.{AreKnownNets}
use Rattle.store_migrate.specs.Carried.{CarriesNets, but_live}
use Rattle.store_migrate.specs.Forms.{HasBodiesAlone, HoldsAsBodies, HoldsAsRows, row_marks}
use Rattle.store_migrate.specs.HoldsIn.{HoldsIn}
use Rattle.store_migrate.proofs.NetsCarried.{chosen, names_ascend}

-- all tables but those that carrying over changes
abbrev pub but_carried : Tables → Tables
but_carried t = record (but_live t) { message = []; profile = [] }

-- The other tables stay, and the live messages of each name go over.
pub all_carried : (From To : LiveForm) (was is : List Row) (h : List Answered) (t t2 : Tables)
    (at : HoldsIn From was h t) → but_carried t2 ≡ but_carried t
    → ((name : List ℕ) → From name t (live_in (net_named at.office name))
    → To name t2 (live_in (net_named at.office name))) → t2.profile ≡ is → HoldsIn To is h t2
all_carried From To was is h t t2 at same over profile = record {
  office = at.office;
  legal = at.legal;
  in_range = at.in_range;
  book = record {
    blocks = subst (λ rows. AreListed blocks_of_form_order (IsRowOf block_row IsSpnBlockRow)
        (filter (is_of_form (form_number Spn)) rows) at.office.book.blocks) (sym (ap (λ (u : Tables). u.block) same))
        at.book.blocks;
    used = subst (λ rows. AreListed spns_order IsSpnRow rows at.office.book.used)
        (sym (ap (λ (u : Tables). u.spn) same)) at.book.used;
  };
  nets = λ name. carried From To name t t2 (net_named at.office name) (ap (rest_of name) same) (over name)
      (at.nets name);
  replies = subst (AreKept h) (sym (ap (λ (u : Tables). u.reply) same)) at.replies;
  parts = subst (AreKeptParts h) (sym (ap (λ (u : Tables). u.part) same)) at.parts;
  profile = profile;
}

-- ---- the networks that are there, whatever the form of their live messages

pub nets_known : HistoriesLeaveOffices
    → (Live : LiveForm) (marks : List Row) (h : List Answered) (t : Tables) (at : HoldsIn Live marks h t)
    → AreKnownNets t at.office.nets
nets_known laws Live marks h t at =
    record { ascending = (laws.kept h at.office at.in_range at.legal).rising; each = λ name. (at.nets name).rest }

-- ---- from bodies to rows

pub no_rows_listed : (name : List ℕ) → AreLiveRows name (record { msg = []; sig = []; receiver = []; sigvalue = [] }) []
no_rows_listed name = record {
  messages = none_listed;
  numbered = record { sigs = tt; receivers = tt; values = tt };
  signals = λ number. record {
    placed = [];
    are = refl;
    sigs = none_listed;
    receivers = none_listed;
    values =
        none_listed;
  };
}

none_as_rows : (t : Tables) → HasBodiesAlone t → (name : List ℕ) → HasRows name t []
none_as_rows t alone name = subst (λ (rows : LiveRows). AreLiveRows name rows []) (sym none) (no_rows_listed name)
  where
    none : live_rows name t ≡ record { msg = []; sig = []; receiver = []; sigvalue = [] }
    none = rw (alone.msg, alone.sig, alone.receiver, alone.sigvalue) refl

pub held_as_rows : HistoriesLeaveOffices → (h : List Answered) (t mid t2 : Tables) (at : HoldsAsBodies h t)
    → CarriesNets (map (λ (net : Net). net.name) at.holds.office.nets) t mid
    → t2 ≡ (record mid { message = []; profile = row_marks Two }) → HoldsAsRows Two h t2
held_as_rows laws h t mid t2 at over is =
    let last : Tables = record mid { message = []; profile = row_marks Two } in
    let nets = at.holds.office.nets in
    let known = nets_known laws HasBodies _ h t at.holds in
    let each = over.each (names_ascend nets known.ascending) in
    subst (HoldsAsRows Two h) (sym is) (record {
      holds = all_carried HasBodies HasRows _ (row_marks Two) h t last at.holds
          (ap (λ (u : Tables). record u { message = []; profile = [] }) over.rest)
          (λ name bodies. subst (λ l. HasRows name mid l) (chosen nets name)
          (each name (live_in (net_named at.holds.office name)) bodies (none_as_rows t at.alone name))) refl;
      emptied = refl;
      under = tt;
    })

-- ---- from the first profile to the second

pub marks_put : put_row (mark_row 2 2) (put_row (mark_row 1 2) []) ≡ row_marks Two
marks_put = ap (λ o. match_ordering o (mark_row 1 2 ∷ mark_row 2 2 ∷ []) (mark_row 2 2 ∷ [])
    (mark_row 2 2 ∷ mark_row 1 2 ∷ [])) (number_below 1 2 (omega arith))

pub held_renewed : (h : List Answered) (t t2 : Tables) → t2 ≡ (record t { profile = row_marks Two })
    → HoldsAsRows One h t → HoldsAsRows Two h t2
held_renewed h t t2 is at = subst (HoldsAsRows Two h) (sym is) (record {
  holds = all_carried HasRows HasRows _ (row_marks Two) h t (record t { profile = row_marks Two }) at.holds refl
      (λ name live. live) refl;
  emptied = at.emptied;
  under = tt;
})
