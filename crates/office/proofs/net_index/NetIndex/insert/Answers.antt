use Rattle.office.proofs.Common.{◌∙◌, ◌||◌, Some, cond, refl, sym, ap, get, is_eq, text_cmp, dbc_number, is_taken}
use Rattle.office.specs.Indexed.{indexed_numbers, has_form_and_number}
use Rattle.office.specs.declared.net_index.NetIndex.{NetIndex}
use Rattle.office.proofs.Indexes.{index-inserted, numbers_apart, ok_holds}
use Rattle.office.proofs.net_index.NetIndex.insert.Goals as goal

pub returns : goal.returns
returns c = λ net at m name ident is t.
    let old : NetIndex = c.args.self.now in
    let mid : NetIndex = record old { names = c.insert.new.self } in
    let k = c.to_dbc.result in
    let added = ok_holds c.add_number.result c.add_number.ensures.ok (sym c.is_ok.ensures.value ∙ t) in
    index-inserted old c.add_number.new.self net at m is
    (ap (get text_cmp old.names) name ∙ sym c.in-Ok-None.ensures.old ∙ c.in-Ok-None.field-0-is)
    (λ q.
    ap (λ ns. get text_cmp ns q) c.add_number.ensures.names
    ∙ c.in-Ok-None.ensures.updates.0 q
    ∙ ap (λ v. cond (is_eq (text_cmp v q)) (Some k) (get text_cmp old.names q)) (sym name)
    ∙ ap (λ v. cond (is_eq (text_cmp m.message.name q)) (Some v) (get text_cmp old.names q))
    (c.to_dbc.ensures.number ∙ ap dbc_number (sym ident)))
    (λ form n.
    added form n
    ∙ ap (λ ns. has_form_and_number form n c.args.ident.now || is_taken n ns) (numbers_apart mid old refl refl form)
    ∙ ap (λ i. has_form_and_number form n i || is_taken n (indexed_numbers old form)) (sym ident))
