use Rattle.page_messages.proofs.Common.{◌++◌, ◌∙◌, ℕ, List, [], Some, ap, codes, map, refl, sym, take, vec_len}
use Rattle.page_messages.proofs.Common.{flat_map, Becomes, Writing, adding, beginning, ending, added, next, with_part}
use Rattle.std.proofs.Common.{Vec, Global}
use Rattle.markup.specs.declared.tag.Tag.TheVariants as tag
use Rattle.page_parts.specs.Found.{clashes_of, found_nothing, passed_of}
use Rattle.page_messages.specs.Remarks.{clash_line, others_html, passed_html, remark_line, shown_remarks}
use Rattle.page_messages.specs.Remarks.{with_remarks_in}
use Rattle.page_messages.proofs.Adding.{added_as}
use Rattle.page_messages.proofs.Choosing.{else_so}
use Rattle.page_messages.proofs.remarks.put_remarks.Goals as goal

texts : List (Vec ℕ Global) → List (List ℕ)
texts all = map (λ (one : Vec ℕ Global). one.items) all

pub returns : goal.returns
unfolding texts
returns c =
    let checked = c.args.checked.now in
    let page = c.args.page.now in
    let clashes = flat_map clash_line (clashes_of checked) in
    let remarks = flat_map remark_line (shown_remarks checked) in
    let others = others_html (vec_len checked.remarks) in
    let passed = passed_html (passed_of checked) in
    let listed = c.open.new.self in
    let closed = c.close.new.self in
    let lines : Becomes c.put_remark_lines.new.page (adding (clashes ++ remarks) listed) =
    added listed clashes remarks
    (added_as _ clashes listed _ (ap (λ v. flat_map clash_line (texts v)) c.deref.ensures.value) c.put_clashes.ensures)
    (added_as _ remarks c.put_clashes.new.page _ (ap (λ v. flat_map remark_line (texts v))
    (c.shown_of.ensures ∙ ap (take 200) c.deref-2.ensures.value)) c.put_remark_lines.ensures) in
    let rest : Becomes c.put_passed.new.page (adding (others ++ passed) closed) =
    added closed others passed
    (added_as _ others closed _ (ap others_html c.len.ensures) c.put_others.ensures)
    (added_as _ passed c.put_others.new.page _ (ap (λ v. passed_html (texts v)) c.deref-3.ensures.value)
    c.put_passed.ensures) in
    let f : Writing → Writing = with_part (codes "remarks") (codes "Remarks") (Some (codes "of check --lint")) in
    let g : Writing → Writing = λ w. beginning tag.List [] (f w) in
    let h : Writing → Writing = λ w. adding (clashes ++ remarks) (g w) in
    let i : Writing → Writing = λ w. ending (h w) in
    let j : Writing → Writing = λ w. adding (others ++ passed) (i w) in
    else_so (found_nothing checked) page (with_remarks_in checked page) _
    (sym c.is_empty.ensures ∙ c.if-is_empty.false)
    (next page j ending (λ w. refl)
    (next page i (adding (others ++ passed)) (λ w. refl)
    (next page h ending (λ w. refl)
    (next page g (adding (clashes ++ remarks)) (λ w. refl)
    (next page f (beginning tag.List []) (λ w. refl) c.open_part.ensures c.open.ensures) lines) c.close.ensures) rest)
    c.close-2.ensures)
