use Rattle.dbc_words.specs.Text.{is_text}
use Rattle.dbc_words.proofs.Texts.{text-Decides}
use Rattle.office_fields.specs.Value.{text_of}
use Rattle.office_fields.proofs.Readings.{ReadsField-ok_or, found_where}
use Rattle.office_fields.proofs.texts.text_of.Goals as goal

pub returns : goal.returns
returns c =
    let bytes = c.args.bytes.now in
    let found = c.in_ok-of.field-0 in
    rw c.ok_or.ensures.value
    (ReadsField-ok_or (text_of bytes) found
    (found_where (is_text bytes) found bytes c.in_ok-of.ensures (text-Decides bytes)))
