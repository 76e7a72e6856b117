use Rattle.page_numbers.proofs.Common.{◌++◌, ap, codes, decimal, escaped, added}
use Rattle.page_numbers.proofs.Closing.{instead}
use Rattle.page_numbers.proofs.spns.put_gone_place.Goals as goal

pub returns : goal.returns
returns c =
    let burnt = codes "burnt, last in release " in
    let release = decimal c.args.release in
    let colon = codes ": " in
    let message = escaped c.args.message.now.name in
    let dot = codes "." in
    let signal = escaped c.args.signal.now.name in
    added c.args.page.now burnt (release ++ (colon ++ (message ++ (dot ++ signal)))) c.text.ensures
    (added c.text.new.self release (colon ++ (message ++ (dot ++ signal)))
    (instead c.text.new.self _ release (ap decimal c.from.ensures) c.number.ensures)
    (added c.number.new.self colon (message ++ (dot ++ signal)) c.text-2.ensures
    (added c.text-2.new.self message (dot ++ signal)
    (instead c.text-2.new.self _ message (ap escaped c.as_bytes.ensures.bytes) c.text-3.ensures)
    (added c.text-3.new.self dot signal c.text-4.ensures
    (instead c.text-4.new.self _ signal (ap escaped c.as_bytes-2.ensures.bytes) c.text-5.ensures)))))
