-- `time::timestamp::digits_of` meets its contract: the digits are those of the seven octets.
use Rattle.time.proofs.timestamp.digits_of.Goals as goal

pub returns : goal.returns
returns c =
    rw
    (← c.decimal_octet.ensures, ← c.decimal_octet-2.ensures, ← c.decimal_octet-3.ensures, ← c.decimal_octet-4.ensures, ← c.decimal_octet-5.ensures, ← c.decimal_octet-6.ensures)
    c.decode_time.ensures
