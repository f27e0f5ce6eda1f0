-- `gsm7::decode::unpack_septets` meets its contract: a text is its characters in UTF-8.
use Rattle.gsm7.proofs.Reading.{text_shown}
use Rattle.gsm7.proofs.decode.unpack_septets.Goals as goal

pub put_characters-requires : goal.put_characters-requires
put_characters-requires c = rw (← text_shown) c.requires

pub returns : goal.returns
returns c = rw text_shown c.put_characters.ensures
