-- `utf16::utf8` meets its contract: the library's UTF-8 is that of the definition.
use Rattle.std.proofs.Common.{rules}
use Rattle.utf16.proofs.Laws.{library_utf8}
use Rattle.utf16.proofs.utf8.Goals as goal

pub returns : goal.returns
returns c = rw (← library_utf8 c.args.c) (search rules)
