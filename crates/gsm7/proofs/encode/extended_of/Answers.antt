-- `gsm7::encode::extended_of` meets its contract: the first row of the extension table with the character.
use Rattle.std.proofs.Common.{rules}
use Rattle.std.proofs.lemmas.Iterator.{first_from_find, YieldsList-from_slice}
use borrow.Author.Tests.{tests}
use mathlib.Core.Path.{◌≡◌}
use Rattle.gsm7.specs.declared.decode.Extension.{Extension}
use Rattle.gsm7.specs.Alphabet.{extension}
use Rattle.gsm7.specs.Writing.{extended_code, escape_and_code}
use Rattle.gsm7.specs.Internal.{escape_says}
use Rattle.std.specs.Prelude.{None, Some, MatchOption, Option as Maybe}
use denote.Ref.{Bor}
use Prim.Native.Nat.{ℕ}
use Rattle.gsm7.proofs.Rows.{Other, seen, row_found}
use Rattle.gsm7.proofs.encode.extended_of.Goals as goal

-- the code of the row that is seen
coded : (row : Maybe (Bor Extension)) (code : Maybe ℕ) → MatchOption row (code ≡ None) (λ e. code ≡ Some e.now.code) → escape_and_code (seen row) ≡ escape_says code
coded None code e = rw e
coded (Some r) code e = rw e

pub returns : goal.returns
unfolding extended_code
returns c =
    let x = c.args.c in
    let found = row_found (λ (e : Extension). e.character) x extension c.find.result
    (first_from_find _ _ c.find.result (λ e. e.character ≡ x) (Other (λ (e : Extension). e.character) x) c.find.ensures.ran (YieldsList-from_slice extension cc) (λ x q k. search (rules, tests)) (λ x q k. search (rules, tests))) in
    rw found (coded c.find.result c.map.result (search rules))
