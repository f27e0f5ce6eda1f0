-- `utf16::first_character` meets its contract.
use native.Mathlib.Omega.{arith}
use borrow.Author.Tests.{lt-ltb, le-ltb}
use Rattle.utf16.specs.Characters.{first_character}
use Rattle.utf16.proofs.first_character.Goals as goal

pub returns-then-octets-lt2 : goal.returns-then-octets-lt2
unfolding first_character
returns-then-octets-lt2 c = rw c.replacement.ensures (rw (lt-ltb _ _ c.if-octets-lt2.true), omega arith, omega arith, omega arith)

pub character_of-requires : goal.character_of-requires
character_of-requires c = (omega arith, omega arith)

pub returns-then-octets-lt4 : goal.returns-then-octets-lt4
unfolding first_character
returns-then-octets-lt4 c =
    let d = c.before.before.before in (
      rw (le-ltb _ _ d.if-octets-lt2.false, lt-ltb _ _ c.if-octets-lt4.true, ← d.unit-high.ensures.0) c.character_of.ensures.0,
      c.character_of.ensures.1,
      c.character_of.ensures.2,
      c.character_of.ensures.3,
    )

pub character_of-requires-2 : goal.character_of-requires-2
character_of-requires-2 c = (omega arith, omega arith)

pub returns : goal.returns
unfolding first_character
returns c =
    let d = c.before.before.before.before.before.before in (
      rw (le-ltb _ _ d.if-octets-lt2.false, le-ltb _ _ c.if-octets-lt4.false, ← d.unit-high.ensures.0, ← c.unit.ensures.0)
          c.character_of-2.ensures.0,
      c.character_of-2.ensures.1,
      c.character_of-2.ensures.2,
      c.character_of-2.ensures.3,
    )
