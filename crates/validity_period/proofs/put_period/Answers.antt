-- `validity_period::put_period` meets its contract: by the format.
use mathlib.Core.Path.{refl}
use native.Mathlib.Omega.{arith}
use Rattle.validity_period.specs.Validity.{period_size}
use Rattle.validity_period.proofs.put_period.Goals as goal

pub put_octet-requires : goal.put_octet-requires
unfolding period_size
put_octet-requires c = let p = rw c.in-Relative.is at c.requires in omega arith

pub encode_time-requires : goal.encode_time-requires
unfolding period_size
encode_time-requires c = let p = rw c.in-Absolute.is at c.requires in (p.0, p.2)

pub put_octets-requires : goal.put_octets-requires
unfolding period_size
put_octets-requires c = let p = rw c.in-Enhanced.is at c.requires in omega (arith, p.1, p.2)

pub returns-in-None : goal.returns-in-None
returns-in-None c = rw c.in-None.is (record { place = omega arith; list = refl })

pub returns-in-Relative : goal.returns-in-Relative
returns-in-Relative c = rw c.in-Relative.is c.put_octet.ensures

pub returns-in-Absolute : goal.returns-in-Absolute
returns-in-Absolute c = rw c.in-Absolute.is c.encode_time.ensures

pub returns-in-Enhanced : goal.returns-in-Enhanced
returns-in-Enhanced c = rw c.in-Enhanced.is c.put_octets.ensures
