-- `coding::check_user_data_within` meets its contract: the tests are the definition's.
use Rattle.std.specs.Prelude.{Err}
use Prim.Native.Nat.{ℕ, ◌≤◌, ◌<◌}
use mathlib.Core.Path.{◌≡◌, sym, ◌∙◌}
use borrow.Author.Tests.{eq-eqb, ne_eqb, le-leb, lt-leb}
use Rattle.octets.specs.Answers.{fine}
use Rattle.octets.specs.Checks.{found}
use Rattle.octets.specs.declared.Refusal.TheVariants.{UserDataLengthDisagrees, UserDataTooLong}
use Rattle.coding.specs.declared.UserDataCoding.{UserDataCoding}
use Rattle.coding.specs.Coding.{data_within, data_octets, coding_of}
use Rattle.coding.proofs.Laws.{size_told}
use Rattle.coding.proofs.check_user_data_within.Goals as goal

-- what UDL and DCS give, as the calls tell it
module _ (limit dcs udl n : ℕ) {coding : UserDataCoding} {octets : ℕ} (e : octets ≡ data_octets coding udl) (c : coding ≡ coding_of dcs) where
  given : octets ≡ data_octets (coding_of dcs) udl
  given = size_told dcs udl e c

  disagrees : (n ≡ octets → ⊥) → Err UserDataLengthDisagrees ≡ found (data_within limit dcs udl n)
  disagrees h = rw (ne_eqb n (data_octets (coding_of dcs) udl) (λ p. h (p ∙ sym given)))

  module _ (h : n ≡ octets) where
    too_long : limit < n → Err UserDataTooLong ≡ found (data_within limit dcs udl n)
    too_long l = rw (eq-eqb n (data_octets (coding_of dcs) udl) (h ∙ given), lt-leb n limit l)

    all_fine : n ≤ limit → fine ≡ found (data_within limit dcs udl n)
    all_fine l = rw (eq-eqb n (data_octets (coding_of dcs) udl) (h ∙ given), le-leb n limit l)

pub returns-then-octets-user_data_octets : goal.returns-then-octets-user_data_octets
returns-then-octets-user_data_octets c = disagrees _ _ _ _ c.user_data_octets.ensures c.user_data_coding.ensures c.if-octets-user_data_octets.true

pub returns-then-limit-octets : goal.returns-then-limit-octets
returns-then-limit-octets c = too_long _ _ _ _ c.user_data_octets.ensures c.user_data_coding.ensures c.if-octets-user_data_octets.false c.if-limit-octets.true

pub returns : goal.returns
returns c = all_fine _ _ _ _ c.user_data_octets.ensures c.user_data_coding.ensures c.if-octets-user_data_octets.false c.if-limit-octets.false
