-- STATUS-REPORT's writers differ in the limit of user data alone.
-- Assumes nothing.
use Rattle.std.specs.Prelude.{Some, None, Option}
use Prim.Native.Nat.{ℕ, ◌≤◌}
use mathlib.Core.Path.{◌≡◌, sym, ◌∙◌}
use mathlib.Core.List.{List, [], ◌∷◌, ◌++◌, append_assoc}
use native.Mathlib.Omega.{arith}
use borrow.Author.Tests.{eqb-true}
use lib.Dec.{eqb}
use lib.ListN.{length, length-append}
use Rattle.octets.specs.Answers.{fine}
use Rattle.octets.specs.Checks.{Check, ◌unless◌, found, checked, all_fit}
use Rattle.octets.specs.Lent.{Making, made}
use Rattle.octets.specs.declared.Refusal.TheVariants.{LengthTooLarge, NotATime, ParametersWithoutIndicator}
use Rattle.octets.specs.Held.{filled}
use Rattle.octets.proofs.Checks.{holds, both_hold, made_told}
use Rattle.time.specs.Time.{is_time}
use Rattle.address.specs.Address.{text_held}
use Rattle.address.specs.Writing.{address_checks}
use Rattle.parameters.specs.Checking.{indicator_checks, data_within}
use Rattle.parameters.specs.Limits.{Limits}
use Rattle.parameters.specs.Parameters.{Parameters, parameters_octets}
use Rattle.parameters.proofs.Limits.{limits, keeps, moves, writing}
use Rattle.status_report.specs.StatusReport.{lengths_of, parameters_of, octets_of, optional_checks, status_reporting_within}
use Rattle.status_report.specs.declared.SmsStatusReport.{SmsStatusReport}

abbrev count : SmsStatusReport → ℕ
count r = length (filled r.tp_user_data)

-- the checks before those of indicator and parameters
abbrev front : SmsStatusReport → List Check
front r =
    let recipient = r.tp_recipient_address in
    (LengthTooLarge unless all_fit (lengths_of r)) ∷ (address_checks recipient.ton recipient.npi (text_held recipient) ++ ((NotATime unless is_time (filled r.tp_service_centre_timestamp)) ∷ (NotATime unless is_time (filled r.tp_discharge_time)) ∷ []))

-- what is made with an indicator or none
abbrev with : SmsStatusReport → Option ℕ → ℕ → Making ℕ
with r pi limit = checked (front r ++ optional_checks limit pi (parameters_of r)) (octets_of r)

optional_last : (limit : ℕ) (r : SmsStatusReport) → status_reporting_within limit r ≡ with r r.tp_parameter_indicator limit
unfolding status_reporting_within
optional_last limit r =
    let recipient = r.tp_recipient_address in
    rw (append_assoc (address_checks recipient.ton recipient.npi (text_held recipient)) ((NotATime unless is_time (filled r.tp_service_centre_timestamp)) ∷ (NotATime unless is_time (filled r.tp_discharge_time)) ∷ []) (optional_checks limit r.tp_parameter_indicator (parameters_of r)))

-- without an indicator there are no user data, and no limit is looked at
none_held : (limit : ℕ) (p : Parameters) → found (optional_checks limit None p) ≡ fine → length p.ud ≤ 0
unfolding optional_checks
none_held limit p e =
    let none = simp length-append at (eqb-true (length (parameters_octets p)) 0 (holds ParametersWithoutIndicator (eqb (length (parameters_octets p)) 0) [] e).0) in
    omega (arith, none)

-- with one the checks of the user data are last
module _ (r : SmsStatusReport) (i : ℕ) where
  abbrev indicated : List Check
  indicated = indicator_checks i r.tp_pid r.tp_dcs r.tp_user_data_length

  data_last : (limit : ℕ) → with r (Some i) limit ≡ writing (front r ++ indicated) r.tp_dcs r.tp_user_data_length (count r) (octets_of r) limit
  unfolding optional_checks
  data_last limit = rw (append_assoc (front r) indicated (data_within limit r.tp_dcs r.tp_user_data_length (count r)))

module _ (r : SmsStatusReport) (limit : ℕ) (octets : List ℕ) (answer : ℕ) where
  keeps_with : (pi : Option ℕ) → with r pi limit ≡ made octets answer → count r ≤ limit
  keeps_with None e = omega (arith, none_held limit (parameters_of r) (both_hold (front r) (optional_checks limit None (parameters_of r)) (made_told _ _ e).0).1)
  keeps_with (Some i) e = keeps (front r ++ indicated r i) _ _ (count r) (octets_of r) limit octets answer (sym (data_last r i limit) ∙ e)

  moves_with : (other : ℕ) (pi : Option ℕ) → with r pi limit ≡ made octets answer → count r ≤ other → with r pi other ≡ made octets answer
  unfolding optional_checks
  moves_with other None e h = e
  moves_with other (Some i) e h = data_last r i other ∙ moves (front r ++ indicated r i) _ _ (count r) (octets_of r) limit octets answer (sym (data_last r i limit) ∙ e) other h

pub status_report_limits : Limits status_reporting_within count
status_report_limits =
    limits status_reporting_within count λ r.
    (λ limit xs x e. keeps_with r limit xs x _ (sym (optional_last limit r) ∙ e), λ limit other xs x e h. optional_last other r ∙ moves_with r limit xs x other _ (sym (optional_last limit r) ∙ e) h)
