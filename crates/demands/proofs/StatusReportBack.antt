-- Demand 2 of document 01 for SMS-STATUS-REPORT: what was written is read back as the same record, the letters of both times capital.
-- And each proper beginning of it is refused with 2; cut just after status, where an indicator follows, it is read as the same record with no indicator, parameters or user data (document 02, Ask 9).
-- Assumes nothing.
use Rattle.std.specs.Prelude.{Some, None, Option}
use Prim.Native.Nat.{ℕ, ◌+◌, ◌-◌, ◌≤◌, ◌<◌}
use mathlib.Core.Path.{◌≡◌, refl, sym, ap, ◌∙◌}
use mathlib.Core.Bool.{Bool, true, false}
use mathlib.Core.List.{List, [], ◌∷◌, ◌++◌, append_assoc, append-nil}
use mathlib.Core.Logic.{⊎_elim}
use mathlib.Core.Option.{some, none-ne-some}
use native.Mathlib.Nat.{zero-add}
use native.Mathlib.Omega.{arith}
use borrow.Author.Tests.{eqb-true, eq-eqb, ltb-true, ltb-false}
use lib.Dec.{eqb, ltb}
use lib.ListN.{length, take, drop, length-append, length-drop}
use lib.Seq.{length-take-le, drop_at, drop-drop, take_at, take-append-le, take-append-add}
use Rattle.octets.specs.Answers.{fine}
use Rattle.octets.specs.Checks.{◌unless◌, found, all_fit}
use Rattle.octets.specs.Lent.{made}
use Rattle.octets.specs.declared.Refusal.TheVariants.{LengthTooLarge, OctetsEnd, NotATime, ParametersWithoutIndicator}
use Rattle.octets.specs.Held.{holding, filled, cleared_held}
use Rattle.octets.proofs.Holding.{held_back}
use Rattle.octets.proofs.Checks.{never, holds, both_hold, made_told, made_counts, all_fit_lem}
use Rattle.time.specs.Time.{is_time, time_octets, time_in, capital_time}
use Rattle.time.proofs.Laws.{time_back, time_size}
use Rattle.address.specs.Writing.{address_checks}
use Rattle.address.specs.Address.{address_in, text_held, cleared_address}
use Rattle.address.proofs.Laws.{Spelled, address_passed, address_held}
use Rattle.layout.specs.Cut.{Cut}
use Rattle.layout.specs.Demand.{Demand2}
use Rattle.layout.specs.Layout.{first, octet, octets, any, address, leading, first_octet, Field, stands_as, joined, Format, field, message, one, time, done, ◌then◌, reached, halted, reading, read_from, plain, read}
use Rattle.layout.proofs.Beginnings.{fronts, cut_read, cut_after_end}
use Rattle.layout.proofs.FirstOctet.{first_type, first_flag, first_kept}
use Rattle.layout.proofs.LayoutBack.{Calls, joined_read}
use Rattle.layout.proofs.Steps.{done_reached, end_not_reached, then_goes_on, then_ends}
use Rattle.parameters.specs.Checking.{indicator_checks, data_within}
use Rattle.parameters.specs.Optional.{octets_held, held}
use Rattle.parameters.specs.Parameters.{Parameters, no_parameters, parameters_octets}
use Rattle.status_report.specs.Layout.{Fields, bits, fields}
use Rattle.status_report.specs.Internal.{fields_with, after_status}
use Rattle.status_report.specs.StatusReport.{status_reported, format, status_report, lengths_of, flags_of, parameters_of, optional_checks, status_reporting_within, status_reporting, status_reporting_to_standard, cleared, capitalised, Typed}
use Rattle.status_report.specs.declared.SmsStatusReport.{SmsStatusReport}
use Rattle.status_report.proofs.Demand.{made_cleared}
use Rattle.demands.specs.Cuts.{recipient_octets, up_to_status, if_held, cut_after_status, without_indicator}
use Rattle.demands.proofs.ParametersBack.{parameters_endless, indicator_here, not_extended, parameters_here, parameters_limit}

-- ---- the checks that a written record passed

module _ (r : SmsStatusReport) where
  abbrev stamp : List ℕ
  stamp = filled r.tp_service_centre_timestamp

  abbrev late : List ℕ
  late = filled r.tp_discharge_time

  -- the fields up to status, their octets, and those that follow
  abbrev parts : List Field
  parts =
      stands_as (first bits) (first_octet 2 (flags_of r) ∷ []) ∷ stands_as octet (r.tp_mr ∷ []) ∷ stands_as address (recipient_octets r) ∷ stands_as (octets any 7) (time_octets stamp)
      ∷ stands_as (octets any 7) (time_octets late) ∷ stands_as octet (r.tp_status ∷ []) ∷ []

  abbrev front : List ℕ
  front = joined parts

  abbrev rest : List ℕ
  rest = octets_held r.tp_parameter_indicator ++ parameters_octets (parameters_of r)

  splits : (more : List ℕ) → first_octet 2 (flags_of r) ∷ r.tp_mr ∷ (recipient_octets r ++ (time_octets stamp ++ (time_octets late ++ (r.tp_status ∷ more)))) ≡ front ++ more
  splits more = simp append_assoc

  record Passed (limit : ℕ) (os : List ℕ) : Type 0 where
    pub is : front ++ rest ≡ os
    pub fit : all_fit (lengths_of r) ≡ true
    pub address : Spelled r.tp_recipient_address.ton r.tp_recipient_address.npi (text_held r.tp_recipient_address) (recipient_octets r)
    pub time_is : is_time stamp ≡ true
    pub discharge_is : is_time late ≡ true
    pub optional : found (optional_checks limit r.tp_parameter_indicator (parameters_of r)) ≡ fine

-- indicator and parameters that pass have at most four octets more than the user data may
optional_size_lem : (limit : ℕ) (pi : Option ℕ) (p : Parameters) → found (optional_checks limit pi p) ≡ fine → length (octets_held pi) + length (parameters_octets p) ≤ 4 + limit
unfolding optional_checks
optional_size_lem limit None p h = omega (arith, eqb-true (length (parameters_octets p)) 0 (holds ParametersWithoutIndicator (eqb (length (parameters_octets p)) 0) [] h).0)
optional_size_lem limit (Some i) p h =
    let (x, d) = both_hold (indicator_checks i p.pid p.dcs p.udl) (data_within limit p.dcs p.udl (length p.ud)) h in
    simp length-append (omega (arith, parameters_limit limit p d))

-- ---- octets in the layout's order are read as the fields that they are, to their end

-- no indicator: the string ends, and nothing is held
none_read : (make : Option ℕ → Parameters → Fields) (pid dcs udl : Option ℕ) (ud : List ℕ) (at : ℕ) → held pid + held dcs + held udl + length ud ≡ 0
    → let p : Parameters = record { pid = pid; dcs = dcs; udl = udl; ud = ud } in reading (after_status make) (parameters_octets p) at ≡ reached (make None p) at
unfolding after_status reading
none_read make None None None [] at h = refl
none_read make None None None (x ∷ ud) at h = absurd (omega arith)
none_read make None None (Some x) ud at h = absurd (omega arith)
none_read make None (Some x) udl ud at h = absurd (omega arith)
none_read make (Some x) dcs udl ud at h = absurd (omega arith)

module _ (limit : ℕ) (make : Option ℕ → Parameters → Fields) (p : Parameters) (s : List ℕ) (at : ℕ) (inside : at ≤ length s) where
  optional_read : (pi : Option ℕ) → found (optional_checks limit pi p) ≡ fine → drop at s ≡ octets_held pi ++ parameters_octets p → read_from (after_status make) s at ≡ reached (make pi p) (length s)
  unfolding optional_checks after_status read_from
  optional_read None h e =
      let z = simp length-append at (eqb-true (length (parameters_octets p)) 0 (holds ParametersWithoutIndicator (eqb (length (parameters_octets p)) 0) [] h).0) in
      let n : at ≡ length s = omega (arith, length-drop at s, simp length-append at (ap length e), z) in
      ap (λ (l : List ℕ). reading (after_status make) l at) e ∙ none_read make p.pid p.dcs p.udl p.ud at (omega (arith, z)) ∙ ap (reached (make None p)) n
  optional_read (Some pi) h e =
      let (i, d) = both_hold (indicator_checks pi p.pid p.dcs p.udl) (data_within limit p.dcs p.udl (length p.ud)) h in
      let n : at + 1 + held p.pid + held p.dcs + held p.udl + length p.ud ≡ length s = omega (arith, length-drop at s, simp length-append at (ap length e)) in
      end_not_reached s at _ _ (omega arith) ∙ indicator_here s at e _ (not_extended limit pi p i d) ∙ parameters_here limit pi p i d s (at + 1) (sym (drop-drop 1 at s) ∙ ap (drop 1) e) _
      ∙ done_reached s _ _ ∙ ap (reached (make (Some pi) p)) n

-- octets follow status exactly where an indicator is held
followed : (limit : ℕ) (pi : Option ℕ) (p : Parameters) {n : ℕ} → found (optional_checks limit pi p) ≡ fine → 0 < length (octets_held pi ++ parameters_octets p) → if_held pi n ≡ some n
unfolding optional_checks
followed limit None p h more = absurd (omega (arith, eqb-true (length (parameters_octets p)) 0 (holds ParametersWithoutIndicator (eqb (length (parameters_octets p)) 0) [] h).0))
followed limit (Some pi) p h more = refl

is_followed : (pi : Option ℕ) (p : Parameters) {n k : ℕ} → if_held pi n ≡ some k → (k ≡ n) × (0 < length (octets_held pi ++ parameters_octets p))
is_followed None p {k = k} e = absurd (none-ne-some k e)
is_followed (Some pi) p e = ((cc), omega arith)

-- the layout in two: the fields up to status; and what follows it
abbrev to_status : Format (Option ℕ → Parameters → Fields)
to_status = message 2 bits λ first. one λ mr. field address λ ra. time λ scts. time λ dt. one λ st. done (fields_with first mr ra scts dt st)

in_two : fields ≡ (to_status then after_status)
unfolding fields after_status
in_two = refl

never_read : {R : Type 0} {x : R} {n : ℕ} → halted OctetsEnd ≡ reached x n → ⊥
never_read e = let z : ◌≡◌ {A = ℕ} 0 1 = cc in omega arith

-- the fields of a record, by what follows status
abbrev fields_of : SmsStatusReport → Option ℕ → Parameters → Fields
fields_of r = fields_with (first_octet 2 (flags_of r)) r.tp_mr (recipient_octets r) (time_octets (stamp r)) (time_octets (late r)) r.tp_status

module _ {limit : ℕ} {os : List ℕ} (r : SmsStatusReport) (p : Passed r limit os) where
  up_to_status_lem : length (front r) ≡ up_to_status r
  unfolding up_to_status
  up_to_status_lem = simp length-append (omega (arith, time_size (stamp r) p.time_is, time_size (late r) p.discharge_is))

  called : Calls to_status (parts r) (fields_of r)
  called =
      let whole = ap (λ (x : ℕ). x ∷ []) (first_kept 2 (omega arith) (flags_of r) refl) in
      let mti = eq-eqb _ 2 (first_type 2 (omega arith) (flags_of r) refl) in
      (refl, whole, (mti, (refl, refl, (p.address.whole, p.address.again, (sym (time_size (stamp r) p.time_is), refl, (sym (time_size (late r) p.discharge_is), refl, (refl, refl, refl)))))))

  front_read : read_from to_status (front r) 0 ≡ reached (fields_of r) (length (front r))
  unfolding read_from
  front_read = joined_read (fields_of r) to_status (parts r) called 0 ∙ ap (reached (fields_of r)) (zero-add (length (front r)))

  -- whatever follows
  status_read : (more : List ℕ) → read_from to_status (front r ++ more) 0 ≡ reached (fields_of r) (up_to_status r)
  unfolding read_from
  status_read more =
      ⊎_elim (λ h. absurd (never_read (sym h ∙ front_read))) (λ same. sym same ∙ front_read) (fronts to_status (λ first mr ra scts dt st. tt) (front r) more 0) ∙ ap (reached (fields_of r)) up_to_status_lem

  dropped : (more : List ℕ) → drop (up_to_status r) (front r ++ more) ≡ more
  dropped more = drop_at (front r) more (up_to_status r) up_to_status_lem

  sizes : (more : List ℕ) → length (front r ++ more) ≡ up_to_status r + length more
  sizes more = length-append (front r) more ∙ rw up_to_status_lem

  fields_read : (more : List ℕ) → read_from fields (front r ++ more) 0 ≡ read_from (after_status (fields_of r)) (front r ++ more) (up_to_status r)
  fields_read more = ap (λ (l : Format Fields). read_from l (front r ++ more) 0) in_two ∙ then_goes_on (front r ++ more) to_status 0 (status_read more) after_status

  -- what follows status and passes the checks
  written_read : (pi : Option ℕ) (held : Parameters) → found (optional_checks limit pi held) ≡ fine
      → let s = front r ++ (octets_held pi ++ parameters_octets held) in read_from fields s 0 ≡ reached (fields_of r pi held) (length s)
  written_read pi held h =
      let more = octets_held pi ++ parameters_octets held in
      fields_read more ∙ optional_read limit (fields_of r) held (front r ++ more) (up_to_status r) (omega (arith, sizes more)) pi h (dropped more)

  -- ---- cut before status, and after it

  cut_before : (k : ℕ) → k < up_to_status r → read_from fields (take k (front r ++ rest r)) 0 ≡ halted OctetsEnd
  unfolding read
  cut_before k h =
      let few : k < length (front r) = omega (arith, up_to_status_lem) in
      ap (λ (s : List ℕ). read_from fields s 0) (take-append-le k (front r) (rest r) (omega arith)) ∙ ap (λ (l : Format Fields). read_from l (take k (front r)) 0) in_two
      ∙ then_ends (take k (front r)) to_status 0 (cut_read (plain to_status) (λ first mr ra scts dt st. tt) (front r) front_read k few) after_status

  cut_after : {x : Fields} → read_from fields (front r ++ rest r) 0 ≡ reached x (length (front r ++ rest r)) → (j : ℕ) → 0 < j → j < length (rest r) → read_from fields (take (up_to_status r + j) (front r ++ rest r)) 0 ≡ halted OctetsEnd
  unfolding read_from after_status
  cut_after e j more few =
      let here : take (up_to_status r + j) (front r ++ rest r) ≡ front r ++ take j (rest r) = ap (λ (n : ℕ). take (n + j) (front r ++ rest r)) (sym up_to_status_lem) ∙ take-append-add (front r) (rest r) j in
      let from : (xs : List ℕ) → read_from fields (front r ++ xs) 0 ≡ reading (after_status (fields_of r)) xs (up_to_status r) = λ xs. fields_read xs ∙ ap (λ (l : List ℕ). reading (after_status (fields_of r)) l (up_to_status r)) (dropped xs) in
      ap (λ (s : List ℕ). read_from fields s 0) here ∙ from (take j (rest r))
      ∙ cut_after_end _ _ (λ i. parameters_endless (leading i) _ λ p. tt) (rest r) (up_to_status r) (sym (from (rest r)) ∙ e) (sym (sizes (rest r))) j few more

-- ---- the record that they make

-- of the fields
to_record : (s : List ℕ) {x : Fields} {n : ℕ} → read_from fields s 0 ≡ reached x n → read status_report s ≡ reached (status_reported x) n
unfolding read format
to_record s e = then_goes_on s fields 0 e (λ x. done (status_reported x)) ∙ done_reached s _ _

to_refusal : (s : List ℕ) → read_from fields s 0 ≡ halted OctetsEnd → read status_report s ≡ halted OctetsEnd
unfolding read format
to_refusal s e = then_ends s fields 0 e (λ x. done (status_reported x))

same_record : (r : SmsStatusReport) (ra scts dt : List ℕ) → address_in ra ≡ cleared_address r.tp_recipient_address
    → time_in scts ≡ capital_time (cleared_held r.tp_service_centre_timestamp) → time_in dt ≡ capital_time (cleared_held r.tp_discharge_time) → holding 255 (filled r.tp_user_data) ≡ cleared_held r.tp_user_data
    → status_reported (fields_with (first_octet 2 (flags_of r)) r.tp_mr ra scts dt r.tp_status r.tp_parameter_indicator (parameters_of r)) ≡ capitalised (cleared r)
unfolding status_reported
same_record r ra scts dt ea et eu ed =
    let tells = first_flag 2 (omega arith) (flags_of r) refl in
    rw (tells 6 refl, tells 5 refl, tells 3 refl, tells 2 refl, ea, et, eu, ed)

-- ---- a record

module _ {os : List ℕ} {answer : ℕ} (limit : ℕ) (r : SmsStatusReport) (e : status_reporting_within limit r ≡ made os answer) where
  passed : Passed r limit os
  unfolding status_reporting_within
  passed =
      let of-address = address_checks r.tp_recipient_address.ton r.tp_recipient_address.npi (text_held r.tp_recipient_address) in
      let more = optional_checks limit r.tp_parameter_indicator (parameters_of r) in
      let (f, x) = made_told _ _ e in
      let (fit, f0) = holds LengthTooLarge (all_fit (lengths_of r)) (of-address ++ ((NotATime unless is_time (stamp r)) ∷ (NotATime unless is_time (late r)) ∷ more)) f in
      let (g, k) = both_hold of-address ((NotATime unless is_time (stamp r)) ∷ (NotATime unless is_time (late r)) ∷ more) f0 in
      let (t, k1) = holds NotATime (is_time (stamp r)) ((NotATime unless is_time (late r)) ∷ more) k in
      let (d, k2) = holds NotATime (is_time (late r)) more k1 in
      record { is = sym (splits r (rest r)) ∙ x; fit = fit; address = address_passed _ _ _ g; time_is = t; discharge_is = d; optional = k2 }

  -- what was written has at most 33 octets more than the user data may
  at_most_within : length os ≤ 33 + limit
  at_most_within =
      let o = simp length-append at (optional_size_lem limit r.tp_parameter_indicator (parameters_of r) passed.optional) in
      rw (← passed.is) (simp length-append (omega (arith, time_size (stamp r) passed.time_is, time_size (late r) passed.discharge_is, o, passed.address.short)))

  -- what was written is read back, to its end
  read_back : read_from fields (front r ++ rest r) 0 ≡ reached (fields_of r r.tp_parameter_indicator (parameters_of r)) (length (front r ++ rest r))
  read_back = written_read r passed r.tp_parameter_indicator (parameters_of r) passed.optional

  -- as the same record; and what is read where no indicator follows is the record without it
  record_back : Typed r
      → (cleared (status_reported (fields_of r r.tp_parameter_indicator (parameters_of r))) ≡ capitalised (cleared r)) × (cleared (status_reported (fields_of r None no_parameters)) ≡ capitalised (cleared (without_indicator r)))
  unfolding holding
  record_back (ha, ht, hu, hd) =
      let p = passed in
      let a = r.tp_recipient_address in
      let s = r.tp_service_centre_timestamp in
      let l = r.tp_discharge_time in
      let d = r.tp_user_data in
      let fit = all_fit_lem (lengths_of r) p.fit in
      let la : length (text_held a) ≡ a.address.length = length-take-le a.address.length a.address.octets (omega (arith, ha, fit.0)) in
      let lt : length (filled s) ≡ s.length = length-take-le s.length s.octets (omega (arith, ht, fit.1.0)) in
      let lu : length (filled l) ≡ l.length = length-take-le l.length l.octets (omega (arith, hu, fit.1.1.0)) in
      let ld : length (filled d) ≡ d.length = length-take-le d.length d.octets (omega (arith, hd, fit.1.1.1.0)) in
      let ea = p.address.back ∙ address_held a la in
      let et = time_back s p.time_is lt in
      let eu = time_back l p.discharge_is lu in
      (made_cleared _ ∙ same_record r _ _ _ ea et eu (held_back d ld), made_cleared _ ∙ same_record (without_indicator r) _ _ _ ea et eu refl)

  -- each proper beginning of it is refused with 2, but for that up to status
  cut_back : (k : ℕ) → k < length os → (k ≡ up_to_status r → ⊥) → read status_report (take k os) ≡ halted OctetsEnd
  cut_back k h other = to_refusal (take k os) (ap (λ (s : List ℕ). read_from fields (take k s) 0) (sym passed.is) ∙ by (ltb k (up_to_status r)) (ltb (up_to_status r) k) refl refl)
    where
      by : (a b : Bool) → ltb k (up_to_status r) ≡ a → ltb (up_to_status r) k ≡ b → read_from fields (take k (front r ++ rest r)) 0 ≡ halted OctetsEnd
      by true b before after = cut_before r passed k (ltb-true _ _ before)
      by false true before after =
          let j = k - up_to_status r in
          let past : up_to_status r < k = ltb-true _ _ after in
          let all : up_to_status r + j ≡ k = omega arith in
          rw all at (cut_after r passed read_back j (omega arith) (omega (arith, sizes r passed (rest r), ap length passed.is)))
      by false false before after = absurd (other (omega (arith, ltb-false k (up_to_status r) before, ltb-false (up_to_status r) k after)))

  -- that one is a proper beginning where an indicator follows, and is read to its end
  status_back : {k : ℕ} → cut_after_status r ≡ some k → (k < length os) × (read status_report (take k os) ≡ reached (status_reported (fields_of r None no_parameters)) k)
  unfolding optional_checks
  status_back x =
      let (same, more) = is_followed r.tp_parameter_indicator (parameters_of r) x in
      let here : take (up_to_status r) os ≡ front r ++ [] = ap (take (up_to_status r)) (sym passed.is) ∙ take_at (front r) (rest r) (up_to_status r) (up_to_status_lem r passed) ∙ sym (append-nil (front r)) in (
        omega (arith, sizes r passed (rest r), ap length passed.is),
        rw same (ap (read status_report) here ∙ to_record (front r ++ []) (written_read r passed None no_parameters refl) ∙ ap (reached (status_reported (fields_of r None no_parameters))) (omega (arith, sizes r passed []))),
      )

-- ---- the writer within a limit

module _ (limit : ℕ) where
  pub status_report_demand2 : Demand2 Typed cleared capitalised (λ r. status_report) (status_reporting_within limit) (λ r. fine) (λ r. false)
  status_report_demand2 = record {
    back = λ r t octets n e x. (_, _, ap (read status_report) (sym (passed limit r e).is) ∙ to_record _ (read_back limit r e), (record_back limit r e t).0);
    excepted = λ r t octets n e why x. absurd (never x);
    only = λ r why x. absurd (never x);
  }

  pub status_report_ends : Cut Typed cleared capitalised (λ r. status_report) (status_reporting_within limit) cut_after_status without_indicator
  status_report_ends = record {
    ends = λ r t octets n e k h x.
        let p = passed limit r e in
        cut_back limit r e k h λ same. x (rw same (followed limit r.tp_parameter_indicator (parameters_of r) p.optional (omega (arith, sizes r p (rest r), ap length p.is))));
    takes = λ r t octets n e k x. let (h, is) = status_back limit r e x in (h, status_reported (fields_of r None no_parameters), is, (record_back limit r e t).1);
  }

  pub status_report_counts : (r : SmsStatusReport) (xs : List ℕ) (a : ℕ) → status_reporting_within limit r ≡ made xs a → a ≡ length xs
  unfolding status_reporting_within
  status_report_counts r xs a e = made_counts _ _ e

-- ---- how much is written

module _ (r : SmsStatusReport) {os : List ℕ} {answer : ℕ} where
  pub at_most : status_reporting r ≡ made os answer → length os ≤ 173
  at_most e = at_most_within 140 r e

  pub standard_at_most : status_reporting_to_standard r ≡ made os answer → length os ≤ 164
  standard_at_most e = at_most_within 131 r e
