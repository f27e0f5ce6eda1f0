-- Octets in the layout's order are read as the fields that they are: the reader's half of read-back (demand 2). And the octets end inside a field of each proper beginning of them (document 02, Ask 9).
-- Assumes nothing.
use Rattle.std.specs.Prelude.{Ok, Err}
use Prim.Native.Nat.{ℕ, ◌<◌}
use mathlib.Core.Path.{◌≡◌, refl, sym, ap, ◌∙◌}
use mathlib.Core.Bool.{Bool, true, false}
use mathlib.Core.List.{List, [], ◌∷◌, ◌++◌, append-nil, append_assoc}
use native.Mathlib.Nat.{zero-add}
use borrow.Author.Tests.{eq-eqb}
use lib.Dec.{leb}
use lib.ListN.{length, take}
use Rattle.octets.specs.Answers.{Said}
use Rattle.octets.specs.Checks.{◌unless◌, found}
use Rattle.octets.specs.declared.Refusal.TheVariants.{OctetsEnd, HeaderNotWhole, HeaderPassesCount}
use Rattle.coding.specs.Coding.{coding_of, data_octets}
use Rattle.user_data_header.specs.Header.{in_count}
use Rattle.address.specs.Address.{address_size, canonical_address}
use Rattle.layout.specs.Layout.{first, octet, octets, any, Field, stands_as, joined, Format, field, one, message, require, done, ◌then◌, address, user_data, message_type, kept, Reached, reached, halted, reading, read_from, plain, read}
use Rattle.layout.proofs.Beginnings.{cut_read}
use Rattle.layout.proofs.LayoutBack.{Calls, joined_read}
use Rattle.layout.proofs.Steps.{then_goes_on, then_ends}
use Rattle.validity_period.specs.Validity.{period_size}
use Rattle.submit.specs.Layout.{Fields, format_in, bits, fields}
use Rattle.submit.specs.Submit.{header_in, submitted, format, submit}
use Rattle.submit.specs.declared.SmsSubmit.{SmsSubmit}

-- ---- the layout in two: all fields; and what must hold of the header in them, with the record

abbrev all : Format Fields
all =
    message 1 bits λ first. one λ mr. field address λ da. one λ pid. one λ dcs. field (octets any (period_size (format_in first))) λ vp. one λ udl. field (user_data (data_octets (coding_of dcs) udl)) λ ud.
    done (record { first = first; mr = mr; da = da; pid = pid; dcs = dcs; vp = vp; udl = udl; ud = ud })

abbrev fitting : Fields → Format SmsSubmit
fitting x = require HeaderNotWhole (leb (header_in x) (length x.ud)) (require HeaderPassesCount (in_count (coding_of x.dcs) x.udl (header_in x)) (done (submitted x)))

in_two : format ≡ (all then fitting)
unfolding format fields
in_two = refl

-- the record, or what is said of the header
abbrev pub ends : {R : Type 0} → Said Unit → R → ℕ → Reached R
ends (Ok x) r n = reached r n
ends (Err why) r n = halted why

ends_if : {R : Type 0} (a b : Bool) (r : R) (s : List ℕ) (at : ℕ)
    → read_from (require HeaderNotWhole a (require HeaderPassesCount b (done r))) s at ≡ ends (found ((HeaderNotWhole unless a) ∷ (HeaderPassesCount unless b) ∷ [])) r at
unfolding read_from reading
ends_if true true r s at = refl
ends_if true false r s at = refl
ends_if false b r s at = refl

-- ---- octets

module _ (x : Fields) (kept_is : kept bits x.first ≡ x.first) (mti : message_type x.first ≡ 1) (whole : address_size x.da ≡ length x.da) (again : canonical_address x.da ≡ x.da)
    (period : period_size (format_in x.first) ≡ length x.vp) (size_is : data_octets (coding_of x.dcs) x.udl ≡ length x.ud) where
  abbrev string : List ℕ
  string = x.first ∷ x.mr ∷ x.da ++ x.pid ∷ x.dcs ∷ x.vp ++ x.udl ∷ x.ud

  abbrev one_octet : ℕ → Field
  one_octet o = stands_as octet (o ∷ [])

  abbrev its_fields : List Field
  its_fields =
      stands_as (first bits) (x.first ∷ []) ∷ one_octet x.mr ∷ stands_as address x.da ∷ one_octet x.pid ∷ one_octet x.dcs ∷ stands_as (octets any (period_size (format_in x.first))) x.vp ∷ one_octet x.udl
      ∷ stands_as (user_data (data_octets (coding_of x.dcs) x.udl)) x.ud ∷ []

  called : Calls all its_fields x
  called = (refl, ap (λ (f : ℕ). f ∷ []) kept_is, (eq-eqb _ 1 mti, (refl, refl, (whole, again, (refl, refl, (refl, refl, (period, refl, (refl, refl, (size_is, refl, refl)))))))))

  -- all fields are read, to the end
  all_read : read_from all string 0 ≡ reached x (length string)
  unfolding read_from
  all_read =
      let is : string ≡ joined its_fields = rw (append-nil, append_assoc) in
      ap (λ (s : List ℕ). read_from all s 0) is ∙ joined_read x all its_fields called 0 ∙ ap (reached x) (zero-add _ ∙ ap length (sym is))

  -- what is said of the header
  abbrev said : Said Unit
  said = found ((HeaderNotWhole unless leb (header_in x) (length x.ud)) ∷ (HeaderPassesCount unless in_count (coding_of x.dcs) x.udl (header_in x)) ∷ [])

  -- the record and the number of octets, or 17 or 18
  pub written_read : read submit string ≡ ends said (submitted x) (length string)
  unfolding read
  written_read = ap (λ (l : Format SmsSubmit). read_from l string 0) in_two ∙ then_goes_on string all 0 all_read fitting ∙ ends_if _ _ (submitted x) string (length string)

  -- each proper beginning is refused with 2, whatever is said of the header
  pub written_cut : (k : ℕ) → k < length string → read submit (take k string) ≡ halted OctetsEnd
  unfolding read
  written_cut k h =
      ap (λ (l : Format SmsSubmit). read_from l (take k string) 0) in_two ∙ then_ends (take k string) all 0 (cut_read (plain all) (λ f mr da pid dcs vp udl ud. tt) string all_read k h) fitting
