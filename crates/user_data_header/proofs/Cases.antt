-- What reading and packing with a header give, case by case.
-- Assumes nothing.
use Rattle.std.specs.Prelude.{Ok, Err}
use Prim.Native.Nat.{ℕ, ◌-◌, ◌*◌, ◌<◌, ◌≤◌}
use mathlib.Core.Path.{◌≡◌, sym, ap, ◌∙◌}
use mathlib.Core.List.{List}
use native.Mathlib.Nat.{le_refl}
use borrow.Author.Tests.{lt-ltb, le-ltb, eq-eqb, ne_eqb}
use lib.ListN.{length, take, drop, replicate, length-drop}
use lib.Seq.{take_all}
use Rattle.octets.specs.Held.{holding}
use Rattle.octets.specs.declared.Held.{Held}
use Rattle.octets.proofs.Holding.{stored}
use Rattle.octets.specs.Lent.{refused, Wrote}
use Rattle.octets.specs.declared.Refusal.TheVariants.{LengthTooLarge, HeaderNotWhole, HeaderPassesCount, TooFewOctets}
use Rattle.septets.specs.Septets.{septets_in, octet_count, header_septets}
use Rattle.gsm7.specs.Reading.{text_of, replaced_in}
use Rattle.gsm7.specs.Packing.{packing}
use Rattle.gsm7.proofs.DecodingLaws.{text_fits}
use Rattle.user_data_header.specs.declared.UnpackedWithHeader.{UnpackedWithHeader}
use Rattle.user_data_header.specs.Header.{header_octets, header_given, unpacked_with_header, packing_with_header}

-- a header of h octets, which take s septets, as the calls tell them
module _ (os : List ℕ) (n : ℕ) where
  pub read_long : 255 < n → unpacked_with_header os n ≡ Err LengthTooLarge
  unfolding unpacked_with_header
  read_long many = rw (lt-ltb 255 n many)

  module _ (few : n ≤ 255) {h : ℕ} (h-is : h ≡ header_octets os) where
    pub read_short : length os < h → unpacked_with_header os n ≡ Err HeaderNotWhole
    unfolding unpacked_with_header
    read_short short = rw (le-ltb 255 n few, ← h-is, lt-ltb _ _ short)

    module _ (whole : h ≤ length os) {s : ℕ} (s-is : s ≡ header_septets h) where
      pub read_over : n < s → unpacked_with_header os n ≡ Err HeaderPassesCount
      unfolding unpacked_with_header
      read_over over = rw (le-ltb 255 n few, ← h-is, ← s-is, le-ltb _ _ whole, lt-ltb _ _ over)

      module _ (fits : s ≤ n) where
        pub read_few : length os - h < octet_count (s * 7 - h * 8) (n - s) → unpacked_with_header os n ≡ Err TooFewOctets
        unfolding unpacked_with_header
        read_few short = rw (le-ltb 255 n few, ← h-is, ← s-is, le-ltb _ _ whole, le-ltb _ _ fits, length-drop, lt-ltb _ _ short)

        pub read_done : octet_count (s * 7 - h * 8) (n - s) ≤ length os - h → let ss = septets_in (drop h os) (s * 7 - h * 8) (n - s) in unpacked_with_header os n ≡ Ok (header_given (take h os) (text_of ss) (replaced_in ss))
        unfolding unpacked_with_header
        read_done enough = rw (le-ltb 255 n few, ← h-is, ← s-is, le-ltb _ _ whole, le-ltb _ _ fits, length-drop, le-ltb _ _ enough)

        -- with the fill bits as a call tells them
        pub read_after : {fill : ℕ} {r : UnpackedWithHeader} → (let ss = septets_in (drop h os) fill (n - s) in r ≡ header_given (take h os) (text_of ss) (replaced_in ss)) → fill ≡ s * 7 - h * 8 → octet_count fill (n - s) ≤ length os - h → Ok r ≡ unpacked_with_header os n
        read_after given is enough = ap Ok (rw is at given) ∙ sym (read_done (rw is at enough))

module _ (header text : List ℕ) where
  pub packing_bad : (length header ≡ header_octets header → ⊥) → packing_with_header header text ≡ refused HeaderNotWhole
  unfolding packing_with_header
  packing_bad h = rw (ne_eqb _ _ h)

  pub packing_good : length header ≡ header_octets header → packing_with_header header text ≡ packing header text
  unfolding packing_with_header
  packing_good h = rw (eq-eqb _ _ h)

-- a header of h octets, and the text of what runs from there to the end, in their arrays
pub both_stored : (os : List ℕ) (h fill septets : ℕ) → h ≤ length os → septets ≤ 255 → {n m : ℕ} {header : Held 255} {array : List ℕ} → header ≡ holding 255 (take h os)
    → (let ss = septets_in (take (length os - h) (drop h os)) fill septets in Wrote 0 (text_of ss) (replicate 510 0) n array × (m ≡ replaced_in ss))
    → (let ss = septets_in (drop h os) fill septets in ◌≡◌ {A = UnpackedWithHeader} (record { header = header; text = record { octets = array; length = n }; replaced_escapes = m }) (header_given (take h os) (text_of ss) (replaced_in ss)))
unfolding header_given
both_stored os h fill septets whole few e w =
    let text = text_of (septets_in (drop h os) fill septets) in
    let to_end : take (length os - h) (drop h os) ≡ drop h os = take_all (length os - h) (drop h os) (rw length-drop (le_refl _)) in
    rw (e, ← to_end, stored 510 _ (rw to_end (text_fits (drop h os) fill septets few)) w.0, w.1)
