-- Steps of a reader: what a format comes to from a place on, by what the methods that read at the place answer. A reader's proof takes one step for each field.
-- Assumes nothing.
use Prim.Native.Nat.{ℕ, ◌+◌, ◌≤◌, ◌<◌}
use mathlib.Core.Path.{◌≡◌, refl, sym, ap, ◌∙◌}
use mathlib.Core.Bool.{Bool, true, false, not, ◌&&◌}
use mathlib.Core.List.{List, [], ◌∷◌}
use native.Mathlib.Nat.{add-zero}
use native.Mathlib.Omega.{arith}
use borrow.Author.Tests.{eq-eqb, ne_eqb}
use lib.Bits.{bit_and}
use lib.Dec.{eqb, leb}
use lib.ListN.{length, get_or, take, drop, length-drop, drop_of_length-le}
use lib.Seq.{drop-cons, drop-drop, get_or-take, get_or-drop}
use Rattle.octets.specs.Answers.{Said}
use Rattle.std.specs.Prelude.{if◌then◌else◌, Ok, Err}
use Rattle.octets.specs.Places.{octet_at, span_at}
use Rattle.octets.specs.declared.Place.{Place}
use Rattle.octets.specs.declared.Refusal.{Refusal}
use Rattle.octets.specs.declared.Refusal.TheVariants.{OctetsEnd, WrongMessageType}
use Rattle.octets.proofs.Places.{given, start, octet_read, octet_ended, span_there, span_inside, span_ended}
use Rattle.address.specs.Address.{address_size, canonical_address}
use Rattle.address.specs.Internal.{address_span}
use Rattle.layout.specs.Layout.{Limit, Kind, first, octet, octets, address, indicator, message_type, kept, indicator_size, size, canon, cut, behind, Format, field, require, end_or, done, ◌then◌, message, Reached, reached, halted, after, reading, read_from, stopping, stops, read}
use Rattle.layout.specs.Internal.{leading_at, indicator_at}
use Rattle.layout.proofs.Fields.{indicator_positive}
use Rattle.layout.proofs.FirstOctet.{descends, kept_type}
use Rattle.layout.proofs.Laws.{goes_on, ends}

-- ---- what holds or fails, and the format's end

module _ {R : Type 0} (s : List ℕ) (at : ℕ) where
  pub require_holds : {holds : Bool} → holds ≡ true → (why : Refusal) (format : Format R) → read_from (require why holds format) s at ≡ read_from format s at
  unfolding read_from reading
  require_holds e why format = rw e

  pub require_fails : {holds : Bool} → holds ≡ false → (why : Refusal) (format : Format R) → read_from (require why holds format) s at ≡ halted why
  unfolding read_from reading
  require_fails e why format = rw e

  pub done_reached : (r : R) → read_from (done r) s at ≡ reached r at
  unfolding read_from reading
  done_reached r = refl

module _ {R : Type 0} (s : List ℕ) (at : ℕ) (format : Format R) (next : List ℕ → Format R) where
  pub end_reached : length s ≤ at → read_from (end_or format next) s at ≡ read_from format s at
  unfolding read_from reading
  end_reached h = rw (drop_of_length-le s h)

  pub end_not_reached : at < length s → read_from (end_or format next) s at ≡ read_from (field indicator next) s at
  unfolding read_from reading
  end_not_reached h = rw (drop-cons s at 0 h)

-- ---- a field that is whole, and one that isn't

module _ (s : List ℕ) (p : Place) where
  there : {R : Type 0} (k : Kind) (next : List ℕ → Format R) (q : Place) → size k (drop p.at s) ≤ length (drop p.at s) → q.at ≡ p.at + size k (drop p.at s)
      → read_from (field k next) s p.at ≡ read_from (next (canon k (cut k (drop p.at s)))) s q.at
  unfolding read_from reading
  there k next q h e = goes_on _ k (drop p.at s) p.at h ∙ rw (e, drop-drop)

  short : {R : Type 0} (k : Kind) (next : List ℕ → Format R) → length (drop p.at s) < size k (drop p.at s) → read_from (field k next) s p.at ≡ halted OctetsEnd
  unfolding read_from reading
  short k next h = ends _ k (drop p.at s) p.at h

  -- ---- by the answer of `Place::octet`

  module _ {b : ℕ} {q : Place} (e : octet_at s p ≡ Ok (b, q)) where
    one_there : {R : Type 0} (k : Kind) (next : List ℕ → Format R) → ((f : List ℕ) → size k f ≡ 1) → read_from (field k next) s p.at ≡ read_from (next (canon k (b ∷ []))) s q.at
    one_there k next n =
        let (h, is, to) = octet_read s p e in
        let m = n (drop p.at s) in
        there k next q (rw (m, length-drop) (omega arith)) (rw m to) ∙ rw (m, drop-cons s p.at 0 h, is)

    pub octet_goes_on : {R : Type 0} (next : List ℕ → Format R) → read_from (field octet next) s p.at ≡ read_from (next (b ∷ [])) s q.at
    octet_goes_on next = one_there octet next (λ f. refl)

    -- a first octet has the kind's MTI, or another
    module _ {R : Type 0} (mti : ℕ) (bits : List ℕ) (d : descends bits ≡ true) (next : ℕ → Format R) where
      pub message_goes_on : message_type b ≡ mti → read_from (message mti bits next) s p.at ≡ read_from (next (kept bits b)) s q.at
      message_goes_on m = one_there (first bits) _ (λ f. refl) ∙ require_holds s q.at (eq-eqb _ mti (kept_type bits d b ∙ m)) WrongMessageType _

      pub message_differs : (message_type b ≡ mti → ⊥) → read_from (message mti bits next) s p.at ≡ halted WrongMessageType
      message_differs m = one_there (first bits) _ (λ f. refl) ∙ require_fails s q.at (ne_eqb _ mti (λ h. m (sym (kept_type bits d b) ∙ h))) WrongMessageType _

  module _ (e : octet_at s p ≡ Err OctetsEnd) where
    one_short : {R : Type 0} (k : Kind) (next : List ℕ → Format R) → ((f : List ℕ) → size k f ≡ 1) → read_from (field k next) s p.at ≡ halted OctetsEnd
    one_short k next n = short k next (rw (n (drop p.at s), length-drop) (omega (arith, octet_ended s p e)))

    pub octet_ends : {R : Type 0} (next : List ℕ → Format R) → read_from (field octet next) s p.at ≡ halted OctetsEnd
    octet_ends next = one_short octet next (λ f. refl)

    pub message_ends : {R : Type 0} (mti : ℕ) (bits : List ℕ) (next : ℕ → Format R) → read_from (message mti bits next) s p.at ≡ halted OctetsEnd
    message_ends mti bits next = one_short (first bits) _ (λ f. refl)

  -- ---- by the answer of `Place::span`

  whole_there : {R : Type 0} {a : ℕ} {q : Place} (k : Kind) → span_at s p (size k (drop p.at s)) ≡ Ok (a, q) → (next : List ℕ → Format R) → read_from (field k next) s p.at ≡ read_from (next (canon k (cut k (drop p.at s)))) s q.at
  whole_there {q = q} k e next = let (h, a, to) = span_there s p _ e in there k next q h to

  whole_short : {R : Type 0} {why : Refusal} (k : Kind) → span_at s p (size k (drop p.at s)) ≡ Err why → (next : List ℕ → Format R) → read_from (field k next) s p.at ≡ halted OctetsEnd
  whole_short k e next = short k next (span_ended s p _ e)

  module _ (n : ℕ) where
    pub span_goes_on : {R : Type 0} {a : ℕ} {q : Place} → span_at s p n ≡ Ok (a, q) → (limit : Limit) (next : List ℕ → Format R) → read_from (field (octets limit n) next) s p.at ≡ read_from (next (take n (drop p.at s))) s q.at
    span_goes_on e limit next = whole_there (octets limit n) e next

    pub span_ends : {R : Type 0} {why : Refusal} → span_at s p n ≡ Err why → (limit : Limit) (next : List ℕ → Format R) → read_from (field (octets limit n) next) s p.at ≡ halted OctetsEnd
    span_ends e limit next = whole_short (octets limit n) e next

  -- ---- by the answer of `address_span`

  pub address_goes_on : {R : Type 0} {a : ℕ} {q : Place} → address_span s p ≡ Ok (a, q) → (next : List ℕ → Format R) → read_from (field address next) s p.at ≡ read_from (next (canonical_address (cut address (drop a s)))) s q.at
  unfolding address_span span_at
  address_goes_on e next = whole_there address e next ∙ rw (span_there s p _ e).1

  pub address_ends : {R : Type 0} → address_span s p ≡ Err OctetsEnd → (next : List ℕ → Format R) → read_from (field address next) s p.at ≡ halted OctetsEnd
  unfolding address_span span_at
  address_ends e next = whole_short address e next

  -- it starts at the place
  pub address_starts : {a : ℕ} {q : Place} → address_span s p ≡ Ok (a, q) → a ≡ p.at
  unfolding address_span span_at
  address_starts e = (span_there s p _ e).1

  -- it lies in the string, from a place that does
  pub address_inside : {a : ℕ} {q : Place} → address_span s p ≡ Ok (a, q) → p.at ≤ length s → (a + address_size (drop a s) ≤ length s) × (q.at ≤ length s)
  unfolding address_span span_at
  address_inside {a} e h =
      let is : a ≡ p.at = (span_there s p _ e).1 in
      let (x, y) = span_inside s p _ e h in
      (rw is (rw is at x), y)

  -- ---- by the answer of a method that reads an indicator

  pub indicator_goes_on : {R : Type 0} {b : ℕ} {q : Place} → indicator_at s p ≡ Ok (b, q) → (next : List ℕ → Format R) → read_from (field indicator next) s p.at ≡ read_from (next (b ∷ [])) s q.at
  unfolding indicator_at
  indicator_goes_on {b = b} {q} e next = by (span_at s p (indicator_size (drop p.at s))) refl e
    where
      by : (r : Said (ℕ × Place)) → span_at s p (indicator_size (drop p.at s)) ≡ r → leading_at s r ≡ Ok (b, q) → read_from (field indicator next) s p.at ≡ read_from (next (b ∷ [])) s q.at
      by (Ok (a, to)) d e =
          let (h, is, w) = span_there s p _ d in
          let at : p.at + 0 ≡ p.at = add-zero p.at in
          let first : get_or s a 0 ≡ b = ap (λ z. z.0) (given e) in
          let last : to ≡ q = ap (λ z. z.1) (given e) in
          whole_there indicator d next ∙ cc (get_or-take (indicator_size (drop p.at s)) (drop p.at s) 0 0 (indicator_positive (drop p.at s)), get_or-drop p.at s 0 0)
      by (Err why) d e = let z : ◌≡◌ {A = ℕ} 0 1 = cc in absurd (omega arith)

  pub indicator_ends : {R : Type 0} {why : Refusal} → indicator_at s p ≡ Err why → (next : List ℕ → Format R) → read_from (field indicator next) s p.at ≡ halted OctetsEnd
  unfolding indicator_at
  indicator_ends {why = why} e next = by (span_at s p (indicator_size (drop p.at s))) refl e
    where
      by : (r : Said (ℕ × Place)) → span_at s p (indicator_size (drop p.at s)) ≡ r → leading_at s r ≡ Err why → read_from (field indicator next) s p.at ≡ halted OctetsEnd
      by (Ok there) d e = let z : ◌≡◌ {A = ℕ} 0 1 = cc in absurd (omega arith)
      by (Err w) d e = whole_short indicator d next

-- ---- a layout that the first octet may stop

pub stops_by : {b : ℕ} {q : Place} (mti : ℕ) (s : List ℕ) → octet_at s start ≡ Ok (b, q) → stops mti s ≡ (eqb (message_type b) mti && not (eqb (bit_and b 0xbc) 0))
unfolding stops
stops_by mti [] e = absurd (omega (arith, (octet_read [] start e).0))
stops_by mti (x ∷ s) e = rw (octet_read (x ∷ s) start e).1

pub stops_none : (mti : ℕ) (s : List ℕ) → octet_at s start ≡ Err OctetsEnd → stops mti s ≡ false
unfolding stops
stops_none mti [] e = refl
stops_none mti (x ∷ s) e = absurd (omega (arith, octet_ended (x ∷ s) start e))

module _ {R : Type 0} (mti : ℕ) (stands : List ℕ) (z : R) (bits : List ℕ) (d : descends bits ≡ true) (next : ℕ → Format R) (s : List ℕ) where
  abbrev stopping_read : Reached R
  stopping_read = read (stopping mti stands z (message mti bits next)) s

  pub stopping_ends : octet_at s start ≡ Err OctetsEnd → stopping_read ≡ halted OctetsEnd
  unfolding read
  stopping_ends e = rw (stops_none mti s e) (message_ends s start e mti bits next)

  module _ {b : ℕ} {q : Place} (e : octet_at s start ≡ Ok (b, q)) where
    pub stopping_differs : (message_type b ≡ mti → ⊥) → stopping_read ≡ halted WrongMessageType
    unfolding read
    stopping_differs m = rw (stops_by mti s e, ne_eqb (message_type b) mti m) (message_differs s start e mti bits d next m)

    module _ (m : message_type b ≡ mti) where
      pub stopping_stops : (bit_and b 0xbc ≡ 0 → ⊥) → stopping_read ≡ reached z 1
      unfolding read
      stopping_stops h = rw (stops_by mti s e, eq-eqb (message_type b) mti m, ne_eqb (bit_and b 0xbc) 0 h)

      pub stopping_goes_on : bit_and b 0xbc ≡ 0 → stopping_read ≡ read_from (next (kept bits b)) s q.at
      unfolding read
      stopping_goes_on h = rw (stops_by mti s e, eq-eqb (message_type b) mti m, eq-eqb (bit_and b 0xbc) 0 h) (message_goes_on s start e mti bits d next m)

-- ---- a format and what follows it are read one after the other

abbrev pub go_on : {A R : Type 0} → Reached A → (A → ℕ → Reached R) → Reached R
go_on (reached a at) next = next a at
go_on (halted why) next = halted why

module _ {A R : Type 0} (s : List ℕ) (next : A → Format R) where
  abbrev on : Reached A → Reached R
  on x = go_on x (λ a at. read_from (next a) s at)

  branch : (b : Bool) (x : Reached A) (why : Refusal) → (if b then on x else halted why) ≡ on (if b then x else halted why)
  branch true x why = refl
  branch false x why = refl

  after_follows : (k : Kind) (x : List ℕ → List ℕ → ℕ → Reached A) (y : List ℕ → List ℕ → ℕ → Reached R) (left : List ℕ) (at : ℕ)
      → y (canon k (cut k left)) (behind k left) (at + size k left) ≡ on (x (canon k (cut k left)) (behind k left) (at + size k left)) → after k y left at ≡ on (after k x left at)
  unfolding after
  after_follows k x y left at e = rw e (branch (leb (size k left) (length left)) _ OctetsEnd)

  behind_is : (k : Kind) (left : List ℕ) (at : ℕ) → left ≡ drop at s → behind k left ≡ drop (at + size k left) s
  behind_is k left at l = ap (drop (size k left)) l ∙ drop-drop (size k left) at s

  follows : (format : Format A) (left : List ℕ) (at : ℕ) → left ≡ drop at s → reading (format then next) left at ≡ on (reading format left at)
  unfolding reading read_from
  follows (field k more) left at l = after_follows k _ _ left at (follows (more (canon k (cut k left))) (behind k left) (at + size k left) (behind_is k left at l))
  follows (require why holds format) left at l = rw (follows format left at l) (branch holds _ why)
  follows (end_or format more) [] at l = follows format [] at l
  follows (end_or format more) (x ∷ left) at l =
      after_follows indicator _ _ (x ∷ left) at (follows (more (canon indicator (cut indicator (x ∷ left)))) (behind indicator (x ∷ left)) (at + size indicator (x ∷ left)) (behind_is indicator (x ∷ left) at l))
  follows (done a) left at l = rw l

module _ {A R : Type 0} (s : List ℕ) (format : Format A) (at : ℕ) where
  pub one_by_one : (next : A → Format R) → read_from (format then next) s at ≡ go_on (read_from format s at) (λ a at. read_from (next a) s at)
  unfolding read_from
  one_by_one next = follows s next format (drop at s) at refl

  pub then_goes_on : {a : A} {to : ℕ} → read_from format s at ≡ reached a to → (next : A → Format R) → read_from (format then next) s at ≡ read_from (next a) s to
  then_goes_on e next = one_by_one next ∙ rw e

  pub then_ends : {why : Refusal} → read_from format s at ≡ halted why → (next : A → Format R) → read_from (format then next) s at ≡ halted why
  then_ends e next = one_by_one next ∙ rw e
