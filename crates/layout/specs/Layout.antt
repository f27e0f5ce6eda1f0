-- Layouts (document 01, "Messages") as data: the strings that a layout generates, their canonical octets, and the reader that it describes.
use Rattle.std.specs.Prelude.{ℕ, suc, ◌+◌, ◌*◌, ◌/◌, ◌%◌, ◌^◌, ◌≡◌, refl, Bool, true, false, not, ◌&&◌, ◌||◌, List, [], ◌∷◌, ◌++◌, ◌⊎◌, leb, ltb, eqb, length, get_or, take, drop, if◌then◌else◌, Err, Ok}
use Rattle.std.specs.Int.Bits.{bit_and}
use Rattle.octets.specs.Answers.{Said}
use Rattle.octets.specs.Choice.{flag}
use Rattle.octets.specs.declared.Refusal.{Refusal}
use Rattle.octets.specs.declared.Refusal.TheVariants.{OctetsEnd, WrongMessageType}
use Rattle.address.specs.Address.{address_size, canonical_address}

-- ---- kinds of field

-- how many octets of a field a writer takes: any number, or at most so many
pub data Limit : Type 0 where
  any : Limit
  up_to : ℕ → Limit

pub data Kind : Type 0 where
  -- the first octet: TP-MTI in bits 1 and 0 (TS 23.040 §9.2.3.1), and the bits that the layout names
  first : List ℕ → Kind
  -- an octet that stands as it is
  octet : Kind
  -- so many octets that stand as they are
  octets : Limit → ℕ → Kind
  -- an address (§9.1.2.5)
  address : Kind
  -- TP-Parameter-Indicator with its extension octets (§9.2.3.27)
  indicator : Kind

-- TP-User-Data (§9.2.3.24) of so many octets
abbrev pub user_data : ℕ → Kind
user_data n = octets (up_to 140) n

-- bit b of an octet
abbrev pub bit : ℕ → ℕ → ℕ
bit b x = x / 2 ^ b % 2

abbrev pub is_set : ℕ → ℕ → Bool
is_set b x = eqb (bit b x) 1

-- TP-MTI of a first octet
abbrev pub message_type : ℕ → ℕ
message_type x = x % 4

-- TP-MTI and the bits of the list as they are in x, all other bits 0
unfoldable pub kept : List ℕ → ℕ → ℕ
kept [] x = message_type x
kept (b ∷ bits) x = bit b x * 2 ^ b + kept bits x

-- a first octet of TP-MTI and flags, each with its bit
unfoldable pub first_octet : ℕ → List (ℕ × Bool) → ℕ
first_octet mti [] = mti
first_octet mti ((b, on) ∷ flags) = flag on (2 ^ b) + first_octet mti flags

-- MTI 1 with bits 6 and 2, and not 5, is 45; with bit 6 named, of FE what stays is 42
known_firsts : (first_octet 1 ((6, true) ∷ (5, false) ∷ (2, true) ∷ []) ≡ 0x45) × (kept (6 ∷ []) 0xfe ≡ 0x42)
unfolding first_octet kept
known_firsts = (refl, refl)

-- the number of octets of an indicator: while bit 7 is set in it or in its last extension octet, one more follows
unfoldable pub indicator_size : List ℕ → ℕ
indicator_size [] = 1
indicator_size (x ∷ s) = if is_set 7 x then suc (indicator_size s) else 1

-- the number of octets of the field at the start of s
abbrev pub size : Kind → List ℕ → ℕ
size (first bits) s = 1
size octet s = 1
size (octets limit n) s = n
size address s = address_size s
size indicator s = indicator_size s

-- f is one whole field, with the length that its own octets give
abbrev pub Whole : Kind → List ℕ → Type 0
Whole k f = size k f ≡ length f

-- the first octet of a field
abbrev pub leading : List ℕ → ℕ
leading f = get_or f 0 0

-- what a field gives to document 01's canonical octets: bits that the layout doesn't name are 0, an address is written afresh, extension octets are gone
abbrev pub canon : Kind → List ℕ → List ℕ
canon (first bits) f = kept bits (leading f) ∷ []
canon octet f = f
canon (octets limit n) f = f
canon address f = canonical_address f
canon indicator f = leading f ∷ []

-- a field by its kind and its canonical octets
pub record Field : Type 0 where
  pub kind : Kind
  pub stands : List ℕ

abbrev pub stands_as : Kind → List ℕ → Field
stands_as k c = record { kind = k; stands = c }

-- fields one after the other
abbrev pub joined : List Field → List ℕ
joined [] = []
joined (c ∷ cs) = c.stands ++ joined cs

-- ---- formats: fields in their order, with the record that they make

pub data Format (R : Type 0) : Type 0 where
  -- a field, and what follows it by its canonical octets
  field : Kind → (List ℕ → Format R) → Format R
  -- what must hold, with the refusal where it doesn't
  require : Refusal → Bool → Format R → Format R
  -- where the string ends here the first; else an indicator, and what follows it
  end_or : Format R → (List ℕ → Format R) → Format R
  -- the end: further octets may follow, and are dropped
  done : R → Format R

infixr 4 ◌then◌
-- a format, and what follows it by what it made
abbrev pub ◌then◌ : {A R : Type 0} → Format A → (A → Format R) → Format R
field k more then next = field k λ c. more c then next
require why holds format then next = require why holds (format then next)
end_or format more then next = end_or (format then next) λ c. more c then next
done a then next = next a

-- pieces of a format: a message's first octet, with its MTI; one octet; a time (§9.2.3.11)
abbrev pub message : {R : Type 0} → ℕ → List ℕ → (ℕ → Format R) → Format R
message mti bits next = field (first bits) λ f. require WrongMessageType (eqb (message_type (leading f)) mti) (next (leading f))

abbrev pub one : {R : Type 0} → (ℕ → Format R) → Format R
one next = field octet λ f. next (leading f)

abbrev pub time : {R : Type 0} → (List ℕ → Format R) → Format R
time next = field (octets any 7) next

-- ---- what a format generates (document 01's term)

-- s is a whole field and the rest, and P holds of the field's canonical octets and the rest
pub record Begins (k : Kind) (P : List ℕ → List ℕ → Type 0) (s : List ℕ) : Type 0 where
  pub front : List ℕ
  pub rest : List ℕ
  pub splits : s ≡ front ++ rest
  pub whole : Whole k front
  pub follows : P (canon k front) rest

-- s is the whole fields that the format calls for, one after the other, and anything after them
abbrev pub Generates : {R : Type 0} → Format R → List ℕ → Type 0
Generates (field k next) s = Begins k (λ c rest. Generates (next c) rest) s
Generates (require why holds format) s = (holds ≡ true) × Generates format s
Generates (end_or format next) s = ((s ≡ []) × Generates format []) ⊎ Begins indicator (λ c rest. Generates (next c) rest) s
Generates (done r) s = Unit

-- ---- the reader that a format describes

-- the record and the place reached, or the refusal
pub data Reached (R : Type 0) : Type 0 where
  reached : R → ℕ → Reached R
  halted : Refusal → Reached R

-- the field at the start of s, and what is behind it
abbrev pub cut : Kind → List ℕ → List ℕ
cut k s = take (size k s) s

abbrev pub behind : Kind → List ℕ → List ℕ
behind k s = drop (size k s) s

-- reading goes on after a field that is whole; else the octets end inside it
unfoldable pub after : {R : Type 0} → Kind → (List ℕ → List ℕ → ℕ → Reached R) → List ℕ → ℕ → Reached R
after k go s at = if leb (size k s) (length s) then go (canon k (cut k s)) (behind k s) (at + size k s) else halted OctetsEnd

-- what is read of the octets s that are left at a place
unfoldable pub reading : {R : Type 0} → Format R → List ℕ → ℕ → Reached R
reading (field k next) s at = after k (λ c rest to. reading (next c) rest to) s at
reading (require why holds format) s at = if holds then reading format s at else halted why
reading (end_or format next) [] at = reading format [] at
reading (end_or format next) (x ∷ s) at = after indicator (λ c rest to. reading (next c) rest to) (x ∷ s) at
reading (done r) s at = reached r at

-- what is read of a string from a place on
unfoldable pub read_from : {R : Type 0} → Format R → List ℕ → ℕ → Reached R
read_from format s at = reading format (drop at s) at

-- what a reader answers: what it gives of the record and of the place that was reached; or its refusal
abbrev pub answer : {R A : Type 0} → (R → ℕ → A) → Reached R → Said A
answer gives (reached r at) = Ok (gives r at)
answer gives (halted why) = Err why

-- the record, without what is given beside it
abbrev pub alone : {R : Type 0} → R → ℕ → R
alone r at = r

-- ---- canonical octets, and what can't be written

-- the fields of a string that the format generates
unfoldable pub fields_of : {R : Type 0} → Format R → List ℕ → List Field
fields_of (field k next) s = let c = canon k (cut k s) in stands_as k c ∷ fields_of (next c) (behind k s)
fields_of (require why holds format) s = fields_of format s
fields_of (end_or format next) [] = fields_of format []
fields_of (end_or format next) (x ∷ s) = let c = canon indicator (cut indicator (x ∷ s)) in stands_as indicator c ∷ fields_of (next c) (behind indicator (x ∷ s))
fields_of (done r) s = []

-- a canonical field that a writer refuses: user data past their limit, an address value past 10 octets (after length and type), an indicator with bit 7
abbrev pub past_limit : Kind → List ℕ → Bool
past_limit (first bits) c = false
past_limit octet c = false
past_limit (octets any n) c = false
past_limit (octets (up_to most) n) c = ltb most (length c)
past_limit address c = ltb 12 (length c)
past_limit indicator c = is_set 7 (leading c)

abbrev pub any_past_limit : List Field → Bool
any_past_limit [] = false
any_past_limit (c ∷ cs) = past_limit c.kind c.stands || any_past_limit cs

-- ---- layouts: a reader's format, and RP-ERROR's rule

pub data Layout (R : Type 0) : Type 0 where
  plain : Format R → Layout R
  -- RP-ERROR with this MTI: stopped, it stands as these octets and gives this record; else the format
  stopping : ℕ → List ℕ → R → Format R → Layout R

-- a layout of fields, and the records that they make
abbrev pub records : {A R : Type 0} → (A → R) → Layout A → Layout R
records make (plain format) = plain (format then λ x. done (make x))
records make (stopping mti stands x format) = stopping mti stands (make x) (format then λ y. done (make y))

-- document 01's stopped RP-ERROR, read no further: the first octet AND BC is nonzero, with the right MTI
unfoldable pub stops : ℕ → List ℕ → Bool
stops mti [] = false
stops mti (x ∷ s) = eqb (message_type x) mti && not (eqb (bit_and x 0xbc) 0)

unfoldable pub read : {R : Type 0} → Layout R → List ℕ → Reached R
read (plain format) s = read_from format s 0
read (stopping mti stands r format) s = if stops mti s then reached r 1 else read_from format s 0

abbrev pub Generated : {R : Type 0} → Layout R → List ℕ → Type 0
Generated (plain format) s = Generates format s
Generated (stopping mti stands r format) s = (stops mti s ≡ true) ⊎ ((stops mti s ≡ false) × Generates format s)

unfoldable pub canonical_of : {R : Type 0} → Layout R → List ℕ → List ℕ
canonical_of (plain format) s = joined (fields_of format s)
canonical_of (stopping mti stands r format) s = if stops mti s then stands else joined (fields_of format s)

-- the record that is read of s can't be written: a field is past its limit, or it is the stopped one of a kind that refuses it
unfoldable pub unwritable : {R : Type 0} → Layout R → Bool → List ℕ → Bool
unwritable (plain format) stopped s = any_past_limit (fields_of format s)
unwritable (stopping mti stands r format) stopped s = if stops mti s then stopped else any_past_limit (fields_of format s)
