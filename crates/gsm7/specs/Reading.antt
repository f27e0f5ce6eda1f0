-- The text of septets (TS 23.038 §6.2.1.1), in UTF-8, and what the text readers answer.
use Rattle.std.specs.Prelude.{ℕ, ◌+◌, ◌/◌, ◌%◌, ◌≡◌, refl, List, [], ◌∷◌, ◌++◌, length, eqb, ltb, if◌then◌else◌, Ok, Err}
use Rattle.octets.specs.Answers.{Said}
use Rattle.octets.specs.Held.{holding}
use Rattle.octets.specs.declared.Refusal.TheVariants.{LengthTooLarge, TooFewOctets}
use Rattle.septets.specs.Septets.{number_of, lowest_digits, septets_in, octet_count}
use Rattle.gsm7.specs.declared.decode.Unpacked.{Unpacked}
use Rattle.gsm7.specs.Alphabet.{character, escaped, replaced, row_with}

-- the UTF-8 octets of a code point below 10000 (hexadecimal)
unfoldable pub utf8 : ℕ → List ℕ
utf8 c =
    if ltb c 0x80 then c ∷ []
    else if ltb c 0x800 then (192 + c / 64) ∷ (128 + c % 64) ∷ []
    else (224 + c / 4096) ∷ (128 + c / 64 % 64) ∷ (128 + c % 64) ∷ []

-- the text of septets: an escape takes the next septet with it; as the last one it is a space
unfoldable mutual
  pub text_of : List ℕ → List ℕ
  text_of [] = []
  text_of (s ∷ ss) =
      let escape = after_escape ss in
      let plain = utf8 (character s) ++ text_of ss in
      if eqb s 0x1b then escape else plain

  pub after_escape : List ℕ → List ℕ
  after_escape [] = utf8 0x20
  after_escape (t ∷ ss) = utf8 (escaped t) ++ text_of ss

-- the number of escapes among septets that lead to no character of the extension table: escape before escape counts 1, and so does one that is the last septet
unfoldable mutual
  pub replaced_in : List ℕ → ℕ
  replaced_in [] = 0
  replaced_in (s ∷ ss) =
      let escape = replaced_after ss in
      let plain = replaced_in ss in
      if eqb s 0x1b then escape else plain

  pub replaced_after : List ℕ → ℕ
  replaced_after [] = 1
  replaced_after (t ∷ ss) = replaced t + replaced_in ss

-- that of several texts together
unfoldable pub replaced_in_all : List (List ℕ) → ℕ
replaced_in_all [] = 0
replaced_in_all (text ∷ texts) = replaced_in text + replaced_in_all texts

-- a text in its array, with n escapes replaced
unfoldable pub text_given : List ℕ → ℕ → Unpacked
text_given text n = record { text = holding 510 text; replaced_escapes = n }

-- whether n septets are all there; 1 where they are more than 255, 19 where the octets are too few for them
unfoldable pub counted : List ℕ → ℕ → Said Unit
counted os n = if ltb 255 n then Err LengthTooLarge else if ltb (length os) (octet_count 0 n) then Err TooFewOctets else Ok tt

-- what reading n septets after f fill bits gives; 1 where they are more than 255, 19 where the octets are too few for them
unfoldable pub unpacked : List ℕ → ℕ → ℕ → Said Unpacked
unpacked os f n =
    if ltb 255 n then Err LengthTooLarge
    else if ltb (length os) (octet_count f n) then Err TooFewOctets
    else Ok (text_given (text_of (septets_in os f n)) (replaced_in (septets_in os f n)))

-- escape before escape and escape last are a space; the euro sign is E2 82 AC
known_texts : (text_of (0x1b ∷ 0x1b ∷ 0x41 ∷ []) ≡ 0x20 ∷ 0x41 ∷ []) × (text_of (0x41 ∷ 0x1b ∷ []) ≡ 0x41 ∷ 0x20 ∷ []) × (text_of (0x1b ∷ 0x65 ∷ []) ≡ 0xe2 ∷ 0x82 ∷ 0xac ∷ [])
unfolding text_of after_escape utf8 character escaped row_with
known_texts = (refl, refl, refl)

-- escape before escape, and 41; the last septet is an escape too; the euro sign; "A" after an escape, then alone
known_replaced : (replaced_in (0x1b ∷ 0x1b ∷ 0x41 ∷ []) ≡ 1) × (replaced_in (0x1b ∷ 0x1b ∷ 0x41 ∷ 0x1b ∷ []) ≡ 2) × (replaced_in (0x1b ∷ 0x65 ∷ []) ≡ 0) × (replaced_in (0x1b ∷ 0x41 ∷ 0x41 ∷ []) ≡ 1)
    × (replaced_in_all ((0x1b ∷ []) ∷ (0x1b ∷ 0x41 ∷ []) ∷ []) ≡ 2)
unfolding replaced_in replaced_after replaced_in_all replaced row_with
known_replaced = (refl, refl, refl, refl, refl)

-- 9B 0D is escape and escape, 9B 20 escape and 41, 9B 32 the euro sign; 256 septets; one septet and no octet
known_readings : (unpacked (0x9b ∷ 0x0d ∷ []) 0 2 ≡ Ok (text_given (0x20 ∷ []) 1)) × (unpacked (0x9b ∷ 0x20 ∷ []) 0 2 ≡ Ok (text_given (0x41 ∷ []) 1)) × (unpacked (0x9b ∷ 0x32 ∷ []) 0 2 ≡ Ok (text_given (0xe2 ∷ 0x82 ∷ 0xac ∷ []) 0))
    × (unpacked [] 0 256 ≡ Err LengthTooLarge) × (unpacked [] 0 1 ≡ Err TooFewOctets)
    × (counted [] 256 ≡ Err LengthTooLarge) × (counted (0x9b ∷ []) 2 ≡ Err TooFewOctets) × (counted (0x9b ∷ 0x0d ∷ []) 2 ≡ Ok tt)
unfolding number_of lowest_digits septets_in text_of after_escape replaced_in replaced_after utf8 character escaped replaced row_with counted unpacked
known_readings = (refl, refl, refl, refl, refl, refl, refl, refl)
