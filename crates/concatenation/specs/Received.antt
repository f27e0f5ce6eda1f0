-- The messages of a text as their receiver has them: the octets taken apart, and each message read. The theorem `received` says that what was written is so.
use Rattle.std.specs.Prelude.{ℕ, ◌-◌, ◌*◌, ◌<◌, ◌≤◌, ◌≡◌, ◌⊎◌, List, [], map, length, get_or, take, drop, Ok}
use Rattle.std.proofs.Math.Option.{some}
use Rattle.octets.specs.Answers.{Said}
use Rattle.gsm7.specs.Reading.{text_of, text_given, unpacked}
use Rattle.gsm7.specs.Writing.{septets_of}
use Rattle.gsm7.specs.declared.decode.Unpacked.{Unpacked}
use Rattle.user_data_header.specs.Header.{header_given, unpacked_with_header}
use Rattle.user_data_header.specs.declared.UnpackedWithHeader.{UnpackedWithHeader}
use Rattle.concatenation.specs.Cutting.{joined, Taken}
use Rattle.concatenation.specs.Messages.{message, part_header}

-- message k, from 1 on: each but the last takes 141 octets
abbrev pub message_at : List ℕ → ℕ → List ℕ
message_at octets k = take 141 (drop (141 * (k - 1)) octets)

-- what `unpack_gsm7` gives of a message's user data, by its TP-UDL; and `unpack_gsm7_with_header`
abbrev pub read : List ℕ → Said Unpacked
read m = unpacked (drop 1 m) 0 (get_or m 0 0)

abbrev pub read_with_header : List ℕ → Said UnpackedWithHeader
read_with_header m = unpacked_with_header (drop 1 m) (get_or m 0 0)

-- up to 160 septets: one message, which reads as the text
pub record One (text ss octets : List ℕ) (messages : ℕ) : Type 0 where
  pub few : length ss ≤ 160
  pub one : messages ≡ 1
  pub is : octets ≡ message [] ss
  pub reads : read octets ≡ Ok (text_given text 0)

-- more: the parts of the cutting that is taken, each at its place, with its number from 1 to the total
pub record InParts (reference : ℕ) (text ss octets : List ℕ) (total : ℕ) : Type 0 where
  pub many : 160 < length ss
  pub parts : List (List ℕ)
  pub taken : Taken ss parts
  pub number : (length parts ≡ total) × (total ≤ 255)
  pub is : (k : ℕ) → 1 ≤ k → k ≤ total → message_at octets k ≡ message (part_header reference total k) (get_or parts (k - 1) [])
  -- each reads as its header and its text, none of it replaced: the septets of that text are the part's own
  pub reads : (k : ℕ) → 1 ≤ k → k ≤ total → read_with_header (message_at octets k) ≡ Ok (header_given (part_header reference total k) (text_of (get_or parts (k - 1) [])) 0)
  pub own : (k : ℕ) → 1 ≤ k → k ≤ total → septets_of (text_of (get_or parts (k - 1) [])) ≡ some (get_or parts (k - 1) [])
  -- and the texts joined are the text
  pub whole : joined (map text_of parts) ≡ text

-- one or the other, in at most 255 times 141 octets
pub record Received (reference : ℕ) (text octets : List ℕ) (messages : ℕ) : Type 0 where
  pub septets : (ss : List ℕ) × (septets_of text ≡ some ss)
  pub size : length octets ≤ 35955
  pub how : One text septets.0 octets messages ⊎ InParts reference text septets.0 octets messages
