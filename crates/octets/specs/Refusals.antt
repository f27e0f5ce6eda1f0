-- The refusals, by the number that document 01 gives each ("Refused, by number"), and document 02 from 24 on.
use Rattle.std.specs.Prelude.{ℕ, List, ◌++◌, ◌≡◌, refl}
use Rattle.std.specs.Fmt.{decimal, digits}
use Rattle.octets.specs.Texts.{codes}
use Rattle.octets.specs.declared.Refusal.{Refusal}
use Rattle.octets.specs.declared.Refusal.TheVariants.{LengthTooLarge, OctetsEnd, WrongMessageType, UdhiTooLarge, ValidityFormatDisagrees, NoDestination, UserDataLengthDisagrees, UserDataTooLong, NumberTypeOrPlanTooLarge, NotInAlphabet, AddressTooLong, NotATime, IndicatorDisagrees, IndicatorExtended, UserDataWithoutLength, ParametersWithoutIndicator, HeaderNotWhole, HeaderPassesCount, TooFewOctets, CalendarOutOfRange, ZoneOutOfRange, TooManySeptets, OutputTooShort, ElementPassesHeader, ElementsTooLong, TooManyParts, StoreFull, NotAPart, OutcomeDisagrees, OddOctets, InNeitherTable, AlphanumericRelayAddress, TooManyRecords, RecipientNotPrintable, StringsTooLarge, BlockNotWhole}

abbrev pub refusal_number : Refusal → ℕ
-- a record's length field passes its array, or a text reader's count passes 255
refusal_number LengthTooLarge = 1
-- the octets end inside a field
refusal_number OctetsEnd = 2
-- TP-MTI isn't the kind's
refusal_number WrongMessageType = 3
-- SUBMIT-REPORT's UDHI field passes 1
refusal_number UdhiTooLarge = 4
-- VPF disagrees with the validity period held
refusal_number ValidityFormatDisagrees = 5
-- SUBMIT has no destination
refusal_number NoDestination = 6
-- user data length disagrees with UDL and DCS
refusal_number UserDataLengthDisagrees = 7
-- user data pass the limit of the writer: 140 octets in the ported writers, what the standard's tables have in those to the standard
refusal_number UserDataTooLong = 8
-- type of number passes 7 or plan passes 15
refusal_number NumberTypeOrPlanTooLarge = 9
-- a character isn't in the alphabet used, or isn't UTF-8
refusal_number NotInAlphabet = 10
-- the address value passes 10 octets
refusal_number AddressTooLong = 11
-- a time isn't 14 hexadecimal digits
refusal_number NotATime = 12
-- indicator and parameters held disagree
refusal_number IndicatorDisagrees = 13
-- indicator bit 7 is set in writing
refusal_number IndicatorExtended = 14
-- user data are held without UDL
refusal_number UserDataWithoutLength = 15
-- STATUS-REPORT holds parameters or user data without indicator
refusal_number ParametersWithoutIndicator = 16
-- the header is empty, longer than the data, or, in packing, not as long as its first octet says
refusal_number HeaderNotWhole = 17
-- the header takes more septets than counted
refusal_number HeaderPassesCount = 18
-- octets are too few for fill bits and septets
refusal_number TooFewOctets = 19
-- a calendar value is out of range
refusal_number CalendarOutOfRange = 20
-- the zone passes 79 either way
refusal_number ZoneOutOfRange = 21
-- header and text take more than 255 septets
refusal_number TooManySeptets = 22
-- a lent output is too short
refusal_number OutputTooShort = 23
-- an element passes the header's end, or a lone identifier octet is left
refusal_number ElementPassesHeader = 24
-- elements to be written need more than 255 octets after the first
refusal_number ElementsTooLong = 25
-- no cutting into at most 255 parts exists
refusal_number TooManyParts = 26
-- a new message comes while 16 are open
refusal_number StoreFull = 27
-- the user data are no part of a message in parts, or disagree with what is held of it
refusal_number NotAPart = 28
-- the outcome is RP-ERROR without a cause, or RP-ACK with one
refusal_number OutcomeDisagrees = 29
-- the UCS2 has an odd number of octets
refusal_number OddOctets = 30
-- a character is in neither table of the alphabet
refusal_number InNeitherTable = 31
-- a relay address to be written has type of number 5
refusal_number AlphanumericRelayAddress = 32
-- more than 99 records
refusal_number TooManyRecords = 33
-- a recipient passes 20 octets or holds one outside 20 to 7E
refusal_number RecipientNotPrintable = 34
-- more than 1,000 strings, or one longer than 255 octets
refusal_number StringsTooLarge = 35
-- a block ends early, has octets left over, or has a number too large or with a needless group
refusal_number BlockNotWhole = 36

-- a refusal as it is printed: `refused` and its number
unfoldable pub refused_text : Refusal → List ℕ
refused_text r = codes "refused " ++ decimal (refusal_number r)

known_refused : (refused_text OctetsEnd ≡ codes "refused 2") × (refused_text BlockNotWhole ≡ codes "refused 36")
unfolding codes refused_text digits
known_refused = (refl, refl)
