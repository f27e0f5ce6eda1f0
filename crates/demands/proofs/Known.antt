-- Every row of the table holds of the definitions.
-- Assumes nothing.
use mathlib.Core.Path.{refl}
use Rattle.octets.specs.Arrays.{pad}
use Rattle.octets.specs.Each.{each}
use Rattle.octets.specs.SemiOctets.{semi_octets, in_pairs}
use Rattle.octets.specs.Texts.{codes}
use Rattle.octets.specs.Held.{holding}
use Rattle.coding.specs.Coding.{coding_of, character_set}
use Rattle.septets.specs.Septets.{number_of, lowest_digits, septets_in, packed_septets}
use Rattle.gsm7.specs.Alphabet.{row_with, index_of, character, escaped, replaced}
use Rattle.gsm7.specs.Reading.{utf8, text_of, after_escape, replaced_in, replaced_after, unpacked, text_given}
use Rattle.gsm7.specs.Writing.{extended_code, code_of, same, two_octets, three_octets, first_character, before, starting_with, scan}
use Rattle.gsm7.specs.Packing.{packed_after, packing}
use Rattle.user_data_header.specs.Header.{unpacked_with_header, packing_with_header, header_given}
use Rattle.time.specs.Time.{time_octets, time_digits, hex_digit, hex_value}
use Rattle.time.specs.Timestamp.{timestamp, in_calendar}
use Rattle.address.specs.Writing.{digit_characters, digit_value, is_digit, address_octets, address_making}
use Rattle.address.specs.Address.{digit_character, without_f, value_text, text_in, address_in, address_with, canonical_address, encoding}
use Rattle.layout.specs.Layout.{read, read_from, reading, after, stops, kept, indicator_size}
use Rattle.parameters.specs.Layout.{parameters}
use Rattle.report.specs.Report.{format}
use Rattle.deliver_report.specs.DeliverReport.{deliver_reported}
use Rattle.demands.specs.Rows.{Holds, All, none, ◌also◌, rows}

pub known : All rows
unfolding Holds coding_of character_set number_of lowest_digits septets_in packed_septets row_with index_of character escaped replaced utf8 text_of after_escape replaced_in replaced_after unpacked text_given extended_code code_of same two_octets three_octets first_character before starting_with scan packed_after packing unpacked_with_header packing_with_header header_given codes each time_octets time_digits timestamp in_calendar hex_digit hex_value semi_octets in_pairs digit_characters digit_character digit_value is_digit without_f value_text text_in address_in address_with address_octets canonical_address address_making encoding pad holding read read_from reading after stops kept indicator_size parameters format deliver_reported
known = refl also refl also refl also refl also refl also refl also refl also refl also refl also refl also refl also refl also refl also refl also refl also refl also refl also refl also refl also refl also none
