-- The default of what is read is what stands with a refusal: no header, no text, and nothing replaced.
-- Assumes nothing.
use mathlib.Core.Path.{◌≡◌}
use mathlib.Core.List.{[]}
use Rattle.octets.specs.Arrays.{pad}
use Rattle.octets.specs.Held.{holding}
use Rattle.user_data_header.specs.Header.{header_given}
use Rattle.user_data_header.specs.contracts.UnpackedWithHeaderDefault.TheImpl.{ghosts}
use Rattle.user_data_header.specs.declared.UnpackedWithHeader.{UnpackedWithHeader}

pub default_header : (u : UnpackedWithHeader) → ghosts.is_default u → u ≡ record { header = record { octets = pad 255 []; length = 0 }; text = record { octets = pad 510 []; length = 0 }; replaced_escapes = 0 }
unfolding holding header_given
default_header u d = d
