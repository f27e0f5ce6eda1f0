-- The defaults are what stands with a refusal: no text, nothing replaced, and counts of 0.
-- Assumes nothing.
use mathlib.Core.Path.{◌≡◌}
use mathlib.Core.List.{[]}
use Rattle.octets.specs.Arrays.{pad}
use Rattle.octets.specs.Held.{holding}
use Rattle.gsm7.specs.Reading.{text_given}
use Rattle.gsm7.specs.contracts.decode.UnpackedDefault.TheImpl.{ghosts as ghosts_unpacked}
use Rattle.gsm7.specs.contracts.packing.PackedDefault.TheImpl.{ghosts as ghosts_packed}
use Rattle.gsm7.specs.declared.decode.Unpacked.{Unpacked}
use Rattle.gsm7.specs.declared.packing.Packed.{Packed}

pub default_text : (u : Unpacked) → ghosts_unpacked.is_default u → u ≡ record { text = record { octets = pad 510 []; length = 0 }; replaced_escapes = 0 }
unfolding holding text_given
default_text u d = d

pub default_counts : (p : Packed) → ghosts_packed.is_default p → p ≡ record { octets = 0; septets = 0 }
default_counts p d = λ i. record { octets = d.0 i; septets = d.1 i }
