-- What a DELIVER that was read is like.
-- Assumes nothing.
use Prim.Native.Nat.{ℕ, ◌≤◌}
use mathlib.Core.Path.{◌≡◌, sym, ap, ◌∙◌}
use mathlib.Core.List.{List}
use native.Mathlib.Omega.{arith}
use lib.ListN.{length}
use Rattle.octets.specs.Each.{Octets}
use Rattle.octets.specs.Held.{holding, filled}
use Rattle.octets.proofs.Holding.{filled_holding}
use Rattle.coding.specs.Coding.{coding_of, data_octets}
use Rattle.coding.proofs.Laws.{data_at_most}
use Rattle.address.proofs.Laws.{canonical_reads, length_short}
use Rattle.layout.specs.Layout.{Field, reached, read, read_from}
use Rattle.layout.proofs.Makes.{Makes, makes}
use Rattle.deliver.specs.Layout.{fields}
use Rattle.deliver.specs.Deliver.{delivered, format, deliver}
use Rattle.deliver.specs.declared.SmsDeliver.{SmsDeliver}

pub record Fits (m : SmsDeliver) : Type 0 where
  pub address_fits : m.tp_originating_address.address.length ≤ 290
  pub data_fits : m.tp_user_data.length ≤ 255
  pub own : length (filled m.tp_user_data) ≡ data_octets (coding_of m.tp_dcs) m.tp_user_data_length
  pub few : length (filled m.tp_user_data) ≤ 255
  pub udl_few : m.tp_user_data_length ≤ 255

delivered_fits : Makes (λ (m : SmsDeliver) (cs : List Field). Fits m) format
unfolding format fields delivered holding
delivered_fits x hx mti f wf pid hp dcs hd t ot wt udl hu d od wd = record {
  address_fits = rw (canonical_reads f wf) (length_short f wf);
  data_fits = omega (arith, data_at_most (coding_of dcs) udl, wd);
  own = ap length (filled_holding 255 d) ∙ sym wd;
  few = rw (filled_holding 255 d) (omega (arith, data_at_most (coding_of dcs) udl, wd));
  udl_few = omega arith;
}

pub read_fits : (s : List ℕ) → Octets s → (m : SmsDeliver) (n : ℕ) → read deliver s ≡ reached m n → Fits m
unfolding read read_from
read_fits s o m n e = makes _ format delivered_fits s 0 o e
