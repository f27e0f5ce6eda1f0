-- The default of the message is the blank record, and that of what reading gives is that of no octets, with nothing replaced.
-- Assumes nothing.
use Prim.Native.Nat.{ℕ}
use mathlib.Core.Path.{◌≡◌, sym, ◌∙◌}
use mathlib.Core.List.{List}
use native.Mathlib.Omega.{arith}
use lib.ListN.{replicate, length-replicate}
use Rattle.std.specs.Array.{AllOfLen}
use Rattle.std.proofs.lemmas.Grind.{same_number_lists}
use Rattle.std.proofs.lemmas.List.{get_or-replicate}
use Rattle.octets.specs.Arrays.{pad}
use Rattle.time.specs.Time.{time_digits}
use Rattle.submit.specs.Submit.{blank, nothing_read}
use Rattle.submit.specs.contracts.SmsSubmitDefault.TheImpl.{ghosts}
use Rattle.submit.specs.contracts.SubmitReadDefault.TheImpl.{ghosts as ghosts_read}
use Rattle.submit.specs.declared.SmsSubmit.{SmsSubmit}
use Rattle.submit.specs.declared.SubmitRead.{SubmitRead}

-- an array of zeros
zeros : (n : ℕ) (xs : List ℕ) → AllOfLen (λ x. x ≡ 0) xs n → xs ≡ replicate n 0
zeros n xs all =
    let long = all.long in
    same_number_lists xs (replicate n 0) (long ∙ sym (length-replicate n 0)) (λ k h. all.at k 0 (omega arith) ∙ sym (get_or-replicate n k 0 0 (omega arith)))

pub default_blank : (r : SmsSubmit) → ghosts.is_default r → r ≡ blank
unfolding blank time_digits pad
default_blank r d =
    let (rp, (udhi, (srr, (mti, (rd, (vpf, (mr, (destination, (pid, (dcs, (period, (digits, (enhanced, (udl, (raw, (header, text)))))))))))))))) = d in
    λ i. record {
      tp_rp = rp i;
      tp_udhi = udhi i;
      tp_srr = srr i;
      tp_mti = mti i;
      tp_rd = rd i;
      tp_vpf = vpf i;
      tp_mr = mr i;
      tp_destination_address = destination i;
      tp_pid = pid i;
      tp_dcs = dcs i;
      tp_validity_period = period i;
      validity_period_digits = digits i;
      validity_period_octets = zeros 7 r.validity_period_octets enhanced i;
      tp_user_data_length = udl i;
      tp_user_data_raw = raw i;
      tp_user_data_header = header i;
      tp_user_data = text i;
    }

pub default_read : (r : SubmitRead) → ghosts_read.is_default r → r ≡ nothing_read
default_read r (message, (octets, replaced)) = λ i. record { message = default_blank r.message message i; octets_read = octets i; replaced_escapes = replaced i }
