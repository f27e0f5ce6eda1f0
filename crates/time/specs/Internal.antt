-- What functions of the codec say to each other of a time: nobody has to believe anything here.
use Rattle.std.specs.Prelude.{ℕ, ◌+◌, ◌*◌, ◌/◌, ◌%◌}

-- the octet whose digits are two decimal digits
abbrev pub decimal_octet : ℕ → ℕ
decimal_octet n = n / 10 + 16 * (n % 10)
