-- A test of a range, and a flag in an octet. A choice by a test is the library's `if◌then◌else◌`.
use Rattle.std.specs.Prelude.{ℕ, Bool, true, false, ◌&&◌, leb}

-- from lo to hi
abbrev pub within : ℕ → ℕ → ℕ → Bool
within lo hi n = leb lo n && leb n hi

-- a flag as its weight in an octet
abbrev pub flag : Bool → ℕ → ℕ
flag true weight = weight
flag false weight = 0

-- a length that counts: that of an absent part doesn't
abbrev pub length_if : Bool → ℕ → ℕ
length_if true n = n
length_if false n = 0
