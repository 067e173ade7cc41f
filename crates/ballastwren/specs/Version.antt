-- Trusted. The version of the library, by its three numbers and as one.
use Rattle.std.specs.Prelude.{ℕ, ◌+◌, ◌*◌}

-- as in include/ballastwren.h
abbrev pub major : ℕ
major = 0

abbrev pub minor : ℕ
minor = 7

abbrev pub patch : ℕ
patch = 0

abbrev pub version : ℕ
version = major * 10000 + minor * 100 + patch
