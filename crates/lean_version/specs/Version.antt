-- The version of the C functions: one number for both headers. Assumes nothing.
use Rattle.std.specs.Prelude.{ℕ, ◌+◌, ◌*◌}

-- what a caller was compiled for and must find: 1 had a reply room of 34 bytes, 2 has one of 58; since 3 a request needs an age
abbrev pub interface : ℕ
interface = 3

-- what came to it since and leaves a caller as it was
abbrev pub revision : ℕ
revision = 0

abbrev pub version : ℕ
version = 65536 * interface + revision
