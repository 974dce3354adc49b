-- Signed numbers and coordinates, as document 01 has them. negsuc k is the number -(k + 1).
--     signed h n        n of a field whose sign bit is h (32768 for 16 bits, 2147483648 for 32), read as signed: n, or n - 2h from h on
--     signed16, signed32
--     floor_div z m      z divided by m and rounded down
--     value_of raw       the value of a raw coordinate in 0.01 mm: the signed number divided by 256 and rounded down
--     unmarked raw      the raw coordinate with its low 8 bits, the marks, zero
use Rattle.std.specs.Prelude.{ℕ, ◌-◌, ◌*◌, ◌/◌, cond, ltb, ℤ, pos, negsuc}

unfoldable pub signed : ℕ → ℕ → ℤ
signed h n = cond (ltb n h) (pos n) (negsuc (2 * h - 1 - n))

abbrev pub signed16 : ℕ → ℤ
signed16 n = signed 32768 n

abbrev pub signed32 : ℕ → ℤ
signed32 n = signed 2147483648 n

abbrev pub floor_div : ℤ → ℕ → ℤ
floor_div (pos a) m = pos (a / m)
floor_div (negsuc a) m = negsuc (a / m)

unfoldable pub value_of : ℕ → ℤ
value_of raw = floor_div (signed32 raw) 256

unfoldable pub unmarked : ℕ → ℕ
unmarked raw = raw / 256 * 256
