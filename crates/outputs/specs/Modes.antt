-- The range of an output, and what a code puts out in it.
use Rattle.std.specs.Prelude.{ℕ, ◌*◌, ◌/◌, ◌%◌, ◌^◌, Bool, cond, ◌&&◌, List, map, Ok, Err, Result, is_ok, ℤ, pos, ◌-ℤ◌, ◌*ℤ◌, ◌==◌, nat_lt}
use Rattle.std.specs.List.{list_all, range_with_len}
use Rattle.std.specs.Result.{result_unwrap_or}
use Rattle.bits.specs.Words.{digits}
use Rattle.outputs.specs.declared.mode.Mode.{Mode}
use Rattle.outputs.specs.declared.mode.Mode.TheVariants.{Unipolar, FiveVolts, TenVolts}
use Rattle.outputs.specs.declared.mode.UnknownMode.{UnknownMode}

-- the mode that a number names
abbrev pub named : ℕ → Result Mode UnknownMode
named bits = cond (bits == 0) (Ok Unipolar) (cond (bits == 1) (Ok FiveVolts) (cond (bits == 2) (Ok TenVolts) (Err (record { 0 = bits }))))

abbrev pub mode_bits : Mode → ℕ
mode_bits Unipolar = 0
mode_bits FiveVolts = 1
mode_bits TenVolts = 2

-- in steps of 10/4096 V
abbrev pub steps : Mode → ℕ → ℤ
steps Unipolar code = pos code
steps FiveVolts code = pos code -ℤ pos 2048
steps TenVolts code = pos 2 *ℤ (pos code -ℤ pos 2048)

-- two bits for each of eight channels, those of channel c in bits 2c and 2c + 1
abbrev pub pairs : ℕ → List ℕ
pairs value = map (λ c. value / 2 ^ (2 * c) % 4) (range_with_len 0 8)

-- the modes of eight channels; 3 names none, and is not let in
abbrev pub modes_of : ℕ → List Mode
modes_of value = map (λ bits. result_unwrap_or (named bits) TenVolts) (pairs value)

abbrev pub bits_of : List Mode → ℕ
bits_of ms = digits 4 mode_bits ms

-- each of eight channels has a mode, and no other bit stands
abbrev pub modes_allowed : ℕ → Bool
modes_allowed value = nat_lt value 0x10000 && list_all (λ bits. is_ok (named bits)) (pairs value)
