-- All outputs of a card.
use Rattle.std.specs.Prelude.{◌≡◌, ℕ, ◌+◌, ◌/◌, Bool, true, false, ◌&&◌, List, map, replicate, ℤ, pos, negsuc, ◌==◌, slice_index_or, slice_set, refl}
use Rattle.std.specs.List.{list_all, range_with_len}
use Rattle.bits.specs.Numbers.{code_of, up_to}
use Rattle.bits.specs.declared.number.UpTo.{UpTo}
use Rattle.outputs.specs.declared.channels.Channel.{Channel}
use Rattle.outputs.specs.declared.channels.Outputs.{Outputs}
use Rattle.outputs.specs.declared.mode.Mode.{Mode}
use Rattle.outputs.specs.declared.mode.Mode.TheVariants.{Unipolar, FiveVolts, TenVolts}
use Rattle.outputs.specs.Modes.{steps, modes_of}

-- codes 0 in mode 0
abbrev pub idle : Channel
idle = record { latch = code_of 0; code = code_of 0; mode = Unipolar }

-- a new card, and a held one
abbrev pub silent : Outputs
silent = record { channels = replicate 8 idle }

-- the latched code goes out
abbrev pub put_out : Channel → Channel
put_out c = record c { code = c.latch }

-- all latched codes go out
abbrev pub updated : Outputs → Outputs
updated o = record { channels = map put_out o.channels }

abbrev latch_at : List Channel → ℕ → UpTo 0xfff → List Channel
latch_at cs n latch = slice_set cs n (record (slice_index_or cs n idle) { latch = latch })

-- the latches of channels n and 4 + n, from the low and the high half of a word
abbrev pub latched : Outputs → ℕ → ℕ → Outputs
latched o n value = record { channels = latch_at (latch_at o.channels n (code_of value)) (4 + n) (code_of (value / 0x10000)) }

abbrev pub in_mode : Channel → Mode → Channel
in_mode c m = record c { mode = m }

-- each of eight channels in the mode that a word names
abbrev pub moded : Outputs → ℕ → Outputs
moded o value = record { channels = map (λ n. in_mode (slice_index_or o.channels n idle) (slice_index_or (modes_of value) n Unipolar)) (range_with_len 0 8) }

abbrev pub modes : Outputs → List Mode
modes o = map (λ c. c.mode) o.channels

abbrev pub output : Channel → ℤ
output c = steps c.mode c.code.value

-- what channel n puts out
abbrev pub volts : Outputs → ℕ → ℤ
volts o n = output (slice_index_or o.channels n idle)

abbrev pub zero : ℤ → Bool
zero (pos n) = n == 0
zero (negsuc n) = false

-- zero volts on all channels
abbrev pub at_rest : Outputs → Bool
at_rest o = list_all (λ c. zero (output c)) o.channels

abbrev pub unipolar : Mode → Bool
unipolar Unipolar = true
unipolar FiveVolts = false
unipolar TenVolts = false

-- nothing is latched or out, in mode 0
abbrev pub is_idle : Channel → Bool
is_idle c = c.latch.value == 0 && (c.code.value == 0 && unipolar c.mode)

abbrev pub hushed : Outputs → Bool
hushed o = list_all is_idle o.channels

pub silent_hushed : hushed silent ≡ true
unfolding up_to
silent_hushed = refl
