-- The digital port.
use Rattle.std.specs.Prelude.{ℕ, ◌-◌, bit_and, bit_or}
use Rattle.guards.specs.declared.port.Port.{Port}

abbrev pub fresh_port : Port
fresh_port = record { latch = 0; direction = 0; wires = 0xffffffff }

-- the wire of an input, the latch of an output
abbrev pub seen : Port → ℕ
seen p = bit_or (bit_and p.wires (0xffffffff - p.direction)) (bit_and p.latch p.direction)

abbrev pub with_latch : Port → ℕ → Port
with_latch p latch = record p { latch = latch }

abbrev pub with_direction : Port → ℕ → Port
with_direction p direction = record p { direction = direction }

abbrev pub with_wires : Port → ℕ → Port
with_wires p wires = record p { wires = wires }
