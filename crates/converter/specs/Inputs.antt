-- Four analog inputs.
use Rattle.std.specs.Prelude.{ℕ, Bool, cond, replicate, slice_set}
use Rattle.converter.specs.Chips.{fresh, on}
use Rattle.converter.specs.declared.chip.Event.TheVariants.{Start}
use Rattle.converter.specs.declared.inputs.Inputs.{Inputs}

abbrev pub fresh_inputs : Inputs
fresh_inputs = record { chip = fresh; select = 0; wires = replicate 4 0 }

-- the code at wire n
abbrev pub with_wire : Inputs → ℕ → ℕ → Inputs
with_wire i n code = record i { wires = slice_set i.wires n code }

-- the selection is stored, then a start converts it as the wires stand
abbrev pub controlled : Inputs → ℕ → Bool → Inputs
controlled i select start = record i { chip = cond start (on i.chip (Start select i.wires)) i.chip; select = select }
