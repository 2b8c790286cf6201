-- A line's refusal as its record carries it.
use Rattle.std.specs.Prelude.{ℕ, Ok, Err, Result}
use Rattle.bench.specs.Refusals.{number, detail}
use Rattle.bench.specs.declared.refusal.Refusal.TheVariants.{Station}
use Rattle.lines.specs.Lines.{column, number as line_number}
use Rattle.lines.specs.Records.{layer_number}
use Rattle.lines.specs.declared.record.Coded.{Coded}
use Rattle.lines.specs.declared.record.Layer.{Layer}
use Rattle.lines.specs.declared.record.Layer.TheVariants as in_layer
use Rattle.replay.specs.declared.refusal.Refusal.{Refusal}
use Rattle.replay.specs.declared.refusal.Refusal.TheVariants.{Line, Bench}

abbrev pub layer : Refusal → Layer
layer (Line e) = in_layer.Line
layer (Bench (Station place e)) = in_layer.Station
layer (Bench e) = in_layer.Bench

abbrev pub coded : Refusal → Coded
coded (Line e) = record { number = line_number e; layer = layer_number (layer (Line e)); at = column e }
coded (Bench e) = record { number = number e; layer = layer_number (layer (Bench e)); at = detail e }

abbrev pub answer_coded : Result ℕ Refusal → Result ℕ Coded
answer_coded (Ok word) = Ok word
answer_coded (Err e) = Err (coded e)
