use Rattle.std.proofs.Common.{◌≡◌, ℕ, length}
use Rattle.encoder.specs.declared.channel.Encoder.{Encoder}
use Rattle.encoder.specs.Each.{Does, each}
use Rattle.encoder.proofs.Each.{Sofar}
use Rattle.encoder.proofs.eight.each.Given as goal

abbrev pub invariant-loop-n : goal.invariant-loop-n
invariant-loop-n g l =
    (length l.encoders ≡ 8) × ((f : ℕ → Encoder → Encoder) → Does (goal.F-post g l.change) f → Sofar f (each f 0 l.initial.encoders) l.n l.encoders)
