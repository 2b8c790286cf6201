use Rattle.std.proofs.Common.{◌≡◌, ℕ, ◌<◌, ◌≤◌, length, slice_index_or}
use Rattle.outputs.specs.Channels.{idle, in_mode}
use Rattle.outputs.specs.declared.mode.Mode.TheVariants.{Unipolar}
use Rattle.outputs.proofs.channels.Outputs.moded.Given as goal

abbrev pub invariant-loop-n : goal.invariant-loop-n
invariant-loop-n l = record {
  long : length l.channel-items ≡ 8;
  done : (k : ℕ) → k < l.n → slice_index_or l.channel-items k idle ≡ in_mode (slice_index_or l.fn.self.channels k idle) (slice_index_or l.modes k Unipolar);
  left : (k : ℕ) → l.n ≤ k → slice_index_or l.channel-items k idle ≡ slice_index_or l.fn.self.channels k idle;
}
