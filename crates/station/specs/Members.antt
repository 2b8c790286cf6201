-- The places of a pair whose first member stands at so many places.
use Rattle.std.specs.Prelude.{◌≡◌, ℕ, ◌-◌, ◌<◌, ◌≤◌}
use Rattle.station.specs.declared.member.Member.{Member}
use Rattle.station.specs.declared.member.Member.TheVariants.{First, Second}

-- place k of the pair lies in the first member, or in the second, which counts on from there
abbrev pub Lies : (places k : ℕ) → Member → Type 0
Lies places k (First at) = (k < places) × (at.number ≡ k)
Lies places k (Second at) = (places ≤ k) × (at.number ≡ k - places)
