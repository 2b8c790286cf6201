-- The fuse.
use Rattle.std.specs.Prelude.{Bool, false, not, ◌&&◌, ◌||◌}
use Rattle.guards.specs.declared.fuse.Fuse.{Fuse}

abbrev pub fresh_fuse : Fuse
fresh_fuse = record { wire = false; sample = false; blown = false }

-- every tick with the fuse blown sets the flag
abbrev pub sampled : Fuse → Fuse
sampled f = record f { sample = f.wire; blown = f.blown || f.wire }

abbrev pub with_wire : Fuse → Bool → Fuse
with_wire f wire = record f { wire = wire }

-- it cannot be cleared while the last sample was blown
abbrev pub cleared_fuse : Fuse → Bool → Fuse
cleared_fuse f clear = record f { blown = f.blown && (not clear || f.sample) }
