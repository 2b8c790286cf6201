-- The services of the sixteen places.
use Rattle.std.specs.Prelude.{ℕ, Bool, false, replicate, Some, None, Option, ◌==◌, slice_index_or, slice_set, refl}
use Rattle.std.proofs.Common.{◌∙◌, length-set}
use Rattle.bench.specs.declared.services.Services.{Services}

unfoldable pub no_service : Services
no_service = record { each = replicate 16 None; sixteen = refl }

-- the bits of the service that is open at a place
unfoldable pub service : Services → ℕ → Option ℕ
service t p = slice_index_or t.each p None

-- a service is open, with these bits
abbrev pub same_service : Option ℕ → ℕ → Bool
same_service None bits = false
same_service (Some stands) bits = stands == bits

-- the services after that of a place is opened or ended
unfoldable pub with_service : Services → ℕ → Option ℕ → Services
with_service t p o = record { each = slice_set t.each p o; sixteen = length-set t.each p o ∙ t.sixteen }
