-- The watchdog.
use Rattle.std.specs.Prelude.{ℕ, ◌+◌, ◌-◌, Bool, false, cond, not, ◌&&◌, ◌||◌, Some, None, Option, ◌==◌}
use Rattle.guards.specs.declared.watchdog.Control.{Control}
use Rattle.guards.specs.declared.watchdog.Watchdog.{Watchdog}

abbrev pub fresh_watchdog : Watchdog
fresh_watchdog = record { count = 0; preload = 0; enabled = false; active = false; selected = false; output = false; rose = false }

-- the count and the output, and with them the rise
abbrev turned : Watchdog → ℕ → Bool → Bool → Watchdog
turned w n output rose = record w { count = n; output = output; rose = rose }

-- a tick: at 0 an enabled watchdog toggles its output and reloads, else it goes down by one; a rise is kept
abbrev pub ran : Watchdog → Watchdog
ran w = cond w.enabled
    (cond (w.count == 0) (turned w w.preload (not w.output) (w.rose || not w.output)) (turned w (w.count - 1) w.output w.rose))
    w

abbrev pub with_preload : Watchdog → ℕ → Watchdog
with_preload w p = record w { preload = p }

-- a load puts the output low and reloads
abbrev pub loaded : Watchdog → Bool → Watchdog
loaded w load = cond load (turned w w.preload false w.rose) w

-- the control bits are stored, then a load is made
abbrev pub controlled : Watchdog → Control → Watchdog
controlled w c = loaded (record w { enabled = c.enabled; active = c.active; selected = c.selected }) c.load

abbrev pub cleared_rise : Watchdog → Bool → Watchdog
cleared_rise w clear = turned w w.count w.output (w.rose && not clear)

abbrev pub armed : Watchdog → Bool
armed w = w.enabled && w.active && not w.output && not w.rose

-- an armed watchdog rises when its count has run down, and one tick more
abbrev pub due : Watchdog → Option ℕ
due w = cond (armed w) (Some (w.count + 1)) None
