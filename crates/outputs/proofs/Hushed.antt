-- Outputs that are hushed are at rest.
use Rattle.std.proofs.Common.{◌≡◌, ℕ, true, eqb, List, [], ◌∷◌, sym, refl}
use Rattle.std.specs.List.{list_all}
use Rattle.std.proofs.lemmas.Bool.{and_parts, and_from, true≢false}
use Rattle.outputs.specs.Channels.{is_idle, output, zero, at_rest, unipolar, hushed}
use Rattle.outputs.specs.Modes.{steps}
use Rattle.outputs.specs.declared.channels.Channel.{Channel}
use Rattle.outputs.specs.declared.channels.Outputs.{Outputs}
use Rattle.outputs.specs.declared.mode.Mode.{Mode}
use Rattle.outputs.specs.declared.mode.Mode.TheVariants.{Unipolar, FiveVolts, TenVolts}

no_volts : (m : Mode) (code : ℕ) → unipolar m ≡ true → eqb code 0 ≡ true → zero (steps m code) ≡ true
no_volts Unipolar code u z = z
no_volts FiveVolts code u z = absurd (true≢false (sym u))
no_volts TenVolts code u z = absurd (true≢false (sym u))

idle_rests : (cs : List Channel) → list_all is_idle cs ≡ true → list_all (λ c. zero (output c)) cs ≡ true
idle_rests [] h = refl
idle_rests (c ∷ cs) h =
    let parts = and_parts (is_idle c) _ h in
    let out = and_parts (eqb c.code.value 0) _ (and_parts (eqb c.latch.value 0) _ parts.0).1 in
    and_from _ _ (no_volts c.mode c.code.value out.1 out.0) (idle_rests cs parts.1)

pub hushed_rests : (o : Outputs) → hushed o ≡ true → at_rest o ≡ true
hushed_rests o h = idle_rests o.channels h
