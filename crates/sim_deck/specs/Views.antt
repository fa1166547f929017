-- The species that the reader has found, in its text. Not part of what is promised: no public contract cites this.
use Rattle.std.specs.Prelude.{ℕ, List, map}
use Rattle.deck_shape.specs.Names.{name_at}
use Rattle.sim_deck.specs.Species.{GasValues, SurfaceValues}
use Rattle.sim_deck.specs.declared.species.Gas.{Gas}
use Rattle.sim_deck.specs.declared.species.Surface.{Surface}

-- the gas species of a text
abbrev pub gas_at : List ℕ → Gas → GasValues
gas_at text gas = record { names = map (name_at text) gas.names.items; energies = gas.energies.items; fractions = gas.fractions.items }

-- the surface species of a text
abbrev pub surface_at : List ℕ → Surface → SurfaceValues
surface_at text surface = record { names = map (name_at text) surface.names.items; dentates = surface.dentates.items }
