mod BodyParts
mod CommonParts
mod GasPairs
mod SoundChanges
mod SoundParts
mod SoundVariants
