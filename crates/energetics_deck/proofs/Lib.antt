mod SoundParts
mod SoundVariants
