mod Masks
mod Carries
mod FlagByte
mod Tables
