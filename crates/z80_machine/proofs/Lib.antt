mod AtPc
mod OneTurn
mod Readings
