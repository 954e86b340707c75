mod Nearest
mod Numbered
mod Ranges
mod PrintedNumbers
