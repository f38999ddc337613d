mod Values
mod Refusals
mod Openings
