mod Stretches
mod Whole
