mod Words
mod Decimals
mod Moments
