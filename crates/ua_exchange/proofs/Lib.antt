mod Lists
mod Texts
mod Words
mod Held
mod Counting
mod Finding
mod Judging
mod Conversed
