mod Runs
mod InSession
mod Printing
mod Failing
mod Choosing
mod Naming
