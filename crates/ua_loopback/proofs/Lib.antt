pub mod Saying
mod Clocks
pub mod Stepped
mod Pieces
mod Lines
pub mod Reaching
mod Ending
mod Untaken
pub mod Opened
pub mod Answering
mod Staying
pub mod Replying
mod RenewedTaken
pub mod Renewed
mod Rounds
mod Talks
mod OneTurn
mod Faults
mod Sounds
mod Refused
mod Begun
pub mod Pushes
mod Courses
mod Failing
mod Outcomes
mod Fitting
mod Calling
mod Sessions
